-- What a header tells doesn't change when bytes follow it.
use Rattle.std.proofs.Common.{◌≡◌, ℕ, ◌+◌, ◌≤◌, ◌%◌, ◌^◌, false, ◌&&◌, not, List, ◌++◌, length, drop, Option, Some, None, Result, Ok, Err, ◌==◌, nat_lt, if◌then◌else◌, refl, ap, ◌∙◌, arith, rules, tests}
use Rattle.std.proofs.lemmas.List.{drop-append-le, length-drop, length-append}
use Rattle.std.specs.Option.{option_map, option_or}
use Rattle.byteorder.specs.Numbers.{little_from-append, big_from-append}
use Rattle.scr_pcap.specs.declared.error.CaptureError.{CaptureError}
use Rattle.scr_pcap.specs.declared.error.CaptureError.TheVariants.{Version, LinkType, ShortRecord, LongRecord, TooMany}
use Rattle.scr_pcap.specs.declared.format.Format.{Format}
use Rattle.scr_pcap.specs.declared.format.Order.{Order}
use Rattle.scr_pcap.specs.declared.format.Order.TheVariants.{Little, Big}
use Rattle.scr_pcap.specs.Header.{number, number_at, fraction_of, format_in, format_of, header_in, header_of}
use Rattle.scr_pcap.specs.Records.{RECORDS, CAPTURED, time_in, captured_in, rest_fault}

pub number-append : (order : Order) (n : ℕ) (first behind : List ℕ) → n ≤ length first → number order n (first ++ behind) ≡ number order n first
number-append Little n first behind h = little_from-append n first behind h
number-append Big n first behind h = big_from-append n first behind h

pub number_at-append : (order : Order) (place n : ℕ) (first behind : List ℕ) → place + n ≤ length first
    → number_at order place n (first ++ behind) ≡ number_at order place n first
number_at-append order place n first behind h =
    ap (number order n) (drop-append-le place first behind (omega arith))
    ∙ number-append order n (drop place first) behind (omega (arith, length-drop place first))

pub captured_in-append : (format : Format) (first behind : List ℕ) → 16 ≤ length first → captured_in format (first ++ behind) ≡ captured_in format first
captured_in-append format first behind h = number_at-append format.order 8 4 first behind (omega arith)

pub time_in-append : (format : Format) (first behind : List ℕ) → 16 ≤ length first → time_in format (first ++ behind) ≡ time_in format first
time_in-append format first behind h =
    rw (number_at-append format.order 0 4 first behind (omega arith), number_at-append format.order 4 4 first behind (omega arith)) refl

format_in-append : (order : Order) (first behind : List ℕ) → 4 ≤ length first → format_in order (first ++ behind) ≡ format_in order first
format_in-append order first behind h =
    ap (λ (magic : ℕ). option_map (λ fraction. record { order = order; fraction = fraction }) (fraction_of magic)) (number_at-append order 0 4 first behind h)

format_of-append : (first behind : List ℕ) → 4 ≤ length first → format_of (first ++ behind) ≡ format_of first
unfolding format_of
format_of-append first behind h =
    ap (λ (format : Option Format). option_or format (format_in Big (first ++ behind))) (format_in-append Little first behind h)
    ∙ ap (option_or (format_in Little first)) (format_in-append Big first behind h)

tests-append : (format : Option Format) (first behind : List ℕ) → 24 ≤ length first → header_in format (first ++ behind) ≡ header_in format first
tests-append None first behind h = refl
tests-append (Some format) first behind h =
    let test : ℕ → ℕ → ℕ → Result Format CaptureError = λ major minor link.
    if not ((major == 2) && (minor == 4)) then Err Version else (if not (link % 2 ^ 16 == 1) then Err LinkType else Ok format) in
    let number = number_at format.order in
    ap (λ (n : ℕ). test n (number 6 2 (first ++ behind)) (number 20 4 (first ++ behind))) (number_at-append format.order 4 2 first behind (omega arith))
    ∙ ap (λ (n : ℕ). test (number 4 2 first) n (number 20 4 (first ++ behind))) (number_at-append format.order 6 2 first behind (omega arith))
    ∙ ap (test (number 4 2 first) (number 6 2 first)) (number_at-append format.order 20 4 first behind (omega arith))

pub header_of-append : (first behind : List ℕ) → 24 ≤ length first → header_of (first ++ behind) ≡ header_of first
unfolding header_of
header_of-append first behind h =
    let count = length-append first behind in
    let whole : nat_lt (length (first ++ behind)) 24 ≡ false = search (rules, tests) in
    let enough : nat_lt (length first) 24 ≡ false = search (rules, tests) in
    rw (whole, enough) (ap (λ (format : Option Format). header_in format (first ++ behind)) (format_of-append first behind (omega arith)) ∙ tests-append (format_of first) first behind h)

pub rest_fault-append : (format : Format) (taken : ℕ) (first behind : List ℕ) → 16 ≤ length first → rest_fault format taken (first ++ behind) ≡ rest_fault format taken first
unfolding rest_fault
rest_fault-append format taken first behind h =
    let count = length-append first behind in
    let whole : nat_lt (length (first ++ behind)) 16 ≡ false = search (rules, tests) in
    let enough : nat_lt (length first) 16 ≡ false = search (rules, tests) in
    let test : ℕ → CaptureError = λ captured.
    if taken == RECORDS then TooMany RECORDS else (if nat_lt CAPTURED captured then LongRecord (taken + 1) captured else ShortRecord (taken + 1)) in
    rw (whole, enough) (ap test (captured_in-append format first behind h))
