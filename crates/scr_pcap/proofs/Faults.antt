-- What is wrong with a rest, from what was read of it.
use Rattle.std.proofs.Common.{◌≡◌, ◌≢◌, ◌⊎◌, ℕ, ◌+◌, ◌≤◌, ◌<◌, true, false, List, [], ◌++◌, length, ◌==◌, nat_lt, refl, sym, ap, ◌∙◌, inl, inr, arith, rules, tests}
use Rattle.std.specs.Prelude.{Option, Some, None, IfSome}
use Rattle.std.specs.Io.KnownBytes.{Consumes}
use Rattle.std.proofs.lemmas.Bool.{cases_lt}
use Rattle.std.proofs.lemmas.List.{length-append, append-nil}
use Rattle.scr_pcap.specs.declared.error.CaptureError.{CaptureError}
use Rattle.scr_pcap.specs.declared.error.CaptureError.TheVariants.{ShortRecord, TooMany}
use Rattle.scr_pcap.specs.declared.format.Format.{Format}
use Rattle.scr_pcap.specs.Records.{RECORDS, CAPTURED, NoRecord, IsFaultyRest, captured_in, rest_fault}
use Rattle.scr_pcap.proofs.FirstBytes.{captured_in-append, rest_fault-append}
use Rattle.scr_pcap.proofs.Front.{NoRecord-from_short, NoRecord-from_long, NoRecord-from_cut}

-- a test that fails at the first bytes
abbrev pub HeaderFails : Format → ℕ → List ℕ → Type 0
HeaderFails format taken first = (taken ≡ RECORDS) ⊎ ((length first < 16) ⊎ (CAPTURED < captured_in format first))

greatest-from_header : (format : Format) (taken : ℕ) (first behind : List ℕ) → 16 ≤ length first → HeaderFails format taken first
    → (taken ≡ RECORDS) ⊎ NoRecord format (first ++ behind)
greatest-from_header format taken first behind enough fails =
    elim fails [
      | inl many ↦ inl many
      | inr rest ↦ elim rest [
        | inl short ↦ absurd (omega arith)
        | inr long ↦ inr (NoRecord-from_long format (first ++ behind) (let e = captured_in-append format first behind enough in omega arith))
      ]
    ]

pub IsFaultyRest-from_header : (format : Format) (taken : ℕ) (first behind : List ℕ) (fault : CaptureError)
    → 0 < length first → (length first < 16 → behind ≡ []) → HeaderFails format taken first → fault ≡ rest_fault format taken first
    → IsFaultyRest format taken (first ++ behind) fault
IsFaultyRest-from_header format taken first behind fault some last fails told =
    let count = length-append first behind in
    let more : first ++ behind ≢ [] = λ none. let e : length (first ++ behind) ≡ 0 = ap length none in omega arith in
    elim (cases_lt (length first) 16) [
      | inl short ↦
          let alone : first ++ behind ≡ first = ap (λ (t : List ℕ). first ++ t) (last short) ∙ append-nil first in
          record {
            more = more;
            greatest = inr (NoRecord-from_short format (first ++ behind) (let e = ap length alone in omega arith));
            first_test = told ∙ sym (ap (rest_fault format taken) alone);
          }
      | inr enough ↦ record {
        more = more;
        greatest = greatest-from_header format taken first behind enough fails;
        first_test = told ∙ sym (rest_fault-append format taken first behind enough);
      }
    ]

-- a header whose content is cut
pub IsFaultyRest-from_cut : (format : Format) (taken : ℕ) (header content : List ℕ)
    → length header ≡ 16 → captured_in format header ≤ CAPTURED → taken < RECORDS → length content < captured_in format header
    → IsFaultyRest format taken (header ++ content) (ShortRecord (taken + 1))
unfolding rest_fault
IsFaultyRest-from_cut format taken header content sixteen within few cut =
    let enough : 16 ≤ length header = omega arith in
    let count = length-append header content in
    let captured = captured_in-append format header content enough in
    let few_taken : (taken == RECORDS) ≡ false = search (rules, tests) in
    let whole_header : nat_lt (length header) 16 ≡ false = search (rules, tests) in
    let not_long : nat_lt CAPTURED (captured_in format header) ≡ false = search (rules, tests) in
    record {
      more = λ none. let e : length (header ++ content) ≡ 0 = ap length none in omega arith;
      greatest = inr (NoRecord-from_cut format (header ++ content) (omega arith));
      first_test = sym (rest_fault-append format taken header content enough ∙ rw (few_taken, whole_header, not_long) refl);
    }

-- a byte behind the last record that is taken
pub IsFaultyRest-from_byte : (format : Format) (taken : ℕ) (old new : Option (List ℕ)) (first : List ℕ) → taken ≡ RECORDS → 0 < length first
    → Consumes old new first → IfSome old (λ bytes. IsFaultyRest format taken bytes (TooMany RECORDS))
unfolding rest_fault
IsFaultyRest-from_byte format taken None new first all some took = tt
IsFaultyRest-from_byte format taken (Some bytes) None first all some took = absurd took
IsFaultyRest-from_byte format taken (Some bytes) (Some rest) first all some took =
    let e = ap length took ∙ length-append first rest in
    let full : (taken == RECORDS) ≡ true = search (rules, tests) in
    record {
      more = λ none. let z : length bytes ≡ 0 = ap length none in omega arith;
      greatest = inl all;
      first_test = rw full refl;
    }
