-- The pieces of a list of delays, read one after another.
use Rattle.std.proofs.Common.{◌≡◌, ◌≢◌, ℕ, suc, ◌+◌, ◌<◌, ◌≤◌, List, [], ◌∷◌, ◌++◌, length, get_or, take, map, Bool, true, false, cond, eqb, leb, min, ◌-◌, ◌^◌, ◌&&◌, Result, Ok, Err, inl, inr, arith, refl, sym, ap, ◌∙◌, subst}
use Rattle.std.specs.List.{list_any}
use Rattle.std.specs.Result.{IsOk}
use Rattle.std.proofs.lemmas.Bool.{cases_lt}
use Rattle.std.proofs.lemmas.Bool.Decides.{nat_tests}
use Rattle.std.proofs.lemmas.List.{get_or_default, get_or_append_left, get_or_push, length_push, take_more, map-append, length-take-le, length-map, get_or-map, get_or-take}
use Rattle.std.proofs.lemmas.List.Folds.{list_any_at}
use Rattle.scr_base.specs.Numbers.{is_number, number_of}
use Rattle.scr_plan.specs.Drops.{most_ranges}
use Rattle.scr_plan.specs.Delays.{IsDelay, IsDelayList}
use Rattle.scr_plan.specs.Spelling.{pieces_of, has_byte, in_front, behind, place_of}
use Rattle.scr_plan.specs.DelaySpelling.{has_zero, has_large, named_frame, delay_with, delay_read, delay_read_at, SpellsDelays, IsDelayRefused}
use Rattle.scr_plan.specs.declared.delays.FrameDelay.{FrameDelay}
use Rattle.scr_plan.specs.declared.reading_delays.DelayCause.{DelayCause}
use Rattle.scr_plan.specs.declared.reading_delays.DelayCause.TheVariants.{Digit, Zero, TooLarge, Twice, Pieces}

-- the frames of these delays
abbrev pub frames_of : List FrameDelay → List ℕ
frames_of delays = map (λ it. it.frame) delays

-- these delays are what the first pieces read as
abbrev pub ReadsTo : List ℕ → List FrameDelay → Type 0
ReadsTo text delays = (i : ℕ) (d : FrameDelay) → i < length delays → delay_read_at text i ≡ Ok (get_or delays i d)

-- the piece at a place, whatever stands past the end
delay_read_at-piece : (text piece : List ℕ) (i : ℕ) → i < length (pieces_of text) → piece ≡ get_or (pieces_of text) i piece
    → delay_read_at text i ≡ delay_read (map named_frame (take i (pieces_of text))) piece
delay_read_at-piece text piece i below same =
    ap (delay_read (map named_frame (take i (pieces_of text)))) (get_or_default (pieces_of text) i [] piece below ∙ sym same)

-- one piece more
pub ReadsTo-more : (text : List ℕ) (delays : List FrameDelay) (piece : List ℕ) (delay : FrameDelay) (k : ℕ)
    → length delays ≡ k → k < length (pieces_of text) → piece ≡ get_or (pieces_of text) k piece
    → frames_of delays ≡ map named_frame (take k (pieces_of text)) → Ok delay ≡ delay_read (frames_of delays) piece
    → ReadsTo text delays → ReadsTo text (delays ++ delay ∷ [])
ReadsTo-more text delays piece delay k count below same named read before = λ i d within.
    elim (cases_lt i (length delays)) [
      | inl front ↦ before i d front ∙ ap Ok (sym (get_or_append_left delays (delay ∷ []) d i front))
      | inr back ↦ (
          let at : k ≡ i = omega (arith, length_push delays delay) in
          let here : delay_read_at text k ≡ Ok delay =
          delay_read_at-piece text piece k below same ∙ ap (λ (ns : List ℕ). delay_read ns piece) (sym named) ∙ sym read in
          let there : get_or (delays ++ delay ∷ []) i d ≡ delay = get_or_push delays delay d i (count ∙ at) in
          ap (delay_read_at text) (sym at) ∙ here ∙ ap Ok (sym there))
    ]

-- the first piece that is refused
pub IsDelayRefused-here : (text : List ℕ) (delays : List FrameDelay) (piece : List ℕ) (cause : DelayCause) (place k : ℕ)
    → 0 < length text → length delays ≡ k → k < length (pieces_of text) → piece ≡ get_or (pieces_of text) k piece
    → frames_of delays ≡ map named_frame (take k (pieces_of text)) → Err cause ≡ delay_read (frames_of delays) piece
    → ReadsTo text delays → place ≡ place_of text k → IsDelayRefused text cause place
IsDelayRefused-here text delays piece cause place k some count below same named read before at = record {
  some = some;
  faulty = k;
  within = below;
  before = λ i front.
      let d : FrameDelay = record { frame = 0; steps = 0 } in
      let is : delay_read_at text i ≡ Ok (get_or delays i d) = before i d (omega arith) in
      subst IsOk (sym is) refl;
  why = delay_read_at-piece text piece k below same ∙ ap (λ (ns : List ℕ). delay_read ns piece) (sym named) ∙ sym read;
  where_it_stands = at;
}

-- all pieces were read
pub SpellsDelays-all : (text : List ℕ) (delays : List FrameDelay) → 0 < length text → length delays ≡ length (pieces_of text)
    → ReadsTo text delays → SpellsDelays text delays
SpellsDelays-all [] delays some count reads = absurd (omega arith)
SpellsDelays-all (byte ∷ text) delays some count reads = record { count = count; each = reads }

refused-unless : (b : Bool) (cause : DelayCause) (rest : Result FrameDelay DelayCause) (delay : FrameDelay)
    → cond b (Err cause) rest ≡ Ok delay → (b ≡ false) × (rest ≡ Ok delay)
refused-unless true cause rest delay same = absurd cc
refused-unless false cause rest delay same = (refl, same)

refused-if : (b : Bool) (cause : DelayCause) (rest : Result FrameDelay DelayCause) (delay : FrameDelay)
    → cond b rest (Err cause) ≡ Ok delay → rest ≡ Ok delay
refused-if true cause rest delay same = same
refused-if false cause rest delay same = absurd cc

Ok-same : (a b : FrameDelay) (x y : Result FrameDelay DelayCause) → x ≡ Ok a → y ≡ Ok b → x ≡ y → a ≡ b
Ok-same a b x y is_a is_b same = cc

-- a piece that reads as a delay has its numbers within bounds, names no earlier frame, and has fewer than 256 pieces
-- before it
record IsRead (earlier : List ℕ) (frame steps : ℕ) (delay : FrameDelay) : Type 0 where
  is : IsDelay delay
  fresh : list_any (λ n. eqb n frame) earlier ≡ false
  few : length earlier < most_ranges
  its_frame : frame ≡ delay.frame

IsDelay-named : (frame steps : ℕ) → has_zero frame steps ≡ false → has_large frame steps ≡ false → IsDelay (record { frame = frame; steps = steps })
IsDelay-named frame steps some small = record {
  frame = grind (arith, nat_tests);
  frame_above = grind (arith, nat_tests);
  steps = grind (arith, nat_tests);
  steps_above = grind (arith, nat_tests);
}

with-read : (earlier : List ℕ) (frame steps : ℕ) (delay : FrameDelay) → delay_with earlier frame steps ≡ Ok delay → IsRead earlier frame steps delay
with-read earlier frame steps delay read =
    let it : FrameDelay = record { frame = frame; steps = steps } in
    let few_of : Result FrameDelay DelayCause = cond (leb most_ranges (length earlier)) (Err Pieces) (Ok it) in
    let fresh_of : Result FrameDelay DelayCause = cond (list_any (λ n. eqb n frame) earlier) (Err Twice) few_of in
    let small_of : Result FrameDelay DelayCause = cond (has_large frame steps) (Err TooLarge) fresh_of in
    let zero_free = refused-unless (has_zero frame steps) Zero small_of delay read in
    let small = refused-unless (has_large frame steps) TooLarge fresh_of delay zero_free.1 in
    let fresh = refused-unless (list_any (λ n. eqb n frame) earlier) Twice few_of delay small.1 in
    let few = refused-unless (leb most_ranges (length earlier)) Pieces (Ok it) delay fresh.1 in
    let is : it ≡ delay = Ok-same it delay (Ok it) (Ok delay) refl refl few.1 in
    let d : leb most_ranges (length earlier) ≡ false = few.0 in
    record {
      is = subst IsDelay is (IsDelay-named frame steps zero_free.0 small.0);
      fresh = fresh.0;
      few = grind (arith, nat_tests, d);
      its_frame = ap (λ (x : FrameDelay). x.frame) is;
    }

-- a number of more than 64 bits counts as the greatest of them
same_causes : (z z′ l l′ : Bool) (r r′ : Result FrameDelay DelayCause) → z ≡ z′ → l ≡ l′ → (z′ ≡ false → l′ ≡ false → r ≡ r′)
    → cond z (Err Zero) (cond l (Err TooLarge) r) ≡ cond z′ (Err Zero) (cond l′ (Err TooLarge) r′)
same_causes true true l l′ r r′ p q same = refl
same_causes false false true true r r′ p q same = refl
same_causes false false false false r r′ p q same = same refl refl
same_causes true false l l′ r r′ p q same = absurd cc
same_causes false true l l′ r r′ p q same = absurd cc
same_causes false false true false r r′ p q same = absurd cc
same_causes false false false true r r′ p q same = absurd cc

pub with_capped : (earlier : List ℕ) (frame steps : ℕ)
    → delay_with earlier (min frame (2 ^ 64 - 1)) (min steps (2 ^ 64 - 1)) ≡ delay_with earlier frame steps
with_capped earlier frame steps =
    let greatest : ℕ = 2 ^ 64 - 1 in
    same_causes (has_zero (min frame (2 ^ 64 - 1)) (min steps (2 ^ 64 - 1))) (has_zero frame steps)
    (has_large (min frame (2 ^ 64 - 1)) (min steps (2 ^ 64 - 1))) (has_large frame steps) _ _
    (grind (arith, nat_tests)) (grind (arith, nat_tests))
    (λ some small.
    let a : min frame (2 ^ 64 - 1) ≡ frame = grind (arith, nat_tests) in
    let b : min steps (2 ^ 64 - 1) ≡ steps = grind (arith, nat_tests) in
    let then : ℕ → ℕ → Result FrameDelay DelayCause = λ f s.
    cond (list_any (λ n. eqb n f) earlier) (Err Twice)
    (cond (leb most_ranges (length earlier)) (Err Pieces) (Ok (record { frame = f; steps = s }))) in
    ap (λ (f : ℕ). then f (min steps (2 ^ 64 - 1))) a ∙ ap (then frame) b)

delay-read : (earlier piece : List ℕ) (delay : FrameDelay) → delay_read earlier piece ≡ Ok delay
    → IsRead earlier (named_frame piece) (number_of (behind 58 piece)) delay
delay-read earlier piece delay read =
    with-read earlier (named_frame piece) (number_of (behind 58 piece)) delay
    (refused-if (is_number (in_front 58 piece) && is_number (behind 58 piece)) Digit _ delay
    (refused-if (has_byte 58 piece) Digit _ delay (refused-unless _ _ _ delay read).1))

-- the frames of what was read are those that the pieces name
pub names-more : (text : List ℕ) (delays : List FrameDelay) (piece : List ℕ) (delay : FrameDelay) (k : ℕ)
    → k < length (pieces_of text) → piece ≡ get_or (pieces_of text) k piece
    → frames_of delays ≡ map named_frame (take k (pieces_of text)) → Ok delay ≡ delay_read (frames_of delays) piece
    → frames_of (delays ++ delay ∷ []) ≡ map named_frame (take (k + 1) (pieces_of text))
names-more text delays piece delay k below same named read =
    let is = delay-read (frames_of delays) piece delay (sym read) in
    map-append (λ (it : FrameDelay). it.frame) delays (delay ∷ [])
    ∙ ap (λ (ns : List ℕ). ns ++ delay.frame ∷ []) named
    ∙ ap (λ (n : ℕ). map named_frame (take k (pieces_of text)) ++ n ∷ []) (sym is.its_frame ∙ ap named_frame same)
    ∙ sym (map-append named_frame (take k (pieces_of text)) (get_or (pieces_of text) k piece ∷ []))
    ∙ ap (map named_frame) (sym (take_more (pieces_of text) k piece below))

few-from_reads : (text : List ℕ) (delays : List FrameDelay) → length delays ≡ length (pieces_of text) → ReadsTo text delays → length delays ≤ most_ranges
few-from_reads text [] count reads = omega arith
few-from_reads text (delay ∷ delays) count reads =
    let more : length (delay ∷ delays) ≡ suc (length delays) = refl in
    let k : ℕ = length delays in
    let all : List ℕ = map named_frame (take k (pieces_of text)) in
    let last = delay-read all (get_or (pieces_of text) k []) (get_or (delay ∷ delays) k delay) (reads k delay (omega (arith, more))) in
    let len : length all ≡ k = length-map (take k (pieces_of text)) named_frame ∙ length-take-le k (pieces_of text) (omega (arith, count, more)) in
    omega (arith, more, len, last.few)

-- the frame that a piece named is the frame of what was read there
frame-at : (text : List ℕ) (delays : List FrameDelay) (i : ℕ) (d : FrameDelay) → ReadsTo text delays → i < length delays
    → (get_or delays i d).frame ≡ named_frame (get_or (pieces_of text) i [])
frame-at text delays i d reads within =
    let is = delay-read (map named_frame (take i (pieces_of text))) (get_or (pieces_of text) i []) (get_or delays i d) (reads i d within) in
    sym is.its_frame

once-from_reads : (text : List ℕ) (delays : List FrameDelay) → length delays ≡ length (pieces_of text) → ReadsTo text delays
    → (i j : ℕ) (d : FrameDelay) → i < j → j < length delays → (get_or delays i d).frame ≢ (get_or delays j d).frame
once-from_reads text delays count reads i j d order within same =
    let pieces : List (List ℕ) = pieces_of text in
    let all : List ℕ = map named_frame (take j pieces) in
    let number : ℕ = named_frame (get_or pieces j []) in
    let is = delay-read all (get_or pieces j []) (get_or delays j d) (reads j d within) in
    let len : length (take j pieces) ≡ j = length-take-le j pieces (omega (arith, count)) in
    let count_all : length all ≡ j = length-map (take j pieces) named_frame ∙ len in
    let here : get_or all i 0 ≡ number =
    get_or-map named_frame (take j pieces) i [] 0 (omega (arith, len))
    ∙ ap named_frame (get_or-take j pieces i [] order)
    ∙ sym (frame-at text delays i d reads (omega arith)) ∙ same ∙ frame-at text delays j d reads within in
    let found : list_any (λ n. eqb n number) all ≡ true =
    list_any_at (λ (n : ℕ). eqb n number) all i 0 (omega (arith, count_all)) (grind (arith, nat_tests, here)) in
    let none : list_any (λ n. eqb n number) all ≡ false = is.fresh in
    cc

-- what a text spells is a list of delays
IsDelayList-from_reads : (text : List ℕ) (delays : List FrameDelay) → length delays ≡ length (pieces_of text) → ReadsTo text delays → IsDelayList delays
IsDelayList-from_reads text delays count reads = record {
  each = λ i d within.
      (delay-read (map named_frame (take i (pieces_of text))) (get_or (pieces_of text) i []) (get_or delays i d) (reads i d within)).is;
  few = few-from_reads text delays count reads;
  once = once-from_reads text delays count reads;
}

pub IsDelayList-none : IsDelayList []
IsDelayList-none = record {
  each = λ i d within. absurd (omega arith);
  few = omega arith;
  once = λ i j d order within. absurd (omega arith);
}

pub IsDelayList-from_SpellsRanges : (text : List ℕ) (delays : List FrameDelay) → SpellsDelays text delays → IsDelayList delays
IsDelayList-from_SpellsRanges [] delays spells = subst IsDelayList (sym spells) IsDelayList-none
IsDelayList-from_SpellsRanges (byte ∷ text) delays spells = IsDelayList-from_reads (byte ∷ text) delays spells.count spells.each
