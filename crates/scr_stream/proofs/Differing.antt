-- Whether a frame differs from earlier ones, by the rows that were kept of them.
use Rattle.std.proofs.Common.{◌≡◌, ◌≢◌, ℕ, zero, suc, ◌+◌, ◌-◌, ◌<◌, ◌≤◌, Bool, true, false, ◌||◌, List, length, Option, Some, None, refl, sym, ap, ◌∙◌, arith}
use Rattle.std.specs.Prelude.{map, unwrap_or}
use Rattle.std.specs.List.{list_any, range_with_len, slice_get}
use Rattle.std.proofs.lemmas.List.Folds.{list_any-append}
use Rattle.scr_base.specs.declared.row.Row.{Row}
use Rattle.scr_plan.proofs.FromOne.{range-append}
use Rattle.scr_stream.specs.Frames.{StreamFrame, carried_row, row_in, last_number}
use Rattle.scr_stream.specs.Tests.{clash, differs}
use Rattle.scr_stream.specs.Reading.{no_row}
use Rattle.scr_stream.specs.Taken.{StandsFor}
use Rattle.scr_stream.proofs.Ranges.{any-same, any-none}
use Rattle.scr_stream.proofs.RowsOfFrames.{carried-before}

clash-none : (o : Option Row) → clash o None ≡ false
clash-none None = refl
clash-none (Some row) = refl

clash-nothing : (a b : Option Row) → a ≡ None → clash a b ≡ false
clash-nothing None b none = refl
clash-nothing (Some row) b none = absurd cc

pub got : (f : ℕ → Row) (a n i : ℕ) → i < n → slice_get (map f (range_with_len a n)) i ≡ Some (f (a + i))
got f a zero i below = absurd (omega arith)
got f a (suc n) zero below = let at : a ≡ a + 0 = omega arith in ap (λ (k : ℕ). Some (f k)) at
got f a (suc n) (suc i) below =
    let at : (a + 1) + i ≡ a + suc i = omega arith in
    got f (a + 1) n i (omega arith) ∙ ap (λ (k : ℕ). Some (f k)) at

there : (o : Option Row) (d : Row) → o ≢ None → Some (unwrap_or o d) ≡ o
there None d some = absurd (some refl)
there (Some row) d some = refl

-- the row kept of a packet that the history reaches is that of the frames
kept-row : (history : ℕ) (frames : List StreamFrame) (rows : List Row) (missing : List ℕ) (count p : ℕ) → StandsFor history frames rows missing count
    → 1 ≤ p → p ≤ last_number frames → last_number frames < p + (history + 1) → slice_get rows (p - 1) ≡ row_in frames p
kept-row history frames rows missing count p stands from to near =
    let at : 1 + (p - 1) ≡ p = omega arith in
    ap (λ (xs : List Row). slice_get xs (p - 1)) stands.rows_are
    ∙ got (λ k. unwrap_or (row_in frames k) no_row) 1 (last_number frames) (p - 1) (omega arith)
    ∙ ap (λ (k : ℕ). Some (unwrap_or (row_in frames k) no_row)) at
    ∙ there (row_in frames p) no_row (stands.known p from to near)

-- only packets that the frame and the last one before it carry can differ
pub differs-by_kept : (history : ℕ) (frames : List StreamFrame) (rows : List Row) (missing : List ℕ) (count first : ℕ) (it : StreamFrame) → StandsFor history frames rows missing count
    → last_number frames < it.number → length it.rows ≤ history + 1 → 1 ≤ first → first + length it.rows ≡ it.number + 1
    → list_any (λ p. clash (slice_get rows (p - 1)) (carried_row it p)) (range_with_len first (last_number frames + 1 - first)) ≡ differs frames it
unfolding differs
differs-by_kept history frames rows missing count first it stands later few from place =
    let last : ℕ = last_number frames in
    let f : ℕ → Bool = λ p. clash (row_in frames p) (carried_row it p) in
    let g : ℕ → Bool = λ p. clash (slice_get rows (p - 1)) (carried_row it p) in
    let before : ℕ = first - 1 in
    let middle : ℕ = last + 1 - first in
    let after : ℕ = it.number - (before + middle) in
    let all : it.number ≡ before + (middle + after) = omega arith in
    let second : 1 + before ≡ first = omega arith in
    let none_before : list_any f (range_with_len 1 before) ≡ false =
    any-none f 1 before (λ p a b. ap (clash (row_in frames p)) (carried-before it p (omega arith)) ∙ clash-none (row_in frames p)) in
    let none_after : list_any f (range_with_len (first + middle) after) ≡ false =
    any-none f (first + middle) after (λ p a b. clash-nothing (row_in frames p) (carried_row it p) (stands.none_above p (omega arith))) in
    let same : list_any g (range_with_len first middle) ≡ list_any f (range_with_len first middle) =
    any-same g f first middle (λ p a b. ap (λ (o : Option Row). clash o (carried_row it p)) (kept-row history frames rows missing count p stands (omega arith) (omega arith) (omega arith))) in
    same
    ∙ sym (or-false (list_any f (range_with_len first middle)))
    ∙ ap (λ (b : Bool). list_any f (range_with_len first middle) || b) (sym none_after)
    ∙ sym (list_any-append f (range_with_len first middle) (range_with_len (first + middle) after))
    ∙ ap (list_any f) (sym (range-append first middle after))
    ∙ ap (λ (k : ℕ). list_any f (range_with_len k (middle + after))) (sym second)
    ∙ ap (λ (b : Bool). b || list_any f (range_with_len (1 + before) (middle + after))) (sym none_before)
    ∙ sym (list_any-append f (range_with_len 1 before) (range_with_len (1 + before) (middle + after)))
    ∙ ap (list_any f) (sym (range-append 1 before (middle + after)))
    ∙ ap (λ (k : ℕ). list_any f (range_with_len 1 k)) (sym all)
  where
    or-false : (b : Bool) → (b || false) ≡ b
    or-false true = refl
    or-false false = refl
