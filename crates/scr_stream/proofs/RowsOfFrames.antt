-- The rows that frames carry, and their numbers.
use Rattle.std.proofs.Common.{◌≡◌, ◌≢◌, ℕ, zero, suc, ◌+◌, ◌-◌, ◌<◌, ◌≤◌, Bool, true, false, cond, ◌||◌, List, [], ◌∷◌, ◌++◌, length, Option, Some, None, refl, sym, ap, ◌∙◌, arith, eqb, leb}
use Rattle.std.specs.List.{slice_get}
use Rattle.std.proofs.lemmas.Bool.Decides.{nat_tests}
use Rattle.std.proofs.lemmas.List.Folds.{list_any-append}
use Rattle.scr_base.specs.declared.row.Row.{Row}
use Rattle.scr_stream.specs.Frames.{StreamFrame, carried_row, first_of, row_in, has_frame, last_number}

pub first_of-none : (o : Option Row) → first_of o None ≡ o
first_of-none None = refl
first_of-none (Some row) = refl

first_of-assoc : (a b c : Option Row) → first_of a (first_of b c) ≡ first_of (first_of a b) c
first_of-assoc None b c = refl
first_of-assoc (Some row) b c = refl

-- one frame more
pub row_in-more : (frames : List StreamFrame) (it : StreamFrame) (p : ℕ) → row_in (frames ++ it ∷ []) p ≡ first_of (row_in frames p) (carried_row it p)
unfolding row_in
row_in-more [] it p = first_of-none (carried_row it p)
row_in-more (first ∷ frames) it p =
    ap (first_of (carried_row first p)) (row_in-more frames it p) ∙ first_of-assoc (carried_row first p) (row_in frames p) (carried_row it p)

pub last_number-more : (frames : List StreamFrame) (it : StreamFrame) → last_number frames < it.number → last_number (frames ++ it ∷ []) ≡ it.number
unfolding last_number
last_number-more [] it later = omega arith
last_number-more (first ∷ frames) it later =
    let behind = last_number-more frames it (omega arith) in omega (arith, behind)

pub has_frame-above : (frames : List StreamFrame) (n : ℕ) → last_number frames < n → has_frame frames n ≡ false
unfolding last_number
has_frame-above [] n above = refl
has_frame-above (first ∷ frames) n above =
    let behind = has_frame-above frames n (omega arith) in
    let here : eqb first.number n ≡ false = grind (arith, nat_tests) in
    ap (λ (b : Bool). b || has_frame frames n) here ∙ behind

or-false : (b : Bool) → (b || false) ≡ b
or-false true = refl
or-false false = refl

pub has_frame-more : (frames : List StreamFrame) (it : StreamFrame) (n : ℕ) → has_frame (frames ++ it ∷ []) n ≡ (has_frame frames n || eqb it.number n)
has_frame-more frames it n =
    list_any-append (λ (x : StreamFrame). eqb x.number n) frames (it ∷ []) ∙ ap (λ (b : Bool). has_frame frames n || b) (or-false (eqb it.number n))

-- where a frame carries no row
pub carried-before : (it : StreamFrame) (p : ℕ) → p + length it.rows ≤ it.number → carried_row it p ≡ None
unfolding carried_row
carried-before it p before = grind (arith, nat_tests)

slice_get-past : (xs : List Row) (i : ℕ) → length xs ≤ i → slice_get xs i ≡ None
slice_get-past [] i past = refl
slice_get-past (x ∷ xs) zero past = absurd (omega arith)
slice_get-past (x ∷ xs) (suc i) past = slice_get-past xs i (omega arith)

slice_get-within : (xs : List Row) (i : ℕ) → i < length xs → slice_get xs i ≢ None
slice_get-within [] i below = λ e. absurd (omega arith)
slice_get-within (x ∷ xs) zero below = λ e. absurd cc
slice_get-within (x ∷ xs) (suc i) below = slice_get-within xs i (omega arith)

pub carried-behind : (it : StreamFrame) (p : ℕ) → it.number < p → carried_row it p ≡ None
unfolding carried_row
carried-behind it p above =
    let past = slice_get-past it.rows (p + length it.rows - (it.number + 1)) (omega arith) in grind (arith, nat_tests, past)

-- where it carries one
pub carried-within : (it : StreamFrame) (p : ℕ) → it.number < p + length it.rows → p ≤ it.number → carried_row it p ≢ None
unfolding carried_row
carried-within it p from to =
    let there = slice_get-within it.rows (p + length it.rows - (it.number + 1)) (omega arith) in
    let test : cond (leb (p + length it.rows) it.number) None (slice_get it.rows (p + length it.rows - (it.number + 1))) ≡ slice_get it.rows (p + length it.rows - (it.number + 1)) = grind (arith, nat_tests) in
    λ e. there (sym test ∙ e)
