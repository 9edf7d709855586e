-- A run where one core is given every frame: each packet is kept, and comes after all packets below it.
use Rattle.std.proofs.Common.{◌≡◌, ℕ, ◌+◌, ◌-◌, ◌≤◌, true, List, [], ◌∷◌, ◌++◌, length, Option, Some, refl, sym, ap, subst, ◌∙◌, arith, filter_map}
use Rattle.std.specs.List.{range_with_len, slice_get}
use Rattle.std.proofs.lemmas.List.{append_assoc, append-nil, length-append}
use Rattle.scr_base.specs.declared.row.Row.{Row}
use Rattle.scr_base.specs.declared.row.Verdict.{Verdict}
use Rattle.scr_plan.specs.declared.given.Given.{Given}
use Rattle.scr_plan.specs.Plan.{row_of_packet}
use Rattle.scr_plan.specs.Delivered.{delivers}
use Rattle.scr_plan.specs.Kept.{keeps}
use Rattle.scr_plan.proofs.EmptyLink.{delivered-all, kept-all}
use Rattle.scr_replica.specs.OneCore.{undivided, kept_row, kept_rows, given_at, verdicts, entries}

-- what `g` gives of each row and of those before it
abbrev pub gathered : {X : Type 0} → (List Row → Row → X) → (front rows : List Row) → List X
gathered g front [] = []
gathered g front (row ∷ rows) = g front row ∷ gathered g (front ++ row ∷ []) rows

gathered-rows : (front rows : List Row) → gathered (λ _ row. row) front rows ≡ rows
gathered-rows front [] = refl
gathered-rows front (row ∷ rows) = ap (λ (t : List Row). row ∷ t) (gathered-rows (front ++ row ∷ []) rows)

-- a list over numbers that gives just that of each row
numbered : {X : Type 0} (f : ℕ → Option X) (g : List Row → Row → X) (all front rows rest : List Row) → all ≡ front ++ (rows ++ rest)
    → ((a : List Row) (row : Row) (b : List Row) → all ≡ a ++ row ∷ b → f (length a + 1) ≡ Some (g a row))
    → filter_map f (range_with_len (length front + 1) (length rows)) ≡ gathered g front rows
numbered f g all front [] rest parts at = refl
numbered f g all front (row ∷ rows) rest parts at =
    let here : f (length front + 1) ≡ Some (g front row) = at front row (rows ++ rest) parts in
    let moved : all ≡ (front ++ row ∷ []) ++ (rows ++ rest) = parts ∙ sym (append_assoc front (row ∷ []) (rows ++ rest)) in
    let next : length (front ++ row ∷ []) + 1 ≡ length front + 1 + 1 = omega (arith, length-append front (row ∷ [])) in
    let later = subst (λ (n : ℕ). filter_map f (range_with_len n (length rows)) ≡ gathered g (front ++ row ∷ []) rows) next
    (numbered f g all (front ++ row ∷ []) rows rest moved at) in
    rw here (ap (λ (t : List _). g front row ∷ t) later)

-- the row at the place behind others
row-behind : (a : List Row) (row : Row) (b : List Row) → slice_get (a ++ row ∷ b) (length a) ≡ Some row
row-behind [] row b = refl
row-behind (first ∷ a) row b = row-behind a row b

place_of : (a : List Row) (row : Row) (b : List Row) → row_of_packet (undivided (a ++ row ∷ b)) (length a + 1) ≡ Some row
place_of a row b =
    let e : length a + 1 - 1 ≡ length a = omega arith in
    rw e (row-behind a row b)

count_of : (a : List Row) (row : Row) (b : List Row) → length a + 1 ≤ length (a ++ row ∷ b)
count_of a row b = omega (arith, length-append a (row ∷ b))

-- the kept rows up to those in front are these
pub kept_rows-front : (front rest : List Row) → kept_rows (undivided (front ++ rest)) (length front) ≡ front
unfolding kept_rows
kept_rows-front front rest =
    numbered (kept_row (undivided (front ++ rest))) (λ _ row. row) (front ++ rest) [] front rest refl
    (λ a row b parts.
    let kept : keeps (undivided (front ++ rest)) (length a + 1) ≡ true =
    kept-all (undivided (front ++ rest)) refl (length a + 1) (omega arith) (rw parts (count_of a row b)) in
    rw kept (rw parts (place_of a row b)))
    ∙ gathered-rows [] front

module _ (verdict_after : List Row → Row → Verdict) where
  -- the verdict on a row behind others
  abbrev pub given_behind : List Row → Row → Given
  given_behind before row = record { number = length before + 1; verdict = verdict_after before row }

  -- the verdicts are those of each row behind all before it
  pub verdicts-undivided : (rows : List Row) → verdicts verdict_after (undivided rows) ≡ gathered given_behind [] rows
  unfolding verdicts
  verdicts-undivided rows = numbered (given_at verdict_after (undivided rows)) given_behind rows [] rows [] (sym (append-nil rows))
      (λ a row b parts.
      let sent : delivers (undivided rows) (length a + 1) ≡ true =
      delivered-all (undivided rows) refl (length a + 1) (omega arith) (rw parts (count_of a row b)) in
      let number : length a + 1 - 1 ≡ length a = omega arith in
      let before : kept_rows (undivided rows) (length a + 1 - 1) ≡ a = rw (number, parts) (kept_rows-front a (row ∷ b)) in
      let is_row : row_of_packet (undivided rows) (length a + 1) ≡ Some row = rw parts (place_of a row b) in
      rw (sent, is_row, before) refl)

  -- one row more
  gathered-push : (front rows : List Row) (row : Row)
      → gathered given_behind front (rows ++ row ∷ []) ≡ gathered given_behind front rows ++ given_behind (front ++ rows) row ∷ []
  gathered-push front [] row = ap (λ (all : List Row). given_behind all row ∷ []) (sym (append-nil front))
  gathered-push front (first ∷ rows) row =
      ap (λ (t : List Given). given_behind front first ∷ t) (gathered-push (front ++ first ∷ []) rows row
      ∙ ap (λ (all : List Row). gathered given_behind (front ++ first ∷ []) rows ++ given_behind all row ∷ []) (append_assoc front (first ∷ []) rows))

  pub verdicts-push : (rows : List Row) (row : Row) (number : ℕ) → number ≡ length rows + 1
      → verdicts verdict_after (undivided (rows ++ row ∷ [])) ≡ verdicts verdict_after (undivided rows) ++ record { number = number; verdict = verdict_after rows row } ∷ []
  verdicts-push rows row number is =
      verdicts-undivided (rows ++ row ∷ []) ∙ gathered-push [] rows row
      ∙ ap (λ (t : List Given). t ++ given_behind rows row ∷ []) (sym (verdicts-undivided rows))
      ∙ ap (λ (n : ℕ). verdicts verdict_after (undivided rows) ++ record { number = n; verdict = verdict_after rows row } ∷ []) (sym is)

  -- as many verdicts as rows
  length-gathered : (front rows : List Row) → length (gathered given_behind front rows) ≡ length rows
  length-gathered front [] = refl
  length-gathered front (row ∷ rows) = omega (arith, length-gathered (front ++ row ∷ []) rows)

  pub length-verdicts : (rows : List Row) → length (verdicts verdict_after (undivided rows)) ≡ length rows
  length-verdicts rows = ap length (verdicts-undivided rows) ∙ length-gathered [] rows

-- no row, no verdict
pub verdicts-none : (verdict_after : List Row → Row → Verdict) → verdicts verdict_after (undivided []) ≡ []
verdicts-none verdict_after = verdicts-undivided verdict_after []

-- all rows are kept
pub entries-undivided : (count_after : List Row → ℕ) (rows : List Row) → entries count_after (undivided rows) ≡ count_after rows
entries-undivided count_after rows =
    ap count_after (subst (λ (all : List Row). kept_rows (undivided all) (length rows) ≡ rows) (append-nil rows) (kept_rows-front rows []))
