-- A frame behind others: what was kept of them, and what it adds.
use Rattle.std.proofs.Common.{◌≡◌, ◌≢◌, ◌⊎◌, ℕ, suc, ◌+◌, ◌-◌, ◌<◌, ◌≤◌, Bool, true, false, not, List, [], ◌∷◌, ◌++◌, length, Option, Some, None, refl, sym, ap, ◌∙◌, inl, inr, arith, eqb}
use Rattle.std.specs.Prelude.{map, filter, unwrap_or}
use Rattle.std.specs.List.{range_with_len}
use Rattle.std.proofs.lemmas.Bool.{cases_lt}
use Rattle.std.proofs.lemmas.Bool.Decides.{nat_tests}
use Rattle.std.proofs.lemmas.List.{map-append, length-append, append-nil}
use Rattle.std.proofs.lemmas.List.Elements.{filter-append}
use Rattle.scr_base.specs.declared.row.Row.{Row}
use Rattle.scr_plan.proofs.FromOne.{range-append, range-suc}
use Rattle.scr_stream.specs.Frames.{StreamFrame, carried_row, first_of, row_in, has_frame, last_number}
use Rattle.scr_stream.specs.Reading.{Follows, no_row, rows_from, missing_from}
use Rattle.scr_stream.specs.Taken.{StandsFor}
use Rattle.scr_stream.proofs.Ranges.{map-same, filter-same, filter-all}
use Rattle.scr_stream.proofs.RowsOfFrames.{first_of-none, row_in-more, last_number-more, has_frame-above, has_frame-more, carried-before, carried-behind, carried-within}

-- a row that is there is the first
first_of-there : (a b : Option Row) → a ≢ None → first_of a b ≡ a
first_of-there None b there = absurd (there refl)
first_of-there (Some row) b there = refl

first_of-some : (a b : Option Row) → b ≢ None → first_of a b ≢ None
first_of-some None b there = there
first_of-some (Some row) b there = λ e. absurd cc

first_of-empty : (a b : Option Row) → a ≡ None → first_of a b ≡ b
first_of-empty None b none = refl
first_of-empty (Some row) b none = absurd cc

-- a range up to n in two parts
range-parts : (last n : ℕ) → last ≤ n → range_with_len 1 n ≡ range_with_len 1 last ++ range_with_len (last + 1) (n - last)
range-parts last n within =
    let all : n ≡ last + (n - last) = omega arith in
    let from : 1 + last ≡ last + 1 = omega arith in
    ap (range_with_len 1) all ∙ range-append 1 last (n - last) ∙ ap (λ (k : ℕ). range_with_len 1 last ++ range_with_len k (n - last)) from

module _ (history : ℕ) (frames : List StreamFrame) (it : StreamFrame) (rows : List Row) (missing : List ℕ) (count : ℕ)
    (stands : StandsFor history frames rows missing count) (follows : Follows history frames it) where
  abbrev last : ℕ
  last = last_number frames

  abbrev all : List StreamFrame
  all = frames ++ it ∷ []

  above : last < it.number
  above = follows.later

  few_rows : length it.rows ≤ history + 1
  few_rows = let due = follows.all_rows in omega arith

  few_rows_too : length it.rows ≤ it.number
  few_rows_too = let due = follows.all_rows in omega arith

  -- the packets of earlier frames keep their rows
  earlier : (p : ℕ) → 1 ≤ p → p ≤ last → unwrap_or (row_in all p) no_row ≡ unwrap_or (row_in frames p) no_row
  earlier p from to =
      ap (λ (o : Option Row). unwrap_or o no_row) (row_in-more frames it p ∙ by (cases_lt last (p + (history + 1))))
    where
      by : (last < p + (history + 1)) ⊎ (p + (history + 1) ≤ last) → first_of (row_in frames p) (carried_row it p) ≡ row_in frames p
      by (inl near) = first_of-there (row_in frames p) (carried_row it p) (stands.known p from to near)
      by (inr far) =
          let few = few_rows in let behind = above in
          ap (first_of (row_in frames p)) (carried-before it p (omega arith)) ∙ first_of-none (row_in frames p)

  later : (p : ℕ) → last < p → row_in all p ≡ carried_row it p
  later p behind = row_in-more frames it p ∙ first_of-empty (row_in frames p) (carried_row it p) (stands.none_above p behind)

  rows-added : (new : List Row) → new ≡ rows ++ map (λ p. unwrap_or (carried_row it p) no_row) (range_with_len (last + 1) (it.number - last))
      → new ≡ rows_from all (last_number all)
  rows-added new is =
      let behind = above in
      let f : ℕ → Row = λ p. unwrap_or (row_in all p) no_row in
      let first : rows ≡ map f (range_with_len 1 last) =
      stands.rows_are ∙ sym (map-same f (λ p. unwrap_or (row_in frames p) no_row) 1 last (λ p from to. earlier p from (omega arith))) in
      let second : map (λ p. unwrap_or (carried_row it p) no_row) (range_with_len (last + 1) (it.number - last)) ≡ map f (range_with_len (last + 1) (it.number - last)) =
      sym (map-same f (λ p. unwrap_or (carried_row it p) no_row) (last + 1) (it.number - last)
      (λ p from to. ap (λ (o : Option Row). unwrap_or o no_row) (later p (omega arith)))) in
      is ∙ ap (λ (xs : List Row). xs ++ map (λ p. unwrap_or (carried_row it p) no_row) (range_with_len (last + 1) (it.number - last))) first
      ∙ ap (λ (xs : List Row). map f (range_with_len 1 last) ++ xs) second
      ∙ sym (map-append f (range_with_len 1 last) (range_with_len (last + 1) (it.number - last)))
      ∙ ap (map f) (sym (range-parts last it.number (omega arith)))
      ∙ ap (λ (k : ℕ). map f (range_with_len 1 k)) (sym (last_number-more frames it above))

  -- the number of the frame is the only one that isn't missing any more
  missing-added : (new : List ℕ) → new ≡ missing ++ range_with_len (last + 1) (it.number - (last + 1)) → new ≡ missing_from all (last_number all)
  missing-added new is =
      let behind = above in
      let f : ℕ → Bool = λ n. not (has_frame all n) in
      let gap : ℕ = it.number - (last + 1) in
      let count_is : it.number - last ≡ suc gap = omega arith in
      let place : (last + 1) + gap ≡ it.number = omega arith in
      let first : missing ≡ filter f (range_with_len 1 last) =
      stands.missing_are ∙ sym (filter-same f (λ n. not (has_frame frames n)) 1 last (λ p from to. below p (omega arith))) in
      let second : filter f (range_with_len (last + 1) gap) ≡ range_with_len (last + 1) gap = filter-all f (last + 1) gap (λ p from to. between p (omega arith) (omega arith)) in
      let third : filter f (it.number ∷ []) ≡ [] = own in
      is ∙ ap (λ (xs : List ℕ). xs ++ range_with_len (last + 1) gap) first
      ∙ ap (λ (xs : List ℕ). filter f (range_with_len 1 last) ++ xs) (sym (append-nil (range_with_len (last + 1) gap)))
      ∙ ap (λ (xs : List ℕ). filter f (range_with_len 1 last) ++ (range_with_len (last + 1) gap ++ xs)) (sym third)
      ∙ ap (λ (xs : List ℕ). filter f (range_with_len 1 last) ++ (xs ++ filter f (it.number ∷ []))) (sym second)
      ∙ ap (λ (xs : List ℕ). filter f (range_with_len 1 last) ++ xs) (sym (filter-append f (range_with_len (last + 1) gap) (it.number ∷ [])))
      ∙ sym (filter-append f (range_with_len 1 last) (range_with_len (last + 1) gap ++ it.number ∷ []))
      ∙ ap (λ (k : ℕ). filter f (range_with_len 1 last ++ (range_with_len (last + 1) gap ++ k ∷ []))) (sym place)
      ∙ ap (λ (xs : List ℕ). filter f (range_with_len 1 last ++ xs)) (sym (range-suc (last + 1) gap))
      ∙ ap (λ (k : ℕ). filter f (range_with_len 1 last ++ range_with_len (last + 1) k)) (sym count_is)
      ∙ ap (filter f) (sym (range-parts last it.number (omega arith)))
      ∙ ap (λ (k : ℕ). filter f (range_with_len 1 k)) (sym (last_number-more frames it above))
    where
      below : (p : ℕ) → p ≤ last → not (has_frame all p) ≡ not (has_frame frames p)
      below p to =
          let behind = above in
          let other : eqb it.number p ≡ false = grind (arith, nat_tests) in
          let more = has_frame-more frames it p in
          grind (arith, nat_tests, more, other)

      between : (p : ℕ) → last < p → p < it.number → not (has_frame all p) ≡ true
      between p from to =
          let other : eqb it.number p ≡ false = grind (arith, nat_tests) in
          let none = has_frame-above frames p from in
          let more = has_frame-more frames it p in
          grind (arith, nat_tests, more, other, none)

      own : filter (λ n. not (has_frame all n)) (it.number ∷ []) ≡ []
      own =
          let same : eqb it.number it.number ≡ true = grind (arith, nat_tests) in
          let more = has_frame-more frames it it.number in
          let test : not (has_frame all it.number) ≡ false = grind (arith, nat_tests, more, same) in
          rw test refl

  pub frame-added : (new_rows : List Row) (new_missing : List ℕ) (new_count : ℕ)
      → new_rows ≡ rows ++ map (λ p. unwrap_or (carried_row it p) no_row) (range_with_len (last_number frames + 1) (it.number - last_number frames))
      → new_missing ≡ missing ++ range_with_len (last_number frames + 1) (it.number - (last_number frames + 1)) → new_count ≡ count + 1
      → StandsFor history (frames ++ it ∷ []) new_rows new_missing new_count
  frame-added new_rows new_missing new_count rows_are missing_are count_is =
      let number = last_number-more frames it above in
      let behind = above in
      let so_far = stands.count_is in
      let fewer = stands.fewer in
      let most = follows.few in
      let due = follows.all_rows in
      record {
        rows_are = rows-added new_rows rows_are;
        missing_are = missing-added new_missing missing_are;
        count_is = omega (arith, length-append frames (it ∷ []));
        few = omega (arith, number);
        fewer = omega (arith, number, length-append frames (it ∷ []));
        none_above = λ p more. later p (omega (arith, number)) ∙ carried-behind it p (omega (arith, number));
        known = λ p from to near none.
            first_of-some (row_in frames p) (carried_row it p) (carried-within it p (omega (arith, number)) (omega (arith, number))) (sym (row_in-more frames it p) ∙ none);
      }

-- numbers behind the last frame, which have no frame
pub numbers-added : (history : ℕ) (frames : List StreamFrame) (rows : List Row) (missing : List ℕ) (count n : ℕ) → StandsFor history frames rows missing count
    → last_number frames ≤ n → (new_rows : List Row) (new_missing : List ℕ)
    → new_rows ≡ rows ++ map (λ p. no_row) (range_with_len (last_number frames + 1) (n - last_number frames))
    → new_missing ≡ missing ++ range_with_len (last_number frames + 1) (n - last_number frames)
    → (new_rows ≡ rows_from frames n) × (new_missing ≡ missing_from frames n)
numbers-added history frames rows missing count n stands within new_rows new_missing rows_are missing_are =
    let last : ℕ = last_number frames in
    let f : ℕ → Row = λ p. unwrap_or (row_in frames p) no_row in
    let g : ℕ → Bool = λ p. not (has_frame frames p) in
    let second : map (λ p. no_row) (range_with_len (last + 1) (n - last)) ≡ map f (range_with_len (last + 1) (n - last)) =
    sym (map-same f (λ p. no_row) (last + 1) (n - last) (λ p from to. ap (λ (o : Option Row). unwrap_or o no_row) (stands.none_above p (omega arith)))) in
    let others : filter g (range_with_len (last + 1) (n - last)) ≡ range_with_len (last + 1) (n - last) =
    filter-all g (last + 1) (n - last) (λ p from to. ap not (has_frame-above frames p (omega arith))) in (
      rows_are ∙ ap (λ (xs : List Row). xs ++ map (λ p. no_row) (range_with_len (last + 1) (n - last))) stands.rows_are
          ∙ ap (λ (xs : List Row). map f (range_with_len 1 last) ++ xs) second
          ∙ sym (map-append f (range_with_len 1 last) (range_with_len (last + 1) (n - last)))
          ∙ ap (map f) (sym (range-parts last n within)),
      missing_are ∙ ap (λ (xs : List ℕ). xs ++ range_with_len (last + 1) (n - last)) stands.missing_are
          ∙ ap (λ (xs : List ℕ). filter g (range_with_len 1 last) ++ xs) (sym others)
          ∙ sym (filter-append g (range_with_len 1 last) (range_with_len (last + 1) (n - last)))
          ∙ ap (filter g) (sym (range-parts last n within)),
    )
