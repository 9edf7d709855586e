-- Where the link does nothing, the one-core answer is over all rows.
use Rattle.std.proofs.Common.{◌≡◌, ℕ, zero, suc, ◌+◌, ◌-◌, ◌≤◌, Bool, true, cond, List, [], ◌∷◌, ◌++◌, length, get_or, take, Option, Some, None, option_to_list, arith, refl, sym, ap, ◌∙◌}
use Rattle.std.specs.Prelude.{filter_map, slice_get}
use Rattle.std.specs.List.{range_with_len}
use Rattle.std.specs.Option.{option_map}
use Rattle.std.proofs.lemmas.List.{take_more, take_all, take-append-le, length_push, get_or_append_left, get_or_push}
use Rattle.std.proofs.lemmas.Option.{slice_get-get_or}
use Rattle.scr_base.specs.declared.row.Row.{Row}
use Rattle.scr_base.specs.declared.row.Verdict.{Verdict}
use Rattle.scr_plan.specs.declared.given.Given.{Given}
use Rattle.scr_plan.specs.Delivered.{delivers}
use Rattle.scr_plan.specs.Kept.{keeps}
use Rattle.scr_plan.specs.Link.{empty_link}
use Rattle.scr_plan.specs.Plan.{Plan, frame_count, row_of_packet}
use Rattle.scr_plan.proofs.EmptyLink.{delivered-all, kept-all}
use Rattle.scr_replica.specs.OneCore.{kept_row, kept_rows, entries, given_with, given_at, given_in, verdicts, all_verdicts}
use Rattle.scr_replica.proofs.Taking.{filter_map-more, kept_rows-zero, kept_rows-more}

-- two functions that agree on the numbers from 1 to n
same_up_to : {Y : Type 0} (h k : ℕ → Option Y) (n : ℕ) → ((p : ℕ) → 1 ≤ p → p ≤ n → h p ≡ k p) → filter_map h (range_with_len 1 n) ≡ filter_map k (range_with_len 1 n)
same_up_to h k zero same = refl
same_up_to h k (suc n) same =
    filter_map-more h n (suc n) (omega arith)
    ∙ ap (λ (xs : List _). xs ++ option_to_list (h (suc n))) (same_up_to h k n (λ p from to. same p from (omega arith)))
    ∙ ap (λ (o : Option _). filter_map k (range_with_len 1 n) ++ option_to_list o) (same (suc n) (omega arith) (omega arith))
    ∙ sym (filter_map-more k n (suc n) (omega arith))

zero_row : Row
zero_row = record { w0 = 0; w1 = 0; w2 = 0; w3 = 0; w4 = 0; w5 = 0; w6 = 0 }

module _ (plan : Plan) (none : plan.link ≡ empty_link) where
  all_kept : (p : ℕ) → 1 ≤ p → p ≤ frame_count plan → keeps plan p ≡ true
  all_kept p from to = kept-all plan none p from to

  all_delivered : (n : ℕ) → 1 ≤ n → n ≤ frame_count plan → delivers plan n ≡ true
  all_delivered n from to = delivered-all plan none n from to

  -- the kept rows are all rows
  pub kept_rows-all : (p : ℕ) → p ≤ frame_count plan → kept_rows plan p ≡ take p plan.rows
  kept_rows-all zero to = kept_rows-zero plan
  kept_rows-all (suc p) to =
      let next : p + 1 ≡ suc p = omega arith in
      let at : suc p - 1 ≡ p = omega arith in
      let row : Row = get_or plan.rows p zero_row in
      let there : kept_row plan (suc p) ≡ Some row =
      ap (λ (b : Bool). cond b (row_of_packet plan (suc p)) None) (all_kept (suc p) (omega arith) to)
      ∙ ap (slice_get plan.rows) at
      ∙ slice_get-get_or plan.rows p zero_row (omega arith) in
      kept_rows-more plan p (suc p) next
      ∙ ap (λ (xs : List Row). xs ++ option_to_list (kept_row plan (suc p))) (kept_rows-all p (omega arith))
      ∙ ap (λ (o : Option Row). take p plan.rows ++ option_to_list o) there
      ∙ sym (take_more plan.rows p zero_row (omega arith))
      ∙ ap (λ (k : ℕ). take k plan.rows) next

  pub entries-all : (count_after : List Row → ℕ) → entries count_after plan ≡ count_after plan.rows
  entries-all count_after =
      ap count_after (kept_rows-all (frame_count plan) (omega arith) ∙ take_all (frame_count plan) plan.rows (omega arith))

  pub verdicts-all : (verdict_after : List Row → Row → Verdict) → verdicts verdict_after plan ≡ all_verdicts verdict_after plan.rows
  unfolding verdicts all_verdicts
  verdicts-all verdict_after =
      same_up_to (given_at verdict_after plan) (given_in verdict_after plan.rows) (frame_count plan)
      (λ n from to.
      ap (λ (b : Bool). cond b (option_map (given_with verdict_after plan n) (row_of_packet plan n)) None) (all_delivered n from to)
      ∙ ap (λ (rows : List Row). option_map (λ (row : Row). let it : Given = record { number = n; verdict = verdict_after rows row } in it) (row_of_packet plan n))
      (kept_rows-all (n - 1) (omega arith)))

module _ (verdict_after : List Row → Row → Verdict) (rows : List Row) (row : Row) where
  earlier : (p : ℕ) → 1 ≤ p → p ≤ length rows → given_in verdict_after (rows ++ row ∷ []) p ≡ given_in verdict_after rows p
  earlier p from to =
      let same : slice_get (rows ++ row ∷ []) (p - 1) ≡ slice_get rows (p - 1) =
      slice_get-get_or (rows ++ row ∷ []) (p - 1) zero_row (omega (arith, length_push rows row))
      ∙ ap Some (get_or_append_left rows (row ∷ []) zero_row (p - 1) (omega arith))
      ∙ sym (slice_get-get_or rows (p - 1) zero_row (omega arith)) in
      ap (λ (before : List Row). option_map (λ (r : Row). let it : Given = record { number = p; verdict = verdict_after before r } in it) (slice_get (rows ++ row ∷ []) (p - 1)))
      (take-append-le (p - 1) rows (row ∷ []) (omega arith))
      ∙ ap (option_map (λ (r : Row). let it : Given = record { number = p; verdict = verdict_after (take (p - 1) rows) r } in it)) same

  newest : given_in verdict_after (rows ++ row ∷ []) (length rows + 1) ≡ Some (record { number = length rows + 1; verdict = verdict_after rows row })
  newest =
      let at : length rows + 1 - 1 ≡ length rows = omega arith in
      let there : slice_get (rows ++ row ∷ []) (length rows + 1 - 1) ≡ Some row =
      ap (slice_get (rows ++ row ∷ [])) at
      ∙ slice_get-get_or (rows ++ row ∷ []) (length rows) zero_row (omega (arith, length_push rows row))
      ∙ ap Some (get_or_push rows row zero_row (length rows) refl) in
      let before : take (length rows + 1 - 1) (rows ++ row ∷ []) ≡ rows =
      ap (λ (k : ℕ). take k (rows ++ row ∷ [])) at ∙ take-append-le (length rows) rows (row ∷ []) (omega arith) ∙ take_all (length rows) rows (omega arith) in
      ap (λ (o : Option Row). option_map (λ (r : Row). let it : Given = record { number = length rows + 1; verdict = verdict_after (take (length rows + 1 - 1) (rows ++ row ∷ [])) r } in it) o) there
      ∙ ap (λ (xs : List Row). let it : Option Given = Some (record { number = length rows + 1; verdict = verdict_after xs row }) in it) before

  -- one row more
  pub all_verdicts-push : all_verdicts verdict_after (rows ++ row ∷ []) ≡ all_verdicts verdict_after rows ++ record { number = length rows + 1; verdict = verdict_after rows row } ∷ []
  unfolding all_verdicts
  all_verdicts-push =
      let all : List Row = rows ++ row ∷ [] in
      ap (λ (k : ℕ). filter_map (given_in verdict_after all) (range_with_len 1 k)) (length_push rows row)
      ∙ filter_map-more (given_in verdict_after all) (length rows) (length rows + 1) refl
      ∙ ap (λ (xs : List Given). xs ++ option_to_list (given_in verdict_after all (length rows + 1)))
      (same_up_to (given_in verdict_after all) (given_in verdict_after rows) (length rows) earlier)
      ∙ ap (λ (o : Option Given). filter_map (given_in verdict_after rows) (range_with_len 1 (length rows)) ++ option_to_list o) newest
