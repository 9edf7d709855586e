-- The new ends of all verdict lanes, taken one after the other: of each the whole course of its core is to come.
use Rattle.std.proofs.Common.{◌≡◌, ◌+◌, ℕ, List, [], ◌∷◌, ◌++◌, length, None, arith, sym, ap, ◌∙◌, subst}
use Rattle.std.proofs.lemmas.List.{length_push}
use Rattle.scr_base.specs.declared.row.Row.{Row}
use Rattle.scr_base.specs.declared.row.Verdict.{Verdict}
use Rattle.scr_lane.specs.Ends.{End}
use Rattle.scr_plan.specs.declared.given.Given.{Given}
use Rattle.scr_plan.specs.Plan.{Plan}
use Rattle.scr_crew.specs.Cores.{OfCores}
use Rattle.scr_crew.specs.Takings.{AreToCome, course_from, still_to_come}
use Rattle.scr_crew.specs.Verdicts.{IsNewVerdictEnd}
use Rattle.scr_crew.proofs.Coming.{Coming, all_coming, first_comes, others_come, none_of_cores, one_more}
use Rattle.scr_crew.proofs.TakenOnce.{all-to_come}

-- what is to come of the first cores is known, and the ends of the others come next
pub record Arrived (verdict_after : List Row → Row → Verdict) (plan : Plan) (lists : List (List Given)) (ends : List (End (List Given))) : Type 0 where
  pub so_far : OfCores (λ core list. list ≡ course_from verdict_after plan core 1) (length lists) lists
  pub coming : Coming (IsNewVerdictEnd verdict_after plan) (length lists) plan.cores ends

module _ (verdict_after : List Row → Row → Verdict) (plan : Plan) where
  abbrev ItsCourse : (core : ℕ) → List Given → Type 0
  ItsCourse core list = list ≡ course_from verdict_after plan core 1

  pub none-arrived : (ends : List (End (List Given))) → OfCores (IsNewVerdictEnd verdict_after plan) plan.cores ends → Arrived verdict_after plan [] ends
  none-arrived ends of = record {
    so_far = none_of_cores ItsCourse;
    coming = all_coming (IsNewVerdictEnd verdict_after plan) plan.cores ends of;
  }

  pub one-arrived : (lists new : List (List Given)) (list : List Given) (end : End (List Given)) (ends : List (End (List Given)))
      → Arrived verdict_after plan lists (end ∷ ends) → list ≡ still_to_come end None → new ≡ lists ++ list ∷ [] → Arrived verdict_after plan new ends
  one-arrived lists new list end ends is first grown =
      let n : ℕ = length lists in
      let its : IsNewVerdictEnd verdict_after plan n end = first_comes (IsNewVerdictEnd verdict_after plan) n plan.cores end ends is.coming in
      let longer : n + 1 ≡ length new = sym (length_push lists list) ∙ ap length (sym grown) in
      let more : OfCores ItsCourse (n + 1) (lists ++ list ∷ []) = one_more ItsCourse n lists list is.so_far (first ∙ all-to_come verdict_after plan n end its) in
      record {
        so_far = subst (λ (k : ℕ). OfCores ItsCourse k new) longer (subst (OfCores ItsCourse (n + 1)) (sym grown) more);
        coming = subst (λ (k : ℕ). Coming (IsNewVerdictEnd verdict_after plan) k plan.cores ends) longer
            (others_come (IsNewVerdictEnd verdict_after plan) n plan.cores end ends is.coming);
      }

  pub all-arrived : (lists : List (List Given)) (ends : List (End (List Given))) → Arrived verdict_after plan lists ends → length ends ≡ 0
      → AreToCome verdict_after plan (record { next = 1; to_come = lists })
  all-arrived lists ends is none =
      let all = is.coming.all in
      let long : length lists ≡ plan.cores = omega (arith, none) in
      record {
        from = omega arith;
        to = omega arith;
        each = subst (λ (k : ℕ). OfCores ItsCourse k lists) long is.so_far;
      }
