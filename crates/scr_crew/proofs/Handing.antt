-- A run hands its verdicts to a taker.
use Rattle.std.proofs.Common.{◌≡◌, ℕ, List, map, Option, Some, None, Result, Ok, Err, sym, ap, ◌∙◌, subst}
use Rattle.std.specs.Prelude.{IfSome, OnSome}
use Rattle.std.specs.List.{range_with_len}
use Rattle.scr_base.specs.declared.row.Row.{Row}
use Rattle.scr_base.specs.declared.row.Verdict.{Verdict}
use Rattle.scr_plan.specs.declared.given.Given.{Given}
use Rattle.scr_plan.specs.Counts.{plan_counts}
use Rattle.scr_plan.specs.Plan.{Plan}
use Rattle.scr_replica.specs.OneCore.{verdicts, entries}
use Rattle.scr_crew.specs.declared.joining.Tallies.{Tallies}
use Rattle.scr_crew.specs.declared.run_stop.RunStop.{RunStop}
use Rattle.scr_crew.specs.Takers.{IsTaking, HandsOn, IsTally}
use Rattle.scr_crew.specs.Takings.{Takings, AreToCome, verdicts_from}
use Rattle.scr_crew.proofs.TakenOnce.{verdicts-from-1}

-- before the first frame's turn all verdicts are to be taken
pub begins : {T O : Type 0} (IsToTake : T → (before now : O) → (whole rest : List Given) → Type 0) (verdict_after : List Row → Row → Verdict) (plan : Plan)
    (before now : O) (takings : Takings) (taker : T) → AreToCome verdict_after plan takings → takings.next ≡ 1
    → IsToTake taker before now (verdicts verdict_after plan) (verdicts verdict_after plan) → IsTaking IsToTake verdict_after plan before now takings taker
begins IsToTake verdict_after plan before now takings taker coming next all = record {
  coming = coming;
  to_take = subst (λ (rest : List Given). IsToTake taker before now (verdicts verdict_after plan) rest)
      (sym (ap (verdicts_from verdict_after plan) next ∙ verdicts-from-1 verdict_after plan)) all;
}

-- what is known holds whatever there is
pub on_some : {X A : Type 0} (o : Option X) → A → OnSome o A
on_some None a = tt
on_some (Some x) a = a

-- the counts and the entries of all cores, as a tally
pub tallied : (count_after : List Row → ℕ) (plan : Plan) (all : Option Tallies)
    → IfSome all (λ it. (it.cores.items ≡ map (plan_counts plan) (range_with_len 0 plan.cores)) × (it.flows ≡ entries count_after plan))
    → IfSome all (IsTally count_after plan)
tallied count_after plan None is = tt
tallied count_after plan (Some it) is = record { cores = is.0; flows = is.1 }

module _ {T O R : Type 0} {IsToTake : T → (before now : O) → (whole rest : List Given) → Type 0} {Stopped : RunStop → (before now : O) → (whole : List Given) → Type 0}
    {whole : List Given} {before now : O} {taker : R → T} {Then : R → (rest : List Given) → Type 0} where
  -- what is left to take, where the taker went on
  pub went-on : (result : Result R RunStop) (it : R) → result ≡ Ok it → HandsOn IsToTake Stopped whole before now taker Then result
      → (rest : List Given) × IsToTake (taker it) before now whole rest × Then it rest
  went-on (Ok x) it e on =
      let same : x ≡ it = cc in
      subst (λ (y : R). (rest : List Given) × IsToTake (taker y) before now whole rest × Then y rest) same on.each
  went-on (Err x) it e on = absurd cc
