-- What a try to take the next verdict tells, from what the lane of its core has.
use Rattle.std.proofs.Common.{◌≡◌, ℕ, ◌+◌, ◌<◌, ◌≤◌, List, [], get_or, set, false, sym, ap, ◌∙◌, subst}
use Rattle.std.proofs.lemmas.List.{set-get_or}
use Rattle.scr_base.specs.declared.row.Row.{Row}
use Rattle.scr_base.specs.declared.row.Verdict.{Verdict}
use Rattle.scr_plan.specs.declared.given.Given.{Given}
use Rattle.scr_plan.specs.Delivered.{core_number, delivers}
use Rattle.scr_plan.specs.Plan.{Plan, frame_count}
use Rattle.scr_crew.specs.declared.arrivals.Front.TheVariants as front
use Rattle.scr_crew.specs.declared.taking.Ready.TheVariants as ready
use Rattle.scr_crew.specs.Takings.{Takings, AreToCome, FrontTells, ReadyTells}
use Rattle.scr_crew.proofs.TakenOnce.{its, later, absent, verdicts-from-end}

module _ (verdict_after : List Row → Row → Verdict) (plan : Plan) (old new : Takings) (coming : AreToCome verdict_after plan old) where
  -- no frame is left
  pub took-all : frame_count plan < old.next → new ≡ old → ReadyTells verdict_after plan old new ready.All
  took-all behind same = (same, verdicts-from-end verdict_after plan old.next behind)

  module _ (to : old.next ≤ frame_count plan) (core : ℕ) (is : core ≡ core_number plan.cores old.next) (below : core < plan.cores) (after : List Given) where
    kept : after ≡ get_or old.to_come core [] → set old.to_come core after ≡ old.to_come
    kept same = ap (set old.to_come core) same ∙ set-get_or old.to_come core []

    -- the frame's verdict came
    pub took-its : (given : Given) → FrontTells old.next (get_or old.to_come core []) after (front.Its given)
        → new ≡ record { next = old.next + 1; to_come = set old.to_come core after } → ReadyTells verdict_after plan old new (ready.Given given)
    took-its given tells e =
        subst (λ (x : Takings). ReadyTells verdict_after plan old x (ready.Given given)) (sym e)
        (its verdict_after plan old.next coming.from to old.to_come coming core is below given after tells.0 tells.1)

    -- a later one came
    pub took-later : FrontTells old.next (get_or old.to_come core []) after front.Later
        → new ≡ record { next = old.next + 1; to_come = set old.to_come core after } → ReadyTells verdict_after plan old new ready.Passed
    took-later tells e =
        subst (λ (x : Takings). ReadyTells verdict_after plan old x ready.Passed)
        (sym (e ∙ ap (λ (lists : List (List Given)). record { next = old.next + 1; to_come = lists }) (kept tells.0)))
        (later verdict_after plan old.next coming.from to old.to_come coming core is below tells.1.0 tells.1.1 tells.1.2 tells.1.3)

    -- none came, and the frame isn't delivered
    pub took-none : FrontTells old.next (get_or old.to_come core []) after front.Empty → delivers plan old.next ≡ false
        → new ≡ record { next = old.next + 1; to_come = set old.to_come core after } → ReadyTells verdict_after plan old new ready.Passed
    took-none same lost e =
        subst (λ (x : Takings). ReadyTells verdict_after plan old x ready.Passed)
        (sym (e ∙ ap (λ (lists : List (List Given)). record { next = old.next + 1; to_come = lists }) (kept same)))
        (absent verdict_after plan old.next coming.from to old.to_come coming lost)

    -- none came yet
    pub waits : FrontTells old.next (get_or old.to_come core []) after front.Empty
        → new ≡ record { next = old.next; to_come = set old.to_come core after } → ReadyTells verdict_after plan old new ready.NotYet
    waits same e = e ∙ ap (λ (lists : List (List Given)). record { next = old.next; to_come = lists }) (kept same)
