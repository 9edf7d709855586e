-- What the parts of a turn tell of the whole turn.
use Rattle.std.proofs.Common.{◌≡◌, ℕ, ◌≤◌, Bool, true, false, cond, List, [], ◌++◌, Option, Some, None, inl, inr, arith, refl, sym, ap, subst, ◌∙◌, option_to_list}
use Rattle.std.specs.Prelude.{IfSome}
use Rattle.std.specs.Option.{option_map}
use Rattle.std.proofs.lemmas.List.{append-nil}
use Rattle.scr_base.specs.declared.row.Row.{Row}
use Rattle.scr_base.specs.declared.row.Verdict.{Verdict}
use Rattle.scr_plan.specs.declared.counting.CoreCounts.{CoreCounts}
use Rattle.scr_plan.specs.declared.given.Given.{Given}
use Rattle.scr_plan.specs.Plan.{Plan, frame_count}
use Rattle.scr_plan.specs.Delivered.{delivers_to}
use Rattle.scr_log.specs.Passes.{LogsOf, OfCore}
use Rattle.scr_replica.specs.declared.standing.Standing.TheVariants as standing
use Rattle.scr_replica.specs.declared.turn.Turn.{Turn}
use Rattle.scr_replica.specs.OneCore.{kept_row, kept_rows, course_up_to}
use Rattle.scr_replica.specs.Replicas.{Replica, Stands, at_hand}
use Rattle.scr_replica.specs.Turns.{GoesOn, Answers, GivesVerdict, given_in}
use Rattle.scr_replica.proofs.Taking.{kept_rows-more, course-more, given_kept}
use Rattle.scr_replica.specs.Stages.{turn_of, HasOnlyLooked, Rests, IsTurn}
use Rattle.scr_replica.proofs.Looking.{goes-looked}

given-of : (given : Option Given) → given ≡ given_in (turn_of given)
given-of None = refl
given-of (Some g) = refl

-- a verdict that is given has the packet's number
number-of : (p : ℕ) (verdict : Row → Verdict) (given : Option Given) (own : Bool) (row : Option Row)
    → option_to_list given ≡ cond own (option_to_list (option_map (λ r. record { number = p; verdict = verdict r }) row)) [] → IfSome given (λ g. g.number ≡ p)
number-of p verdict None own row e = tt
number-of p verdict (Some g) false row e = absurd cc
number-of p verdict (Some g) true None e = absurd cc
number-of p verdict (Some g) true (Some r) e =
    let same : g ≡ record { number = p; verdict = verdict r } = cc in
    ap (λ (x : Given). x.number) same

module _ {State : Type 0} where
  module _ (StandsFor : State → List Row → Type 0) (verdict_after : List Row → Row → Verdict) where
    -- a turn that finishes no packet
    pub turn-rests : (old new : Replica State) (answer : Turn) → Stands StandsFor old → Rests old new answer → IsTurn StandsFor verdict_after old new answer
    turn-rests old new answer stands rests =
        let on = rests.tells.goes_on in
        let logs = ap (λ (p : OfCore). p.logs) on.pass in
        record {
          stands =
              subst (λ (s : State). StandsFor s (kept_rows new.pass.logs.plan new.pass.finished)) (sym rests.state)
              (subst (λ (n : ℕ). StandsFor old.state (kept_rows new.pass.logs.plan n)) (sym rests.finished)
              (subst (λ (l : LogsOf). StandsFor old.state (kept_rows l.plan old.pass.finished)) (sym logs) stands));
          verdict =
              ap (course_up_to verdict_after old.pass.logs.plan old.pass.core) rests.finished
              ∙ sym (append-nil (course_up_to verdict_after old.pass.logs.plan old.pass.core old.pass.finished))
              ∙ ap (λ (o : Option Given). course_up_to verdict_after old.pass.logs.plan old.pass.core old.pass.finished ++ option_to_list o) (sym rests.none);
          tells = rests.tells;
        }

    module _ (before it : Replica State) (has : HasOnlyLooked before it) (running : it.standing ≡ standing.Running) where
      logs_are : it.pass.logs ≡ before.pass.logs
      logs_are = ap (λ (p : OfCore). p.logs) has.pass

      was_running : before.standing ≡ standing.Running
      was_running = sym has.standing ∙ running

      on : GoesOn before it
      on = goes-looked before it has

      -- the packet at hand was finished
      module _ (state : State) (counts : CoreCounts) (p : ℕ) (hand : p ≡ at_hand it) where
        abbrev done_with : Replica State
        done_with = record it { state = state; counts = counts; lost_to = 0; pass = record it.pass { finished = p } }

        finished_is : it.pass.finished ≡ before.pass.finished
        finished_is = ap (λ (q : OfCore). q.finished) has.pass

        goes-done : GoesOn before done_with
        goes-done = record {
          lane = on.lane;
          pass = ap (λ (q : OfCore). record q { finished = p }) on.pass;
          looks = on.looks;
          taken = on.taken;
          published = on.published;
          finished = let same = finished_is in omega arith;
          one = let same = finished_is in omega arith;
        }

        pub turn-finished : (given : Option Given) → StandsFor state (kept_rows it.pass.logs.plan p)
            → course_up_to verdict_after it.pass.logs.plan it.pass.core p
            ≡ course_up_to verdict_after it.pass.logs.plan it.pass.core it.pass.finished ++ option_to_list given
            → IfSome given (λ g. g.number ≡ p) → IsTurn StandsFor verdict_after before done_with (turn_of given)
        turn-finished given stands verdict number = record {
          stands = stands;
          verdict = told given verdict;
          tells = record {
            goes_on = goes-done;
            running = λ was. by given number;
            stopped = λ not. absurd (not was_running);
          };
        }
          where
            told : (given : Option Given)
                → course_up_to verdict_after it.pass.logs.plan it.pass.core p
                ≡ course_up_to verdict_after it.pass.logs.plan it.pass.core it.pass.finished ++ option_to_list given
                → GivesVerdict verdict_after before done_with (turn_of given)
            told given e =
                subst (λ (q : OfCore). course_up_to verdict_after q.logs.plan q.core p ≡ course_up_to verdict_after q.logs.plan q.core q.finished ++ option_to_list (given_in (turn_of given)))
                has.pass (e ∙ ap (λ (o : Option Given). course_up_to verdict_after it.pass.logs.plan it.pass.core it.pass.finished ++ option_to_list o) (given-of given))

            by : (given : Option Given) → IfSome given (λ g. g.number ≡ p) → Answers before done_with (turn_of given)
            by None number = (running, inr (inr (inl (let same = finished_is in omega arith))))
            by (Some g) number = (running, number)

      -- the packet at hand, taken by its kept row
      pub finishes : (state : State) (counts : CoreCounts) (p : ℕ) → p ≡ at_hand it → (given : Option Given) (row : Option Row) (own : Bool)
          → p ≤ frame_count it.pass.logs.plan → row ≡ kept_row it.pass.logs.plan p → own ≡ delivers_to it.pass.logs.plan it.pass.core p
          → StandsFor state (kept_rows it.pass.logs.plan it.pass.finished ++ option_to_list row)
          → option_to_list given ≡ cond own (option_to_list (option_map (λ r. record { number = p; verdict = verdict_after (kept_rows it.pass.logs.plan it.pass.finished) r }) row)) []
          → IsTurn StandsFor verdict_after before (record it { state = state; counts = counts; lost_to = 0; pass = record it.pass { finished = p } }) (turn_of given)
      finishes state counts p hand given row own to row-is own-is stands gives =
          let plan : Plan = it.pass.logs.plan in
          let n : ℕ = it.pass.finished in
          let core : ℕ = it.pass.core in
          turn-finished state counts p hand given
          (subst (StandsFor state) (ap (λ (o : Option Row). kept_rows plan n ++ option_to_list o) row-is ∙ sym (kept_rows-more plan n p (sym hand))) stands)
          (course-more plan n p (sym hand) core verdict_after
          ∙ ap (λ (xs : List Given). course_up_to verdict_after plan core n ++ xs)
          (sym (gives ∙ given_kept plan n p (sym hand) core verdict_after (omega arith) to own row own-is row-is)))
          (number-of p (λ (r : Row). verdict_after (kept_rows plan n) r) given own row gives)
