-- A core's way, turn by turn.
use Rattle.std.proofs.Common.{◌≡◌, ℕ, ◌+◌, ◌-◌, ◌≤◌, List, [], ◌∷◌, ◌++◌, Option, Some, None, option_to_list, refl, sym, ap, ◌∙◌, subst, arith, append_assoc}
use Rattle.std.specs.Prelude.{filter_map}
use Rattle.std.specs.List.{range_with_len}
use Rattle.std.proofs.lemmas.List.{append-nil, append_cancel_left}
use Rattle.std.proofs.lemmas.List.Elements.{filter_map-append}
use Rattle.scr_base.specs.declared.row.Row.{Row}
use Rattle.scr_base.specs.declared.row.Verdict.{Verdict}
use Rattle.scr_plan.specs.declared.given.Given.{Given}
use Rattle.scr_plan.specs.declared.counting.CoreCounts.{CoreCounts}
use Rattle.scr_plan.specs.Plan.{Plan, frame_count}
use Rattle.scr_plan.specs.Counts.{plan_counts, counts_up_to}
use Rattle.scr_plan.proofs.FromOne.{range-append}
use Rattle.scr_log.specs.declared.view.Noted.{Noted}
use Rattle.scr_log.specs.declared.view.Noted.TheVariants.{Halt}
use Rattle.scr_log.specs.Passes.{LogsOf, OfCore, looked}
use Rattle.scr_log.specs.Answers.{EndsWith}
use Rattle.scr_wire.proofs.Decides.{decided-le}
use Rattle.scr_replica.specs.declared.standing.Standing.TheVariants as standing
use Rattle.scr_replica.specs.declared.turn.Turn.{Turn}
use Rattle.scr_replica.specs.OneCore.{given_to, course_up_to, course, kept_rows, entries}
use Rattle.scr_replica.specs.Replicas.{Replica, Stands, IsReplica, IsThrough}
use Rattle.scr_replica.specs.Turns.{given_in, HasMoreLooks, GoesOn, GivesVerdict}
use Rattle.scr_replica.specs.Ways.{HasWatched, CameFrom, IsOnItsWay}
use Rattle.scr_replica.specs.declared.gathered.CoreTally.{CoreTally}
use Rattle.scr_replica.specs.Answers.{core_tally, core_answer}
use Rattle.scr_replica.proofs.Taking.{course-zero}

-- the course up to a packet is a front of the whole
abbrev behind : (verdict_after : List Row → Row → Verdict) (plan : Plan) (core n : ℕ) → List Given
behind verdict_after plan core n = filter_map (given_to verdict_after plan core) (range_with_len (1 + n) (frame_count plan - n))

course-parts : (verdict_after : List Row → Row → Verdict) (plan : Plan) (core n : ℕ) → n ≤ frame_count plan
    → course verdict_after plan core ≡ course_up_to verdict_after plan core n ++ behind verdict_after plan core n
unfolding course_up_to
course-parts verdict_after plan core n to =
    let all : frame_count plan ≡ n + (frame_count plan - n) = omega arith in
    let f : ℕ → Option Given = given_to verdict_after plan core in
    ap (λ (k : ℕ). filter_map f (range_with_len 1 k)) all
    ∙ ap (filter_map f) (range-append 1 n (frame_count plan - n))
    ∙ filter_map-append f (range_with_len 1 n) (range_with_len (1 + n) (frame_count plan - n))

-- a longer front, by its next verdict
next-part : (whole front rest more behind : List Given) → whole ≡ front ++ rest → whole ≡ (front ++ more) ++ behind → rest ≡ more ++ behind
next-part whole front rest more behind one other =
    append_cancel_left front rest (more ++ behind) (sym one ∙ other ∙ append_assoc front more behind)

finished-within : {State : Type 0} (it : Replica State) → IsReplica it → it.pass.finished ≤ frame_count it.pass.logs.plan
finished-within it is =
    let most = decided-le it.pass.logs.plan it.pass.core it.lane.count in
    let published = is.published in
    let finished = is.finished in
    omega arith

more-then : (a b c : OfCore) → HasMoreLooks a b → HasMoreLooks b c → HasMoreLooks a c
more-then a b c one other =
    (one.0 ++ other.0, other.1 ∙ ap (λ (l : List Noted). l ++ other.0) one.1 ∙ append_assoc a.looks one.0 other.0)

pub ends-then : (a b c : OfCore) (look : Noted) → HasMoreLooks a b → EndsWith b c look → EndsWith a c look
ends-then a b c look one other = (
  one.0 ++ other.0,
  other.1
      ∙ ap (λ (l : List Noted). (l ++ other.0) ++ look ∷ []) one.1
      ∙ ap (λ (l : List Noted). l ++ look ∷ []) (append_assoc a.looks one.0 other.0),
)

-- a replica that has watched the halt word a while
module _ {State : Type 0} where
  pub watched_none : (it : Replica State) → HasWatched it it
  watched_none it = record { same = refl; looks = ([], sym (append-nil it.pass.looks)) }

  module _ (old mid new : Replica State) (value : ℕ) (has : HasWatched old mid) (is : new ≡ record mid { pass = looked mid.pass (Halt value) }) where
    pub watched_more : HasWatched old new
    watched_more = record {
      same =
          is
          ∙ ap (λ (it : Replica State). record it { pass = record it.pass { looks = mid.pass.looks ++ Halt value ∷ [] } }) has.same
          ∙ ap (λ (looks : List Noted). record old { pass = record old.pass { looks = looks } }) (sym (ap (λ (it : Replica State). it.pass.looks) is));
      looks = more-then old.pass mid.pass new.pass has.looks (Halt value ∷ [], ap (λ (it : Replica State). it.pass.looks) is);
    }

    pub watched_halt : value ≡ 1 → EndsWith old.pass new.pass (Halt 1)
    watched_halt one = (
      has.looks.0,
      ap (λ (it : Replica State). it.pass.looks) is
          ∙ ap (λ (looks : List Noted). looks ++ Halt value ∷ []) has.looks.1
          ∙ ap (λ (v : ℕ). (old.pass.looks ++ has.looks.0) ++ Halt v ∷ []) one,
    )

module _ {State : Type 0} (StandsFor : State → List Row → Type 0) where
  -- a turn more
  came-on : (start : OfCore) (old new : Replica State) → CameFrom StandsFor start old → GoesOn old new → IsReplica new → Stands StandsFor new
      → CameFrom StandsFor start new
  came-on start old new came on is stands = record {
    replica = is;
    stands = stands;
    of_these = ap (λ (p : OfCore). p.logs) on.pass ∙ came.of_these;
    core = ap (λ (p : OfCore). p.core) on.pass ∙ came.core;
    looks = more-then start old.pass new.pass came.looks on.looks;
    halts = ap (λ (p : OfCore). p.halts) on.pass ∙ came.halts;
  }

  -- a look more
  pub came-watched : (start : OfCore) (old new : Replica State) → CameFrom StandsFor start old → HasWatched old new → CameFrom StandsFor start new
  came-watched start old new came watched =
      let seen : OfCore = record old.pass { looks = new.pass.looks } in
      let P : Replica State → Type 0 = λ it. CameFrom StandsFor start it in
      subst P (sym watched.same) (record {
        replica = record {
          is_logs = came.replica.is_logs;
          core = came.replica.core;
          its_lane = came.replica.its_lane;
          published = came.replica.published;
          finished = came.replica.finished;
          one_more = came.replica.one_more;
          counts = came.replica.counts;
          lost = came.replica.lost;
          through = came.replica.through;
        };
        stands = came.stands;
        of_these = came.of_these;
        core = came.core;
        looks = more-then start old.pass seen came.looks watched.looks;
        halts = came.halts;
      })

module _ {State : Type 0} (StandsFor : State → List Row → Type 0) (verdict_after : List Row → Row → Verdict) where
  -- a replica that has given nothing yet
  pub begins : (Awaits : (whole rest : List Given) → Type 0) (it : Replica State) → IsReplica it → Stands StandsFor it → it.pass.finished ≡ 0
      → Awaits (course verdict_after it.pass.logs.plan it.pass.core) (course verdict_after it.pass.logs.plan it.pass.core)
      → IsOnItsWay StandsFor verdict_after Awaits it.pass it
  begins Awaits it is stands none awaits =
      let whole : List Given = course verdict_after it.pass.logs.plan it.pass.core in
      record {
        came = record {
          replica = is;
          stands = stands;
          of_these = refl;
          core = refl;
          looks = ([], sym (append-nil it.pass.looks));
          halts = refl;
        };
        rest = whole;
        parts =
            ap (λ (front : List Given). front ++ whole) (sym (course-zero verdict_after it.pass.logs.plan it.pass.core))
            ∙ ap (λ (n : ℕ). course_up_to verdict_after it.pass.logs.plan it.pass.core n ++ whole) (sym none);
        awaits = awaits;
      }

  -- another outlet awaits the same, or the same outlet later
  pub awaits-on : (Awaits Awaits_then : (whole rest : List Given) → Type 0) → ((whole rest : List Given) → Awaits whole rest → Awaits_then whole rest)
      → (start : OfCore) (old new : Replica State) → new ≡ old → IsOnItsWay StandsFor verdict_after Awaits start old
      → IsOnItsWay StandsFor verdict_after Awaits_then start new
  awaits-on Awaits Awaits_then goes start old new same way =
      let P : Replica State → Type 0 = λ it. IsOnItsWay StandsFor verdict_after Awaits_then start it in
      subst P (sym same) (record {
        came = way.came;
        rest = way.rest;
        parts = way.parts;
        awaits = goes (course verdict_after start.logs.plan start.core) way.rest way.awaits;
      })

  -- a turn that a replica on its way has made
  module _ (Awaits : (whole rest : List Given) → Type 0) (start : OfCore) (old new : Replica State) (answer : Turn)
      (way : IsOnItsWay StandsFor verdict_after Awaits start old) (on : GoesOn old new) (is : IsReplica new) (stands : Stands StandsFor new)
      (verdict : GivesVerdict verdict_after old new answer) where
    abbrev whole : List Given
    whole = course verdict_after start.logs.plan start.core

    abbrev up_to : ℕ → List Given
    up_to n = course_up_to verdict_after start.logs.plan start.core n

    abbrev later : List Given
    later = behind verdict_after start.logs.plan start.core new.pass.finished

    pub came-further : CameFrom StandsFor start new
    came-further = came-on StandsFor start old new way.came on is stands

    given-more : up_to new.pass.finished ≡ up_to old.pass.finished ++ option_to_list (given_in answer)
    given-more =
        let more : List Given = option_to_list (given_in answer) in
        let P : Plan → ℕ → Type 0 = λ p c. course_up_to verdict_after p c new.pass.finished ≡ course_up_to verdict_after p c old.pass.finished ++ more in
        subst (λ (p : Plan). P p start.core) (ap (λ (l : LogsOf). l.plan) way.came.of_these)
        (subst (λ (c : ℕ). P old.pass.logs.plan c) way.came.core verdict)

    within : new.pass.finished ≤ frame_count start.logs.plan
    within =
        let plan : frame_count new.pass.logs.plan ≡ frame_count start.logs.plan = ap (λ (l : LogsOf). frame_count l.plan) came-further.of_these in
        let below = finished-within new is in
        omega arith

    -- what is awaited begins with its verdict
    pub given-first : way.rest ≡ option_to_list (given_in answer) ++ later
    given-first = next-part whole (up_to old.pass.finished) way.rest (option_to_list (given_in answer)) later way.parts
        (course-parts verdict_after start.logs.plan start.core new.pass.finished within ∙ ap (λ (front : List Given). front ++ later) given-more)

    -- one without a verdict
    pub goes-without : given_in answer ≡ None → IsOnItsWay StandsFor verdict_after Awaits start new
    goes-without none = record {
      came = came-further;
      rest = later;
      parts = course-parts verdict_after start.logs.plan start.core new.pass.finished within;
      awaits = subst (Awaits whole) (given-first ∙ ap (λ (o : Option Given). option_to_list o ++ later) none) way.awaits;
    }

    -- one with a verdict: the outlet awaits it, and once it has it, the rest
    module _ (given : Given) (some : given_in answer ≡ Some given) where
      is-awaited : Awaits whole (given ∷ later)
      is-awaited = subst (Awaits whole) (given-first ∙ ap (λ (o : Option Given). option_to_list o ++ later) some) way.awaits

      pub some-awaited : (whole : List Given) × (rest : List Given) × Awaits whole (given ∷ rest)
      some-awaited = (whole, later, is-awaited)

      pub goes-with : (Awaits_then : (whole rest : List Given) → Type 0)
          → ((whole rest : List Given) → Awaits whole (given ∷ rest) → Awaits_then whole rest)
          → (last : Replica State) → HasWatched new last → IsOnItsWay StandsFor verdict_after Awaits_then start last
      goes-with Awaits_then gives last watched = record {
        came = came-watched StandsFor start new last came-further watched;
        rest = later;
        parts =
            course-parts verdict_after start.logs.plan start.core new.pass.finished within
            ∙ ap (λ (it : Replica State). up_to it.pass.finished ++ later) (sym watched.same);
        awaits = gives whole later is-awaited;
      }

  -- at its end it has published and finished all, and given out what it should
  module _ (Awaits : (whole rest : List Given) → Type 0) (start : OfCore) (it : Replica State)
      (way : IsOnItsWay StandsFor verdict_after Awaits start it)
      (ended : it.standing ≡ standing.Ended) (plan : Plan) (these : start.logs.plan ≡ plan) (core : ℕ) (of_core : start.core ≡ core) where
    own-plan : it.pass.logs.plan ≡ plan
    own-plan = ap (λ (l : LogsOf). l.plan) way.came.of_these ∙ these

    own-core : it.pass.core ≡ core
    own-core = way.came.core ∙ of_core

    all : it.pass.finished ≡ frame_count plan
    all = (way.came.replica.through ended).1 ∙ ap frame_count own-plan

    -- nothing is awaited any more
    pub none-awaited : Awaits (course verdict_after plan core) []
    none-awaited =
        let whole : List Given = course verdict_after start.logs.plan start.core in
        let no : way.rest ≡ [] =
        append_cancel_left whole way.rest []
        (ap (λ (n : ℕ). course_up_to verdict_after start.logs.plan start.core n ++ way.rest) (sym (all ∙ ap frame_count (sym these)))
        ∙ sym way.parts
        ∙ sym (append-nil whole)) in
        let P : Plan → ℕ → Type 0 = λ p c. Awaits (course verdict_after p c) [] in
        subst (λ (p : Plan). P p core) these (subst (λ (c : ℕ). P start.logs.plan c) of_core (subst (Awaits whole) no way.awaits))

    pub core-tally : (flows : ℕ) (count_after : List Row → ℕ) → flows ≡ count_after (kept_rows it.pass.logs.plan it.pass.finished)
        → (counts : CoreCounts) → counts ≡ it.counts → (number : ℕ) → number ≡ it.pass.core
        → record { core = number; counts = counts; flows = flows } ≡ core_tally count_after plan core
    core-tally flows count_after flows-are counts counts-are number number-is =
        let numbers : number ≡ core = number-is ∙ own-core in
        let counted : counts ≡ plan_counts plan core =
        counts-are
        ∙ way.came.replica.counts
        ∙ ap (λ (p : Plan). counts_up_to p it.pass.core it.pass.finished) own-plan
        ∙ ap (λ (k : ℕ). counts_up_to plan k it.pass.finished) own-core
        ∙ ap (counts_up_to plan core) all in
        let kept : flows ≡ entries count_after plan =
        flows-are
        ∙ ap (λ (p : Plan). count_after (kept_rows p it.pass.finished)) own-plan
        ∙ ap (λ (n : ℕ). count_after (kept_rows plan n)) all in
        λ i. record { core = numbers i; counts = counted i; flows = kept i }

-- what a core should answer, once its list has all that it was to get
pub core-answer : (verdict_after : List Row → Row → Verdict) (count_after : List Row → ℕ) (plan : Plan) (core : ℕ) (tally : CoreTally)
    → tally ≡ core_tally count_after plan core → (verdicts : List Given) → course verdict_after plan core ≡ verdicts ++ []
    → record { core = tally.core; verdicts = verdicts; counts = tally.counts; flows = tally.flows } ≡ core_answer verdict_after count_after plan core
core-answer verdict_after count_after plan core tally is verdicts all =
    let given : verdicts ≡ course verdict_after plan core = sym (all ∙ append-nil verdicts) in
    λ i. record { core = (is i).core; verdicts = given i; counts = (is i).counts; flows = (is i).flows }

-- one that is through has published all
pub published-all : {State : Type 0} (it : Replica State) → IsReplica it → IsThrough it → it.pass.published ≡ frame_count it.pass.logs.plan
published-all it is through =
    let most = decided-le it.pass.logs.plan it.pass.core it.lane.count in
    let published = is.published in
    let finished = is.finished in
    let all = through.1 in
    omega arith
