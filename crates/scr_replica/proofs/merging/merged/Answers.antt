use Rattle.std.proofs.Common.{rules, Vec, Global, Some, ◌≡◌, ◌≢◌, ◌+◌, ◌<◌, ◌≤◌, ℕ, zero, suc, List, [], ◌∷◌, ◌++◌, length, get_or, set, map, replicate, inl, inr, arith, refl, sym, ap, subst, ◌∙◌}
use Rattle.std.proofs.lemmas.Bool.{cases_eq}
use Rattle.std.specs.Prelude.{slice_get, MatchOption}
use Rattle.std.proofs.lemmas.List.{get_or_default, length-set, length-replicate, get_or-set_same, get_or-set_other}
use Rattle.scr_plan.specs.declared.given.Given.{Given}
use Rattle.scr_plan.specs.Plan.{frame_count}
use Rattle.scr_plan.specs.Delivered.{core_number}
use Rattle.scr_base.specs.declared.row.Row.{Row}
use Rattle.scr_base.specs.declared.row.Verdict.{Verdict}
use Rattle.scr_replica.specs.Answers.{CoreAnswer, courses}
use Rattle.scr_replica.specs.OneCore.{course}
use Rattle.scr_replica.proofs.InOrder.{IsMerged, IsMerged-none, IsMerged-all, IsMerged-taken, IsMerged-passed, own_course}
use Rattle.scr_replica.proofs.merging.merged.Goals as goal
use Rattle.scr_replica.proofs.merging.merged.Goals.{in-Some+in_ok-push, in_default}

get_or-zeros : (k i : ℕ) → ◌≡◌ {A = ℕ} (get_or (replicate k 0) i 0) 0
get_or-zeros zero i = refl
get_or-zeros (suc k) zero = refl
get_or-zeros (suc k) (suc i) = get_or-zeros k i

pub loop-n-init : goal.loop-n-init
loop-n-init c =
    let zeros : c.in_ok-places.places.items ≡ replicate (length c.args.results.now) 0 = search rules in
    let none = λ (core : ℕ). get_or-zeros (length c.args.results.now) core in
    record {
      count = ap length zeros ∙ length-replicate (length c.args.results.now) 0;
      small = λ core. omega (arith, ap (λ (xs : List ℕ). get_or xs core 0) zeros, none core);
      merged = λ verdict_after are.
          subst (IsMerged verdict_after c.args.plan.now 1 c.in_ok-places.places.items) (sym c.new-merged.ensures.items)
          (IsMerged-none verdict_after c.args.plan.now c.in_ok-places.places.items (zeros ∙ ap (λ (k : ℕ). replicate k 0) c.requires));
    }

pub loop-n-preserved : goal.loop-n-preserved
loop-n-preserved c =
    let was = c.loop-n.invariant in
    let plan = c.args.plan.now in
    let n : ℕ = c.loop-n.n in
    let core : ℕ = c.core_of-core.result in
    let from : 1 ≤ n = c.loop-n.auto.n in
    let to : n ≤ frame_count plan = omega (arith, c.loop-n-test.true, ap length c.rows.ensures.rows) in
    let core-is : core ≡ core_number plan.cores n = c.core_of-core.ensures ∙ ap (λ (k : ℕ). core_number k n) c.cores.ensures.cores in
    let some = c.cores.ensures.ranges.a_core in
    let below : core < plan.cores = omega (arith, core-is) in
    let places : List ℕ = c.loop-n.places.items in
    let counted = c.requires in
    let within : core < length places = omega (arith, was.count) in
    let place : c.index.result.now ≡ get_or places core 0 = c.index.ensures ∙ get_or_default places core c.index.result.now 0 within in
    let own : (verdict_after : List Row → Row → Verdict) → map (λ (it : CoreAnswer). it.verdicts) c.args.results.now ≡ courses verdict_after plan
    → c.verdicts_of-own.result.now ≡ course verdict_after plan core =
    λ verdict_after are.
    c.verdicts_of-own.ensures
    ∙ ap (λ (it : CoreAnswer). it.verdicts) c.index-results-core.is
    ∙ own_course verdict_after plan c.args.results.now core c.index-results-core.result are counted below in
    elim c.match-verdict_at.branch [
      | in-Some+in_ok-push w ↦ (
          let old : w.index_mut.result.now ≡ get_or places core 0 =
          w.index_mut.ensures.value ∙ get_or_default places core w.index_mut.result.now 0 within in
          let written : c.match-verdict_at.places.items ≡ set places core (get_or places core 0 + 1) =
          ap (λ (v : Vec ℕ Global). v.items) w.places-is ∙ ap (λ (k : ℕ). set places core (k + 1)) old in
          let pushed : c.match-verdict_at.merged.items ≡ c.loop-n.merged.items ++ w.in-Some.given ∷ [] =
          ap (λ (v : Vec Given Global). v.items) w.merged-is ∙ w.in_ok-push.ensures.items in
          let found : slice_get c.verdicts_of-own.result.now (get_or places core 0) ≡ Some w.in-Some.given =
          ap (slice_get c.verdicts_of-own.result.now) (sym place) ∙ w.in-Some.ensures.some.0 in
          record {
            count = ap length written ∙ length-set places core (get_or places core 0 + 1) ∙ was.count;
            small = λ other.
                elim (cases_eq other core) as (λ _. get_or c.match-verdict_at.places.items other 0 < n + 1) [
                  | inl same ↦ omega (
                    arith,
                    ap (λ (xs : List ℕ). get_or xs other 0) written,
                    ap (λ (k : ℕ). get_or (set places core (get_or places core 0 + 1)) k 0) same,
                    get_or-set_same places core (get_or places core 0 + 1) 0 within,
                    was.small core,
                  )
                  | inr apart ↦ omega (
                    arith,
                    ap (λ (xs : List ℕ). get_or xs other 0) written,
                    get_or-set_other places core other (get_or places core 0 + 1) 0 apart,
                    was.small other,
                  )
                ];
            merged = λ verdict_after are.
                subst (λ (xs : List ℕ). IsMerged verdict_after plan (n + 1) xs c.match-verdict_at.merged.items) (sym written)
                (subst (IsMerged verdict_after plan (n + 1) (set places core (get_or places core 0 + 1))) (sym pushed)
                (IsMerged-taken verdict_after plan n from to places c.loop-n.merged.items (was.merged verdict_after are) core c.verdicts_of-own.result.now core-is below
                (own verdict_after are) w.in-Some.given within found w.in-Some.ensures.some.1));
          })
      | in_default w ↦ (
          let kept : c.match-verdict_at.places.items ≡ places = ap (λ (v : Vec ℕ Global). v.items) w.places-is in
          let same : c.match-verdict_at.merged.items ≡ c.loop-n.merged.items = ap (λ (v : Vec Given Global). v.items) w.merged-is in
          let later = subst (λ (k : ℕ). MatchOption (slice_get c.verdicts_of-own.result.now k) (Unit {0}) (λ g. g.number ≢ n)) place w.in_default.ensures.none in
          record {
            count = ap length kept ∙ was.count;
            small = λ other. omega (arith, ap (λ (xs : List ℕ). get_or xs other 0) kept, was.small other);
            merged = λ verdict_after are.
                subst (λ (xs : List ℕ). IsMerged verdict_after plan (n + 1) xs c.match-verdict_at.merged.items) (sym kept)
                (subst (IsMerged verdict_after plan (n + 1) places) (sym same)
                (IsMerged-passed verdict_after plan n from to places c.loop-n.merged.items (was.merged verdict_after are) core c.verdicts_of-own.result.now core-is below
                (own verdict_after are) later));
          })
    ]

pub returns : goal.returns
returns c =
    let was = c.loop-n.invariant in
    let plan = c.args.plan.now in
    let all : c.loop-n.n ≡ frame_count plan + 1 = omega (arith, c.loop-n-test.false, c.loop-n.auto.n-end, ap length c.rows.ensures.rows) in
    λ verdict_after are. IsMerged-all verdict_after plan c.loop-n.n c.loop-n.places.items c.loop-n.merged.items all (was.merged verdict_after are)
