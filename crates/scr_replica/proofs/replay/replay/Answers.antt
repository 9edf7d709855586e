use Rattle.std.proofs.Common.{◌≡◌, ◌<◌, ◌≤◌, ◌+◌, ◌^◌, ◌++◌, ℕ, List, Option, length, get_or, option_to_list, arith, refl, sym, ap, subst, ◌∙◌}
use Rattle.std.specs.Prelude.{is_some}
use Rattle.std.specs.Option.{option_copied}
use Rattle.scr_base.specs.declared.row.Row.{Row}
use Rattle.scr_plan.specs.declared.counting.CoreCounts.{CoreCounts}
use Rattle.scr_plan.specs.declared.given.Given.{Given}
use Rattle.scr_plan.specs.Plan.{Plan, frame_count}
use Rattle.scr_plan.specs.Counts.{plan_counts}
use Rattle.scr_replica.specs.declared.entry.Entry.{Entry}
use Rattle.scr_replica.specs.Entries.{row_in, is_delivered, entry_of, entries_up_to}
use Rattle.scr_replica.specs.Told.{Told}
use Rattle.scr_replica.specs.OneCore.{kept_row, kept_rows, course_up_to, course, entries}
use Rattle.scr_plan.specs.Counts.{counts_up_to}
use Rattle.scr_replica.proofs.Knowing.{length-entries}
use Rattle.scr_replica.proofs.Packets.{is_some-kept_row, is_some-entry, is_delivered-entry}
use Rattle.scr_replica.proofs.Found.{entry_at, known_of_entry}
use Rattle.scr_replica.proofs.Taking.{kept_rows-zero, course-zero, own_entries, is_some-copied, kept_rows-more, counts_few, counts-more, course-more, given_kept}
use Rattle.scr_replica.proofs.replay.replay.Goals as goal
use Rattle.scr_replica.proofs.replay.replay.Goals.{In-loop-place}

pub loop-place-init : goal.loop-place-init
loop-place-init g c = record {
  state =
      subst (λ (rows : List Row). g.P.Program.StandsFor c.args.settings.now c.in_ok-state.state rows) (sym (kept_rows-zero c.args.plan.now))
      c.in_ok-state.ensures;
  verdicts =
      c.in_ok-verdicts.ensures.items ∙ sym (course-zero (g.P.Program.verdict_after c.args.settings.now) c.args.plan.now c.args.core);
  counts = refl;
}

-- the core's own list, the place in it, and the entry there
own : (g : _) (c : In-loop-place g) → c.entries-entry-items.result.now ≡ entries_up_to c.args.plan.now c.args.core (frame_count c.args.plan.now)
own g c =
    own_entries c.args.plan.now c.args.cores.now c.args.core c.entries-entry-items.result.now c.index-cores-core.result c.requires.known
    c.requires.of_the_run (c.entries-entry-items.ensures ∙ ap (λ (x : Told). x.known) c.index-cores-core.is)

below : (g : _) (c : In-loop-place g) → c.loop-place.place < frame_count c.args.plan.now
below g c = omega (arith, ap length (own g c), length-entries c.args.plan.now c.args.core (frame_count c.args.plan.now), c.loop-place-test.true)

entry_is : (g : _) (c : In-loop-place g) (d : Entry) → get_or c.entries-entry-items.result.now c.loop-place.place d ≡ entry_of c.args.plan.now c.args.core (c.loop-place.place + 1)
entry_is g c d =
    ap (λ (x : List Entry). get_or x c.loop-place.place d) (own g c)
    ∙ entry_at c.args.plan.now c.args.core c.loop-place.place (below g c) d

-- the counts are small
few : (g : _) (c : In-loop-place g) → (c.loop-place.counts.delivered + 1 < 2 ^ 32) × (c.loop-place.counts.carried + 1 < 2 ^ 32) × (c.loop-place.counts.recovered + 1 < 2 ^ 32) × (c.loop-place.counts.skipped + 1 < 2 ^ 32)
few g c =
    let was = c.loop-place.invariant.counts in
    let within = below g c in
    let rows = c.rows.ensures.ranges.few_rows in
    let all = counts_few c.args.plan.now c.loop-place.place (c.loop-place.place + 1) refl c.args.core in (
      omega (arith, ap (λ (x : CoreCounts). x.delivered) was, all.0, within, rows),
      omega (arith, ap (λ (x : CoreCounts). x.carried) was, all.1, within, rows),
      omega (arith, ap (λ (x : CoreCounts). x.recovered) was, all.2, within, rows),
      omega (arith, ap (λ (x : CoreCounts). x.skipped) was, all.3, within, rows),
    )

pub resolved-row-requires-clause-of_the_run : goal.resolved-row-requires-clause-of_the_run
resolved-row-requires-clause-of_the_run g c = below g c

pub resolved-row-requires-clause-entry : goal.resolved-row-requires-clause-entry
resolved-row-requires-clause-entry g c =
    known_of_entry c.args.plan.now c.args.core c.loop-place.place (below g c) (get_or c.entries-entry-items.result.now c.loop-place.place _) (entry_is g c _)

pub count-requires-clause-few_delivered : goal.count-requires-clause-few_delivered
count-requires-clause-few_delivered g c = (few g (goal.at.count-requires-clause-few_delivered g c).In-loop-place).0

pub count-requires-clause-few_carried : goal.count-requires-clause-few_carried
count-requires-clause-few_carried g c = (few g (goal.at.count-requires-clause-few_carried g c).In-loop-place).1

pub count-requires-clause-few_recovered : goal.count-requires-clause-few_recovered
count-requires-clause-few_recovered g c = (few g (goal.at.count-requires-clause-few_recovered g c).In-loop-place).2

pub count-requires-clause-few_skipped : goal.count-requires-clause-few_skipped
count-requires-clause-few_skipped g c = (few g (goal.at.count-requires-clause-few_skipped g c).In-loop-place).3

pub overflow_cast-number : goal.overflow_cast-number
overflow_cast-number g c = omega (arith, below g (goal.at.overflow_cast-number g c).In-loop-place, c.rows.ensures.ranges.few_rows)

pub overflow_add-number : goal.overflow_add-number
overflow_add-number g c = omega (arith, below g (goal.at.overflow_add-number g c).In-loop-place, c.rows.ensures.ranges.few_rows)

pub loop-place-preserved : goal.loop-place-preserved
loop-place-preserved g c =
    let here = (goal.at.loop-place-preserved g c).In-loop-place in
    let was = c.loop-place.invariant in
    let plan : Plan = c.args.plan.now in
    let core : ℕ = c.args.core in
    let n : ℕ = c.loop-place.place in
    let p : ℕ = n + 1 in
    let within = below g here in
    let verdict_after = g.P.Program.verdict_after c.args.settings.now in
    let row : Option Row = option_copied c.resolved-row.result in
    let entry : Entry = get_or c.entries-entry-items.result.now n _ in
    let entry-is : entry ≡ entry_of plan core p = entry_is g here _ in
    let kept-is : row ≡ kept_row plan p = c.resolved-row.ensures in
    let from : 1 ≤ p = omega arith in
    let to : p ≤ frame_count plan = omega arith in
    let own-is = c.is_delivered-own.ensures ∙ ap is_delivered entry-is ∙ is_delivered-entry plan p from to core in
    let rows-more : kept_rows plan n ++ option_to_list row ≡ kept_rows plan p =
    ap (λ (o : Option Row). kept_rows plan n ++ option_to_list o) kept-is ∙ sym (kept_rows-more plan n p refl) in
    record {
      state =
          subst (λ (rows : List Row). g.P.Program.StandsFor c.args.settings.now c.apply.new.state rows) rows-more
          (c.in_ok-given.ensures.state (kept_rows plan n) was.state);
      verdicts =
          c.in_ok-keep.ensures
          ∙ ap (λ (xs : List Given). xs ++ option_to_list c.in_ok-given.given) was.verdicts
          ∙ ap (λ (xs : List Given). course_up_to verdict_after plan core n ++ xs)
          (c.in_ok-given.ensures.given (kept_rows plan n) was.state ∙ given_kept plan n p refl core verdict_after from to c.is_delivered-own.result row own-is kept-is)
          ∙ sym (course-more plan n p refl core verdict_after);
      counts =
          counts-more plan n p refl core c.loop-place.counts c.count.new.counts c.is_delivered-own.result c.is_some.result c.is_some-in-loop-place.result was.counts
          own-is
          (c.is_some.ensures ∙ is_some-copied c.row.result ∙ ap is_some c.row.ensures ∙ ap (λ (x : Entry). is_some (row_in x)) entry-is ∙ is_some-entry plan p from to core)
          (c.is_some-in-loop-place.ensures ∙ is_some-copied c.resolved-row.result ∙ ap is_some kept-is ∙ is_some-kept_row plan p from to)
          c.count.ensures.delivered c.count.ensures.carried c.count.ensures.recovered c.count.ensures.skipped;
    }

pub returns : goal.returns
returns g c =
    let plan : Plan = c.args.plan.now in
    let core : ℕ = c.args.core in
    let verdict_after = g.P.Program.verdict_after c.args.settings.now in
    let count_after = g.P.Program.count_after c.args.settings.now in
    let was = c.loop-place.invariant in
    let items = own_entries plan c.args.cores.now core c.entries-entry-items.result.now c.index-cores-core.result c.requires.known
    c.requires.of_the_run (c.entries-entry-items.ensures ∙ ap (λ (x : Told). x.known) c.index-cores-core.is) in
    let all : c.loop-place.place ≡ frame_count plan =
    omega (arith, ap length items, length-entries plan core (frame_count plan), c.loop-place-test.false, c.loop-place.auto.place-end) in
    let verdicts : c.loop-place.verdicts.items ≡ course verdict_after plan core = was.verdicts ∙ ap (course_up_to verdict_after plan core) all in
    let counts : c.loop-place.counts ≡ plan_counts plan core = was.counts ∙ ap (counts_up_to plan core) all in
    let flows : c.flows-flows.result ≡ entries count_after plan =
    c.flows-flows.ensures (kept_rows plan c.loop-place.place) was.state ∙ ap (λ (k : ℕ). count_after (kept_rows plan k)) all in
    λ i. record { core = core; verdicts = verdicts i; counts = counts i; flows = flows i }
