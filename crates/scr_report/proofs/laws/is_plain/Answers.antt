use Rattle.std.proofs.Common.{◌≡◌, ◌<◌, ◌^◌, List, ℕ, All, length, true, rules, sym, ap, ◌∙◌, subst, arith}
use Rattle.std.proofs.lemmas.Bool.{MatchBool-at_true, both_ways}
use Rattle.scr_plan.specs.declared.given.Given.{Given}
use Rattle.scr_plan.specs.declared.counting.CoreCounts.{CoreCounts}
use Rattle.scr_report.specs.Outcome.{Outcome, report_text}
use Rattle.scr_report.specs.Grammar.{AreCounts, SpellsReport}
use Rattle.scr_report.specs.ReadBack.{ArePlain, Grow}
use Rattle.scr_report.proofs.ReadBack.{spells-written, follow-on}
use Rattle.scr_report.proofs.laws.is_plain.Goals as goal
use Rattle.scr_report.proofs.laws.is_plain.Goals.{then-are_named, else-are_named}

pub returns-then-grow-clause-read_back : goal.returns-then-grow-clause-read_back
returns-then-grow-clause-read_back c = λ is.
    elim c.if-are_named.branch [
      | then-are_named w ↦ (
          let names = c.args.names.now in
          let r = c.report.inside in
          let seen : Outcome = record { verdicts = r.verdicts.items; frames = r.frames; delivered = r.delivered; kept = r.kept; cores = r.cores.items; flows = r.flows; totals = r.totals.items } in
          let is_plain : c.are_plain.result ≡ true = search rules in
          let plain : ArePlain names = MatchBool-at_true (ArePlain names) _ is_plain c.are_plain.ensures in
          let grows : w.grow.result ≡ true = sym w.value-is ∙ c.if-grow.true in
          let G : List Given → Type 0 = λ t. Grow 0 t in
          let grow : Grow 0 r.verdicts.items = subst G w.deref-then-are_named.ensures.value (MatchBool-at_true (Grow 0 w.deref-then-are_named.result.now) _ grows w.grow.ensures.answer) in
          let F : List Given → Type 0 = λ t. All (λ (given : Given). given.number < 2 ^ 32) t in
          let fit : F r.verdicts.items = subst F w.deref-then-are_named.ensures.value (w.grow.ensures.fit grows) in
          let N : List Given → Type 0 = λ t. All (λ (given : Given). given.verdict.0 < c.len-count.result) t in
          let M : ℕ → Type 0 = λ n. All (λ (given : Given). given.verdict.0 < n) r.verdicts.items in
          let named : M (length names) = subst M c.len-count.ensures.count (subst N c.deref-3.ensures.value (MatchBool-at_true (N c.deref-3.result.now) _ w.if-are_named.true c.are_named.ensures)) in
          let C : List CoreCounts → Type 0 = λ t. All AreCounts t in
          let T : List ℕ → Type 0 = λ t. All (λ (total : ℕ). total < 2 ^ 64) t in
          let P : Outcome → Type 0 = λ o. SpellsReport names (report_text names o true) o in
          subst P c.report.view_is (spells-written names seen plain (record {
            verdicts = follow-on names 0 r.verdicts.items plain grow named fit;
            frames = c.tell_bounds.ensures.frames;
            delivered = c.tell_bounds.ensures.delivered;
            kept = c.tell_bounds.ensures.kept;
            few_cores = omega (arith, ap length c.deref-2.ensures.value, c.deref-2.ensures.len, c.len-else-len-count.ensures, c.if-len-gt-MOST_CORES.false);
            cores = subst C c.deref-2.ensures.value c.tell_counts.ensures;
            flows = c.tell_bounds.ensures.flows;
            a_total_each = omega (arith, ap length c.deref.ensures.value, c.deref.ensures.len, c.len.ensures, c.if-len-count.false, c.len-count.ensures.count);
            totals = subst T c.deref.ensures.value c.tell_bounds.ensures.totals;
          })))
      | else-are_named w ↦ absurd (both_ways c.are_named.result w.if-are_named.false (sym w.value-is ∙ c.if-grow.true))
    ]
