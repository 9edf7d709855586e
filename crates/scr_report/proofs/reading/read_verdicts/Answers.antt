use Rattle.std.proofs.Common.{◌≡◌, ◌∷◌, ◌++◌, [], List, ℕ, ap, sym, ◌∙◌, subst}
use Rattle.scr_plan.specs.declared.given.Given.{Given}
use Rattle.scr_report.specs.Text.{verdict_line}
use Rattle.scr_report.specs.Grammar.{MayFollow, FollowOn}
use Rattle.scr_report.specs.Parts.{last_number}
use Rattle.scr_report.proofs.Stages.{GoesPast-push, FollowOn-push, last-push}
use Rattle.scr_report.proofs.reading.read_verdicts.Goals as goal

pub loop-given-preserved : goal.loop-given-preserved
loop-given-preserved c =
    let names = c.args.names.now in
    let before = c.loop-given.verdicts.items in
    let given : Given = c.in-Some.given in
    let items : c.push.new.self.items ≡ before ++ given ∷ [] = c.in_ok-push.ensures.items in
    let may : MayFollow names (last_number 0 before) given = let P : ℕ → Type 0 = λ n. MayFollow names n given in subst P c.loop-given.invariant.last c.in-Some.ensures.0 in
    let Q : List Given → Type 0 = λ all. FollowOn names 0 all in
    record {
      follow = subst Q (sym items) (FollowOn-push names 0 before given c.loop-given.invariant.follow may);
      last = sym (ap (last_number 0) items ∙ last-push 0 before given);
      past = GoesPast-push (verdict_line names) c.args.lines.now c.loop-given.lines c.pass.new.self before c.push.new.self.items given _
          c.loop-given.invariant.past (sym c.line.ensures ∙ c.in-Some.ensures.1) c.pass.ensures.past items;
    }
