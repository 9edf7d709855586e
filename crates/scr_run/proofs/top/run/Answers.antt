use Rattle.std.proofs.lemmas.Result.{err_from_is_err_and}
use Rattle.scr_run.specs.Ends.{ended}
use Rattle.scr_run.proofs.Main.{Ends-of_words, Ends-of_refusal, without-input, runs-accepted}
use Rattle.scr_run.proofs.top.run.Goals as goal

pub returns-in_err-chosen-clause-ends : goal.returns-in_err-chosen-clause-ends
returns-in_err-chosen-clause-ends g c =
    let failed = err_from_is_err_and c.from_residual.result c.from_residual.ensures.1 in
    rw failed.1 (Ends-of_refusal c.args.words.now (g.S.Source.left c.args.capture.now) _ g.O.Sink.written g.O.Sink.faults g.O.Sink.wants c.args.out.now _ _
    failed.0 failed.2 c.in_err-chosen.ensures.refused)

pub returns-clause-ends : goal.returns-clause-ends
returns-clause-ends g c =
    Ends-of_words c.args.words.now c.in_ok-chosen.chosen c.in_ok-chosen.ensures.accepted (g.S.Source.left c.args.capture.now) _ g.O.Sink.written _ _ _ _
    g.O.Sink.faults g.O.Sink.wants (ended c.run_chosen.result) c.run_chosen.ensures.ends

pub returns-clause-unread : goal.returns-clause-unread
returns-clause-unread g c = λ none.
    without-input c.args.words.now c.in_ok-chosen.chosen c.in_ok-chosen.ensures.accepted _ c.run_chosen.ensures.unread none

pub run_chosen-requires-clause-known : goal.run_chosen-requires-clause-known
run_chosen-requires-clause-known g c κs within = runs-accepted c.args.words.now c.in_ok-chosen.chosen c.in_ok-chosen.ensures.accepted
