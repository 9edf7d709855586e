use Rattle.std.proofs.Common.{ℕ, List, ◌++◌}
use Rattle.std.specs.Prelude.{codes, decimal}
use Rattle.std.proofs.lemmas.Result.{err_from_is_err_and}
use Rattle.scr_base.proofs.Streams.{BatchesText-then, StopsWithin-longer}
use Rattle.scr_base.proofs.Counts.{CountsError-then}
use Rattle.scr_words.specs.WordLines.{cause_line}
use Rattle.scr_words.proofs.word_line.put_word_line.Goals as goal

-- what stands in front of the cause
abbrev head : ℕ → List ℕ
head word = codes "scr: word " ++ (decimal word ++ codes ": ")

pub returns-in_err-put_pieces-clause-text : goal.returns-in_err-put_pieces-clause-text
returns-in_err-put_pieces-clause-text g c =
    let failed = err_from_is_err_and c.from_residual.result c.from_residual.ensures.1 in
    let front = rw c.from.ensures at c.in_err-put_pieces.ensures.text in
    rw failed.1 (StopsWithin-longer _ _ c.args.batch.now (head c.args.fault.now.word) (cause_line c.args.fault.now.cause) front)

pub returns-clause-text : goal.returns-clause-text
returns-clause-text g c =
    let front = rw c.from.ensures at c.in_ok-put_pieces.ensures.text in
    BatchesText-then _ _ _ c.args.batch.now c.put_pieces.new.self c.put_cause.new.batch (head c.args.fault.now.word)
    (cause_line c.args.fault.now.cause) c.put_cause.result front c.put_cause.ensures.text

pub returns-clause-cause : goal.returns-clause-cause
returns-clause-cause g c =
    CountsError-then g.E.Sink.faults g.E.Sink.wants _ _ _ c.put_cause.result c.in_ok-put_pieces.ensures.cause.ok.0 c.in_ok-put_pieces.ensures.cause.ok.1
    c.put_cause.ensures.cause
