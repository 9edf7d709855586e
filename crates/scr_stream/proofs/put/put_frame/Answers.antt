use Rattle.std.proofs.Common.{◌≡◌, ◌≤◌, ◌++◌, ◌-◌, ℕ, List, arith, subst, refl, take, drop}
use Rattle.std.proofs.lemmas.Result.{err_from_is_err_and}
use Rattle.scr_base.specs.Streams.{StopsWithin, BatchesText}
use Rattle.scr_base.proofs.Streams.{StopsWithin-longer, BatchesText-then}
use Rattle.scr_base.specs.declared.row.Row.{Row}
use Rattle.scr_plan.specs.Kept.{first_carried}
use Rattle.scr_wire.specs.Spelling.{rows_bytes}
use Rattle.scr_stream.proofs.Putting.{frame-spelled}
use Rattle.scr_stream.proofs.put.put_frame.Goals as goal

pub returns-in_err-put-clause-text : goal.returns-in_err-put-clause-text
returns-in_err-put-clause-text g c =
    let failed = err_from_is_err_and c.from_residual.result c.from_residual.ensures.1 in
    let first = c.carried_from-first.result in
    let rows : List Row = take (c.args.n - (first - 1)) (drop (first - 1) c.rows.result.now) in
    let first-is : first ≡ first_carried c.args.plan.now.history c.args.n = grind (arith, c.carried_from-first.ensures, c.history.ensures.history) in
    let from = c.requires.a_frame in
    let within : first ≤ c.args.n = omega (arith, first-is) in
    let P : List ℕ → Type 0 = λ t. StopsWithin (g.O.Sink.written c.args.out.now) (g.O.Sink.written c.put.new.out) (c.args.batch.now ++ t) in
    rw failed.1 (subst P (frame-spelled c.args.plan.now c.args.n first rows c.rows.result.now c.message_header-header.result first-is within c.rows.ensures.rows refl c.message_header-header.ensures)
    (StopsWithin-longer _ _ c.args.batch.now c.message_header-header.result (rows_bytes rows) c.in_err-put.ensures.text))

pub returns-clause-text : goal.returns-clause-text
returns-clause-text g c =
    let first = c.carried_from-first.result in
    let rows : List Row = take (c.args.n - (first - 1)) (drop (first - 1) c.rows.result.now) in
    let first-is : first ≡ first_carried c.args.plan.now.history c.args.n = grind (arith, c.carried_from-first.ensures, c.history.ensures.history) in
    let from = c.requires.a_frame in
    let within : first ≤ c.args.n = omega (arith, first-is) in
    let P : List ℕ → Type 0 = λ t. BatchesText (g.O.Sink.written c.args.out.now) (g.O.Sink.written c.put_rows.new.out) c.args.batch.now c.put_rows.new.batch c.put_rows.result t in
    subst P (frame-spelled c.args.plan.now c.args.n first rows c.rows.result.now c.message_header-header.result first-is within c.rows.ensures.rows refl c.message_header-header.ensures)
    (BatchesText-then _ _ _ _ _ _ c.message_header-header.result (rows_bytes rows) c.put_rows.result c.in_ok-put.ensures.text c.put_rows.ensures.text)
