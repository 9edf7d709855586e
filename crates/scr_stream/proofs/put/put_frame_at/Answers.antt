use Rattle.std.proofs.Common.{◌≡◌, [], Bool, true, false, cond, sym, ◌∙◌, subst}
use Rattle.scr_base.specs.Streams.{BatchesText, Passes}
use Rattle.scr_plan.specs.Delivered.{delivers}
use Rattle.scr_wire.specs.Spelling.{spelling}
use Rattle.scr_wire.specs.Lane.{frame}
use Rattle.scr_stream.specs.Streamed.{frame_at}
use Rattle.scr_stream.proofs.Putting.{Passes-none}
use Rattle.scr_stream.proofs.put.put_frame_at.Goals as goal

pub returns-then-is_delivered-clause-text : goal.returns-then-is_delivered-clause-text
unfolding frame_at
returns-then-is_delivered-clause-text g c =
    let yes : delivers c.args.plan.now c.args.n ≡ true = sym c.is_delivered.ensures ∙ c.if-is_delivered.true in
    let P : Bool → Type 0 = λ b. BatchesText (g.O.Sink.written c.args.out.now) (g.O.Sink.written c.put_frame.new.out) c.args.batch.now c.put_frame.new.batch c.put_frame.result
    (cond b (spelling (frame c.args.plan.now c.args.n)) []) in
    subst P (sym yes) c.put_frame.ensures.text

pub returns-else-is_delivered-clause-text : goal.returns-else-is_delivered-clause-text
unfolding frame_at
returns-else-is_delivered-clause-text g c =
    let no : delivers c.args.plan.now c.args.n ≡ false = sym c.is_delivered.ensures ∙ c.if-is_delivered.false in
    let P : Bool → Type 0 = λ b. Passes (g.O.Sink.written c.args.out.now) (g.O.Sink.written c.args.out.now) c.args.batch.now c.args.batch.now
    (cond b (spelling (frame c.args.plan.now c.args.n)) []) in
    subst P (sym no) (Passes-none _ _)
