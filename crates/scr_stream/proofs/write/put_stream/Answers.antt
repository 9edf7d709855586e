use Rattle.std.proofs.Common.{◌≡◌, ◌++◌, ℕ, List, ap, ◌∙◌, subst, length}
use Rattle.std.proofs.lemmas.Result.{err_from_is_err_and}
use Rattle.scr_base.specs.Streams.{StopsWithin, Passes}
use Rattle.scr_plan.specs.Plan.{frame_count}
use Rattle.scr_wire.specs.Spelling.{spelling}
use Rattle.scr_wire.specs.declared.message.Message.TheVariants.{End}
use Rattle.scr_stream.specs.Streamed.{stream_header, frames_of}
use Rattle.scr_stream.proofs.Putting.{header-fails, frames-fail, end-fails, stream-written, end-spelled}
use Rattle.scr_stream.proofs.write.put_stream.Goals as goal

pub returns-in_err-put-clause-text : goal.returns-in_err-put-clause-text
returns-in_err-put-clause-text g c =
    let failed = err_from_is_err_and c.from_residual.result c.from_residual.ensures.1 in
    let plan = c.args.plan.now in
    let header-is : c.stream_header-header.result ≡ stream_header c.args.program plan.cores plan.history =
    c.stream_header-header.ensures ∙ ap (λ (k : ℕ). stream_header c.args.program k c.history.result) c.cores.ensures.cores
    ∙ ap (stream_header c.args.program plan.cores) c.history.ensures.history in
    let P : List ℕ → Type 0 = λ t. StopsWithin (g.O.Sink.written c.args.out.now) (g.O.Sink.written c.put.new.out) (c.new-batch.result ++ t) in
    rw failed.1 (header-fails _ _ c.new-batch.result (stream_header c.args.program plan.cores plan.history)
    (frames_of plan ++ spelling (End (frame_count plan))) c.new-batch.ensures (subst P header-is c.in_err-put.ensures.text))

pub returns-in_err-put_frames-clause-text : goal.returns-in_err-put_frames-clause-text
returns-in_err-put_frames-clause-text g c =
    let failed = err_from_is_err_and c.from_residual-in_err-put_frames.result c.from_residual-in_err-put_frames.ensures.1 in
    let plan = c.args.plan.now in
    let header-is : c.stream_header-header.result ≡ stream_header c.args.program plan.cores plan.history =
    c.stream_header-header.ensures ∙ ap (λ (k : ℕ). stream_header c.args.program k c.history.result) c.cores.ensures.cores
    ∙ ap (stream_header c.args.program plan.cores) c.history.ensures.history in
    let P : List ℕ → Type 0 = λ t. Passes (g.O.Sink.written c.args.out.now) (g.O.Sink.written c.put.new.out) c.new-batch.result c.put.new.self t in
    rw failed.1 (frames-fail _ _ _ c.new-batch.result c.put.new.self (stream_header c.args.program plan.cores plan.history)
    (frames_of plan) (spelling (End (frame_count plan))) c.new-batch.ensures (subst P header-is c.in_ok-put.ensures.text) c.in_err-put_frames.ensures.text)

pub returns-in_err-put-2-clause-text : goal.returns-in_err-put-2-clause-text
returns-in_err-put-2-clause-text g c =
    let failed = err_from_is_err_and c.from_residual-in_err-put-2.result c.from_residual-in_err-put-2.ensures.1 in
    let plan = c.args.plan.now in
    let header-is : c.stream_header-header.result ≡ stream_header c.args.program plan.cores plan.history =
    c.stream_header-header.ensures ∙ ap (λ (k : ℕ). stream_header c.args.program k c.history.result) c.cores.ensures.cores
    ∙ ap (stream_header c.args.program plan.cores) c.history.ensures.history in
    let P : List ℕ → Type 0 = λ t. Passes (g.O.Sink.written c.args.out.now) (g.O.Sink.written c.put.new.out) c.new-batch.result c.put.new.self t in
    let end-is : c.message_header-end.result ≡ spelling (End (frame_count plan)) =
    end-spelled (length c.rows.result.now) (frame_count plan) c.message_header-end.result (ap length c.rows.ensures.rows) c.message_header-end.ensures in
    let Q : List ℕ → Type 0 = λ t. StopsWithin (g.O.Sink.written c.put_frames.new.out) (g.O.Sink.written c.put-2.new.out) (c.put_frames.new.batch ++ t) in
    rw failed.1 (end-fails _ _ _ _ c.new-batch.result c.put.new.self c.put_frames.new.batch (stream_header c.args.program plan.cores plan.history)
    (frames_of plan) (spelling (End (frame_count plan))) c.new-batch.ensures (subst P header-is c.in_ok-put.ensures.text) c.in_ok-put_frames.ensures.text
    (subst Q end-is c.in_err-put-2.ensures.text))

pub returns-clause-text : goal.returns-clause-text
returns-clause-text g c =
    let plan = c.args.plan.now in
    let header-is : c.stream_header-header.result ≡ stream_header c.args.program plan.cores plan.history =
    c.stream_header-header.ensures ∙ ap (λ (k : ℕ). stream_header c.args.program k c.history.result) c.cores.ensures.cores
    ∙ ap (stream_header c.args.program plan.cores) c.history.ensures.history in
    let P : List ℕ → Type 0 = λ t. Passes (g.O.Sink.written c.args.out.now) (g.O.Sink.written c.put.new.out) c.new-batch.result c.put.new.self t in
    let end-is : c.message_header-end.result ≡ spelling (End (frame_count plan)) =
    end-spelled (length c.rows.result.now) (frame_count plan) c.message_header-end.result (ap length c.rows.ensures.rows) c.message_header-end.ensures in
    let Q : List ℕ → Type 0 = λ t. Passes (g.O.Sink.written c.put_frames.new.out) (g.O.Sink.written c.put-2.new.out) c.put_frames.new.batch c.put-2.new.self t in
    stream-written _ _ _ _ _ c.new-batch.result c.put.new.self c.put_frames.new.batch c.put-2.new.self (stream_header c.args.program plan.cores plan.history)
    (frames_of plan) (spelling (End (frame_count plan))) c.finish.result c.new-batch.ensures (subst P header-is c.in_ok-put.ensures.text) c.in_ok-put_frames.ensures.text
    (subst Q end-is c.in_ok-put-2.ensures.text) c.finish.ensures.text
