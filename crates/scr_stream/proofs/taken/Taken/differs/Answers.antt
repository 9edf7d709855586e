use Rattle.std.proofs.Common.{◌≡◌, ◌-◌, ℕ, Bool, true, sym, ◌∙◌, arith}
use Rattle.std.specs.List.{slice_get}
use Rattle.scr_stream.specs.Frames.{frame_of, carried_row}
use Rattle.scr_stream.specs.Tests.{clash}
use Rattle.scr_stream.proofs.Ranges.{any-found, any-step}
use Rattle.scr_stream.proofs.taken.Taken.differs.Goals as goal

pub returns-then-differs_at : goal.returns-then-differs_at
returns-then-differs_at c =
    let it = frame_of c.args.frame.now in
    let rows = c.args.self.now.rows.items in
    let f : ℕ → Bool = λ p. clash (slice_get rows (p - 1)) (carried_row it p) in
    let found : f c.loop-p.p ≡ true = sym c.differs_at.ensures ∙ c.if-differs_at.true in
    sym (any-found f _ _ c.loop-p.p (omega arith) (omega arith) found)

pub loop-p-preserved : goal.loop-p-preserved
loop-p-preserved c =
    let it = frame_of c.args.frame.now in
    let rows = c.args.self.now.rows.items in
    let f : ℕ → Bool = λ p. clash (slice_get rows (p - 1)) (carried_row it p) in
    any-step f _ c.loop-p.p c.loop-p.auto.p c.loop-p.invariant (sym c.differs_at.ensures ∙ c.if-differs_at.false)
