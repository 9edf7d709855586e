use Rattle.std.proofs.Common.{◌+◌, ℕ, refl, sym, ap, ◌∙◌}
use Rattle.scr_stream.specs.Frames.{frame_of}
use Rattle.scr_stream.proofs.Keeping.{differs-kept, frame-kept}
use Rattle.scr_stream.proofs.taken.Taken.add.Goals as goal

pub returns-then-differs-clause-refused : goal.returns-then-differs-clause-refused
returns-then-differs-clause-refused c = λ found. (
  refl,
  λ history frames stands due. sym (differs-kept history frames _ _ _ stands (frame_of c.args.frame.now) c.requires.later due)
      ∙ sym c.differs.ensures ∙ c.if-differs.true,
)

pub returns-clause-added : goal.returns-clause-added
returns-clause-added c = λ history frames stands due. (
  sym (differs-kept history frames _ _ _ stands (frame_of c.args.frame.now) c.requires.later due)
      ∙ sym c.differs.ensures ∙ c.if-differs.false,
  λ follows. frame-kept history frames _ _ _ stands (frame_of c.args.frame.now) follows _ _ _
      c.in_ok-add_rows.ensures.rows c.in_ok-add_rows.ensures.missing (ap (λ (n : ℕ). n + 1) c.add_rows.ensures.frames),
)
