-- No state that a run can hold is above 15.
use Rattle.std.proofs.Common.{◌∙◌, inl, inr, arith, sym}
use Rattle.std.proofs.lemmas.Bool.{cases_lt}
use Rattle.scr_tables.proofs.Spelled.{lacks-beyond}
use Rattle.scr_tables.proofs.table.first_lacking.Goals as goal

pub returns-then-lacks_any : goal.returns-then-lacks_any
returns-then-lacks_any c = (sym c.lacks_any.ensures ∙ c.if-lacks_any.true, c.loop-state.invariant)

pub returns : goal.returns
returns c = λ state.
    elim (cases_lt state 16) [
      | inl small ↦ c.loop-state.invariant state (omega arith)
      | inr beyond ↦ lacks-beyond c.args.rules.now c.requires state beyond
    ]
