use Rattle.std.proofs.Common.{◌≡◌, ℕ, ◌<◌, None}
use Rattle.scr_words.specs.WordFaults.{fault_at}
use Rattle.scr_words.proofs.faults.test_operands.Given as goal

abbrev pub invariant-loop-place : goal.invariant-loop-place
invariant-loop-place l = (k : ℕ) → k < l.place → fault_at l.command l.operands k ≡ None
