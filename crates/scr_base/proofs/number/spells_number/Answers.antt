use Rattle.std.proofs.Common.{rules, ◌<◌, ℕ, length, slice_index_or, arith}
use Rattle.std.specs.Bool.{Decides}
use Rattle.std.specs.Int.{IsInRange}
use Rattle.std.proofs.lemmas.Bool.Decides.{nat_tests}
use Rattle.scr_base.proofs.Numbers.{number-is}
use Rattle.scr_base.proofs.number.spells_number.Goals as goal

pub returns-then-not-is_empty : goal.returns-then-not-is_empty
returns-then-not-is_empty c =
    let each : Decides c.all.result ((k : ℕ) → k < length c.args.text.now → IsInRange 48 57 (slice_index_or c.args.text.now k 0)) = search rules in
    number-is c.args.text.now c.all.result (grind (arith, nat_tests, c.if-not-is_empty.ensures)) each
