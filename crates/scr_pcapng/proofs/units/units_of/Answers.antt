use Rattle.std.proofs.Common.{◌≤◌, ◌^◌, arith}
use Rattle.std.proofs.Math.Nat.{one-le-pow}
use Rattle.scr_pcapng.proofs.units.units_of.Goals as goal

pub returns-then-value-lt128-clause-some : goal.returns-then-value-lt128-clause-some
returns-then-value-lt128-clause-some g =
    let power : 1 ≤ 10 ^ g.from.result = one-le-pow g.from.result 10 (omega arith) in
    let is = g.pow.ensures in
    omega arith
