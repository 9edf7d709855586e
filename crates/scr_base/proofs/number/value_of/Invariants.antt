use Rattle.std.proofs.Common.{◌≡◌, ◌<◌, ◌^◌, take}
use Rattle.scr_base.specs.Numbers.{number_of}
use Rattle.scr_base.proofs.number.value_of.Given as goal

abbrev pub invariant-loop-digit : goal.invariant-loop-digit
invariant-loop-digit l = (l.value < 2 ^ 64) × (l.value ≡ number_of (take l.digit-index l.digits))
