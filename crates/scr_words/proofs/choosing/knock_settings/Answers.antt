use Rattle.std.proofs.Common.{◌≡◌, refl, None}
use Rattle.scr_knock.specs.Ports.{ports_in}
use Rattle.scr_words.specs.declared.operand.Operand.TheVariants.{Ports}
use Rattle.scr_words.specs.WordFaults.{setting_fault}
use Rattle.scr_words.specs.GivenSettings.{value_for}
use Rattle.scr_words.proofs.GivenValues.{value_for-passes, setting_fault-none, MatchResult-more}
use Rattle.scr_words.proofs.choosing.knock_settings.Goals as goal

pub returns-clause-ports : goal.returns-clause-ports
returns-clause-ports c =
    let passes : setting_fault (ports_in (value_for Ports c.args.tested.operands.now)) ≡ None =
    value_for-passes c.args.tested.command Ports c.args.tested.operands.now c.requires.values refl in
    let read = rw c.value.ensures at (c.set.ensures.ports refl) in
    MatchResult-more (ports_in (value_for Ports c.args.tested.operands.now)) _ _ (λ ports set. (set.1, set.2, set.3))
    (setting_fault-none (ports_in (value_for Ports c.args.tested.operands.now)) _ _ passes read)
