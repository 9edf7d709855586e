-- What the door says.
use Rattle.scr_program.specs.Rules.{Rules, rules_of_step}
use Rattle.scr_program.specs.Verdicts.{pass_drop_other}
use Rattle.scr_knock.specs.declared.settings.KnockSettings.{KnockSettings}
use Rattle.scr_knock.specs.Rows.{row_of}
use Rattle.scr_knock.specs.Step.{step}

abbrev pub rules : KnockSettings → Rules
rules settings = rules_of_step row_of (step settings) pass_drop_other
