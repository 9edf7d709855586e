-- What the flood counter says.
use Rattle.scr_program.specs.Rules.{Rules, rules_of_step}
use Rattle.scr_program.specs.Verdicts.{pass_drop_other}
use Rattle.scr_ddos.specs.declared.settings.DdosSettings.{DdosSettings}
use Rattle.scr_ddos.specs.Rows.{row_of}
use Rattle.scr_ddos.specs.Step.{step}

abbrev pub rules : DdosSettings → Rules
rules settings = rules_of_step row_of (step settings) pass_drop_other
