-- What the count of heavy flows says.
use Rattle.scr_program.specs.Rules.{Rules, rules_of_step}
use Rattle.scr_heavy.specs.declared.settings.HeavySettings.{HeavySettings}
use Rattle.scr_heavy.specs.Rows.{row_of}
use Rattle.scr_heavy.specs.Step.{step}
use Rattle.scr_heavy.specs.Verdicts.{names}

abbrev pub rules : HeavySettings → Rules
rules settings = rules_of_step row_of (step settings) names
