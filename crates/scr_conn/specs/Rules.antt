-- What the tracker says.
use Rattle.scr_program.specs.Rules.{Rules, rules_of_step}
use Rattle.scr_conn.specs.declared.settings.ConnSettings.{ConnSettings}
use Rattle.scr_conn.specs.Rows.{row_of}
use Rattle.scr_conn.specs.Step.{step}
use Rattle.scr_conn.specs.Verdicts.{names}

abbrev pub rules : ConnSettings → Rules
rules settings = rules_of_step row_of (step settings) names
