-- What the token bucket says.
use Rattle.scr_program.specs.Rules.{Rules, rules_of_step}
use Rattle.scr_program.specs.Verdicts.{pass_drop_other}
use Rattle.scr_bucket.specs.declared.settings.BucketSettings.{BucketSettings}
use Rattle.scr_bucket.specs.Rows.{row_of}
use Rattle.scr_bucket.specs.Step.{step}

abbrev pub rules : BucketSettings → Rules
rules settings = rules_of_step row_of (step settings) pass_drop_other
