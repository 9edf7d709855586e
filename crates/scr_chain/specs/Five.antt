-- The five programs that chains are made of, each with its settings, and their rules.
use Rattle.scr_program.specs.Rules.{Rules}
use Rattle.scr_ddos.specs.declared.settings.DdosSettings.{DdosSettings}
use Rattle.scr_heavy.specs.declared.settings.HeavySettings.{HeavySettings}
use Rattle.scr_bucket.specs.declared.settings.BucketSettings.{BucketSettings}
use Rattle.scr_knock.specs.declared.settings.KnockSettings.{KnockSettings}
use Rattle.scr_conn.specs.declared.settings.ConnSettings.{ConnSettings}
use Rattle.scr_ddos.specs.Rules as ddos
use Rattle.scr_heavy.specs.Rules as heavy
use Rattle.scr_bucket.specs.Rules as bucket
use Rattle.scr_knock.specs.Rules as knock
use Rattle.scr_conn.specs.Rules as conn

pub data Five : Type 0 where
  Ddos : DdosSettings → Five
  Heavy : HeavySettings → Five
  Bucket : BucketSettings → Five
  Knock : KnockSettings → Five
  Conn : ConnSettings → Five

abbrev pub rules_of : Five → Rules
rules_of (Ddos settings) = ddos.rules settings
rules_of (Heavy settings) = heavy.rules settings
rules_of (Bucket settings) = bucket.rules settings
rules_of (Knock settings) = knock.rules settings
rules_of (Conn settings) = conn.rules settings
