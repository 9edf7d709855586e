-- What the program says that the settings choose: one of the five, a chain of two of them, or a table.
use Rattle.std.specs.Prelude.{ℕ, Option, Some, None}
pub use Rattle.scr_program.specs.Rules.{Rules, ruled_by}
use Rattle.scr_program.specs.Rules.{rules_of_step}
use Rattle.scr_chain.specs.Chains.{chained}
use Rattle.scr_tables.specs.declared.settings.TableSettings.{TableSettings}
use Rattle.scr_tables.specs.Rows as tables
use Rattle.scr_tables.specs.Step as tables_step
use Rattle.scr_ddos.specs.Rules as ddos
use Rattle.scr_heavy.specs.Rules as heavy
use Rattle.scr_bucket.specs.Rules as bucket
use Rattle.scr_knock.specs.Rules as knock
use Rattle.scr_conn.specs.Rules as conn
use Rattle.scr_words.specs.declared.settings.OneSettings.{OneSettings}
use Rattle.scr_words.specs.declared.settings.OneSettings.TheVariants.{Ddos, Heavy, Bucket, Knock, Conn}
use Rattle.scr_words.specs.declared.settings.ProgramSettings.{ProgramSettings}
use Rattle.scr_words.specs.declared.settings.ProgramSettings.TheVariants.{One, Chain, Table}

-- the rules of one program with these settings
abbrev pub rules_of_one : OneSettings → Rules
rules_of_one (Ddos settings) = ddos.rules settings
rules_of_one (Heavy settings) = heavy.rules settings
rules_of_one (Bucket settings) = bucket.rules settings
rules_of_one (Knock settings) = knock.rules settings
rules_of_one (Conn settings) = conn.rules settings

-- the rules of a program that has these, alone or with a second behind it
abbrev pub rules_with : Rules → Option OneSettings → Rules
rules_with first None = first
rules_with first (Some second) = chained first (rules_of_one second)

-- the rules of a table
abbrev pub rules_of_table : TableSettings → Rules
rules_of_table settings = rules_of_step (tables.row_of settings) (tables_step.step settings) tables_step.names

-- the rules of what runs
abbrev pub rules_of : ProgramSettings → Rules
rules_of (One settings) = rules_of_one settings
rules_of (Chain first second) = chained (rules_of_one first) (rules_of_one second)
rules_of (Table settings) = rules_of_table settings

-- the number of a program in a stream
abbrev pub code_of_one : OneSettings → ℕ
code_of_one (Ddos settings) = 0
code_of_one (Heavy settings) = 1
code_of_one (Bucket settings) = 2
code_of_one (Knock settings) = 3
code_of_one (Conn settings) = 4

-- the number of what runs; a chain and a table have none
abbrev pub stream_code : ProgramSettings → Option ℕ
stream_code (One settings) = Some (code_of_one settings)
stream_code (Chain first second) = None
stream_code (Table settings) = None
