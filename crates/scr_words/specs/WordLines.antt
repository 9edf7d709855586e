-- The line of a refused word: its number, its cause, and for a list or a table which piece is refused.
use Rattle.std.specs.Prelude.{ℕ, List, ◌++◌, codes, decimal}
use Rattle.scr_plan.specs.declared.reading.DropCause.{DropCause}
use Rattle.scr_plan.specs.declared.reading.DropCause.TheVariants as drop
use Rattle.scr_plan.specs.declared.reading_delays.DelayCause.{DelayCause}
use Rattle.scr_plan.specs.declared.reading_delays.DelayCause.TheVariants as delay
use Rattle.scr_tables.specs.declared.reading.TableCause.{TableCause}
use Rattle.scr_tables.specs.declared.reading.TableCause.TheVariants as rule
use Rattle.scr_words.specs.declared.word_fault.WordFault.{WordFault}
use Rattle.scr_words.specs.declared.word_fault.WordCause.{WordCause}
use Rattle.scr_words.specs.declared.word_fault.WordCause.TheVariants as cause

abbrev pub drop_cause_name : DropCause → List ℕ
drop_cause_name drop.Empty = codes "Empty"
drop_cause_name drop.Digit = codes "Digit"
drop_cause_name drop.Zero = codes "Zero"
drop_cause_name drop.TooLarge = codes "TooLarge"
drop_cause_name drop.Range = codes "Range"
drop_cause_name drop.Pieces = codes "Pieces"

abbrev pub delay_cause_name : DelayCause → List ℕ
delay_cause_name delay.Empty = codes "Empty"
delay_cause_name delay.Digit = codes "Digit"
delay_cause_name delay.Zero = codes "Zero"
delay_cause_name delay.TooLarge = codes "TooLarge"
delay_cause_name delay.Twice = codes "Twice"
delay_cause_name delay.Pieces = codes "Pieces"

abbrev pub table_cause_name : TableCause → List ℕ
table_cause_name rule.Empty = codes "Empty"
table_cause_name rule.Form = codes "Form"
table_cause_name rule.Range = codes "Range"
table_cause_name rule.Rules = codes "Rules"
table_cause_name rule.NoAny = codes "NoAny"

-- the name of a cause, and where it is met
abbrev pub placed : List ℕ → ℕ → List ℕ
placed name place = name ++ (codes " at " ++ (decimal place ++ codes "\n"))

-- the end of the line of a refused word
abbrev pub cause_line : WordCause → List ℕ
cause_line cause.NoCommand = codes "NoCommand\n"
cause_line cause.Command = codes "Command\n"
cause_line cause.NoEquals = codes "NoEquals\n"
cause_line cause.UnknownName = codes "UnknownName\n"
cause_line cause.NotHere = codes "NotHere\n"
cause_line cause.Twice = codes "Twice\n"
cause_line cause.Program = codes "Program\n"
cause_line cause.Value = codes "Value\n"
cause_line cause.Range = codes "Range\n"
cause_line (cause.Drop refusal place) = codes "Drop " ++ placed (drop_cause_name refusal) place
cause_line cause.Missing = codes "Missing\n"
cause_line (cause.Repeat refusal place) = codes "Repeat " ++ placed (drop_cause_name refusal) place
cause_line (cause.Delay refusal place) = codes "Delay " ++ placed (delay_cause_name refusal) place
cause_line cause.Same = codes "Same\n"
cause_line (cause.Table refusal place) = codes "Table " ++ placed (table_cause_name refusal) place

abbrev pub word_line : WordFault → List ℕ
word_line fault = (codes "scr: word " ++ (decimal fault.word ++ codes ": ")) ++ cause_line fault.cause
