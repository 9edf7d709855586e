-- Why the words of a command line are refused. Words are numbered from 1: the first is the command, and each further one
-- is an operand. A place counts the operands from 0, so the operand at place i is word i + 2.
use Rattle.std.specs.Prelude.{◌≡◌, ◌⊎◌, ℕ, ◌+◌, ◌<◌, Bool, true, false, ◌||◌, not, List, [], ◌∷◌, length, take, Option, Some, None, MatchOption, Result, Ok, Err, is_some, codes, if◌then◌else◌}
use Rattle.std.specs.List.{list_any, slice_index_or}
use Rattle.std.specs.Option.{option_map_or, option_or}
use Rattle.std.specs.Str.{bytes_eq}
use Rattle.scr_program.specs.declared.setting.SettingError.{SettingError}
use Rattle.scr_program.specs.declared.setting.SettingError.TheVariants as setting
use Rattle.scr_program.specs.Settings.{setting_within}
use Rattle.scr_knock.specs.Ports.{ports_in}
use Rattle.scr_words.specs.declared.word_fault.WordCause.{WordCause}
use Rattle.scr_words.specs.declared.word_fault.WordCause.TheVariants as cause
use Rattle.scr_words.specs.declared.word_fault.WordFault.{WordFault}
use Rattle.scr_words.specs.declared.settings.Command.{Command}
use Rattle.scr_words.specs.declared.program_name.Choice.{Choice}
use Rattle.scr_words.specs.declared.operand.Operand.{Operand}
use Rattle.scr_words.specs.declared.operand.Operand.TheVariants as operand
use Rattle.scr_words.specs.declared.operand.Form.{Form}
use Rattle.scr_words.specs.declared.operand.Form.TheVariants.{OneProgram, Number, DropList, RepeatList, DelayList, YesNo, ThreePorts, FirstProgram, SecondProgram, TableText}
use Rattle.scr_words.specs.Operands.{all_firsts, all_ones, line_of, operand_named, command_named, one_named, program_named, is_taken, required}
use Rattle.scr_words.specs.WordParts.{has_equals, name_in, value_in, is_named, given, is_absent, program_in, chosen}
use Rattle.scr_words.specs.TextFaults.{drop_list_fault, repeat_list_fault, delay_list_fault, table_fault}

-- the fault of a value that is read as a setting is
abbrev pub setting_cause : SettingError → WordCause
setting_cause setting.UnknownName = cause.UnknownName
setting_cause setting.Value = cause.Value
setting_cause setting.Range = cause.Range

abbrev pub setting_fault : {A : Type 0} → Result A SettingError → Option WordCause
setting_fault (Ok value) = None
setting_fault (Err error) = Some (setting_cause error)

-- the fault of a value that must be a name
abbrev pub name_fault : Bool → Option WordCause
name_fault is_name = if is_name then None else Some cause.Program

-- the fault of a value beside a command, by its form
abbrev pub value_fault : Command → Form → List ℕ → Option WordCause
value_fault command OneProgram value = name_fault (is_some (program_named command value))
value_fault command (Number least greatest) value = setting_fault (setting_within value least greatest)
value_fault command DropList value = drop_list_fault value
value_fault command RepeatList value = repeat_list_fault value
value_fault command DelayList value = delay_list_fault value
value_fault command YesNo value =
    if bytes_eq value (codes "yes") || bytes_eq value (codes "no") then None else Some cause.Value
value_fault command ThreePorts value = setting_fault (ports_in value)
value_fault command FirstProgram value = name_fault (is_some (one_named all_firsts value))
value_fault command SecondProgram value = name_fault (is_some (one_named all_ones value))
value_fault command TableText value = table_fault value

-- the fault of a word where the other program of a chain is named before and has this value too
abbrev pub repeated : List (List ℕ) → Operand → List ℕ → Option WordCause
repeated before other value =
    if option_map_or (bytes_eq value) (given (line_of other).name before) false then Some cause.Same else None

abbrev pub same_fault : List (List ℕ) → Operand → List ℕ → Option WordCause
same_fault before operand.First value = repeated before operand.Second value
same_fault before operand.Second value = repeated before operand.First value
same_fault before operand value = None

-- the fault of a value that must be a number, which is the same beside each command
abbrev pub number_fault : Form → List ℕ → Option WordCause
number_fault (Number least greatest) value = setting_fault (setting_within value least greatest)
number_fault _ value = Some cause.Value

-- the fault of what an operand is given
abbrev pub given_fault : Command → List (List ℕ) → Operand → List ℕ → Option WordCause
given_fault command before operand value =
    option_or (value_fault command (line_of operand).form value) (same_fault before operand value)

-- The fault of a word, beside this command and what the words choose, and behind the operands `before`: the first of these
-- that holds of it.
module _ (command : Command) (choice : Choice) (before : List (List ℕ)) (word : List ℕ) where
  abbrev pub named_fault : Operand → Option WordCause
  named_fault operand =
      if not (is_taken command choice (line_of operand).taker) then Some cause.NotHere else
      (if list_any (is_named (name_in word)) before then Some cause.Twice
      else given_fault command before operand (value_in word))

  unfoldable pub operand_fault : Option WordCause
  operand_fault =
      if not (has_equals word) then Some cause.NoEquals
      else option_map_or named_fault (operand_named (name_in word)) (Some cause.UnknownName)

-- the fault of the operand at a place; what runs is chosen by all operands
abbrev pub fault_at : Command → List (List ℕ) → ℕ → Option WordCause
fault_at command operands place =
    operand_fault command (chosen command operands) (take place operands) (slice_index_or operands place [])

-- no operand has a fault
abbrev pub AreFaultless : Command → List (List ℕ) → Type 0
AreFaultless command operands = (place : ℕ) → place < length operands → fault_at command operands place ≡ None

-- the first operand that has a fault
pub record IsFirstFault (command : Command) (operands : List (List ℕ)) (fault : WordFault) : Type 0 where
  pub place : ℕ
  pub within : place < length operands
  pub before : (i : ℕ) → i < place → fault_at command operands i ≡ None
  pub cause : fault_at command operands place ≡ Some fault.cause
  pub number : fault.word ≡ place + 2

-- a required operand is absent
abbrev pub lacks_operand : Command → List (List ℕ) → Bool
lacks_operand command operands = list_any (is_absent operands) (required (program_in command operands))

-- no operand has a fault, and a required one is absent: one word more is missing
pub record IsMissing (command : Command) (operands : List (List ℕ)) (fault : WordFault) : Type 0 where
  pub faultless : AreFaultless command operands
  pub lacks : lacks_operand command operands ≡ true
  pub cause : fault.cause ≡ cause.Missing
  pub number : fault.word ≡ length operands + 2

-- the words are refused with this fault
abbrev pub AreRefused : List (List ℕ) → WordFault → Type 0
AreRefused [] fault = fault ≡ record { word = 1; cause = cause.NoCommand }
AreRefused (first ∷ operands) fault = MatchOption (command_named first)
    (fault ≡ record { word = 1; cause = cause.Command })
    (λ command. IsFirstFault command operands fault ⊎ IsMissing command operands fault)
