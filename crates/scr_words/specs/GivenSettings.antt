-- The settings that words choose, where no word is refused.
use Rattle.std.specs.Prelude.{◌≡◌, ℕ, ◌-◌, List, [], ◌∷◌, Some, unwrap_or, MatchResult, codes}
use Rattle.std.specs.Option.{option_map_or}
use Rattle.std.specs.Str.{bytes_eq}
use Rattle.scr_base.specs.Numbers.{number_of}
use Rattle.scr_plan.specs.Link.{Link}
use Rattle.scr_plan.specs.Spelling.{SpellsRanges}
use Rattle.scr_plan.specs.DelaySpelling.{SpellsDelays}
use Rattle.scr_knock.specs.Ports.{ports_in}
use Rattle.scr_tables.specs.Spelling as tables
use Rattle.scr_words.specs.declared.settings.Command.{Command}
use Rattle.scr_words.specs.declared.settings.ProgramSettings.{ProgramSettings}
use Rattle.scr_words.specs.declared.settings.ProgramSettings.TheVariants.{One, Chain, Table}
use Rattle.scr_words.specs.declared.settings.OneSettings.{OneSettings}
use Rattle.scr_words.specs.declared.settings.OneSettings.TheVariants.{Ddos, Heavy, Bucket, Knock, Conn}
use Rattle.scr_words.specs.declared.settings.RunSettings.{RunSettings}
use Rattle.scr_words.specs.declared.settings.Shape.{Shape}
use Rattle.scr_knock.specs.declared.settings.KnockSettings.{KnockSettings}
use Rattle.scr_words.specs.declared.program_name.OneName.{OneName}
use Rattle.scr_words.specs.declared.program_name.OneName.TheVariants as name
use Rattle.scr_words.specs.declared.program_name.ProgramName.TheVariants as program
use Rattle.scr_words.specs.declared.operand.Operand.{Operand}
use Rattle.scr_words.specs.declared.operand.Operand.TheVariants as operand
use Rattle.scr_words.specs.Operands.{line_of, command_named}
use Rattle.scr_words.specs.WordParts.{given, program_in, first_in, second_in}
use Rattle.scr_words.specs.WordFaults.{AreFaultless}

-- the value of an operand: that of its word, or the default
abbrev pub value_for : Operand → List (List ℕ) → List ℕ
value_for operand operands = unwrap_or (given (line_of operand).name operands) (line_of operand).default

abbrev pub number_for : Operand → List (List ℕ) → ℕ
number_for operand operands = number_of (value_for operand operands)

-- the history has no default of its own: it is one less than the cores
abbrev pub history_for : List (List ℕ) → ℕ
history_for operands =
    option_map_or number_of (given (line_of operand.History).name operands) (number_for operand.Cores operands - 1)

-- the ports that a text spells
abbrev pub HasPorts : List ℕ → KnockSettings → Type 0
HasPorts text settings = MatchResult (ports_in text)
    (λ ports. (settings.first ≡ ports.0) × (settings.second ≡ ports.1) × (settings.third ≡ ports.2))
    (λ refusal. ⊥)

-- which program settings are for
abbrev pub name_of : OneSettings → OneName
name_of (Ddos settings) = name.Ddos
name_of (Heavy settings) = name.Heavy
name_of (Bucket settings) = name.Bucket
name_of (Knock settings) = name.Knock
name_of (Conn settings) = name.Conn

-- its numbers
abbrev pub HasNumbers : List (List ℕ) → OneSettings → Type 0
HasNumbers operands (Ddos settings) =
    (settings.threshold ≡ number_for operand.Threshold operands) × (settings.flows ≡ number_for operand.Flows operands)
HasNumbers operands (Heavy settings) =
    (settings.bytes ≡ number_for operand.Bytes operands) × (settings.flows ≡ number_for operand.Flows operands)
HasNumbers operands (Bucket settings) = (settings.rate ≡ number_for operand.Rate operands)
    × (settings.burst ≡ number_for operand.Burst operands)
    × (settings.flows ≡ number_for operand.Flows operands)
HasNumbers operands (Knock settings) =
    HasPorts (value_for operand.Ports operands) settings × (settings.flows ≡ number_for operand.Flows operands)
HasNumbers operands (Conn settings) =
    (settings.idle ≡ number_for operand.Idle operands) × (settings.flows ≡ number_for operand.Flows operands)

-- the chosen program, or both of a chain, with its numbers or its rules
abbrev pub HasProgram : Command → List (List ℕ) → ProgramSettings → Type 0
HasProgram command operands (One settings) =
    (program_in command operands ≡ Some (program.One (name_of settings))) × HasNumbers operands settings
HasProgram command operands (Chain first second) = (program_in command operands ≡ Some program.Chain)
    × (first_in operands ≡ Some (name_of first))
    × (second_in operands ≡ Some (name_of second))
    × HasNumbers operands first
    × HasNumbers operands second
HasProgram command operands (Table settings) = (program_in command operands ≡ Some program.Table)
    × tables.SpellsTable (value_for operand.Table operands) settings.table
    × (settings.flows ≡ number_for operand.Flows operands)

-- what lies between the sequencer and the cores
pub record HasLink (operands : List (List ℕ)) (link : Link) : Type 0 where
  pub drops : SpellsRanges (value_for operand.Drop operands) link.drops
  pub repeats : SpellsRanges (value_for operand.Repeat operands) link.repeats
  pub delays : SpellsDelays (value_for operand.Delay operands) link.delays
  pub missing : link.missing ≡ []

-- how frames go to cores
pub record HasShape (operands : List (List ℕ)) (shape : Shape) : Type 0 where
  pub cores : shape.cores ≡ number_for operand.Cores operands
  pub history : shape.history ≡ history_for operands
  pub link : HasLink operands shape.link
  pub ring : shape.ring ≡ number_for operand.Ring operands
  pub threads : shape.threads ≡ bytes_eq (value_for operand.Threads operands) (codes "yes")

-- what the operands choose: the value of each
pub record AreChosen (operands : List (List ℕ)) (settings : RunSettings) : Type 0 where
  pub program : HasProgram settings.command operands settings.program
  pub shape : HasShape operands settings.shape
  pub start : settings.start ≡ number_for operand.Start operands
  pub frames : settings.frames ≡ number_for operand.Frames operands
  pub hosts : settings.hosts ≡ number_for operand.Hosts operands

-- the words are accepted with these settings: the first names the command, and no operand has a fault
pub record AreAcceptedBehind (first : List ℕ) (operands : List (List ℕ)) (settings : RunSettings) : Type 0 where
  pub command : command_named first ≡ Some settings.command
  pub faultless : AreFaultless settings.command operands
  pub chosen_are : AreChosen operands settings

abbrev pub AreAccepted : List (List ℕ) → RunSettings → Type 0
AreAccepted [] settings = ⊥
AreAccepted (first ∷ operands) settings = AreAcceptedBehind first operands settings
