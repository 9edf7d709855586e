-- The operands of a command line: their names, who takes them, what their values are, and which value stands where the
-- words give none.
use Rattle.std.specs.Prelude.{ℕ, ◌≤◌, ⊤, Bool, true, false, ◌&&◌, ◌||◌, List, [], ◌∷◌, Option, Some, None, codes}
use Rattle.std.specs.List.{find}
use Rattle.std.specs.Option.{option_map_or}
use Rattle.std.specs.Str.{bytes_eq}
use Rattle.scr_plan.specs.Limits.{most_cores, longest_history}
use Rattle.scr_program.specs.declared.table.TheConstants.{MOST_FLOWS}
use Rattle.scr_words.specs.Limits.{most_ring, most_frames, most_hosts}
use Rattle.scr_words.specs.declared.settings.Command.{Command}
use Rattle.scr_words.specs.declared.settings.Command.TheVariants.{Run, Plain, Load, Spray, Replay}
use Rattle.scr_words.specs.declared.settings.ProgramSettings.{ProgramSettings}
use Rattle.scr_words.specs.declared.settings.ProgramSettings.TheVariants as settings
use Rattle.scr_words.specs.declared.program_name.OneName.{OneName}
use Rattle.scr_words.specs.declared.program_name.OneName.TheVariants.{Ddos, Heavy, Bucket, Knock, Conn}
use Rattle.scr_words.specs.declared.program_name.ProgramName.{ProgramName}
use Rattle.scr_words.specs.declared.program_name.ProgramName.TheVariants as program
use Rattle.scr_words.specs.declared.program_name.Choice.{Choice}
use Rattle.scr_words.specs.declared.operand.Operand.{Operand}
use Rattle.scr_words.specs.declared.operand.Operand.TheVariants as operand
use Rattle.scr_words.specs.declared.operand.Taker.{Taker}
use Rattle.scr_words.specs.declared.operand.Taker.TheVariants as taker
use Rattle.scr_words.specs.declared.operand.Form.{Form}
use Rattle.scr_words.specs.declared.operand.Form.TheVariants.{OneProgram, Number, DropList, RepeatList, DelayList, YesNo, ThreePorts, FirstProgram, SecondProgram, TableText}

-- the names of the commands and of the programs
abbrev pub command_name : Command → List ℕ
command_name Run = codes "run"
command_name Plain = codes "plain"
command_name Load = codes "load"
command_name Spray = codes "spray"
command_name Replay = codes "replay"

abbrev pub one_name : OneName → List ℕ
one_name Ddos = codes "ddos"
one_name Heavy = codes "heavy"
one_name Bucket = codes "bucket"
one_name Knock = codes "knock"
one_name Conn = codes "conn"

abbrev pub program_name : ProgramName → List ℕ
program_name (program.One one) = one_name one
program_name program.Chain = codes "chain"
program_name program.Table = codes "table"

abbrev pub all_commands : List Command
all_commands = Run ∷ Plain ∷ Load ∷ Spray ∷ Replay ∷ []

abbrev pub all_ones : List OneName
all_ones = Ddos ∷ Heavy ∷ Bucket ∷ Knock ∷ Conn ∷ []

-- those that may be the first of a chain
abbrev pub all_firsts : List OneName
all_firsts = Ddos ∷ Heavy ∷ Bucket ∷ Knock ∷ []

abbrev pub all_programs : List ProgramName
all_programs = program.One Ddos ∷ program.One Heavy ∷ program.One Bucket ∷ program.One Knock ∷ program.One Conn
    ∷ program.Chain ∷ program.Table ∷ []

-- which programs a command knows: a stream is of one of the five
abbrev pub is_of_five : ProgramName → Bool
is_of_five (program.One one) = true
is_of_five program.Chain = false
is_of_five program.Table = false

abbrev pub knows : Command → ProgramName → Bool
knows Run program = true
knows Plain program = true
knows Load program = true
knows Spray program = is_of_five program
knows Replay program = is_of_five program

-- whether a command knows what these settings are for
abbrev pub runs : Command → ProgramSettings → Bool
runs command (settings.One one) = true
runs command (settings.Chain first second) = knows command program.Chain
runs command (settings.Table rules) = knows command program.Table

-- the command, the one among some of the five, or the program with a name, of those that a command knows
unfoldable pub command_named : List ℕ → Option Command
command_named name = find (λ command. bytes_eq (command_name command) name) all_commands

unfoldable pub one_named : List OneName → List ℕ → Option OneName
one_named ones name = find (λ one. bytes_eq (one_name one) name) ones

unfoldable pub program_named : Command → List ℕ → Option ProgramName
program_named command name = find (λ program. knows command program && bytes_eq (program_name program) name) all_programs

-- a line of the table: the name, who takes it, what its value is, and the value that stands where none is given
pub record Line : Type 0 where
  pub name : List ℕ
  pub taker : Taker
  pub form : Form
  pub default : List ℕ

abbrev pub line : List ℕ → Taker → Form → List ℕ → Line
line name taker form default = record { name = name; taker = taker; form = form; default = default }

abbrev pub taker_of : OneName → Taker
taker_of one = taker.Program (program.One one)

-- The table. Programs and a table have no default, and the default history is one less than the cores.
abbrev pub line_of : Operand → Line
line_of operand.Program = line (codes "program") taker.Every OneProgram []
line_of operand.Flows = line (codes "flows") taker.Every (Number 1 MOST_FLOWS) (codes "4096")
line_of operand.Cores = line (codes "cores") taker.Spraying (Number 1 most_cores) (codes "1")
line_of operand.History = line (codes "history") taker.Spraying (Number 0 longest_history) []
line_of operand.Drop = line (codes "drop") taker.Spraying DropList []
line_of operand.Repeat = line (codes "repeat") taker.Spraying RepeatList []
line_of operand.Delay = line (codes "delay") taker.Spraying DelayList []
line_of operand.Ring = line (codes "ring") taker.WithCores (Number 1 most_ring) (codes "1024")
line_of operand.Threads = line (codes "threads") taker.WithCores YesNo (codes "yes")
line_of operand.Start = line (codes "start") taker.LoadAlone (Number 0 18446744073709551615) (codes "0")
line_of operand.Frames = line (codes "frames") taker.LoadAlone (Number 0 most_frames) (codes "1000")
line_of operand.Hosts = line (codes "hosts") taker.LoadAlone (Number 1 most_hosts) (codes "16")
line_of operand.Threshold = line (codes "threshold") (taker_of Ddos) (Number 0 4294967295) (codes "1000")
line_of operand.Bytes = line (codes "bytes") (taker_of Heavy) (Number 1 1000000000000) (codes "1000000")
line_of operand.Rate = line (codes "rate") (taker_of Bucket) (Number 0 1000000000) (codes "1000")
line_of operand.Burst = line (codes "burst") (taker_of Bucket) (Number 1 1000000000) (codes "100")
line_of operand.Ports = line (codes "ports") (taker_of Knock) ThreePorts (codes "7000,8000,9000")
line_of operand.Idle = line (codes "idle") (taker_of Conn) (Number 1 10000000000000) (codes "60000000")
line_of operand.First = line (codes "first") (taker.Program program.Chain) FirstProgram []
line_of operand.Second = line (codes "second") (taker.Program program.Chain) SecondProgram []
line_of operand.Table = line (codes "table") (taker.Program program.Table) TableText []

abbrev pub all_operands : List Operand
all_operands =
    operand.Program ∷ operand.Flows ∷ operand.Cores ∷ operand.History ∷ operand.Drop ∷ operand.Repeat ∷ operand.Delay
    ∷ operand.Ring ∷ operand.Threads ∷ operand.Start ∷ operand.Frames ∷ operand.Hosts ∷ operand.Threshold ∷ operand.Bytes ∷ operand.Rate ∷ operand.Burst
    ∷ operand.Ports ∷ operand.Idle ∷ operand.First ∷ operand.Second ∷ operand.Table ∷ []

-- the operand with a name
unfoldable pub operand_named : List ℕ → Option Operand
operand_named name = find (λ operand. bytes_eq (line_of operand).name name) all_operands

-- which commands spray the frames of a capture over cores, which run cores, and which makes its own capture
abbrev pub sprays : Command → Bool
sprays Run = true
sprays Plain = false
sprays Load = true
sprays Spray = true
sprays Replay = false

abbrev pub runs_cores : Command → Bool
runs_cores Run = true
runs_cores Plain = false
runs_cores Load = true
runs_cores Spray = false
runs_cores Replay = true

abbrev pub makes_load : Command → Bool
makes_load Run = false
makes_load Plain = false
makes_load Load = true
makes_load Spray = false
makes_load Replay = false

abbrev pub is_same : OneName → OneName → Bool
is_same Ddos Ddos = true
is_same Heavy Heavy = true
is_same Bucket Bucket = true
is_same Knock Knock = true
is_same Conn Conn = true
is_same _ _ = false

-- whether a chain of these two takes the operands of one of the five; where one of the two isn't known, it takes each
abbrev pub is_in_chain : Option OneName → Option OneName → OneName → Bool
is_in_chain (Some first) (Some second) one = is_same first one || is_same second one
is_in_chain (Some first) None one = true
is_in_chain None second one = true

-- whether a chosen program takes the operands of another one
abbrev pub takes_those_of : Choice → ProgramName → ProgramName → Bool
takes_those_of choice (program.One chosen) (program.One one) = is_same chosen one
takes_those_of choice program.Chain (program.One one) = is_in_chain choice.first choice.second one
takes_those_of choice program.Chain program.Chain = true
takes_those_of choice program.Table program.Table = true
takes_those_of choice chosen other = false

-- Whether an operand with this taker is taken beside this command and what the words choose. Where no program is chosen,
-- the operands of each that the command knows are.
abbrev pub is_taken : Command → Choice → Taker → Bool
is_taken command choice taker.Every = true
is_taken command choice taker.Spraying = sprays command
is_taken command choice taker.WithCores = runs_cores command
is_taken command choice taker.LoadAlone = makes_load command
is_taken command choice (taker.Program program) =
    knows command program && option_map_or (λ chosen. takes_those_of choice chosen program) choice.program true

-- a number's form has its ends in order
abbrev pub IsOrdered : Form → Type 0
IsOrdered (Number least greatest) = least ≤ greatest
IsOrdered _ = ⊤

-- the value is a number; and it is this one, within the form's range
abbrev pub is_numeric : Form → Bool
is_numeric (Number least greatest) = true
is_numeric _ = false

abbrev pub IsWithin : Form → ℕ → Type 0
IsWithin (Number least greatest) number = (least ≤ number) × (number ≤ greatest)
IsWithin _ number = ⊥

-- the operands that words can't do without, by the program that they choose
abbrev pub required : Option ProgramName → List Operand
required (Some program.Chain) = operand.Program ∷ operand.First ∷ operand.Second ∷ []
required (Some program.Table) = operand.Program ∷ operand.Table ∷ []
required _ = operand.Program ∷ []
