-- A word as an operand: a name and a value, parted by the first `=`.
use Rattle.std.specs.Prelude.{ℕ, Bool, ◌&&◌, List, Option, is_none, option_map, option_and_then}
use Rattle.std.specs.List.{find}
use Rattle.std.specs.Str.{bytes_eq}
use Rattle.scr_plan.specs.Spelling.{has_byte, in_front, behind}
use Rattle.scr_words.specs.declared.settings.Command.{Command}
use Rattle.scr_words.specs.declared.program_name.Choice.{Choice}
use Rattle.scr_words.specs.declared.program_name.OneName.{OneName}
use Rattle.scr_words.specs.declared.program_name.ProgramName.{ProgramName}
use Rattle.scr_words.specs.declared.operand.Operand.{Operand}
use Rattle.scr_words.specs.declared.operand.Operand.TheVariants as operand
use Rattle.scr_words.specs.Operands.{all_firsts, all_ones, one_named, program_named, line_of}

abbrev pub has_equals : List ℕ → Bool
has_equals word = has_byte 61 word

abbrev pub name_in : List ℕ → List ℕ
name_in word = in_front 61 word

abbrev pub value_in : List ℕ → List ℕ
value_in word = behind 61 word

-- whether a word has this name
abbrev pub is_named : List ℕ → List ℕ → Bool
is_named name word = has_equals word && bytes_eq (name_in word) name

-- the value of the first word that has this name
unfoldable pub given : List ℕ → List (List ℕ) → Option (List ℕ)
given name words = option_map value_in (find (is_named name) words)

-- The program that the words choose beside a command: the value of the first that begins with `program=`, where it is the
-- name of one that the command knows; and in the same way the first and the second program of a chain.
abbrev pub program_in : Command → List (List ℕ) → Option ProgramName
program_in command words = option_and_then (program_named command) (given (line_of operand.Program).name words)

abbrev pub first_in : List (List ℕ) → Option OneName
first_in words = option_and_then (one_named all_firsts) (given (line_of operand.First).name words)

abbrev pub second_in : List (List ℕ) → Option OneName
second_in words = option_and_then (one_named all_ones) (given (line_of operand.Second).name words)

abbrev pub chosen : Command → List (List ℕ) → Choice
chosen command words = record { program = program_in command words; first = first_in words; second = second_in words }

-- whether no word gives an operand
abbrev pub is_absent : List (List ℕ) → Operand → Bool
is_absent words operand = is_none (given (line_of operand).name words)
