-- The number that a command needs of its program: a stream names it, by one of five.
use Rattle.std.specs.Prelude.{ℕ, Bool, true, false, Option, Some, None, nat_lt}
use Rattle.scr_words.specs.declared.settings.Command.{Command}
use Rattle.scr_words.specs.declared.settings.Command.TheVariants.{Run, Plain, Load, Spray, Replay}

-- there is a number
abbrev pub is_code : Option ℕ → Bool
is_code None = false
is_code (Some number) = nat_lt number 5

-- there is one where the command writes or reads a stream
abbrev pub has_code : Command → Option ℕ → Bool
has_code Run code = true
has_code Plain code = true
has_code Load code = true
has_code Spray code = is_code code
has_code Replay code = is_code code
