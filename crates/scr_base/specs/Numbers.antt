-- Numbers as decimal text: one digit or more, of any length and with any zeros in front.
use Rattle.std.specs.Prelude.{ℕ, Bool, ◌&&◌, ◌||◌, not, List, length, Result, Ok, Err, ◌==◌, nat_lt, if◌then◌else◌}
use Rattle.std.specs.Str.{all_ascii_digits}
use Rattle.std.specs.Str.Parse.{digits_value}
use Rattle.scr_base.specs.declared.number.NumberError.{NumberError}
use Rattle.scr_base.specs.declared.number.NumberError.TheVariants.{Digit, Range}

-- one decimal digit or more, and nothing else
abbrev pub is_number : List ℕ → Bool
is_number text = not (length text == 0) && all_ascii_digits text

-- the number that digits spell
abbrev pub number_of : List ℕ → ℕ
number_of text = digits_value 10 text

-- the number of a text, where it is one from `least` to `greatest`
abbrev pub number_within : List ℕ → ℕ → ℕ → Result ℕ NumberError
number_within text least greatest =
    if not (is_number text) then Err Digit else
    (if nat_lt (number_of text) least || nat_lt greatest (number_of text) then Err Range
    else Ok (number_of text))
