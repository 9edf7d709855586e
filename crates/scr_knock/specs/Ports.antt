-- The setting of the door: three ports, parted by commas.
use Rattle.std.specs.Prelude.{ℕ, Bool, ◌&&◌, not, ◌==◌, List, Result, Ok, Err, nat_le, if◌then◌else◌}
use Rattle.std.specs.List.{before_first, after_first}
use Rattle.scr_base.specs.Numbers.{is_number, number_of}
use Rattle.scr_program.specs.declared.setting.SettingError.{SettingError}
use Rattle.scr_program.specs.declared.setting.SettingError.TheVariants.{Value, Range}

abbrev pub is_comma : ℕ → Bool
is_comma c = c == 44

abbrev pub greatest_port : ℕ
greatest_port = 65535

abbrev pub is_port : ℕ → Bool
is_port number = nat_le 1 number && nat_le number greatest_port

-- The ports of three texts. That one of them is no number comes before that one is outside the range.
abbrev pub ports_of : List ℕ → List ℕ → List ℕ → Result (ℕ × ℕ × ℕ) SettingError
ports_of first second third =
    if not (is_number first && (is_number second && is_number third)) then Err Value else
    (if not (is_port (number_of first) && (is_port (number_of second) && is_port (number_of third))) then Err Range
    else Ok (number_of first, number_of second, number_of third))

-- The ports of a text, which two commas cut into three. Where there are fewer, the last part is empty, and where there
-- are more, it has a comma: neither is a number.
abbrev pub ports_in : List ℕ → Result (ℕ × ℕ × ℕ) SettingError
ports_in text =
    let rest = after_first is_comma text in
    ports_of (before_first is_comma text) (before_first is_comma rest) (after_first is_comma rest)
