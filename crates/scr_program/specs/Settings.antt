-- The settings of a program: what a value gives, and what it leaves.
use Rattle.std.specs.Prelude.{◌≡◌, ℕ, ◌||◌, not, List, Result, Ok, Err, MatchResult, nat_lt, if◌then◌else◌}
use Rattle.scr_base.specs.Numbers.{is_number, number_of}
use Rattle.scr_program.specs.declared.setting.SettingError.{SettingError}
use Rattle.scr_program.specs.declared.setting.SettingError.TheVariants.{Value, Range}

-- the number of a setting that may be from `least` to `greatest`, or why its value is refused
abbrev pub setting_within : List ℕ → ℕ → ℕ → Result ℕ SettingError
setting_within value least greatest =
    if not (is_number value) then Err Value else
    (if nat_lt (number_of value) least || nat_lt greatest (number_of value) then Err Range
    else Ok (number_of value))

-- a setting is now the number that was given, or the answer says why none was
abbrev pub IsSetTo : Result (Unit {0}) SettingError → ℕ → Result ℕ SettingError → Type 0
IsSetTo answer new given = MatchResult given (λ number. (answer ≡ Ok tt) × (new ≡ number)) (λ refusal. answer ≡ Err refusal)
