-- The times of packets (pcapng, option if_tsresol, as this project reads it): a second has so many units as a power of
-- ten or of two says, and a time counts them.
use Rattle.std.specs.Prelude.{ℕ, ◌*◌, ◌/◌, ◌-◌, ◌^◌, min, Bool, ◌&&◌, ◌||◌, nat_lt, nat_le, if◌then◌else◌}

-- how many units a second has: by a value below 128 a power of ten, by another one a power of two
abbrev pub units_of : (value : ℕ) → ℕ
units_of value = if nat_lt value 128 then 10 ^ value else 2 ^ (value - 128)

-- a value that isn't taken: 20 to 127, and above 191
abbrev pub is_beyond : (value : ℕ) → Bool
is_beyond value = (nat_le 20 value && nat_lt value 128) || nat_lt 191 value

-- how many units a second has without a value
abbrev pub MICROSECONDS : ℕ
MICROSECONDS = 1000000

-- a time in microseconds, rounded down, and at most 2^64 - 1
abbrev pub microseconds : (units time : ℕ) → ℕ
microseconds units time = min (time * 1000000 / units) (2 ^ 64 - 1)
