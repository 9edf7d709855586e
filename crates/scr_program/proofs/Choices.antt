-- A verdict that a test chooses has a name where both that it chooses from have one.
use Rattle.std.specs.Prelude.{◌<◌, ℕ, Bool, true, false, if◌then◌else◌}
use Rattle.scr_base.specs.declared.row.Verdict.{Verdict}

pub chosen-named : (names : ℕ) (test : Bool) (first second : Verdict) → first.0 < names → second.0 < names → (if test then first else second).0 < names
chosen-named names true first second a b = a
chosen-named names false first second a b = b

-- so has one that comes with something else
pub outcome-named : {A : Type 0} (names : ℕ) (test : Bool) (first second : A × Verdict) → first.1.0 < names → second.1.0 < names → (if test then first else second).1.0 < names
outcome-named names true first second a b = a
outcome-named names false first second a b = b
