-- Verdicts that programs share, as places in the list of a program's names, and their names.
use Rattle.std.specs.Prelude.{ℕ, List, [], ◌∷◌, codes}
use Rattle.scr_base.specs.declared.row.Verdict.{Verdict}

-- the packet may go on
abbrev pub PASS : Verdict
PASS = record { 0 = 0 }

-- the packet is to be stopped
abbrev pub DROP : Verdict
DROP = record { 0 = 1 }

-- the packet isn't looked at
abbrev pub OTHER : Verdict
OTHER = record { 0 = 2 }

abbrev pub pass_drop_other : List (List ℕ)
pass_drop_other = codes "PASS" ∷ codes "DROP" ∷ codes "OTHER" ∷ []
