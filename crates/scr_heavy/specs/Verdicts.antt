-- The verdicts on heavy flows.
use Rattle.std.specs.Prelude.{ℕ, List, [], ◌∷◌, codes}
use Rattle.scr_base.specs.declared.row.Verdict.{Verdict}

abbrev pub names : List (List ℕ)
names = codes "PASS" ∷ codes "HEAVY" ∷ codes "OTHER" ∷ []

-- the flow has come to many bytes
abbrev pub HEAVY : Verdict
HEAVY = record { 0 = 1 }
