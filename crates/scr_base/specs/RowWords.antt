-- The words of a row, in the order in which a message spells them and a log keeps them.
use Rattle.std.specs.Prelude.{ℕ, List, [], ◌∷◌}
use Rattle.scr_base.specs.declared.row.Row.{Row}

abbrev pub row_words : Row → List ℕ
row_words row = row.w0 ∷ row.w1 ∷ row.w2 ∷ row.w3 ∷ row.w4 ∷ row.w5 ∷ row.w6 ∷ []
