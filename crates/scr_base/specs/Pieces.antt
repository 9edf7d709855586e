-- The pieces of a line.
use Rattle.std.specs.Prelude.{ℕ, List, decimal}
use Rattle.scr_base.specs.declared.piece.Piece.{Piece}
use Rattle.scr_base.specs.declared.piece.Piece.TheVariants.{Text, Number}

-- the text that a piece stands for
abbrev pub text_of : Piece → List ℕ
text_of (Text text) = text.now
text_of (Number n) = decimal n
