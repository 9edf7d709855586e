-- What a sink gains. Bytes that a stream doesn't tell are not spoken of.
use Rattle.std.specs.Prelude.{◌≡◌, ◌<◌, ◌⊎◌, ℕ, List, [], ◌++◌, length, take, Option, Result, MatchResult}
use Rattle.std.specs.List.{flat_map}
use Rattle.std.specs.Io.KnownBytes.{Appends}
use Rattle.scr_base.specs.declared.piece.Piece.{Piece}
use Rattle.scr_base.specs.Pieces.{text_of}

-- a sink gained a front of the text
pub record AppendsPrefix (before now : Option (List ℕ)) (text : List ℕ) : Type 0 where
  pub sent : List ℕ
  pub rest : List ℕ
  pub gained : Appends before now sent
  pub parts : text ≡ sent ++ rest

-- a sink gained a front of the text, and not all of it
pub record StopsWithin (before now : Option (List ℕ)) (text : List ℕ) : Type 0 where
  pub sent : List ℕ
  pub rest : List ℕ
  pub gained : Appends before now sent
  pub parts : text ≡ sent ++ rest
  pub outstanding : 0 < length rest

-- through a batch that held some bytes and now holds others, a sink gained what stands in front of these
pub record Passes (before now : Option (List ℕ)) (held holds text : List ℕ) : Type 0 where
  pub sent : List ℕ
  pub gained : Appends before now sent
  pub parts : held ++ text ≡ sent ++ holds

-- a text was put whole, or the sink gained a front of it, and not all
abbrev pub WritesText : {E : Type 0} → Option (List ℕ) → Option (List ℕ) → Result Unit E → List ℕ → Type 0
WritesText before now result text = MatchResult result (λ _. Appends before now text) (λ _. StopsWithin before now text)

-- the same through a batch, which holds what isn't written yet
abbrev pub BatchesText : {E : Type 0} → Option (List ℕ) → Option (List ℕ) → List ℕ → List ℕ → Result Unit E → List ℕ → Type 0
BatchesText before now held holds result text =
    MatchResult result (λ _. Passes before now held holds text) (λ _. StopsWithin before now (held ++ text))

-- a batch holds what it held, or nothing, and then the sink gained all that it held
abbrev pub HoldsOrWrote : Option (List ℕ) → Option (List ℕ) → List ℕ → List ℕ → Type 0
HoldsOrWrote before now held holds = (holds ≡ held) ⊎ ((holds ≡ []) × ((more : List ℕ) × Appends before now (held ++ more)))

-- the same behind some of the pieces, which were passed on before
pub record HoldsOrWroteBehind (before now : Option (List ℕ)) (held holds : List ℕ) (pieces : List Piece) : Type 0 where
  pub count : ℕ
  pub between : Option (List ℕ)
  pub kept : List ℕ
  pub passed : Passes before between held kept (flat_map text_of (take count pieces))
  pub then : HoldsOrWrote between now kept holds
