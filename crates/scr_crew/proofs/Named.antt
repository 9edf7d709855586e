-- Each verdict that is to be taken has a name.
use Rattle.std.proofs.Common.{◌≡◌, ◌<◌, ℕ, List, ◌∷◌, ◌++◌, All, length, get_or, None, arith, ap, ◌∙◌, subst}
use Rattle.std.specs.Prelude.{slice_get}
use Rattle.std.proofs.lemmas.List.{length-append}
use Rattle.std.proofs.lemmas.Option.{slice_get-get_or}
use Rattle.std.proofs.Math.Seq.{get_or-append_seam}
use Rattle.scr_plan.specs.declared.given.Given.{Given}

-- what holds of all holds of the one behind a front
pub holds-here : (Holds : Given → Type 0) (whole front : List Given) (given : Given) (rest : List Given) → whole ≡ front ++ given ∷ rest → All Holds whole → Holds given
holds-here Holds whole front given rest parts all =
    let long : length front < length whole = omega (arith, ap length parts, length-append front (given ∷ rest)) in
    subst Holds (ap (λ (xs : List Given). get_or xs (length front) given) parts ∙ get_or-append_seam front given rest given) (all (length front) given long)

-- a place within the list has an element
pub some-there : {X : Type 0} (xs : List X) (place : ℕ) (d : X) → place < length xs → None ≡ slice_get xs place → ⊥
some-there xs place d within e =
    let there = e ∙ slice_get-get_or xs place d within in
    absurd cc
