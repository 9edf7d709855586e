-- Pieces of text put one after another.
use Rattle.std.proofs.Common.{◌≡◌, ℕ, ◌+◌, ◌<◌, List, [], ◌∷◌, ◌++◌, length, get_or, take, drop, Option, sym, ap, ◌∙◌, subst}
use Rattle.std.specs.List.{flat_map}
use Rattle.std.proofs.lemmas.List.{take_more, take-append-drop, append-nil}
use Rattle.std.proofs.lemmas.Grind.{flat_map-append}
use Rattle.std.proofs.lemmas.List.Concat.{flat_map-cons}
use Rattle.scr_base.specs.Streams.{StopsWithin, Passes}
use Rattle.scr_base.proofs.Streams.{Passes-then, Passes-stops, StopsWithin-longer}

-- one item more
flat_map-take_more : {X : Type 0} (f : X → List ℕ) (xs : List X) (i : ℕ) (d : X) → i < length xs
    → flat_map f (take (i + 1) xs) ≡ flat_map f (take i xs) ++ f (get_or xs i d)
flat_map-take_more f xs i d below =
    ap (flat_map f) (take_more xs i d below) ∙ flat_map-append f (take i xs) (get_or xs i d ∷ [])
    ∙ ap (λ (t : List ℕ). flat_map f (take i xs) ++ t) (flat_map-cons f (get_or xs i d) [] ∙ append-nil (f (get_or xs i d)))

-- the items so far, one more, and the others
flat_map-parts : {X : Type 0} (f : X → List ℕ) (xs : List X) (i : ℕ) (d : X) → i < length xs
    → flat_map f xs ≡ (flat_map f (take i xs) ++ f (get_or xs i d)) ++ flat_map f (drop (i + 1) xs)
flat_map-parts f xs i d below =
    ap (flat_map f) (sym (take-append-drop (i + 1) xs)) ∙ flat_map-append f (take (i + 1) xs) (drop (i + 1) xs)
    ∙ ap (λ (t : List ℕ). t ++ flat_map f (drop (i + 1) xs)) (flat_map-take_more f xs i d below)

-- one item more is passed on
pub Passes-more : {X : Type 0} (f : X → List ℕ) (xs : List X) (i : ℕ) (d : X) (a b c : Option (List ℕ)) (p q r : List ℕ) → i < length xs
    → Passes a b p q (flat_map f (take i xs)) → Passes b c q r (f (get_or xs i d)) → Passes a c p r (flat_map f (take (i + 1) xs))
Passes-more f xs i d a b c p q r below before one =
    let P : List ℕ → Type 0 = λ t. Passes a c p r t in
    subst P (sym (flat_map-take_more f xs i d below)) (Passes-then a b c p q r _ _ before one)

-- the put of an item failed
pub Passes-fails : {X : Type 0} (f : X → List ℕ) (xs : List X) (i : ℕ) (d : X) (a b c : Option (List ℕ)) (p q : List ℕ) → i < length xs
    → Passes a b p q (flat_map f (take i xs)) → StopsWithin b c (q ++ f (get_or xs i d)) → StopsWithin a c (p ++ flat_map f xs)
Passes-fails f xs i d a b c p q below before front =
    let P : List ℕ → Type 0 = λ t. StopsWithin a c (p ++ t) in
    subst P (sym (flat_map-parts f xs i d below)) (StopsWithin-longer a c p _ (flat_map f (drop (i + 1) xs)) (Passes-stops a b c p q _ _ before front))
