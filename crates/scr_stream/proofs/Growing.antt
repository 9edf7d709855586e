-- A list that is made over a range of numbers, one number more.
use Rattle.std.proofs.Common.{◌≡◌, ℕ, ◌+◌, ◌-◌, ◌≤◌, List, [], ◌∷◌, ◌++◌, sym, ap, ◌∙◌, append_assoc}
use Rattle.std.specs.Prelude.{map}
use Rattle.std.specs.List.{range_with_len}
use Rattle.scr_stream.proofs.Ranges.{range-more, map-more}

pub map-grown : {X : Type 0} (f : ℕ → X) (old now new : List X) (first p : ℕ) (x : X) → first ≤ p → now ≡ old ++ map f (range_with_len first (p - first))
    → new ≡ now ++ x ∷ [] → x ≡ f p → new ≡ old ++ map f (range_with_len first (p + 1 - first))
map-grown f old now new first p x from now-is new-is x-is =
    new-is
    ∙ ap (λ (xs : List _). xs ++ x ∷ []) now-is
    ∙ append_assoc old (map f (range_with_len first (p - first))) (x ∷ [])
    ∙ ap (λ (y : _). old ++ (map f (range_with_len first (p - first)) ++ y ∷ [])) x-is
    ∙ ap (λ (xs : List _). old ++ xs) (sym (map-more f first p from))

pub range-grown : (old now new : List ℕ) (first p : ℕ) → first ≤ p → now ≡ old ++ range_with_len first (p - first) → new ≡ now ++ p ∷ []
    → new ≡ old ++ range_with_len first (p + 1 - first)
range-grown old now new first p from now-is new-is =
    new-is
    ∙ ap (λ (xs : List ℕ). xs ++ p ∷ []) now-is
    ∙ append_assoc old (range_with_len first (p - first)) (p ∷ [])
    ∙ ap (λ (xs : List ℕ). old ++ xs) (sym (range-more first p from))
