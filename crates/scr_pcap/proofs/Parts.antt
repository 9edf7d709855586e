-- A part of a part of a list.
use Rattle.std.proofs.Common.{◌≡◌, ℕ, ◌+◌, ◌-◌, ◌≤◌, slice_range, List, length, take, drop, sym, ap, ◌∙◌, arith}
use Rattle.std.proofs.lemmas.List.{drop-drop, drop-take, length-take, take-take}

pub slice_range-part : (xs : List ℕ) (start end place size : ℕ) → place + size ≤ length (slice_range xs start end)
    → slice_range xs (start + place) (start + place + size) ≡ take size (drop place (slice_range xs start end))
slice_range-part xs start end place size within =
    let most = length-take (end - start) (drop start xs) in
    let rest = end - start - place in
    let enough : size ≤ rest = omega arith in
    let sum : place + rest ≡ end - start = omega arith in
    let all : start + place + size - (start + place) ≡ size = omega arith in
    let part : drop place (slice_range xs start end) ≡ take rest (drop (start + place) xs) =
    ap (λ (n : ℕ). drop place (take n (drop start xs))) (sym sum) ∙ drop-take place rest (drop start xs) ∙ ap (take rest) (drop-drop place start xs) in
    ap (λ (n : ℕ). take n (drop (start + place) xs)) all ∙ sym (take-take size rest (drop (start + place) xs) enough) ∙ ap (take size) (sym part)
