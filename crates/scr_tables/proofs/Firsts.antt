-- The first element of a list that passes a test, by the front of the list.
use Rattle.std.proofs.Common.{◌≡◌, ◌∙◌, ℕ, suc, ◌+◌, ◌<◌, Bool, true, false, List, [], ◌∷◌, length, take, drop, get_or, Option, Some, None, refl, sym, ap}
use Rattle.std.specs.List.{find}
use Rattle.std.specs.Option.{option_or}
use Rattle.std.proofs.lemmas.List.{take_more, take-append-drop}
use Rattle.std.proofs.lemmas.List.Folds.{find-append}
use Rattle.std.proofs.Math.Seq.{drop-cons}

module _ {X : Type 0} (p : X → Bool) where
  or-none : (found : Option X) → option_or found None ≡ found
  or-none (Some x) = refl
  or-none None = refl

  pub head-passes : (x : X) (xs : List X) → p x ≡ true → find p (x ∷ xs) ≡ Some x
  head-passes x xs passes = rw passes refl

  pub head-fails : (x : X) (xs : List X) → p x ≡ false → find p (x ∷ xs) ≡ find p xs
  head-fails x xs fails = rw fails refl

  -- one element more is looked at where none of those before it passes
  pub find-more : (xs : List X) (i : ℕ) (d : X) → i < length xs → find p (take (i + 1) xs) ≡ option_or (find p (take i xs)) (find p (get_or xs i d ∷ []))
  find-more xs i d below = ap (find p) (take_more xs i d below) ∙ find-append p (take i xs) (get_or xs i d ∷ [])

  -- one more that fails changes nothing
  pub find-past : (xs : List X) (i : ℕ) (d : X) → i < length xs → p (get_or xs i d) ≡ false → find p (take (i + 1) xs) ≡ find p (take i xs)
  find-past xs i d below fails =
      find-more xs i d below ∙ ap (option_or (find p (take i xs))) (head-fails (get_or xs i d) [] fails) ∙ or-none (find p (take i xs))

  -- one that passes settles the answer
  pub find-here : (xs : List X) (i : ℕ) (d : X) → i < length xs → p (get_or xs i d) ≡ true → find p xs ≡ option_or (find p (take i xs)) (Some (get_or xs i d))
  find-here xs i d below passes =
      ap (find p) (sym (take-append-drop i xs)) ∙ find-append p (take i xs) (drop i xs)
      ∙ ap (λ (ys : List X). option_or (find p (take i xs)) (find p ys)) (drop-cons xs i d below)
      ∙ ap (option_or (find p (take i xs))) (head-passes (get_or xs i d) (drop (suc i) xs) passes)
