-- Elements of lists that are cut at one place.
use Rattle.std.proofs.Common.{◌≡◌, ℕ, zero, suc, ◌+◌, ◌<◌, List, [], ◌∷◌, ◌++◌, length, get_or, reverse, refl, sym, ap, ◌∙◌, subst, arith, Contains, ◌⊎◌, inl, inr}
use Rattle.std.proofs.lemmas.List.{reverse-append}
use Rattle.std.proofs.lemmas.List.Elements.{Contains-append_cases}
use Rattle.scr_flows.specs.Ring.{first_or, last_or, IsApart}

module _ {X : Type 0} where
  pub Contains-head : (x : X) (xs : List X) → Contains (x ∷ xs) x
  Contains-head x xs = (0, omega arith, refl)

  pub Contains-tail : (y : X) (xs : List X) (x : X) → Contains xs x → Contains (y ∷ xs) x
  Contains-tail y xs x c = let within = c.1 in (suc c.0, omega arith, c.2)

  cons_cases : (y : X) (xs : List X) (x : X) (k : ℕ) → k < length (y ∷ xs) → get_or (y ∷ xs) k x ≡ x → (y ≡ x) ⊎ Contains xs x
  cons_cases y xs x zero p e = inl e
  cons_cases y xs x (suc k) p e = inr (k, omega arith, e)

  pub Contains-cons : (y : X) (xs : List X) (x : X) → Contains (y ∷ xs) x → (y ≡ x) ⊎ Contains xs x
  Contains-cons y xs x c = cons_cases y xs x c.0 c.1 c.2

  pub Contains-nil : (x : X) → Contains [] x → ⊥
  Contains-nil x c = let within = c.1 in omega arith

  -- a list is cut at an element
  pub Contains-cut : (xs : List X) (x : X) → Contains xs x → (us : List X) × (vs : List X) × (xs ≡ us ++ x ∷ vs)
  Contains-cut [] x c = absurd (Contains-nil x c)
  Contains-cut (y ∷ xs) x c = elim (Contains-cons y xs x c) [
    | inl e ↦ ([], xs, ap (λ z. z ∷ xs) e)
    | inr d ↦ let on = Contains-cut xs x d in (y ∷ on.0, on.1, ap (λ l. y ∷ l) on.2)
  ]

  pub Contains-middle : (xs : List X) (x : X) (ys : List X) → Contains (xs ++ x ∷ ys) x
  Contains-middle [] x ys = Contains-head x ys
  Contains-middle (z ∷ xs) x ys = Contains-tail z (xs ++ x ∷ ys) x (Contains-middle xs x ys)

  -- an element of the list is the one at the cut, or one of the others
  pub Contains-without : (xs : List X) (y : X) (ys : List X) (x : X) → Contains (xs ++ y ∷ ys) x → (y ≡ x) ⊎ Contains (xs ++ ys) x
  Contains-without [] y ys x c = Contains-cons y ys x c
  Contains-without (z ∷ xs) y ys x c = elim (Contains-cons z (xs ++ y ∷ ys) x c) [
    | inl e ↦ inr (subst (λ w. Contains (w ∷ (xs ++ ys)) x) (sym e) (Contains-head x (xs ++ ys)))
    | inr d ↦ elim (Contains-without xs y ys x d) [ inl e ↦ inl e | inr f ↦ inr (Contains-tail z (xs ++ ys) x f) ]
  ]

  pub Contains-with : (xs : List X) (y : X) (ys : List X) (x : X) → Contains (xs ++ ys) x → Contains (xs ++ y ∷ ys) x
  Contains-with [] y ys x c = Contains-tail y ys x c
  Contains-with (z ∷ xs) y ys x c = elim (Contains-cons z (xs ++ ys) x c) [
    | inl e ↦ subst (λ w. Contains (w ∷ (xs ++ y ∷ ys)) x) (sym e) (Contains-head x (xs ++ y ∷ ys))
    | inr d ↦ Contains-tail z (xs ++ y ∷ ys) x (Contains-with xs y ys x d)
  ]

  pub Contains-reverse : (xs : List X) (x : X) → Contains (reverse xs) x → Contains xs x
  Contains-reverse [] x c = c
  Contains-reverse (y ∷ xs) x c = elim (Contains-append_cases (reverse xs) (y ∷ []) x (subst (λ l. Contains l x) (reverse-append (y ∷ []) xs) c)) [
    | inl d ↦ Contains-tail y xs x (Contains-reverse xs x d)
    | inr d ↦ elim (Contains-cons y [] x d) [
      | inl e ↦ subst (Contains (y ∷ xs)) e (Contains-head y xs)
      | inr f ↦ absurd (Contains-nil x f)
    ]
  ]

first_or-push : (places : List ℕ) (place end : ℕ) → first_or (places ++ place ∷ []) end ≡ first_or places place
first_or-push [] place end = refl
first_or-push (next ∷ places) place end = refl

last_or-push : (end : ℕ) (places : List ℕ) (place : ℕ) → last_or end (places ++ place ∷ []) ≡ place
last_or-push end [] place = refl
last_or-push end (next ∷ places) place = last_or-push next places place

pub first_or-reverse : (places : List ℕ) (end : ℕ) → first_or (reverse places) end ≡ last_or end places
first_or-reverse [] end = refl
first_or-reverse (place ∷ places) end = ap (λ (l : List ℕ). first_or l end) (reverse-append (place ∷ []) places) ∙ first_or-push (reverse places) place end ∙ first_or-reverse places place

pub last_or-reverse : (places : List ℕ) (end : ℕ) → last_or end (reverse places) ≡ first_or places end
last_or-reverse [] end = refl
last_or-reverse (place ∷ places) end = ap (last_or end) (reverse-append (place ∷ []) places) ∙ last_or-push end (reverse places) place

pub apart-without : (xs : List ℕ) (y : ℕ) (ys : List ℕ) → IsApart (xs ++ y ∷ ys) → IsApart (xs ++ ys)
apart-without [] y ys apart = apart.1
apart-without (x ∷ xs) y ys apart = (λ c. apart.0 (Contains-with xs y ys x c), apart-without xs y ys apart.1)

-- the element at the cut isn't one of the others
pub apart-at : (xs : List ℕ) (y : ℕ) (ys : List ℕ) → IsApart (xs ++ y ∷ ys) → Contains (xs ++ ys) y → ⊥
apart-at [] y ys apart c = apart.0 c
apart-at (x ∷ xs) y ys apart c = elim (Contains-cons x (xs ++ ys) y c) [
  | inl e ↦ apart.0 (subst (Contains (xs ++ y ∷ ys)) (sym e) (Contains-middle xs y ys))
  | inr d ↦ apart-at xs y ys apart.1 d
]

apart-push : (xs : List ℕ) (x : ℕ) → IsApart xs → (Contains xs x → ⊥) → IsApart (xs ++ x ∷ [])
apart-push [] x apart absent = (λ c. Contains-nil x c, tt)
apart-push (y ∷ xs) x apart absent = (
  λ c. elim (Contains-append_cases xs (x ∷ []) y c) [
    | inl d ↦ apart.0 d
    | inr d ↦ elim (Contains-cons x [] y d) [
      | inl e ↦ absent (subst (Contains (y ∷ xs)) (sym e) (Contains-head y xs))
      | inr f ↦ absurd (Contains-nil y f)
    ]
  ],
  apart-push xs x apart.1 (λ c. absent (Contains-tail y xs x c)),
)

pub apart-reverse : (xs : List ℕ) → IsApart xs → IsApart (reverse xs)
apart-reverse [] apart = tt
apart-reverse (x ∷ xs) apart =
    subst IsApart (sym (reverse-append (x ∷ []) xs)) (apart-push (reverse xs) x (apart-reverse xs apart.1) (λ c. apart.0 (Contains-reverse xs x c)))
