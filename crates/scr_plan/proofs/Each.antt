-- Lists of items each of which passes a test.
use Rattle.std.proofs.Common.{◌≡◌, ℕ, zero, suc, ◌+◌, ◌≤◌, Bool, true, false, ◌&&◌, not, List, [], ◌∷◌, ◌++◌, take, inl, inr, refl, sym, ap, subst, ◌∙◌, arith}
use Rattle.std.specs.List.{list_all, flat_map, range_with_len, before_first, position_or_len}
use Rattle.std.proofs.lemmas.Bool.{cases_lt}
use Rattle.scr_plan.specs.Order.{Item}
use Rattle.scr_plan.proofs.FromOne.{lists-suc}

abbrev pub Each : (Item → Bool) → List Item → Type 0
Each test items = list_all test items ≡ true

both : (a b : Bool) → a ≡ true → b ≡ true → (a && b) ≡ true
both true b p q = q
both false b p q = absurd cc

pub first : (a b : Bool) → (a && b) ≡ true → a ≡ true
first true b p = refl
first false b p = absurd cc

second : (a b : Bool) → (a && b) ≡ true → b ≡ true
second true b p = p
second false b p = absurd cc

module _ (test : Item → Bool) where
  pub Each-append : (xs ys : List Item) → Each test xs → Each test ys → Each test (xs ++ ys)
  Each-append [] ys p q = q
  Each-append (x ∷ xs) ys p q =
      both (test x) (list_all test (xs ++ ys)) (first (test x) (list_all test xs) p) (Each-append xs ys (second (test x) (list_all test xs) p) q)

  pub Each-front : (xs ys : List Item) → Each test (xs ++ ys) → Each test xs
  Each-front [] ys p = refl
  Each-front (x ∷ xs) ys p =
      both (test x) (list_all test xs) (first (test x) (list_all test (xs ++ ys)) p) (Each-front xs ys (second (test x) (list_all test (xs ++ ys)) p))

  pub Each-back : (xs ys : List Item) → Each test (xs ++ ys) → Each test ys
  Each-back [] ys p = p
  Each-back (x ∷ xs) ys p = Each-back xs ys (second (test x) (list_all test (xs ++ ys)) p)

  -- lists one after another
  pub Each-lists : (f : ℕ → List Item) (m : ℕ) → ((n : ℕ) → 1 ≤ n → n ≤ m → Each test (f n)) → Each test (flat_map f (range_with_len 1 m))
  Each-lists f zero each = refl
  Each-lists f (suc m) each =
      subst (Each test) (sym (lists-suc f m))
      (Each-append (flat_map f (range_with_len 1 m)) (f (suc m)) (Each-lists f m (λ n from to. each n from (omega arith)))
      (each (suc m) (omega arith) (omega arith)))

  pub Each-list : (f : ℕ → List Item) (m n : ℕ) → 1 ≤ n → n ≤ m → Each test (flat_map f (range_with_len 1 m)) → Each test (f n)
  Each-list f zero n from to all = absurd (omega arith)
  Each-list f (suc m) n from to all =
      let parts = subst (Each test) (lists-suc f m) all in
      elim (cases_lt n (suc m)) as (λ _. Each test (f n)) [
        | inl early ↦ Each-list f m n from (omega arith) (Each-front (flat_map f (range_with_len 1 m)) (f (suc m)) parts)
        | inr late ↦ (
            let here : suc m ≡ n = omega arith in
            subst (λ (k : ℕ). Each test (f k)) here (Each-back (flat_map f (range_with_len 1 m)) (f (suc m)) parts))
      ]

-- what stands before the first that passes
pub before_first-is : (p : Item → Bool) (xs : List Item) (y : Item) (zs : List Item) → Each (λ x. not (p x)) xs → p y ≡ true
    → before_first p (xs ++ y ∷ zs) ≡ xs
before_first-is p [] y zs none passes = rw passes refl
before_first-is p (x ∷ xs) y zs none passes =
    let here : not (p x) ≡ true = first (not (p x)) (list_all (λ z. not (p z)) xs) none in
    let k : ℕ = position_or_len p (xs ++ y ∷ zs) in
    let one : 1 + k ≡ suc k = omega arith in
    rw here (ap (λ (j : ℕ). take j (x ∷ (xs ++ y ∷ zs))) one ∙ ap (λ (it : List Item). x ∷ it) (before_first-is p xs y zs (second (not (p x)) (list_all (λ z. not (p z)) xs) none) passes))
