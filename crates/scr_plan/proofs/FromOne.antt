-- The numbers from 1 on: a test of some of them, and a count over them.
use Rattle.std.proofs.Common.{◌≡◌, ℕ, suc, zero, ◌+◌, ◌-◌, ◌<◌, ◌≤◌, List, [], ◌∷◌, ◌++◌, length, get_or, Bool, true, false, cond, ◌&&◌, ◌||◌, not, arith, refl, sym, ap, ◌∙◌}
use Rattle.std.specs.List.{list_any, range_with_len, count_by, flat_map}
use Rattle.std.proofs.lemmas.List.Folds.{Any-from_list_any, list_any_at, list_any-append}
use Rattle.std.proofs.lemmas.List.{append-nil}
use Rattle.std.proofs.lemmas.List.Concat.{flat_map-cons}
use Rattle.std.proofs.lemmas.Grind.{flat_map-append}
use Rattle.std.proofs.lemmas.List.FromFn.{length-range_with_len, get_or-range_with_len}
use Rattle.std.proofs.lemmas.List.Sums.{sum_by-append, sum_by-cons}
use Rattle.std.proofs.lemmas.Bool.Decides.{nat_tests}
use Rattle.std.specs.Bool.{Decides}

-- one of the numbers from 1 to m passes a test
pub record IsSome (test : ℕ → Bool) (m : ℕ) : Type 0 where
  pub number : ℕ
  pub from : 1 ≤ number
  pub to : number ≤ m
  pub passes : test number ≡ true

pub IsSome-from_any : (test : ℕ → Bool) (m : ℕ) → list_any test (range_with_len 1 m) ≡ true → IsSome test m
IsSome-from_any test m any =
    let found = Any-from_list_any test (range_with_len 1 m) any in
    let below : found.0 < m = omega (arith, found.2, length-range_with_len 1 m) in
    let same : 1 + found.0 ≡ found.1 = sym (get_or-range_with_len 1 m found.0 found.1 below) ∙ found.3 in
    record { number = found.1; from = omega (arith, same); to = omega (arith, same, below); passes = found.4 }

pub any-from_IsSome : (test : ℕ → Bool) (m : ℕ) → IsSome test m → list_any test (range_with_len 1 m) ≡ true
any-from_IsSome test m some =
    let at : get_or (range_with_len 1 m) (some.number - 1) 0 ≡ some.number =
    get_or-range_with_len 1 m (some.number - 1) 0 (omega (arith, some.from, some.to)) ∙ (omega (arith, some.from)) in
    list_any_at test (range_with_len 1 m) (some.number - 1) 0 (omega (arith, some.from, some.to, length-range_with_len 1 m))
    (ap test at ∙ some.passes)

pub Decides-any : (test : ℕ → Bool) (m : ℕ) → Decides (list_any test (range_with_len 1 m)) (IsSome test m)
Decides-any test m = (IsSome-from_any test m, any-from_IsSome test m)

or-false : (b : Bool) → (b || false) ≡ b
or-false true = refl
or-false false = refl

-- one number more
pub range-suc : (a n : ℕ) → range_with_len a (suc n) ≡ range_with_len a n ++ (a + n) ∷ []
range-suc a zero = let e : a ≡ a + 0 = omega arith in ap (λ (x : ℕ). x ∷ []) e
range-suc a (suc n) =
    let e : (a + 1) + n ≡ a + suc n = omega arith in
    ap (λ (xs : List ℕ). a ∷ xs) (range-suc (a + 1) n ∙ ap (λ (x : ℕ). range_with_len (a + 1) n ++ x ∷ []) e)

-- k numbers more
pub range-append : (a n k : ℕ) → range_with_len a (n + k) ≡ range_with_len a n ++ range_with_len (a + n) k
range-append a zero k =
    let count : 0 + k ≡ k = omega arith in
    let from : a ≡ a + 0 = omega arith in
    ap (range_with_len a) count ∙ ap (λ (x : ℕ). range_with_len x k) from
range-append a (suc n) k =
    let count : suc n + k ≡ suc (n + k) = omega arith in
    let from : (a + 1) + n ≡ a + suc n = omega arith in
    ap (range_with_len a) count
    ∙ ap (λ (x : List ℕ). a ∷ x) (range-append (a + 1) n k)
    ∙ ap (λ (x : ℕ). a ∷ (range_with_len (a + 1) n ++ range_with_len x k)) from

pub lists-suc : {X : Type 0} (f : ℕ → List X) (n : ℕ) → flat_map f (range_with_len 1 (suc n)) ≡ flat_map f (range_with_len 1 n) ++ f (suc n)
lists-suc f n =
    let one : 1 + n ≡ suc n = omega arith in
    ap (flat_map f) (range-suc 1 n)
    ∙ flat_map-append f (range_with_len 1 n) ((1 + n) ∷ [])
    ∙ ap (λ (x : List _). flat_map f (range_with_len 1 n) ++ x) (flat_map-cons f (1 + n) [] ∙ append-nil (f (1 + n)) ∙ ap f one)

pub any-suc : (test : ℕ → Bool) (m : ℕ) → list_any test (range_with_len 1 (suc m)) ≡ (list_any test (range_with_len 1 m) || test (suc m))
any-suc test m =
    let one : 1 + m ≡ suc m = omega arith in
    let last : list_any test ((1 + m) ∷ []) ≡ test (suc m) =
    ap (λ (x : ℕ). list_any test (x ∷ [])) one ∙ or-false (test (suc m)) in
    ap (list_any test) (range-suc 1 m) ∙ list_any-append test (range_with_len 1 m) ((1 + m) ∷ [])
    ∙ ap (λ (b : Bool). list_any test (range_with_len 1 m) || b) last

pub count-suc : (test : ℕ → Bool) (m : ℕ)
    → count_by test (range_with_len 1 (suc m)) ≡ count_by test (range_with_len 1 m) + cond (test (suc m)) 1 0
count-suc test m =
    let one : 1 + m ≡ suc m = omega arith in
    let last : count_by test ((1 + m) ∷ []) ≡ cond (test (suc m)) 1 0 =
    ap (λ (x : ℕ). count_by test (x ∷ [])) one ∙ omega arith in
    ap (count_by test) (range-suc 1 m) ∙ sum_by-append (λ x. cond (test x) 1 0) (range_with_len 1 m) ((1 + m) ∷ [])
    ∙ ap (λ (x : ℕ). count_by test (range_with_len 1 m) + x) last

-- two tests that agree up to a number, behind which one passes all and the other none
pub count-gap : (wide narrow : ℕ → Bool) (a m : ℕ)
    → ((p : ℕ) → 1 ≤ p → p ≤ a → wide p ≡ narrow p)
    → ((p : ℕ) → a < p → p ≤ m → (wide p ≡ true) × (narrow p ≡ false))
    → count_by wide (range_with_len 1 m) ≡ count_by narrow (range_with_len 1 m) + (m - a)
count-gap wide narrow a zero same apart = omega arith
count-gap wide narrow a (suc m) same apart =
    let before = count-gap wide narrow a m same (λ p above within. apart p above (omega arith)) in
    let here = same (suc m) (omega arith) in
    let there = λ (above : a < suc m). apart (suc m) above (omega arith) in
    grind (arith, nat_tests, count-suc wide m, count-suc narrow m, before, here, there)

count-cons : (test : ℕ → Bool) (x : ℕ) (xs : List ℕ) → count_by test (x ∷ xs) ≡ cond (test x) 1 0 + count_by test xs
count-cons test x xs = sum_by-cons (λ (p : ℕ). cond (test p) 1 0) x xs

-- those that pass one test and not the other, which passes fewer
pub count-without : (wide narrow : ℕ → Bool) (xs : List ℕ) → ((p : ℕ) → narrow p ≡ true → wide p ≡ true)
    → count_by (λ p. wide p && not (narrow p)) xs + count_by narrow xs ≡ count_by wide xs
count-without wide narrow [] less = refl
count-without wide narrow (x ∷ xs) less =
    let before = count-without wide narrow xs less in
    let here = less x in
    grind (arith, before, here, count-cons wide x xs, count-cons narrow x xs, count-cons (λ p. wide p && not (narrow p)) x xs)

pub count-not : (test : ℕ → Bool) (xs : List ℕ) → count_by (λ p. not (test p)) xs + count_by test xs ≡ length xs
count-not test [] = refl
count-not test (x ∷ xs) =
    let before = count-not test xs in
    let more : length (x ∷ xs) ≡ suc (length xs) = refl in
    grind (arith, before, more, count-cons test x xs, count-cons (λ p. not (test p)) x xs)
