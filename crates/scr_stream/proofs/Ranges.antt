-- Lists over a range of numbers.
use Rattle.std.proofs.Common.{◌≡◌, ℕ, zero, suc, ◌+◌, ◌-◌, ◌<◌, ◌≤◌, Bool, true, false, cond, ◌||◌, List, [], ◌∷◌, ◌++◌, length, get_or, refl, ap, ◌∙◌, inl, inr, arith}
use Rattle.std.specs.Prelude.{map, filter}
use Rattle.std.specs.List.{list_any, range_with_len}
use Rattle.std.proofs.lemmas.Bool.{cases_lt}
use Rattle.std.proofs.lemmas.List.{map-append}
use Rattle.std.proofs.lemmas.List.Folds.{list_any-append}
use Rattle.scr_plan.proofs.FromOne.{range-suc}

or-false : (b : Bool) → (b || false) ≡ b
or-false true = refl
or-false false = refl

or-true : (b : Bool) → (b || true) ≡ true
or-true true = refl
or-true false = refl

-- equal at each number
pub map-same : {X : Type 0} (f g : ℕ → X) (a n : ℕ) → ((p : ℕ) → a ≤ p → p < a + n → f p ≡ g p) → map f (range_with_len a n) ≡ map g (range_with_len a n)
map-same f g a zero same = refl
map-same f g a (suc n) same =
    ap (λ (x : _). x ∷ map f (range_with_len (a + 1) n)) (same a (omega arith) (omega arith))
    ∙ ap (λ (xs : List _). g a ∷ xs) (map-same f g (a + 1) n (λ p from to. same p (omega arith) (omega arith)))

pub filter-same : (f g : ℕ → Bool) (a n : ℕ) → ((p : ℕ) → a ≤ p → p < a + n → f p ≡ g p) → filter f (range_with_len a n) ≡ filter g (range_with_len a n)
filter-same f g a zero same = refl
filter-same f g a (suc n) same =
    let behind = filter-same f g (a + 1) n (λ p from to. same p (omega arith) (omega arith)) in
    let here = same a (omega arith) (omega arith) in
    ap (λ (b : Bool). cond b (a ∷ filter f (range_with_len (a + 1) n)) (filter f (range_with_len (a + 1) n))) here
    ∙ ap (λ (xs : List ℕ). cond (g a) (a ∷ xs) xs) behind

pub filter-all : (f : ℕ → Bool) (a n : ℕ) → ((p : ℕ) → a ≤ p → p < a + n → f p ≡ true) → filter f (range_with_len a n) ≡ range_with_len a n
filter-all f a zero all = refl
filter-all f a (suc n) all =
    let behind = filter-all f (a + 1) n (λ p from to. all p (omega arith) (omega arith)) in
    ap (λ (b : Bool). cond b (a ∷ filter f (range_with_len (a + 1) n)) (filter f (range_with_len (a + 1) n))) (all a (omega arith) (omega arith))
    ∙ ap (λ (xs : List ℕ). a ∷ xs) behind

-- what is left of a range grows
from-by : (b : Bool) (a d : ℕ) (rest : List ℕ) → ((i : ℕ) → i < length rest → a + 1 ≤ get_or rest i d) → (i : ℕ) → i < length (cond b (a ∷ rest) rest)
    → a ≤ get_or (cond b (a ∷ rest) rest) i d
from-by true a d rest each zero below = omega arith
from-by true a d rest each (suc i) below = let more = each i (omega arith) in omega arith
from-by false a d rest each i below = let more = each i below in omega arith

pub filter-from : (f : ℕ → Bool) (a n i d : ℕ) → i < length (filter f (range_with_len a n)) → a ≤ get_or (filter f (range_with_len a n)) i d
filter-from f a zero i d below = absurd (omega arith)
filter-from f a (suc n) i d below = from-by (f a) a d (filter f (range_with_len (a + 1) n)) (λ k within. filter-from f (a + 1) n k d within) i below

grows-by : (b : Bool) (a d : ℕ) (rest : List ℕ) → ((i : ℕ) → i < length rest → a + 1 ≤ get_or rest i d)
    → ((i j : ℕ) → i < j → j < length rest → get_or rest i d < get_or rest j d) → (i j : ℕ) → i < j → j < length (cond b (a ∷ rest) rest)
    → get_or (cond b (a ∷ rest) rest) i d < get_or (cond b (a ∷ rest) rest) j d
grows-by true a d rest each grow i zero less below = absurd (omega arith)
grows-by true a d rest each grow zero (suc j) less below = let more = each j (omega arith) in omega arith
grows-by true a d rest each grow (suc i) (suc j) less below = grow i j (omega arith) (omega arith)
grows-by false a d rest each grow i j less below = grow i j less below

pub filter-grows : (f : ℕ → Bool) (a n i j d : ℕ) → i < j → j < length (filter f (range_with_len a n))
    → get_or (filter f (range_with_len a n)) i d < get_or (filter f (range_with_len a n)) j d
filter-grows f a zero i j d less below = absurd (omega arith)
filter-grows f a (suc n) i j d less below =
    grows-by (f a) a d (filter f (range_with_len (a + 1) n)) (λ k within. filter-from f (a + 1) n k d within)
    (λ k l fewer within. filter-grows f (a + 1) n k l d fewer within) i j less below

pub any-same : (f g : ℕ → Bool) (a n : ℕ) → ((p : ℕ) → a ≤ p → p < a + n → f p ≡ g p) → list_any f (range_with_len a n) ≡ list_any g (range_with_len a n)
any-same f g a zero same = refl
any-same f g a (suc n) same =
    ap (λ (b : Bool). b || list_any f (range_with_len (a + 1) n)) (same a (omega arith) (omega arith))
    ∙ ap (λ (b : Bool). g a || b) (any-same f g (a + 1) n (λ p from to. same p (omega arith) (omega arith)))

pub any-none : (f : ℕ → Bool) (a n : ℕ) → ((p : ℕ) → a ≤ p → p < a + n → f p ≡ false) → list_any f (range_with_len a n) ≡ false
any-none f a zero none = refl
any-none f a (suc n) none =
    ap (λ (b : Bool). b || list_any f (range_with_len (a + 1) n)) (none a (omega arith) (omega arith))
    ∙ any-none f (a + 1) n (λ p from to. none p (omega arith) (omega arith))

-- one number more
pub any-more : (f : ℕ → Bool) (a n : ℕ) → list_any f (range_with_len a (n + 1)) ≡ (list_any f (range_with_len a n) || f (a + n))
any-more f a n =
    let next : n + 1 ≡ suc n = omega arith in
    ap (λ (k : ℕ). list_any f (range_with_len a k)) next
    ∙ ap (list_any f) (range-suc a n) ∙ list_any-append f (range_with_len a n) ((a + n) ∷ [])
    ∙ ap (λ (b : Bool). list_any f (range_with_len a n) || b) (or-false (f (a + n)))

-- one of them passes
pub any-found : (f : ℕ → Bool) (a n p : ℕ) → a ≤ p → p < a + n → f p ≡ true → list_any f (range_with_len a n) ≡ true
any-found f a zero p from to passes = absurd (omega arith)
any-found f a (suc n) p from to passes =
    elim (cases_lt a p) [
      | inl less ↦ ap (λ (b : Bool). f a || b) (any-found f (a + 1) n p (omega arith) (omega arith) passes) ∙ or-true (f a)
      | inr le ↦
          let same : a ≡ p = omega arith in
          ap (λ (b : Bool). b || list_any f (range_with_len (a + 1) n)) (ap f same ∙ passes)
    ]

pub range-more : (a p : ℕ) → a ≤ p → range_with_len a (p + 1 - a) ≡ range_with_len a (p - a) ++ p ∷ []
range-more a p from =
    let size : p + 1 - a ≡ suc (p - a) = omega arith in
    let last : a + (p - a) ≡ p = omega arith in
    ap (range_with_len a) size ∙ range-suc a (p - a) ∙ ap (λ (k : ℕ). range_with_len a (p - a) ++ k ∷ []) last

pub map-more : {X : Type 0} (f : ℕ → X) (a p : ℕ) → a ≤ p → map f (range_with_len a (p + 1 - a)) ≡ map f (range_with_len a (p - a)) ++ f p ∷ []
map-more f a p from =
    ap (map f) (range-more a p from) ∙ map-append f (range_with_len a (p - a)) (p ∷ [])

-- none of them passes, nor does the next
pub any-step : (f : ℕ → Bool) (a p : ℕ) → a ≤ p → list_any f (range_with_len a (p - a)) ≡ false → f p ≡ false
    → list_any f (range_with_len a (p + 1 - a)) ≡ false
any-step f a p from none here =
    let size : p + 1 - a ≡ (p - a) + 1 = omega arith in
    let last : a + (p - a) ≡ p = omega arith in
    ap (λ (k : ℕ). list_any f (range_with_len a k)) size ∙ any-more f a (p - a)
    ∙ ap (λ (b : Bool). b || f (a + (p - a))) none ∙ ap f last ∙ here
