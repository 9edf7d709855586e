-- Lists marked number by number, and steps put down frame by frame: what is written at each place.
use Rattle.std.proofs.Common.{◌≡◌, ◌≢◌, ℕ, zero, suc, ◌+◌, ◌-◌, ◌*◌, ◌<◌, ◌≤◌, Bool, true, false, cond, ◌&&◌, ◌||◌, List, [], ◌∷◌, ◌++◌, length, get_or, set, take, min, ⊎_elim, refl, sym, ap, ◌∙◌, arith, eqb, ltb, get_or-set_same, get_or-set_other}
use Rattle.std.specs.List.{list_any}
use Rattle.std.proofs.Math.Nat.{mul-le-mul_right}
use Rattle.std.proofs.lemmas.Bool.{cases_lt, false_from_ne_true, eqb-true}
use Rattle.std.proofs.lemmas.Bool.Decides.{nat_tests, eqb_tells}
use Rattle.std.proofs.lemmas.List.{take_more, length-take, get_or-take}
use Rattle.std.proofs.lemmas.List.Folds.{Any-from_list_any}
use Rattle.scr_plan.specs.Delays.{IsDelayList, delay_of}
use Rattle.scr_plan.specs.Drops.{range_has}
use Rattle.scr_plan.specs.declared.delays.FrameDelay.{FrameDelay}
use Rattle.scr_plan.specs.declared.drops.DropRange.{DropRange}
use Rattle.scr_plan.proofs.Ranges.{Decides-range_has}

-- ---- the numbers of a range

-- no number of a range stands between one of them and the next
between : (first step i j n : ℕ) → 1 ≤ step → n ≡ first + j * step → first + i * step ≢ n → ltb (first + i * step) n ≡ ltb (first + i * step) (n + step)
between first step i j n some is apart =
    ⊎_elim
    (λ (below : i < j). let le : (i + 1) * step ≤ j * step = mul-le-mul_right step (omega arith) in grind (arith, nat_tests))
    (λ (above : j ≤ i).
    ⊎_elim
    (λ (more : j < i). let le : (j + 1) * step ≤ i * step = mul-le-mul_right step (omega arith) in grind (arith, nat_tests))
    (λ (none : i ≤ j). let same : i ≡ j = omega arith in absurd (apart (ap (λ (x : ℕ). first + x * step) same ∙ sym is)))
    (cases_lt j i))
    (cases_lt i j)

-- marked so far: the numbers of the range below the next one
abbrev pub so_far : DropRange → (n k : ℕ) → Bool
so_far range n k = range_has range (k + 1) && ltb (k + 1) n

module _ (range : DropRange) (some : 1 ≤ range.step) where
  same-so_far : (n j k : ℕ) → n ≡ range.first + j * range.step → k + 1 ≢ n → so_far range n k ≡ so_far range (n + range.step) k
  same-so_far n j k is apart = by (range_has range (k + 1)) refl
    where
      by : (b : Bool) → range_has range (k + 1) ≡ b → (b && ltb (k + 1) n) ≡ (b && ltb (k + 1) (n + range.step))
      by false has = refl
      by true has =
          let of = (Decides-range_has range (k + 1) some).0 has in
          let at = of.1 in
          let differ : range.first + of.0 * range.step ≢ n = λ same. apart (at ∙ same) in
          ap (λ (x : ℕ). ltb x n) at ∙ between range.first range.step of.0 j n some is differ ∙ ap (λ (x : ℕ). ltb x (n + range.step)) (sym at)

  -- one number more is marked
  pub marked : (marks old : List Bool) (n j k : ℕ) → 1 ≤ n → n ≤ length marks → n ≡ range.first + j * range.step → n ≤ range.last
      → get_or marks k false ≡ (get_or old k false || so_far range n k)
      → get_or (set marks (n - 1) true) k false ≡ (get_or old k false || so_far range (n + range.step) k)
  marked marks old n j k from to is below before =
      ⊎_elim
      (λ (here : (eqb k (n - 1) ≡ true) × (k ≡ n - 1)).
      let at = here.1 in
      let number : k + 1 ≡ n = omega arith in
      let has : range_has range (k + 1) ≡ true = (Decides-range_has range (k + 1) some).1 (j, number ∙ is, omega arith) in
      let less : ltb (k + 1) (n + range.step) ≡ true = grind (arith, nat_tests) in
      ap (λ (x : ℕ). get_or (set marks (n - 1) true) x false) at
      ∙ get_or-set_same marks (n - 1) true false (omega arith)
      ∙ sym (by-true (get_or old k false) (range_has range (k + 1)) (ltb (k + 1) (n + range.step)) has less))
      (λ (there : (eqb k (n - 1) ≡ false) × (k ≢ n - 1)).
      let differ : k + 1 ≢ n = λ same. there.1 (omega arith) in
      get_or-set_other marks (n - 1) k true false there.1
      ∙ before
      ∙ ap (λ (b : Bool). get_or old k false || b) (same-so_far n j k is differ))
      (eqb_tells k (n - 1))
    where
      by-true : (a b c : Bool) → b ≡ true → c ≡ true → (a || (b && c)) ≡ true
      by-true true b c p q = refl
      by-true false b c p q = rw (p, q) refl

  -- no number was marked
  pub none_marked : (old : List Bool) (k : ℕ) → get_or old k false ≡ (get_or old k false || so_far range range.first k)
  none_marked old k = by (get_or old k false) (so_far range range.first k) (none (range_has range (k + 1)) refl)
    where
      none : (b : Bool) → range_has range (k + 1) ≡ b → (b && ltb (k + 1) range.first) ≡ false
      none false has = refl
      none true has = let of = (Decides-range_has range (k + 1) some).0 has in let at = of.1 in grind (arith, nat_tests)

      by : (a b : Bool) → b ≡ false → a ≡ (a || b)
      by true b p = refl
      by false b p = sym p

  -- all were
  pub all_marked : (marks old : List Bool) (n k count : ℕ) → k < count → min range.last count < n → get_or marks k false ≡ (get_or old k false || so_far range n k)
      → get_or marks k false ≡ (get_or old k false || range_has range (k + 1))
  all_marked marks old n k count within behind is = is ∙ ap (λ (b : Bool). get_or old k false || b) (by (range_has range (k + 1)) refl)
    where
      by : (b : Bool) → range_has range (k + 1) ≡ b → (b && ltb (k + 1) n) ≡ b
      by false has = refl
      by true has =
          let of = (Decides-range_has range (k + 1) some).0 has in
          let last = of.2 in
          grind (arith, nat_tests)

-- ---- delays put down

pub delay_of-push : (xs : List FrameDelay) (x : FrameDelay) (n : ℕ) → list_any (λ it. eqb it.frame x.frame) xs ≡ false
    → delay_of (xs ++ x ∷ []) n ≡ cond (eqb x.frame n) x.steps (delay_of xs n)
unfolding delay_of
delay_of-push [] x n none = refl
delay_of-push (y ∷ ys) x n none =
    by (eqb y.frame n) (eqb x.frame n) (delay_of-push ys x n (rest (eqb y.frame x.frame) (list_any (λ it. eqb it.frame x.frame) ys) none))
    (λ a b. let same = first (eqb y.frame x.frame) (list_any (λ it. eqb it.frame x.frame) ys) none in grind (arith, nat_tests))
  where
    first : (a b : Bool) → (a || b) ≡ false → a ≡ false
    first true b e = absurd cc
    first false b e = refl

    rest : (a b : Bool) → (a || b) ≡ false → b ≡ false
    rest true b e = absurd cc
    rest false b e = e

    by : (a b : Bool) → delay_of (ys ++ x ∷ []) n ≡ cond b x.steps (delay_of ys n) → (a ≡ true → b ≡ true → ⊥)
        → cond a y.steps (delay_of (ys ++ x ∷ []) n) ≡ cond b x.steps (cond a y.steps (delay_of ys n))
    by true true e not_both = absurd (not_both refl refl)
    by true false e not_both = refl
    by false b e not_both = e

same_there : (xs : List FrameDelay) (n : ℕ) (a b : FrameDelay) → n < length xs → get_or xs n a ≡ get_or xs n b
same_there [] n a b within = absurd (omega arith)
same_there (x ∷ xs) zero a b within = refl
same_there (x ∷ xs) (suc n) a b within = same_there xs n a b (omega arith)

-- one delay more of a list
pub delay_of-more : (delays : List FrameDelay) (i n : ℕ) (d : FrameDelay) → IsDelayList delays → i < length delays
    → delay_of (take (i + 1) delays) n ≡ cond (eqb (get_or delays i d).frame n) (get_or delays i d).steps (delay_of (take i delays) n)
delay_of-more delays i n d is within =
    ap (λ (xs : List FrameDelay). delay_of xs n) (take_more delays i d within)
    ∙ delay_of-push (take i delays) (get_or delays i d) n
    (false_from_ne_true (list_any (λ it. eqb it.frame (get_or delays i d).frame) (take i delays)) (λ some.
    let found = Any-from_list_any (λ (it : FrameDelay). eqb it.frame (get_or delays i d).frame) (take i delays) some in
    let e : FrameDelay = found.1 in
    let early : found.0 < i = omega (arith, found.2, length-take i delays) in
    let stands : get_or delays found.0 e ≡ e = sym (get_or-take i delays found.0 e early) ∙ found.3 in
    let named : e.frame ≡ (get_or delays i d).frame = eqb-true e.frame (get_or delays i d).frame found.4 in
    is.once found.0 i e early within
    (ap (λ (it : FrameDelay). it.frame) stands ∙ named ∙ ap (λ (it : FrameDelay). it.frame) (same_there delays i d e within))))
