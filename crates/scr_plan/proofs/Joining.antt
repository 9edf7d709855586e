-- Ranges gone through as one: where two have equal steps and one begins at a number of the other, one range has the
-- numbers of both.
use Rattle.std.proofs.Common.{◌≡◌, ℕ, ◌+◌, ◌-◌, ◌*◌, ◌<◌, ◌≤◌, Bool, true, false, ◌||◌, max, List, [], ◌∷◌, suc, refl, length, get_or, take, ◌⊎◌, ⊎_elim, inl, inr, arith, ap, sym, ◌∙◌}
use Rattle.std.specs.List.{list_any}
use Rattle.std.proofs.Math.Bool.{or_assoc}
use Rattle.std.proofs.Math.Nat.{mul-le-mul_right}
use Rattle.std.proofs.lemmas.Bool.{cases_lt}
use Rattle.std.proofs.lemmas.Bool.Decides.{same_from_decides, Decides-or, Decides-like}
use Rattle.std.proofs.lemmas.List.Folds.{list_any_more}
use Rattle.scr_plan.specs.Drops.{IsOfRange, IsRange, range_has}
use Rattle.scr_plan.specs.declared.drops.DropRange.{DropRange}
use Rattle.scr_plan.proofs.Ranges.{Decides-range_has}

-- a range up to another last number
abbrev pub up_to : DropRange → ℕ → DropRange
up_to range last = record { first = range.first; last = last; step = range.step }

module _ (a b : DropRange) (is_a : IsRange a) (is_b : IsRange b) (same : a.step ≡ b.step) (begins : range_has a b.first ≡ true) where
  start : IsOfRange a b.first
  start = (Decides-range_has a b.first is_a.step).0 begins

  apart : (n : ℕ) → IsOfRange (up_to a (max a.last b.last)) n → IsOfRange a n ⊎ IsOfRange b n
  apart n (j, is, to) =
      ⊎_elim
      (λ (behind : a.last < n).
      let i : ℕ = start.0 in
      let first : b.first ≡ a.first + i * a.step = start.1 in
      let before : b.first ≤ a.last = start.2 in
      inr (j - i, later i first before behind, omega arith))
      (λ (within : n ≤ a.last). inl (j, is, within))
      (cases_lt a.last n)
    where
      later : (i : ℕ) → b.first ≡ a.first + i * a.step → b.first ≤ a.last → a.last < n → n ≡ b.first + (j - i) * b.step
      later i first before behind =
          ⊎_elim
          (λ (more : i < j).
          let d : ℕ = j - i in
          let sum : j ≡ i + d = omega arith in
          let steps : j * a.step ≡ i * a.step + d * a.step = ap (λ (x : ℕ). x * a.step) sum ∙ omega arith in
          let theirs : d * a.step ≡ d * b.step = ap (λ (x : ℕ). d * x) same in
          omega arith)
          (λ (less : j ≤ i). let le : j * a.step ≤ i * a.step = mul-le-mul_right a.step less in absurd (omega arith))
          (cases_lt i j)

  together : (n : ℕ) → IsOfRange a n ⊎ IsOfRange b n → IsOfRange (up_to a (max a.last b.last)) n
  together n either =
      ⊎_elim
      (λ (of : IsOfRange a n). let to : n ≤ a.last = of.2 in (of.0, of.1, omega arith))
      (λ (of : IsOfRange b n).
      let i : ℕ = start.0 in
      let j : ℕ = of.0 in
      let first : b.first ≡ a.first + i * a.step = start.1 in
      let is : n ≡ b.first + j * b.step = of.1 in
      let steps : j * b.step ≡ j * a.step = ap (λ (x : ℕ). j * x) (sym same) in
      let to : n ≤ b.last = of.2 in
      (i + j, omega arith, omega arith))
      either

  pub joined : (n : ℕ) → range_has (up_to a (max a.last b.last)) n ≡ (range_has a n || range_has b n)
  joined n =
      same_from_decides (range_has (up_to a (max a.last b.last)) n) (range_has a n || range_has b n)
      (Decides-range_has (up_to a (max a.last b.last)) n is_a.step)
      (Decides-like (range_has a n || range_has b n) (together n) (apart n)
      (Decides-or (range_has a n) (range_has b n) (Decides-range_has a n is_a.step) (Decides-range_has b n is_b.step)))

-- ---- ranges marked one after another, the last one still open

pub has_none : (test : DropRange → Bool) (ranges : List DropRange) (old : Bool) → length ranges ≡ 0 → old ≡ (old || list_any test ranges)
has_none test [] true none = refl
has_none test [] false none = refl
has_none test (range ∷ ranges) old none = absurd (omega arith)

pub next_at : (ranges : List DropRange) (first : DropRange) (others : List DropRange) (i : ℕ) (d : DropRange) → ranges ≡ first ∷ others
    → get_or ranges (i + 1) d ≡ get_or others i d
next_at ranges first others i d cut =
    let one : i + 1 ≡ suc i = omega arith in
    ap (λ (xs : List DropRange). get_or xs (i + 1) d) cut ∙ ap (λ (n : ℕ). get_or (first ∷ others) n d) one

-- one range more has its say: what was said of those before it, or what is said of it
pub range_more : (test : DropRange → Bool) (ranges : List DropRange) (i : ℕ) (d : DropRange) (old before now : Bool) → i < length ranges
    → before ≡ (old || list_any test (take i ranges)) → now ≡ (before || test (get_or ranges i d)) → now ≡ (old || list_any test (take (i + 1) ranges))
range_more test ranges i d old before now within was is =
    is
    ∙ ap (λ (b : Bool). b || test (get_or ranges i d)) was
    ∙ or_assoc old (list_any test (take i ranges)) (test (get_or ranges i d))
    ∙ ap (λ (b : Bool). old || b) (sym (list_any_more test ranges i d within))
