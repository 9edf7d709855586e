-- Totals that are counted in one pass over the verdicts.
use Rattle.std.proofs.Common.{◌≡◌, ◌≢◌, ℕ, zero, suc, ◌+◌, ◌<◌, ◌≤◌, List, length, get_or, set, take, replicate, inl, inr, eqb, arith, refl, sym, ap, ◌∙◌}
use Rattle.std.proofs.lemmas.Bool.{cases_eq, eq-eqb, ne_eqb}
use Rattle.std.proofs.lemmas.Grind.{same_number_lists}
use Rattle.std.proofs.lemmas.List.{length-set, length-replicate, get_or-set_same, get_or-set_other, length-take-le, take_all}
use Rattle.std.proofs.lemmas.List.FromFn.{get_or-map-range_with_len, length-map-range_with_len}
use Rattle.std.proofs.lemmas.List.Sums.{count_by_more_yes, count_by_more_no, count_by-le-length}
use Rattle.scr_plan.specs.declared.given.Given.{Given}
use Rattle.scr_report.specs.Outcome.{total_of, totals_of}

-- so many verdicts are counted: each name has a place, with the total of these verdicts
pub record AreTotals (names : List (List ℕ)) (verdicts : List Given) (count : ℕ) (totals : List ℕ) : Type 0 where
  pub each : length totals ≡ length names
  pub counted : (k : ℕ) → k < length names → get_or totals k 0 ≡ total_of (take count verdicts) k

get_or-zeros : (k i : ℕ) → ◌≡◌ {A = ℕ} (get_or (replicate k 0) i 0) 0
get_or-zeros zero i = refl
get_or-zeros (suc k) zero = refl
get_or-zeros (suc k) (suc i) = get_or-zeros k i

pub AreTotals-none : (names : List (List ℕ)) (verdicts : List Given) (totals : List ℕ) → totals ≡ replicate (length names) 0 → AreTotals names verdicts 0 totals
AreTotals-none names verdicts totals zeros = record {
  each = ap length zeros ∙ length-replicate (length names) 0;
  counted = λ k below. ap (λ (xs : List ℕ). get_or xs k 0) zeros ∙ get_or-zeros (length names) k;
}

-- the verdict at a place adds one to the total of its name, and nothing to the others
total-here : (verdicts : List Given) (i k : ℕ) (d : Given) → i < length verdicts → k ≡ (get_or verdicts i d).verdict.0
    → total_of (take (i + 1) verdicts) k ≡ total_of (take i verdicts) k + 1
total-here verdicts i k d below here = count_by_more_yes (λ (given : Given). eqb given.verdict.0 k) verdicts i d below (eq-eqb (get_or verdicts i d).verdict.0 k (sym here))

total-other : (verdicts : List Given) (i k : ℕ) (d : Given) → i < length verdicts → k ≢ (get_or verdicts i d).verdict.0
    → total_of (take (i + 1) verdicts) k ≡ total_of (take i verdicts) k
total-other verdicts i k d below other = count_by_more_no (λ (given : Given). eqb given.verdict.0 k) verdicts i d below (ne_eqb (get_or verdicts i d).verdict.0 k (λ is. other (sym is)))

-- a verdict with a name: its place has one more
pub AreTotals-named : (names : List (List ℕ)) (verdicts : List Given) (i place : ℕ) (d : Given) (totals : List ℕ) → i < length verdicts
    → place ≡ (get_or verdicts i d).verdict.0 → place < length totals → AreTotals names verdicts i totals
    → AreTotals names verdicts (i + 1) (set totals place (get_or totals place 0 + 1))
AreTotals-named names verdicts i place d totals below here within was = record {
  each = length-set totals place (get_or totals place 0 + 1) ∙ was.each;
  counted = λ k k-below.
      elim (cases_eq k place) as (λ _. get_or (set totals place (get_or totals place 0 + 1)) k 0 ≡ total_of (take (i + 1) verdicts) k) [
        | inl same ↦
            ap (λ (n : ℕ). get_or (set totals place (get_or totals place 0 + 1)) n 0) same
            ∙ get_or-set_same totals place (get_or totals place 0 + 1) 0 within
            ∙ ap (λ (n : ℕ). get_or totals n 0 + 1) (sym same)
            ∙ ap (λ (n : ℕ). n + 1) (was.counted k k-below)
            ∙ sym (total-here verdicts i k d below (same ∙ here))
        | inr apart ↦
            get_or-set_other totals place k (get_or totals place 0 + 1) 0 apart
            ∙ was.counted k k-below
            ∙ sym (total-other verdicts i k d below (λ is. apart (is ∙ sym here)))
      ];
}

-- a verdict without: nothing changes
pub AreTotals-unnamed : (names : List (List ℕ)) (verdicts : List Given) (i place : ℕ) (d : Given) (totals : List ℕ) → i < length verdicts
    → place ≡ (get_or verdicts i d).verdict.0 → length totals ≤ place → AreTotals names verdicts i totals → AreTotals names verdicts (i + 1) totals
AreTotals-unnamed names verdicts i place d totals below here beyond was = record {
  each = was.each;
  counted = λ k k-below.
      was.counted k k-below
      ∙ sym (total-other verdicts i k d below (λ is. absurd (omega (arith, is, here, beyond, k-below, was.each))));
}

-- no total is larger than the count of verdicts
pub AreTotals-few : (names : List (List ℕ)) (verdicts : List Given) (i place : ℕ) (totals : List ℕ) → i < length verdicts → place < length totals → AreTotals names verdicts i totals
    → get_or totals place 0 ≤ i
AreTotals-few names verdicts i place totals below within was =
    let few = count_by-le-length (λ (given : Given). eqb given.verdict.0 place) (take i verdicts) in
    omega (arith, was.counted place (omega (arith, was.each)), few, length-take-le i verdicts (omega arith))

-- all are counted
pub AreTotals-all : (names : List (List ℕ)) (verdicts : List Given) (i : ℕ) (totals : List ℕ) → length verdicts ≤ i → AreTotals names verdicts i totals
    → totals ≡ totals_of names verdicts
AreTotals-all names verdicts i totals all was =
    let count = length-map-range_with_len (total_of verdicts) 0 (length names) in
    same_number_lists totals (totals_of names verdicts) (was.each ∙ sym count)
    (λ k below.
    let k-below : k < length names = omega (arith, was.each) in
    was.counted k k-below ∙ ap (λ (given : List Given). total_of given k) (take_all i verdicts all)
    ∙ sym (get_or-map-range_with_len (total_of verdicts) 0 (length names) k k 0 k-below (omega arith)))
