-- One verdict more is counted.
use Rattle.std.proofs.Common.{◌≡◌, ℕ, ◌+◌, ◌<◌, ◌≤◌, List, [], ◌∷◌, ◌++◌, length, get_or, set, arith, sym, ap, ◌∙◌}
use Rattle.std.proofs.lemmas.List.{length-append}
use Rattle.std.proofs.lemmas.List.FromFn.{get_or-map-range_with_len, length-map-range_with_len}
use Rattle.std.proofs.Math.Seq.{take-append_seam, get_or-append_seam}
use Rattle.scr_plan.specs.declared.given.Given.{Given}
use Rattle.scr_report.specs.Outcome.{total_of, totals_of}
use Rattle.scr_report.proofs.Counting.{AreTotals, AreTotals-named, AreTotals-unnamed, AreTotals-few, AreTotals-all}

module _ (names : List (List ℕ)) (so_far : List Given) (given : Given) (totals : List ℕ) (are : totals ≡ totals_of names so_far) where
  abbrev pub all : List Given
  all = so_far ++ given ∷ []

  longer : length all ≡ length so_far + 1
  longer = omega (arith, length-append so_far (given ∷ []))

  counted : AreTotals names all (length so_far) totals
  counted = record {
    each = ap length are ∙ length-map-range_with_len (total_of so_far) 0 (length names);
    counted = λ k below.
        ap (λ (xs : List ℕ). get_or xs k 0) are
        ∙ get_or-map-range_with_len (total_of so_far) 0 (length names) k k 0 below (omega arith)
        ∙ ap (λ (xs : List Given). total_of xs k) (sym (take-append_seam so_far (given ∷ [])));
  }

  here : (d : Given) → given.verdict.0 ≡ (get_or all (length so_far) d).verdict.0
  here d = ap (λ (g : Given). g.verdict.0) (sym (get_or-append_seam so_far given [] d))

  -- for its name
  pub counts-named : given.verdict.0 < length totals → set totals given.verdict.0 (get_or totals given.verdict.0 0 + 1) ≡ totals_of names all
  counts-named within =
      AreTotals-all names all (length so_far + 1) (set totals given.verdict.0 (get_or totals given.verdict.0 0 + 1)) (omega (arith, longer))
      (AreTotals-named names all (length so_far) given.verdict.0 given totals (omega (arith, longer)) (here given) within counted)

  -- for none
  pub counts-unnamed : length totals ≤ given.verdict.0 → totals ≡ totals_of names all
  counts-unnamed beyond =
      AreTotals-all names all (length so_far + 1) totals (omega (arith, longer))
      (AreTotals-unnamed names all (length so_far) given.verdict.0 given totals (omega (arith, longer)) (here given) beyond counted)

  -- no total is larger than the count of verdicts
  pub counts-few : (place : ℕ) → place < length totals → get_or totals place 0 ≤ length so_far
  counts-few place within = AreTotals-few names all (length so_far) place totals (omega (arith, longer)) within counted
