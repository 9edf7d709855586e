-- A chain over frames, from what its two programs say of them.
use Rattle.std.proofs.Common.{◌≡◌, ◌∙◌, ℕ, ◌+◌, ◌-◌, ◌^◌, min, Bool, true, false, if◌then◌else◌, List, [], ◌∷◌, ◌++◌, map, refl, sym, ap}
use Rattle.std.proofs.lemmas.List.{map-append}
use Rattle.scr_base.specs.declared.row.Row.{Row}
use Rattle.scr_base.specs.declared.row.Verdict.{Verdict}
use Rattle.scr_program.specs.Rules.{Rules}
use Rattle.scr_chain.specs.Arrivals.{Arrival, own_row, verdict_at, verdict_on, count_at, count_on}
use Rattle.scr_chain.specs.Chains.{chained, chained_count, chained_verdict, if_passing, joined, lets_pass, passing, passing_after, STOPPED}
use Rattle.scr_chain.specs.Five.{Five, rules_of}
use Rattle.scr_chain.proofs.Joining.{joined-swap}
use Rattle.scr_chain.proofs.OwnRows.{AnswersAlike, IsJoined}
use Rattle.scr_chain.proofs.TheFive.{alike}

-- where the verdicts at the rows of some things are the verdicts on these things, so are the rows that pass
module _ {X : Type 0} (names : List (List ℕ)) (row : X → Row) (at : List Row → Row → Verdict) (on : List X → X → Verdict)
    (same : (before : List X) (x : X) → at (map row before) (row x) ≡ on before x) where
  one-passes : (before : List X) (x : X) → if_passing names at (map row before) (row x) ≡ map row (if_passing names on before x)
  one-passes before x = ap (λ (verdict : Verdict). if lets_pass names verdict then row x ∷ [] else []) (same before x) ∙ of_test (lets_pass names (on before x))
    where
      of_test : (passes : Bool) → (if passes then row x ∷ [] else []) ≡ map row (if passes then x ∷ [] else [])
      of_test true = refl
      of_test false = refl

  passing_after-mapped : (before xs : List X) → passing_after names at (map row before) (map row xs) ≡ map row (passing_after names on before xs)
  passing_after-mapped before [] = refl
  passing_after-mapped before (x ∷ xs) =
      ap (λ (rows : List Row). if_passing names at (map row before) (row x) ++ passing_after names at rows (map row xs)) (sym (map-append row before (x ∷ [])))
      ∙ ap (λ (rows : List Row). if_passing names at (map row before) (row x) ++ rows) (passing_after-mapped (before ++ x ∷ []) xs)
      ∙ ap (λ (rows : List Row). rows ++ map row (passing_after names on (before ++ x ∷ []) xs)) (one-passes before x)
      ∙ sym (map-append row (if_passing names on before x) (passing_after names on (before ++ x ∷ []) xs))

  passing-mapped : (xs : List X) → passing names at (map row xs) ≡ map row (passing names on xs)
  passing-mapped xs = passing_after-mapped [] xs

module _ (first second : Five) where
  abbrev one : Rules
  one = rules_of first

  abbrev other : Rules
  other = rules_of second

  abbrev chain_row : Arrival → Row
  chain_row = own_row (chained one other)

  abbrev of_one : AnswersAlike one
  of_one = alike first

  abbrev of_other : AnswersAlike other
  of_other = alike second

  -- the rows of the chain are those of each program, joined with a part of the frame's fields
  is_first : (arrival : Arrival) → IsJoined one arrival (chain_row arrival)
  is_first arrival =
      let part = of_other.part arrival in
      (part.0, part.1, ap (λ (row : Row). joined (own_row one arrival) row) part.2)

  is_second : (arrival : Arrival) → IsJoined other arrival (chain_row arrival)
  is_second arrival =
      let part = of_one.part arrival in
      (part.0, part.1, joined-swap (own_row one arrival) (own_row other arrival) ∙ ap (λ (row : Row). joined (own_row other arrival) row) part.2)

  pub first-verdict : (before : List Arrival) (arrival : Arrival) → verdict_at chain_row one before arrival ≡ verdict_on one before arrival
  first-verdict = of_one.verdict chain_row is_first

  pub second-verdict : (before : List Arrival) (arrival : Arrival) → verdict_at chain_row other before arrival ≡ verdict_on other before arrival
  second-verdict = of_other.verdict chain_row is_second

  pub first-count : (arrivals : List Arrival) → count_at chain_row one arrivals ≡ count_on one arrivals
  first-count = of_one.count chain_row is_first

  pub second-count : (arrivals : List Arrival) → count_at chain_row other arrivals ≡ count_on other arrivals
  second-count = of_other.count chain_row is_second

  -- the rows that pass are those of the frames that pass
  rows-pass : (arrivals : List Arrival) → passing one.names one.verdict_after (map chain_row arrivals) ≡ map chain_row (passing one.names (verdict_on one) arrivals)
  rows-pass = passing-mapped one.names chain_row one.verdict_after (verdict_on one) first-verdict

  pub chain-verdict : (before : List Arrival) (arrival : Arrival)
      → verdict_on (chained one other) before arrival ≡ chained_verdict one.names (verdict_on one) other.names (verdict_on other) before arrival
  chain-verdict before arrival =
      ap (λ (verdict : Verdict). if lets_pass one.names verdict then other.verdict_after (passing one.names one.verdict_after (map chain_row before)) (chain_row arrival) else STOPPED other.names) (first-verdict before arrival)
      ∙ ap (λ (rows : List Row). if lets_pass one.names (verdict_on one before arrival) then other.verdict_after rows (chain_row arrival) else STOPPED other.names) (rows-pass before)
      ∙ ap (λ (verdict : Verdict). if lets_pass one.names (verdict_on one before arrival) then verdict else STOPPED other.names) (second-verdict (passing one.names (verdict_on one) before) arrival)

  pub chain-count : (arrivals : List Arrival)
      → count_on (chained one other) arrivals ≡ chained_count one.names (verdict_on one) (count_on one) (count_on other) arrivals
  chain-count arrivals =
      ap (λ (count : ℕ). min (count + other.count_after (passing one.names one.verdict_after (map chain_row arrivals))) (2 ^ 64 - 1)) (first-count arrivals)
      ∙ ap (λ (rows : List Row). min (count_on one arrivals + other.count_after rows) (2 ^ 64 - 1)) (rows-pass arrivals)
      ∙ ap (λ (count : ℕ). min (count_on one arrivals + count) (2 ^ 64 - 1)) (second-count (passing one.names (verdict_on one) arrivals))
