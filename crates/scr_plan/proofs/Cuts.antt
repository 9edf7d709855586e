-- A text that is cut in two at the first of some bytes.
use Rattle.std.proofs.Common.{◌≡◌, ℕ, ◌+◌, ◌-◌, List, length, take, drop, Bool, true, false, cond, ltb, eqb, Option, Some, None, inl, inr, arith, refl, sym, ap, ◌∙◌}
use Rattle.std.specs.List.{list_any, position_or_len}
use Rattle.std.proofs.lemmas.Bool.{cases_lt}
use Rattle.std.proofs.lemmas.Bool.Decides.{nat_tests}
use Rattle.std.proofs.lemmas.List.{take_all, length-drop}
use Rattle.std.proofs.lemmas.List.Sums.{passes_at_first, fails_before_first}
use Rattle.std.proofs.lemmas.List.Folds.{list_any_at, list_any_none}
use Rattle.scr_plan.specs.Spelling.{has_byte, IsCut}

-- the first place of a byte, as a search tells it
abbrev pub first_place : ℕ → List ℕ → Option ℕ
first_place mark text =
    cond (ltb (position_or_len (λ byte. eqb byte mark) text) (length text)) (Some (position_or_len (λ byte. eqb byte mark) text)) None

any-by_place : (p : ℕ → Bool) (xs : List ℕ) → list_any p xs ≡ ltb (position_or_len p xs) (length xs)
any-by_place p xs =
    elim (cases_lt (position_or_len p xs) (length xs)) [
      | inl below ↦ (
          let here = list_any_at p xs (position_or_len p xs) 0 below (passes_at_first p xs 0 below) in
          let test : ltb (position_or_len p xs) (length xs) ≡ true = grind (arith, nat_tests) in
          here ∙ sym test)
      | inr above ↦ (
          let none = list_any_none p xs (λ k d within. fails_before_first p xs k d (omega arith)) in
          let test : ltb (position_or_len p xs) (length xs) ≡ false = grind (arith, nat_tests) in
          none ∙ sym test)
    ]

chosen-some : (b : Bool) (at i : ℕ) → Some at ≡ cond b (Some i) None → (b ≡ true) × (at ≡ i)
chosen-some true at i same = (refl, cc)
chosen-some false at i same = absurd cc

chosen-none : (b : Bool) (i : ℕ) → None ≡ cond b (Some i) None → b ≡ false
chosen-none true i same = absurd cc
chosen-none false i same = refl

pub has_byte-none : (mark : ℕ) (text : List ℕ) → None ≡ first_place mark text → has_byte mark text ≡ false
has_byte-none mark text same = any-by_place (λ byte. eqb byte mark) text ∙ chosen-none _ _ same

pub IsCut-some : (mark : ℕ) (text : List ℕ) (at : ℕ) → Some at ≡ first_place mark text
    → IsCut mark text (take at text) (take (length text - (at + 1)) (drop (at + 1) text))
IsCut-some mark text at same =
    let is = chosen-some _ _ _ same in
    let place : at ≡ position_or_len (λ byte. eqb byte mark) text = is.1 in
    let whole : take (length text - (at + 1)) (drop (at + 1) text) ≡ drop (at + 1) text =
    take_all (length text - (at + 1)) (drop (at + 1) text) (omega (arith, length-drop (at + 1) text)) in
    record {
      has = any-by_place (λ byte. eqb byte mark) text ∙ is.0;
      front_is = ap (λ (i : ℕ). take i text) place;
      back_is = whole ∙ ap (λ (i : ℕ). drop (i + 1) text) place;
    }
