-- A program that keeps an entry for each key takes alike two rows that agree in the fields that it keeps.
use Rattle.std.proofs.Common.{◌≡◌, ◌∙◌, ℕ, Bool, true, false, not, List, [], ◌∷◌, Option, if◌then◌else◌, fold, map, length, refl, sym, ap}
use Rattle.std.specs.Map.{lookup}
use Rattle.scr_base.specs.declared.row.Row.{Row}
use Rattle.scr_base.specs.declared.row.Verdict.{Verdict}
use Rattle.scr_program.specs.declared.fields.Fields.{Fields}
use Rattle.scr_program.specs.FlowList.{entered_list}
use Rattle.scr_program.specs.Folds.{flows_after, verdict_after, count_after}
use Rattle.scr_program.specs.Keyed.{keyed_step}
use Rattle.scr_program.specs.Rows.{unpacked, kind_in}

-- both rows are looked at, and agree in the fields that are kept, or neither is
abbrev pub AreAlike : (ℕ → Bool) → (Fields → Fields) → Row → Row → Type 0
AreAlike looked_at kept one other =
    (looked_at (kind_in one) ≡ looked_at (kind_in other))
    × (looked_at (kind_in other) ≡ true → kept (unpacked one) ≡ kept (unpacked other))

module _ {K V : Type 0} (same : K → K → Bool) (looked_at : ℕ → Bool) (key_of : Fields → K) (flows : ℕ) (outcome : Option V → Fields → Option V × Verdict) (other : Verdict) (kept : Fields → Fields)
    (key-kept : (fields : Fields) → key_of (kept fields) ≡ key_of fields)
    (outcome-kept : (known : Option V) (fields : Fields) → outcome known (kept fields) ≡ outcome known fields) where
  -- the step, by a packet's key and its outcome
  abbrev entered : List (K × V) → (key : K) → Option V × Verdict → List (K × V) × Verdict
  entered list key after = (entered_list same flows list key after.0, after.1)

  abbrev stepped : List (K × V) → Fields → Bool → List (K × V) × Verdict
  stepped list fields looked =
      if not looked then (list, other) else entered list (key_of fields) (outcome (lookup (same (key_of fields)) list) fields)

  stepped-is : (list : List (K × V)) (row : Row) → keyed_step same looked_at key_of flows outcome other list row ≡ stepped list (unpacked row) (looked_at (kind_in row))
  unfolding keyed_step
  stepped-is list row = refl

  -- only the fields that are kept matter
  stepped-kept : (list : List (K × V)) (fields : Fields) → stepped list (kept fields) true ≡ stepped list fields true
  stepped-kept list fields =
      ap (λ (key : K). entered list key (outcome (lookup (same key) list) (kept fields))) (key-kept fields)
      ∙ ap (entered list (key_of fields)) (outcome-kept (lookup (same (key_of fields)) list) fields)

  step-alike : (list : List (K × V)) (one row : Row) → AreAlike looked_at kept one row
      → keyed_step same looked_at key_of flows outcome other list one ≡ keyed_step same looked_at key_of flows outcome other list row
  step-alike list one row alike =
      stepped-is list one ∙ ap (stepped list (unpacked one)) alike.0 ∙ by_test (looked_at (kind_in row)) alike.1 ∙ sym (stepped-is list row)
    where
      by_test : (looked : Bool) → (looked ≡ true → kept (unpacked one) ≡ kept (unpacked row)) → stepped list (unpacked one) looked ≡ stepped list (unpacked row) looked
      by_test true agree =
          sym (stepped-kept list (unpacked one)) ∙ ap (λ (fields : Fields). stepped list fields true) (agree refl) ∙ stepped-kept list (unpacked row)
      by_test false agree = refl

  -- so do rows in a row: those that two functions make of the same things
  module _ {X : Type 0} (one row : X → Row) (alike : (x : X) → AreAlike looked_at kept (one x) (row x)) where
    abbrev step : List (K × V) → Row → List (K × V) × Verdict
    step = keyed_step same looked_at key_of flows outcome other

    flows-alike : (xs : List X) → flows_after step (map one xs) ≡ flows_after step (map row xs)
    unfolding flows_after
    flows-alike xs = from [] xs
      where
        from : (list : List (K × V)) (xs : List X) → fold (λ flows row. (step flows row).0) list (map one xs) ≡ fold (λ flows row. (step flows row).0) list (map row xs)
        from list [] = refl
        from list (x ∷ xs) =
            ap (λ (after : List (K × V) × Verdict). fold (λ flows row. (step flows row).0) after.0 (map one xs)) (step-alike list (one x) (row x) (alike x))
            ∙ from (step list (row x)).0 xs

    pub verdict-alike : (xs : List X) (x : X) → verdict_after step (map one xs) (one x) ≡ verdict_after step (map row xs) (row x)
    verdict-alike xs x =
        ap (λ (list : List (K × V)). (step list (one x)).1) (flows-alike xs)
        ∙ ap (λ (after : List (K × V) × Verdict). after.1) (step-alike (flows_after step (map row xs)) (one x) (row x) (alike x))

    pub count-alike : (xs : List X) → count_after step (map one xs) ≡ count_after step (map row xs)
    count-alike xs = ap (λ (list : List (K × V)). length list) (flows-alike xs)
