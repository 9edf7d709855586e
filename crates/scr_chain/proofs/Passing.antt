-- One row more: it passes, or is stopped.
use Rattle.std.proofs.Common.{◌≡◌, ℕ, ◌<◌, Bool, true, false, cond, List, [], ◌∷◌, ◌++◌, length, sym, ap, ◌∙◌, subst, append_assoc}
use Rattle.std.proofs.lemmas.List.{append-nil}
use Rattle.std.specs.Prelude.{slice_index_or, Result, Ok, Err, OnOk}
use Rattle.scr_base.specs.declared.row.Row.{Row}
use Rattle.scr_base.specs.declared.row.Verdict.{Verdict}
use Rattle.scr_chain.specs.Chains.{lets_pass, if_passing, passing_after, passing, IsPassTable}

passing_after-push : (names : List (List ℕ)) (first : List Row → Row → Verdict) (before rows : List Row) (row : Row)
    → passing_after names first before (rows ++ row ∷ []) ≡ passing_after names first before rows ++ if_passing names first (before ++ rows) row
passing_after-push names first before [] row =
    append-nil (if_passing names first before row) ∙ ap (λ (rows : List Row). if_passing names first rows row) (sym (append-nil before))
passing_after-push names first before (next ∷ rows) row =
    let own : List Row = if_passing names first before next in
    let after : List Row = before ++ next ∷ [] in
    ap (λ (rest : List Row). own ++ rest) (passing_after-push names first after rows row)
    ∙ sym (append_assoc own (passing_after names first after rows) (if_passing names first (after ++ rows) row))
    ∙ ap (λ (all : List Row). (own ++ passing_after names first after rows) ++ if_passing names first all row) (append_assoc before (next ∷ []) rows)

passing-push : (names : List (List ℕ)) (first : List Row → Row → Verdict) (rows : List Row) (row : Row)
    → passing names first (rows ++ row ∷ []) ≡ passing names first rows ++ if_passing names first rows row
passing-push names first rows row = passing_after-push names first [] rows row

-- a verdict that lets its packet pass, by the table, and one that doesn't
pub passing-more : (names : List (List ℕ)) (first : List Row → Row → Verdict) (rows : List Row) (row : Row)
    → lets_pass names (first rows row) ≡ true → passing names first (rows ++ row ∷ []) ≡ passing names first rows ++ row ∷ []
passing-more names first rows row passes =
    passing-push names first rows row ∙ ap (λ (b : Bool). passing names first rows ++ (cond b (row ∷ []) [])) passes

pub passing-same : (names : List (List ℕ)) (first : List Row → Row → Verdict) (rows : List Row) (row : Row)
    → lets_pass names (first rows row) ≡ false → passing names first (rows ++ row ∷ []) ≡ passing names first rows
passing-same names first rows row stopped =
    passing-push names first rows row ∙ ap (λ (b : Bool). passing names first rows ++ (cond b (row ∷ []) [])) stopped
    ∙ append-nil (passing names first rows)

-- what the table says of a verdict that was given
table-tells : (names : List (List ℕ)) (first : List Row → Row → Verdict) (passes : List Bool) (rows : List Row) (row : Row) (verdict : Verdict) (code : ℕ) (told : Bool)
    → code ≡ verdict.0 → verdict ≡ first rows row → (first rows row).0 < length names → IsPassTable names passes → slice_index_or passes code false ≡ told
    → lets_pass names (first rows row) ≡ told
table-tells names first passes rows row verdict code told at is below table found =
    let place : code ≡ (first rows row).0 = at ∙ ap (λ (v : Verdict). v.0) is in
    sym (table (first rows row).0 false below) ∙ ap (λ (k : ℕ). slice_index_or passes k false) (sym place) ∙ found

-- what stood for the rows that pass stands for them behind one row more, which is stopped
pub stands-stopped : (names : List (List ℕ)) (first : List Row → Row → Verdict) (Stands : List Row → Type 0) (passes : List Bool) (rows : List Row) (row : Row) (verdict : Verdict) (code : ℕ)
    → code ≡ verdict.0 → verdict ≡ first rows row → (first rows row).0 < length names → IsPassTable names passes → slice_index_or passes code false ≡ false
    → Stands (passing names first rows) → Stands (passing names first (rows ++ row ∷ []))
stands-stopped names first Stands passes rows row verdict code at is below table found stands =
    subst Stands (sym (passing-same names first rows row (table-tells names first passes rows row verdict code false at is below table found))) stands

-- and where it passes, and the second step was taken too, the first stands as before
pub stands-passed : {E : Type 0} (names : List (List ℕ)) (first : List Row → Row → Verdict) (Stands : List Row → Type 0) (passes : List Bool) (rows : List Row) (row : Row) (verdict : Verdict) (code : ℕ)
    → code ≡ verdict.0 → verdict ≡ first rows row → (first rows row).0 < length names → IsPassTable names passes → slice_index_or passes code false ≡ true
    → (result : Result Verdict E) (First : Type 0) → First → OnOk result (Stands (passing names first rows ++ row ∷ []))
    → OnOk result (First × Stands (passing names first (rows ++ row ∷ [])) × IsPassTable names passes)
stands-passed names first Stands passes rows row verdict code at is below table found (Ok answer) First taken stands = (
  taken,
  subst Stands (sym (passing-more names first rows row (table-tells names first passes rows row verdict code true at is below table found))) stands,
  table,
)
stands-passed names first Stands passes rows row verdict code at is below table found (Err error) First taken stands = tt
