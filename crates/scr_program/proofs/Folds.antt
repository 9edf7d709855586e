-- The fold of a program at no row, and at one row more.
use Rattle.std.proofs.Common.{◌≡◌, ◌∙◌, ℕ, ◌<◌, List, [], ◌∷◌, ◌++◌, None, Result, Ok, Err, IfOk, OnOk, fold, refl, sym, ap}
use Rattle.scr_base.specs.declared.row.Row.{Row}
use Rattle.scr_base.specs.declared.row.Verdict.{Verdict}
use Rattle.scr_program.specs.FlowTable.{Table}
use Rattle.scr_program.specs.Folds.{flows_after, verdict_after, Stands}

module _ {Flow : Type 0} (step : List Flow → Row → List Flow × Verdict) where
  -- no row, no flow
  pub flows_after-empty : flows_after step [] ≡ []
  unfolding flows_after
  flows_after-empty = refl

  -- the flows after one row more are those of the step
  pub flows_after-push : (rows : List Row) (row : Row) → flows_after step (rows ++ row ∷ []) ≡ (step (flows_after step rows) row).0
  unfolding flows_after
  flows_after-push rows row = fold-push rows []
    where
      fold-push : (rows : List Row) (flows : List Flow) → fold (λ flows row. (step flows row).0) flows (rows ++ row ∷ []) ≡ (step (fold (λ flows row. (step flows row).0) flows rows) row).0
      fold-push [] flows = refl
      fold-push (first ∷ rows) flows = fold-push rows (step flows first).0

  -- where a step from any flows names a verdict, so does the fold
  pub verdict_after-named : (names : ℕ) → ((flows : List Flow) (row : Row) → (step flows row).1.0 < names) → (rows : List Row) (row : Row) → (verdict_after step rows row).0 < names
  verdict_after-named names named rows row = named (flows_after step rows) row

-- the clauses of a program whose state is a flow table, from its step on the table's list
module _ {K V : Type 0} (step : List (K × V) → Row → List (K × V) × Verdict) (flows : ℕ) where
  -- a new table stands for no rows
  pub Stands-fresh : {E : Type 0} (result : Result (Table K V) E) → IfOk result (λ table. table ≡ record { flows = flows; list = []; ready = None; spare = table.spare }) → IfOk result (λ table. Stands step flows table [])
  Stands-fresh (Ok table) is = (ap (λ (t : Table K V). t.flows) is, ap (λ (t : Table K V). t.list) is ∙ sym (flows_after-empty step))
  Stands-fresh (Err e) is = tt

  -- a step that leaves the new list gives the verdict of the row, and the new table stands for one row more
  module _ (old new : Table K V) (row : Row) (same : new.flows ≡ old.flows) (rows : List Row) (stands : Stands step flows old rows) where
    pub taken-verdict : (verdict : Verdict) → step old.list row ≡ (new.list, verdict) → verdict ≡ verdict_after step rows row
    taken-verdict verdict taken = sym (ap (λ (p : List (K × V) × Verdict). p.1) taken) ∙ ap (λ (list : List (K × V)). (step list row).1) stands.1

    pub taken-stands : (verdict : Verdict) → step old.list row ≡ (new.list, verdict) → Stands step flows new (rows ++ row ∷ [])
    taken-stands verdict taken = (same ∙ stands.0, sym (ap (λ (p : List (K × V) × Verdict). p.0) taken) ∙ ap (λ (list : List (K × V)). (step list row).0) stands.1 ∙ sym (flows_after-push step rows row))

  module _ {E : Type 0} (old new : Table K V) (row : Row) (result : Result Verdict E) (same : new.flows ≡ old.flows) (taken : IfOk result (λ verdict. step old.list row ≡ (new.list, verdict))) (rows : List Row) (stands : Stands step flows old rows) where
    abbrev IsTaken : Verdict → Type 0
    IsTaken verdict = step old.list row ≡ (new.list, verdict)

    -- the answer is the verdict of the row
    pub Stands-verdict : IfOk result (λ verdict. verdict ≡ verdict_after step rows row)
    Stands-verdict = at result taken
      where
        at : (r : Result Verdict E) → IfOk r IsTaken → IfOk r (λ verdict. verdict ≡ verdict_after step rows row)
        at (Ok verdict) is = taken-verdict old new row same rows stands verdict is
        at (Err e) is = tt

    -- the table stands for one row more
    pub Stands-push : OnOk result (Stands step flows new (rows ++ row ∷ []))
    Stands-push = at result taken
      where
        at : (r : Result Verdict E) → IfOk r IsTaken → OnOk r (Stands step flows new (rows ++ row ∷ []))
        at (Ok verdict) is = taken-stands old new row same rows stands verdict is
        at (Err e) is = tt
