-- A list with an item for each core, gone through item by item and made item by item.
use Rattle.std.proofs.Common.{◌≡◌, ℕ, suc, ◌+◌, ◌<◌, List, [], ◌∷◌, ◌++◌, length, get_or, true, false, sym, refl, ap, ◌∙◌, subst, ⊎_elim, arith, eqb, ◌≢◌}
use Rattle.std.proofs.lemmas.List.{length-append, get_or_append_left}
use Rattle.std.proofs.Math.Seq.{get_or-append_seam}
use Rattle.std.proofs.lemmas.Bool.Decides.{eqb_tells}
use Rattle.scr_crew.specs.Cores.{OfCores}

-- the items of the cores from one on are still to come
pub record Coming {X : Type 0} (what : (core : ℕ) → X → Type 0) (from cores : ℕ) (items : List X) : Type 0 where
  pub all : from + length items ≡ cores
  pub each : (k core : ℕ) (item : X) → from + k ≡ core → core < cores → what core (get_or items k item)

module _ {X : Type 0} (what : (core : ℕ) → X → Type 0) where
  pub all_coming : (cores : ℕ) (items : List X) → OfCores what cores items → Coming what 0 cores items
  all_coming cores items of = record {
    all = (let all = of.all in omega arith);
    each = λ k core item is within.
        let same : core ≡ k = omega arith in
        subst (λ (at : ℕ). what core (get_or items at item)) same (of.each core item within);
  }

  pub first_comes : (from cores : ℕ) (x : X) (items : List X) → Coming what from cores (x ∷ items) → what from x
  first_comes from cores x items coming =
      let all : from + length (x ∷ items) ≡ cores = coming.all in
      coming.each 0 from x (omega arith) (omega arith)

  pub others_come : (from cores : ℕ) (x : X) (items : List X) → Coming what from cores (x ∷ items) → Coming what (from + 1) cores items
  others_come from cores x items coming = record {
    all = (let all = coming.all in omega arith);
    each = λ k core item is within. coming.each (suc k) core item (omega arith) within;
  }

  pub none_of_cores : OfCores what 0 []
  none_of_cores = record {
    all = refl;
    each = λ core item within. absurd (omega arith);
  }

  pub one_more : (cores : ℕ) (items : List X) (x : X) → OfCores what cores items → what cores x → OfCores what (cores + 1) (items ++ x ∷ [])
  one_more cores items x of last =
      let long = of.all in
      record {
        all = omega (arith, length-append items (x ∷ []));
        each = λ core item within.
            ⊎_elim
            (λ (same : (eqb core cores ≡ true) × (core ≡ cores)).
            subst (λ (k : ℕ). what k (get_or (items ++ x ∷ []) k item)) (sym same.1)
            (subst (what cores) (sym (ap (λ (k : ℕ). get_or (items ++ x ∷ []) k item) (sym long) ∙ get_or-append_seam items x [] item)) last))
            (λ (differ : (eqb core cores ≡ false) × (core ≢ cores)).
            let below : core < cores = let no = differ.1 in omega arith in
            subst (what core) (sym (get_or_append_left items (x ∷ []) item core (omega arith))) (of.each core item below))
            (eqb_tells core cores);
      }
