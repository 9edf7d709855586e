-- The pairs at places, where the pairs or the places change.
use Rattle.std.proofs.Common.{◌≡◌, ◌≢◌, ℕ, zero, suc, ◌+◌, ◌-◌, ◌<◌, Bool, true, false, List, [], ◌∷◌, ◌++◌, length, take, slice_get, slice_set, Some, None, refl, sym, ap, ◌∙◌, subst, arith, Contains}
use Rattle.std.proofs.lemmas.List.{get_or_push, length-set}
use Rattle.std.specs.Cmp.{IsEquivalence}
use Rattle.std.specs.Option.{option_map_or}
use Rattle.std.specs.List.{AllByRecursion, IsDistinct, swap_remove}
use Rattle.std.specs.Map.{keys_of, lookup, lookup_key, remove_entry, IsKeyTest}
use Rattle.indexmap.specs.IndexMap.{set_value_at}
use Rattle.scr_flows.specs.Flows.{listed}
use Rattle.scr_flows.specs.Ring.{IsApart}
use Rattle.scr_flows.proofs.Elements.{Contains-head, Contains-tail, Contains-middle}

module _ {X : Type 0} where
  pub get-within : (xs : List X) (i : ℕ) → i < length xs → (x : X) × (slice_get xs i ≡ Some x)
  get-within [] i less = absurd (omega arith)
  get-within (x ∷ xs) zero less = (x, refl)
  get-within (x ∷ xs) (suc i) less = get-within xs i (omega arith)

  pub get-push : (xs : List X) (x : X) → slice_get (xs ++ x ∷ []) (length xs) ≡ Some x
  get-push [] x = refl
  get-push (y ∷ xs) x = get-push xs x

  pub get-before : (xs : List X) (x : X) (i : ℕ) → i < length xs → slice_get (xs ++ x ∷ []) i ≡ slice_get xs i
  get-before [] x i less = absurd (omega arith)
  get-before (y ∷ xs) x zero less = refl
  get-before (y ∷ xs) x (suc i) less = get-before xs x i (omega arith)

  pub get-set : (xs : List X) (i : ℕ) (x : X) → i < length xs → slice_get (slice_set xs i x) i ≡ Some x
  get-set [] i x less = absurd (omega arith)
  get-set (y ∷ xs) zero x less = refl
  get-set (y ∷ xs) (suc i) x less = get-set xs i x (omega arith)

  pub get-set-other : (xs : List X) (i j : ℕ) (x : X) → j ≢ i → slice_get (slice_set xs i x) j ≡ slice_get xs j
  get-set-other [] i j x apart = refl
  get-set-other (y ∷ xs) zero zero x apart = absurd (apart refl)
  get-set-other (y ∷ xs) zero (suc j) x apart = refl
  get-set-other (y ∷ xs) (suc i) zero x apart = refl
  get-set-other (y ∷ xs) (suc i) (suc j) x apart = get-set-other xs i j x (λ e. apart (ap suc e))

  set-before : (xs : List X) (x : X) (i : ℕ) → i < length xs → slice_set (xs ++ x ∷ []) i x ≡ slice_set xs i x ++ x ∷ []
  set-before [] x i less = absurd (omega arith)
  set-before (y ∷ xs) x zero less = refl
  set-before (y ∷ xs) x (suc i) less = ap (λ (l : List X). y ∷ l) (set-before xs x i (omega arith))

  take-front : (xs ys : List X) → take (length xs) (xs ++ ys) ≡ xs
  take-front [] ys = refl
  take-front (x ∷ xs) ys = ap (λ (l : List X). x ∷ l) (take-front xs ys)

  length-push : (xs : List X) (x : X) → length (xs ++ x ∷ []) ≡ suc (length xs)
  length-push [] x = refl
  length-push (y ∷ xs) x = ap suc (length-push xs x)

  -- the last item takes the place of another one
  pub swap_remove-push : (xs : List X) (x d : X) (i : ℕ) → i < length xs → swap_remove (xs ++ x ∷ []) i d ≡ slice_set xs i x
  swap_remove-push xs x d i less =
      let last : length (xs ++ x ∷ []) - 1 ≡ length xs = omega (arith, length-push xs x) in
      let is = get_or_push xs x d (length xs) refl in
      let front : take (length xs) (slice_set xs i x ++ x ∷ []) ≡ slice_set xs i x =
      subst (λ n. take n (slice_set xs i x ++ x ∷ []) ≡ slice_set xs i x) (length-set xs i x) (take-front (slice_set xs i x) (x ∷ [])) in
      rw (last, is, set-before xs x i less) front

module _ {K V : Type 0} where
  pub get-value : (pairs : List (K × V)) (i : ℕ) (pair : K × V) (value : V) → slice_get pairs i ≡ Some pair → slice_get (set_value_at pairs i value) i ≡ Some (pair.0, value)
  get-value [] i pair value at = cc
  get-value (e ∷ pairs) zero pair value at = let is : e ≡ pair = (let some = at in cc) in ap (λ (p : K × V). Some (p.0, value)) is
  get-value (e ∷ pairs) (suc i) pair value at = get-value pairs i pair value at

  pub get-value-other : (pairs : List (K × V)) (i j : ℕ) (value : V) → j ≢ i → slice_get (set_value_at pairs i value) j ≡ slice_get pairs j
  get-value-other [] i j value apart = refl
  get-value-other (e ∷ pairs) zero zero value apart = absurd (apart refl)
  get-value-other (e ∷ pairs) zero (suc j) value apart = refl
  get-value-other (e ∷ pairs) (suc i) zero value apart = refl
  get-value-other (e ∷ pairs) (suc i) (suc j) value apart = get-value-other pairs i j value (λ e. apart (ap suc e))

  -- pairs that are the same at these places
  pub listed-same : (pairs others : List (K × V)) (places : List ℕ) → ((place : ℕ) → Contains places place → slice_get others place ≡ slice_get pairs place) → listed others places ≡ listed pairs places
  listed-same pairs others [] agree = refl
  listed-same pairs others (place ∷ places) agree =
      let rest = listed-same pairs others places (λ p c. agree p (Contains-tail place places p c)) in
      let here = agree place (Contains-head place places) in
      λ i. option_map_or (λ (pair : K × V). pair ∷ rest i) (here i) (rest i)

  pub listed-at : (pairs : List (K × V)) (place : ℕ) (places : List ℕ) (pair : K × V) → slice_get pairs place ≡ Some pair → listed pairs (place ∷ places) ≡ pair ∷ listed pairs places
  listed-at pairs place places pair at = rw at refl

  pub length-listed : (pairs : List (K × V)) (places : List ℕ) → ((place : ℕ) → Contains places place → place < length pairs) → length (listed pairs places) ≡ length places
  length-listed pairs [] below = refl
  length-listed pairs (place ∷ places) below =
      let at = get-within pairs place (below place (Contains-head place places)) in
      ap (λ (l : List (K × V)). length l) (listed-at pairs place places at.0 at.1) ∙ ap suc (length-listed pairs places (λ p c. below p (Contains-tail place places p c)))

  pub take-listed : (pairs : List (K × V)) (places more : List ℕ) → ((place : ℕ) → Contains (places ++ more) place → place < length pairs) → take (length places) (listed pairs (places ++ more)) ≡ listed pairs places
  take-listed pairs [] more below = refl
  take-listed pairs (place ∷ places) more below =
      let at = get-within pairs place (below place (Contains-head place (places ++ more))) in
      ap (λ (l : List (K × V)). take (suc (length places)) l) (listed-at pairs place (places ++ more) at.0 at.1)
      ∙ ap (λ (l : List (K × V)). at.0 ∷ l) (take-listed pairs places more (λ p c. below p (Contains-tail place (places ++ more) p c)))
      ∙ sym (listed-at pairs place places at.0 at.1)

  module _ (test : K → Bool) where
    absent-at : (pairs : List (K × V)) (place : ℕ) (pair : K × V) → lookup test pairs ≡ None → slice_get pairs place ≡ Some pair → test pair.0 ≡ false
    absent-at [] place pair none at = cc
    absent-at (e ∷ pairs) zero pair none at =
        let is : e ≡ pair = (let some = at in cc) in
        subst (λ (p : K × V). test p.0 ≡ false) is ((elim (test e.0) as (λ y. test e.0 ≡ y → test e.0 ≡ false) [
          | true ↦ λ t. let none' = rw t at none in cc
          | false ↦ λ t. t
        ]) refl)
    absent-at (e ∷ pairs) (suc place) pair none at = absent-at pairs place pair ((elim (test e.0) as (λ y. test e.0 ≡ y → lookup test pairs ≡ None) [
      | true ↦ λ t. let none' = rw t at none in cc
      | false ↦ λ t. rw t at none
    ]) refl) at

    pub keys-at : (pairs : List (K × V)) (place : ℕ) (pair : K × V) → slice_get pairs place ≡ Some pair → slice_get (keys_of pairs) place ≡ Some pair.0
    keys-at [] place pair at = cc
    keys-at (e ∷ pairs) zero pair at = let is : e ≡ pair = (let some = at in cc) in ap (λ (p : K × V). Some p.0) is
    keys-at (e ∷ pairs) (suc place) pair at = keys-at pairs place pair at

    pub lookup_key-passes : (pairs : List (K × V)) (key : K) → lookup_key test pairs ≡ Some key → test key ≡ true
    lookup_key-passes [] key found = cc
    lookup_key-passes (e ∷ pairs) key found = (elim (test e.0) as (λ y. test e.0 ≡ y → test key ≡ true) [
      | true ↦ λ t. let found' = rw t at found in let is : e.0 ≡ key = cc in subst (λ (k : K). test k ≡ true) is t
      | false ↦ λ t. lookup_key-passes pairs key (rw t at found)
    ]) refl

    -- where no pair has the key, none of those at places has
    pub listed-absent : (pairs : List (K × V)) (places : List ℕ) → lookup test pairs ≡ None → lookup test (listed pairs places) ≡ None
    listed-absent pairs [] none = refl
    listed-absent pairs (place ∷ places) none = (elim (slice_get pairs place) as (λ o. slice_get pairs place ≡ o → lookup test (listed pairs (place ∷ places)) ≡ None) [
      | None ↦ λ h. rw h (listed-absent pairs places none)
      | Some pair ↦ λ h. rw (h, absent-at pairs place pair none h) (listed-absent pairs places none)
    ]) refl

module _ {K V : Type 0} {same : K → K → Bool} (laws : IsEquivalence same) (pairs : List (K × V)) (distinct : IsDistinct same (keys_of pairs)) where
  all-keys : (P : K → Type 0) (es : List (K × V)) (place : ℕ) (pair : K × V) → AllByRecursion P (keys_of es) → slice_get es place ≡ Some pair → P pair.0
  all-keys P [] place pair all at = cc
  all-keys P (e ∷ es) zero pair all at = let is : e ≡ pair = (let some = at in cc) in subst (λ (p : K × V). P p.0) is all.0
  all-keys P (e ∷ es) (suc place) pair all at = all-keys P es place pair all.1 at

  differ : (es : List (K × V)) → IsDistinct same (keys_of es) → (p q : ℕ) (a b : K × V) → slice_get es p ≡ Some a → slice_get es q ≡ Some b → p ≢ q → same a.0 b.0 ≡ false
  unfolding IsDistinct
  differ [] apart p q a b at other ne = cc
  differ (e ∷ es) apart zero zero a b at other ne = absurd (ne refl)
  differ (e ∷ es) apart zero (suc q) a b at other ne =
      let is : e ≡ a = (let some = at in cc) in
      subst (λ (x : K × V). same x.0 b.0 ≡ false) is (all-keys (λ y. same e.0 y ≡ false) es q b apart.0 other)
  differ (e ∷ es) apart (suc p) zero a b at other ne =
      let is : e ≡ b = (let some = other in cc) in
      subst (λ (x : K × V). same a.0 x.0 ≡ false) is (laws.symm a.0 e.0 ∙ all-keys (λ y. same e.0 y ≡ false) es p a apart.0 at)
  differ (e ∷ es) apart (suc p) (suc q) a b at other ne = differ es apart.1 p q a b at other (λ x. ne (ap suc x))

  -- the keys at places that come once each are distinct
  pub distinct-listed : (places : List ℕ) → IsApart places → IsDistinct same (keys_of (listed pairs places))
  unfolding IsDistinct
  distinct-listed [] apart = tt
  distinct-listed (place ∷ places) apart = (elim (slice_get pairs place) as (λ o. slice_get pairs place ≡ o → IsDistinct same (keys_of (listed pairs (place ∷ places)))) [
    | None ↦ λ h. subst (λ (l : List (K × V)). IsDistinct same (keys_of l)) (sym (none h)) (distinct-listed places apart.1)
    | Some pair ↦ λ h. subst (λ (l : List (K × V)). IsDistinct same (keys_of l)) (sym (listed-at pairs place places pair h)) (others pair h places apart.0, distinct-listed places apart.1)
  ]) refl
    where
      none : slice_get pairs place ≡ None → listed pairs (place ∷ places) ≡ listed pairs places
      none h = rw h refl

      others : (pair : K × V) → slice_get pairs place ≡ Some pair → (rest : List ℕ) → (Contains rest place → ⊥) → AllByRecursion (λ y. same pair.0 y ≡ false) (keys_of (listed pairs rest))
      others pair h [] absent = tt
      others pair h (q ∷ rest) absent = (elim (slice_get pairs q) as (λ o. slice_get pairs q ≡ o → AllByRecursion (λ y. same pair.0 y ≡ false) (keys_of (listed pairs (q ∷ rest)))) [
        | None ↦ λ n. rw n (others pair h rest (λ c. absent (Contains-tail q rest place c)))
        | Some other ↦ λ s. rw s (differ pairs distinct place q pair other h s (λ e. absent (subst (λ (x : ℕ). Contains (q ∷ rest) x) (sym e) (Contains-head q rest))), others pair h rest (λ c. absent (Contains-tail q rest place c)))
      ]) refl

  module _ (test : K → Bool) (keyed : IsKeyTest same test) (place : ℕ) (pair : K × V) (at : slice_get pairs place ≡ Some pair) (passes : test pair.0 ≡ true) where
    sole : (q : ℕ) (other : K × V) → slice_get pairs q ≡ Some other → place ≢ q → test other.0 ≡ false
    sole q other there ne = keyed pair.0 other.0 passes ∙ differ pairs distinct place q pair other at there ne

    -- the pair at a place is the one that is found and taken away by its key
    pub listed-without : (before after : List ℕ) → IsApart (before ++ place ∷ after) → remove_entry test (listed pairs (before ++ place ∷ after)) ≡ listed pairs (before ++ after)
    listed-without [] after apart = rw (at, passes) refl
    listed-without (q ∷ before) after apart = (elim (slice_get pairs q) as (λ o. slice_get pairs q ≡ o → remove_entry test (listed pairs ((q ∷ before) ++ place ∷ after)) ≡ listed pairs ((q ∷ before) ++ after)) [
      | None ↦ λ n. rw n (listed-without before after apart.1)
      | Some other ↦ λ s.
          let fails = sole q other s (λ e. apart.0 (subst (λ (x : ℕ). Contains (before ++ place ∷ after) x) e (Contains-middle before place after))) in
          rw (s, fails) (ap (λ (l : List (K × V)). other ∷ l) (listed-without before after apart.1))
    ]) refl

    pub listed-lookup : (before after : List ℕ) → IsApart (before ++ place ∷ after) → lookup test (listed pairs (before ++ place ∷ after)) ≡ Some pair.1
    listed-lookup [] after apart = rw (at, passes) refl
    listed-lookup (q ∷ before) after apart = (elim (slice_get pairs q) as (λ o. slice_get pairs q ≡ o → lookup test (listed pairs ((q ∷ before) ++ place ∷ after)) ≡ Some pair.1) [
      | None ↦ λ n. rw n (listed-lookup before after apart.1)
      | Some other ↦ λ s.
          let fails = sole q other s (λ e. apart.0 (subst (λ (x : ℕ). Contains (before ++ place ∷ after) x) e (Contains-middle before place after))) in
          rw (s, fails) (listed-lookup before after apart.1)
    ]) refl
