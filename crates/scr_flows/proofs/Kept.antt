-- What each call on flows leaves of their pairs and places.
use Rattle.std.proofs.Common.{◌≡◌, ℕ, zero, suc, ◌+◌, ◌-◌, ◌<◌, ◌≤◌, Bool, true, List, [], ◌∷◌, ◌++◌, length, take, slice_get, slice_set, Option, Some, None, refl, sym, ap, ◌∙◌, subst, arith, Contains, ◌⊎◌, inl, inr, length-append}
use Rattle.std.proofs.lemmas.List.{take_all, append-nil}
use Rattle.std.specs.Cmp.{IsEquivalence}
use Rattle.std.specs.List.{IsDistinct, position, swap_remove}
use Rattle.std.specs.Option.{IfSome, MatchOption}
use Rattle.std.specs.Map.{keys_of, lookup, remove_entry}
use Rattle.indexmap.specs.IndexMap.{set_value_at}
use Rattle.indexmap.proofs.MapLemmas.{Found-position, Missing-position}
use Rattle.scr_flows.specs.Flows.{listed, IsKnown}
use Rattle.scr_flows.specs.Ring.{first_or, last_or, IsApart}
use Rattle.scr_flows.proofs.Elements.{Contains-head, Contains-tail, Contains-cons, Contains-cut, Contains-middle, Contains-with, Contains-without, apart-at, apart-without}
use Rattle.scr_flows.proofs.Listed.{get-within, swap_remove-push, get-push, get-before, get-set, get-set-other, get-value, get-value-other, keys-at, lookup_key-passes, listed-same, listed-at, listed-absent, listed-without, listed-lookup, length-listed, take-listed}

-- the place that is first, or last, cuts the places
pub first-cut : (places : List ℕ) (end place : ℕ) → place ≡ first_or places end → place < end → (after : List ℕ) × (places ≡ place ∷ after)
first-cut [] end place is less = absurd (omega (arith, is, less))
first-cut (first ∷ places) end place is less = (places, ap (λ (p : ℕ). p ∷ places) (sym is))

pub last-cut : (first : ℕ) (places : List ℕ) → (before : List ℕ) × (first ∷ places ≡ before ++ last_or first places ∷ [])
last-cut first [] = ([], refl)
last-cut first (next ∷ places) = let on = last-cut next places in (first ∷ on.0, ap (λ (l : List ℕ). first ∷ l) on.1)

pub end-cut : (end : ℕ) (places : List ℕ) → 0 < length places → (before : List ℕ) × (places ≡ before ++ last_or end places ∷ [])
end-cut end [] some = absurd (omega (arith, some))
end-cut end (place ∷ places) some = last-cut place places

below-cases : (n m : ℕ) → n < suc m → (n ≡ m) ⊎ (n < m)
below-cases zero zero less = inl refl
below-cases zero (suc m) less = inr (omega arith)
below-cases (suc n) zero less = absurd (omega (arith, less))
below-cases (suc n) (suc m) less = elim (below-cases n m (omega (arith, less))) [ inl e ↦ inl (ap suc e) | inr l ↦ inr (omega (arith, l)) ]

module _ {K V : Type 0} {same : K → K → Bool} {most end : ℕ} {pairs : List (K × V)} {places : List ℕ} (known : IsKnown same most pairs end places) where
  pub cut-at : (place : ℕ) → place < length pairs → (before : List ℕ) × (after : List ℕ) × (places ≡ before ++ place ∷ after)
  cut-at place less = Contains-cut places place (known.every place less)

  pub length-known : length (listed pairs places) ≡ length pairs
  length-known = length-listed pairs places known.below ∙ known.count

  module _ (before : List ℕ) (place : ℕ) (after : List ℕ) (cut : places ≡ before ++ place ∷ after) where
    apart-cut : IsApart (before ++ place ∷ after)
    apart-cut = subst IsApart cut known.apart

    pub place-within : place < length pairs
    place-within = known.below place (subst (λ l. Contains l place) (sym cut) (Contains-middle before place after))

    pub taken-absent : Contains (before ++ after) place → ⊥
    taken-absent c = apart-at before place after apart-cut c

    pub taken-fits : length (before ++ after) < end
    taken-fits =
        let long : length places ≡ length (before ++ place ∷ after) = ap (λ (l : List ℕ). length l) cut in
        let count = known.count in
        let fits = known.fits in
        let is = known.end_is in
        omega (arith, long, count, fits, is, length-append before after, length-append before (place ∷ after))

    -- the place comes to the front
    pub used-known : (others : List (K × V)) → length others ≡ length pairs → IsDistinct same (keys_of others) → IsKnown same most others end (place ∷ (before ++ after))
    used-known others long distinct =
        let less = place-within in
        let total : length places ≡ length (before ++ place ∷ after) = ap (λ (l : List ℕ). length l) cut in
        let count = known.count in
        let fits = known.fits in record {
          some = known.some;
          end_is = known.end_is;
          fits = omega (arith, long, fits);
          distinct = distinct;
          count = omega (arith, long, count, total, length-append before after, length-append before (place ∷ after));
          below = λ q c. elim (Contains-cons place (before ++ after) q c) [
            | inl e ↦ omega (arith, e, less, long)
            | inr d ↦ let l = known.below q (subst (λ l. Contains l q) (sym cut) (Contains-with before place after q d)) in omega (arith, l, long)
          ];
          every = λ q l. elim (Contains-without before place after q (subst (λ l. Contains l q) cut (known.every q (omega (arith, l, long))))) [
            | inl e ↦ subst (Contains (place ∷ (before ++ after))) e (Contains-head place (before ++ after))
            | inr d ↦ Contains-tail place (before ++ after) q d
          ];
          apart = (taken-absent, apart-without before place after apart-cut);
        }

    pub used-list : IsEquivalence same → (pair : K × V) (value : V) → slice_get pairs place ≡ Some pair → listed (set_value_at pairs place value) (place ∷ (before ++ after)) ≡ (pair.0, value) ∷ remove_entry (same pair.0) (listed pairs places)
    used-list laws pair value at =
        let others = set_value_at pairs place value in
        let rest : listed others (before ++ after) ≡ listed pairs (before ++ after) =
        listed-same pairs others (before ++ after) (λ q c. get-value-other pairs place q value (λ e. taken-absent (subst (Contains (before ++ after)) e c))) in
        let gone : remove_entry (same pair.0) (listed pairs (before ++ place ∷ after)) ≡ listed pairs (before ++ after) =
        listed-without laws pairs known.distinct (same pair.0) (laws.congr pair.0) place pair at (laws.refl pair.0) before after apart-cut in
        listed-at others place (before ++ after) (pair.0, value) (get-value pairs place pair value at)
        ∙ ap (λ (l : List (K × V)). (pair.0, value) ∷ l) (rest ∙ sym gone ∙ ap (λ (l : List ℕ). remove_entry (same pair.0) (listed pairs l)) (sym cut))

    pub used-taken : (laws : IsEquivalence same) (pair : K × V) (value : V) → slice_get pairs place ≡ Some pair → length (set_value_at pairs place value) ≡ length pairs → IsDistinct same (keys_of (set_value_at pairs place value))
        → listed (set_value_at pairs place value) (place ∷ (before ++ after)) ≡ take most ((pair.0, value) ∷ remove_entry (same pair.0) (listed pairs places))
    used-taken laws pair value at long distinct =
        let others = set_value_at pairs place value in
        let now = used-known others long distinct in
        let all = listed others (place ∷ (before ++ after)) in
        let count : length all ≡ length others = length-listed others (place ∷ (before ++ after)) now.below ∙ now.count in
        let fits = now.fits in
        sym (take_all most all (omega (arith, count, fits))) ∙ ap (λ (l : List (K × V)). take most l) (used-list laws pair value at)

  -- a new flow goes to the place behind all, and comes to the front
  module _ (pair : K × V) (less : length pairs < most) where
    pub pushed-absent : Contains places (length pairs) → ⊥
    pushed-absent c = let below = known.below (length pairs) c in omega (arith, below)

    pub pushed-known : IsDistinct same (keys_of (pairs ++ pair ∷ [])) → IsKnown same most (pairs ++ pair ∷ []) end (length pairs ∷ places)
    pushed-known distinct =
        let long = length-append pairs (pair ∷ []) in
        let count = known.count in record {
          some = known.some;
          end_is = known.end_is;
          fits = omega (arith, long, less);
          distinct = distinct;
          count = omega (arith, long, count);
          below = λ q c. elim (Contains-cons (length pairs) places q c) [
            | inl e ↦ omega (arith, e, long)
            | inr d ↦ let l = known.below q d in omega (arith, l, long)
          ];
          every = λ q l. elim (below-cases q (length pairs) (omega (arith, l, long))) [
            | inl e ↦ subst (Contains (length pairs ∷ places)) (sym e) (Contains-head (length pairs) places)
            | inr d ↦ Contains-tail (length pairs) places q (known.every q d)
          ];
          apart = (pushed-absent, known.apart);
        }

    pub pushed-list : listed (pairs ++ pair ∷ []) (length pairs ∷ places) ≡ take most (pair ∷ listed pairs places)
    pushed-list =
        let rest : listed (pairs ++ pair ∷ []) places ≡ listed pairs places = listed-same pairs (pairs ++ pair ∷ []) places (λ q c. get-before pairs pair q (known.below q c)) in
        let fits : length (pair ∷ listed pairs places) ≤ most = omega (arith, length-known, less) in
        listed-at (pairs ++ pair ∷ []) (length pairs) places pair (get-push pairs pair) ∙ ap (λ (l : List (K × V)). pair ∷ l) rest ∙ sym (take_all most (pair ∷ listed pairs places) fits)

  -- what is left where the flow at a place went, with a new one behind all
  pub swapped : (inserted left : List (K × V)) (pair : K × V) (last : ℕ) (gone : Option (K × V)) → inserted ≡ pairs ++ pair ∷ [] → last < length pairs → gone ≡ slice_get inserted last → IfSome gone (λ p. left ≡ swap_remove inserted last p) → left ≡ slice_set pairs last pair
  swapped inserted left pair last gone are less at is =
      let there = get-within pairs last less in
      let some : gone ≡ Some there.0 = at ∙ ap (λ (l : List (K × V)). slice_get l last) are ∙ get-before pairs pair last less ∙ there.1 in
      subst (λ (o : Option (K × V)). IfSome o (λ p. left ≡ swap_remove inserted last p)) some is
      ∙ ap (λ (l : List (K × V)). swap_remove l last there.0) are ∙ swap_remove-push pairs pair there.0 last less

  -- where there are as many as may be, it goes to the place of the last
  pub evicted-list : (pair : K × V) (before : List ℕ) (last : ℕ) → places ≡ before ++ last ∷ [] → most ≡ length pairs → listed (slice_set pairs last pair) (last ∷ (before ++ [])) ≡ take most (pair ∷ listed pairs places)
  evicted-list pair before last cut full =
      let within = place-within before last [] cut in
      let others = slice_set pairs last pair in
      let rest : listed others (before ++ []) ≡ listed pairs before =
      listed-same pairs others (before ++ []) (λ q c. get-set-other pairs last q pair (λ e. taken-absent before last [] cut (subst (Contains (before ++ [])) e c))) ∙ ap (λ (l : List ℕ). listed pairs l) (append-nil before) in
      let total : length places ≡ length (before ++ last ∷ []) = ap (λ (l : List ℕ). length l) cut in
      let count = known.count in
      let long : most ≡ suc (length before) = omega (arith, full, total, count, length-append before (last ∷ [])) in
      let front : take (length before) (listed pairs (before ++ last ∷ [])) ≡ listed pairs before =
      take-listed pairs before (last ∷ []) (λ q c. known.below q (subst (λ l. Contains l q) (sym cut) c)) in
      let all : take most (pair ∷ listed pairs places) ≡ pair ∷ listed pairs before =
      ap (λ (n : ℕ). take n (pair ∷ listed pairs places)) long ∙ ap (λ (l : List ℕ). pair ∷ take (length before) (listed pairs l)) cut ∙ ap (λ (l : List (K × V)). pair ∷ l) front in
      listed-at others last (before ++ []) pair (get-set pairs last pair within) ∙ ap (λ (l : List (K × V)). pair ∷ l) rest ∙ sym all

  -- what the place of a key tells
  module _ (laws : IsEquivalence same) (key : K) where
    pub at-known : (place : ℕ) (pair : K × V) → slice_get pairs place ≡ Some pair → place < length pairs → same key pair.0 ≡ true → lookup (same key) (listed pairs places) ≡ Some pair.1
    at-known place pair at less passes =
        let cut = cut-at place less in
        ap (λ (l : List ℕ). lookup (same key) (listed pairs l)) cut.2
        ∙ listed-lookup laws pairs known.distinct (same key) (laws.congr key) place pair at passes cut.0 cut.1 (apart-cut cut.0 place cut.1 cut.2)

    pub place-known : (found : Option ℕ) → found ≡ position (same key) (keys_of pairs) → MatchOption found ((lookup (same key) pairs ≡ None) × (lookup (same key) (listed pairs places) ≡ None))
        (λ place. (pair : K × V) × (slice_get pairs place ≡ Some pair) × (same key pair.0 ≡ true) × (lookup (same key) (listed pairs places) ≡ Some pair.1))
    place-known None is = let none = (Missing-position (same key) pairs (sym is)).value in (none, listed-absent (same key) pairs places none)
    place-known (Some place) is =
        let f = Found-position (same key) pairs place (sym is) in
        let at = get-within pairs place f.within in
        let passes = lookup_key-passes (same key) pairs at.0.0 (f.key ∙ keys-at (same key) pairs place at.0 at.1) in
        (at.0, at.1, passes, at-known place at.0 at.1 f.within passes)
