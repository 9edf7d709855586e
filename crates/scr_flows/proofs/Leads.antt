-- Links that lead through places, where one of them changes.
use Rattle.std.proofs.Common.{◌≡◌, ◌≢◌, ℕ, zero, suc, ◌+◌, ◌<◌, List, [], ◌∷◌, ◌++◌, length, slice_index, slice_set, refl, sym, ap, ◌∙◌, subst, arith, Contains}
use Rattle.std.proofs.lemmas.List.{get_or-set_same, get_or-set_other, length-set}
use Rattle.std.proofs.lemmas.List.Elements.{Contains-append_left}
use Rattle.scr_flows.specs.Order.{walk}
use Rattle.scr_flows.specs.Ring.{first_or, last_or, Leads, IsApart}
use Rattle.scr_flows.proofs.Elements.{Contains-head, Contains-tail}

-- a walk meets just the places through which the links lead
pub walk-leads : (links : List ℕ) (place : ℕ) (places : List ℕ) (end : ℕ) → Leads links place places end → walk links place (length places) ≡ places
walk-leads links place [] end leads = refl
walk-leads links place (next ∷ places) end leads =
    rw leads.0 (ap (λ (l : List ℕ). next ∷ l) (walk-leads links next places end leads.1))

pub length-walk : (links : List ℕ) (place count : ℕ) → length (walk links place count) ≡ count
length-walk links place zero = refl
length-walk links place (suc count) = ap suc (length-walk links (slice_index links place) count)

-- the link of a place leads to the one behind it
pub leads-first : (links : List ℕ) (place : ℕ) (places : List ℕ) (end : ℕ) → Leads links place places end → slice_index links place ≡ first_or places end
leads-first links place [] end leads = leads
leads-first links place (next ∷ places) end leads = leads.0

pub leads-at : (links : List ℕ) (place : ℕ) (before : List ℕ) (at : ℕ) (after : List ℕ) (end : ℕ) → Leads links place (before ++ at ∷ after) end → slice_index links at ≡ first_or after end
leads-at links place [] at after end leads = leads-first links at after end leads.1
leads-at links place (next ∷ before) at after end leads = leads-at links next before at after end leads.1

pub last_or-in : (place : ℕ) (places : List ℕ) → Contains (place ∷ places) (last_or place places)
last_or-in place [] = Contains-head place []
last_or-in place (next ∷ places) = Contains-tail place (next ∷ places) _ (last_or-in next places)

pub first_or-in : (places : List ℕ) (end : ℕ) → Contains (end ∷ places) (first_or places end)
first_or-in [] end = Contains-head end []
first_or-in (place ∷ places) end = Contains-tail end (place ∷ places) place (Contains-head place places)

-- the last of the places but one that isn't there
last-apart : (place next : ℕ) (places : List ℕ) → (Contains (next ∷ places) place → ⊥) → place ≢ last_or next places
last-apart place next places absent e = absent (subst (Contains (next ∷ places)) (sym e) (last_or-in next places))

module _ (links : List ℕ) (at to : ℕ) where
  -- the link of a place that isn't met may change
  pub leads-other : (place : ℕ) (places : List ℕ) (end : ℕ) → place ≢ at → (Contains places at → ⊥) → Leads links place places end → Leads (slice_set links at to) place places end
  leads-other place [] end apart absent leads = get_or-set_other links at place to 0 apart ∙ leads
  leads-other place (next ∷ places) end apart absent leads = (
    get_or-set_other links at place to 0 apart ∙ leads.0,
    leads-other next places end (λ e. absent (subst (Contains (next ∷ places)) e (Contains-head next places))) (λ c. absent (Contains-tail next places at c)) leads.1,
  )

-- another place that is given the link of this one leads on as this one does
pub leads-from : (links : List ℕ) (place : ℕ) (places : List ℕ) (at end : ℕ) → at < length links → (Contains places at → ⊥) → Leads links place places end → Leads (slice_set links at (slice_index links place)) at places end
leads-from links place [] at end within absent leads = get_or-set_same links at (slice_index links place) 0 within ∙ leads
leads-from links place (next ∷ places) at end within absent leads = (
  get_or-set_same links at (slice_index links place) 0 within ∙ leads.0,
  leads-other links at (slice_index links place) next places end (λ e. absent (subst (Contains (next ∷ places)) e (Contains-head next places))) (λ c. absent (Contains-tail next places at c)) leads.1,
)

-- a place is taken out: the one before it leads to the one behind it
pub leads-without : (links : List ℕ) (place : ℕ) (before : List ℕ) (at : ℕ) (after : List ℕ) (end : ℕ) → ((p : ℕ) → Contains (place ∷ before) p → p < length links) → IsApart (place ∷ (before ++ at ∷ after)) → Leads links place (before ++ at ∷ after) end
    → Leads (slice_set links (last_or place before) (first_or after end)) place (before ++ after) end
leads-without links place [] at [] end within apart leads = get_or-set_same links place end 0 (within place (Contains-head place []))
leads-without links place [] at (next ∷ after) end within apart leads =
    let absent : Contains (next ∷ after) place → ⊥ = λ c. apart.0 (Contains-tail at (next ∷ after) place c) in (
      get_or-set_same links place next 0 (within place (Contains-head place [])),
      leads-other links place next next after end (λ e. absent (subst (Contains (next ∷ after)) e (Contains-head next after))) (λ c. absent (Contains-tail next after place c)) leads.1.1,
    )
leads-without links place (next ∷ before) at after end within apart leads =
    let absent : Contains (next ∷ before) place → ⊥ = λ c. apart.0 (Contains-append_left (next ∷ before) (at ∷ after) place c) in (
      get_or-set_other links (last_or next before) place (first_or after end) 0 (last-apart place next before absent) ∙ leads.0,
      leads-without links next before at after end (λ p c. within p (Contains-tail place (next ∷ before) p c)) apart.1 leads.1,
    )

-- a place is put behind all
pub leads-push : (links : List ℕ) (place : ℕ) (places : List ℕ) (at end : ℕ) → ((p : ℕ) → Contains (place ∷ places) p → p < length links) → at < length links → IsApart (place ∷ places) → (Contains (place ∷ places) at → ⊥) → Leads links place places end
    → Leads (slice_set (slice_set links at end) (last_or place places) at) place (places ++ at ∷ []) end
leads-push links place [] at end within below apart absent leads =
    let other : at ≢ place = λ e. absent (subst (Contains (place ∷ [])) (sym e) (Contains-head place [])) in (
      get_or-set_same (slice_set links at end) place at 0 (subst (λ n. place < n) (sym (length-set links at end)) (within place (Contains-head place []))),
      get_or-set_other (slice_set links at end) place at at 0 other ∙ get_or-set_same links at end 0 below,
    )
leads-push links place (next ∷ places) at end within below apart absent leads =
    let other : place ≢ at = λ e. absent (subst (Contains (place ∷ next ∷ places)) e (Contains-head place (next ∷ places))) in (
      get_or-set_other (slice_set links at end) (last_or next places) place at 0 (last-apart place next places apart.0) ∙ get_or-set_other links at place end 0 other ∙ leads.0,
      leads-push links next places at end (λ p c. within p (Contains-tail place (next ∷ places) p c)) below apart.1 (λ c. absent (Contains-tail place (next ∷ places) at c)) leads.1,
    )
