-- A load of another core's tag keeps the log rule, and what it tells.
use Rattle.std.proofs.Common.{◌≡◌, ◌≢◌, ℕ, ◌+◌, ◌-◌, ◌*◌, ◌%◌, ◌<◌, ◌≤◌, ◌⊎◌, inl, inr, ⊎_elim, List, [], ◌∷◌, ◌++◌, sym, refl, ap, ◌∙◌, arith, subst}
use Rattle.std.specs.Prelude.{Option, Some, None, slice_index}
use mathlib.Core.Option.{some, none}
use mathlib.Core.Logic.{dite}
use native.Mathlib.Decide.{ℕ_discrete, dec_lt}
use lib.ListN.{get_elem?}
use Rattle.atomic_table.specs.Table.{step, keeps, Allows}
use Rattle.scr_base.specs.declared.row.Row.{Row}
use Rattle.scr_plan.specs.Plan.{Plan}
use Rattle.scr_log.specs.declared.view.PassView.{PassView}
use Rattle.scr_log.specs.declared.view.Found.{Found}
use Rattle.scr_log.specs.declared.view.Noted.TheVariants.{Tag}
use Rattle.scr_log.specs.Layout.{tag_offset, place}
use Rattle.scr_log.specs.Entries.{row_tag, lost_tag, tag_number, tag_of, entry, tag}
use Rattle.scr_log.specs.Progress.{Progress, progress_of}
use Rattle.scr_log.specs.LogRule.{IsLog, IsFound, WasThere, IsPass, LogRule, Keeps, core_words, HasRow}
use Rattle.scr_log.specs.Steps.{Mine, LoadsTag, LoadsTagOf, TellsTag, tag_seen, row_found}
use Rattle.scr_log.proofs.Apart as at
use Rattle.scr_log.proofs.Loads.{core_pass_with, pass_with, watches_word}

-- a tag says whether there is a row
pub tag_cases : (plan : Plan) (core q : ℕ)
    → ((row : Row) × (entry plan core q ≡ Some row) × (tag plan core q ≡ row_tag (q + 1)))
    ⊎ ((entry plan core q ≡ None) × (tag plan core q ≡ lost_tag (q + 1)))
unfolding tag
tag_cases plan core q = by_entry (entry plan core q) refl where
  by_entry : (o : Option Row) → entry plan core q ≡ o
      → ((row : Row) × (entry plan core q ≡ Some row) × (tag_of (entry plan core q) (q + 1) ≡ row_tag (q + 1)))
      ⊎ ((entry plan core q ≡ None) × (tag_of (entry plan core q) (q + 1) ≡ lost_tag (q + 1)))
  by_entry (Some row) is = inl (row, is, ap (λ (o : Option Row). tag_of o (q + 1)) is)
  by_entry None is = inr (is, ap (λ (o : Option Row). tag_of o (q + 1)) is)

-- what stands in the slot of packet q + 1 in the log of a core that has published no more than a turn beyond it
module _ (plan : Plan) (slots core : ℕ) (some : 0 < slots) (p : Progress) (word : ℕ → ℕ) (log : IsLog plan slots core p word)
    (q : ℕ) (turn : p.published ≤ q + slots) where
  abbrev pub IsOfSlot : Type 0
  IsOfSlot = (r : ℕ) × (r < p.published) × (r ≤ q) × (r % slots ≡ q % slots) × (word (tag_offset slots q) ≡ tag plan core r)

  pub tag_in_slot : (word (tag_offset slots q) ≡ 0) ⊎ IsOfSlot
  tag_in_slot = ⊎_elim
      (λ (below : p.published ≤ q % slots).
      let slot : ℕ = q % slots in
      let small : slot < slots = omega arith in
      let one : slot % slots ≡ q % slots = at.slot-first slots some slot small in
      inl (ap word (at.tag_offset-slot slots q slot (sym one)) ∙ log.unset slot below small))
      (λ (last : (r : ℕ) × (r < p.published) × (p.published ≤ r + slots) × (r % slots ≡ q % slots)).
      let r : ℕ = last.0 in
      let below : r < p.published = last.1 in
      inr (
        r,
        below,
        dite (dec_lt q r)
            (λ more. let less : r < q + slots = omega arith in absurd (at.slot-apart slots some q r more less (sym last.3)))
            (λ less. omega arith),
        last.3,
        ap word (at.tag_offset-slot slots q r (sym last.3)) ∙ log.tags r below last.2,
      ))
      (at.last_in slots q p.published some)

  row_of_tag : (n : ℕ) → n ≡ row_tag (q + 1) → (word (tag_offset slots q) ≡ n) → HasRow plan core q × (q < p.published)
  row_of_tag n is here = ⊎_elim
      (λ (none : word (tag_offset slots q) ≡ 0). absurd (omega arith))
      (λ (of : IsOfSlot). ⊎_elim
      (λ (has : (row : Row) × (entry plan core of.0 ≡ Some row) × (tag plan core of.0 ≡ row_tag (of.0 + 1))).
      let r : ℕ = of.0 in
      let below : r < p.published = of.1 in
      let t : word (tag_offset slots q) ≡ tag plan core r = of.4 in
      let u : tag plan core r ≡ 4 * (r + 1) + 1 = has.2 in
      let one : r ≡ q = omega arith in
      ((has.0, subst (λ (k : ℕ). entry plan core k ≡ Some has.0) one has.1), omega arith))
      (λ (lost : (entry plan core of.0 ≡ None) × (tag plan core of.0 ≡ lost_tag (of.0 + 1))).
      let r : ℕ = of.0 in
      let t : word (tag_offset slots q) ≡ tag plan core r = of.4 in
      let u : tag plan core r ≡ 4 * (r + 1) + 2 = lost.1 in
      absurd (omega arith))
      (tag_cases plan core of.0))
      tag_in_slot

  lost_of_tag : (n : ℕ) → n ≡ lost_tag (q + 1) → (word (tag_offset slots q) ≡ n) → entry plan core q ≡ None
  lost_of_tag n is here = ⊎_elim
      (λ (none : word (tag_offset slots q) ≡ 0). absurd (omega arith))
      (λ (of : IsOfSlot). ⊎_elim
      (λ (has : (row : Row) × (entry plan core of.0 ≡ Some row) × (tag plan core of.0 ≡ row_tag (of.0 + 1))).
      let r : ℕ = of.0 in
      let t : word (tag_offset slots q) ≡ tag plan core r = of.4 in
      let u : tag plan core r ≡ 4 * (r + 1) + 1 = has.2 in
      absurd (omega arith))
      (λ (lost : (entry plan core of.0 ≡ None) × (tag plan core of.0 ≡ lost_tag (of.0 + 1))).
      let r : ℕ = of.0 in
      let t : word (tag_offset slots q) ≡ tag plan core r = of.4 in
      let u : tag plan core r ≡ 4 * (r + 1) + 2 = lost.1 in
      let one : r ≡ q = omega arith in
      subst (λ (k : ℕ). entry plan core k ≡ None) one lost.0)
      (tag_cases plan core of.0))
      tag_in_slot

  number_of_tag : (n : ℕ) → n ≢ row_tag (q + 1) → n ≢ lost_tag (q + 1) → (word (tag_offset slots q) ≡ n) → tag_number n < q + 1
  number_of_tag n not_row not_lost here = ⊎_elim
      (λ (none : word (tag_offset slots q) ≡ 0). omega arith)
      (λ (of : IsOfSlot).
      let r : ℕ = of.0 in
      let most : r ≤ q = of.2 in
      let t : word (tag_offset slots q) ≡ tag plan core r = of.4 in
      ⊎_elim
      (λ (has : (row : Row) × (entry plan core of.0 ≡ Some row) × (tag plan core of.0 ≡ row_tag (of.0 + 1))).
      let u : tag plan core r ≡ 4 * (r + 1) + 1 = has.2 in
      omega arith)
      (λ (lost : (entry plan core of.0 ≡ None) × (tag plan core of.0 ≡ lost_tag (of.0 + 1))).
      let u : tag plan core r ≡ 4 * (r + 1) + 2 = lost.1 in
      omega arith)
      (tag_cases plan core of.0))
      tag_in_slot

  was_of_slot : (n : ℕ) → (word (tag_offset slots q) ≡ n)
      → (n ≡ 0) ⊎ ((r : ℕ) × (r < p.published) × (r % slots ≡ q % slots) × (n ≡ tag plan core r))
  was_of_slot n here = ⊎_elim
      (λ (none : word (tag_offset slots q) ≡ 0). inl (sym here ∙ none))
      (λ (of : IsOfSlot). inr (of.0, of.1, of.3, sym here ∙ of.4))
      tag_in_slot

-- a tag of another core is loaded
module _ (plan : Plan) (slots : ℕ) (words : List ℕ) (views : List PassView) (rule : LogRule plan slots words views)
    (id : ℕ) (v : PassView) (there : get_elem? views id ≡ some v) (b j : ℕ) (mine : v.core ≡ Some b)
    (other : j ≢ b) (below : j < plan.cores) (current : v.published ≡ v.finished + 1) (n : ℕ)
    (here : core_words slots words j (tag_offset slots v.finished) ≡ n) where
  theirs : IsLog plan slots j (rule.progress j) (core_words slots words j)
  theirs = rule.logs j below

  pass : IsPass plan slots words rule.progress rule.owner id v
  pass = rule.passes id v there

  turn : (rule.progress j).published ≤ v.finished + slots
  turn =
      let c = pass.core b mine in
      let clear = (rule.cleared j b below c.below other).published in
      let own : (rule.progress b).finished ≡ v.finished = ap (λ (p : Progress). p.finished) c.own in
      omega arith

  tells : TellsTag v j n
  tells = record {
    row = λ is. subst (λ (p : Plan). (row : Row) × (entry p j v.finished ≡ Some row)) (sym pass.same_plan)
        (row_of_tag plan slots j rule.some_slots (rule.progress j) (core_words slots words j) theirs v.finished turn n is here).0;
    lost = λ is. subst (λ (p : Plan). entry p j v.finished ≡ None) (sym pass.same_plan)
        (lost_of_tag plan slots j rule.some_slots (rule.progress j) (core_words slots words j) theirs v.finished turn n is here);
    number = λ not_row not_lost.
        number_of_tag plan slots j rule.some_slots (rule.progress j) (core_words slots words j) theirs v.finished turn n not_row not_lost here;
  }

  was_there : WasThere plan slots words rule.progress (Tag j (v.finished + 1) n)
  was_there = (
    below,
    ⊎_elim (λ (none : n ≡ 0). inl none)
        (λ (of : (r : ℕ) × (r < (rule.progress j).published) × (r % slots ≡ v.finished % slots) × (n ≡ tag plan j r)).
        let same : v.finished ≡ v.finished + 1 - 1 = omega arith in
        inr (of.0, of.1, of.2 ∙ ap (λ (k : ℕ). k % slots) same, of.3))
        (was_of_slot plan slots j rule.some_slots (rule.progress j) (core_words slots words j) theirs v.finished turn n here),
  )

  tag_pass : IsPass plan slots words rule.progress rule.owner id (tag_seen v j n)
  tag_pass = pass_with plan slots words rule.progress rule.owner id v (Tag j (v.finished + 1) n) v.halts was_there pass

  one_core : (core : ℕ) → v.core ≡ Some core → core ≡ b
  one_core core its = let both : Some core ≡ Some b = sym its ∙ mine in cc

  is_found : n ≡ row_tag (v.finished + 1) → IsFound plan rule.progress b (progress_of v) (record { core = j; number = v.finished + 1 })
  is_found is =
      let row = row_of_tag plan slots j rule.some_slots (rule.progress j) (core_words slots words j) theirs v.finished turn n is here in
      let less : v.finished < (rule.progress j).published = row.1 in
      record {
        other = other;
        below = below;
        current = refl;
        own_published = current;
        published = omega arith;
        row = row.0;
      }

  row_pass : n ≡ row_tag (v.finished + 1) → IsPass plan slots words rule.progress rule.owner id (row_found v j n)
  row_pass is = record {
    same_plan = pass.same_plan;
    same_slots = pass.same_slots;
    looks = tag_pass.looks;
    core = λ core its. core_pass_with plan slots words rule.progress rule.owner id v core (v.looks ++ Tag j (v.finished + 1) n ∷ []) v.halts
        (Some (record { core = j; number = v.finished + 1 }))
        (λ found is_it.
        let note : Found = record { core = j; number = v.finished + 1 } in
        let same : note ≡ found = cc in
        subst (λ (z : ℕ × Found). IsFound plan rule.progress z.0 (progress_of v) z.1) (λ k. (sym (one_core core its) k, same k)) (is_found is))
        (pass.core core its);
  }

pub loads_tag : (plan : Plan) (slots homes id : ℕ) (me : Mine) (b j i : ℕ) → me.0.core ≡ Some b → j ≢ b → j < plan.cores
    → me.0.published ≡ me.0.finished + 1 → i ≡ place slots j (tag_offset slots me.0.finished)
    → Allows (Keeps plan slots) homes id me i (λ n. n) (LoadsTag (step homes i 0 0 none) me)
loads_tag plan slots homes id me b j i mine other below current is s rule _ there _ =
    let v : PassView = me.0 in
    let n : ℕ = slice_index s.words i in
    let here : core_words slots s.words j (tag_offset slots v.finished) ≡ n = ap (λ (place : ℕ). slice_index s.words place) (sym is) in
    let within = at.tag_offset-below slots rule.some_slots v.finished in
    let one : (core : ℕ) → i ≡ place v.slots core (tag_offset v.slots v.finished) → j ≡ core = λ core its.
    let its' : i ≡ place slots core (tag_offset slots v.finished) =
    subst (λ (k : ℕ). i ≡ place k core (tag_offset k v.finished)) (rule.passes id v there).same_slots its in
    at.place-core slots j core (tag_offset slots v.finished) (tag_offset slots v.finished) within within (sym is ∙ its') in
    let told = tells plan slots s.words s.views rule id v there b j mine other below current n here in
    dite (ℕ_discrete n (row_tag (v.finished + 1)))
    (λ (row : n ≡ row_tag (v.finished + 1)). (
      row_found v j n,
      keeps,
      tt,
      watches_word plan slots s.words s.views rule id v there (row_found v j n) i refl refl refl
          (row_pass plan slots s.words s.views rule id v there b j mine other below current n here row),
      (λ core less its. subst (λ (c : ℕ). LoadsTagOf me c n (row_found v j n, me.1)) (one core its)
          (record { found = λ _. refl; not_found = λ not. absurd (not row); tells = told })),
    ))
    (λ not_row. (
      tag_seen v j n,
      keeps,
      tt,
      watches_word plan slots s.words s.views rule id v there (tag_seen v j n) i refl refl refl
          (tag_pass plan slots s.words s.views rule id v there b j mine other below current n here),
      (λ core less its. subst (λ (c : ℕ). LoadsTagOf me c n (tag_seen v j n, me.1)) (one core its)
          (record { found = λ row. absurd (not_row row); not_found = λ _. refl; tells = told })),
    ))
