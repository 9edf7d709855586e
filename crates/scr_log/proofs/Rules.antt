-- What of the rule a step has to show anew. All else of it follows from what stayed the same or only grew.
use Rattle.std.proofs.Common.{◌≡◌, ◌≢◌, ℕ, zero, suc, ◌+◌, ◌^◌, ◌<◌, ◌≤◌, inl, inr, ⊎_elim, List, [], ◌∷◌, All, length, set, sym, ap, ◌∙◌, arith, subst}
use Rattle.std.specs.Prelude.{Option, Some, None, slice_index}
use mathlib.Core.Option.{some, some-injective, some-ne-none}
use mathlib.Core.Logic.{dite}
use native.Mathlib.Decide.{ℕ_discrete}
use lib.ListN.{get_elem?}
use Rattle.scr_plan.specs.Plan.{Plan}
use Rattle.atomic_table.proofs.Lists.{at_set, set_here, set_else}
use Rattle.scr_log.specs.declared.view.PassView.{PassView}
use Rattle.scr_log.specs.declared.view.Found.{Found}
use Rattle.scr_log.specs.declared.view.Noted.{Noted}
use Rattle.scr_log.specs.declared.view.Noted.TheVariants.{Tag, Finished, Halt, Drawn}
use Rattle.scr_log.specs.Layout.{core_size, claim_place, halt_place}
use Rattle.scr_log.specs.Progress.{Progress, IsCleared}
use Rattle.scr_log.specs.LogRule.{IsLog, IsFound, WasThere, IsPass, IsNobodys, total_stock, HaltIs, LogRule, core_words}
use Rattle.scr_log.proofs.OneLog.{same_log}

-- whether a pass has this core
pub core_is : (o : Option ℕ) (core : ℕ) → Dec (o ≡ Some core)
core_is None core = no (λ same. cc)
core_is (Some c) core = dite (ℕ_discrete c core) (λ same. yes (ap (λ (n : ℕ). Some n) same)) (λ differ. no (λ same. differ (cc)))

-- the stocks after a change of one pass
pub total-set : (views : List PassView) (id : ℕ) (v w : PassView) → get_elem? views id ≡ some v
    → total_stock (set views id w) + v.stock ≡ total_stock views + w.stock
total-set [] id v w e = absurd (some-ne-none v (sym e))
total-set (x ∷ xs) zero v w e = let is : x.stock ≡ v.stock = ap (λ (p : PassView). p.stock) (some-injective x v e) in omega arith
total-set (x ∷ xs) (suc id) v w e = let more = total-set xs id v w e in omega arith

pub total-kept : (views : List PassView) (id : ℕ) (v w : PassView) → get_elem? views id ≡ some v → w.stock ≡ v.stock
    → total_stock (set views id w) ≡ total_stock views
total-kept views id v w e same = let both = total-set views id v w e in omega arith

-- a seat stands within the list
pub there-below : (views : List PassView) (id : ℕ) (v : PassView) → get_elem? views id ≡ some v → id < length views
there-below [] id v e = absurd (some-ne-none v (sym e))
there-below (x ∷ xs) zero v e = omega arith
there-below (x ∷ xs) (suc id) v e = let more = there-below xs id v e in omega arith

-- the halt word and how often it was set, where a pass goes on with the same count
pub halt_kept : (views : List PassView) (id : ℕ) (v w : PassView) (word : ℕ) → get_elem? views id ≡ some v → w.halts ≡ v.halts
    → HaltIs views word → HaltIs (set views id w) word
halt_kept views id v w word e same (inl none) = inl (
  none.0,
  λ j x there.
      ⊎_elim (λ t. let at_id = none.1 id v e in let is : w.halts ≡ x.halts = ap (λ (p : PassView). p.halts) t.1 in omega arith)
      (λ t. none.1 j x t.1) (at_set views id j w x there),
)
halt_kept views id v w word e same (inr one) = let it = one.1 in inr (
  one.0,
  dite (ℕ_discrete it.0 id)
      (λ (here : it.0 ≡ id).
      let its = subst (λ (j : ℕ). get_elem? views j ≡ some it.1) here it.2 in
      let is : v.halts ≡ it.1.halts = ap (λ (p : PassView). p.halts) (some-injective v it.1 (sym e ∙ its)) in
      let set_it = it.3 in
      (id, w, set_here views id w (there-below views id v e), omega arith))
      (λ else. (it.0, it.1, set_else views id it.0 w else ∙ it.2, it.3)),
)

-- what the words and the progress of the cores do in a step, as far as others rely on it: nothing falls
pub record Later (plan : Plan) (slots : ℕ) (words next : List ℕ) (progress after : ℕ → Progress) : Type 0 where
  pub published : (j : ℕ) → (progress j).published ≤ (after j).published
  pub finished : (j : ℕ) → (progress j).finished ≤ (after j).finished
  pub claim : slice_index words (claim_place plan.cores slots) ≤ slice_index next (claim_place plan.cores slots)
  pub halt : slice_index words (halt_place plan.cores slots) ≡ 1 → slice_index next (halt_place plan.cores slots) ≡ 1

module _ (plan : Plan) (slots : ℕ) (words next : List ℕ) (progress after : ℕ → Progress)
    (later : Later plan slots words next progress after) where
  pub look_stays : (l : Noted) → WasThere plan slots words progress l → WasThere plan slots next after l
  look_stays (Tag core number value) was = (
    was.0,
    ⊎_elim (λ zero_tag. inl zero_tag)
        (λ tagged. let more = later.published core in inr (tagged.0, omega arith, tagged.2, tagged.3)) was.1,
  )
  look_stays (Finished core value) was = let more = later.finished core in (was.0, omega arith)
  look_stays (Halt value) was = λ one. later.halt (was one)
  look_stays (Drawn number) was = let more = later.claim in (was.0, omega arith)

  pub looks_stay : (looks : List Noted) → All (WasThere plan slots words progress) looks → All (WasThere plan slots next after) looks
  looks_stay looks all = λ k d below. look_stays _ (all k d below)

  -- a row that was found
  pub found_stays : (core : ℕ) (own : Progress) (found : Found) → IsFound plan progress core own found → IsFound plan after core own found
  found_stays core own found is = let more = later.published found.core in record {
    other = is.other;
    below = is.below;
    current = is.current;
    own_published = is.own_published;
    published = omega arith;
    row = is.row;
  }

  -- a pass of another core, or of none
  pub pass_stays : (owner : ℕ → ℕ) (id : ℕ) (v : PassView) → ((core : ℕ) → v.core ≡ Some core → after core ≡ progress core)
      → IsPass plan slots words progress owner id v → IsPass plan slots next after owner id v
  pass_stays owner id v same is = record {
    same_plan = is.same_plan;
    same_slots = is.same_slots;
    looks = looks_stay v.looks is.looks;
    core = λ core its. let c = is.core core its in let claimed = later.claim in let was = c.drawn in record {
      below = c.below;
      drawn = omega arith;
      only = c.only;
      own = same core its ∙ c.own;
      each_core = c.each_core;
      noted = λ j less. let n = c.noted j less in let more = later.finished j in omega arith;
      room = c.room;
      room_to_write = c.room_to_write;
      found = λ found has. found_stays core _ found (c.found found has);
    };
  }

-- a step of the pass at a seat, which keeps its core
module _ (plan : Plan) (slots : ℕ) (words : List ℕ) (views : List PassView) (rule : LogRule plan slots words views)
    (id : ℕ) (v : PassView) (there : get_elem? views id ≡ some v) (w : PassView) where
  pub record Goes (next : List ℕ) (after : ℕ → Progress) : Type 0 where
    pub same_core : w.core ≡ v.core
    pub same_length : length next ≡ length words
    pub stocks : slice_index next (claim_place plan.cores slots) + total_stock (set views id w) ≤ 2 ^ 32
    pub later : Later plan slots words next rule.progress after
    pub others :
        (core : ℕ) → core < plan.cores → v.core ≢ Some core
        → (after core ≡ rule.progress core)
        × ((offset : ℕ) → offset < core_size slots → core_words slots next core offset ≡ core_words slots words core offset)
    pub log : (core : ℕ) → core < plan.cores → v.core ≡ Some core → IsLog plan slots core (after core) (core_words slots next core)
    pub cleared :
        (core j : ℕ) → core < plan.cores → j < plan.cores → core ≢ j → v.core ≡ Some core → IsCleared slots (after core) (after j)
    pub pass : IsPass plan slots next after rule.owner id w
    pub halt : HaltIs (set views id w) (slice_index next (halt_place plan.cores slots))

  nobodys_before : (core : ℕ) → w.core ≡ v.core → IsNobodys (set views id w) core → IsNobodys views core
  nobodys_before core same nobody j x at_j has =
      dite (ℕ_discrete j id)
      (λ (here : j ≡ id).
      let both : some x ≡ some v = sym at_j ∙ (ap (λ (n : ℕ). get_elem? views n) here ∙ there) in
      let is : x.core ≡ v.core = ap (λ (p : PassView). p.core) (some-injective x v both) in
      nobody id w (set_here views id w (there-below views id v there)) (same ∙ (sym is ∙ has)))
      (λ else. nobody j x (set_else views id j w else ∙ at_j) has)

  not_own : (core : ℕ) → IsNobodys views core → v.core ≢ Some core
  not_own core nobody = nobody id v there

  -- another seat's core isn't this one's
  apart : (j : ℕ) (x : PassView) (core : ℕ) → j ≢ id → get_elem? views j ≡ some x → x.core ≡ Some core → v.core ≢ Some core
  apart j x core else at_j has mine =
      let one = ((rule.passes j x at_j).core core has).only in
      let two = ((rule.passes id v there).core core mine).only in
      else (sym one ∙ two)

  pub goes : (next : List ℕ) (after : ℕ → Progress) → Goes next after → LogRule plan slots next (set views id w)
  goes next after step = record {
    progress = after;
    owner = rule.owner;
    some_slots = rule.some_slots;
    all_words = step.same_length ∙ rule.all_words;
    stocks = step.stocks;
    nobodys = λ core below nobody.
        let before = nobodys_before core step.same_core nobody in
        let same = step.others core below (not_own core before) in
        let was = rule.nobodys core below before in
        record { nothing_done = same.0 ∙ was.nothing_done; zero_words = λ offset within. same.1 offset within ∙ was.zero_words offset within };
    logs = λ core below. log_after next after step core below (core_is v.core core);
    cleared = λ core j a b differ. cleared_after next after step core j a b differ (core_is v.core core);
    passes = λ j x at_j. ⊎_elim
        (λ t. subst (λ (z : ℕ × PassView). IsPass plan slots next after rule.owner z.0 z.1) (λ i. (sym t.0 i, t.1 i)) step.pass)
        (λ t. pass_stays plan slots words next rule.progress after step.later rule.owner j x
        (λ core has. let below = ((rule.passes j x t.1).core core has).below in (step.others core below (apart j x core t.0 t.1 has)).0)
        (rule.passes j x t.1))
        (at_set views id j w x at_j);
    halt = step.halt;
  } where
    log_after : (next : List ℕ) (after : ℕ → Progress) → Goes next after → (core : ℕ) → core < plan.cores → Dec (v.core ≡ Some core)
        → IsLog plan slots core (after core) (core_words slots next core)
    log_after next after step core below (yes mine) = step.log core below mine
    log_after next after step core below (no not) =
        let same = step.others core below not in
        subst (λ (p : Progress). IsLog plan slots core p (core_words slots next core)) (sym same.0)
        (same_log plan slots core rule.some_slots (rule.progress core) (core_words slots words core) (core_words slots next core)
        (rule.logs core below) same.1)

    cleared_after : (next : List ℕ) (after : ℕ → Progress) → Goes next after → (core j : ℕ) → core < plan.cores → j < plan.cores → core ≢ j
        → Dec (v.core ≡ Some core) → IsCleared slots (after core) (after j)
    cleared_after next after step core j a b differ (yes mine) = step.cleared core j a b differ mine
    cleared_after next after step core j a b differ (no not) =
        let same = (step.others core a not).0 in
        let was = rule.cleared core j a b differ in
        let more = step.later.finished j in
        let one = was.published in
        let two = was.writing in
        subst (λ (p : Progress). IsCleared slots p (after j)) (sym same)
        (record { published = omega arith; writing = λ some_stored. let it = two some_stored in omega arith })
