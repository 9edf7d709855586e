-- The halt word being set keeps the log rule, and what it tells.
use Rattle.std.proofs.Common.{◌≡◌, ℕ, ◌+◌, ◌<◌, inl, inr, List, set, sym, refl, ap, arith, subst, length-set, get_or-set_same, get_or-set_other}
use Rattle.std.specs.Prelude.{slice_index, slice_set, bit_or}
use mathlib.Core.Option.{some, none}
use lib.ListN.{get_elem?}
use Rattle.atomic_table.specs.Table.{step, keeps, Allows}
use Rattle.atomic_table.proofs.Lists.{set_here}
use Rattle.scr_plan.specs.Plan.{Plan}
use Rattle.scr_log.specs.declared.view.PassView.{PassView}
use Rattle.scr_log.specs.Layout.{core_size, place, claim_place, halt_place}
use Rattle.scr_log.specs.LogRule.{IsPass, HaltIs, LogRule, Keeps, core_words}
use Rattle.scr_log.specs.Steps.{Mine, SetsHalt}
use Rattle.scr_log.proofs.OneLog.{same_log}
use Rattle.scr_log.proofs.Rules.{Later, goes, total-kept, pass_stays, there-below}
use Rattle.scr_log.proofs.Loads.{core_pass_with}
use Rattle.scr_log.proofs.Apart as at

halted_word : (views : List PassView) (h : ℕ) → HaltIs views h → bit_or h 1 ≡ 1
halted_word views h (inl unset) = ap (λ (k : ℕ). bit_or k 1) unset.0
halted_word views h (inr one) = ap (λ (k : ℕ). bit_or k 1) one.0

module _ (plan : Plan) (slots : ℕ) (words : List ℕ) (views : List PassView) (rule : LogRule plan slots words views)
    (id : ℕ) (v : PassView) (there : get_elem? views id ≡ some v) where
  abbrev pub halt_words : List ℕ
  halt_words = slice_set words (halt_place plan.cores slots) 1

  halt_is : slice_index halt_words (halt_place plan.cores slots) ≡ 1
  halt_is = get_or-set_same words (halt_place plan.cores slots) 1 0
      (let last = at.halt_place-below plan.cores slots in let all = rule.all_words in omega arith)

  claim_is : slice_index halt_words (claim_place plan.cores slots) ≡ slice_index words (claim_place plan.cores slots)
  claim_is = get_or-set_other words (halt_place plan.cores slots) (claim_place plan.cores slots) 1 0
      (λ same. let less = at.claim_place-below plan.cores slots in omega arith)

  core_is_same : (core : ℕ) → core < plan.cores → (offset : ℕ) → offset < core_size slots
      → core_words slots halt_words core offset ≡ core_words slots words core offset
  core_is_same core below offset within = get_or-set_other words (halt_place plan.cores slots) (place slots core offset) 1 0
      (λ same. let less = at.place-below plan.cores slots core offset below within in let next = at.claim_place-below plan.cores slots in omega arith)

  halt_later : Later plan slots words halt_words rule.progress rule.progress
  halt_later = record {
    published = λ j. omega arith;
    finished = λ j. omega arith;
    claim = let same = claim_is in omega arith;
    halt = λ _. halt_is;
  }

  abbrev pub halting : PassView
  halting = record v { halts = v.halts + 1 }

  halting_pass : IsPass plan slots halt_words rule.progress rule.owner id halting
  halting_pass =
      let stays = pass_stays plan slots words halt_words rule.progress rule.progress halt_later rule.owner id v (λ core has. refl) (rule.passes id v there) in
      record {
        same_plan = stays.same_plan;
        same_slots = stays.same_slots;
        looks = stays.looks;
        core = λ core its. let c = stays.core core its in
            core_pass_with plan slots halt_words rule.progress rule.owner id v core v.looks (v.halts + 1) v.found c.found c;
      }

  pub halts_now : LogRule plan slots halt_words (set views id halting)
  halts_now = goes plan slots words views rule id v there halting halt_words rule.progress (record {
    same_core = refl;
    same_length = length-set words (halt_place plan.cores slots) 1;
    stocks = let same = claim_is in let total = total-kept views id v halting there refl in let was = rule.stocks in omega arith;
    later = halt_later;
    others = λ core below not. (refl, core_is_same core below);
    log = λ core below mine. same_log plan slots core rule.some_slots (rule.progress core) (core_words slots words core)
        (core_words slots halt_words core) (rule.logs core below) (core_is_same core below);
    cleared = λ core j a b differ mine. rule.cleared core j a b differ;
    pass = halting_pass;
    halt = inr (halt_is, (id, halting, set_here views id halting (there-below views id v there), omega arith));
  })

pub sets_halt : (plan : Plan) (slots homes id : ℕ) (me : Mine) (i : ℕ) → i ≡ halt_place plan.cores slots
    → Allows (Keeps plan slots) homes id me i (λ n. bit_or n 1) (SetsHalt (step homes i 1 0 none) me)
sets_halt plan slots homes id me i is s rule _ there _ =
    let v : PassView = me.0 in
    let n : ℕ = slice_index s.words i in
    let one : bit_or n 1 ≡ 1 =
    subst (λ (place : ℕ). bit_or (slice_index s.words place) 1 ≡ 1) (sym is)
    (halted_word s.views (slice_index s.words (halt_place plan.cores slots)) rule.halt) in (
      record v { halts = v.halts + 1 },
      keeps,
      tt,
      subst (λ (z : ℕ × ℕ). LogRule plan slots (slice_set s.words z.0 z.1) (set s.views id (record v { halts = v.halts + 1 }))) (λ k. (sym is k, sym one k))
          (halts_now plan slots s.words s.views rule id v there),
      refl,
    )
