-- The rule at the start, and the two kinds of step by which passes come to be: a split and a draw.
use Rattle.std.proofs.Common.{◌≡◌, ◌≢◌, ℕ, zero, suc, ◌+◌, ◌%◌, ◌^◌, ◌<◌, ◌≤◌, inl, inr, ⊎_elim, List, [], ◌∷◌, ◌++◌, length, set, sym, refl, ap, ◌∙◌, arith, subst, eq-eqb, ne_eqb, cond, length-set, get_or-set_same, get_or-set_other, replicate}
use Rattle.std.specs.Prelude.{Some, None, slice_index, slice_set, ◌==◌, if◌then◌else◌}
use Rattle.std.proofs.lemmas.List.{get_or-replicate, length-replicate}
use Rattle.std.proofs.lemmas.List.Elements.{All-push, All-nil}
use mathlib.Core.Option.{some, none, some-injective, some-ne-none}
use mathlib.Core.Logic.{dite}
use native.Mathlib.Decide.{ℕ_discrete, dec_lt}
use lib.ListN.{get_elem?}
use Rattle.atomic_table.specs.Table.{step, keeps, Allows, Splits}
use Rattle.atomic_table.proofs.Lists.{at_set, at_snoc, at_longer, set_else}
use Rattle.scr_plan.specs.Plan.{Plan}
use Rattle.scr_log.specs.declared.view.PassView.{PassView}
use Rattle.scr_log.specs.declared.view.Noted.TheVariants.{Drawn}
use Rattle.scr_log.specs.Layout.{core_size, word_count, place, claim_place, halt_place}
use Rattle.scr_log.specs.Progress.{Progress, fresh, progress_of}
use Rattle.scr_log.specs.Passes.{free_view, all_draws}
use Rattle.scr_log.specs.LogRule.{IsCorePass, WasThere, IsPass, IsNobodys, total_stock, HaltIs, LogRule, Keeps, core_words}
use Rattle.scr_log.specs.Steps.{Mine, Draws, with_core, too_late, handed, new_pass}
use Rattle.scr_log.proofs.OneLog.{same_log, fresh_log}
use Rattle.scr_log.proofs.Rules.{Later, goes, total-set, halt_kept, pass_stays, looks_stay}
use Rattle.scr_log.proofs.Apart as at

-- a free pass that has seen nothing
free_pass : (plan : Plan) (slots : ℕ) (words : List ℕ) (progress : ℕ → Progress) (owner : ℕ → ℕ) (id stock halts : ℕ)
    → IsPass plan slots words progress owner id (free_view plan slots stock [] halts)
free_pass plan slots words progress owner id stock halts = record {
  same_plan = refl;
  same_slots = refl;
  looks = All-nil (WasThere plan slots words progress);
  core = λ core its. absurd (cc);
}

-- the rule at the start: all words are 0, and one pass has all draws
pub opens : (plan : Plan) (slots : ℕ) (words : List ℕ) → 0 < slots → words ≡ replicate (word_count plan.cores slots) 0
    → LogRule plan slots words (free_view plan slots all_draws [] 0 ∷ [])
opens plan slots words positive zeros = record {
  progress = λ _. fresh;
  owner = λ _. 0;
  some_slots = positive;
  all_words = ap length zeros ∙ length-replicate (word_count plan.cores slots) 0;
  stocks = let zero_claim = zero_at (claim_place plan.cores slots) (let less = at.claim_place-below plan.cores slots in let last = at.halt_place-below plan.cores slots in omega arith) in omega arith;
  nobodys = λ core below nobody. record { nothing_done = refl; zero_words = zero_core core below };
  logs = λ core below. fresh_log plan slots core positive (core_words slots words core) (zero_core core below);
  cleared = λ core j a b differ. record { published = omega arith; writing = λ stored. absurd (omega arith) };
  passes = λ id v there. pass_at id v there;
  halt = inl (zero_at (halt_place plan.cores slots) (at.halt_place-below plan.cores slots), λ id v there. halts_at id v there);
} where
  zero_at : (i : ℕ) → i < word_count plan.cores slots → slice_index words i ≡ 0
  zero_at i less = ap (λ (ws : List ℕ). slice_index ws i) zeros ∙ get_or-replicate (word_count plan.cores slots) i 0 0 less

  zero_core : (core : ℕ) → core < plan.cores → (offset : ℕ) → offset < core_size slots → core_words slots words core offset ≡ 0
  zero_core core below offset within = zero_at (place slots core offset)
      (let less = at.place-below plan.cores slots core offset below within in let next = at.claim_place-below plan.cores slots in
      let last = at.halt_place-below plan.cores slots in omega arith)

  pass_at : (id : ℕ) (v : PassView) → get_elem? (free_view plan slots all_draws [] 0 ∷ []) id ≡ some v
      → IsPass plan slots words (λ _. fresh) (λ _. 0) id v
  pass_at zero v there = subst (λ (p : PassView). IsPass plan slots words (λ _. fresh) (λ _. 0) 0 p) (some-injective (free_view plan slots all_draws [] 0) v there)
      (free_pass plan slots words (λ _. fresh) (λ _. 0) 0 all_draws 0)
  pass_at (suc id) v there = absurd (some-ne-none v (sym there))

  halts_at : (id : ℕ) (v : PassView) → get_elem? (free_view plan slots all_draws [] 0 ∷ []) id ≡ some v → v.halts ≡ 0
  halts_at zero v there = ap (λ (p : PassView). p.halts) (sym (some-injective (free_view plan slots all_draws [] 0) v there))
  halts_at (suc id) v there = absurd (some-ne-none v (sym there))

-- the stocks with a pass more
total-snoc : (views : List PassView) (v : PassView) → total_stock (views ++ v ∷ []) ≡ total_stock views + v.stock
total-snoc [] v = omega arith
total-snoc (x ∷ xs) v = let more = total-snoc xs v in omega arith

-- a split: the new pass has one of the stock
module _ (plan : Plan) (slots : ℕ) (words : List ℕ) (views : List PassView) (rule : LogRule plan slots words views)
    (id : ℕ) (v : PassView) (there : get_elem? views id ≡ some v) (enough : 1 ≤ v.stock) where
  split_pass : IsPass plan slots words rule.progress rule.owner id v
  split_pass = rule.passes id v there

  left_pass : IsPass plan slots words rule.progress rule.owner id (handed v)
  left_pass = record {
    same_plan = split_pass.same_plan;
    same_slots = split_pass.same_slots;
    looks = split_pass.looks;
    core = λ core its. let c = split_pass.core core its in record {
      below = c.below;
      drawn = c.drawn;
      only = c.only;
      own = c.own;
      each_core = c.each_core;
      noted = c.noted;
      room = c.room;
      room_to_write = c.room_to_write;
      found = c.found;
    };
  }

  right_pass : (progress : ℕ → Progress) (owner : ℕ → ℕ) (j : ℕ) → IsPass plan slots words progress owner j (new_pass v)
  right_pass progress owner j = subst (λ (z : Plan × ℕ). IsPass plan slots words progress owner j (free_view z.0 z.1 1 [] 0))
      (λ i. (sym split_pass.same_plan i, sym split_pass.same_slots i)) (free_pass plan slots words progress owner j 1 0)

  handed_on : LogRule plan slots words (set views id (handed v))
  handed_on = goes plan slots words views rule id v there (handed v) words rule.progress (record {
    same_core = refl;
    same_length = refl;
    stocks = let total = total-set views id v (handed v) there in let was = rule.stocks in omega arith;
    later = record { published = λ j. omega arith; finished = λ j. omega arith; claim = omega arith; halt = λ one. one };
    others = λ core below not. (refl, λ offset within. refl);
    log = λ core below mine. rule.logs core below;
    cleared = λ core j a b differ mine. rule.cleared core j a b differ;
    pass = left_pass;
    halt = halt_kept views id v (handed v) _ there refl rule.halt;
  })

  pub splits_pass : LogRule plan slots words (set views id (handed v) ++ new_pass v ∷ [])
  splits_pass = let now = handed_on in record {
    progress = now.progress;
    owner = now.owner;
    some_slots = now.some_slots;
    all_words = now.all_words;
    stocks =
        let total = total-set views id v (handed v) there in
        let more = total-snoc (set views id (handed v)) (new_pass v) in
        let was = rule.stocks in omega arith;
    nobodys = λ core below nobody. now.nobodys core below
        (λ j x at_j. nobody j x (at_longer (set views id (handed v)) (new_pass v ∷ []) j x at_j));
    logs = now.logs;
    cleared = now.cleared;
    passes = λ j x at_j. ⊎_elim (λ old. now.passes j x old)
        (λ (same : new_pass v ≡ x). subst (λ (p : PassView). IsPass plan slots words now.progress now.owner j p) same (right_pass now.progress now.owner j))
        (at_snoc (set views id (handed v)) (new_pass v) x j at_j);
    halt = halt_after now.halt;
  } where
    halt_after : HaltIs (set views id (handed v)) (slice_index words (halt_place plan.cores slots))
        → HaltIs (set views id (handed v) ++ new_pass v ∷ []) (slice_index words (halt_place plan.cores slots))
    halt_after (inl unset) = inl (
      unset.0,
      λ j x at_j. ⊎_elim (λ old. unset.1 j x old)
          (λ (same : new_pass v ≡ x). ap (λ (p : PassView). p.halts) (sym same)) (at_snoc (set views id (handed v)) (new_pass v) x j at_j),
    )
    halt_after (inr one) = let it = one.1 in inr (one.0, (it.0, it.1, at_longer (set views id (handed v)) (new_pass v ∷ []) it.0 it.1 it.2, it.3))

pub splits : (plan : Plan) (slots id : ℕ) (v : PassView) → 1 ≤ v.stock → Splits (Keeps plan slots) id v (handed v) (new_pass v)
splits plan slots id v enough s rule there = splits_pass plan slots s.words s.views rule id v there enough

-- a number is drawn
module _ (plan : Plan) (slots : ℕ) (words : List ℕ) (views : List PassView) (rule : LogRule plan slots words views)
    (id : ℕ) (v : PassView) (there : get_elem? views id ≡ some v) (free : v.core ≡ None) (not_found : v.found ≡ None)
    (nothing : progress_of v ≡ fresh) (enough : 1 ≤ v.stock) (n : ℕ) (here : slice_index words (claim_place plan.cores slots) ≡ n) where
  abbrev pub next_words : List ℕ
  next_words = slice_set words (claim_place plan.cores slots) (n + 1)

  claim_now : slice_index next_words (claim_place plan.cores slots) ≡ n + 1
  claim_now = get_or-set_same words (claim_place plan.cores slots) (n + 1) 0
      (let less = at.claim_place-below plan.cores slots in let last = at.halt_place-below plan.cores slots in let all = rule.all_words in omega arith)

  halt_now : slice_index next_words (halt_place plan.cores slots) ≡ slice_index words (halt_place plan.cores slots)
  halt_now = get_or-set_other words (claim_place plan.cores slots) (halt_place plan.cores slots) (n + 1) 0
      (λ same. let less = at.claim_place-below plan.cores slots in omega arith)

  core_now : (core : ℕ) → core < plan.cores → (offset : ℕ) → offset < core_size slots
      → core_words slots next_words core offset ≡ core_words slots words core offset
  core_now core below offset within = get_or-set_other words (claim_place plan.cores slots) (place slots core offset) (n + 1) 0
      (λ same. let less = at.place-below plan.cores slots core offset below within in omega arith)

  draw_later : Later plan slots words next_words rule.progress rule.progress
  draw_later = record {
    published = λ j. omega arith;
    finished = λ j. omega arith;
    claim = let now = claim_now in omega arith;
    halt = λ one. halt_now ∙ one;
  }

  draw_pass : IsPass plan slots words rule.progress rule.owner id v
  draw_pass = rule.passes id v there

  -- the number is no core's
  late_pass : plan.cores ≤ n → IsPass plan slots next_words rule.progress rule.owner id (too_late v n)
  late_pass late = record {
    same_plan = draw_pass.same_plan;
    same_slots = draw_pass.same_slots;
    looks = All-push (WasThere plan slots next_words rule.progress) v.looks (Drawn n)
        (looks_stay plan slots words next_words rule.progress rule.progress draw_later v.looks draw_pass.looks)
        (late, let now = claim_now in omega arith);
    core = λ core its. let both : None ≡ Some core = sym free ∙ its in absurd (cc);
  }

  pub draws_late : plan.cores ≤ n → LogRule plan slots next_words (set views id (too_late v n))
  draws_late late = goes plan slots words views rule id v there (too_late v n) next_words rule.progress (record {
    same_core = refl;
    same_length = length-set words (claim_place plan.cores slots) (n + 1);
    stocks = let total = total-set views id v (too_late v n) there in let was = rule.stocks in let now = claim_now in omega arith;
    later = draw_later;
    others = λ core below not. (refl, core_now core below);
    log = λ core below mine. same_log plan slots core rule.some_slots (rule.progress core) (core_words slots words core)
        (core_words slots next_words core) (rule.logs core below) (core_now core below);
    cleared = λ core j a b differ mine. rule.cleared core j a b differ;
    pass = late_pass late;
    halt = subst (λ (h : ℕ). HaltIs (set views id (too_late v n)) h) (sym halt_now)
        (halt_kept views id v (too_late v n) (slice_index words (halt_place plan.cores slots)) there refl rule.halt);
  })

  -- the number is the core of the pass
  module _ (in_time : n < plan.cores) where
    nobody_yet : IsNobodys views n
    nobody_yet j x at_j has = let c = (rule.passes j x at_j).core n has in let drawn = c.drawn in omega arith

    new_owner : ℕ → ℕ
    new_owner c = if c == n then id else rule.owner c

    owner_here : new_owner n ≡ id
    unfolding new_owner
    owner_here = ap (λ b. cond b id (rule.owner n)) (eq-eqb n n refl)

    owner_else : (c : ℕ) → c ≢ n → new_owner c ≡ rule.owner c
    unfolding new_owner
    owner_else c apart = ap (λ b. cond b id (rule.owner c)) (ne_eqb c n apart)

    draws_owned : (core : ℕ) → n ≡ core → IsCorePass plan slots next_words rule.progress new_owner id (with_core v n) core
    draws_owned core same = subst (λ (c : ℕ). IsCorePass plan slots next_words rule.progress new_owner id (with_core v n) c) same
        (let cores : v.plan.cores ≡ plan.cores = ap (λ (p : Plan). p.cores) draw_pass.same_plan in
        let zero_published : v.published ≡ 0 = ap (λ (p : Progress). p.published) nothing in
        let zero_stored : v.stored ≡ 0 = ap (λ (p : Progress). p.stored) nothing in
        record {
          below = in_time;
          drawn = let now = claim_now in omega arith;
          only = owner_here;
          own = (rule.nobodys n in_time nobody_yet).nothing_done ∙ sym nothing;
          each_core = length-replicate v.plan.cores 0 ∙ cores;
          noted = λ j less.
              let is : slice_index (replicate v.plan.cores 0) j ≡ 0 = get_or-replicate v.plan.cores j 0 0 (omega arith) in omega arith;
          room = λ j less apart. omega arith;
          room_to_write = λ j less apart stored. absurd (omega arith);
          found = λ found has. let both : Some found ≡ None = sym has ∙ not_found in absurd (cc);
        })

    drawn_pass : IsPass plan slots next_words rule.progress new_owner id (with_core v n)
    drawn_pass = record {
      same_plan = draw_pass.same_plan;
      same_slots = draw_pass.same_slots;
      looks = looks_stay plan slots words next_words rule.progress rule.progress draw_later v.looks draw_pass.looks;
      core = λ core its. draws_owned core (cc);
    }

    -- a pass that had its core before
    older_pass : (j : ℕ) (x : PassView) → get_elem? views j ≡ some x → IsPass plan slots next_words rule.progress new_owner j x
    older_pass j x at_j =
        let stays = pass_stays plan slots words next_words rule.progress rule.progress draw_later rule.owner j x (λ core has. refl) (rule.passes j x at_j) in
        record {
          same_plan = stays.same_plan;
          same_slots = stays.same_slots;
          looks = stays.looks;
          core = λ core has. let c = stays.core core has in record {
            below = c.below;
            drawn = c.drawn;
            only = owner_else core (λ same. nobody_yet j x at_j (subst (λ (k : ℕ). x.core ≡ Some k) same has)) ∙ c.only;
            own = c.own;
            each_core = c.each_core;
            noted = c.noted;
            room = c.room;
            room_to_write = c.room_to_write;
            found = c.found;
          };
        }

    nobodys_then : (core : ℕ) → IsNobodys (set views id (with_core v n)) core → IsNobodys views core
    nobodys_then core nobody j x at_j has =
        dite (ℕ_discrete j id)
        (λ (same : j ≡ id).
        let both : some x ≡ some v = sym at_j ∙ (ap (λ (k : ℕ). get_elem? views k) same ∙ there) in
        let is : x.core ≡ v.core = ap (λ (p : PassView). p.core) (some-injective x v both) in
        let clash : None ≡ Some core = sym free ∙ (sym is ∙ has) in absurd (cc))
        (λ apart. nobody j x (set_else views id j (with_core v n) apart ∙ at_j) has)

    pub draws_core : LogRule plan slots next_words (set views id (with_core v n))
    draws_core = record {
      progress = rule.progress;
      owner = new_owner;
      some_slots = rule.some_slots;
      all_words = length-set words (claim_place plan.cores slots) (n + 1) ∙ rule.all_words;
      stocks = let total = total-set views id v (with_core v n) there in let was = rule.stocks in let now = claim_now in omega arith;
      nobodys = λ core below nobody.
          let was = rule.nobodys core below (nobodys_then core nobody) in
          record { nothing_done = was.nothing_done; zero_words = λ offset within. core_now core below offset within ∙ was.zero_words offset within };
      logs = λ core below. same_log plan slots core rule.some_slots (rule.progress core) (core_words slots words core)
          (core_words slots next_words core) (rule.logs core below) (core_now core below);
      cleared = rule.cleared;
      passes = λ j x at_j. ⊎_elim
          (λ t. subst (λ (z : ℕ × PassView). IsPass plan slots next_words rule.progress new_owner z.0 z.1) (λ i. (sym t.0 i, t.1 i)) drawn_pass)
          (λ t. older_pass j x t.1)
          (at_set views id j (with_core v n) x at_j);
      halt = subst (λ (h : ℕ). HaltIs (set views id (with_core v n)) h) (sym halt_now)
          (halt_kept views id v (with_core v n) (slice_index words (halt_place plan.cores slots)) there refl rule.halt);
    }

-- the claim word can't wrap
no_wrap : (n total : ℕ) → n + total ≤ 2 ^ 32 → 1 ≤ total → (n + 1) % 2 ^ 64 ≡ n + 1
no_wrap n total few positive = omega arith

stock-below : (views : List PassView) (id : ℕ) (v : PassView) → get_elem? views id ≡ some v → v.stock ≤ total_stock views
stock-below [] id v e = absurd (some-ne-none v (sym e))
stock-below (x ∷ xs) zero v e = let is : x.stock ≡ v.stock = ap (λ (p : PassView). p.stock) (some-injective x v e) in omega arith
stock-below (x ∷ xs) (suc id) v e = let more = stock-below xs id v e in omega arith

pub draws : (plan : Plan) (slots homes id : ℕ) (me : Mine) (i : ℕ) → me.0.core ≡ None → me.0.found ≡ None → progress_of me.0 ≡ fresh
    → 1 ≤ me.0.stock → i ≡ claim_place plan.cores slots
    → Allows (Keeps plan slots) homes id me i (λ n. (n + 1) % 2 ^ 64) (Draws (step homes i 1 0 none) me)
draws plan slots homes id me i free not_found nothing enough is s rule _ there _ =
    let v : PassView = me.0 in
    let n : ℕ = slice_index s.words i in
    let here : slice_index s.words (claim_place plan.cores slots) ≡ n = ap (λ (place : ℕ). slice_index s.words place) (sym is) in
    let cores : v.plan.cores ≡ plan.cores = ap (λ (p : Plan). p.cores) (rule.passes id v there).same_plan in
    let some_stock : 1 ≤ total_stock s.views = let most = stock-below s.views id v there in omega arith in
    let wrap : (n + 1) % 2 ^ 64 ≡ n + 1 = no_wrap n (total_stock s.views) (let was = rule.stocks in omega arith) some_stock in
    dite (dec_lt n plan.cores)
    (λ (less : n < plan.cores). (
      with_core v n,
      keeps,
      tt,
      subst (λ (z : ℕ × ℕ). LogRule plan slots (slice_set s.words z.0 z.1) (set s.views id (with_core v n))) (λ k. (sym is k, sym wrap k))
          (draws_core plan slots s.words s.views rule id v there free not_found nothing enough n here less),
      record { core = λ _. refl; late = λ late. absurd (omega arith) },
    ))
    (λ not_less. (
      too_late v n,
      keeps,
      tt,
      subst (λ (z : ℕ × ℕ). LogRule plan slots (slice_set s.words z.0 z.1) (set s.views id (too_late v n))) (λ k. (sym is k, sym wrap k))
          (draws_late plan slots s.words s.views rule id v there free not_found nothing enough n here (omega arith)),
      record { core = λ less. absurd (omega arith); late = λ _. refl },
    ))
