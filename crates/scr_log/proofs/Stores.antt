-- The three kinds of store keep the log rule.
use Rattle.std.proofs.Common.{◌≡◌, ◌≢◌, ℕ, ◌+◌, ◌<◌, ◌≤◌, List, set, sym, refl, ap, ◌∙◌, arith, subst, eq-eqb, ne_eqb, cond, length-set, get_or-set_same, get_or-set_other}
use Rattle.std.specs.Prelude.{Some, None, slice_index, slice_set}
use mathlib.Core.Option.{some, none}
use mathlib.Core.Logic.{dite}
use native.Mathlib.Decide.{ℕ_discrete}
use lib.ListN.{get_elem?}
use Rattle.atomic_table.specs.Table.{step, keeps, Allows}
use Rattle.scr_base.specs.declared.row.Row.{Row}
use Rattle.scr_plan.specs.Plan.{Plan, frame_count}
use Rattle.scr_log.specs.declared.view.PassView.{PassView}
use Rattle.scr_log.specs.Layout.{core_size, tag_offset, data_offset, finished_offset, place, claim_place, halt_place}
use Rattle.scr_log.specs.Entries.{entry, tag, row_word}
use Rattle.scr_log.specs.Progress.{Progress, progress_of, updated, IsCleared}
use Rattle.scr_log.specs.LogRule.{IsLog, MayWrite, IsCorePass, IsPass, HaltIs, LogRule, Keeps, core_words}
use Rattle.scr_log.specs.Steps.{Mine, StoresWord, StoresTag, StoresFinished}
use Rattle.scr_log.proofs.OneLog.{IsChangedAt, data_stored, tag_stored, finished_stored}
use Rattle.scr_log.proofs.Rules.{Later, goes, total-kept, halt_kept, looks_stay}
use Rattle.scr_log.proofs.Apart as at

-- the progress of all cores after that of one has changed
pub updated-same : (progress : ℕ → Progress) (core : ℕ) (next : Progress) → updated progress core next core ≡ next
unfolding updated
updated-same progress core next = ap (λ b. cond b next (progress core)) (eq-eqb core core refl)

pub updated-other : (progress : ℕ → Progress) (core : ℕ) (next : Progress) (c : ℕ) → c ≢ core → updated progress core next c ≡ progress c
unfolding updated
updated-other progress core next c else = ap (λ b. cond b next (progress c)) (ne_eqb c core else)

-- a store of a core in its own words
module _ (plan : Plan) (slots : ℕ) (words : List ℕ) (views : List PassView) (rule : LogRule plan slots words views)
    (id : ℕ) (v : PassView) (there : get_elem? views id ≡ some v) (core : ℕ) (mine : v.core ≡ Some core)
    (offset : ℕ) (within : offset < core_size slots) (n : ℕ) where
  pass : IsPass plan slots words rule.progress rule.owner id v
  pass = rule.passes id v there

  its : IsCorePass plan slots words rule.progress rule.owner id v core
  its = pass.core core mine

  in_words : place slots core offset < claim_place plan.cores slots
  in_words = at.place-below plan.cores slots core offset its.below within

  claim_stays : slice_index (slice_set words (place slots core offset) n) (claim_place plan.cores slots) ≡ slice_index words (claim_place plan.cores slots)
  claim_stays = get_or-set_other words (place slots core offset) (claim_place plan.cores slots) n 0
      (λ same. let less = in_words in omega arith)

  halt_stays : slice_index (slice_set words (place slots core offset) n) (halt_place plan.cores slots) ≡ slice_index words (halt_place plan.cores slots)
  halt_stays = get_or-set_other words (place slots core offset) (halt_place plan.cores slots) n 0
      (λ same. let less = in_words in let above = at.claim_place-below plan.cores slots in omega arith)

  pub changed : IsChangedAt slots offset n (core_words slots words core) (core_words slots (slice_set words (place slots core offset) n) core)
  changed = record {
    there = get_or-set_same words (place slots core offset) n 0
        (let less = in_words in let above = at.claim_place-below plan.cores slots in let last = at.halt_place-below plan.cores slots in
        let all = rule.all_words in omega arith);
    others = λ other below differ. get_or-set_other words (place slots core offset) (place slots core other) n 0
        (λ same. differ (at.place-offset slots core other offset same));
  }

  pub the_log : IsLog plan slots core (progress_of v) (core_words slots words core)
  the_log = subst (λ (p : Progress). IsLog plan slots core p (core_words slots words core)) its.own (rule.logs core its.below)

  -- the view afterwards differs in the progress alone
  module _ (published stored finished : ℕ) where
    abbrev pub after_view : PassView
    after_view = record v { published = published; stored = stored; finished = finished }

    abbrev pub after_progress : Progress
    after_progress = record { published = published; stored = stored; finished = finished }

    module _ (log : IsLog plan slots core after_progress (core_words slots (slice_set words (place slots core offset) n) core))
        (more_published : v.published ≤ published) (more_finished : v.finished ≤ finished)
        (room : (j : ℕ) → j < plan.cores → j ≢ core → published ≤ slice_index v.noted j + slots)
        (room_to_write : (j : ℕ) → j < plan.cores → j ≢ core → 0 < stored → published + 1 ≤ slice_index v.noted j + slots)
        (not_found : v.found ≡ None) where
      own_before : rule.progress core ≡ progress_of v
      own_before = its.own

      published_later : (j : ℕ) → (rule.progress j).published ≤ (updated rule.progress core after_progress j).published
      published_later j = dite (ℕ_discrete j core)
          (λ (same : j ≡ core). subst (λ (k : ℕ). (rule.progress k).published ≤ (updated rule.progress core after_progress k).published) (sym same)
          (let now = ap (λ (p : Progress). p.published) (updated-same rule.progress core after_progress) in
          let was = ap (λ (p : Progress). p.published) own_before in omega arith))
          (λ else. let now = ap (λ (p : Progress). p.published) (updated-other rule.progress core after_progress j else) in omega arith)

      finished_later : (j : ℕ) → (rule.progress j).finished ≤ (updated rule.progress core after_progress j).finished
      finished_later j = dite (ℕ_discrete j core)
          (λ (same : j ≡ core). subst (λ (k : ℕ). (rule.progress k).finished ≤ (updated rule.progress core after_progress k).finished) (sym same)
          (let now = ap (λ (p : Progress). p.finished) (updated-same rule.progress core after_progress) in
          let was = ap (λ (p : Progress). p.finished) own_before in omega arith))
          (λ else. let now = ap (λ (p : Progress). p.finished) (updated-other rule.progress core after_progress j else) in omega arith)

      later : Later plan slots words (slice_set words (place slots core offset) n) rule.progress (updated rule.progress core after_progress)
      later = record {
        published = published_later;
        finished = finished_later;
        claim = let same = claim_stays in omega arith;
        halt = λ one. halt_stays ∙ one;
      }

      one_core : (c : ℕ) → v.core ≡ Some c → c ≡ core
      one_core c has = let both : Some c ≡ Some core = sym has ∙ mine in cc

      after_pass : IsPass plan slots (slice_set words (place slots core offset) n) (updated rule.progress core after_progress) rule.owner id after_view
      after_pass = record {
        same_plan = pass.same_plan;
        same_slots = pass.same_slots;
        looks = looks_stay plan slots words (slice_set words (place slots core offset) n) rule.progress (updated rule.progress core after_progress) later v.looks pass.looks;
        core = λ c has. subst
            (λ (k : ℕ). IsCorePass plan slots (slice_set words (place slots core offset) n) (updated rule.progress core after_progress) rule.owner id after_view k)
            (sym (one_core c has))
            (record {
              below = its.below;
              drawn = let same = claim_stays in let was = its.drawn in omega arith;
              only = its.only;
              own = updated-same rule.progress core after_progress;
              each_core = its.each_core;
              noted = λ j less. let was = its.noted j less in let more = finished_later j in omega arith;
              room = room;
              room_to_write = room_to_write;
              found = λ found has_it. let both : Some found ≡ None = sym has_it ∙ not_found in absurd (cc);
            });
      }

      clear : (j : ℕ) → j < plan.cores → j ≢ core → IsCleared slots after_progress (updated rule.progress core after_progress j)
      clear j less else =
          let noted = its.noted j less in
          let more = finished_later j in
          let one = room j less else in
          record {
            published = omega arith;
            writing = λ some_stored. let two = room_to_write j less else some_stored in omega arith;
          }

      pub stores : LogRule plan slots (slice_set words (place slots core offset) n) (set views id after_view)
      stores = goes plan slots words views rule id v there after_view (slice_set words (place slots core offset) n) (updated rule.progress core after_progress) (record {
        same_core = refl;
        same_length = length-set words (place slots core offset) n;
        stocks =
            let same = claim_stays in let total = total-kept views id v after_view there refl in let was = rule.stocks in omega arith;
        later = later;
        others = λ c less not.
            let else : c ≢ core = λ same. not (mine ∙ ap (λ (k : ℕ). Some k) (sym same)) in (
              updated-other rule.progress core after_progress c else,
              λ other below. get_or-set_other words (place slots core offset) (place slots c other) n 0
                  (λ same. else (at.place-core slots c core other offset below within same)),
            );
        log = λ c less has. subst
            (λ (k : ℕ). IsLog plan slots k (updated rule.progress core after_progress k) (core_words slots (slice_set words (place slots core offset) n) k))
            (sym (one_core c has))
            (subst (λ (p : Progress). IsLog plan slots core p (core_words slots (slice_set words (place slots core offset) n) core))
            (sym (updated-same rule.progress core after_progress)) log);
        cleared = λ c j less below differ has.
            let same = one_core c has in
            let else : j ≢ core = λ is. differ (same ∙ sym is) in
            subst (λ (k : ℕ). IsCleared slots (updated rule.progress core after_progress k) (updated rule.progress core after_progress j)) (sym same)
            (subst (λ (p : Progress). IsCleared slots p (updated rule.progress core after_progress j))
            (sym (updated-same rule.progress core after_progress)) (clear j below else));
        pass = after_pass;
        halt = subst (λ (h : ℕ). HaltIs (set views id after_view) h) (sym halt_stays)
            (halt_kept views id v after_view (slice_index words (halt_place plan.cores slots)) there refl rule.halt);
      })

-- by what the pass has noted, it may store in the slot of its next number
abbrev pub HasRoom : PassView → (cores slots core : ℕ) → Type 0
HasRoom v cores slots core = (j : ℕ) → j < cores → j ≢ core → v.published + 1 ≤ slice_index v.noted j + slots

-- a word of the next row is stored
pub stores_word : (plan : Plan) (slots homes id : ℕ) (me : Mine) (core i n : ℕ) (row : Row)
    → me.0.core ≡ Some core → me.0.found ≡ None → me.0.finished ≡ me.0.published → me.0.published < frame_count plan
    → entry plan core me.0.published ≡ Some row → me.0.stored < 7 → HasRoom me.0 plan.cores slots core
    → n ≡ row_word row me.0.stored → i ≡ place slots core (data_offset slots me.0.published me.0.stored)
    → Allows (Keeps plan slots) homes id me i (λ _. n) (λ _. StoresWord (step homes i n 0 none) me n)
stores_word plan slots homes id me core i n row mine not_found idle left is few room value here s rule _ there _ =
    let v : PassView = me.0 in
    let offset : ℕ = data_offset slots v.published v.stored in
    let within : offset < core_size slots = at.data_offset-below slots rule.some_slots v.published v.stored few in
    let may : MayWrite plan core (progress_of v) = record { idle = idle; left = left; row = (row, is) } in
    let change = changed plan slots s.words s.views rule id v there core mine offset within n in
    let change' = subst (λ (k : ℕ). IsChangedAt slots offset k (core_words slots s.words core) (core_words slots (slice_set s.words (place slots core offset) n) core)) value change in
    let log = data_stored plan slots core rule.some_slots (progress_of v) (core_words slots s.words core)
    (core_words slots (slice_set s.words (place slots core offset) n) core)
    (the_log plan slots s.words s.views rule id v there core mine offset within n) row may few is change' in (
      record v { stored = v.stored + 1 },
      keeps,
      tt,
      subst (λ (k : ℕ). LogRule plan slots (slice_set s.words k n) (set s.views id (record v { stored = v.stored + 1 }))) (sym here)
          (stores plan slots s.words s.views rule id v there core mine offset within n v.published (v.stored + 1) v.finished log
          (omega arith) (omega arith)
          (λ j less else. let r = room j less else in omega arith) (λ j less else _. room j less else) not_found),
      refl,
    )

-- the tag of the next number is stored
pub stores_tag : (plan : Plan) (slots homes id : ℕ) (me : Mine) (core i n : ℕ)
    → me.0.core ≡ Some core → me.0.found ≡ None → me.0.finished ≡ me.0.published → me.0.published < frame_count plan
    → ((row : Row) → entry plan core me.0.published ≡ Some row → me.0.stored ≡ 7) → HasRoom me.0 plan.cores slots core
    → n ≡ tag plan core me.0.published → i ≡ place slots core (tag_offset slots me.0.published)
    → Allows (Keeps plan slots) homes id me i (λ _. n) (λ _. StoresTag (step homes i n 0 none) me n)
stores_tag plan slots homes id me core i n mine not_found idle left whole room value here s rule _ there _ =
    let v : PassView = me.0 in
    let offset : ℕ = tag_offset slots v.published in
    let within : offset < core_size slots = at.tag_offset-below slots rule.some_slots v.published in
    let change = changed plan slots s.words s.views rule id v there core mine offset within n in
    let change' = subst (λ (k : ℕ). IsChangedAt slots offset k (core_words slots s.words core) (core_words slots (slice_set s.words (place slots core offset) n) core)) value change in
    let log = tag_stored plan slots core rule.some_slots (progress_of v) (core_words slots s.words core)
    (core_words slots (slice_set s.words (place slots core offset) n) core)
    (the_log plan slots s.words s.views rule id v there core mine offset within n) idle left whole change' in (
      record v { published = v.published + 1; stored = 0 },
      keeps,
      tt,
      subst (λ (k : ℕ). LogRule plan slots (slice_set s.words k n) (set s.views id (record v { published = v.published + 1; stored = 0 }))) (sym here)
          (stores plan slots s.words s.views rule id v there core mine offset within n (v.published + 1) 0 v.finished log
          (omega arith) (omega arith) room (λ j less else none. absurd (omega arith)) not_found),
      refl,
    )

-- the finished word is stored
pub stores_finished : (plan : Plan) (slots homes id : ℕ) (me : Mine) (core i n : ℕ)
    → me.0.core ≡ Some core → me.0.found ≡ None → me.0.published ≡ me.0.finished + 1
    → n ≡ me.0.finished + 1 → i ≡ place slots core (finished_offset slots)
    → Allows (Keeps plan slots) homes id me i (λ _. n) (λ _. StoresFinished (step homes i n 0 none) me n)
stores_finished plan slots homes id me core i n mine not_found current value here s rule _ there _ =
    let v : PassView = me.0 in
    let offset : ℕ = finished_offset slots in
    let within : offset < core_size slots = at.finished_offset-below slots rule.some_slots in
    let change = changed plan slots s.words s.views rule id v there core mine offset within n in
    let change' = subst (λ (k : ℕ). IsChangedAt slots offset k (core_words slots s.words core) (core_words slots (slice_set s.words (place slots core offset) n) core)) value change in
    let log = finished_stored plan slots core rule.some_slots (progress_of v) (core_words slots s.words core)
    (core_words slots (slice_set s.words (place slots core offset) n) core)
    (the_log plan slots s.words s.views rule id v there core mine offset within n) current change' in
    let c = (rule.passes id v there).core core mine in (
      record v { finished = v.finished + 1 },
      keeps,
      tt,
      subst (λ (k : ℕ). LogRule plan slots (slice_set s.words k n) (set s.views id (record v { finished = v.finished + 1 }))) (sym here)
          (stores plan slots s.words s.views rule id v there core mine offset within n v.published v.stored (v.finished + 1) log
          (omega arith) (omega arith) c.room c.room_to_write not_found),
      refl,
    )
