-- What the stores of a core do to its log.
use Rattle.std.proofs.Common.{◌≡◌, ◌≢◌, ℕ, ◌+◌, ◌%◌, ◌<◌, ◌≤◌, inl, inr, ⊎_elim, sym, ap, ◌∙◌, arith, subst}
use Rattle.std.specs.Prelude.{Some}
use mathlib.Core.Logic.{dite}
use native.Mathlib.Decide.{ℕ_discrete}
use Rattle.scr_base.specs.declared.row.Row.{Row}
use Rattle.scr_plan.specs.Plan.{Plan, frame_count}
use Rattle.scr_log.specs.Layout.{core_size, tag_offset, data_offset, finished_offset}
use Rattle.scr_log.specs.Entries.{entry, tag, row_word}
use Rattle.scr_log.specs.Progress.{Progress, fresh}
use Rattle.scr_log.specs.LogRule.{IsLog, MayWrite}
use Rattle.scr_log.proofs.Apart as at

-- one word of a core was changed
pub record IsChangedAt (slots : ℕ) (changed value : ℕ) (word next : ℕ → ℕ) : Type 0 where
  pub there : next changed ≡ value
  pub others : (offset : ℕ) → offset < core_size slots → offset ≢ changed → next offset ≡ word offset

module _ (plan : Plan) (slots core : ℕ) (some : 0 < slots) (p : Progress) (word next : ℕ → ℕ) (log : IsLog plan slots core p word) where
  -- the same words
  pub same_log : ((offset : ℕ) → offset < core_size slots → next offset ≡ word offset) → IsLog plan slots core p next
  same_log same = record {
    finished_below = log.finished_below;
    finished_next = log.finished_next;
    within = log.within;
    finished_word = same _ (at.finished_offset-below slots some) ∙ log.finished_word;
    tags = λ q a b. same _ (at.tag_offset-below slots some q) ∙ log.tags q a b;
    unset = λ q a b. same _ (at.tag_offset-below slots some q) ∙ log.unset q a b;
    rows = λ q i row a b stands few is. same _ (at.data_offset-below slots some q i few) ∙ log.rows q i row a b stands few is;
    few_stored = log.few_stored;
    may_write = log.may_write;
    written = λ i row less is.
        let few : i < 7 = let f = log.few_stored in omega arith in
        same _ (at.data_offset-below slots some p.published i few) ∙ log.written i row less is;
  }

  -- a data word of the next row is stored
  module _ (row : Row) (may : MayWrite plan core p) (few : p.stored < 7) (is : entry plan core p.published ≡ Some row)
      (change : IsChangedAt slots (data_offset slots p.published p.stored) (row_word row p.stored) word next) where
    one_row : (other : Row) → entry plan core p.published ≡ Some other → other ≡ row
    one_row other its = let both : Some other ≡ Some row = sym its ∙ is in cc

    pub data_stored : IsLog plan slots core (record p { stored = p.stored + 1 }) next
    data_stored = record {
      finished_below = log.finished_below;
      finished_next = log.finished_next;
      within = log.within;
      finished_word = change.others _ (at.finished_offset-below slots some)
          (λ same. at.data-finished slots some p.published p.stored few (sym same)) ∙ log.finished_word;
      tags = λ q a b. change.others _ (at.tag_offset-below slots some q) (at.tag-data slots some q p.published p.stored few) ∙ log.tags q a b;
      unset = λ q a b. change.others _ (at.tag_offset-below slots some q) (at.tag-data slots some q p.published p.stored few) ∙ log.unset q a b;
      rows = λ q i other a b stands less its.
          change.others _ (at.data_offset-below slots some q i less)
          (λ same. ⊎_elim
          (λ (near : p.published < q + slots). at.slot-apart slots some q p.published a near
          (at.data-slot slots some q i p.published p.stored less few same))
          (λ (above : p.stored + 1 ≤ i). let one = at.data-word slots some q i p.published p.stored less few same in absurd (omega arith))
          stands)
          ∙ log.rows q i other a b
          (⊎_elim (λ (near : p.published < q + slots). inl near) (λ (above : p.stored + 1 ≤ i). inr (omega arith)) stands) less its;
      few_stored = omega arith;
      may_write = λ _. record { idle = may.idle; left = may.left; row = may.row };
      written = λ i other less its.
          dite (ℕ_discrete i p.stored)
          (λ (same : i ≡ p.stored). subst (λ (j : ℕ). next (data_offset slots p.published j) ≡ row_word other j) (sym same)
          (change.there ∙ ap (λ (r : Row). row_word r p.stored) (sym (one_row other its))))
          (λ differ.
          let below : i < p.stored = omega arith in
          change.others _ (at.data_offset-below slots some p.published i (omega arith))
          (λ same. differ (at.data-word slots some p.published i p.published p.stored (omega arith) few same))
          ∙ log.written i other below its);
    }

  -- the tag of the next number is stored
  module _ (idle : p.finished ≡ p.published) (left : p.published < frame_count plan)
      (whole : (row : Row) → entry plan core p.published ≡ Some row → p.stored ≡ 7)
      (change : IsChangedAt slots (tag_offset slots p.published) (tag plan core p.published) word next) where
    other_tag : (q : ℕ) → q % slots ≢ p.published % slots → next (tag_offset slots q) ≡ word (tag_offset slots q)
    other_tag q apart = change.others _ (at.tag_offset-below slots some q) (λ same. apart (at.tag-tag slots some q p.published same))

    pub tag_stored : IsLog plan slots core (record { published = p.published + 1; stored = 0; finished = p.finished }) next
    tag_stored = record {
      finished_below = omega arith;
      finished_next = omega arith;
      within = omega arith;
      finished_word = change.others _ (at.finished_offset-below slots some)
          (λ same. at.tag-finished slots some p.published (sym same)) ∙ log.finished_word;
      tags = λ q a b.
          dite (ℕ_discrete q p.published)
          (λ (same : q ≡ p.published). subst (λ (j : ℕ). next (tag_offset slots j) ≡ tag plan core j) (sym same) change.there)
          (λ differ.
          let below : q < p.published = omega arith in
          other_tag q (at.slot-apart slots some q p.published below (omega arith)) ∙ log.tags q below (omega arith));
      unset = λ q a b.
          other_tag q (λ same.
          let one = at.slot-first slots some q b in
          let two = at.slot-first slots some p.published (omega arith) in
          absurd (omega arith))
          ∙ log.unset q (omega arith) b;
      rows = λ q i row a b stands few is.
          change.others _ (at.data_offset-below slots some q i few) (λ same. at.tag-data slots some p.published q i few (sym same))
          ∙ dite (ℕ_discrete q p.published)
          (λ (same : q ≡ p.published).
          let its : entry plan core p.published ≡ Some row = subst (λ (j : ℕ). entry plan core j ≡ Some row) same is in
          let all = whole row its in
          subst (λ (j : ℕ). word (data_offset slots j i) ≡ row_word row i) (sym same) (log.written i row (omega arith) its))
          (λ differ. log.rows q i row (omega arith) (omega arith) (inl (omega arith)) few is);
      few_stored = omega arith;
      may_write = λ none. absurd (omega arith);
      written = λ i row none. absurd (omega arith);
    }

  -- the finished word is stored
  module _ (next_one : p.published ≡ p.finished + 1)
      (change : IsChangedAt slots (finished_offset slots) (p.finished + 1) word next) where
    pub finished_stored : IsLog plan slots core (record p { finished = p.finished + 1 }) next
    finished_stored = record {
      finished_below = omega arith;
      finished_next = omega arith;
      within = log.within;
      finished_word = change.there;
      tags = λ q a b. change.others _ (at.tag_offset-below slots some q) (at.tag-finished slots some q) ∙ log.tags q a b;
      unset = λ q a b. change.others _ (at.tag_offset-below slots some q) (at.tag-finished slots some q) ∙ log.unset q a b;
      rows = λ q i row a b stands few is.
          change.others _ (at.data_offset-below slots some q i few) (at.data-finished slots some q i few) ∙ log.rows q i row a b stands few is;
      few_stored = log.few_stored;
      may_write = λ some_stored. let may = log.may_write some_stored in let same = may.idle in absurd (omega arith);
      written = λ i row less is.
          let few : i < 7 = let f = log.few_stored in omega arith in
          change.others _ (at.data_offset-below slots some p.published i few) (at.data-finished slots some p.published i few)
          ∙ log.written i row less is;
    }

-- a core that has done nothing, whose words are 0
pub fresh_log : (plan : Plan) (slots core : ℕ) → 0 < slots → (word : ℕ → ℕ) → ((offset : ℕ) → offset < core_size slots → word offset ≡ 0)
    → IsLog plan slots core fresh word
fresh_log plan slots core some word zero_words = record {
  finished_below = omega arith;
  finished_next = omega arith;
  within = omega arith;
  finished_word = zero_words _ (at.finished_offset-below slots some);
  tags = λ q none. absurd (omega arith);
  unset = λ q a b. zero_words _ (at.tag_offset-below slots some q);
  rows = λ q i row none. absurd (omega arith);
  few_stored = omega arith;
  may_write = λ none. absurd (omega arith);
  written = λ i row none. absurd (omega arith);
}
