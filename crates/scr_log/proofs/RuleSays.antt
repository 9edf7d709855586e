-- What the rule says of the words and the views alone, without the progress of the cores that it speaks of.
use Rattle.std.proofs.Common.{◌≡◌, ◌≢◌, ℕ, ◌+◌, ◌<◌, ◌≤◌, List, sym, ap, ◌∙◌, arith}
use Rattle.std.specs.Prelude.{Some, slice_index}
use mathlib.Core.Option.{some}
use lib.ListN.{get_elem?}
use Rattle.scr_plan.specs.Plan.{Plan, frame_count}
use Rattle.scr_log.specs.declared.view.PassView.{PassView}
use Rattle.scr_log.specs.Layout.{core_size, finished_offset}
use Rattle.scr_log.specs.Progress.{Progress}
use Rattle.scr_log.specs.LogRule.{LogRule, IsNobodys, core_words}

module _ (plan : Plan) (slots : ℕ) (words : List ℕ) (views : List PassView) (rule : LogRule plan slots words views) where
  -- no two passes have one core
  pub one_pass_a_core : (id j core : ℕ) (v x : PassView) → get_elem? views id ≡ some v → get_elem? views j ≡ some x
      → v.core ≡ Some core → x.core ≡ Some core → id ≡ j
  one_pass_a_core id j core v x at_id at_j mine theirs =
      sym ((rule.passes id v at_id).core core mine).only ∙ ((rule.passes j x at_j).core core theirs).only

  -- all words of a core that no pass has are 0
  pub nobodys_words : (core : ℕ) → core < plan.cores → IsNobodys views core → (offset : ℕ) → offset < core_size slots
      → core_words slots words core offset ≡ 0
  nobodys_words core below nobody offset within = (rule.nobodys core below nobody).zero_words offset within

  module _ (id core : ℕ) (v : PassView) (there : get_elem? views id ≡ some v) (mine : v.core ≡ Some core) where
    -- the finished word of a core is the number that its pass has finished
    pub finished_word_is : core_words slots words core (finished_offset slots) ≡ v.finished
    finished_word_is =
        let c = (rule.passes id v there).core core mine in
        (rule.logs core c.below).finished_word ∙ ap (λ (p : Progress). p.finished) c.own

    -- a pass finishes what it has published, and goes on only when it has
    pub in_order : (v.finished ≤ v.published) × (v.published ≤ v.finished + 1) × (v.published ≤ frame_count plan)
    in_order =
        let c = (rule.passes id v there).core core mine in
        let log = rule.logs core c.below in
        let published : (rule.progress core).published ≡ v.published = ap (λ (p : Progress). p.published) c.own in
        let finished : (rule.progress core).finished ≡ v.finished = ap (λ (p : Progress). p.finished) c.own in
        let a = log.finished_below in
        let b = log.finished_next in
        let d = log.within in
        (omega arith, omega arith, omega arith)

    -- a noted finished number isn't above the word, and what was published has a slot that is free by it
    pub noted_below : (j : ℕ) → j < plan.cores → slice_index v.noted j ≤ core_words slots words j (finished_offset slots)
    noted_below j below =
        let noted = ((rule.passes id v there).core core mine).noted j below in
        let word = (rule.logs j below).finished_word in
        omega arith

    pub has_room : (j : ℕ) → j < plan.cores → j ≢ core → v.published ≤ slice_index v.noted j + slots
    has_room = ((rule.passes id v there).core core mine).room
