use Rattle.std.proofs.Common.{◌≡◌, ℕ, ◌+◌, ◌*◌, replicate, ap, sym, ◌∙◌}
use Rattle.scr_plan.specs.Plan.{Plan}
use Rattle.scr_log.specs.Layout.{word_count}
use Rattle.scr_log.proofs.Draws.{opens}
use Rattle.scr_log.proofs.logs.Logs.make.Goals as goal

pub of_words-requires : goal.of_words-requires
of_words-requires c =
    let cores : c.cores-cores.result ≡ c.of.result.value.cores =
    c.cores-cores.ensures.cores ∙ ap (λ (p : Plan). p.cores) (sym c.of.ensures) in
    opens c.of.result.value c.args.slots c.as_slice.result.now c.requires.some_slots
    (c.as_slice.ensures.value ∙ c.in_ok-zeros.ensures.items_if_clones_equal (λ y same. same)
    ∙ ap (λ (n : ℕ). replicate (c.cores-cores.result * n + 2) 0) c.core_words.ensures
    ∙ ap (λ (n : ℕ). replicate (word_count n c.args.slots) 0) cores)
