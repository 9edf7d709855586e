use Rattle.std.proofs.Common.{◌≡◌, ◌<◌, ℕ, List, [], length, get_or, replicate, ap, sym, ◌∙◌, arith}
use Rattle.std.proofs.lemmas.List.{ext_get_or, length-map, length-replicate, get_or-replicate}
use Rattle.scr_sequencer.specs.Sequence.{Arriving, steps_ahead, nothing_held}
use Rattle.scr_sequencer.proofs.sequencer.Sequencer.make.Goals as goal

all_empty : (held : List (List Arriving)) (n : ℕ) → length held ≡ n → ((k : ℕ) → k < n → get_or held k [] ≡ []) → held ≡ replicate n []
all_empty held n long each =
    ext_get_or [] held (replicate n []) (long ∙ sym (length-replicate n []))
    (λ i within. each i (omega arith) ∙ sym (get_or-replicate n i [] [] (omega arith)))

pub returns : goal.returns
unfolding nothing_held
returns c =
    let count : c.loop.counter ≡ steps_ahead = omega arith in
    let held = all_empty _ c.loop.counter (length-map c.loop.held.items _ ∙ c.loop.invariant.count) c.loop.invariant.empty ∙ ap (λ (n : ℕ). replicate n []) count in
    let rows = ap (λ b. b.items) c.in_ok-rows.ensures in
    λ i. record { cores = c.args.cores; history = c.args.history; taken = 0; rows = rows i; held = held i }
