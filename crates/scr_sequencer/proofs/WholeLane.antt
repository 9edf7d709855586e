-- The answers for all rows of a plan, in turn, then what is held behind the last, and then the end, spell the lane of each
-- core, message by message.
use Rattle.std.proofs.Common.{◌≡◌, ℕ, ◌+◌, ◌^◌, ◌<◌, List, [], ◌∷◌, ◌++◌, length, map, refl, sym, ap, subst, ◌∙◌, arith}
use Rattle.std.specs.List.{AllZip, flat_map, range_with_len}
use Rattle.std.proofs.lemmas.List.{length-append, length-map}
use Rattle.std.proofs.lemmas.List.Concat.{flat_map-cons}
use Rattle.std.proofs.lemmas.List.Elements.{All-nil}
use Rattle.scr_plan.specs.Delays.{greatest_delay}
use Rattle.scr_plan.specs.Plan.{Plan, IsPlan, frame_count}
use Rattle.scr_wire.specs.declared.message.Message.{Message}
use Rattle.scr_wire.specs.declared.message.Message.TheVariants.{End}
use Rattle.scr_wire.specs.Spelling.{IsRow, Spells, spelling}
use Rattle.scr_wire.specs.Lane.{added, lane_so_far, last_step, lane}
use Rattle.scr_wire.proofs.LaneGrows.{lane_so_far-numbers}
use Rattle.scr_sequencer.specs.Sequence.{Arriving}
use Rattle.scr_sequencer.specs.Answers.{Answer, sent_to, Adds, late, AddsFrom}
use Rattle.scr_sequencer.proofs.Adding.{AllZip-append}

-- answers in turn, for the steps from n on
abbrev pub AddInTurn : Plan → (n : ℕ) → List Answer → Type 0
AddInTurn plan n [] = Unit {0}
AddInTurn plan n (out ∷ outs) = Adds plan n out × AddInTurn plan (n + 1) outs

turns_spelled : (plan : Plan) (core n : ℕ) (outs : List Answer) → AddInTurn plan n outs
    → AllZip Spells (flat_map (added plan core) (range_with_len n (length outs))) (flat_map (sent_to core) outs)
turns_spelled plan core n [] turns = tt
turns_spelled plan core n (out ∷ outs) turns =
    subst (λ (z : List Message × List (List ℕ)). AllZip Spells z.0 z.1)
    (λ i. (
      sym (flat_map-cons (added plan core) n (range_with_len (n + 1) (length outs))) i,
      sym (flat_map-cons (sent_to core) out outs) i,
    ))
    (AllZip-append (added plan core n) (flat_map (added plan core) (range_with_len (n + 1) (length outs))) (sent_to core out) (flat_map (sent_to core) outs)
    (turns.0.spelled core) (turns_spelled plan core (n + 1) outs turns.1))

-- what is held, as answers
rest_in_turn : (plan : Plan) (n : ℕ) (held : List (List Arriving)) → AddsFrom plan n held → AddInTurn plan n (map late held)
rest_in_turn plan n [] adds = tt
rest_in_turn plan n (frames ∷ held) adds = (adds.0, rest_in_turn plan (n + 1) held adds.1)

both_in_turn : (plan : Plan) (n : ℕ) (outs rest : List Answer) → AddInTurn plan n outs → AddInTurn plan (n + length outs) rest → AddInTurn plan n (outs ++ rest)
both_in_turn plan n [] rest turns more = let here : n + 0 ≡ n = omega arith in subst (λ (k : ℕ). AddInTurn plan k rest) here more
both_in_turn plan n (out ∷ outs) rest turns more =
    let there : n + length (out ∷ outs) ≡ n + 1 + length outs = omega arith in
    (turns.0, both_in_turn plan (n + 1) outs rest turns.1 (subst (λ (k : ℕ). AddInTurn plan k rest) there more))

end_spells : (n : ℕ) → n < 2 ^ 32 → Spells (End n) (spelling (End n))
end_spells n fits = record { has_spelling = record { number = fits; count = refl; rows = All-nil IsRow }; spelled = refl }

-- the whole lane of a core
pub lane_spelled : (plan : Plan) (core : ℕ) (outs : List Answer) (held : List (List Arriving)) → IsPlan plan → length outs ≡ frame_count plan → AddInTurn plan 1 outs
    → length held ≡ greatest_delay → AddsFrom plan (frame_count plan + 1) held
    → AllZip Spells (lane plan core) (flat_map (sent_to core) (outs ++ map late held) ++ spelling (End (frame_count plan)) ∷ [])
lane_spelled plan core outs held is all turns long rest =
    let few = is.few_rows in
    let first : frame_count plan + 1 ≡ 1 + length outs = omega arith in
    let steps : length (outs ++ map late held) ≡ last_step plan = omega (arith, length-append outs (map late held), length-map held late) in
    let answers : List Answer = outs ++ map late held in
    let so_far = turns_spelled plan core 1 answers
    (both_in_turn plan 1 outs (map late held) turns (subst (λ (k : ℕ). AddInTurn plan k (map late held)) first (rest_in_turn plan (frame_count plan + 1) held rest))) in
    AllZip-append (lane_so_far plan core (last_step plan)) (End (frame_count plan) ∷ []) (flat_map (sent_to core) answers) (spelling (End (frame_count plan)) ∷ [])
    (subst (λ (ms : List Message). AllZip Spells ms (flat_map (sent_to core) answers))
    (ap (λ (k : ℕ). flat_map (added plan core) (range_with_len 1 k)) steps ∙ sym (lane_so_far-numbers plan core (last_step plan))) so_far)
    (end_spells (frame_count plan) (omega arith), tt)
