use Rattle.std.proofs.Common.{◌≡◌, ◌∷◌, ◌++◌, ℕ, List, map, sym, ap, ◌∙◌}
use Rattle.scr_wire.specs.Spelling.{spelling}
use Rattle.scr_sequencer.specs.Answers.{beacons_of}
use Rattle.scr_replica.proofs.Awaiting.{on_ok_all, await-same, given-all}
use Rattle.scr_replica.proofs.filling.give_beacon.Goals as goal

pub returns-in_ok-encode-in-Some : goal.returns-in_ok-encode-in-Some
returns-in_ok-encode-in-Some c =
    let plan = c.args.plan.now in
    let old = c.args.cores.now in
    let new = c.give_all-in-Some.new.cores in
    λ n rest await.
    let packet = c.in_ok-encode-in-Some.field-0 in
    let same : (core : ℕ) → map spelling (beacons_of c.args.beacon) ++ rest core ≡ packet ∷ rest core =
    λ core.
    ap (λ b. map spelling (beacons_of b) ++ rest core) c.in-Some.is
    ∙ ap (λ (p : List ℕ). p ∷ rest core) (sym c.in_ok-encode-in-Some.ensures.spelled) in
    on_ok_all plan.history packet old new c.give_all-in-Some.result
    (given-all plan n packet rest old new c.give_all-in-Some.auto.cores (await-same plan n _ _ old same await))
    c.give_all-in-Some.ensures
