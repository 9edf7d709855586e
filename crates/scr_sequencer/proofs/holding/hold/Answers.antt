use Rattle.std.proofs.Common.{◌≡◌, ◌<◌, ℕ, zero, suc, List, [], ◌∷◌, length, None, Result, Ok, Err, arith}
use Rattle.std.specs.List.{slice_get}
use Rattle.std.specs.Prelude.{OnErr}
use Rattle.scr_sequencer.proofs.Rotating.{kept, joined}
use Rattle.scr_sequencer.proofs.holding.hold.Goals as goal

on_err : {T E P : Type 0} (r : Result T E) → P → OnErr r P
on_err (Ok x) p = tt
on_err (Err e) p = p

some_within : {X : Type 0} (xs : List X) (i : ℕ) → i < length xs → None ≡ slice_get xs i → ⊥
some_within [] i within none = omega arith
some_within (x ∷ xs) zero within none = cc
some_within (x ∷ xs) (suc i) within none = some_within xs i (omega arith) none

pub returns-in_err-push-in-Some-clause-err : goal.returns-in_err-push-in-Some-clause-err
returns-in_err-push-in-Some-clause-err c =
    on_err c.from_residual.result
    (kept _ c.args.held.now.items c.args.steps c.in-Some.frames.now c.push.new.self c.in-Some.ensures.value c.in_err-push-in-Some.ensures.items)

pub unreachable-requires : goal.unreachable-requires
unreachable-requires c = some_within c.args.held.now.items c.args.steps c.requires c.in-None.ensures.value

pub returns-clause-ok : goal.returns-clause-ok
returns-clause-ok c =
    joined _ c.args.held.now.items c.args.steps c.in-Some.frames.now c.push.new.self c.args.frame c.in-Some.ensures.value c.in_ok-push-in-Some.ensures.items
