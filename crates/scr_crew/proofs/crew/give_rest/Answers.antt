use Rattle.std.proofs.Common.{◌≡◌, ◌+◌, ◌-◌, ◌∷◌, List, length, get_or, take, drop, subst, add-one, drop-cons}
use Rattle.scr_plan.specs.declared.given.Given.{Given}
use Rattle.scr_crew.proofs.crew.give_rest.Goals as goal

pub take-requires : goal.take-requires
take-requires g c =
    let left : List Given = take (length c.args.verdicts.now - c.taken.result) (drop c.taken.result c.args.verdicts.now) in
    let none : Given = record { number = 0; verdict = record { 0 = 0 } } in
    let next : drop c.loop-given.given-index left ≡ get_or left c.loop-given.given-index none ∷ drop (c.loop-given.given-index + 1) left = rw (add-one, drop-cons left c.loop-given.given-index none c.loop-given-test.true) in (
      c.requires.0,
      c.args.verdicts.now,
      drop (c.loop-given.given-index + 1) left,
      subst (λ (rest : List Given). g.T.Taker.IsToTake c.loop-given.taker c.requires.0 c.loop-given.out c.args.verdicts.now rest) next
          (c.loop-given.invariant c.requires.0 c.requires.1 c.requires.2),
    )
