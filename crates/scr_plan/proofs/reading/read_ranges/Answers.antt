use Rattle.std.proofs.Common.{◌≡◌, ◌+◌, ◌<◌, ℕ, length, [], ◌∷◌, ◌++◌, rules, tests, sym, ◌∙◌, ap, arith, List, get_or, eqb}
use Rattle.std.proofs.lemmas.Iterator.Splits.{YieldsList-from_slice_split}
use Rattle.std.proofs.lemmas.Iterator.Consumers.{YieldsList-turn, YieldsList-end}
use Rattle.std.proofs.lemmas.List.{length_push}
use Rattle.std.proofs.Common.{subst}
use Rattle.std.proofs.lemmas.Result.{err_from_is_err_and}
use Rattle.std.proofs.lemmas.Bool.Decides.{nat_tests}
use Rattle.scr_plan.specs.declared.drops.DropRange.{DropRange}
use Rattle.scr_plan.specs.Spelling.{pieces_of, piece_read, place_of}
use Rattle.scr_plan.proofs.Spelled.{ReadsTo, ReadsTo-more, IsRefused-here, place_of-more, place_of-fits, SpellsRanges-all}
use Rattle.scr_plan.proofs.reading.read_ranges.Goals as goal

pub returns-in_err-push-in-Ok : goal.returns-in_err-push-in-Ok
returns-in_err-push-in-Ok c =
    let p = err_from_is_err_and c.from_residual.result c.from_residual.ensures.1 in
    rw (p.1, p.2.1) tt

pub returns-in-Err : goal.returns-in-Err
returns-in-Err c =
    let turn : (length c.loop-piece.yielded < length (pieces_of c.args.text.now))
    × (c.in-Some.piece.now ≡ get_or (pieces_of c.args.text.now) (length c.loop-piece.yielded) c.in-Some.piece.now) =
    YieldsList-turn
    (YieldsList-from_slice_split {s = c.into_iter-piece-iterator.result} _ (λ byte. eqb byte 44) c.args.text.now (search rules)
    (search rules) (search rules) (λ x b q k. search (rules, tests)))
    c.loop-piece.yielded _ c.loop-piece.yielded_by _ c.next.new.self c.in-Some.piece c.in-Some.is c.next.ensures.steps in
    let before : c.len.result ≡ length c.loop-piece.yielded = omega arith in
    let read = sym c.in-Err.is ∙ c.read_piece.ensures ∙ ap (λ (n : ℕ). piece_read n c.in-Some.piece.now) before in
    let some : 0 < length c.args.text.now = grind (arith, nat_tests) in
    IsRefused-here c.args.text.now c.loop-piece.ranges.items c.in-Some.piece.now c.in-Err.cause c.loop-piece.place (length c.loop-piece.yielded)
    some c.loop-piece.invariant.count turn.0 turn.1 read c.loop-piece.invariant.each c.loop-piece.invariant.place

pub overflow_add-place-in-loop-piece : goal.overflow_add-place-in-loop-piece
overflow_add-place-in-loop-piece c =
    let turn : (length c.loop-piece.yielded < length (pieces_of c.args.text.now))
    × (c.in-Some.piece.now ≡ get_or (pieces_of c.args.text.now) (length c.loop-piece.yielded) c.in-Some.piece.now) =
    YieldsList-turn
    (YieldsList-from_slice_split {s = c.into_iter-piece-iterator.result} _ (λ byte. eqb byte 44) c.args.text.now (search rules)
    (search rules) (search rules) (λ x b q k. search (rules, tests)))
    c.loop-piece.yielded _ c.loop-piece.yielded_by _ c.next.new.self c.in-Some.piece c.in-Some.is c.next.ensures.steps in
    let k : ℕ = length c.loop-piece.yielded in
    let more = place_of-more c.args.text.now c.in-Some.piece.now k turn.0 turn.1 in
    omega (arith, more, c.loop-piece.invariant.place, place_of-fits c.args.text.now (k + 1))

pub loop-piece-preserved : goal.loop-piece-preserved
loop-piece-preserved c =
    let turn : (length c.loop-piece.yielded < length (pieces_of c.args.text.now))
    × (c.in-Some.piece.now ≡ get_or (pieces_of c.args.text.now) (length c.loop-piece.yielded) c.in-Some.piece.now) =
    YieldsList-turn
    (YieldsList-from_slice_split {s = c.into_iter-piece-iterator.result} _ (λ byte. eqb byte 44) c.args.text.now (search rules)
    (search rules) (search rules) (λ x b q k. search (rules, tests)))
    c.loop-piece.yielded _ c.loop-piece.yielded_by _ c.next.new.self c.in-Some.piece c.in-Some.is c.next.ensures.steps in
    let before : c.len.result ≡ length c.loop-piece.yielded = omega arith in
    let read = sym c.in-Ok.is ∙ c.read_piece.ensures ∙ ap (λ (n : ℕ). piece_read n c.in-Some.piece.now) before in
    let items : c.push.new.self.items ≡ c.loop-piece.ranges.items ++ c.in-Ok.range ∷ [] = c.in_ok-push-in-Ok.ensures.items in
    let next = length_push c.loop-piece.yielded c.in-Some.piece in
    record {
      count = ap length items ∙ omega (arith, next, length_push c.loop-piece.ranges.items c.in-Ok.range, c.loop-piece.invariant.count);
      each = subst (λ (ranges : List DropRange). ReadsTo c.args.text.now ranges) (sym items)
          (ReadsTo-more c.args.text.now c.loop-piece.ranges.items c.in-Some.piece.now c.in-Ok.range (length c.loop-piece.yielded)
          c.loop-piece.invariant.count turn.0 turn.1 read c.loop-piece.invariant.each);
      place =
          ap (λ (n : ℕ). n + (length c.in-Some.piece.now + 1)) c.loop-piece.invariant.place
          ∙ sym (place_of-more c.args.text.now c.in-Some.piece.now (length c.loop-piece.yielded) turn.0 turn.1)
          ∙ ap (place_of c.args.text.now) (sym next);
    }

pub returns : goal.returns
returns c =
    let some : 0 < length c.args.text.now = grind (arith, nat_tests) in
    let end = YieldsList-end
    (YieldsList-from_slice_split {s = c.into_iter-piece-iterator.result} _ (λ byte. eqb byte 44) c.args.text.now (search rules)
    (search rules) (search rules) (λ x b q k. search (rules, tests)))
    c.loop-piece.yielded _ c.loop-piece.yielded_by _ c.next.new.self c.in-None.is c.next.ensures.steps in
    SpellsRanges-all c.args.text.now c.loop-piece.ranges.items some (c.loop-piece.invariant.count ∙ end.1) c.loop-piece.invariant.each
