use Rattle.std.proofs.Common.{◌≡◌, ℕ, ◌+◌, ◌-◌, ◌++◌, ap, ◌∙◌, arith}
use Rattle.std.specs.Prelude.{map, unwrap_or, length}
use Rattle.std.specs.List.{range_with_len}
use Rattle.scr_base.specs.declared.row.Row.{Row}
use Rattle.scr_wire.specs.Spelling.{number_of}
use Rattle.scr_stream.specs.Frames.{frame_of, carried_row}
use Rattle.scr_stream.specs.Reading.{no_row}
use Rattle.scr_stream.proofs.Growing.{map-grown, range-grown}
use Rattle.scr_stream.proofs.taken.Taken.add_rows.Goals as goal

pub loop-p-preserved : goal.loop-p-preserved
loop-p-preserved c =
    let f : ℕ → Row = λ k. unwrap_or (carried_row (frame_of c.args.frame.now) k) no_row in
    let from = c.loop-p.auto.p in
    record {
      rows = map-grown f _ _ _ _ c.loop-p.p _ from c.loop-p.invariant.rows c.in_ok-push.ensures.items c.row_or_none.ensures;
      missing = range-grown _ _ _ _ c.loop-p.p from c.loop-p.invariant.missing c.in_ok-push-2.ensures.items;
      frames = c.loop-p.invariant.frames;
    }

pub returns-clause-rows : goal.returns-clause-rows
returns-clause-rows c =
    let old = c.args.self.now.rows.items in
    let f : ℕ → Row = λ k. unwrap_or (carried_row (frame_of c.args.frame.now) k) no_row in
    let first : ℕ = c.last.result + 1 in
    let number : ℕ = number_of c.args.frame.now in
    let later = c.requires.later in
    let told = c.last.ensures in
    let from = c.loop-p.auto.p in
    let to = c.loop-p.auto.p-end in
    let ended = c.loop-p-test.false in
    let at : c.loop-p.p ≡ number = omega arith in
    let size : number + 1 - first ≡ number - length old = omega arith in
    let start : first ≡ length old + 1 = ap (λ (n : ℕ). n + 1) told in
    map-grown f old _ _ first number _ (omega arith)
    (c.loop-p.invariant.rows ∙ ap (λ (n : ℕ). old ++ map f (range_with_len first (n - first))) at)
    c.in_ok-push-3.ensures.items (c.row_or_none-2.ensures ∙ ap f c.number-number.ensures)
    ∙ ap (λ (n : ℕ). old ++ map f (range_with_len first n)) size
    ∙ ap (λ (k : ℕ). old ++ map f (range_with_len k (number - length old))) start
