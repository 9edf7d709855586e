use Rattle.std.proofs.Common.{◌<◌, Bool, length, sym, subst, ◌∙◌, refl, arith}
use Rattle.std.proofs.lemmas.Result.{err_from_is_err_and}
use Rattle.scr_pcap.proofs.Sizes.{GivesAtMost-more}
use Rattle.scr_stream.specs.Taken.{most_bytes}
use Rattle.scr_stream.proofs.EntryRead.{counts-error, some-nothing}
use Rattle.scr_stream.proofs.FramesInFront.{from_one-at, grows-at}
use Rattle.scr_stream.proofs.Reach.{stream-reach}
use Rattle.scr_stream.proofs.WholeStream.{HasTaken-start, HasTaken-more, frames-so_far, all-taken, left_of, fewer-left, few-rows, few-kept, header-refuses, entry-refuses_at, stream-told_at}
use Rattle.scr_stream.proofs.read.read_stream.Goals as goal

pub returns-in_err-shape-clause-refused : goal.returns-in_err-shape-clause-refused
returns-in_err-shape-clause-refused g c =
    let p = err_from_is_err_and c.from_residual.result c.from_residual.ensures.1 in
    rw (p.1, p.2) (header-refuses c.args.program _ _ c.in_err-shape.ensures.refused)

pub returns-in_err-shape-clause-few : goal.returns-in_err-shape-clause-few
returns-in_err-shape-clause-few g c =
    let p = err_from_is_err_and c.from_residual.result c.from_residual.ensures.1 in
    rw p.1 (GivesAtMost-more 8 most_bytes _ _ (omega arith) c.in_err-shape.ensures.few)

pub loop-more-init : goal.loop-more-init
loop-more-init g c =
    record {
      taken = HasTaken-start c.from-history.result _ c.new-taken.result.rows.items c.new-taken.result.missing.items c.new-taken.result.frames
          c.new-taken.ensures.rows c.new-taken.ensures.missing c.new-taken.ensures.frames;
      counts = refl;
    }

pub take_entry-requires-clause-few : goal.take_entry-requires-clause-few
take_entry-requires-clause-few g c =
    let so_far = frames-so_far c.loop-more.more c.from-history.result _ _ c.loop-more.taken.rows.items c.loop-more.taken.missing.items c.loop-more.taken.frames
    c.loop-more-test.true c.loop-more.invariant.taken in
    (few-kept c.from-history.result so_far.frames c.loop-more.taken.rows.items c.loop-more.taken.missing.items c.loop-more.taken.frames so_far.stands).0

pub take_entry-requires-clause-fewer : goal.take_entry-requires-clause-fewer
take_entry-requires-clause-fewer g c =
    let so_far = frames-so_far c.loop-more.more c.from-history.result _ _ c.loop-more.taken.rows.items c.loop-more.taken.missing.items c.loop-more.taken.frames
    c.loop-more-test.true c.loop-more.invariant.taken in
    (few-kept c.from-history.result so_far.frames c.loop-more.taken.rows.items c.loop-more.taken.missing.items c.loop-more.taken.frames so_far.stands).1

pub returns-in_err-more-clause-refused : goal.returns-in_err-more-clause-refused
returns-in_err-more-clause-refused g c =
    let so_far = frames-so_far c.loop-more.more c.from-history.result _ _ c.loop-more.taken.rows.items c.loop-more.taken.missing.items c.loop-more.taken.frames
    c.loop-more-test.true c.loop-more.invariant.taken in
    let p = err_from_is_err_and c.from_residual-in_err-more.result c.from_residual-in_err-more.ensures.1 in
    rw (p.1, p.2)
    (entry-refuses_at c.args.program c.in_ok-shape.shape c.from-history.result c.from-history.ensures _ _ _ c.loop-more.taken.rows.items c.loop-more.taken.missing.items
    c.loop-more.taken.frames _ c.in_ok-shape.ensures.shape so_far c.in_err-more.ensures.refused)

pub returns-in_err-more-clause-few : goal.returns-in_err-more-clause-few
returns-in_err-more-clause-few g c =
    let so_far = frames-so_far c.loop-more.more c.from-history.result _ _ c.loop-more.taken.rows.items c.loop-more.taken.missing.items c.loop-more.taken.frames
    c.loop-more-test.true c.loop-more.invariant.taken in
    let p = err_from_is_err_and c.from_residual-in_err-more.result c.from_residual-in_err-more.ensures.1 in
    let short = c.in_ok-shape.ensures.ranges.2 in
    let same = c.from-history.ensures in
    rw p.1
    (stream-reach c.from-history.result (omega arith) _ _ _ _ c.loop-more.taken.rows.items c.loop-more.taken.missing.items c.loop-more.taken.frames
    c.in_ok-shape.ensures.few so_far c.in_err-more.ensures.few)

pub returns-in_err-more-clause-counts : goal.returns-in_err-more-clause-counts
returns-in_err-more-clause-counts g c =
    let p = err_from_is_err_and c.from_residual-in_err-more.result c.from_residual-in_err-more.ensures.1 in
    rw (p.1, p.2)
    (counts-error g.S.Source.faults c.args.source.now c.loop-more.source c.take_entry.new.source _
    (c.loop-more.invariant.counts ∙ c.in_ok-shape.ensures.counts.other (λ e. cc)) c.in_err-more.ensures.counts)

pub loop-more-smaller : goal.loop-more-smaller
loop-more-smaller g c =
    let so_far = frames-so_far c.loop-more.more c.from-history.result _ _ c.loop-more.taken.rows.items c.loop-more.taken.missing.items c.loop-more.taken.frames
    c.loop-more-test.true c.loop-more.invariant.taken in
    let fewer = fewer-left c.in_ok-more.more c.from-history.result so_far.frames _ _ c.loop-more.taken.rows.items c.loop-more.taken.missing.items c.loop-more.taken.frames
    c.take_entry.new.self.rows.items c.take_entry.new.self.missing.items c.take_entry.new.self.frames so_far.stands (c.in_ok-more.ensures.taken so_far.frames so_far.stands) in
    subst (λ (b : Bool). left_of c.in_ok-more.more (length c.take_entry.new.self.rows.items) < left_of b (length c.loop-more.taken.rows.items)) (sym c.loop-more-test.true) fewer

pub loop-more-preserved : goal.loop-more-preserved
loop-more-preserved g c =
    let so_far = frames-so_far c.loop-more.more c.from-history.result _ _ c.loop-more.taken.rows.items c.loop-more.taken.missing.items c.loop-more.taken.frames
    c.loop-more-test.true c.loop-more.invariant.taken in
    record {
      taken = HasTaken-more c.in_ok-more.more c.from-history.result _ _ _ c.loop-more.taken.rows.items c.loop-more.taken.missing.items c.loop-more.taken.frames
          c.take_entry.new.self.rows.items c.take_entry.new.self.missing.items c.take_entry.new.self.frames so_far (c.in_ok-more.ensures.taken so_far.frames so_far.stands);
      counts = c.in_ok-more.ensures.counts.other (λ e. cc) ∙ c.loop-more.invariant.counts;
    }

pub lost-link-requires-clause-from_one : goal.lost-link-requires-clause-from_one
lost-link-requires-clause-from_one g c =
    let all = all-taken c.loop-more.more c.from-history.result _ _ c.loop-more.taken.rows.items c.loop-more.taken.missing.items c.loop-more.taken.frames
    c.loop-more-test.false c.loop-more.invariant.taken in
    from_one-at all.frames all.last c.loop-more.taken.missing.items all.missing_are

pub lost-link-requires-clause-growing : goal.lost-link-requires-clause-growing
lost-link-requires-clause-growing g c =
    let all = all-taken c.loop-more.more c.from-history.result _ _ c.loop-more.taken.rows.items c.loop-more.taken.missing.items c.loop-more.taken.frames
    c.loop-more-test.false c.loop-more.invariant.taken in
    grows-at all.frames all.last c.loop-more.taken.missing.items all.missing_are

pub make-requires-clause-few_rows : goal.make-requires-clause-few_rows
make-requires-clause-few_rows g c =
    let all = all-taken c.loop-more.more c.from-history.result _ _ c.loop-more.taken.rows.items c.loop-more.taken.missing.items c.loop-more.taken.frames
    c.loop-more-test.false c.loop-more.invariant.taken in
    few-rows all.frames all.last c.loop-more.taken.rows.items all.few all.rows_are

pub returns-clause-plan : goal.returns-clause-plan
returns-clause-plan g c =
    let all = all-taken c.loop-more.more c.from-history.result _ _ c.loop-more.taken.rows.items c.loop-more.taken.missing.items c.loop-more.taken.frames
    c.loop-more-test.false c.loop-more.invariant.taken in
    stream-told_at c.args.program c.in_ok-shape.shape c.from-history.result c.from-history.ensures _ _ _ c.loop-more.taken.rows.items c.loop-more.taken.missing.items
    c.make.result c.lost-link.result c.in_ok-shape.ensures.shape all c.make.ensures.rows (c.make.ensures.cores ∙ c.from.ensures) c.make.ensures.history c.make.ensures.link c.lost-link.ensures.link

pub returns-clause-end : goal.returns-clause-end
returns-clause-end g c =
    let all = all-taken c.loop-more.more c.from-history.result _ _ c.loop-more.taken.rows.items c.loop-more.taken.missing.items c.loop-more.taken.frames
    c.loop-more-test.false c.loop-more.invariant.taken in
    all.end

pub returns-clause-refused : goal.returns-clause-refused
returns-clause-refused g c =
    some-nothing _

pub returns-clause-counts : goal.returns-clause-counts
returns-clause-counts g c =
    record {
      failed = λ is. absurd cc;
      other = λ _. c.loop-more.invariant.counts ∙ c.in_ok-shape.ensures.counts.other (λ e. cc);
    }
