use Rattle.std.proofs.Common.{Option, ◌++◌, ◌∷◌, [], List, length, ◌∙◌, ap, arith, refl}
use Rattle.scr_base.specs.declared.row.Row.{Row}
use Rattle.scr_frame.specs.Fields.{fields}
use Rattle.scr_pcap.specs.declared.reader.RecordInfo.{RecordInfo}
use Rattle.scr_pcapng.specs.declared.any.AnyReader.{AnyReader}
use Rattle.std.proofs.lemmas.Result.{err_from_is_err_and}
use Rattle.scr_pcapng.proofs.Joining.{begin-named, next-named}
use Rattle.scr_run.proofs.Ending.{StopsReading-from, StopsReading-want}
use Rattle.scr_run.proofs.Progress.{HasTaken-none, HasTaken-fault, HasTaken-more, length-rows_of}
use Rattle.scr_run.proofs.engine.rows_read.Goals as goal

pub loop-rows-init : goal.loop-rows-init
loop-rows-init g c = record {
  taken = HasTaken-none (g.P.Program.row_of c.args.settings.now) _ _ _ _ c.in_ok-reader.ensures.reads_on c.in_ok-reader.ensures.fresh.0 c.new-rows.ensures.items;
  reading = c.in_ok-reader.ensures.fresh.1;
  few = c.in_ok-reader.ensures.within.few_records;
  calm = c.in_ok-reader.ensures.counts;
}

pub loop-rows-preserved : goal.loop-rows-preserved
loop-rows-preserved g c =
    let was = c.loop-rows.invariant in
    let took = rw c.in-Some.is at (c.in_ok-info.ensures.answers was.reading) in
    let counted = rw c.in-Some.is at (c.in_ok-info.ensures.counted was.reading) in
    let reads = rw c.in-Some.is at (c.in_ok-info.ensures.progress was.reading) in
    let row = g.P.Program.row_of c.args.settings.now (fields c.bytes.result.now) c.in-Some.info.time in
    record {
      taken = HasTaken-more (g.P.Program.row_of c.args.settings.now) _ _ _ _ _ _ _ _ _ _ was.taken c.bytes.ensures.bytes counted.1 took counted.0
          (λ rows are number. c.in_ok-put_row.ensures ∙ ap (λ (rows : List Row). rows ++ row ∷ []) are);
      reading = reads;
      few = c.next.ensures.within.few_records;
      calm = c.in_ok-info.ensures.counts was.reading ∙ was.calm;
    }

pub returns-clause-few : goal.returns-clause-few
returns-clause-few g c =
    let taken = c.loop-rows.invariant.taken in
    omega (arith, ap length taken.holds, length-rows_of (g.P.Program.row_of c.args.settings.now) taken.records, taken.count, c.loop-rows.invariant.few)

pub returns-in_err-reader-clause-stop : goal.returns-in_err-reader-clause-stop
returns-in_err-reader-clause-stop g c =
    let failed = err_from_is_err_and c.from_residual-in_err-reader.result c.from_residual-in_err-reader.ensures.1 in
    rw failed.1 (StopsReading-from AnyReader (g.S.Source.left c.args.capture.now) _ _ _ _ failed.0 c.in_err-reader.ensures.counts refl
    (begin-named _ c.in_err-reader.ensures.named) c.in_err-reader.ensures.refused failed.2)

pub returns-in_err-info-clause-stop : goal.returns-in_err-info-clause-stop
returns-in_err-info-clause-stop g c =
    let failed = err_from_is_err_and c.from_residual-in_err-info.result c.from_residual-in_err-info.ensures.1 in
    let was = c.loop-rows.invariant in
    rw failed.1 (StopsReading-from (Option RecordInfo) (g.S.Source.left c.args.capture.now) _ _ _ _ failed.0 (c.in_err-info.ensures.counts was.reading) was.calm
    (next-named _ _ (c.in_err-info.ensures.named was.reading))
    (HasTaken-fault (g.P.Program.row_of c.args.settings.now) _ _ _ _ _ was.taken (c.in_err-info.ensures.answers was.reading)) failed.2)

pub returns-in_err-put_row-clause-stop : goal.returns-in_err-put_row-clause-stop
returns-in_err-put_row-clause-stop g c =
    let failed = err_from_is_err_and c.from_residual-in_err-put_row.result c.from_residual-in_err-put_row.ensures.1 in
    let was = c.loop-rows.invariant in
    rw failed.1 (StopsReading-want (g.S.Source.left c.args.capture.now) _ _ _ failed.0 (c.in_ok-info.ensures.counts was.reading ∙ was.calm) failed.2)

pub returns-clause-calm : goal.returns-clause-calm
returns-clause-calm g c =
    let was = c.loop-rows.invariant in
    c.in_ok-info.ensures.counts was.reading ∙ was.calm
