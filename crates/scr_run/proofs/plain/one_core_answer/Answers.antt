use Rattle.std.proofs.Common.{Option, ◌++◌, ◌∷◌, [], List, All, ◌<◌, length, ◌∙◌, ap, arith, sym, subst, refl}
use Rattle.scr_plan.specs.declared.given.Given.{Given}
use Rattle.scr_frame.specs.Fields.{fields}
use Rattle.scr_replica.specs.OneCore.{undivided}
use Rattle.scr_replica.proofs.Undivided.{verdicts-none, verdicts-push, length-verdicts}
use Rattle.scr_replica.proofs.Counted.{verdicts-named}
use Rattle.scr_run.specs.RunReport.{rows_of}
use Rattle.scr_pcap.specs.declared.reader.RecordInfo.{RecordInfo}
use Rattle.scr_pcapng.specs.declared.any.AnyReader.{AnyReader}
use Rattle.std.proofs.lemmas.Result.{err_from_is_err_and}
use Rattle.scr_pcapng.proofs.Joining.{begin-named, next-named}
use Rattle.scr_run.proofs.Ending.{StopsReading-from, StopsReading-want}
use Rattle.scr_run.proofs.Progress.{HasTaken-none, HasTaken-fault, HasTaken-more, length-rows_of}
use Rattle.scr_run.proofs.plain.one_core_answer.Goals as goal

pub loop-core-init : goal.loop-core-init
loop-core-init g c = record {
  taken = HasTaken-none (g.P.Program.row_of c.args.settings.now) _ _ _ _ c.in_ok-reader.ensures.reads_on c.in_ok-reader.ensures.fresh.0
      (c.new.ensures.items ∙ sym (verdicts-none (g.P.Program.verdict_after c.args.settings.now)), c.in_ok-fresh.ensures);
  reading = c.in_ok-reader.ensures.fresh.1;
  few = c.in_ok-reader.ensures.within.few_records;
  calm = c.in_ok-reader.ensures.counts;
}

pub loop-core-preserved : goal.loop-core-preserved
loop-core-preserved g c =
    let was = c.loop-core.invariant in
    let took = rw c.in-Some.is at (c.in_ok-info.ensures.answers was.reading) in
    let counted = rw c.in-Some.is at (c.in_ok-info.ensures.counted was.reading) in
    let reads = rw c.in-Some.is at (c.in_ok-info.ensures.progress was.reading) in
    let verdict_after = g.P.Program.verdict_after c.args.settings.now in
    let row = g.P.Program.row_of c.args.settings.now (fields c.bytes.result.now) c.in-Some.info.time in
    record {
      taken = HasTaken-more (g.P.Program.row_of c.args.settings.now) _ _ _ _ _ _ _ _ _ _ was.taken c.bytes.ensures.bytes counted.1 took counted.0
          (λ rows holds number. (
            c.in_ok-take.ensures.given rows holds.1 ∙ ap (λ (t : List Given). t ++ record { number = c.in-Some.info.number; verdict = verdict_after rows row } ∷ []) holds.0 ∙ sym (verdicts-push verdict_after rows row c.in-Some.info.number number),
            c.in_ok-take.ensures.stands rows holds.1,
          ));
      reading = reads;
      few = c.next.ensures.within.few_records;
      calm = c.in_ok-info.ensures.counts was.reading ∙ was.calm;
    }

pub returns-clause-few : goal.returns-clause-few
returns-clause-few g c =
    let taken = c.loop-core.invariant.taken in
    let rows = rows_of (g.P.Program.row_of c.args.settings.now) taken.records in
    omega (
      arith,
      ap length taken.holds.0,
      length-verdicts (g.P.Program.verdict_after c.args.settings.now) rows,
      length-rows_of (g.P.Program.row_of c.args.settings.now) taken.records,
      taken.count,
      c.loop-core.invariant.few,
    )

pub returns-clause-named : goal.returns-clause-named
returns-clause-named g c =
    let taken = c.loop-core.invariant.taken in
    let rows = rows_of (g.P.Program.row_of c.args.settings.now) taken.records in
    let names = length g.P.Program.verdict_names in
    let laws = g.met.P.Program g.world.𝓛 g.world.𝓜 g.world.𝓡 ((λ s x. x), (λ x. x), (λ x. x), λ x. x) in
    subst (λ (given : List Given). All (λ given. given.verdict.0 < names) given) (sym taken.holds.0)
    (verdicts-named (g.P.Program.verdict_after c.args.settings.now) (undivided rows) names (laws.is_named c.args.settings.now))

pub returns-in_err-reader-clause-stop : goal.returns-in_err-reader-clause-stop
returns-in_err-reader-clause-stop g c =
    let failed = err_from_is_err_and c.from_residual-in_err-reader.result c.from_residual-in_err-reader.ensures.1 in
    rw failed.1 (StopsReading-from AnyReader (g.S.Source.left c.args.capture.now) _ _ _ _ failed.0 c.in_err-reader.ensures.counts refl
    (begin-named _ c.in_err-reader.ensures.named) c.in_err-reader.ensures.refused failed.2)

pub returns-in_err-info-clause-stop : goal.returns-in_err-info-clause-stop
returns-in_err-info-clause-stop g c =
    let failed = err_from_is_err_and c.from_residual-in_err-info.result c.from_residual-in_err-info.ensures.1 in
    let was = c.loop-core.invariant in
    rw failed.1 (StopsReading-from (Option RecordInfo) (g.S.Source.left c.args.capture.now) _ _ _ _ failed.0 (c.in_err-info.ensures.counts was.reading) was.calm
    (next-named _ _ (c.in_err-info.ensures.named was.reading))
    (HasTaken-fault (g.P.Program.row_of c.args.settings.now) _ _ _ _ _ was.taken (c.in_err-info.ensures.answers was.reading)) failed.2)

pub returns-in_err-take-clause-stop : goal.returns-in_err-take-clause-stop
returns-in_err-take-clause-stop g c =
    let failed = err_from_is_err_and c.from_residual-in_err-take.result c.from_residual-in_err-take.ensures.1 in
    let was = c.loop-core.invariant in
    rw failed.1 (StopsReading-want (g.S.Source.left c.args.capture.now) _ _ _ failed.0 (c.in_ok-info.ensures.counts was.reading ∙ was.calm) failed.2)

pub returns-clause-calm : goal.returns-clause-calm
returns-clause-calm g c =
    let was = c.loop-core.invariant in
    c.in_ok-info.ensures.counts was.reading ∙ was.calm

pub returns-in_err-fresh-clause-stop : goal.returns-in_err-fresh-clause-stop
returns-in_err-fresh-clause-stop g c =
    let failed = err_from_is_err_and c.from_residual-in_err-fresh.result c.from_residual-in_err-fresh.ensures.1 in
    rw failed.1 (StopsReading-want (g.S.Source.left c.args.capture.now) _ _ _ failed.0 c.in_ok-reader.ensures.counts failed.2)
