use Rattle.std.proofs.Common.{refl}
use Rattle.std.proofs.lemmas.Result.{err_from_is_err_and}
use Rattle.scr_crew.proofs.Writing.{writes-held, stops-flushing}
use Rattle.scr_crew.proofs.lines.LinesTaker.flush.Goals as goal

pub returns-in_err-finish : goal.returns-in_err-finish
returns-in_err-finish g c =
    λ before whole rest is.
    let told = err_from_is_err_and c.from_residual.result c.from_residual.ensures.1 in
    rw (told.1, told.2)
    (stops-flushing g.O.Sink.written g.O.Sink.faults g.O.Sink.wants g.P.Program.verdict_names c.args.self.now before c.args.out.now whole rest c.finish.new.out
    c.in_err-finish.field-0.0 is c.in_err-finish.ensures.text c.in_err-finish.ensures.cause)

pub returns : goal.returns
returns g c =
    λ before whole rest is. (
      writes-held g.O.Sink.written g.O.Sink.faults g.O.Sink.wants g.P.Program.verdict_names c.args.self.now before c.args.out.now whole rest _ c.finish.new.out is
          c.in_ok-finish.ensures.text c.in_ok-finish.ensures.cause.ok c.in_ok-finish.ensures.empty refl refl,
      c.in_ok-finish.ensures.empty,
    )
