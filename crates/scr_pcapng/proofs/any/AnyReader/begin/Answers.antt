use Rattle.std.proofs.Common.{◌≡◌, length, take, subst, arith}
use Rattle.std.proofs.lemmas.Grind.{common_steps}
use Rattle.std.proofs.lemmas.List.{take_all}
use Rattle.std.proofs.lemmas.Result.{err_from_is_err_and}
use Rattle.std.specs.Io.KnownBytes.{Consumes}
use Rattle.scr_pcapng.proofs.EitherReading.{ReadsOn-classic, other-first, refused-classic, short-told}
use Rattle.scr_pcapng.proofs.any.AnyReader.begin.Goals as goal

pub returns-then-branch-lt4-clause-refused : goal.returns-then-branch-lt4-clause-refused
returns-then-branch-lt4-clause-refused g c =
    let filled = c.in_ok-fill.ensures in
    let short = c.if-branch-lt4.true in
    let whole = c.fill.auto.buf in
    short-told _ _ c.fill.new.buf c.in_ok-fill.field-0 filled.taken (filled.end short) (grind (arith, common_steps)) short

pub returns-in_err-reader-clause-refused : goal.returns-in_err-reader-clause-refused
returns-in_err-reader-clause-refused g c =
    let source = g.S.Source in
    let filled = c.in_ok-fill.ensures in
    let enough = c.if-branch-lt4.false in
    let first = c.fill.new.buf in
    let four : length first ≡ 4 = grind (arith, common_steps) in
    let all : take c.in_ok-fill.field-0 first ≡ first = take_all c.in_ok-fill.field-0 first (omega arith) in
    let taken = subst (Consumes (source.left c.args.source.now) (source.left c.fill.new.source)) all filled.taken in
    let other = other-first first c.if-eq.ensures in
    let p = err_from_is_err_and c.from_residual-in_err-reader.result c.from_residual-in_err-reader.ensures.1 in
    rw (p.1, p.2) (refused-classic (source.left c.args.source.now) _ first c.in_err-reader.field-0.0 taken four other c.in_err-reader.ensures.refused)

pub returns-clause-reads_on : goal.returns-clause-reads_on
returns-clause-reads_on g c =
    let source = g.S.Source in
    let filled = c.in_ok-fill.ensures in
    let enough = c.if-branch-lt4.false in
    let first = c.fill.new.buf in
    let four : length first ≡ 4 = grind (arith, common_steps) in
    let all : take c.in_ok-fill.field-0 first ≡ first = take_all c.in_ok-fill.field-0 first (omega arith) in
    let taken = subst (Consumes (source.left c.args.source.now) (source.left c.fill.new.source)) all filled.taken in
    let other = other-first first c.if-eq.ensures in
    ReadsOn-classic (source.left c.args.source.now) _ _ first c.in_ok-reader.reader taken four other c.in_ok-reader.ensures.header c.in_ok-reader.ensures.fresh.none_taken
