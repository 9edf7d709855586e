use Rattle.std.proofs.Common.{ℕ, ◌≤◌, Ok, ap, subst}
use Rattle.std.proofs.lemmas.Result.{err_from_is_err_and}
use Rattle.scr_pcap.specs.Records.{RECORDS}
use Rattle.scr_pcap.specs.State.{ReaderState}
use Rattle.scr_pcapng.specs.Either.{rest_behind}
use Rattle.scr_pcapng.proofs.EitherReading.{IsCauseOf-any, classic-answers, reading-in, rest_behind-refused}
use Rattle.scr_pcapng.proofs.any.next_classic.Goals as goal

pub returns-in_err-next-clause-answers : goal.returns-in_err-next-clause-answers
returns-in_err-next-clause-answers g c =
    let told = c.in_err-next.ensures in
    let few : c.args.reader.now.taken ≤ RECORDS = subst (λ (n : ℕ). n ≤ RECORDS) (ap (λ (reader : ReaderState). reader.taken) told.refused) told.within in
    let p = err_from_is_err_and c.from_residual.result c.from_residual.ensures.1 in
    λ reading.
    let may_read = reading-in c.args.reader.now.progress reading in
    rw (p.1, p.2) (IsCauseOf-any (rest_behind c.args.reader.now (g.S.Source.left c.args.source.now)) c.in_err-next.field-0.0 (λ cause.
    rest_behind-refused c.args.reader.now _ c.in_err-next.field-0.0 few (told.faulty cause may_read)))

pub returns-clause-answers : goal.returns-clause-answers
returns-clause-answers g c =
    let told = c.in_ok-next.ensures in
    let source = g.S.Source in
    λ reading.
    let may_read = reading-in c.args.reader.now.progress reading in
    classic-answers c.args.reader.now c.next.new.self (source.left c.args.source.now) (source.left c.next.new.source) c.next.new.frame c.in_ok-next.field-0 told.within
    told.record (λ none. told.ended (ap (λ next. Ok next) none)) (λ none. (told.end may_read (ap (λ next. Ok next) none)).0)
