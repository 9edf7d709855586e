use Rattle.std.proofs.Common.{◌<◌, ◌≤◌, ◌+◌, length, take, ap, ◌∙◌, arith, inr}
use Rattle.std.proofs.lemmas.List.{length-take}
use Rattle.std.proofs.lemmas.Result.{err_from_is_err_and}
use Rattle.scr_pcap.specs.Records.{time_in}
use Rattle.scr_pcap.specs.State.{ReaderState}
use Rattle.scr_pcap.proofs.Told.{IsReadInFront-from_fill, IsHeaderTaken-from_fill, header-fails, content-cut, record-taken}
use Rattle.scr_pcap.proofs.Sizes.{Takes-header, Takes-behind}
use Rattle.scr_pcap.proofs.reader.Reader.take_record.Goals as goal

pub returns-in_err-length-clause-faulty : goal.returns-in_err-length-clause-faulty
returns-in_err-length-clause-faulty g c =
    let filled = c.in_ok-count.ensures in
    let read = IsReadInFront-from_fill _ _ c.fill.new.buf c.in_ok-count.count 16 c.fill.auto.buf filled.within filled.taken filled.end in
    let refused = c.in_err-length.ensures in
    let some : 0 < length (take c.in_ok-count.count c.fill.new.buf) =
    let count = length-take c.in_ok-count.count c.fill.new.buf in let nonempty = c.if-count-eq0.false in let whole = c.fill.auto.buf in omega arith in
    let p = err_from_is_err_and c.from_residual-in_err-length.result c.from_residual-in_err-length.ensures.1 in
    rw (p.1, p.2) (λ _. header-fails _ _ _ _ _ _ read some (inr refused.test) refused.fault)

pub returns-then-branch-length-clause-faulty : goal.returns-then-branch-length-clause-faulty
returns-then-branch-length-clause-faulty g c =
    let told = c.in_ok-length.ensures.captured in
    let header = IsHeaderTaken-from_fill c.args.self.now.format _ _ c.fill.new.buf c.in_ok-count.count c.in_ok-length.length c.fill.auto.buf c.in_ok-count.ensures.taken told.1 told.2 told.3 in
    let filled = c.in_ok-fill.ensures in
    let count = filled.count in
    let cut = c.if-branch-length.true in
    λ _. content-cut _ c.args.self.now.taken _ _ _ _ _ _ c.fill-2.new.self header filled.taken (filled.end cut) told.0 (omega arith) c.short_record.ensures

pub returns-clause-record : goal.returns-clause-record
returns-clause-record g c =
    let told = c.in_ok-length.ensures.captured in
    let header = IsHeaderTaken-from_fill c.args.self.now.format _ _ c.fill.new.buf c.in_ok-count.count c.in_ok-length.length c.fill.auto.buf c.in_ok-count.ensures.taken told.1 told.2 told.3 in
    let filled = c.in_ok-fill.ensures in
    let count = filled.count in
    let whole = c.if-branch-length.false in (
      told.0,
      ap (λ (reader : ReaderState). reader.taken + 1) c.self.view_is,
      omega (arith, filled.within),
      record-taken _ _ c.time_in.result _ _ _ c.fill.new.buf c.fill-2.new.self header filled.taken (omega (arith, filled.within)) (c.time_in.ensures ∙ ap (λ (reader : ReaderState). time_in reader.format c.fill.new.buf) c.self.view_is),
    )

pub returns-in_err-length-clause-takes : goal.returns-in_err-length-clause-takes
returns-in_err-length-clause-takes g c =
    let filled = c.in_ok-count.ensures in
    let within : length (take c.in_ok-count.count c.fill.new.buf) ≤ 16 = omega (arith, length-take c.in_ok-count.count c.fill.new.buf, filled.within, c.fill.auto.buf) in
    let refused = c.in_err-length.ensures.told in
    let p = err_from_is_err_and c.from_residual-in_err-length.result c.from_residual-in_err-length.ensures.1 in
    rw (p.1, p.2) (Takes-header _ c.args.self.now.format c.args.self.now.taken _ _ _ _ refused.1 filled.taken within refused.0)

pub returns-in_err-fill-clause-takes : goal.returns-in_err-fill-clause-takes
returns-in_err-fill-clause-takes g c =
    let told = c.in_ok-length.ensures.captured in
    let header = IsHeaderTaken-from_fill c.args.self.now.format _ _ c.fill.new.buf c.in_ok-count.count c.in_ok-length.length c.fill.auto.buf c.in_ok-count.ensures.taken told.1 told.2 told.3 in
    let fewer = c.in_err-fill.ensures.fewer in
    Takes-behind _ _ _ _ _ _ _ _ _ told.0 header fewer.given (omega (arith, fewer.within)) (λ _. fewer.within)

pub returns-then-branch-length-clause-takes : goal.returns-then-branch-length-clause-takes
returns-then-branch-length-clause-takes g c =
    let told = c.in_ok-length.ensures.captured in
    let header = IsHeaderTaken-from_fill c.args.self.now.format _ _ c.fill.new.buf c.in_ok-count.count c.in_ok-length.length c.fill.auto.buf c.in_ok-count.ensures.taken told.1 told.2 told.3 in
    let filled = c.in_ok-fill.ensures in
    let count = filled.count in
    let cut = c.if-branch-length.true in
    Takes-behind _ _ _ _ _ _ _ _ _ told.0 header filled.taken (omega arith) (λ _. omega arith)

pub returns-clause-takes : goal.returns-clause-takes
returns-clause-takes g c =
    let told = c.in_ok-length.ensures.captured in
    let header = IsHeaderTaken-from_fill c.args.self.now.format _ _ c.fill.new.buf c.in_ok-count.count c.in_ok-length.length c.fill.auto.buf c.in_ok-count.ensures.taken told.1 told.2 told.3 in
    let filled = c.in_ok-fill.ensures in
    let count = filled.count in
    Takes-behind _ _ _ _ _ _ _ _ _ told.0 header filled.taken (omega (arith, filled.within)) (λ failed. cc)
