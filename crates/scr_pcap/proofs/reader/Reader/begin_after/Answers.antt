use Rattle.std.proofs.lemmas.Result.{err_from_is_err_and}
use Rattle.scr_pcap.proofs.Told.{IsReadInFront-from_fill, header-refused, header-taken}
use Rattle.scr_pcap.proofs.reader.Reader.begin_after.Goals as goal

pub returns-in_err-header_of-clause-refused : goal.returns-in_err-header_of-clause-refused
returns-in_err-header_of-clause-refused g c =
    let filled = c.in_ok-count.ensures in
    let read = IsReadInFront-from_fill _ _ c.fill_behind.new.buf c.in_ok-count.count 24 c.fill_behind.auto.buf filled.within filled.taken filled.end in
    let p = err_from_is_err_and c.from_residual-in_err-header_of.result c.from_residual-in_err-header_of.ensures.1 in
    rw (p.1, p.2) (header-refused _ _ _ _ read c.in_err-header_of.ensures.value)

pub returns-clause-header : goal.returns-clause-header
returns-clause-header g c =
    let filled = c.in_ok-count.ensures in
    let read = IsReadInFront-from_fill _ _ c.fill_behind.new.buf c.in_ok-count.count 24 c.fill_behind.auto.buf filled.within filled.taken filled.end in
    header-taken _ _ _ _ read c.in_ok-header_of.ensures.value
