use Rattle.scr_pcap.proofs.Told.{IsReadInFront-from_fill}
use Rattle.scr_stream.proofs.HeaderRead.{refusal-told, shape-told}
use Rattle.scr_stream.proofs.read.take_shape.Goals as goal

pub returns-clause-shape : goal.returns-clause-shape
returns-clause-shape g c =
    let filled = c.in_ok-count.ensures in
    let read = IsReadInFront-from_fill _ _ c.fill.new.buf c.in_ok-count.count 8 c.fill.auto.buf filled.within filled.taken filled.end in
    shape-told _ _ _ _ _ read c.shape_of.ensures.answer

pub returns-clause-refused : goal.returns-clause-refused
returns-clause-refused g c =
    let filled = c.in_ok-count.ensures in
    let read = IsReadInFront-from_fill _ _ c.fill.new.buf c.in_ok-count.count 8 c.fill.auto.buf filled.within filled.taken filled.end in
    refusal-told _ _ _ _ _ read c.shape_of.ensures.answer
