use Rattle.scr_wire.specs.Spelling.{row_bytes}
use Rattle.scr_stream.proofs.format.row_bytes.Goals as goal

pub returns : goal.returns
unfolding row_bytes
returns c = c.write_u64_into.ensures
