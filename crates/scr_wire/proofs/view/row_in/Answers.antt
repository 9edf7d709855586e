use Rattle.scr_wire.specs.Reading.{row_in}
use Rattle.scr_wire.proofs.view.row_in.Goals as goal

pub returns : goal.returns
unfolding row_in
returns c = cc
