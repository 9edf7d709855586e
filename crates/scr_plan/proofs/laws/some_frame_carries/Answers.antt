use Rattle.scr_plan.proofs.Packets.{Decides-kept, Decides-carried}
use Rattle.scr_plan.proofs.laws.some_frame_carries.Goals as goal

pub returns : goal.returns
returns c = record { kept = λ plan p. Decides-kept plan p; carried = λ plan core p. Decides-carried plan core p }
