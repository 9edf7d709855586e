use Rattle.std.proofs.Common.{◌+◌, ◌≤◌, ℕ, List, length, take, drop, subst, sym, ap, ◌∙◌}
use Rattle.scr_pcap.proofs.Parts.{slice_range-part}
use Rattle.scr_pcap.proofs.frame.FrameBuf.keep.Goals as goal

pub returns : goal.returns
returns c =
    let inside = c.self.inside in
    let place = c.args.place in
    let size = c.args.size in
    let within = subst (λ (xs : List ℕ). place + size ≤ length xs) (sym c.self.view_is) c.requires in
    slice_range-part inside.room.items inside.start inside.end place size within ∙ ap (λ (xs : List ℕ). take size (drop place xs)) c.self.view_is
