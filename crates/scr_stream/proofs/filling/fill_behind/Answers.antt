use Rattle.std.proofs.Common.{◌≡◌, ◌≤◌, ◌++◌, length, take, drop, ap, ◌∙◌, arith}
use Rattle.std.proofs.lemmas.Grind.{common_steps}
use Rattle.std.proofs.lemmas.List.{take_at}
use Rattle.scr_pcap.proofs.Taking.{take-put_mid_front}
use Rattle.scr_stream.proofs.filling.fill_behind.Goals as goal

pub returns-clause-filled : goal.returns-clause-filled
returns-clause-filled g c =
    let first = c.args.first.now in
    let front = c.copy_from_slice.new.self ++ drop (length first) c.args.buffer.now in
    let kept = c.copy_from_slice.auto.self in
    let same : c.copy_from_slice.new.self ≡ first = c.copy_from_slice.ensures.after in
    let within : length first ≤ length front = grind (arith, common_steps) in
    let enough : c.in_ok-count.count ≤ length c.fill.new.buf = grind (arith, common_steps) in
    let ahead : take (length first) front ≡ first = take_at c.copy_from_slice.new.self (drop (length first) c.args.buffer.now) _ (ap length same) ∙ same in
    let put = take-put_mid_front (length first) _ c.in_ok-count.count front c.fill.new.buf within enough in
    record {
      content = take c.in_ok-count.count c.fill.new.buf;
      parts = put ∙ ap (λ (x : _). x ++ take c.in_ok-count.count c.fill.new.buf) ahead;
      taken = c.in_ok-count.ensures.taken;
    }
