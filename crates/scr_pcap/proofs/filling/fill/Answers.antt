use Rattle.std.proofs.Common.{◌≡◌, ◌≤◌, ◌-◌, length, take, arith}
use Rattle.std.proofs.lemmas.Grind.{common_steps}
use Rattle.std.proofs.lemmas.List.{length-take-le}
use Rattle.scr_pcap.proofs.Taking.{fewer_behind_on_err}
use Rattle.scr_pcap.proofs.filling.fill.Goals as goal

pub returns-clause-fewer : goal.returns-clause-fewer
returns-clause-fewer g c =
    let count = c.in_ok-count.count in
    let buf = c.read.new.buf in
    let same : length buf ≡ length c.args.buf.now = grind (arith, common_steps) in
    let within : count ≤ length buf = grind (arith, common_steps) in
    let all : length (take count buf) ≡ count = length-take-le count buf within in
    fewer_behind_on_err c.fill_rest.result (take count buf) (length buf - count) (length c.args.buf.now) _ _ _ c.in_ok-count.ensures.bytes.0 c.fill_rest.ensures.fewer (omega arith)
