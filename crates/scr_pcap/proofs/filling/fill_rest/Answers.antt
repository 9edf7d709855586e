use Rattle.std.proofs.Common.{◌≤◌, List, ℕ, length, subst, sym, arith}
use Rattle.std.proofs.lemmas.Grind.{common_steps}
use Rattle.std.specs.Io.KnownBytes.{Consumes}
use Rattle.scr_pcap.proofs.Taking.{Consumes-then, take-put_mid_front}
use Rattle.scr_pcap.proofs.filling.fill_rest.Goals as goal

pub returns-clause-taken : goal.returns-clause-taken
returns-clause-taken g c = λ front before.
    let source = g.S.Source in
    let within : c.args.from ≤ length c.args.buf.now = c.requires in
    let enough : c.in_ok-count.count ≤ length c.fill_by_reads.new.buf = grind (arith, common_steps) in
    let put = take-put_mid_front c.args.from _ c.in_ok-count.count c.args.buf.now c.fill_by_reads.new.buf within enough in
    subst (λ (x : List ℕ). Consumes front (source.left c.fill_by_reads.new.source) x) (sym put)
    (Consumes-then front _ _ _ _ before c.in_ok-count.ensures.taken)
