use Rattle.std.proofs.Common.{◌≤◌, ◌∙◌, length, subst, sym, arith}
use Rattle.std.proofs.lemmas.Grind.{common_steps}
use Rattle.std.specs.Io.KnownBytes.{Consumes}
use Rattle.scr_pcap.proofs.Taking.{Consumes-then, take-put_mid_front}
use Rattle.scr_pcap.proofs.filling.fill_by_reads.Goals as goal

pub loop-count-preserved : goal.loop-count-preserved
loop-count-preserved g c =
    let source = g.S.Source in
    let more = c.in_ok-more.ensures in
    let kept = c.read.auto.buf in
    let within : c.loop-count.count ≤ length c.loop-count.buf = omega arith in
    let enough : c.in_ok-more.more ≤ length c.read.new.buf = grind (arith, common_steps) in
    let front = take-put_mid_front c.loop-count.count _ c.in_ok-more.more c.loop-count.buf c.read.new.buf within enough in (
      grind (arith, common_steps),
      subst (Consumes (source.left c.args.source.now) (source.left c.read.new.self)) (sym front)
          (Consumes-then _ _ _ _ _ c.loop-count.invariant.1 more.bytes.0),
      more.cause.ok ∙ c.loop-count.invariant.2,
    )
