use Rattle.std.proofs.Common.{◌≡◌, ◌+◌, ◌<◌, length, arith, ap, ◌∙◌}
use Rattle.std.proofs.lemmas.List.{length_push}
use Rattle.scr_replica.specs.declared.entry.Entry.TheVariants.{Lost}
use Rattle.scr_replica.proofs.Lost.{lost_more, lost_all}
use Rattle.scr_replica.proofs.known.Known.lose.Goals as goal

pub loop-self-preserved : goal.loop-self-preserved
loop-self-preserved c =
    let was = c.loop-self.invariant in
    let items = c.loop-self.self-inside.entries.items in
    let pushed = c.in_ok-push.ensures.items in
    let below : length items < c.args.number = omega (arith, c.loop-self-test.true, c.len.ensures, c.loop-self.self-inside.entries.ok.0) in
    let more : length c.push.new.self.items ≡ length items + 1 = ap length pushed ∙ length_push items Lost in
    record {
      lost = lost_more c.args.self.now items c.push.new.self.items was.lost was.more pushed;
      more = omega (arith, was.more);
      few = omega (arith, was.few);
    }

pub returns : goal.returns
returns c =
    let was = c.loop-self.invariant in
    lost_all c.args.number c.args.self.now c.loop-self.self-inside.entries.items was.lost
    (omega (arith, c.loop-self-test.false, c.len.ensures, c.loop-self.self-inside.entries.ok.0)) was.few was.more
