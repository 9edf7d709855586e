use Rattle.std.proofs.Common.{◌≡◌, sym, subst}
use Rattle.scr_replica.specs.Heard.{decided_with}
use Rattle.scr_replica.proofs.Saying.{hears}
use Rattle.scr_replica.proofs.heard.Heard.take.Goals as goal

pub returns : goal.returns
returns c = λ plan core m is_plan same shown heard.
    hears plan core m is_plan c.args.packet c.args.self.now
    (record { packet = c.replace.new.dest; decided = c.decided_by-self.result; taken = c.max-self.result; whole = c.is_end-self.result })
    c.said_by-kind.result.0 c.said_by-kind.result.1 shown heard c.said_by-kind.ensures
    (λ message kind number.
    subst (λ (h : _). c.decided_by-self.result ≡ decided_with h c.args.self.now.decided c.args.self.now.taken message) (sym same)
    (c.decided_by-self.ensures message kind number))
    c.max-self.ensures c.is_end-self.ensures.end c.is_end-self.ensures.other c.replace.ensures.after
