use Rattle.std.proofs.Common.{◌≡◌, ◌≤◌, ◌++◌, ℕ, List, length, take, drop, subst, sym, ap, ◌∙◌, arith}
use Rattle.std.proofs.lemmas.Grind.{common_steps}
use Rattle.std.proofs.lemmas.List.{take_at}
use Rattle.std.specs.Io.KnownBytes.{Consumes, prepend_known}
use Rattle.scr_pcap.proofs.Taking.{Consumes-ahead, fewer_ahead_on_err, take-put_mid_front}
use Rattle.scr_pcap.proofs.filling.fill_behind.Goals as goal

pub returns-in_err-count-clause-fewer : goal.returns-in_err-count-clause-fewer
returns-in_err-count-clause-fewer g c =
    let kept = c.copy_from_slice.auto.self in
    let first = c.args.first.now in
    let after = c.copy_from_slice.ensures.after in
    let fewer = c.in_err-count.ensures.fewer in
    fewer_ahead_on_err _ first _ (length c.args.buf.now) _ _ fewer (grind (arith, common_steps))

pub returns-clause-taken : goal.returns-clause-taken
returns-clause-taken g c =
    let first = c.args.first.now in
    let source = g.S.Source in
    let front = c.copy_from_slice.new.self ++ drop (length first) c.args.buf.now in
    let kept = c.copy_from_slice.auto.self in
    let same : c.copy_from_slice.new.self ≡ first = c.copy_from_slice.ensures.after in
    let within : length first ≤ length front = grind (arith, common_steps) in
    let enough : c.in_ok-count.count ≤ length c.fill.new.buf = grind (arith, common_steps) in
    let ahead : take (length first) front ≡ first = take_at c.copy_from_slice.new.self (drop (length first) c.args.buf.now) _ (ap length same) ∙ same in
    let put = take-put_mid_front (length first) _ c.in_ok-count.count front c.fill.new.buf within enough in
    subst (λ (x : List ℕ). Consumes (prepend_known first (source.left c.args.source.now)) (source.left c.fill.new.source) x)
    (sym (put ∙ ap (λ (x : List ℕ). x ++ take c.in_ok-count.count c.fill.new.buf) ahead))
    (Consumes-ahead first _ _ _ c.in_ok-count.ensures.taken)
