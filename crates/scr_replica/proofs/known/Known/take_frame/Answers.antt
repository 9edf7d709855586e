use Rattle.std.proofs.Common.{◌≡◌, ◌+◌, ◌-◌, ◌<◌, ℕ, [], ◌∷◌, ◌++◌, length, arith, refl, ap, sym, subst, ◌∙◌}
use Rattle.std.proofs.lemmas.List.{length_push}
use Rattle.scr_wire.specs.Spelling.{number_of, rows_of}
use Rattle.scr_replica.specs.Entries.{entry_of, with_lost}
use Rattle.scr_replica.proofs.Lost.{length-with_lost}
use Rattle.scr_replica.proofs.Knowing.{IsFinal, final_push}
use Rattle.scr_replica.proofs.Frames.{final_before, few_before, row_of_earlier, row_of_own, knows_all}
use Rattle.scr_replica.proofs.known.Known.take_frame.Goals as goal
use Rattle.scr_replica.proofs.known.Known.take_frame.Goals.{then-i-from, else-i-from}

pub loop-i-init : goal.loop-i-init
loop-i-init c =
    let message = c.args.frame.now in
    let start : ℕ = number_of message - length (rows_of message) in
    let before : c.number.result - c.from.result ≡ start = omega (arith, c.number.ensures, c.from.ensures, c.count-count.ensures) in
    let items : c.self.inside.entries.items ≡ with_lost start c.args.self.now =
    c.self.view_is ∙ c.in_ok-lose.ensures ∙ ap (λ (k : ℕ). with_lost k c.args.self.now) before in
    let len : length c.self.inside.entries.items ≡ length (with_lost start c.args.self.now) = ap length items in
    let all = length-with_lost start c.args.self.now in
    let counted : c.len.result ≡ length c.self.inside.entries.items = omega (arith, c.len.ensures, c.self.inside.entries.ok.0) in
    record {
      here = omega (arith, before, len, all, counted);
      more = omega (arith, before, len, all, counted);
      final = λ plan core frame knows. subst (IsFinal plan core) (sym items) (final_before plan core message frame c.args.self.now knows);
    }

pub loop-i-preserved : goal.loop-i-preserved
loop-i-preserved c =
    let message = c.args.frame.now in
    let start : ℕ = number_of message - length (rows_of message) in
    let before : c.number.result - c.from.result ≡ start = omega (arith, c.number.ensures, c.from.ensures, c.count-count.ensures) in
    let was = c.loop-i.invariant in
    let items = c.loop-i.self-inside.entries.items in
    let i : ℕ = c.loop-i.i in
    let entry = c.if-i-from.entry in
    let row = c.row-row.result in
    let p : ℕ = start + i + 1 in
    let pushed : c.push.new.self.items ≡ items ++ entry ∷ [] = c.in_ok-push.ensures.items in
    let more : length c.push.new.self.items ≡ length items + 1 = ap length pushed ∙ length_push items entry in
    let next : length items + 1 ≡ p = omega (arith, was.here, before) in
    let from = c.loop-i.auto.i in
    let above : length c.args.self.now < p = omega (arith, was.more, before, from) in
    record {
      here = omega (arith, more, was.here);
      more = was.more;
      final = λ plan core frame knows.
          let final = was.final plan core frame knows in
          let same : entry ≡ entry_of plan core p =
          elim c.if-i-from.branch [
            | then-i-from w ↦
                w.entry-is
                ∙ row_of_earlier plan core message frame i p row c.row-row.ensures refl (length c.args.self.now) knows.own above
                (omega (arith, w.if-i-from.true, c.from-in-loop-i.ensures, c.count-count.ensures))
            | else-i-from w ↦
                w.entry-is
                ∙ row_of_own plan core message frame i p row c.row-row.ensures refl
                (omega (arith, w.if-i-from.false, c.from-in-loop-i.ensures, c.count-count.ensures))
          ] in
          subst (IsFinal plan core) (sym pushed) (final_push plan core items entry p final next same);
    }

pub returns : goal.returns
returns c =
    let message = c.args.frame.now in
    let start : ℕ = number_of message - length (rows_of message) in
    let before : c.number.result - c.from.result ≡ start = omega (arith, c.number.ensures, c.from.ensures, c.count-count.ensures) in
    let items : c.self.inside.entries.items ≡ with_lost start c.args.self.now =
    c.self.view_is ∙ c.in_ok-lose.ensures ∙ ap (λ (k : ℕ). with_lost k c.args.self.now) before in
    let len : length c.self.inside.entries.items ≡ length (with_lost start c.args.self.now) = ap length items in
    let counted : c.len.result ≡ length c.self.inside.entries.items = omega (arith, c.len.ensures, c.self.inside.entries.ok.0) in
    let was = c.loop-i.invariant in
    let few = c.requires in
    λ plan core frame knows.
    let within = few_before plan core message frame c.args.self.now knows in
    let end = c.loop-i.auto.i-end in
    let over = c.loop-i-test.false in
    knows_all plan core message frame c.loop-i.self-inside.entries.items (was.final plan core frame knows)
    (omega (arith, was.here, before, len, counted, within, end, over, few, c.from-i-end.ensures, c.count-count.ensures))
