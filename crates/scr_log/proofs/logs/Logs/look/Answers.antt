use Rattle.std.proofs.Common.{◌≡◌, ◌≢◌, ◌<◌, ℕ, ◌+◌, ◌-◌, ◌*◌, ap, sym, ◌∙◌, subst, arith}
use Rattle.scr_plan.specs.Plan.{Plan}
use Rattle.scr_log.specs.declared.look.Look.{Look}
use Rattle.scr_log.specs.declared.view.Noted.TheVariants.{Tag}
use Rattle.scr_log.specs.Layout.{place, tag_offset}
use Rattle.scr_log.specs.Passes.{LogsOf, OfCore, looked}
use Rattle.scr_log.specs.Seats.{core_seen}
use Rattle.scr_log.specs.Steps.{Mine, LoadsTagOf}
use Rattle.scr_log.specs.Answers.{LookTells}
use Rattle.scr_log.proofs.TagLoads.{loads_tag}
use Rattle.scr_log.proofs.Calls.{place-from_zero}
use Rattle.scr_log.proofs.Looking.{reads, seen_after, tells_lost, tells_not_yet}
use Rattle.scr_log.proofs.logs.Logs.look.Goals as goal
use Rattle.scr_log.proofs.logs.Logs.look.Goals.{then-tag-number-2, else-tag-number-2}

pub load-tag-requires : goal.load-tag-requires
load-tag-requires c =
    let same = ap (λ (p : OfCore). p.logs) c.pass.view_is ∙ c.requires.current.of_these ∙ sym c.self.view_is in
    let published : c.pass.inside.seat.me.0.published ≡ c.args.pass.now.published = ap (λ (p : OfCore). p.published) c.pass.view_is in
    let finished : c.pass.inside.seat.me.0.finished ≡ c.args.pass.now.finished = ap (λ (p : OfCore). p.finished) c.pass.view_is in
    let own : c.pass.inside.core ≡ c.args.pass.now.core = ap (λ (p : OfCore). p.core) c.pass.view_is in
    let current = c.requires.current in
    let all = c.tag_place-at.ensures.within in
    let within : c.tag_place-at.result < c.args.self.now.table.words = omega arith in
    let slots : ℕ = c.self.inside.table.shared.key.slots in (
      ap (λ (l : LogsOf). l.table) same,
      subst (λ (l : LogsOf). c.tag_place-at.result < l.table.words) (sym c.self.view_is) within,
      loads_tag c.self.inside.table.shared.key.plan.value slots _ _ _ c.pass.inside.core c.args.core _
          c.pass.invariant.its_core (λ it. c.requires.other (it ∙ own))
          (subst (λ (l : LogsOf). c.args.core < l.plan.cores) (sym c.self.view_is) c.requires.core) (omega arith)
          (c.tag_place-at.ensures.place
          ∙ ap (λ (l : LogsOf). place l.slots c.args.core (tag_offset l.slots (c.args.p - 1))) (sym c.self.view_is)
          ∙ place-from_zero slots c.args.core c.args.p c.pass.inside.seat.me.0.finished (omega arith)),
    )

pub read_row-requires-clause-reading : goal.read_row-requires-clause-reading
read_row-requires-clause-reading c =
    let me : Mine = c.pass.inside.seat.me in
    let core : ℕ = c.args.core in
    let p : ℕ = c.args.p in
    let n : ℕ = c.load-tag.result in
    let of_these = ap (λ (q : OfCore). q.logs) c.pass.view_is ∙ c.requires.current.of_these in
    let plan : me.0.plan ≡ c.args.self.now.plan = ap (λ (l : LogsOf). l.plan) of_these in
    let slots : me.0.slots ≡ c.args.self.now.slots = ap (λ (l : LogsOf). l.slots) of_these in
    let finished : me.0.finished ≡ c.args.pass.now.finished = ap (λ (q : OfCore). q.finished) c.pass.view_is in
    let at_hand = c.requires.current in
    let current : p ≡ me.0.finished + 1 = omega arith in
    let loaded : LoadsTagOf me core n c.load-tag.new.seat.me = c.load-tag.ensures.2 core
    (subst (λ (q : Plan). core < q.cores) (sym plan) c.requires.core)
    (c.tag_place-at.ensures.place
    ∙ ap (λ (k : ℕ). place k core (tag_offset k (p - 1))) (sym slots)
    ∙ place-from_zero me.0.slots core p me.0.finished current) in
    let number = c.from-number.ensures in
    let tagged = c.if-tag-number.true in
    reads c.args.self.now c.load-tag.new.seat.table_id me c.load-tag.new.seat.me c.pass.inside.core core p n
    (c.load-tag.ensures.0 ∙ ap (λ (l : LogsOf). l.table) of_these) plan slots c.pass.invariant.its_core current loaded (omega arith)

pub returns-after-tag-number-2 : goal.returns-after-tag-number-2
returns-after-tag-number-2 c =
    let me : Mine = c.pass.inside.seat.me in
    let core : ℕ = c.args.core in
    let p : ℕ = c.args.p in
    let n : ℕ = c.load-tag.result in
    let of_these = ap (λ (q : OfCore). q.logs) c.pass.view_is ∙ c.requires.current.of_these in
    let plan : me.0.plan ≡ c.args.self.now.plan = ap (λ (l : LogsOf). l.plan) of_these in
    let slots : me.0.slots ≡ c.args.self.now.slots = ap (λ (l : LogsOf). l.slots) of_these in
    let finished : me.0.finished ≡ c.args.pass.now.finished = ap (λ (q : OfCore). q.finished) c.pass.view_is in
    let at_hand = c.requires.current in
    let current : p ≡ me.0.finished + 1 = omega arith in
    let loaded : LoadsTagOf me core n c.load-tag.new.seat.me = c.load-tag.ensures.2 core
    (subst (λ (q : Plan). core < q.cores) (sym plan) c.requires.core)
    (c.tag_place-at.ensures.place
    ∙ ap (λ (k : ℕ). place k core (tag_offset k (p - 1))) (sym slots)
    ∙ place-from_zero me.0.slots core p me.0.finished current) in
    let number = c.from-number.ensures in
    let not_row : n ≢ 4 * p + 1 = λ is. c.if-tag-number.false (omega arith) in
    let seen = loaded.not_found (λ is. not_row (omega arith)) in (
      n,
      ap (λ (m : Mine). core_seen c.load-tag.new.seat.table_id m.0 c.pass.inside.core) seen
          ∙ seen_after c.pass.inside.seat.table_id c.load-tag.new.seat.table_id me.0 c.pass.inside.core core p n c.load-tag.ensures.0 current
          ∙ ap (λ (q : OfCore). looked q (Tag core p n)) c.pass.view_is,
      elim c.if-tag-number-2.branch [
        | then-tag-number-2 w ↦
            let tagged = w.if-tag-number-2.true in
            subst (λ (l : Look). LookTells c.args.self.now.plan core p n l) (sym w.result-is)
            (tells_lost c.args.self.now.plan me c.load-tag.new.seat.me core p n plan current loaded (omega arith))
        | else-tag-number-2 w ↦
            subst (λ (l : Look). LookTells c.args.self.now.plan core p n l) (sym w.result-is)
            (tells_not_yet c.args.self.now.plan me c.load-tag.new.seat.me core p n current loaded not_row
            (λ is. w.if-tag-number-2.false (omega arith)))
      ],
    )
