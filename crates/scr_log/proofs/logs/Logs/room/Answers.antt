use Rattle.std.proofs.Common.{◌≡◌, ℕ, ◌+◌, ◌-◌, ap, sym, ◌∙◌, subst, arith, Some, None}
use Rattle.scr_log.specs.declared.room.Room.TheVariants.{NoRoom}
use Rattle.scr_log.specs.Passes.{LogsOf, OfCore, noted_finished}
use Rattle.scr_log.specs.Answers.{HasLoaded, RoomTells}
use Rattle.scr_log.proofs.Calls.{HasSearched, searched_own, searched_more, loaded_more, met_behind}
use Rattle.scr_log.proofs.logs.Logs.room.Goals as goal
use Rattle.scr_log.proofs.logs.Logs.room.Goals.{then-core-own+else-done-needed, else-core-own}
use Rattle.scr_log.proofs.logs.Logs.room.Goals.{else-loop-core-test, then-loop-core-test+then-core-own+then-done-needed}

pub loop-core-preserved : goal.loop-core-preserved
loop-core-preserved c =
    let old : OfCore = c.args.pass.now in
    let now : OfCore = c.loop-core.pass in
    let needed : ℕ = c.from-needed.result in
    let core : ℕ = c.loop-core.core in
    let own : c.pass.inside.core ≡ old.core = ap (λ (p : OfCore). p.core) c.pass.view_is in
    let cores : c.args.self.now.plan.cores ≡ old.logs.plan.cores = ap (λ (l : LogsOf). l.plan.cores) (sym c.requires.of_these) in
    let shared : c.self.inside.cores ≡ c.args.self.now.plan.cores = c.self.invariant.0 ∙ ap (λ (l : LogsOf). l.plan.cores) c.self.view_is in
    let below = c.loop-core-test.true in
    record {
      searched = elim c.if-core-own.branch [
        | then-core-own+else-done-needed w ↦
            let loaded = w.load_finished-done in
            subst (λ (z : OfCore × ℕ). HasSearched old z.0 needed z.1 (core + 1))
            (λ i. (sym (w.pass-is ∙ loaded.ensures.noted) i, sym (w.known-is ∙ w.min-known.ensures) i))
            (searched_more old now needed c.loop-core.known core loaded.result (loaded.ensures.each_core ∙ cores) (omega arith)
            w.if-done-needed.false c.loop-core.invariant.searched)
        | else-core-own w ↦
            subst (λ (z : OfCore × ℕ). HasSearched old z.0 needed z.1 (core + 1))
            (λ i. (sym w.pass-is i, sym w.known-is i))
            (searched_own old now needed c.loop-core.known core (w.if-core-own.false ∙ own) c.loop-core.invariant.searched)
      ];
      none_behind = c.loop-core.invariant.none_behind;
    }

pub returns-in-Some-clause-answer : goal.returns-in-Some-clause-answer
returns-in-Some-clause-answer c =
    let old : OfCore = c.args.pass.now in
    let now : OfCore = c.loop-core.pass in
    let needed : ℕ = c.from-needed.result in
    let core : ℕ = c.loop-core.core in
    let p : ℕ = c.args.p in
    let own : c.pass.inside.core ≡ old.core = ap (λ (q : OfCore). q.core) c.pass.view_is in
    let cores : c.args.self.now.plan.cores ≡ old.logs.plan.cores = ap (λ (l : LogsOf). l.plan.cores) (sym c.requires.of_these) in
    let shared : c.self.inside.cores ≡ c.args.self.now.plan.cores = c.self.invariant.0 ∙ ap (λ (l : LogsOf). l.plan.cores) c.self.view_is in
    let slots : c.self.inside.slots ≡ old.logs.slots =
    c.self.invariant.2 ∙ (ap (λ (l : LogsOf). l.slots) c.self.view_is ∙ ap (λ (l : LogsOf). l.slots) (sym c.requires.of_these)) in
    let is_needed : needed ≡ p - old.logs.slots = c.from-needed.ensures ∙ (c.saturating_sub.ensures ∙ ap (λ (n : ℕ). p - n) slots) in
    elim c.loop-core-test.branch [
      | else-loop-core-test w ↦
          let none : None ≡ Some (c.in-Some.core, c.in-Some.done) =
          sym (w.behind-is ∙ c.loop-core.invariant.none_behind) ∙ c.in-Some.is in
          absurd (cc)
      | then-loop-core-test+then-core-own+then-done-needed w ↦
          let loaded = w.load_finished-done in
          let below = w.loop-core-test.true in
          let both : Some (core, loaded.result) ≡ Some (c.in-Some.core, c.in-Some.done) = sym w.behind-is ∙ c.in-Some.is in
          let pair : (core, loaded.result) ≡ (c.in-Some.core, c.in-Some.done) = cc in
          let told : RoomTells old (noted_finished now core loaded.result) p (NoRoom core loaded.result) =
          met_behind old now core loaded.result p needed c.loop-core.invariant.searched.loaded (omega arith)
          (λ same. w.if-core-own.true (same ∙ sym own)) w.if-done-needed.true is_needed in
          let now_is = w.pass-is ∙ loaded.ensures.noted in
          subst (λ (z : ℕ × ℕ). RoomTells old c.loop-core-test.pass p (NoRoom z.0 z.1)) pair
          (subst (λ (pass : OfCore). RoomTells old pass p (NoRoom core loaded.result)) (sym now_is) told)
    ]

pub returns-in-Some-clause-loaded : goal.returns-in-Some-clause-loaded
returns-in-Some-clause-loaded c =
    let old : OfCore = c.args.pass.now in
    let now : OfCore = c.loop-core.pass in
    let core : ℕ = c.loop-core.core in
    let cores : c.args.self.now.plan.cores ≡ old.logs.plan.cores = ap (λ (l : LogsOf). l.plan.cores) (sym c.requires.of_these) in
    let shared : c.self.inside.cores ≡ c.args.self.now.plan.cores = c.self.invariant.0 ∙ ap (λ (l : LogsOf). l.plan.cores) c.self.view_is in
    elim c.loop-core-test.branch [
      | else-loop-core-test w ↦ subst (λ (pass : OfCore). HasLoaded old pass) (sym w.pass-is) c.loop-core.invariant.searched.loaded
      | then-loop-core-test+then-core-own+then-done-needed w ↦
          let loaded = w.load_finished-done in
          let below = w.loop-core-test.true in
          let each = loaded.ensures.each_core in
          subst (λ (pass : OfCore). HasLoaded old pass) (sym (w.pass-is ∙ loaded.ensures.noted))
          (loaded_more old now core loaded.result c.loop-core.invariant.searched.loaded (omega arith))
    ]
