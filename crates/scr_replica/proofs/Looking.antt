-- A turn that looks and waits: its looks are added behind those before it, and nothing else changes.
use Rattle.std.proofs.Common.{◌≡◌, ℕ, List, [], ◌∷◌, ◌++◌, inl, inr, arith, refl, sym, ap, subst, ◌∙◌, append_assoc}
use Rattle.std.proofs.lemmas.List.{append-nil}
use Rattle.scr_lane.specs.Messages.{Route}
use Rattle.scr_lane.specs.Ends.{End, HasLooked}
use Rattle.scr_log.specs.declared.view.Noted.{Noted}
use Rattle.scr_log.specs.declared.view.Noted.TheVariants.{Halt}
use Rattle.scr_log.specs.Passes.{OfCore, looked}
use Rattle.scr_log.specs.Answers.{EndsWith}
use Rattle.scr_replica.specs.declared.standing.Standing.TheVariants as standing
use Rattle.scr_replica.specs.declared.turn.Turn.TheVariants.{Waiting, Halted}
use Rattle.scr_replica.specs.declared.turn.Pending.{Pending}
use Rattle.scr_replica.specs.declared.turn.Pending.TheVariants.{Empty, NotYet, NoRoom}
use Rattle.scr_replica.specs.Replicas.{Replica}
use Rattle.scr_replica.specs.Turns.{HasMoreLooks, HasAdded, GoesOn, WaitsFor}
use Rattle.scr_replica.specs.Stages.{HasOnlyLooked, Rests}

-- looks are added behind those of another
pub more-looks : (a b d : OfCore) → HasMoreLooks a b → HasMoreLooks b d → HasMoreLooks a d
more-looks a b d ab bd = (ab.0 ++ bd.0, bd.1 ∙ ap (λ (xs : List Noted). xs ++ bd.0) ab.1 ∙ append_assoc a.looks ab.0 bd.0)

pub added-more : (a b d : OfCore) (look : Noted) → HasAdded a b look → HasMoreLooks b d → HasAdded a d look
added-more a b d look ab bd = (ab.0, ab.1 ++ bd.0, bd.1 ∙ ap (λ (xs : List Noted). xs ++ bd.0) ab.2 ∙ simp append_assoc)

pub ends-more : (a b d : OfCore) (look : Noted) → HasMoreLooks a b → d.looks ≡ b.looks ++ look ∷ [] → EndsWith a d look
ends-more a b d look ab bd = (ab.0, bd ∙ ap (λ (xs : List Noted). xs ++ look ∷ []) ab.1)

pub looked-lane : (old new : End Route) → HasLooked old new → new ≡ record old { looks = new.looks }
looked-lane old new (inl same) = same ∙ ap (λ (l : List ℕ). record old { looks = l }) (sym (ap (λ (e : End Route). e.looks) same))
looked-lane old new (inr found) =
    found.1 ∙ ap (λ (l : List ℕ). record old { looks = l }) (sym (ap (λ (e : End Route). e.looks) found.1))

module _ {State : Type 0} where
  -- nothing was looked at
  pub looked-not : (it : Replica State) → HasOnlyLooked it it
  looked-not it = record {
    lane = refl;
    pass = refl;
    looks = ([], sym (append-nil it.pass.looks));
    state = refl;
    counts = refl;
    lost_to = refl;
    standing = refl;
  }

  -- one look
  pub looked-one : (it : Replica State) (look : Noted) → HasOnlyLooked it (record it { pass = looked it.pass look })
  looked-one it look = record {
    lane = refl;
    pass = refl;
    looks = (look ∷ [], refl);
    state = refl;
    counts = refl;
    lost_to = refl;
    standing = refl;
  }

  -- a turn that has only looked goes on
  pub goes-looked : (old mid : Replica State) → HasOnlyLooked old mid → GoesOn old mid
  goes-looked old mid it =
      let count = ap (λ (e : End Route). e.count) it.lane in
      let published = ap (λ (p : OfCore). p.published) it.pass in
      let finished = ap (λ (p : OfCore). p.finished) it.pass in
      record {
        lane = it.lane ∙ ap (λ (n : ℕ). record old.lane { count = n; looks = mid.lane.looks }) (sym count);
        pass =
            it.pass
            ∙ ap (λ (n : ℕ). record old.pass { published = n; noted = mid.pass.noted; looks = mid.pass.looks }) (sym published)
            ∙ ap (λ (n : ℕ). record old.pass { published = mid.pass.published; finished = n; noted = mid.pass.noted; looks = mid.pass.looks }) (sym finished);
        looks = it.looks;
        taken = omega arith;
        published = omega arith;
        finished = omega arith;
        one = omega arith;
      }

  -- a wait is over or goes on, where the halt word was looked at last
  module _ (before mid : Replica State) (has : HasOnlyLooked before mid) (running : mid.standing ≡ standing.Running) (value : ℕ) where
    abbrev pub with_halt : Replica State
    with_halt = record mid { pass = looked mid.pass (Halt value) }

    more-halt : HasMoreLooks mid.pass (looked mid.pass (Halt value))
    more-halt = (Halt value ∷ [], refl)

    looks-on : HasOnlyLooked before with_halt
    looks-on = record {
      lane = has.lane;
      pass = ap (λ (p : OfCore). looked p (Halt value)) has.pass;
      looks = more-looks before.pass mid.pass (looked mid.pass (Halt value)) has.looks more-halt;
      state = has.state;
      counts = has.counts;
      lost_to = has.lost_to;
      standing = has.standing;
    }

    pub waits-on : (pending : Pending) → WaitsFor before mid pending → Rests before with_halt (Waiting pending)
    waits-on pending waits = record {
      state = has.state;
      finished = ap (λ (p : OfCore). p.finished) has.pass;
      none = refl;
      tells = record {
        goes_on = goes-looked before with_halt looks-on;
        running = λ was. (running, by pending waits);
        stopped = λ not. absurd (not (sym has.standing ∙ running));
      };
    }
      where
        by : (pending : Pending) → WaitsFor before mid pending → WaitsFor before with_halt pending
        by Empty w = w
        by (NotYet core tag) w = (w.0, w.1, w.2, w.3, w.4, added-more before.pass mid.pass (looked mid.pass (Halt value)) _ w.5 more-halt)
        by (NoRoom core done) w = (w.0, w.1, w.2, w.3, added-more before.pass mid.pass (looked mid.pass (Halt value)) _ w.4 more-halt)

    pub waits-halted : value ≡ 1 → Rests before (record with_halt { standing = standing.Halted }) Halted
    waits-halted one = record {
      state = has.state;
      finished = ap (λ (p : OfCore). p.finished) has.pass;
      none = refl;
      tells = record {
        goes_on = record {
          lane = on.lane;
          pass = on.pass;
          looks = on.looks;
          taken = on.taken;
          published = on.published;
          finished = on.finished;
          one = on.one;
        };
        running = λ was. (refl, subst (λ (v : ℕ). EndsWith before.pass (looked mid.pass (Halt value)) (Halt v)) one (ends-more before.pass mid.pass (looked mid.pass (Halt value)) (Halt value) has.looks refl));
        stopped = λ not. absurd (not (sym has.standing ∙ running));
      };
    }
      where
        on : GoesOn before with_halt
        on = goes-looked before with_halt looks-on
