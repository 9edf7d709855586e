-- What a step of a feed tells, over the feed that it began with.
use Rattle.std.proofs.Common.{◌≡◌, ℕ, zero, suc, ◌+◌, ◌<◌, true, false, List, [], ◌∷◌, length, get_or, Result, Ok, Err, refl, ap, ◌∙◌, subst, inl, inr, arith}
use Rattle.std.specs.Prelude.{OnOk, OnErr, is_err}
use Rattle.scr_lane.specs.Messages.{Route}
use Rattle.scr_lane.specs.Ends.{End, HasLooked, FoundNoRoom}
use Rattle.scr_feed.specs.declared.step.Step.TheVariants.{Sent, Full}
use Rattle.scr_feed.specs.Left.{Left}
use Rattle.scr_feed.specs.Feeding.{Feeding, IsFeeding}
use Rattle.scr_feed.specs.Steps.{HasSent, Changes, StepTells}
use Rattle.scr_feed.proofs.Feeds.{with_end}

same_there : {X : Type 0} (xs : List X) (n : ℕ) (a b : X) → n < length xs → get_or xs n a ≡ get_or xs n b
same_there [] n a b within = absurd (omega arith)
same_there (x ∷ xs) zero a b within = refl
same_there (x ∷ xs) (suc n) a b within = same_there xs n a b (omega arith)

pub on_ok : {X Y : Type 0} (r : Result X Y) (P : Type 0) → is_err r ≡ false → OnOk r P → P
on_ok (Ok x) P is on = on
on_ok (Err y) P is on = absurd (cc)

pub on_err : {X Y : Type 0} (r : Result X Y) (P : Type 0) → is_err r ≡ true → OnErr r P → P
on_err (Ok x) P is on = absurd (cc)
on_err (Err y) P is on = on

looked_count : (before looked : End Route) → HasLooked before looked → (looked.about ≡ before.about) × (looked.count ≡ before.count)
looked_count before looked (inl same) = (ap (λ (e : End Route). e.about) same, ap (λ (e : End Route). e.count) same)
looked_count before looked (inr more) = (ap (λ (e : End Route). e.about) more.1, ap (λ (e : End Route). e.count) more.1)

-- one packet was sent
pub sent_one : (before after : End Route) → HasSent before after → (after.about ≡ before.about) × (after.count ≡ before.count + 1)
sent_one before after sent =
    let counts = looked_count before sent.0 sent.1 in
    let is = sent.3 in
    (ap (λ (e : End Route). e.about) is ∙ counts.0, ap (λ (e : End Route). e.count) is ∙ ap (λ (k : ℕ). k + 1) counts.1)

-- the end of one lane has changed
changes : (how : End Route → End Route → Type 0) (f : Feeding) (core : ℕ) (end after : End Route) (left : Left) → IsFeeding f → core < f.plan.cores
    → end ≡ get_or f.ends core end → how end after → Changes how core f (with_end f core after left)
changes how f core end after left is below stood h =
    let within : core < length f.ends = let all = is.each_core in omega arith in
    record {
      within = below;
      end = after;
      ends = refl;
      change = λ before. subst (λ (e : End Route). how e after) (stood ∙ same_there f.ends core end before within) h;
    }

pub sent_tells : (f old : Feeding) (core : ℕ) (end after : End Route) (left : Left) → f ≡ old → IsFeeding f → core < f.plan.cores
    → end ≡ get_or f.ends core end → HasSent end after → StepTells old (with_end f core after left) (Sent core)
sent_tells f old core end after left same is below stood sent =
    subst (λ (o : Feeding). StepTells o (with_end f core after left) (Sent core)) same (refl, changes HasSent f core end after left is below stood sent)

pub full_tells : (f old : Feeding) (core : ℕ) (end after : End Route) (left : Left) → f ≡ old → IsFeeding f → left ≡ f.left → core < f.plan.cores
    → end ≡ get_or f.ends core end → FoundNoRoom end after → StepTells old (with_end f core after left) (Full core)
full_tells f old core end after left same is left_same below stood found =
    subst (λ (o : Feeding). StepTells o (with_end f core after left) (Full core)) same
    (ap (with_end f core after) left_same, changes FoundNoRoom f core end after left is below stood found)
