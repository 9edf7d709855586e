-- Whether a frame is delivered, judged by the link alone.
use Rattle.std.proofs.Common.{◌≡◌, ◌≢◌, ℕ, ◌+◌, ◌<◌, ◌≤◌, Bool, true, false, cond, not, Option, Some, None, refl, sym, ap, subst, ◌∙◌, arith}
use Rattle.std.proofs.lemmas.Bool.{false_from_ne_true}
use Rattle.scr_plan.specs.Delays.{greatest_delay}
use Rattle.scr_plan.specs.Link.{Link, loses, delays_by}
use Rattle.scr_plan.specs.Plan.{Plan, HasParts, frame_count}
use Rattle.scr_plan.specs.Order.{sends, comes_at}
use Rattle.scr_plan.specs.Delivered.{delivers}
use Rattle.scr_plan.specs.Overtaken.{IsAhead}
use Rattle.scr_plan.proofs.Steps.{sends-within, sends-free}
use Rattle.scr_plan.proofs.Delivering.{delivered-unsent}
use Rattle.scr_plan.proofs.InTime.{delivers-prompt, delivers-ahead, ahead-delivers}

-- how late a frame comes, where it arrives
pub late-some : (b : Bool) (d delay : ℕ) (o : Option ℕ) → o ≡ cond b None (Some d) → o ≡ Some delay → (b ≡ false) × (delay ≡ d)
late-some true d delay o is some = absurd cc
late-some false d delay o is some = (refl, cc)

pub late-none : (b : Bool) (d : ℕ) (o : Option ℕ) → o ≡ cond b None (Some d) → o ≡ None → b ≡ true
late-none true d o is none = refl
late-none false d o is none = absurd cc

pub turned : (r d : Bool) → (r ≡ true → d ≡ false) → (r ≢ true → d ≡ true) → not r ≡ d
turned true d p q = sym (p refl)
turned false d p q = sym (q (λ e. absurd cc))

module _ (plan : Plan) (link : Link) (k t n : ℕ) (parts : HasParts plan link k t) where
  pub judged-lost : loses link n ≡ true → delivers plan n ≡ false
  judged-lost lost =
      let here : loses plan.link n ≡ true = ap (λ (it : Link). loses it n) parts.link_is ∙ lost in
      delivered-unsent plan n
      (false_from_ne_true (sends plan n) (λ yes. let free = (sends-within plan n yes).2 in cc))

  module _ (from : 1 ≤ n) (to : n ≤ t) (arrives : loses link n ≡ false) (near : delays_by link n ≤ greatest_delay) where
    is-sent : sends plan n ≡ true
    is-sent =
        let frames = parts.frames_are in
        sends-free plan n from (omega arith) (ap (λ (it : Link). loses it n) parts.link_is ∙ arrives)

    comes : comes_at plan n ≡ n + delays_by link n
    comes = ap (λ (it : Link). n + delays_by it n) parts.link_is

    few : comes_at plan n ≤ frame_count plan + greatest_delay
    few = let frames = parts.frames_are in omega (arith, comes)

    pub judged-prompt : delays_by link n ≡ 0 → delivers plan n ≡ true
    judged-prompt prompt = delivers-prompt plan n is-sent few (omega (arith, comes))

    pub judged-ahead : (step : ℕ) → step ≡ n + delays_by link n → n < step → IsAhead plan n step → delivers plan n ≡ true
    judged-ahead step is late ahead =
        let at : step ≡ comes_at plan n = is ∙ sym comes in
        delivers-ahead plan n is-sent few (omega (arith, at)) (subst (IsAhead plan n) at ahead)

    pub judged-behind : (step : ℕ) → step ≡ n + delays_by link n → n < step → (IsAhead plan n step → ⊥) → delivers plan n ≡ false
    judged-behind step is late behind =
        let at : step ≡ comes_at plan n = is ∙ sym comes in
        false_from_ne_true (delivers plan n)
        (λ yes. behind (subst (IsAhead plan n) (sym at) (ahead-delivers plan n is-sent few (omega (arith, at)) yes)))
