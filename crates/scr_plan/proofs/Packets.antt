-- Who carries what, and which packets are kept.
use Rattle.std.proofs.Common.{◌≡◌, ℕ, ◌+◌, ◌<◌, ◌≤◌, Bool, true, false, ◌&&◌, arith, refl}
use Rattle.std.specs.List.{list_any, range_with_len}
use Rattle.std.specs.Bool.{Decides}
use Rattle.std.proofs.lemmas.Bool.{false_from_ne_true}
use Rattle.std.proofs.lemmas.Bool.Decides.{nat_tests, Decides-like, Decides-and}
use Rattle.scr_plan.specs.Plan.{Plan, IsPlan, frame_count}
use Rattle.scr_plan.specs.Delivered.{delivers, delivers_to, core_number}
use Rattle.scr_plan.specs.Kept.{Carries, IsKept, IsCarried, carries, keeps, carries_to}
use Rattle.scr_plan.proofs.FromOne.{IsSome, Decides-any}
use Rattle.scr_plan.proofs.Delivering.{Decides-delivered, Decides-delivered_to}

pub Decides-carries : (history n p : ℕ) → Decides (carries history n p) (Carries history n p)
Decides-carries history n p = (
  λ e. record { from = grind (arith, nat_tests); to = grind (arith, nat_tests) },
  λ is. let a = is.from in let b = is.to in grind (arith, nat_tests),
)

pub Decides-kept : (plan : Plan) (p : ℕ) → Decides (keeps plan p) (IsKept plan p)
unfolding keeps
Decides-kept plan p =
    let test : ℕ → Bool = λ n. delivers plan n && carries plan.history n p in
    let both = λ (n : ℕ). Decides-and _ _ (Decides-delivered plan n) (Decides-carries plan.history n p) in
    Decides-like (list_any test (range_with_len 1 (frame_count plan)))
    (λ (some : IsSome test (frame_count plan)).
    let is = (both some.number).0 some.passes in
    record { frame = some.number; is_delivered = is.0; carries_it = is.1 })
    (λ is. record {
      number = is.frame;
      from = is.is_delivered.from;
      to = is.is_delivered.to;
      passes = (both is.frame).1 (is.is_delivered, is.carries_it);
    })
    (Decides-any test (frame_count plan))

pub Decides-carried : (plan : Plan) (core p : ℕ) → Decides (carries_to plan core p) (IsCarried plan core p)
unfolding carries_to
Decides-carried plan core p =
    let test : ℕ → Bool = λ n. delivers_to plan core n && carries plan.history n p in
    let both = λ (n : ℕ). Decides-and _ _ (Decides-delivered_to plan core n) (Decides-carries plan.history n p) in
    Decides-like (list_any test (range_with_len 1 (frame_count plan)))
    (λ (some : IsSome test (frame_count plan)).
    let is = (both some.number).0 some.passes in
    record { frame = some.number; is_delivered = is.0; carries_it = is.1 })
    (λ is. record {
      number = is.frame;
      from = is.is_delivered.is.from;
      to = is.is_delivered.is.to;
      passes = (both is.frame).1 (is.is_delivered, is.carries_it);
    })
    (Decides-any test (frame_count plan))

-- a frame carries its own packet, so a delivered packet is kept
pub Carries-own : (history n : ℕ) → 1 ≤ n → Carries history n n
Carries-own history n from = record { from = omega arith; to = omega arith }

pub kept-delivered : (plan : Plan) (n : ℕ) → delivers plan n ≡ true → keeps plan n ≡ true
kept-delivered plan n is =
    let it = (Decides-delivered plan n).0 is in
    (Decides-kept plan n).1 (record { frame = n; is_delivered = it; carries_it = Carries-own plan.history n it.from })

pub carried-own : (plan : Plan) (core n : ℕ) → delivers_to plan core n ≡ true → carries_to plan core n ≡ true
carried-own plan core n is =
    let it = (Decides-delivered_to plan core n).0 is in
    (Decides-carried plan core n).1 (record { frame = n; is_delivered = it; carries_it = Carries-own plan.history n it.is.from })

-- what a core's own frames carry is kept
pub kept-carried : (plan : Plan) (core p : ℕ) → carries_to plan core p ≡ true → keeps plan p ≡ true
kept-carried plan core p is =
    let it = (Decides-carried plan core p).0 is in
    (Decides-kept plan p).1 (record { frame = it.frame; is_delivered = it.is_delivered.is; carries_it = it.carries_it })

-- and what is kept is carried by the frames of some core
pub kept-by_some : (plan : Plan) (p : ℕ) → IsPlan plan → keeps plan p ≡ true
    → (core : ℕ) × (core < plan.cores) × (carries_to plan core p ≡ true)
kept-by_some plan p is_plan is =
    let it = (Decides-kept plan p).0 is in
    let some = is_plan.a_core in
    let core : ℕ = core_number plan.cores it.frame in (
      core,
      omega arith,
      (Decides-carried plan core p).1
          (record { frame = it.frame; is_delivered = record { is = it.is_delivered; its_core = refl }; carries_it = it.carries_it }),
    )

-- each of the frames up to the history behind a packet that is delivered keeps it
pub kept-near : (plan : Plan) (p n : ℕ) → 1 ≤ p → p ≤ n → n ≤ p + plan.history → delivers plan n ≡ true → keeps plan p ≡ true
kept-near plan p n one from to is =
    (Decides-kept plan p).1
    (record {
      frame = n;
      is_delivered = (Decides-delivered plan n).0 is;
      carries_it = record { from = omega arith; to = from };
    })

-- where none of these is delivered, nobody keeps it
pub kept-by_none : (plan : Plan) (p : ℕ)
    → ((n : ℕ) → p ≤ n → n ≤ frame_count plan → n ≤ p + plan.history → delivers plan n ≡ false) → keeps plan p ≡ false
kept-by_none plan p none =
    false_from_ne_true (keeps plan p)
    (λ yes.
    let is = (Decides-kept plan p).0 yes in
    let it = is.is_delivered in
    let by = is.carries_it in
    let no = none is.frame by.to it.to (omega (arith, by.from)) in
    let here = (Decides-delivered plan is.frame).1 it in
    cc)

-- the same of the frames that are delivered to a core
pub carried-near : (plan : Plan) (core p n : ℕ) → 1 ≤ p → p ≤ n → n ≤ p + plan.history → delivers_to plan core n ≡ true
    → carries_to plan core p ≡ true
carried-near plan core p n one from to is =
    (Decides-carried plan core p).1
    (record {
      frame = n;
      is_delivered = (Decides-delivered_to plan core n).0 is;
      carries_it = record { from = omega arith; to = from };
    })

pub carried-by_none : (plan : Plan) (core p : ℕ)
    → ((n : ℕ) → p ≤ n → n ≤ frame_count plan → n ≤ p + plan.history → delivers_to plan core n ≡ false)
    → carries_to plan core p ≡ false
carried-by_none plan core p none =
    false_from_ne_true (carries_to plan core p)
    (λ yes.
    let is = (Decides-carried plan core p).0 yes in
    let it = is.is_delivered in
    let by = is.carries_it in
    let no = none is.frame by.to it.is.to (omega (arith, by.from)) in
    let here = (Decides-delivered_to plan core is.frame).1 it in
    cc)
