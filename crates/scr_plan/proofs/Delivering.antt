-- Who is delivered, and to whom.
use Rattle.std.proofs.Common.{◌≡◌, ◌≢◌, ℕ, true, false, arith}
use Rattle.std.specs.Bool.{Decides}
use Rattle.std.proofs.lemmas.Bool.{false_from_ne_true}
use Rattle.std.proofs.lemmas.Bool.Decides.{nat_tests}
use Rattle.scr_plan.specs.Plan.{Plan}
use Rattle.scr_plan.specs.Order.{sends}
use Rattle.scr_plan.specs.Delivered.{IsDelivered, IsDeliveredTo, delivers, delivers_to, core_number}
use Rattle.scr_plan.proofs.Each.{first}
use Rattle.scr_plan.proofs.Steps.{sends-within}

-- what is delivered is sent
pub delivers-sends : (plan : Plan) (n : ℕ) → delivers plan n ≡ true → sends plan n ≡ true
unfolding delivers
delivers-sends plan n is = first (sends plan n) _ is

pub Decides-delivered : (plan : Plan) (n : ℕ) → Decides (delivers plan n) (IsDelivered plan n)
Decides-delivered plan n = (
  λ e. let within = sends-within plan n (delivers-sends plan n e) in record { from = within.0; to = within.1; delivered = e },
  λ is. is.delivered,
)

pub Decides-delivered_to : (plan : Plan) (core n : ℕ) → Decides (delivers_to plan core n) (IsDeliveredTo plan core n)
unfolding delivers_to
Decides-delivered_to plan core n = (
  λ e. record { is = (Decides-delivered plan n).0 (grind (arith, nat_tests)); its_core = grind (arith, nat_tests) },
  λ is.
      let a = (Decides-delivered plan n).1 is.is in
      let b = is.its_core in
      grind (arith, nat_tests),
)

-- a frame that isn't sent is delivered to nobody; one that is delivered is so to one core
pub delivered-unsent : (plan : Plan) (n : ℕ) → sends plan n ≡ false → delivers plan n ≡ false
delivered-unsent plan n unsent = false_from_ne_true (delivers plan n) (λ yes. let is = delivers-sends plan n yes in cc)

pub delivered_to-undelivered : (plan : Plan) (core n : ℕ) → delivers plan n ≡ false → delivers_to plan core n ≡ false
delivered_to-undelivered plan core n not_it =
    false_from_ne_true (delivers_to plan core n)
    (λ yes. let is = (Decides-delivered plan n).1 ((Decides-delivered_to plan core n).0 yes).is in cc)

pub delivered_to-other : (plan : Plan) (core n : ℕ) → core_number plan.cores n ≢ core → delivers_to plan core n ≡ false
delivered_to-other plan core n other =
    false_from_ne_true (delivers_to plan core n) (λ yes. other ((Decides-delivered_to plan core n).0 yes).its_core)

pub delivered_to-own : (plan : Plan) (core n : ℕ) → delivers plan n ≡ true → core_number plan.cores n ≡ core
    → delivers_to plan core n ≡ true
delivered_to-own plan core n delivered own =
    (Decides-delivered_to plan core n).1 (record { is = (Decides-delivered plan n).0 delivered; its_core = own })
