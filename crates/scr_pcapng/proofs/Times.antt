-- Times in other units than microseconds.
use Rattle.std.proofs.Common.{◌≡◌, ℕ, ◌*◌, ◌/◌, ◌-◌, ◌^◌, ◌≤◌, ◌<◌, zero, min, sym, ap, ◌∙◌, arith}
use Rattle.std.proofs.Math.Nat.{div-div-eq-div-mul, min-eq_left, mul-div_cancel}

-- of nanoseconds
pub thousandth : (time : ℕ) → time < 2 ^ 64 → time / 1000 ≡ min (time * 1000000 / 1000000000) (2 ^ 64 - 1)
thousandth time within =
    let some : zero < 1000000 = omega arith in
    let same : time * 1000000 / 1000000000 ≡ time / 1000 =
    sym (div-div-eq-div-mul (time * 1000000) 1000000 1000) ∙ ap (λ (n : ℕ). n / 1000) (mul-div_cancel time some) in
    let few : time / 1000 ≤ 2 ^ 64 - 1 = omega arith in
    sym (ap (λ (n : ℕ). min n (2 ^ 64 - 1)) same ∙ min-eq_left few)
