-- A list cut at the first element that passes a test, by the place of that element.
use Rattle.std.proofs.Common.{◌≡◌, ◌∙◌, ℕ, ◌+◌, ◌-◌, ◌≤◌, Bool, true, false, cond, ltb, List, [], length, take, drop, Some, None, refl, sym, ap, arith}
use Rattle.std.specs.List.{position, position_or_len, before_first, after_first}
use Rattle.std.proofs.lemmas.Bool.{ltb-false}
use Rattle.std.proofs.lemmas.List.{take_all, drop_all, length-drop}

some-is : (b : Bool) (at n : ℕ) → Some at ≡ cond b (Some n) None → at ≡ n
some-is true at n e = cc
some-is false at n e = cc

none-is : (b : Bool) (n : ℕ) → None ≡ cond b (Some n) None → b ≡ false
none-is true n e = cc
none-is false n e = refl

module _ {X : Type 0} (p : X → Bool) (xs : List X) where
  place-is : (at : ℕ) → Some at ≡ position p xs → at ≡ position_or_len p xs
  place-is at e = some-is (ltb (position_or_len p xs) (length xs)) at (position_or_len p xs) e

  no-place : None ≡ position p xs → length xs ≤ position_or_len p xs
  no-place e = ltb-false (position_or_len p xs) (length xs) (none-is (ltb (position_or_len p xs) (length xs)) (position_or_len p xs) e)

  -- up to the place
  pub take-at : (at : ℕ) → Some at ≡ position p xs → take at xs ≡ before_first p xs
  take-at at e = ap (λ n. take n xs) (place-is at e)

  -- from behind the place to the end
  pub take-drop-at : (at : ℕ) → Some at ≡ position p xs → take (length xs - (at + 1)) (drop (at + 1) xs) ≡ after_first p xs
  take-drop-at at e =
      let short : length (drop (at + 1) xs) ≤ length xs - (at + 1) = omega (arith, length-drop (at + 1) xs) in
      take_all (length xs - (at + 1)) (drop (at + 1) xs) short ∙ ap (λ n. drop (n + 1) xs) (place-is at e)

  -- where no element passes, all stands before, and nothing behind
  pub before-none : None ≡ position p xs → xs ≡ before_first p xs
  before-none e = sym (take_all (position_or_len p xs) xs (no-place e))

  pub after-none : None ≡ position p xs → [] ≡ after_first p xs
  after-none e =
      let long : length xs ≤ position_or_len p xs + 1 = omega (arith, no-place e) in
      sym (drop_all (position_or_len p xs + 1) xs long)
