-- A command that names its program by a number has one.
use Rattle.std.proofs.Common.{◌≡◌, ◌<◌, ℕ, true, Option, Some, None, arith, subst}
use Rattle.std.specs.Prelude.{nat_lt}
use Rattle.std.proofs.lemmas.Bool.Decides.{nat_tests}
use Rattle.scr_words.specs.declared.settings.Command.{Command}
use Rattle.scr_words.specs.declared.settings.Command.TheVariants.{Spray, Replay}
use Rattle.scr_run.specs.Codes.{has_code, is_code}

module _ (command : Command) (code : Option ℕ) (has : has_code command code ≡ true) where
  pub sprays-one : command ≡ Spray → is_code code ≡ true
  sprays-one is = subst (λ (c : Command). has_code c code ≡ true) is has

  pub replays-one : command ≡ Replay → is_code code ≡ true
  replays-one is = subst (λ (c : Command). has_code c code ≡ true) is has

pub no-code : (code : Option ℕ) → is_code code ≡ true → code ≡ None → ⊥
no-code code has is =
    let none : is_code None ≡ true = subst (λ (k : Option ℕ). is_code k ≡ true) is has in
    cc

pub few-code : (code : Option ℕ) (number : ℕ) → is_code code ≡ true → code ≡ Some number → number < 5
few-code code number has is =
    let few : nat_lt number 5 ≡ true = subst (λ (k : Option ℕ). is_code k ≡ true) is has in
    grind (arith, nat_tests)
