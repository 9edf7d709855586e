-- Any words are accepted with some settings, or refused with some fault.
use Rattle.std.proofs.Common.{◌≡◌, ◌⊎◌, inl, inr, ℕ, zero, suc, ◌+◌, ◌<◌, ◌≤◌, List, [], ◌∷◌, length, Option, Some, None, Result, Ok, Err, refl, subst, add-one, below_more, arith}
use Rattle.scr_words.specs.declared.word_fault.WordCause.{WordCause}
use Rattle.scr_words.specs.declared.word_fault.WordCause.TheVariants as cause
use Rattle.scr_words.specs.declared.word_fault.WordFault.{WordFault}
use Rattle.scr_words.specs.declared.settings.Command.{Command}
use Rattle.scr_words.specs.declared.settings.RunSettings.{RunSettings}
use Rattle.scr_words.specs.Operands.{command_named}
use Rattle.scr_words.specs.WordFaults.{fault_at, AreFaultless, IsFirstFault, IsMissing, AreRefused}
use Rattle.scr_words.specs.Answers.{IsAnswer}
use Rattle.scr_words.proofs.FaultlessWords.{HaveFaultlessValues-from, AreRefused-missing}
use Rattle.scr_words.proofs.ChosenSettings.{settings_some}

module _ (command : Command) (operands : List (List ℕ)) where
  -- the first operand with a fault among so many, where there is one
  abbrev AreFaultlessUpTo : ℕ → Type 0
  AreFaultlessUpTo count = (i : ℕ) → i < count → fault_at command operands i ≡ None

  first-here : (count : ℕ) (found : Option WordCause) → count < length operands → AreFaultlessUpTo count
      → fault_at command operands count ≡ found
      → AreFaultlessUpTo (suc count) ⊎ ((fault : WordFault) × IsFirstFault command operands fault)
  first-here count None within before is = inl (subst AreFaultlessUpTo (add-one count) (below_more (λ i. fault_at command operands i ≡ None) count before is))
  first-here count (Some cause) within before is =
      inr (
        record { word = count + 2; cause = cause },
        record { place = count; within = within; before = before; cause = is; number = refl },
      )

  first-upto : (count : ℕ) → count ≤ length operands → AreFaultlessUpTo count ⊎ ((fault : WordFault) × IsFirstFault command operands fault)
  first-upto zero within = inl (λ i below. absurd (omega arith))
  first-upto (suc count) within =
      elim (first-upto count (omega arith)) [
        | inl before ↦ first-here count (fault_at command operands count) (omega arith) before refl
        | inr first ↦ inr first
      ]

abbrev HasAnswer : List (List ℕ) → Type 0
HasAnswer words = (answer : Result RunSettings WordFault) × IsAnswer words answer

module _ (first : List ℕ) (operands : List (List ℕ)) where
  AreRefused-first : (command : Command) (fault : WordFault) → command_named first ≡ Some command
      → IsFirstFault command operands fault → AreRefused (first ∷ operands) fault
  AreRefused-first command fault named is = rw named (inl is)

  faultless-answer : (command : Command) → command_named first ≡ Some command → AreFaultless command operands → HasAnswer (first ∷ operands)
  faultless-answer command named faultless =
      elim (settings_some command operands (HaveFaultlessValues-from command operands faultless)) [
        | inl (settings, same, are) ↦ (Ok settings, record { command = rw same named; faultless = rw same faultless; chosen_are = are })
        | inr lacks ↦ (
            let fault : WordFault = record { word = length operands + 2; cause = cause.Missing } in
            let missing : IsMissing command operands fault = record { faultless = faultless; lacks = lacks; cause = refl; number = refl } in
            (Err fault, AreRefused-missing first operands command fault named missing))
      ]

  answer-by : (found : Option Command) → command_named first ≡ found → HasAnswer (first ∷ operands)
  answer-by None none = (Err (record { word = 1; cause = cause.Command }), rw none refl)
  answer-by (Some command) named =
      elim (first-upto command operands (length operands) (omega arith)) [
        | inl faultless ↦ faultless-answer command named faultless
        | inr (fault, is) ↦ (Err fault, AreRefused-first command fault named is)
      ]

pub some_answer : (words : List (List ℕ)) → HasAnswer words
some_answer [] = (Err (record { word = 1; cause = cause.NoCommand }), refl)
some_answer (first ∷ operands) = answer-by first operands (command_named first) refl
