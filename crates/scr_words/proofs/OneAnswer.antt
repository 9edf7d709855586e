-- Words are accepted or refused, never both, and are refused with one fault.
use Rattle.std.proofs.Common.{Result, Ok, Err, ◌≡◌, ◌⊎◌, inl, inr, ℕ, ◌<◌, List, [], ◌∷◌, Bool, true, false, Option, Some, None, MatchOption, refl, sym, ap, ◌∙◌, arith}
use Rattle.std.specs.Prelude.{option_and_then, is_none, unwrap_or}
use Rattle.std.proofs.lemmas.Option.{MatchOption-at_some}
use Rattle.scr_tables.specs.Spelling as tables
use Rattle.scr_tables.specs.declared.rule.Rule.{Rule}
use Rattle.scr_tables.specs.declared.reading.TableCause.TheVariants.{Empty}
use Rattle.scr_words.specs.declared.word_fault.WordCause.{WordCause}
use Rattle.scr_words.specs.declared.word_fault.WordCause.TheVariants.{Table}
use Rattle.scr_words.specs.declared.word_fault.WordFault.{WordFault}
use Rattle.scr_words.specs.declared.settings.Command.{Command}
use Rattle.scr_words.specs.declared.settings.ProgramSettings.{ProgramSettings}
use Rattle.scr_words.specs.declared.settings.ProgramSettings.TheVariants as settings
use Rattle.scr_words.specs.declared.settings.RunSettings.{RunSettings}
use Rattle.scr_words.specs.declared.operand.Operand.TheVariants as operand
use Rattle.scr_words.specs.Operands.{all_firsts, all_ones, command_named, one_named, program_named, line_of}
use Rattle.scr_words.specs.WordParts.{given}
use Rattle.scr_words.specs.WordFaults.{fault_at, lacks_operand, AreFaultless, IsFirstFault, IsMissing, AreRefused}
use Rattle.scr_words.specs.TextFaults.{table_fault}
use Rattle.scr_words.specs.GivenSettings.{HasProgram, AreAccepted}
use Rattle.scr_words.specs.Answers.{IsAnswer}
use Rattle.scr_words.proofs.FaultlessWords.{HaveFaultlessValues-from}
use Rattle.scr_words.proofs.ChosenSettings.{AreChosen-same}
use Rattle.scr_words.proofs.TextFaults.{table_fault-none, table_fault-empty}

-- two faults that are one
abbrev IsSameFault : WordFault → WordFault → Type 0
IsSameFault a b = (a.word ≡ b.word) × (a.cause ≡ b.cause)

none-some : (a : WordCause) (x : Option WordCause) → x ≡ None → x ≡ Some a → ⊥
none-some a x none some = cc

Some-same : (a b : WordCause) (x : Option WordCause) → x ≡ Some a → x ≡ Some b → a ≡ b
Some-same a b x is_a is_b = cc

module _ (command : Command) (operands : List (List ℕ)) where
  -- no first fault stands before another one
  not_before : (a b : WordFault) (first : IsFirstFault command operands a) (second : IsFirstFault command operands b)
      → first.place < second.place → ⊥
  not_before a b first second earlier = none-some a.cause (fault_at command operands first.place) (second.before first.place earlier) first.cause

  first-same : (a b : WordFault) → IsFirstFault command operands a → IsFirstFault command operands b → IsSameFault a b
  first-same a b first second =
      let front = not_before a b first second in
      let back = not_before b a second first in
      let at : first.place ≡ second.place = grind (arith, front, back) in (
        omega (arith, first.number, second.number, at),
        Some-same a.cause b.cause (fault_at command operands first.place) first.cause (ap (fault_at command operands) at ∙ second.cause),
      )

  not_first : (a : WordFault) → AreFaultless command operands → IsFirstFault command operands a → ⊥
  not_first a faultless first = none-some a.cause (fault_at command operands first.place) (faultless first.place first.within) first.cause

  missing-same : (a b : WordFault) → IsMissing command operands a → IsMissing command operands b → IsSameFault a b
  missing-same a b one other = (one.number ∙ sym other.number, one.cause ∙ sym other.cause)

  refused-same : (a b : WordFault) → IsFirstFault command operands a ⊎ IsMissing command operands a
      → IsFirstFault command operands b ⊎ IsMissing command operands b → IsSameFault a b
  refused-same a b (inl first) (inl second) = first-same a b first second
  refused-same a b (inl first) (inr missing) = absurd (not_first a missing.faultless first)
  refused-same a b (inr missing) (inl first) = absurd (not_first b missing.faultless first)
  refused-same a b (inr one) (inr other) = missing-same a b one other

matched : (found : Option Command) (P Q R : Type 0) (S T : Command → Type 0) → MatchOption found P S → MatchOption found Q T
    → (P → Q → R) → ((command : Command) → S command → T command → R) → R
matched None P Q R S T p q none some = none p q
matched (Some command) P Q R S T s t none some = some command s t

pub AreRefused-same : (words : List (List ℕ)) (a b : WordFault) → AreRefused words a → AreRefused words b → IsSameFault a b
AreRefused-same [] a b one other =
    let same : a ≡ b = one ∙ sym other in
    (ap (λ (f : WordFault). f.word) same, ap (λ (f : WordFault). f.cause) same)
AreRefused-same (first ∷ operands) a b one other =
    matched (command_named first) _ _ (IsSameFault a b) _ _ one other
    (λ is_a is_b.
    let same : a ≡ b = is_a ∙ sym is_b in
    (ap (λ (f : WordFault). f.word) same, ap (λ (f : WordFault). f.cause) same))
    (λ command. refused-same command operands a b)

-- what is named was given
named-given : {A : Type 0} (named : List ℕ → Option A) (found : Option (List ℕ)) (name : A) → option_and_then named found ≡ Some name → is_none found ≡ false
named-given named None name is = absurd cc
named-given named (Some value) name is = refl

-- a table that is spelled was given, since no text but one that is given spells rules
table-given : (found : Option (List ℕ)) (rules : List Rule) → tables.SpellsTable (unwrap_or found []) rules → is_none found ≡ false
table-given None rules spells = absurd (some-none (Table Empty 0) (table_fault []) table_fault-empty (table_fault-none [] rules spells))
  where
    some-none : (a : WordCause) (x : Option WordCause) → x ≡ Some a → x ≡ None → ⊥
    some-none a x is none = cc
table-given (Some text) rules spells = refl

-- accepted words lack no operand
lacks-none : (command : Command) (operands : List (List ℕ)) (settings : ProgramSettings) → HasProgram command operands settings
    → lacks_operand command operands ≡ false
lacks-none command operands (settings.One one) has = rw (has.0, named-given (program_named command) (given (line_of operand.Program).name operands) _ has.0) refl
lacks-none command operands (settings.Chain first second) has =
    let program = named-given (program_named command) (given (line_of operand.Program).name operands) _ has.0 in
    let one = named-given (one_named all_firsts) (given (line_of operand.First).name operands) _ has.1 in
    let other = named-given (one_named all_ones) (given (line_of operand.Second).name operands) _ has.2 in
    rw (has.0, program, one, other) refl
lacks-none command operands (settings.Table rules) has =
    let program = named-given (program_named command) (given (line_of operand.Program).name operands) _ has.0 in
    let text = table-given (given (line_of operand.Table).name operands) rules.table has.1 in
    rw (has.0, program, text) refl

true-false : (b : Bool) → b ≡ true → b ≡ false → ⊥
true-false b is isnt = cc

not_refused : (command : Command) (operands : List (List ℕ)) (settings : ProgramSettings) (fault : WordFault) → AreFaultless command operands
    → HasProgram command operands settings → IsFirstFault command operands fault ⊎ IsMissing command operands fault → ⊥
not_refused command operands settings fault faultless has (inl first) = not_first command operands fault faultless first
not_refused command operands settings fault faultless has (inr missing) =
    true-false (lacks_operand command operands) missing.lacks (lacks-none command operands settings has)

Some-command : (a b : Command) (x : Option Command) → x ≡ Some a → x ≡ Some b → a ≡ b
Some-command a b x is_a is_b = cc

pub AreAccepted-not_refused : (words : List (List ℕ)) (settings : RunSettings) (fault : WordFault) → AreAccepted words settings → AreRefused words fault → ⊥
AreAccepted-not_refused [] settings fault accepted refused = accepted
AreAccepted-not_refused (first ∷ operands) settings fault accepted refused =
    not_refused settings.command operands settings.program fault accepted.faultless accepted.chosen_are.program
    (MatchOption-at_some _ _ settings.command accepted.command refused)

pub AreAccepted-same : (words : List (List ℕ)) (a b : RunSettings) → AreAccepted words a → AreAccepted words b → a ≡ b
AreAccepted-same [] a b one other = absurd one
AreAccepted-same (first ∷ operands) a b one other =
    AreChosen-same operands a b (HaveFaultlessValues-from a.command operands one.faultless)
    (Some-command a.command b.command (command_named first) one.command other.command) one.chosen_are other.chosen_are

pub one_answer : (words : List (List ℕ)) (one other : Result RunSettings WordFault) → IsAnswer words one → IsAnswer words other → one ≡ other
one_answer words (Ok a) (Ok b) one other = ap Ok (AreAccepted-same words a b one other)
one_answer words (Ok settings) (Err fault) one other = absurd (AreAccepted-not_refused words settings fault one other)
one_answer words (Err fault) (Ok settings) one other = absurd (AreAccepted-not_refused words settings fault other one)
one_answer words (Err a) (Err b) one other =
    let (word, cause) = AreRefused-same words a b one other in
    ap Err (λ i. record { word = word i; cause = cause i })
