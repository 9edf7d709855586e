-- What the tests of words answer.
use Rattle.std.specs.Prelude.{◌≡◌, ℕ, IsTrue, MatchOption, List, Option, Some, None, Result, Ok, Err}
use Rattle.scr_words.specs.declared.word_fault.WordCause.{WordCause}
use Rattle.scr_words.specs.declared.settings.Command.{Command}
use Rattle.scr_words.specs.declared.operand.Operand.{Operand}
use Rattle.scr_words.specs.declared.faults.TestError.{TestError}
use Rattle.scr_words.specs.declared.faults.TestError.TheVariants as test
use Rattle.scr_words.specs.declared.reading.WordsError.{WordsError}
use Rattle.scr_words.specs.declared.reading.WordsError.TheVariants as words
use Rattle.scr_words.specs.Operands.{line_of}
use Rattle.scr_words.specs.WordParts.{given}
use Rattle.scr_words.specs.WordFaults.{value_fault, lacks_operand, IsFirstFault, AreRefused}

-- a test passes where there is no fault, and refuses with the fault that there is, unless memory runs out
abbrev pub Tells : Option WordCause → Result (Unit {0}) TestError → Type 0
Tells fault (Ok passed) = fault ≡ None
Tells fault (Err (test.Refused cause)) = fault ≡ Some cause
Tells fault (Err (test.OutOfMemory want)) = Unit {0}

-- the error of words that aren't accepted
abbrev pub IsFirstFaultBy : Command → List (List ℕ) → WordsError → Type 0
IsFirstFaultBy command operands (words.Refused fault) = IsFirstFault command operands fault
IsFirstFaultBy command operands (words.OutOfMemory want) = Unit {0}

abbrev pub AreRefusedBy : List (List ℕ) → WordsError → Type 0
AreRefusedBy given (words.Refused fault) = AreRefused given fault
AreRefusedBy given (words.OutOfMemory want) = Unit {0}

-- each value that the words give beside a command passes the test of its form
abbrev pub HaveFaultlessValues : Command → List (List ℕ) → Type 0
HaveFaultlessValues command operands = (operand : Operand) (value : List ℕ)
    → given (line_of operand).name operands ≡ Some value → value_fault command (line_of operand).form value ≡ None

-- what operands choose, or nothing where a required one is absent
abbrev pub Chooses : {A : Type 0} → Command → List (List ℕ) → (A → Type 0) → Option A → Type 0
Chooses command operands AreThese made = MatchOption made (IsTrue (lacks_operand command operands)) AreThese
