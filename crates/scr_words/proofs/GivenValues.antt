-- The values that words give their operands, where each passed its test.
use Rattle.std.proofs.Common.{◌≡◌, ℕ, List, Option, Some, None, Result, Ok, Err, refl}
use Rattle.std.specs.Prelude.{unwrap_or, MatchResult}
use Rattle.scr_program.specs.declared.setting.SettingError.{SettingError}
use Rattle.scr_words.specs.declared.settings.Command.{Command}
use Rattle.scr_words.specs.declared.operand.Operand.{Operand}
use Rattle.scr_words.specs.declared.word_fault.WordCause.{WordCause}
use Rattle.scr_words.specs.Operands.{line_of}
use Rattle.scr_words.specs.WordParts.{given}
use Rattle.scr_words.specs.WordFaults.{value_fault, setting_fault, setting_cause}
use Rattle.scr_words.specs.WordTests.{HaveFaultlessValues}
use Rattle.scr_words.specs.GivenSettings.{value_for}

-- a value or the default, where both pass a test
unwrap_or-passes : (fault : List ℕ → Option WordCause) (found : Option (List ℕ)) (default : List ℕ)
    → ((value : List ℕ) → found ≡ Some value → fault value ≡ None) → fault default ≡ None → fault (unwrap_or found default) ≡ None
unwrap_or-passes fault None default passes default_passes = default_passes
unwrap_or-passes fault (Some value) default passes default_passes = passes value refl

-- the value of an operand passes its test, where the default does
pub value_for-passes : (command : Command) (operand : Operand) (operands : List (List ℕ)) → HaveFaultlessValues command operands
    → value_fault command (line_of operand).form (line_of operand).default ≡ None
    → value_fault command (line_of operand).form (value_for operand operands) ≡ None
value_for-passes command operand operands passes default_passes =
    unwrap_or-passes (value_fault command (line_of operand).form) (given (line_of operand).name operands) (line_of operand).default
    (passes operand) default_passes

-- a setting without a fault is read
pub setting_fault-none : {A : Type 0} (read : Result A SettingError) (P : A → Type 0) (Q : SettingError → Type 0)
    → setting_fault read ≡ None → MatchResult read P Q → MatchResult read P (λ refusal. ⊥)
setting_fault-none (Ok value) P Q passes reads = reads
setting_fault-none (Err error) P Q passes reads = absurd cc

-- what follows of it
pub MatchResult-more : {A : Type 0} (read : Result A SettingError) (P Q : A → Type 0)
    → ((value : A) → P value → Q value) → MatchResult read P (λ refusal. ⊥) → MatchResult read Q (λ refusal. ⊥)
MatchResult-more (Ok value) P Q follows reads = follows value reads
MatchResult-more (Err error) P Q follows reads = reads

-- a setting that is refused has the fault of the refusal
pub setting_fault-refused : {A : Type 0} (read : Result A SettingError) (P : A → Type 0) (error : SettingError)
    → ((value : A) → P value → ◌≡◌ {A = Result (Unit {0}) SettingError} (Err error) (Ok tt))
    → MatchResult read P (λ refusal. ◌≡◌ {A = Result (Unit {0}) SettingError} (Err error) (Err refusal))
    → setting_fault read ≡ Some (setting_cause error)
setting_fault-refused (Ok value) P error taken set = let same = taken value set in absurd cc
setting_fault-refused (Err refusal) P error taken set = cc
