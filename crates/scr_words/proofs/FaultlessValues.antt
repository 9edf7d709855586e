-- Values without a fault that are numbers are within their ranges.
use Rattle.std.proofs.Common.{IsTrue, ◌≡◌, ℕ, ◌-◌, ◌≤◌, List, Bool, true, false, cond, not, ◌||◌, ltb, Option, Some, None, Ok, Err, refl, arith}
use Rattle.std.specs.Option.{option_map_or}
use Rattle.std.proofs.lemmas.Bool.Decides.{nat_tests}
use Rattle.scr_base.specs.Numbers.{is_number, number_of}
use Rattle.scr_program.specs.declared.setting.SettingError.TheVariants.{Value, Range}
use Rattle.scr_program.specs.Settings.{setting_within}
use Rattle.scr_plan.specs.Limits.{longest_history}
use Rattle.scr_words.specs.declared.settings.Command.{Command}
use Rattle.scr_words.specs.declared.operand.Operand.{Operand}
use Rattle.scr_words.specs.declared.operand.Operand.TheVariants as operand
use Rattle.scr_words.specs.declared.operand.Form.{Form}
use Rattle.scr_words.specs.declared.operand.Form.TheVariants.{OneProgram, Number, DropList, RepeatList, DelayList, YesNo, ThreePorts, FirstProgram, SecondProgram, TableText}
use Rattle.scr_words.specs.Operands.{line_of, is_numeric, IsWithin}
use Rattle.scr_words.specs.WordParts.{given}
use Rattle.scr_words.specs.WordFaults.{setting_fault, value_fault, number_fault}
use Rattle.scr_words.specs.WordTests.{HaveFaultlessValues}
use Rattle.scr_words.specs.GivenSettings.{value_for, number_for, history_for}
use Rattle.scr_words.proofs.GivenValues.{value_for-passes}

-- a number without a fault is within its range
inside : (number below above : Bool) (n : ℕ) → setting_fault (cond (not number) (Err Value) (cond (below || above) (Err Range) (Ok n))) ≡ None
    → (below ≡ false) × (above ≡ false)
inside false below above n none = absurd cc
inside true true above n none = absurd cc
inside true false true n none = absurd cc
inside true false false n none = (refl, refl)

setting-inside : (value : List ℕ) (least greatest : ℕ) → setting_fault (setting_within value least greatest) ≡ None
    → (least ≤ number_of value) × (number_of value ≤ greatest)
setting-inside value least greatest none =
    let ends = inside (is_number value) (ltb (number_of value) least) (ltb greatest (number_of value)) (number_of value) none in
    let above : ltb (number_of value) least ≡ false = ends.0 in
    let below : ltb greatest (number_of value) ≡ false = ends.1 in
    (grind (arith, nat_tests, above), grind (arith, nat_tests, below))

-- the same by the form of the value
value-inside : (command : Command) (form : Form) (value : List ℕ) → IsTrue (is_numeric form) → value_fault command form value ≡ None → IsWithin form (number_of value)
value-inside command OneProgram value numeric none = absurd cc
value-inside command (Number least greatest) value numeric none = setting-inside value least greatest none
value-inside command DropList value numeric none = absurd cc
value-inside command RepeatList value numeric none = absurd cc
value-inside command DelayList value numeric none = absurd cc
value-inside command YesNo value numeric none = absurd cc
value-inside command ThreePorts value numeric none = absurd cc
value-inside command FirstProgram value numeric none = absurd cc
value-inside command SecondProgram value numeric none = absurd cc
value-inside command TableText value numeric none = absurd cc

-- what the test of a value tells of it as a number
pub number_fault-none : (command : Command) (form : Form) (value : List ℕ) → IsTrue (is_numeric form) → value_fault command form value ≡ None
    → number_fault form value ≡ None
number_fault-none command OneProgram value numeric none = absurd cc
number_fault-none command (Number least greatest) value numeric none = none
number_fault-none command DropList value numeric none = absurd cc
number_fault-none command RepeatList value numeric none = absurd cc
number_fault-none command DelayList value numeric none = absurd cc
number_fault-none command YesNo value numeric none = absurd cc
number_fault-none command ThreePorts value numeric none = absurd cc
number_fault-none command FirstProgram value numeric none = absurd cc
number_fault-none command SecondProgram value numeric none = absurd cc
number_fault-none command TableText value numeric none = absurd cc

module _ (command : Command) (operands : List (List ℕ)) (values : HaveFaultlessValues command operands) where
  pub number-inside : (operand : Operand) → IsTrue (is_numeric (line_of operand).form) → value_fault command (line_of operand).form (line_of operand).default ≡ None
      → IsWithin (line_of operand).form (number_for operand operands)
  number-inside operand numeric default =
      value-inside command (line_of operand).form (value_for operand operands) numeric (value_for-passes command operand operands values default)

  pub history-short : history_for operands ≤ longest_history
  history-short = short (given (line_of operand.History).name operands) refl
    where
      short : (found : Option (List ℕ)) → given (line_of operand.History).name operands ≡ found
          → option_map_or number_of found (number_for operand.Cores operands - 1) ≤ longest_history
      short None is = (let cores = number-inside operand.Cores refl refl in omega (arith, cores.1))
      short (Some text) is = (value-inside command (line_of operand.History).form text refl (values operand.History text is)).1
