-- The fault of an operand, by the first cause that holds.
use Rattle.std.proofs.Common.{◌≡◌, ℕ, ◌<◌, List, [], length, take, get_or, true, false, Some, None, refl, sym, ap, ◌∙◌}
use Rattle.std.proofs.lemmas.List.{get_or_default}
use Rattle.std.specs.List.{list_any}
use Rattle.scr_words.specs.declared.word_fault.WordCause.TheVariants.{NoEquals, UnknownName, NotHere, Twice}
use Rattle.scr_words.specs.declared.settings.Command.{Command}
use Rattle.scr_words.specs.declared.program_name.Choice.{Choice}
use Rattle.scr_words.specs.declared.operand.Operand.{Operand}
use Rattle.scr_words.specs.Operands.{line_of, operand_named, is_taken}
use Rattle.scr_words.specs.WordParts.{has_equals, name_in, value_in, is_named, chosen}
use Rattle.scr_words.specs.WordFaults.{operand_fault, given_fault, fault_at}

module _ (command : Command) (choice : Choice) (before : List (List ℕ)) (word : List ℕ) where
  pub fault-no_equals : has_equals word ≡ false → operand_fault command choice before word ≡ Some NoEquals
  unfolding operand_fault
  fault-no_equals none = rw none refl

  pub fault-unknown_name : has_equals word ≡ true → operand_named (name_in word) ≡ None
      → operand_fault command choice before word ≡ Some UnknownName
  unfolding operand_fault
  fault-unknown_name has unknown = rw (has, unknown) refl

  module _ (operand : Operand) (has : has_equals word ≡ true) (known : operand_named (name_in word) ≡ Some operand) where
    pub fault-not_here : is_taken command choice (line_of operand).taker ≡ false → operand_fault command choice before word ≡ Some NotHere
    unfolding operand_fault
    fault-not_here elsewhere = rw (has, known, elsewhere) refl

    pub fault-twice : is_taken command choice (line_of operand).taker ≡ true → list_any (is_named (name_in word)) before ≡ true
        → operand_fault command choice before word ≡ Some Twice
    unfolding operand_fault
    fault-twice here again = rw (has, known, here, again) refl

    pub fault-of_value : is_taken command choice (line_of operand).taker ≡ true → list_any (is_named (name_in word)) before ≡ false
        → operand_fault command choice before word ≡ given_fault command before operand (value_in word)
    unfolding operand_fault
    fault-of_value here once = rw (has, known, here, once) refl

-- the fault of the operand at a place, as a test of it behind the others tells it
pub fault_at-is : (command : Command) (operands : List (List ℕ)) (place : ℕ) (choice : Choice) (word item : List ℕ)
    → choice ≡ chosen command operands → word ≡ item → item ≡ get_or operands place item → place < length operands
    → operand_fault command choice (take place operands) word ≡ fault_at command operands place
fault_at-is command operands place program word item by_all is at within =
    ap (λ (c : Choice). operand_fault command c (take place operands) word) by_all
    ∙ ap (operand_fault command (chosen command operands) (take place operands)) (is ∙ at ∙ sym (get_or_default operands place [] item within))
