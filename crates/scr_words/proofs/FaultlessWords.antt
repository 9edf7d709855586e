-- What follows where no operand has a fault.
use Rattle.std.proofs.Common.{◌≡◌, ◌⊎◌, inl, inr, ℕ, suc, ◌<◌, List, [], ◌∷◌, length, get_or, Bool, true, false, cond, not, ◌||◌, Option, Some, None, refl, ap, ◌∙◌, subst, arith}
use Rattle.std.specs.List.{find, list_any}
use Rattle.std.specs.Prelude.{option_map, option_and_then, is_some}
use Rattle.std.specs.Option.{option_or}
use Rattle.std.specs.Str.{bytes_eq}
use Rattle.std.proofs.lemmas.Bool.{and_parts}
use Rattle.std.proofs.lemmas.Slice.Eq.{bytes_eq-Decides}
use Rattle.scr_words.specs.declared.word_fault.WordCause.{WordCause}
use Rattle.scr_words.specs.declared.word_fault.WordCause.TheVariants.{NotHere, Twice, Program}
use Rattle.scr_words.specs.declared.word_fault.WordFault.{WordFault}
use Rattle.scr_words.specs.declared.settings.Command.{Command}
use Rattle.scr_words.specs.declared.program_name.Choice.{Choice}
use Rattle.scr_words.specs.declared.program_name.ProgramName.TheVariants as name
use Rattle.scr_words.specs.declared.operand.Operand.{Operand}
use Rattle.scr_words.specs.declared.operand.Operand.TheVariants as operand
use Rattle.scr_words.specs.Operands.{line_of, operand_named, all_firsts, all_ones, command_named, one_named, program_named, is_taken}
use Rattle.scr_words.specs.WordParts.{has_equals, name_in, value_in, is_named, is_absent, given, program_in, first_in, second_in, chosen}
use Rattle.scr_words.specs.WordFaults.{operand_fault, name_fault, value_fault, same_fault, lacks_operand, AreFaultless, IsMissing, AreRefused}
use Rattle.scr_words.specs.WordTests.{HaveFaultlessValues}

-- a word with a name and a value
record IsGivenAt (name : List ℕ) (words : List (List ℕ)) (value : List ℕ) : Type 0 where
  place : ℕ
  within : place < length words
  named : is_named name (get_or words place []) ≡ true
  value_is : value_in (get_or words place []) ≡ value

chosen-first : (named : Bool) (word value : List ℕ) (rest : Option (List ℕ)) → option_map value_in (cond named (Some word) rest) ≡ Some value
    → ((named ≡ true) × (value_in word ≡ value)) ⊎ (option_map value_in rest ≡ Some value)
chosen-first true word value rest same = inl (refl, cc)
chosen-first false word value rest same = inr same

IsGivenAt-from_given : (name : List ℕ) (words : List (List ℕ)) (value : List ℕ) → given name words ≡ Some value → IsGivenAt name words value
unfolding given
IsGivenAt-from_given name [] value same = absurd cc
IsGivenAt-from_given name (word ∷ words) value same =
    let longer : length (word ∷ words) ≡ suc (length words) = refl in
    elim (chosen-first (is_named name word) word value (find (is_named name) words) same) [
      | inl here ↦ record { place = 0; within = omega arith; named = here.0; value_is = here.1 }
      | inr behind ↦ (
          let rest = IsGivenAt-from_given name words value behind in
          record { place = suc rest.place; within = omega (arith, rest.within); named = rest.named; value_is = rest.value_is })
    ]

-- each operand is found by its own name
operand_named-line_of : (operand : Operand) → operand_named (line_of operand).name ≡ Some operand
unfolding operand_named
operand_named-line_of operand.Program = refl
operand_named-line_of operand.Flows = refl
operand_named-line_of operand.Cores = refl
operand_named-line_of operand.History = refl
operand_named-line_of operand.Drop = refl
operand_named-line_of operand.Repeat = refl
operand_named-line_of operand.Delay = refl
operand_named-line_of operand.Ring = refl
operand_named-line_of operand.Threads = refl
operand_named-line_of operand.Start = refl
operand_named-line_of operand.Frames = refl
operand_named-line_of operand.Hosts = refl
operand_named-line_of operand.Threshold = refl
operand_named-line_of operand.Bytes = refl
operand_named-line_of operand.Rate = refl
operand_named-line_of operand.Burst = refl
operand_named-line_of operand.Ports = refl
operand_named-line_of operand.Idle = refl
operand_named-line_of operand.First = refl
operand_named-line_of operand.Second = refl
operand_named-line_of operand.Table = refl

none-past : (refused : Bool) (cause : WordCause) (rest : Option WordCause) → cond refused (Some cause) rest ≡ None → rest ≡ None
none-past true cause rest same = absurd cc
none-past false cause rest same = same

first-none : (a b : Option WordCause) → option_or a b ≡ None → a ≡ None
first-none None b none = refl
first-none (Some cause) b none = absurd cc

-- an operand without a fault has a value without one
value_fault-none : (command : Command) (choice : Choice) (before : List (List ℕ)) (word : List ℕ) (operand : Operand)
    → has_equals word ≡ true → operand_named (name_in word) ≡ Some operand → operand_fault command choice before word ≡ None
    → value_fault command (line_of operand).form (value_in word) ≡ None
unfolding operand_fault
value_fault-none command choice before word operand has known faultless =
    let value = value_fault command (line_of operand).form (value_in word) in
    let tested = option_or value (same_fault before operand (value_in word)) in
    let again = list_any (is_named (name_in word)) before in
    let here : cond (not (is_taken command choice (line_of operand).taker)) (Some NotHere) (cond again (Some Twice) tested) ≡ None =
    rw (has, known) at faultless in
    first-none value (same_fault before operand (value_in word))
    (none-past again Twice tested (none-past (not (is_taken command choice (line_of operand).taker)) NotHere (cond again (Some Twice) tested) here))

pub HaveFaultlessValues-from : (command : Command) (operands : List (List ℕ)) → AreFaultless command operands → HaveFaultlessValues command operands
HaveFaultlessValues-from command operands faultless = λ operand value found.
    let at = IsGivenAt-from_given (line_of operand).name operands value found in
    let word = get_or operands at.place [] in
    let named = and_parts (has_equals word) (bytes_eq (name_in word) (line_of operand).name) at.named in
    let known : operand_named (name_in word) ≡ Some operand =
    ap operand_named ((bytes_eq-Decides (name_in word) (line_of operand).name).0 named.1) ∙ operand_named-line_of operand in
    subst (λ (v : List ℕ). value_fault command (line_of operand).form v ≡ None) at.value_is
    (value_fault-none command (chosen command operands) _ word operand named.0 known (faultless at.place at.within))

-- where a value that is given is a name, and none is named, none is given
given-none : {A : Type 0} (named : List ℕ → Option A) (found : Option (List ℕ))
    → ((value : List ℕ) → found ≡ Some value → name_fault (is_some (named value)) ≡ None)
    → option_and_then named found ≡ None → found ≡ None
given-none named None passes none = refl
given-none named (Some value) passes none =
    let fault : name_fault (is_some (named value)) ≡ Some Program = rw none refl in
    let passed : name_fault (is_some (named value)) ≡ None = passes value refl in
    absurd cc

or-true : (a : Bool) → (a || true) ≡ true
or-true true = refl
or-true false = refl

-- which required operand is absent
module _ (command : Command) (operands : List (List ℕ)) where
  pub lacks-program : HaveFaultlessValues command operands → program_in command operands ≡ None → lacks_operand command operands ≡ true
  lacks-program values none =
      let absent : given (line_of operand.Program).name operands ≡ None =
      given-none (program_named command) (given (line_of operand.Program).name operands) (values operand.Program) none in
      rw (none, absent) refl

  pub lacks-table : program_in command operands ≡ Some name.Table → given (line_of operand.Table).name operands ≡ None → lacks_operand command operands ≡ true
  lacks-table is absent = rw (is, absent) (or-true (is_absent operands operand.Program))

  pub lacks-first : HaveFaultlessValues command operands → program_in command operands ≡ Some name.Chain → first_in operands ≡ None
      → lacks_operand command operands ≡ true
  lacks-first values is none =
      let absent : given (line_of operand.First).name operands ≡ None =
      given-none (one_named all_firsts) (given (line_of operand.First).name operands) (values operand.First) none in
      rw (is, absent) (or-true (is_absent operands operand.Program))

  pub lacks-second : HaveFaultlessValues command operands → program_in command operands ≡ Some name.Chain → second_in operands ≡ None
      → lacks_operand command operands ≡ true
  lacks-second values is none =
      let absent : given (line_of operand.Second).name operands ≡ None =
      given-none (one_named all_ones) (given (line_of operand.Second).name operands) (values operand.Second) none in
      rw (is, absent) (rw (or-true (is_absent operands operand.First)) (or-true (is_absent operands operand.Program)))

pub AreRefused-missing : (first : List ℕ) (operands : List (List ℕ)) (command : Command) (fault : WordFault) → command_named first ≡ Some command
    → IsMissing command operands fault → AreRefused (first ∷ operands) fault
AreRefused-missing first operands command fault named missing = rw named (inr missing)
