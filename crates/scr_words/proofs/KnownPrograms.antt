-- The command of accepted words knows what they choose.
use Rattle.std.proofs.Common.{◌≡◌, ℕ, List, [], ◌∷◌, Bool, true, false, cond, ◌&&◌, bytes_eq, Option, Some, None, refl, subst}
use Rattle.std.specs.List.{find}
use Rattle.std.specs.Prelude.{option_and_then}
use Rattle.std.proofs.lemmas.Bool.{and_parts}
use Rattle.scr_words.specs.declared.settings.Command.{Command}
use Rattle.scr_words.specs.declared.settings.ProgramSettings.{ProgramSettings}
use Rattle.scr_words.specs.declared.settings.ProgramSettings.TheVariants.{One, Chain, Table}
use Rattle.scr_words.specs.declared.program_name.ProgramName.{ProgramName}
use Rattle.scr_words.specs.declared.program_name.ProgramName.TheVariants as program
use Rattle.scr_words.specs.declared.operand.Operand.TheVariants as operand
use Rattle.scr_words.specs.Operands.{line_of, all_programs, program_name, program_named, knows, runs}
use Rattle.scr_words.specs.WordParts.{given}
use Rattle.scr_words.specs.GivenSettings.{HasProgram}

-- a program that is named is one that the command knows
module _ {A : Type 0} (test : A → Bool) where
  passes-by : (passes : Bool) (first item : A) (rest : Option A) → test first ≡ passes → (rest ≡ Some item → test item ≡ true)
      → cond passes (Some first) rest ≡ Some item → test item ≡ true
  passes-by true first item rest is later same =
      let found : first ≡ item = cc in
      subst (λ (x : A). test x ≡ true) found is
  passes-by false first item rest is later same = later same

  find-passes : (items : List A) (item : A) → find test items ≡ Some item → test item ≡ true
  find-passes [] item is = absurd cc
  find-passes (first ∷ items) item is = passes-by (test first) first item (find test items) refl (find-passes items item) is

knows-named : (command : Command) (found : Option (List ℕ)) (named : ProgramName) → option_and_then (program_named command) found ≡ Some named
    → knows command named ≡ true
unfolding program_named
knows-named command None named is = absurd cc
knows-named command (Some text) named is =
    (and_parts (knows command named) (bytes_eq (program_name named) text)
    (find-passes (λ p. knows command p && bytes_eq (program_name p) text) all_programs named is)).0

-- so do the settings that are made of the words
pub runs-from : (command : Command) (operands : List (List ℕ)) (settings : ProgramSettings) → HasProgram command operands settings
    → runs command settings ≡ true
runs-from command operands (One settings) has = refl
runs-from command operands (Chain first second) has = knows-named command (given (line_of operand.Program).name operands) program.Chain has.0
runs-from command operands (Table settings) has = knows-named command (given (line_of operand.Program).name operands) program.Table has.0
