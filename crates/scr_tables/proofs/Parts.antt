-- The parts of a rule, read one after another: the first that hasn't its form tells so.
use Rattle.std.proofs.Common.{◌≡◌, ◌∙◌, ℕ, ◌<◌, ◌≤◌, Bool, true, false, cond, ◌&&◌, not, leb, Some, None, Result, Ok, Err, refl, ap, arith}
use Rattle.std.proofs.lemmas.Bool.Decides.{nat_tests}
use Rattle.scr_base.specs.Numbers.{is_number, number_of}
use Rattle.scr_tables.specs.Spelling.{Parts, parts_read, rule_of, is_pattern, is_verdict, is_state, fits, pattern_of, verdict_of}
use Rattle.scr_tables.specs.Rules.{most_rules}
use Rattle.scr_tables.specs.declared.rule.Rule.{Rule}
use Rattle.scr_tables.specs.declared.rule.Pattern.{Pattern}
use Rattle.scr_tables.specs.declared.rule.Decision.{Decision}
use Rattle.scr_tables.specs.declared.reading.TableCause.{TableCause}
use Rattle.scr_tables.specs.declared.reading.TableCause.TheVariants.{Form, Range, Rules}

-- what a part says: it has its form, or not; and where it has, the number is within its range, or not
module _ {A : Type 0} where
  pub formed : (test : Bool) (says said : A) → cond test (Ok says) (Err Form) ≡ Ok said → (test ≡ true) × (says ≡ said)
  formed true says said is = (refl, cc)
  formed false says said is = absurd cc

  pub unformed : (test : Bool) (says : A) (cause : TableCause) → cond test (Ok says) (Err Form) ≡ Err cause → (test ≡ false) × (cause ≡ Form)
  unformed true says cause is = absurd cc
  unformed false says cause is = (refl, cc)

  pub within : (test : Bool) (says said : A) → cond test (Some says) None ≡ Some said → (test ≡ true) × (says ≡ said)
  within true says said is = (refl, cc)
  within false says said is = absurd cc

  pub beyond : (test : Bool) (says : A) → cond test (Some says) None ≡ None → test ≡ false
  beyond true says is = absurd cc
  beyond false says is = refl

abbrev a_rule : ℕ → Pattern → ℕ → Decision → Rule
a_rule state pattern next verdict = record { state = state; pattern = pattern; next = next; verdict = verdict }

module _ (before : ℕ) (parts : Parts) where
  pub no-state : is_number parts.state ≡ false → parts_read before parts ≡ Err Form
  no-state state = rw state refl

  pub no-pattern : is_number parts.state ≡ true → is_pattern parts.pattern ≡ false → parts_read before parts ≡ Err Form
  no-pattern state pattern = rw (state, pattern) refl

  pub no-next : is_number parts.state ≡ true → is_pattern parts.pattern ≡ true → is_number parts.next ≡ false → parts_read before parts ≡ Err Form
  no-next state pattern next = rw (state, pattern, next) refl

  pub no-verdict : is_number parts.state ≡ true → is_pattern parts.pattern ≡ true → is_number parts.next ≡ true → is_verdict parts.verdict ≡ false
      → parts_read before parts ≡ Err Form
  no-verdict state pattern next verdict = rw (state, pattern, next, verdict) refl

  -- each part has its form
  pub record AreFormed : Type 0 where
    pub state : is_number parts.state ≡ true
    pub pattern : is_pattern parts.pattern ≡ true
    pub next : is_number parts.next ≡ true
    pub verdict : is_verdict parts.verdict ≡ true

  module _ (formed : AreFormed) where
    abbrev few : Result Rule TableCause
    few = cond (leb most_rules before) (Err Rules) (Ok (rule_of parts))

    pub ranges : parts_read before parts ≡ cond (not (is_state (number_of parts.state) && (fits (pattern_of parts.pattern) && is_state (number_of parts.next)))) (Err Range) few
    ranges = rw (formed.state, formed.pattern, formed.next, formed.verdict) refl

    pub far-state : is_state (number_of parts.state) ≡ false → parts_read before parts ≡ Err Range
    far-state state = ranges ∙ rw state refl

    pub far-pattern : fits (pattern_of parts.pattern) ≡ false → parts_read before parts ≡ Err Range
    far-pattern pattern = ranges ∙ at (is_state (number_of parts.state)) (fits (pattern_of parts.pattern)) pattern
      where
        at : (a b : Bool) → b ≡ false → cond (not (a && (b && is_state (number_of parts.next)))) (Err Range) few ≡ Err Range
        at true b is = rw is refl
        at false b is = refl

    pub far-next : is_state (number_of parts.next) ≡ false → parts_read before parts ≡ Err Range
    far-next next = ranges ∙ at (is_state (number_of parts.state)) (fits (pattern_of parts.pattern)) (is_state (number_of parts.next)) next
      where
        at : (a b d : Bool) → d ≡ false → cond (not (a && (b && d))) (Err Range) few ≡ Err Range
        at true true d is = rw is refl
        at true false d is = refl
        at false b d is = refl

    pub all-within : is_state (number_of parts.state) ≡ true → fits (pattern_of parts.pattern) ≡ true → is_state (number_of parts.next) ≡ true
        → parts_read before parts ≡ few
    all-within state pattern next = ranges ∙ rw (state, pattern, next) refl

    -- behind 256 others, and not
    pub full : is_state (number_of parts.state) ≡ true → fits (pattern_of parts.pattern) ≡ true → is_state (number_of parts.next) ≡ true
        → most_rules ≤ before → parts_read before parts ≡ Err Rules
    full state pattern next many =
        let test : leb most_rules before ≡ true = grind (arith, nat_tests) in
        all-within state pattern next ∙ rw test refl

    pub read-all : is_state (number_of parts.state) ≡ true → fits (pattern_of parts.pattern) ≡ true → is_state (number_of parts.next) ≡ true
        → before < most_rules → (rule : Rule) → number_of parts.state ≡ rule.state → pattern_of parts.pattern ≡ rule.pattern
        → number_of parts.next ≡ rule.next → verdict_of parts.verdict ≡ rule.verdict → parts_read before parts ≡ Ok rule
    read-all state pattern next few_before rule s p n v =
        let test : leb most_rules before ≡ false = grind (arith, nat_tests) in
        let same : rule_of parts ≡ rule = named (number_of parts.state) rule.state (pattern_of parts.pattern) rule.pattern (number_of parts.next) rule.next (verdict_of parts.verdict) rule.verdict s p n v in
        all-within state pattern next ∙ rw test (ap Ok same)
      where
        named : (s t : ℕ) (p q : Pattern) (n m : ℕ) (v w : Decision) → s ≡ t → p ≡ q → n ≡ m → v ≡ w → a_rule s p n v ≡ a_rule t q m w
        named s t p q n m v w a b d e = cc
