-- The rules of a table, read one after another.
use Rattle.std.proofs.Common.{◌≡◌, ℕ, suc, ◌+◌, ◌<◌, ◌≤◌, List, [], ◌∷◌, ◌++◌, length, get_or, All, Bool, true, false, cond, eqb, leb, not, ◌&&◌, ◌==◌, Result, Ok, Err, inl, inr, arith, refl, sym, ap, ◌∙◌, subst}
use Rattle.std.specs.List.{slice_split, onto_first, sum_by, list_any}
use Rattle.std.specs.Result.{IsOk}
use Rattle.std.proofs.lemmas.Bool.{cases_lt}
use Rattle.std.proofs.lemmas.Bool.Decides.{nat_tests}
use Rattle.std.proofs.lemmas.List.{get_or_default, get_or_append_left, get_or_push, length_push}
use Rattle.std.proofs.lemmas.List.Folds.{list_any_none}
use Rattle.std.proofs.lemmas.List.Sums.{sum_by-cons, sum_by_more, sum_by-take-le}
use Rattle.scr_base.specs.Numbers.{number_of}
use Rattle.scr_tables.specs.Rules.{IsRule, IsTable, most_rules, is_any, has_any, lacks_any}
use Rattle.scr_tables.specs.Spelling.{Parts, rule_texts, rule_read, parts_read, rule_of, parts_of, has_form, is_in_range, is_state, fits, pattern_of, read_at, place_of, SpellsRules, IsFaulty}
use Rattle.scr_tables.specs.declared.rule.Rule.{Rule}
use Rattle.scr_tables.specs.declared.rule.Pattern.TheVariants.{Any}
use Rattle.scr_tables.specs.declared.rule.Decision.TheVariants.{Pass}
use Rattle.scr_tables.specs.declared.reading.TableCause.{TableCause}
use Rattle.scr_tables.specs.declared.reading.TableCause.TheVariants.{Form, Range, Rules}

-- some rule, where one must be named
abbrev pub some_rule : Rule
some_rule = record { state = 0; pattern = Any; next = 0; verdict = Pass }

-- these rules are what the first texts read as
abbrev pub ReadsTo : List ℕ → List Rule → Type 0
ReadsTo text rules = (i : ℕ) (d : Rule) → i < length rules → read_at text i ≡ Ok (get_or rules i d)

-- the text of the rule at a place, whatever stands past the end
pub read_at-piece : (text piece : List ℕ) (i : ℕ) → i < length (rule_texts text) → piece ≡ get_or (rule_texts text) i piece
    → read_at text i ≡ rule_read i piece
read_at-piece text piece i below same =
    ap (rule_read i) (get_or_default (rule_texts text) i [] piece below ∙ sym same)

-- one rule more
pub ReadsTo-push : (text : List ℕ) (rules : List Rule) (rule : Rule) (k : ℕ) → length rules ≡ k → read_at text k ≡ Ok rule
    → ReadsTo text rules → ReadsTo text (rules ++ rule ∷ [])
ReadsTo-push text rules rule k count here before = λ i d within.
    elim (cases_lt i (length rules)) [
      | inl front ↦ before i d front ∙ ap Ok (sym (get_or_append_left rules (rule ∷ []) d i front))
      | inr back ↦ (
          let at : k ≡ i = omega (arith, length_push rules rule) in
          let there : get_or (rules ++ rule ∷ []) i d ≡ rule = get_or_push rules rule d i (count ∙ at) in
          ap (read_at text) (sym at) ∙ here ∙ ap Ok (sym there))
    ]

pub reads-ok : (text : List ℕ) (rules : List Rule) → ReadsTo text rules → (i : ℕ) → i < length rules → IsOk (read_at text i)
reads-ok text rules reads i below =
    let is : read_at text i ≡ Ok (get_or rules i some_rule) = reads i some_rule below in
    subst IsOk (sym is) refl

-- the first rule that is refused
pub IsFaulty-here : (text : List ℕ) (rules : List Rule) (cause : TableCause) (place k : ℕ) → length rules ≡ k
    → k < length (rule_texts text) → read_at text k ≡ Err cause → ReadsTo text rules → place ≡ place_of text k → IsFaulty text cause place
IsFaulty-here text rules cause place k count below why reads at = record {
  faulty = k;
  within = below;
  before = λ i front. reads-ok text rules reads i (omega arith);
  why = why;
  where_it_stands = at;
}

-- the place of the next rule, which is no further than one byte behind the text
pub place_of-more : (text piece : List ℕ) (k : ℕ) → k < length (rule_texts text) → piece ≡ get_or (rule_texts text) k piece
    → place_of text (k + 1) ≡ place_of text k + (length piece + 1)
place_of-more text piece k below same =
    sum_by_more (λ (p : List ℕ). length p + 1) (rule_texts text) k piece below
    ∙ ap (λ (p : List ℕ). place_of text k + (length p + 1)) (sym same)

-- all texts with the commas between them are the whole
sum_by-onto_first : (x : ℕ) (parts : List (List ℕ)) → 0 < length parts
    → sum_by (λ p. length p + 1) (onto_first x parts) ≡ sum_by (λ p. length p + 1) parts + 1
sum_by-onto_first x [] some = absurd (omega arith)
sum_by-onto_first x (part ∷ parts) some =
    let longer : length (x ∷ part) ≡ suc (length part) = refl in
    omega (arith, longer, sum_by-cons (λ (p : List ℕ). length p + 1) (x ∷ part) parts, sum_by-cons (λ (p : List ℕ). length p + 1) part parts)

length-onto_first : (x : ℕ) (parts : List (List ℕ)) → 0 < length (onto_first x parts)
length-onto_first x [] = omega arith
length-onto_first x (part ∷ parts) = omega arith

some_pieces : (p : ℕ → Bool) (xs : List ℕ) → 0 < length (slice_split p xs)
some_pieces p [] = omega arith
some_pieces p (x ∷ xs) =
    elim (p x) as (λ b. 0 < length (cond b ([] ∷ slice_split p xs) (onto_first x (slice_split p xs)))) [
      | true ↦ omega arith
      | false ↦ length-onto_first x (slice_split p xs)
    ]

sum_by-pieces : (p : ℕ → Bool) (xs : List ℕ) → sum_by (λ piece. length piece + 1) (slice_split p xs) ≡ length xs + 1
sum_by-pieces p [] = omega arith
sum_by-pieces p (x ∷ xs) =
    let before = sum_by-pieces p xs in
    let longer : length (x ∷ xs) ≡ suc (length xs) = refl in
    elim (p x) as (λ b. sum_by (λ piece. length piece + 1) (cond b ([] ∷ slice_split p xs) (onto_first x (slice_split p xs))) ≡ length (x ∷ xs) + 1) [
      | true ↦ omega (arith, before, longer, sum_by-cons (λ (piece : List ℕ). length piece + 1) [] (slice_split p xs))
      | false ↦ omega (arith, before, longer, sum_by-onto_first x (slice_split p xs) (some_pieces p xs))
    ]

pub place_of-fits : (text : List ℕ) (k : ℕ) → place_of text k ≤ length text + 1
place_of-fits text k =
    omega (arith, sum_by-take-le (λ (piece : List ℕ). length piece + 1) (rule_texts text) k, sum_by-pieces (λ byte. eqb byte 44) text)

-- a text that reads as a rule has its states within bounds, and fewer than 256 rules before it
refused-unless : (b : Bool) (cause : TableCause) (rest : Result Rule TableCause) (rule : Rule)
    → cond b (Err cause) rest ≡ Ok rule → (b ≡ false) × (rest ≡ Ok rule)
refused-unless true cause rest rule same = absurd cc
refused-unless false cause rest rule same = (refl, same)

un-not : (b : Bool) → not b ≡ false → b ≡ true
un-not true is = refl
un-not false is = absurd cc

both : (a b : Bool) → (a && b) ≡ true → (a ≡ true) × (b ≡ true)
both true b is = (refl, is)
both false b is = absurd cc

IsRule-named : (parts : Parts) → is_in_range parts ≡ true → IsRule (rule_of parts)
IsRule-named parts within =
    let first = both (is_state (number_of parts.state)) _ within in
    let second = both (fits (pattern_of parts.pattern)) (is_state (number_of parts.next)) first.1 in
    let state : is_state (number_of parts.state) ≡ true = first.0 in
    let next : is_state (number_of parts.next) ≡ true = second.1 in
    record { state = grind (arith, nat_tests); next = grind (arith, nat_tests) }

Ok-same : (a b : Rule) (x : Result Rule TableCause) → x ≡ Ok a → x ≡ Ok b → a ≡ b
Ok-same a b x is_a is_b = cc

parts-read : (before : ℕ) (parts : Parts) (rule : Rule) → parts_read before parts ≡ Ok rule → IsRule rule × (before < most_rules)
parts-read before parts rule read =
    let few_of : Result Rule TableCause = cond (leb most_rules before) (Err Rules) (Ok (rule_of parts)) in
    let range_of : Result Rule TableCause = cond (not (is_in_range parts)) (Err Range) few_of in
    let form = refused-unless (not (has_form parts)) Form range_of rule read in
    let range = refused-unless (not (is_in_range parts)) Range few_of rule form.1 in
    let few = refused-unless (leb most_rules before) Rules (Ok (rule_of parts)) rule range.1 in
    let named : rule_of parts ≡ rule = Ok-same (rule_of parts) rule (Ok (rule_of parts)) refl few.1 in
    let below : leb most_rules before ≡ false = few.0 in
    (subst IsRule named (IsRule-named parts (un-not (is_in_range parts) range.0)), grind (arith, nat_tests, below))

rule-read : (before : ℕ) (piece : List ℕ) (rule : Rule) → rule_read before piece ≡ Ok rule → IsRule rule × (before < most_rules)
rule-read before piece rule read = parts-read before (parts_of piece) rule (refused-unless _ _ _ _ read).1

pub few-from_reads : (text : List ℕ) (rules : List Rule) → ReadsTo text rules → length rules ≤ most_rules
few-from_reads text [] reads = omega arith
few-from_reads text (rule ∷ rules) reads =
    let more : length (rule ∷ rules) ≡ suc (length rules) = refl in
    let k : ℕ = length rules in
    let last : k < most_rules = (rule-read k (get_or (rule_texts text) k []) (get_or (rule ∷ rules) k rule) (reads k rule (omega (arith, more)))).1 in
    omega (arith, more, last)

pub each-from_reads : (text : List ℕ) (rules : List Rule) → ReadsTo text rules → All IsRule rules
each-from_reads text rules reads = λ i d within. (rule-read i (get_or (rule_texts text) i []) (get_or rules i d) (reads i d within)).0

-- no state above 15 is the next one of such rules
pub lacks-beyond : (rules : List Rule) → All IsRule rules → (state : ℕ) → 16 ≤ state → lacks_any rules state ≡ false
lacks-beyond rules each state beyond =
    let first : (state == 0) ≡ false = grind (arith, nat_tests) in
    let none : list_any (λ rule. rule.next == state) rules ≡ false =
    list_any_none (λ (rule : Rule). rule.next == state) rules (λ i d within. differs (get_or rules i d).next (each i d within).next) in
    rw (first, none) refl
  where
    differs : (next : ℕ) → next ≤ 15 → (next == state) ≡ false
    differs next small = grind (arith, nat_tests)

-- nor has one a rule
pub any-small : (rules : List Rule) → All IsRule rules → (state : ℕ) → has_any rules state ≡ true → state < 16
any-small rules each state has =
    elim (cases_lt state 16) [
      | inl small ↦ small
      | inr beyond ↦ absurd (true-false (has_any rules state) has (list_any_none (λ (rule : Rule). (rule.state == state) && is_any rule.pattern) rules
          (λ i d within. differs (get_or rules i d).state (is_any (get_or rules i d).pattern) (each i d within).state beyond)))
    ]
  where
    true-false : (b : Bool) → b ≡ true → b ≡ false → ⊥
    true-false b is isnt = cc

    differs : (of : ℕ) (any : Bool) → of ≤ 15 → 16 ≤ state → ((of == state) && any) ≡ false
    differs of any small beyond =
        let test : (of == state) ≡ false = grind (arith, nat_tests) in
        rw test refl

-- what a text spells is a table
pub IsTable-from_rules : (text : List ℕ) (rules : List Rule) → SpellsRules text rules → ((state : ℕ) → lacks_any rules state ≡ false) → IsTable rules
IsTable-from_rules text rules spelled complete = record {
  each = each-from_reads text rules spelled.each;
  few = few-from_reads text rules spelled.each;
  complete = complete;
}
