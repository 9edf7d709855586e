use Rattle.std.proofs.Common.{◌≡◌, ℕ, List, true, false, Option, Some, sym, ap, ◌∙◌, subst, rules, tests}
use Rattle.std.specs.List.{list_any}
use Rattle.std.proofs.lemmas.Iterator.{YieldsList-from_slice}
use Rattle.std.proofs.lemmas.Iterator.Search.{any_from_yields_List}
use Rattle.scr_words.specs.declared.word_fault.WordCause.{WordCause}
use Rattle.scr_words.specs.Operands.{line_of, operand_named, is_taken}
use Rattle.scr_words.specs.WordParts.{name_in, value_in, is_named}
use Rattle.scr_words.specs.WordFaults.{given_fault}
use Rattle.scr_words.specs.WordTests.{Tells}
use Rattle.scr_words.proofs.OperandFaults.{fault-no_equals, fault-unknown_name, fault-not_here, fault-twice, fault-of_value}
use Rattle.scr_words.proofs.faults.test_operand.Goals as goal

pub returns-in_default : goal.returns-in_default
returns-in_default c = fault-no_equals c.args.command c.args.choice c.args.before.now c.args.word.now c.in_default.ensures

pub returns-in_default-named : goal.returns-in_default-named
returns-in_default-named c =
    fault-unknown_name c.args.command c.args.choice c.args.before.now c.args.word.now c.in-Some.ensures.has
    (ap operand_named (sym c.in-Some.ensures.front_is) ∙ sym c.named.ensures ∙ c.in_default-named.is)

pub returns-then-not-is_met : goal.returns-then-not-is_met
returns-then-not-is_met c =
    let known : operand_named (name_in c.args.word.now) ≡ Some c.in-Some-named.operand =
    ap operand_named (sym c.in-Some.ensures.front_is) ∙ sym c.named.ensures ∙ c.in-Some-named.is in
    fault-not_here c.args.command c.args.choice c.args.before.now c.args.word.now c.in-Some-named.operand c.in-Some.ensures.has known
    (ap (is_taken c.args.command c.args.choice) (sym c.line.ensures.taker) ∙ sym c.is_met.ensures ∙ c.if-not-is_met.true)

pub returns-then-any : goal.returns-then-any
returns-then-any c =
    let known : operand_named (name_in c.args.word.now) ≡ Some c.in-Some-named.operand =
    ap operand_named (sym c.in-Some.ensures.front_is) ∙ sym c.named.ensures ∙ c.in-Some-named.is in
    let here : is_taken c.args.command c.args.choice (line_of c.in-Some-named.operand).taker ≡ true =
    ap (is_taken c.args.command c.args.choice) (sym c.line.ensures.taker) ∙ sym c.is_met.ensures ∙ c.if-not-is_met.false in
    let again : c.any.result ≡ list_any (is_named c.in-Some.name.now) c.args.before.now =
    any_from_yields_List (is_named c.in-Some.name.now) _ _ c.any.result c.any.ensures.ran
    (YieldsList-from_slice c.args.before.now c.iter.ensures.rest) (λ x b q k. search (rules, tests)) in
    fault-twice c.args.command c.args.choice c.args.before.now c.args.word.now c.in-Some-named.operand c.in-Some.ensures.has known
    here (ap (λ (name : List ℕ). list_any (is_named name) c.args.before.now) (sym c.in-Some.ensures.front_is) ∙ sym again ∙ c.if-any.true)

pub returns : goal.returns
returns c =
    let known : operand_named (name_in c.args.word.now) ≡ Some c.in-Some-named.operand =
    ap operand_named (sym c.in-Some.ensures.front_is) ∙ sym c.named.ensures ∙ c.in-Some-named.is in
    let here : is_taken c.args.command c.args.choice (line_of c.in-Some-named.operand).taker ≡ true =
    ap (is_taken c.args.command c.args.choice) (sym c.line.ensures.taker) ∙ sym c.is_met.ensures ∙ c.if-not-is_met.false in
    let again : c.any.result ≡ list_any (is_named c.in-Some.name.now) c.args.before.now =
    any_from_yields_List (is_named c.in-Some.name.now) _ _ c.any.result c.any.ensures.ran
    (YieldsList-from_slice c.args.before.now c.iter.ensures.rest) (λ x b q k. search (rules, tests)) in
    let once : list_any (is_named (name_in c.args.word.now)) c.args.before.now ≡ false =
    ap (λ (name : List ℕ). list_any (is_named name) c.args.before.now) (sym c.in-Some.ensures.front_is) ∙ sym again ∙ c.if-any.false in
    let value : given_fault c.args.command c.args.before.now c.in-Some-named.operand c.in-Some.value.now ≡ given_fault c.args.command c.args.before.now c.in-Some-named.operand (value_in c.args.word.now) =
    ap (given_fault c.args.command c.args.before.now c.in-Some-named.operand) c.in-Some.ensures.back_is in
    let whole = fault-of_value c.args.command c.args.choice c.args.before.now c.args.word.now c.in-Some-named.operand c.in-Some.ensures.has known here once in
    subst (λ (fault : Option WordCause). Tells fault c.test_given.result) (value ∙ sym whole) c.test_given.ensures
