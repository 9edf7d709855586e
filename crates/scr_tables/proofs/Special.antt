-- The rules of one state, read off the list of all rules one after another.
use Rattle.std.proofs.Common.{◌≡◌, ◌≢◌, ◌∙◌, ℕ, ◌+◌, ◌<◌, ◌≤◌, ◌==◌, ◌&&◌, Bool, true, false, List, [], ◌∷◌, ◌++◌, length, take, get_or, Option, Some, None, unwrap_or, refl, sym, ap, arith, take_all, subst, inl, inr}
use Rattle.std.specs.List.{find, list_any}
use Rattle.std.specs.Option.{option_or}
use Rattle.std.proofs.lemmas.Bool.{cases_lt}
use Rattle.std.proofs.lemmas.Bool.Decides.{nat_tests}
use Rattle.std.proofs.lemmas.List.{get_or_append_left, get_or_push}
use Rattle.std.proofs.lemmas.List.Folds.{find-append, list_any_more}
use Rattle.scr_program.specs.declared.fields.Fields.{Fields}
use Rattle.scr_tables.specs.Rules.{holds, is_for, is_any, has_any}
use Rattle.scr_tables.specs.Index.{AreRulesOf}
use Rattle.scr_tables.specs.declared.index.StateRules.{StateRules}
use Rattle.scr_tables.specs.declared.rule.Pattern.{Pattern}
use Rattle.scr_tables.specs.declared.rule.Pattern.TheVariants.{Any, Tcp, Udp, Port, Flags}
use Rattle.scr_tables.specs.declared.rule.Rule.{Rule}
use Rattle.scr_tables.proofs.Firsts.{find-more, find-past, find-here}

any-holds : (pattern : Pattern) (fields : Fields) → is_any pattern ≡ true → holds pattern fields ≡ true
any-holds Any fields is = refl
any-holds Tcp fields is = absurd cc
any-holds Udp fields is = absurd cc
any-holds (Port port) fields is = absurd cc
any-holds (Flags flags) fields is = absurd cc

or-some : (found : Option Rule) (rule : Rule) → option_or found (Some rule) ≡ Some (unwrap_or found rule)
or-some (Some first) rule = refl
or-some None rule = refl

abbrev is_special : Fields → Rule → Bool
is_special fields rule = holds rule.pattern fields

module _ (rules : List Rule) (state : ℕ) where
  abbrev is_any_of : Rule → Bool
  is_any_of rule = (rule.state == state) && is_any rule.pattern

  -- the first rules of the list have these rules for the state, and none of them is for any packet
  pub record AreRead (i : ℕ) (special : List Rule) : Type 0 where
    pub firsts : (fields : Fields) → find (is_for state fields) (take i rules) ≡ find (λ rule. holds rule.pattern fields) special
    pub none : list_any (λ rule. (rule.state == state) && is_any rule.pattern) (take i rules) ≡ false

  pub AreRead-none : AreRead 0 []
  AreRead-none = record { firsts = λ fields. refl; none = refl }

  module _ (i : ℕ) (special : List Rule) (d : Rule) (below : i < length rules) (read : AreRead i special) where
    -- a rule of another state
    pub AreRead-other : (get_or rules i d).state ≢ state → AreRead (i + 1) special
    AreRead-other other =
        let test : ((get_or rules i d).state == state) ≡ false = grind (arith, nat_tests) in
        let fails : (fields : Fields) → is_for state fields (get_or rules i d) ≡ false = λ fields. rw test refl in
        let isnt : is_any_of (get_or rules i d) ≡ false = rw test refl in
        record {
          firsts = λ fields. find-past (is_for state fields) rules i d below (fails fields) ∙ read.firsts fields;
          none = list_any_more is_any_of rules i d below ∙ rw (read.none, isnt) refl;
        }

    -- a rule of the state that isn't for any packet
    pub AreRead-special : (get_or rules i d).state ≡ state → is_any (get_or rules i d).pattern ≡ false → AreRead (i + 1) (special ++ get_or rules i d ∷ [])
    AreRead-special same not_any =
        let rule = get_or rules i d in
        let test : (rule.state == state) ≡ true = grind (arith, nat_tests) in
        let alike : (fields : Fields) → find (is_for state fields) (rule ∷ []) ≡ find (is_special fields) (rule ∷ []) = λ fields. rw test refl in
        let isnt : is_any_of rule ≡ false = rw (test, not_any) refl in
        record {
          firsts = λ fields.
              find-more (is_for state fields) rules i d below
              ∙ ap (λ (found : Option Rule). option_or found (find (is_for state fields) (rule ∷ []))) (read.firsts fields)
              ∙ ap (option_or (find (is_special fields) special)) (alike fields)
              ∙ sym (find-append (is_special fields) special (rule ∷ []));
          none = list_any_more is_any_of rules i d below ∙ rw (read.none, isnt) refl;
        }

    -- the first rule of the state for any packet
    pub AreRulesOf-found : (found : StateRules) → found.special.items ≡ special → found.otherwise ≡ get_or rules i d
        → (get_or rules i d).state ≡ state → is_any (get_or rules i d).pattern ≡ true → AreRulesOf rules state found
    AreRulesOf-found found items rule_is same any = λ fields _.
        let rule = get_or rules i d in
        let test : (rule.state == state) ≡ true = grind (arith, nat_tests) in
        let passes : is_for state fields rule ≡ true = rw (test, any-holds rule.pattern fields any) refl in
        find-here (is_for state fields) rules i d below passes
        ∙ ap (λ (first : Option Rule). option_or first (Some rule)) (read.firsts fields)
        ∙ or-some (find (is_special fields) special) rule
        ∙ ap (λ (xs : List Rule). Some (unwrap_or (find (is_special fields) xs) rule)) (sym items)
        ∙ ap (λ (r : Rule). Some (unwrap_or (find (is_special fields) found.special.items) r)) (sym rule_is)

  true-false : (b : Bool) → b ≡ true → b ≡ false → ⊥
  true-false b is isnt = cc

  -- no rule of the state is for any packet
  pub AreRulesOf-none : (i : ℕ) (special : List Rule) (found : StateRules) → length rules ≤ i → AreRead i special → AreRulesOf rules state found
  AreRulesOf-none i special found all read = λ fields any.
      let whole : list_any is_any_of rules ≡ false = ap (list_any is_any_of) (sym (take_all i rules all)) ∙ read.none in
      absurd (true-false (has_any rules state) any whole)

-- the rules of one state more
pub each-push : (rules : List Rule) (by_state : List StateRules) (found : StateRules) (n : ℕ) → length by_state ≡ n → AreRulesOf rules n found
    → ((state : ℕ) (d : StateRules) → state < n → AreRulesOf rules state (get_or by_state state d))
    → (state : ℕ) (d : StateRules) → state < n + 1 → AreRulesOf rules state (get_or (by_state ++ found ∷ []) state d)
each-push rules by_state found n count here before state d within =
    elim (cases_lt state n) [
      | inl front ↦ subst (λ (r : StateRules). AreRulesOf rules state r) (sym (get_or_append_left by_state (found ∷ []) d state (omega arith))) (before state d front)
      | inr back ↦ (
          let at : n ≡ state = omega arith in
          subst (λ (r : StateRules). AreRulesOf rules state r) (sym (get_or_push by_state found d state (count ∙ at)))
          (subst (λ (s : ℕ). AreRulesOf rules s found) at here))
    ]
