-- After any rows each source is in a state that a run can hold, and in such a state some rule is for each packet.
use Rattle.std.proofs.Common.{◌≡◌, ◌∙◌, ℕ, Bool, true, false, ◌&&◌, ◌||◌, not, ◌==◌, cond, List, [], ◌∷◌, All, Option, Some, None, IfSome, IsSome, unwrap_or, refl, ap, arith, subst, fold}
use Rattle.std.specs.List.{find, list_any}
use Rattle.std.specs.Map.{lookup, values_of, remove_entry}
use Rattle.std.proofs.lemmas.Bool.Decides.{nat_tests}
use Rattle.std.proofs.lemmas.List.{take-map}
use Rattle.std.proofs.lemmas.List.Elements.{All-take, All-cons, All-nil}
use Rattle.std.proofs.lemmas.Map.Views.{All-map-remove_entry, IfSome-lookup_from_All}
use Rattle.scr_base.specs.declared.row.Row.{Row}
use Rattle.scr_base.specs.declared.row.Verdict.{Verdict}
use Rattle.scr_program.specs.declared.fields.Address.{Address}
use Rattle.scr_program.specs.declared.fields.Fields.{Fields}
use Rattle.scr_program.specs.FlowList.{set_key}
use Rattle.scr_program.specs.Folds.{flows_after}
use Rattle.scr_program.specs.Keys.{is_same_address}
use Rattle.scr_program.specs.Kinds.{is_packet}
use Rattle.scr_program.specs.Rows.{unpacked, source_in}
use Rattle.scr_tables.specs.Rules.{IsTable, holds, is_for, first_rule, is_any, has_any, can_be_held}
use Rattle.scr_tables.specs.Held.{AreHeld, FirstSays}
use Rattle.scr_tables.specs.Step.{step, state_of, taken_by, verdict_for}
use Rattle.scr_tables.specs.declared.rule.Decision.{Decision}
use Rattle.scr_tables.specs.declared.rule.Pattern.{Pattern}
use Rattle.scr_tables.specs.declared.rule.Pattern.TheVariants.{Any, Tcp, Udp, Port, Flags}
use Rattle.scr_tables.specs.declared.rule.Rule.{Rule}
use Rattle.scr_tables.specs.declared.settings.TableSettings.{TableSettings}

-- what holds of each entry of a list holds after a key was set to such an entry
set-each : (P : ℕ → Type 0) (most : ℕ) (flows : List (Address × ℕ)) (source : Address) (entry : ℕ) → All P (values_of flows) → P entry
    → All P (values_of (set_key is_same_address most flows source entry))
set-each P most flows source entry each here =
    let rest = All-map-remove_entry (is_same_address source) (λ (flow : Address × ℕ). flow.1) P flows each in
    let pairs : List (Address × ℕ) = (source, entry) ∷ remove_entry (is_same_address source) flows in
    subst (All P) (take-map (λ (flow : Address × ℕ). flow.1) most pairs)
    (All-take P most (values_of pairs) (All-cons P entry (values_of (remove_entry (is_same_address source) flows)) here rest))

-- a rule that was found is one of the list, so its next state can be held
found-next : (p : Rule → Bool) (rules : List Rule) (state : ℕ) (rule : Rule) → find p rules ≡ Some rule → list_any (λ r. r.next == rule.next) rules ≡ true
found-next p [] state rule found = absurd cc
found-next p (first ∷ rules) state rule found =
    elim (p first) as (λ b. cond b (Some first) (find p rules) ≡ Some rule → list_any (λ r. r.next == rule.next) (first ∷ rules) ≡ true) [
      | true ↦ λ is. (
          let same : first ≡ rule = cc in
          let test : (first.next == rule.next) ≡ true = rw same (grind (arith, nat_tests)) in
          rw test refl)
      | false ↦ λ is. or-right (first.next == rule.next) (list_any (λ r. r.next == rule.next) rules) (found-next p rules state rule is)
    ] found
  where
    or-right : (a b : Bool) → b ≡ true → (a || b) ≡ true
    or-right true b is = refl
    or-right false b is = is

next-held : (rules : List Rule) (state : ℕ) (fields : Fields) (rule : Rule) → first_rule rules state fields ≡ Some rule → can_be_held rules rule.next ≡ true
next-held rules state fields rule found = or-right (rule.next == 0) _ (found-next (is_for state fields) rules state rule found)
  where
    or-right : (a b : Bool) → b ≡ true → (a || b) ≡ true
    or-right true b is = refl
    or-right false b is = is

taken-held : (rules : List Rule) (most : ℕ) (flows : List (Address × ℕ)) (source : Address) (state : ℕ) (fields : Fields) (found : Option Rule)
    → first_rule rules state fields ≡ found → AreHeld rules flows → AreHeld rules (taken_by most flows source found).0
taken-held rules most flows source state fields (Some rule) is held =
    set-each (λ s. can_be_held rules s ≡ true) most flows source rule.next held (next-held rules state fields rule is)
taken-held rules most flows source state fields None is held = held

-- a step keeps it so
pub step-held : (settings : TableSettings) (flows : List (Address × ℕ)) (row : Row) → AreHeld settings.table flows → AreHeld settings.table (step settings flows row).0
unfolding step
step-held settings flows row held =
    let fields = unpacked row in
    let found = first_rule settings.table (state_of flows fields.source) fields in
    chosen (not (is_packet fields.kind)) (taken_by settings.flows flows fields.source found)
    (taken-held settings.table settings.flows flows fields.source (state_of flows fields.source) fields found refl held)
  where
    chosen : (b : Bool) (after : List (Address × ℕ) × Verdict) → AreHeld settings.table after.0
        → AreHeld settings.table (cond b (flows, record { 0 = 2 }) after).0
    chosen true after is = held
    chosen false after is = is

pub rows-held : (settings : TableSettings) (rows : List Row) → AreHeld settings.table (flows_after (step settings) rows)
unfolding flows_after
rows-held settings rows = from [] (All-nil (λ s. can_be_held settings.table s ≡ true)) rows
  where
    from : (flows : List (Address × ℕ)) → AreHeld settings.table flows → (rows : List Row) → AreHeld settings.table (fold (λ flows row. (step settings flows row).0) flows rows)
    from flows held [] = held
    from flows held (row ∷ rows) = from (step settings flows row).0 (step-held settings flows row held) rows

-- a source is in such a state, also where it is absent
pub state-held : (rules : List Rule) (flows : List (Address × ℕ)) (source : Address) → AreHeld rules flows → can_be_held rules (state_of flows source) ≡ true
state-held rules flows source held =
    known (lookup (is_same_address source) flows) (IfSome-lookup_from_All (λ s. can_be_held rules s ≡ true) (is_same_address source) flows held)
  where
    known : (entry : Option ℕ) → IfSome entry (λ s. can_be_held rules s ≡ true) → can_be_held rules (unwrap_or entry 0) ≡ true
    known (Some state) is = is
    known None is = refl

-- such a state has a rule for any packet
pub held-any : (rules : List Rule) (state : ℕ) → IsTable rules → can_be_held rules state ≡ true → has_any rules state ≡ true
held-any rules state table held = at (can_be_held rules state) (has_any rules state) held (table.complete state)
  where
    at : (a b : Bool) → a ≡ true → (a && not b) ≡ false → b ≡ true
    at true true is lacks = refl
    at true false is lacks = absurd cc
    at false b is lacks = absurd cc

any-holds : (pattern : Pattern) (fields : Fields) → is_any pattern ≡ true → holds pattern fields ≡ true
any-holds Any fields is = refl
any-holds Tcp fields is = absurd cc
any-holds Udp fields is = absurd cc
any-holds (Port port) fields is = absurd cc
any-holds (Flags flags) fields is = absurd cc

-- and so some rule is for each packet
false-true : false ≡ true → ⊥
false-true is = cc

one-more : (same any hold has found : Bool) → (any ≡ true → hold ≡ true) → (has ≡ true → found ≡ true) → ((same && any) || has) ≡ true
    → ((same && hold) || found) ≡ true
one-more true true true has found holds_too later is = refl
one-more true true false has found holds_too later is = absurd (false-true (holds_too refl))
one-more true false true has found holds_too later is = refl
one-more true false false has found holds_too later is = later is
one-more false any hold has found holds_too later is = later is

any-listed : (rules : List Rule) (state : ℕ) (fields : Fields) → has_any rules state ≡ true → list_any (is_for state fields) rules ≡ true
any-listed [] state fields has = absurd cc
any-listed (rule ∷ rules) state fields has =
    one-more (rule.state == state) (is_any rule.pattern) (holds rule.pattern fields) (has_any rules state) (list_any (is_for state fields) rules)
    (any-holds rule.pattern fields) (any-listed rules state fields) has

listed-found : (p : Rule → Bool) (rules : List Rule) → list_any p rules ≡ true → IsSome (find p rules)
listed-found p [] is = absurd cc
listed-found p (rule ∷ rules) is =
    elim (p rule) as (λ b. (b || list_any p rules) ≡ true → IsSome (cond b (Some rule) (find p rules))) [
      | true ↦ λ _. refl
      | false ↦ λ later. listed-found p rules later
    ] is

pub any-found : (rules : List Rule) (state : ℕ) (fields : Fields) → has_any rules state ≡ true → IsSome (first_rule rules state fields)
any-found rules state fields has = listed-found (is_for state fields) rules (any-listed rules state fields has)

-- so after any rows a rule is for the next one
pub rule-found : (settings : TableSettings) (rows : List Row) (source : Address) (fields : Fields)
    → IsSome (first_rule settings.table (state_of (flows_after (step settings) rows) source) fields)
rule-found settings rows source fields =
    let flows = flows_after (step settings) rows in
    any-found settings.table (state_of flows source) fields
    (held-any settings.table (state_of flows source) settings.valid (state-held settings.table flows source (rows-held settings rows)))

-- the step, by what the first rule says
pub step-taken : (settings : TableSettings) (flows : List (Address × ℕ)) (row : Row) (next : ℕ) (decision : Decision)
    → is_packet (unpacked row).kind ≡ true → AreHeld settings.table flows
    → FirstSays settings.table (state_of flows (source_in row)) (unpacked row) (next, decision)
    → step settings flows row ≡ (set_key is_same_address settings.flows flows (source_in row) next, verdict_for decision)
unfolding step
step-taken settings flows row next decision looked held said =
    let source = source_in row in
    let first = said (held-any settings.table (state_of flows source) settings.valid (state-held settings.table flows source held)) in
    let same = ap (λ (n : ℕ). (set_key is_same_address settings.flows flows source n, verdict_for first.0.verdict)) first.2
    ∙ ap (λ (d : Decision). (set_key is_same_address settings.flows flows source next, verdict_for d)) first.3 in
    rw (looked, first.1) same
