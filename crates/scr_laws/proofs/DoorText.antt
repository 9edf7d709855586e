-- The text of the door's rules spells them.
use Rattle.std.proofs.Common.{◌≡◌, ℕ, zero, suc, ◌<◌, ◌≤◌, ◌==◌, false, List, Ok, length, get_or, refl, arith}
use Rattle.std.proofs.lemmas.Bool.Decides.{nat_tests}
use Rattle.scr_tables.specs.Rules.{lacks_any}
use Rattle.scr_tables.specs.Spelling.{SpellsTable, SpellsRules, read_at}
use Rattle.scr_tables.specs.declared.rule.Rule.{Rule}
use Rattle.scr_laws.specs.DoorRules.{door_rules, door_text}

abbrev rules : List Rule
rules = door_rules 7000 8000 9000

spelled : SpellsRules door_text rules
spelled = record { count = refl; each = each }
  where
    each : (i : ℕ) (d : Rule) → i < length rules → read_at door_text i ≡ Ok (get_or rules i d)
    each zero d below = refl
    each (suc zero) d below = refl
    each (suc (suc zero)) d below = refl
    each (suc (suc (suc zero))) d below = refl
    each (suc (suc (suc (suc zero)))) d below = refl
    each (suc (suc (suc (suc (suc zero))))) d below = refl
    each (suc (suc (suc (suc (suc (suc zero)))))) d below = refl
    each (suc (suc (suc (suc (suc (suc (suc zero))))))) d below = refl
    each (suc (suc (suc (suc (suc (suc (suc (suc zero)))))))) d below = refl
    each (suc (suc (suc (suc (suc (suc (suc (suc (suc i))))))))) d below = absurd (omega (arith, below))

-- no rule leads to a state above 3
beyond : (state : ℕ) → 4 ≤ state → lacks_any rules state ≡ false
beyond state far =
    let start : (state == 0) ≡ false = grind (arith, nat_tests) in
    let zeroth : (0 == state) ≡ false = grind (arith, nat_tests) in
    let first : (1 == state) ≡ false = grind (arith, nat_tests) in
    let second : (2 == state) ≡ false = grind (arith, nat_tests) in
    let third : (3 == state) ≡ false = grind (arith, nat_tests) in
    rw (start, zeroth, first, second, third) refl

complete : (state : ℕ) → lacks_any rules state ≡ false
complete zero = refl
complete (suc zero) = refl
complete (suc (suc zero)) = refl
complete (suc (suc (suc zero))) = refl
complete (suc (suc (suc (suc state)))) = beyond (suc (suc (suc (suc state)))) (omega arith)

pub text-spells : SpellsTable door_text rules
text-spells = record { spelled = spelled; complete = complete }
