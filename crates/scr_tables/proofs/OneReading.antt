-- A text spells one table, or is refused with one cause at one place.
use Rattle.std.proofs.Common.{◌≡◌, ℕ, ◌<◌, Bool, true, false, List, get_or, Result, Ok, Err, inl, inr, arith, sym, ap, ◌∙◌}
use Rattle.std.specs.Result.{IsOk}
use Rattle.std.proofs.lemmas.List.{same_lists}
use Rattle.scr_tables.specs.Rules.{lacks_any}
use Rattle.scr_tables.specs.Spelling.{read_at, place_of, SpellsRules, SpellsTable, IsFaulty, IsIncomplete, IsRefused}
use Rattle.scr_tables.specs.declared.rule.Rule.{Rule}
use Rattle.scr_tables.specs.declared.reading.TableCause.{TableCause}
use Rattle.scr_tables.proofs.Spelled.{some_rule}

Ok-same : (a b : Rule) (x : Result Rule TableCause) → x ≡ Ok a → x ≡ Ok b → a ≡ b
Ok-same a b x is_a is_b = cc

Err-same : (a b : TableCause) (x : Result Rule TableCause) → x ≡ Err a → x ≡ Err b → a ≡ b
Err-same a b x is_a is_b = cc

not_both : (a : TableCause) (b : Rule) (x : Result Rule TableCause) → x ≡ Err a → x ≡ Ok b → ⊥
not_both a b x is_a is_b = cc

not_ok : (a : TableCause) (x : Result Rule TableCause) → x ≡ Err a → IsOk x → ⊥
not_ok a x is_a ok = cc

not_true : (x : Bool) → x ≡ true → x ≡ false → ⊥
not_true x is isnt = cc

rules-same : (text : List ℕ) (a b : List Rule) → SpellsRules text a → SpellsRules text b → a ≡ b
rules-same text a b spells_a spells_b =
    same_lists a b (spells_a.count ∙ sym spells_b.count)
    (λ k d within.
    Ok-same (get_or a k d) (get_or b k d) (read_at text k) (spells_a.each k d within)
    (spells_b.each k d (omega (arith, spells_a.count, spells_b.count))))

pub SpellsTable-same : (text : List ℕ) (a b : List Rule) → SpellsTable text a → SpellsTable text b → a ≡ b
SpellsTable-same text a b spells_a spells_b = rules-same text a b spells_a.spelled spells_b.spelled

rules-not_faulty : (text : List ℕ) (rules : List Rule) (cause : TableCause) (place : ℕ) → SpellsRules text rules → IsFaulty text cause place → ⊥
rules-not_faulty text rules cause place spelled faulty =
    not_both cause (get_or rules faulty.faulty some_rule) (read_at text faulty.faulty) faulty.why
    (spelled.each faulty.faulty some_rule (omega (arith, spelled.count, faulty.within)))

pub SpellsTable-not_refused : (text : List ℕ) (rules : List Rule) (cause : TableCause) (place : ℕ)
    → SpellsTable text rules → IsRefused text cause place → ⊥
SpellsTable-not_refused text rules cause place spells (inl faulty) = rules-not_faulty text rules cause place spells.spelled faulty
SpellsTable-not_refused text rules cause place spells (inr lacking) =
    let same : lacking.rules ≡ rules = rules-same text lacking.rules rules lacking.spelled spells.spelled in
    not_true (lacks_any rules place) (ap (λ (rs : List Rule). lacks_any rs place) (sym same) ∙ lacking.lacks) (spells.complete place)

-- two refusals are of one rule
same_rule : (text : List ℕ) (cause other : TableCause) (place elsewhere : ℕ) (a : IsFaulty text cause place)
    (b : IsFaulty text other elsewhere) → a.faulty < b.faulty → ⊥
same_rule text cause other place elsewhere a b first = not_ok cause (read_at text a.faulty) a.why (b.before a.faulty first)

IsFaulty-same : (text : List ℕ) (cause other : TableCause) (place elsewhere : ℕ) → IsFaulty text cause place
    → IsFaulty text other elsewhere → (cause ≡ other) × (place ≡ elsewhere)
IsFaulty-same text cause other place elsewhere a b =
    let front = same_rule text cause other place elsewhere a b in
    let back = same_rule text other cause elsewhere place b a in
    let at : a.faulty ≡ b.faulty = grind (arith, front, back) in (
      Err-same cause other (read_at text a.faulty) a.why (ap (read_at text) at ∙ b.why),
      a.where_it_stands ∙ ap (place_of text) at ∙ sym b.where_it_stands,
    )

-- two states are both the least that lacks a rule for any packet
IsIncomplete-first : (text : List ℕ) (cause other : TableCause) (least elsewhere : ℕ) → IsIncomplete text cause least
    → IsIncomplete text other elsewhere → least < elsewhere → ⊥
IsIncomplete-first text cause other least elsewhere a b first =
    let same : a.rules ≡ b.rules = rules-same text a.rules b.rules a.spelled b.spelled in
    not_true (lacks_any b.rules least) (ap (λ (rs : List Rule). lacks_any rs least) (sym same) ∙ a.lacks) (b.below least first)

IsIncomplete-same : (text : List ℕ) (cause other : TableCause) (least elsewhere : ℕ) → IsIncomplete text cause least
    → IsIncomplete text other elsewhere → (cause ≡ other) × (least ≡ elsewhere)
IsIncomplete-same text cause other least elsewhere a b =
    let front = IsIncomplete-first text cause other least elsewhere a b in
    let back = IsIncomplete-first text other cause elsewhere least b a in
    let at : least ≡ elsewhere = grind (arith, front, back) in
    (a.cause_is ∙ sym b.cause_is, at)

pub IsRefused-same : (text : List ℕ) (cause other : TableCause) (place elsewhere : ℕ) → IsRefused text cause place
    → IsRefused text other elsewhere → (cause ≡ other) × (place ≡ elsewhere)
IsRefused-same text cause other place elsewhere (inl a) (inl b) = IsFaulty-same text cause other place elsewhere a b
IsRefused-same text cause other place elsewhere (inl a) (inr b) = absurd (rules-not_faulty text b.rules cause place b.spelled a)
IsRefused-same text cause other place elsewhere (inr a) (inl b) = absurd (rules-not_faulty text a.rules other elsewhere a.spelled b)
IsRefused-same text cause other place elsewhere (inr a) (inr b) = IsIncomplete-same text cause other place elsewhere a b
