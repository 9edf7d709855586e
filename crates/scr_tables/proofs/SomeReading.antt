-- Any text spells a table, or is refused.
use Rattle.std.proofs.Common.{◌≡◌, ℕ, zero, suc, ◌<◌, ◌≤◌, Bool, true, false, List, [], ◌∷◌, ◌++◌, length, Result, Ok, Err, ◌⊎◌, inl, inr, arith, refl, ap, ◌∙◌}
use Rattle.std.proofs.lemmas.Bool.{cases_lt}
use Rattle.std.proofs.lemmas.List.{length_push}
use Rattle.scr_tables.specs.Rules.{lacks_any}
use Rattle.scr_tables.specs.Spelling.{rule_texts, read_at, place_of, SpellsTable, IsFaulty, IsRefused}
use Rattle.scr_tables.specs.declared.rule.Rule.{Rule}
use Rattle.scr_tables.specs.declared.reading.TableCause.{TableCause}
use Rattle.scr_tables.specs.declared.reading.TableCause.TheVariants.{NoAny}
use Rattle.scr_tables.proofs.Spelled.{ReadsTo, ReadsTo-push, IsFaulty-here, each-from_reads, lacks-beyond}

-- the first rules of a text: they were read, or one of them is refused
record ReadSoFar (text : List ℕ) (k : ℕ) : Type 0 where
  pub rules : List Rule
  pub count : length rules ≡ k
  pub reads : ReadsTo text rules

abbrev Refused : List ℕ → Type 0
Refused text = (cause : TableCause) × (place : ℕ) × IsFaulty text cause place

front : (text : List ℕ) (k : ℕ) → k ≤ length (rule_texts text) → ReadSoFar text k ⊎ Refused text
front text zero within = inl (record { rules = []; count = refl; reads = λ i d below. absurd (omega arith) })
front text (suc k) within = next (front text k (omega arith)) (read_at text k) refl
  where
    next : ReadSoFar text k ⊎ Refused text → (is : Result Rule TableCause) → read_at text k ≡ is → ReadSoFar text (suc k) ⊎ Refused text
    next (inr refused) is same = inr refused
    next (inl read) (Ok rule) same = inl (record {
      rules = read.rules ++ rule ∷ [];
      count = omega (arith, length_push read.rules rule, read.count);
      reads = ReadsTo-push text read.rules rule k read.count same read.reads;
    })
    next (inl read) (Err cause) same = inr (cause, place_of text k, IsFaulty-here text read.rules cause (place_of text k) k read.count (omega arith) same read.reads refl)

-- the least state below a bound that lacks a rule for any packet, if there is one
record Least (rules : List Rule) : Type 0 where
  pub least : ℕ
  pub lacks : lacks_any rules least ≡ true
  pub below : (state : ℕ) → state < least → lacks_any rules state ≡ false

abbrev NoneBelow : List Rule → ℕ → Type 0
NoneBelow rules n = (state : ℕ) → state < n → lacks_any rules state ≡ false

least : (rules : List Rule) (n : ℕ) → NoneBelow rules n ⊎ Least rules
least rules zero = inl (λ state below. absurd (omega arith))
least rules (suc n) = next (least rules n) (lacks_any rules n) refl
  where
    next : NoneBelow rules n ⊎ Least rules → (is : Bool) → lacks_any rules n ≡ is → NoneBelow rules (suc n) ⊎ Least rules
    next (inr found) is same = inr found
    next (inl none) true same = inr (record { least = n; lacks = same; below = none })
    next (inl none) false same = inl (λ state below.
        elim (cases_lt state n) [
          | inl front ↦ none state front
          | inr back ↦ (
              let at : state ≡ n = omega arith in
              ap (lacks_any rules) at ∙ same)
        ])

abbrev HasReading : List ℕ → Type 0
HasReading text = ((rules : List Rule) × SpellsTable text rules) ⊎ ((cause : TableCause) × (place : ℕ) × IsRefused text cause place)

pub some_reading : (text : List ℕ) → HasReading text
some_reading text = from (front text (length (rule_texts text)) (omega arith))
  where
    whole : (read : ReadSoFar text (length (rule_texts text))) → NoneBelow read.rules 16 ⊎ Least read.rules → HasReading text
    whole read (inr found) = inr (
      NoAny,
      found.least,
      inr (record {
        rules = read.rules;
        spelled = record { count = read.count; each = read.reads };
        cause_is = refl;
        lacks = found.lacks;
        below = found.below;
      }),
    )
    whole read (inl none) = inl (
      read.rules,
      record {
        spelled = record { count = read.count; each = read.reads };
        complete = λ state.
            elim (cases_lt state 16) [
              | inl small ↦ none state small
              | inr beyond ↦ lacks-beyond read.rules (each-from_reads text read.rules read.reads) state beyond
            ];
      },
    )

    from : ReadSoFar text (length (rule_texts text)) ⊎ Refused text → HasReading text
    from (inl read) = whole read (least read.rules 16)
    from (inr refused) = inr (refused.0, refused.1, inl refused.2)
