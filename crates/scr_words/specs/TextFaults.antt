-- The faults of texts that are lists of pieces: drop lists and repeat lists, lists of delays, and tables. The first piece that
-- is refused tells its cause, and how many bytes stand before it.
use Rattle.std.specs.Prelude.{ℕ, List, [], ◌∷◌, length, map, Option, Some, None, option_map, option_and_then, Result, Ok, Err, is_err}
use Rattle.std.specs.List.{find, range_with_len}
use Rattle.std.specs.Option.{option_or}
use Rattle.scr_plan.specs.Spelling.{pieces_of, place_of, read_at}
use Rattle.scr_plan.specs.DelaySpelling.{delay_read_at}
use Rattle.scr_tables.specs.Rules.{lacks_any}
use Rattle.scr_tables.specs.Spelling as tables
use Rattle.scr_tables.specs.declared.rule.Rule.{Rule}
use Rattle.scr_tables.specs.declared.reading.TableCause.TheVariants.{NoAny}
use Rattle.scr_words.specs.declared.word_fault.WordCause.{WordCause}
use Rattle.scr_words.specs.declared.word_fault.WordCause.TheVariants as cause

-- the fault of a piece that is refused
abbrev pub refused_with : {A C : Type 0} → (C → ℕ → WordCause) → Result A C → (place : ℕ) → Option WordCause
refused_with told (Ok piece) place = None
refused_with told (Err refusal) place = Some (told refusal place)

-- what pieces read as, each by its number in a text; the first of them that is refused, and its fault
module _ {A C : Type 0} (read : List ℕ → ℕ → Result A C) where
  abbrev pub first_refused : List ℕ → Option ℕ
  first_refused text = find (λ i. is_err (read text i)) (range_with_len 0 (length (pieces_of text)))

  abbrev pub pieces_fault : (C → ℕ → WordCause) → List ℕ → Option WordCause
  pieces_fault told text = option_and_then (λ i. refused_with told (read text i) (place_of text i)) (first_refused text)

  -- an empty list has no pieces
  unfoldable pub list_fault : (C → ℕ → WordCause) → List ℕ → Option WordCause
  list_fault told [] = None
  list_fault told (byte ∷ text) = pieces_fault told (byte ∷ text)

abbrev pub drop_list_fault : List ℕ → Option WordCause
drop_list_fault text = list_fault read_at cause.Drop text

abbrev pub repeat_list_fault : List ℕ → Option WordCause
repeat_list_fault text = list_fault read_at cause.Repeat text

abbrev pub delay_list_fault : List ℕ → Option WordCause
delay_list_fault text = list_fault delay_read_at cause.Delay text

-- the rules of a table, where none is refused
abbrev pub rules_in : List ℕ → List Rule
rules_in text = map (λ rule. tables.rule_of (tables.parts_of rule)) (tables.rule_texts text)

-- the least of the sixteen states that can be held and has no rule for any packet
abbrev pub least_lacking : List Rule → Option ℕ
least_lacking rules = find (lacks_any rules) (range_with_len 0 16)

unfoldable pub table_fault : List ℕ → Option WordCause
table_fault text = option_or
    (pieces_fault tables.read_at cause.Table text)
    (option_map (cause.Table NoAny) (least_lacking (rules_in text)))
