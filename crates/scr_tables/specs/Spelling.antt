-- A table as text: rules parted by commas. A rule is `state:pattern>next/verdict`. States are decimal numbers up to 15.
-- A pattern is `*`, `t`, `u`, `d` with a port up to 65,535, or `f` with flags up to 255; a verdict is `P` or `D`.
-- Numbers have any length, with any zeros in front.
use Rattle.std.specs.Prelude.{◌≡◌, ℕ, ◌+◌, ◌<◌, ◌⊎◌, Bool, true, false, ◌&&◌, ◌||◌, not, List, [], ◌∷◌, length, take, sum_by, Result, Ok, Err, ◌==◌, nat_le, if◌then◌else◌}
use Rattle.std.specs.List.{slice_split, before_first, after_first, slice_index_or}
use Rattle.std.specs.Result.{IsOk}
use Rattle.scr_base.specs.Numbers.{is_number, number_of}
use Rattle.scr_tables.specs.Rules.{greatest_state, most_rules, lacks_any}
use Rattle.scr_tables.specs.declared.rule.Decision.{Decision}
use Rattle.scr_tables.specs.declared.rule.Decision.TheVariants.{Pass, Drop}
use Rattle.scr_tables.specs.declared.rule.Pattern.{Pattern}
use Rattle.scr_tables.specs.declared.rule.Pattern.TheVariants.{Any, Tcp, Udp, Port, Flags}
use Rattle.scr_tables.specs.declared.rule.Rule.{Rule}
use Rattle.scr_tables.specs.declared.reading.TableCause.{TableCause}
use Rattle.scr_tables.specs.declared.reading.TableCause.TheVariants.{Empty, Form, Range, Rules, NoAny}
use Rattle.scr_tables.specs.declared.reading.TableError.{TableError}
use Rattle.scr_tables.specs.declared.reading.TableError.TheVariants.{Refused, OutOfMemory}

-- the texts of the rules, one at least: an empty text is one empty rule
abbrev pub rule_texts : List ℕ → List (List ℕ)
rule_texts text = slice_split (λ byte. byte == 44) text

-- what stands in front of the first of these bytes, or all where there is none; what stands behind it, or nothing
abbrev pub in_front : ℕ → List ℕ → List ℕ
in_front mark text = before_first (λ byte. byte == mark) text

abbrev pub behind : ℕ → List ℕ → List ℕ
behind mark text = after_first (λ byte. byte == mark) text

-- the texts of a rule's parts; where a mark between them is missing, the part behind it is empty, and has no form
pub record Parts : Type 0 where
  pub state : List ℕ
  pub pattern : List ℕ
  pub next : List ℕ
  pub verdict : List ℕ

-- the parts behind the `:`, and behind the `>`
abbrev pub behind_state : List ℕ → List ℕ
behind_state text = behind 58 text

abbrev pub behind_pattern : List ℕ → List ℕ
behind_pattern text = behind 62 (behind_state text)

abbrev pub parts_of : List ℕ → Parts
parts_of text = record {
  state = in_front 58 text;
  pattern = in_front 62 (behind_state text);
  next = in_front 47 (behind_pattern text);
  verdict = behind 47 (behind_pattern text);
}

-- `d` and `f` have a number behind them, and `*`, `t` and `u` nothing
abbrev pub takes_number : ℕ → Bool
takes_number mark = (mark == 100) || (mark == 102)

abbrev pub stands_alone : ℕ → Bool
stands_alone mark = (mark == 42) || ((mark == 116) || (mark == 117))

abbrev pub is_pattern : List ℕ → Bool
is_pattern [] = false
is_pattern (mark ∷ rest) = (takes_number mark && is_number rest) || (stands_alone mark && (length rest == 0))

abbrev pub is_verdict : List ℕ → Bool
is_verdict [] = false
is_verdict (letter ∷ rest) = ((letter == 80) || (letter == 68)) && (length rest == 0)

abbrev pub has_form : Parts → Bool
has_form parts = is_number parts.state && (is_pattern parts.pattern && (is_number parts.next && is_verdict parts.verdict))

-- what the parts say that have their form
abbrev pub pattern_of : List ℕ → Pattern
pattern_of [] = Any
pattern_of (mark ∷ rest) =
    if mark == 100 then Port (number_of rest) else
    (if mark == 102 then Flags (number_of rest) else
    (if mark == 116 then Tcp else
    (if mark == 117 then Udp else Any)))

abbrev pub verdict_of : List ℕ → Decision
verdict_of [] = Drop
verdict_of (letter ∷ rest) = if letter == 80 then Pass else Drop

-- whether its numbers are within their ranges
abbrev pub is_state : ℕ → Bool
is_state number = nat_le number greatest_state

abbrev pub fits : Pattern → Bool
fits Any = true
fits Tcp = true
fits Udp = true
fits (Port port) = nat_le port 65535
fits (Flags flags) = nat_le flags 255

abbrev pub is_in_range : Parts → Bool
is_in_range parts = is_state (number_of parts.state) && (fits (pattern_of parts.pattern) && is_state (number_of parts.next))

abbrev pub rule_of : Parts → Rule
rule_of parts = record {
  state = number_of parts.state;
  pattern = pattern_of parts.pattern;
  next = number_of parts.next;
  verdict = verdict_of parts.verdict;
}

-- the parts of a rule behind so many other rules: the rule, or the first cause of refusal, in this order
abbrev pub parts_read : ℕ → Parts → Result Rule TableCause
parts_read before parts =
    if not (has_form parts) then Err Form else
    (if not (is_in_range parts) then Err Range else
    (if nat_le most_rules before then Err Rules else Ok (rule_of parts)))

abbrev pub rule_read : ℕ → List ℕ → Result Rule TableCause
rule_read before text = if length text == 0 then Err Empty else parts_read before (parts_of text)

-- what the rule at this place in the list of rules reads as
abbrev pub read_at : List ℕ → ℕ → Result Rule TableCause
read_at text i = rule_read i (slice_index_or (rule_texts text) i [])

-- how many bytes stand before it: each rule in front of it, and the comma behind each of these
abbrev pub place_of : List ℕ → ℕ → ℕ
place_of text i = sum_by (λ rule. length rule + 1) (take i (rule_texts text))

-- a text spells these rules: each reads as the one at its place
pub record SpellsRules (text : List ℕ) (rules : List Rule) : Type 0 where
  pub count : length rules ≡ length (rule_texts text)
  pub each : (i : ℕ) (d : Rule) → i < length rules → read_at text i ≡ Ok (slice_index_or rules i d)

-- a text spells a table: its rules, where each state that a run can hold has one for any packet
pub record SpellsTable (text : List ℕ) (rules : List Rule) : Type 0 where
  pub spelled : SpellsRules text rules
  pub complete : (state : ℕ) → lacks_any rules state ≡ false

-- this is the cause and the place of the first rule of a text that is refused
pub record IsFaulty (text : List ℕ) (cause : TableCause) (place : ℕ) : Type 0 where
  pub faulty : ℕ
  pub within : faulty < length (rule_texts text)
  pub before : (i : ℕ) → i < faulty → IsOk (read_at text i)
  pub why : read_at text faulty ≡ Err cause
  pub where_it_stands : place ≡ place_of text faulty

-- this is the least state that lacks a rule for any packet among the rules of a text, of which none is refused
pub record IsIncomplete (text : List ℕ) (cause : TableCause) (least : ℕ) : Type 0 where
  pub rules : List Rule
  pub spelled : SpellsRules text rules
  pub cause_is : cause ≡ NoAny
  pub lacks : lacks_any rules least ≡ true
  pub below : (state : ℕ) → state < least → lacks_any rules state ≡ false

abbrev pub IsRefused : List ℕ → TableCause → ℕ → Type 0
IsRefused text cause place = IsFaulty text cause place ⊎ IsIncomplete text cause place

-- the error of a text of whose rules one is refused
abbrev pub RulesRefused : List ℕ → TableError → Type 0
RulesRefused text (Refused cause place) = IsFaulty text cause place
RulesRefused text (OutOfMemory want) = Unit {0}

-- the error of a text that isn't read
abbrev pub RefusedBy : List ℕ → TableError → Type 0
RefusedBy text (Refused cause place) = IsRefused text cause place
RefusedBy text (OutOfMemory want) = Unit {0}
