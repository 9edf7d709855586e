-- The faults of lists and tables, from what they spell and from what refuses them; and what a text without a fault spells.
use Rattle.std.proofs.Common.{◌≡◌, ◌⊎◌, inl, inr, ℕ, zero, suc, ◌+◌, ◌<◌, ◌≤◌, List, [], ◌∷◌, length, get_or, Bool, true, false, cond, leb, not, Result, Ok, Err, Option, Some, None, refl, sym, ap, ◌∙◌, subst, arith}
use Rattle.std.specs.Prelude.{is_err}
use Rattle.std.specs.List.{find, range_with_len}
use Rattle.std.specs.Result.{IsOk}
use Rattle.std.proofs.lemmas.Bool.{cases_lt}
use Rattle.std.proofs.lemmas.List.{same_lists, get_or-map, length-map}
use Rattle.scr_plan.specs.Spelling.{pieces_of, place_of, read_at, SpellsRanges, IsRefused}
use Rattle.scr_plan.specs.DelaySpelling.{delay_read_at, SpellsDelays, IsDelayRefused}
use Rattle.scr_plan.specs.declared.drops.DropRange.{DropRange}
use Rattle.scr_plan.specs.declared.delays.FrameDelay.{FrameDelay}
use Rattle.scr_plan.specs.declared.reading.DropCause.{DropCause}
use Rattle.scr_plan.specs.declared.reading_delays.DelayCause.{DelayCause}
use Rattle.scr_tables.specs.Rules.{most_rules, lacks_any}
use Rattle.scr_tables.specs.Spelling as tables
use Rattle.scr_tables.specs.declared.rule.Rule.{Rule}
use Rattle.scr_tables.specs.declared.reading.TableCause.{TableCause}
use Rattle.scr_tables.specs.declared.reading.TableCause.TheVariants.{Empty, Form, Range, Rules}
use Rattle.scr_tables.proofs.Spelled.{some_rule, lacks-beyond, each-from_reads}
use Rattle.scr_tables.proofs.SomeReading.{some_reading}
use Rattle.scr_words.specs.declared.word_fault.WordCause.{WordCause}
use Rattle.scr_words.specs.declared.word_fault.WordCause.TheVariants.{Table}
use Rattle.scr_words.specs.TextFaults.{pieces_fault, list_fault, rules_in, table_fault}

none-some : (a : WordCause) (x : Option WordCause) → x ≡ None → x ≡ Some a → ⊥
none-some a x none some = cc

-- the least number of some that passes a test
find-none : (test : ℕ → Bool) (first count : ℕ) → ((n : ℕ) → n < first + count → test n ≡ false) → find test (range_with_len first count) ≡ None
find-none test first zero none = refl
find-none test first (suc count) none = rw (none first (omega arith)) (find-none test (first + 1) count (λ n below. none n (omega (arith, below))))

find-least : (test : ℕ → Bool) (first count least : ℕ) → first ≤ least → least < first + count → test least ≡ true
    → ((n : ℕ) → n < least → test n ≡ false) → find test (range_with_len first count) ≡ Some least
find-least test first zero least from below passes before = absurd (omega arith)
find-least test first (suc count) least from below passes before =
    elim (cases_lt first least) [
      | inl front ↦ rw (before first front) (find-least test (first + 1) count least (omega arith) (omega arith) passes before)
      | inr back ↦ (
          let here : first ≡ least = omega arith in
          rw (ap test here ∙ passes) (ap Some here))
    ]

module _ {A C : Type 0} where
  Ok-is : (read : Result A C) (piece : A) → read ≡ Ok piece → IsOk read
  Ok-is read piece is = subst IsOk (sym is) refl

  is_err-no : (read : Result A C) → IsOk read → is_err read ≡ false
  is_err-no (Ok piece) ok = refl
  is_err-no (Err refusal) ok = absurd cc

  -- what pieces read as that are all read
  record AreRead (read : ℕ → Result A C) (count : ℕ) : Type 0 where
    items : List A
    many : length items ≡ count
    each : (i : ℕ) (d : A) → i < count → read i ≡ Ok (get_or items i d)

  one-more : (read : ℕ → Result A C) (count : ℕ) (piece : A) → read 0 ≡ Ok piece → AreRead (λ i. read (suc i)) count → AreRead read (suc count)
  one-more read count piece is rest = record { items = piece ∷ rest.items; many = ap suc rest.many; each = each }
    where
      each : (i : ℕ) (d : A) → i < suc count → read i ≡ Ok (get_or (piece ∷ rest.items) i d)
      each zero d below = is
      each (suc i) d below = rest.each i d (omega (arith, below))

  -- pieces are all read, or there is a first one that is refused
  record HasRefused (read : ℕ → Result A C) (count : ℕ) : Type 0 where
    faulty : ℕ
    refusal : C
    within : faulty < count
    before : (i : ℕ) → i < faulty → IsOk (read i)
    why : read faulty ≡ Err refusal

  read-all : (read : ℕ → Result A C) (count : ℕ) → AreRead read count ⊎ HasRefused read count
  read-all read zero = inl (record { items = []; many = refl; each = λ i d below. absurd (omega arith) })
  read-all read (suc count) = by (read 0) refl (read-all (λ i. read (suc i)) count)
    where
      later : (piece : A) → read 0 ≡ Ok piece → (rest : HasRefused (λ i. read (suc i)) count) → (i : ℕ) → i < suc rest.faulty → IsOk (read i)
      later piece is rest zero front = Ok-is (read 0) piece is
      later piece is rest (suc i) front = rest.before i (omega (arith, front))

      by : (first : Result A C) → read 0 ≡ first → AreRead (λ i. read (suc i)) count ⊎ HasRefused (λ i. read (suc i)) count
          → AreRead read (suc count) ⊎ HasRefused read (suc count)
      by (Err refusal) is rest =
          inr (record { faulty = 0; refusal = refusal; within = omega arith; before = λ i front. absurd (omega (arith, front)); why = is })
      by (Ok piece) is (inl rest) = inl (one-more read count piece is rest)
      by (Ok piece) is (inr rest) =
          inr (record { faulty = suc rest.faulty; refusal = rest.refusal; within = omega (arith, rest.within); before = later piece is rest; why = rest.why })

  -- what pieces read as is one list
  same-read : (read : ℕ → Result A C) (a b : List A) → length a ≡ length b → ((i : ℕ) (d : A) → i < length a → read i ≡ Ok (get_or a i d))
      → ((i : ℕ) (d : A) → i < length b → read i ≡ Ok (get_or b i d)) → a ≡ b
  same-read read a b long reads_a reads_b =
      same_lists a b long (λ i d within. Ok-same (get_or a i d) (get_or b i d) (read i) (reads_a i d within) (reads_b i d (omega (arith, within, long))))
    where
      Ok-same : (a b : A) (x : Result A C) → x ≡ Ok a → x ≡ Ok b → a ≡ b
      Ok-same a b x is_a is_b = cc

module _ {A C : Type 0} (read : List ℕ → ℕ → Result A C) (told : C → ℕ → WordCause) where
  pieces-none : (text : List ℕ) → ((i : ℕ) → i < length (pieces_of text) → IsOk (read text i)) → pieces_fault read told text ≡ None
  pieces-none text reads =
      rw (find-none (λ i. is_err (read text i)) 0 (length (pieces_of text)) (λ i below. is_err-no (read text i) (reads i (omega (arith, below))))) refl

  pieces-refused : (text : List ℕ) (faulty place : ℕ) (refusal : C) → faulty < length (pieces_of text)
      → ((i : ℕ) → i < faulty → IsOk (read text i)) → read text faulty ≡ Err refusal → place ≡ place_of text faulty
      → pieces_fault read told text ≡ Some (told refusal place)
  pieces-refused text faulty place refusal within before why at =
      let first = find-least (λ i. is_err (read text i)) 0 (length (pieces_of text)) faulty (omega arith) (omega (arith, within)) (ap is_err why)
      (λ i front. is_err-no (read text i) (before i front)) in
      rw (first, why) (ap (λ (n : ℕ). Some (told refusal n)) (sym at))

  -- pieces without a fault are all read
  pieces-read : (text : List ℕ) → pieces_fault read told text ≡ None → AreRead (read text) (length (pieces_of text))
  pieces-read text none = by (read-all (read text) (length (pieces_of text)))
    where
      by : AreRead (read text) (length (pieces_of text)) ⊎ HasRefused (read text) (length (pieces_of text)) → AreRead (read text) (length (pieces_of text))
      by (inl all) = all
      by (inr it) = absurd (none-some _ _ none (pieces-refused text it.faulty (place_of text it.faulty) it.refusal it.within it.before it.why refl))

  -- an empty list has no fault
  pub list_fault-empty : list_fault read told [] ≡ None
  unfolding list_fault
  list_fault-empty = refl

-- drop lists, and lists of repeats
module _ (told : DropCause → ℕ → WordCause) where
  pub ranges-none : (text : List ℕ) (ranges : List DropRange) → SpellsRanges text ranges → list_fault read_at told text ≡ None
  unfolding list_fault
  ranges-none [] ranges spells = refl
  ranges-none (byte ∷ text) ranges spells =
      let d : DropRange = record { first = 0; last = 0; step = 0 } in
      pieces-none read_at told (byte ∷ text) (λ i below. Ok-is _ (get_or ranges i d) (spells.each i d (omega (arith, spells.count))))

  pub ranges-refused : (text : List ℕ) (refusal : DropCause) (place : ℕ) → IsRefused text refusal place
      → list_fault read_at told text ≡ Some (told refusal place)
  unfolding list_fault
  ranges-refused [] refusal place refused = absurd (omega (arith, refused.some))
  ranges-refused (byte ∷ text) refusal place refused =
      pieces-refused read_at told (byte ∷ text) refused.faulty place refusal refused.within refused.before refused.why refused.where_it_stands

  pub ranges-some : (text : List ℕ) → list_fault read_at told text ≡ None → (ranges : List DropRange) × SpellsRanges text ranges
  unfolding list_fault
  ranges-some [] none = ([], refl)
  ranges-some (byte ∷ text) none =
      let all = pieces-read read_at told (byte ∷ text) none in
      (all.items, record { count = all.many; each = λ i d below. all.each i d (omega (arith, below, all.many)) })

-- lists of delays
module _ (told : DelayCause → ℕ → WordCause) where
  pub delays-none : (text : List ℕ) (delays : List FrameDelay) → SpellsDelays text delays → list_fault delay_read_at told text ≡ None
  unfolding list_fault
  delays-none [] delays spells = refl
  delays-none (byte ∷ text) delays spells =
      let d : FrameDelay = record { frame = 0; steps = 0 } in
      pieces-none delay_read_at told (byte ∷ text) (λ i below. Ok-is _ (get_or delays i d) (spells.each i d (omega (arith, spells.count))))

  pub delays-refused : (text : List ℕ) (refusal : DelayCause) (place : ℕ) → IsDelayRefused text refusal place
      → list_fault delay_read_at told text ≡ Some (told refusal place)
  unfolding list_fault
  delays-refused [] refusal place refused = absurd (omega (arith, refused.some))
  delays-refused (byte ∷ text) refusal place refused =
      pieces-refused delay_read_at told (byte ∷ text) refused.faulty place refusal refused.within refused.before refused.why refused.where_it_stands

  pub delays-some : (text : List ℕ) → list_fault delay_read_at told text ≡ None → (delays : List FrameDelay) × SpellsDelays text delays
  unfolding list_fault
  delays-some [] none = ([], refl)
  delays-some (byte ∷ text) none =
      let all = pieces-read delay_read_at told (byte ∷ text) none in
      (all.items, record { count = all.many; each = λ i d below. all.each i d (omega (arith, below, all.many)) })

pub delays-same : (text : List ℕ) (a b : List FrameDelay) → SpellsDelays text a → SpellsDelays text b → a ≡ b
delays-same [] a b spells_a spells_b = spells_a ∙ sym spells_b
delays-same (byte ∷ text) a b spells_a spells_b =
    same-read (delay_read_at (byte ∷ text)) a b (spells_a.count ∙ sym spells_b.count) spells_a.each spells_b.each

-- a rule that is read is what its parts say
unless : (b : Bool) (cause : TableCause) (rest : Result Rule TableCause) (rule : Rule) → cond b (Err cause) rest ≡ Ok rule → rest ≡ Ok rule
unless true cause rest rule same = absurd cc
unless false cause rest rule same = same

Ok-same : (a b : Rule) → ◌≡◌ {A = Result Rule TableCause} (Ok a) (Ok b) → a ≡ b
Ok-same a b same = cc

rule-is : (before : ℕ) (text : List ℕ) (rule : Rule) → tables.rule_read before text ≡ Ok rule → tables.rule_of (tables.parts_of text) ≡ rule
rule-is before text rule read =
    let parts = tables.parts_of text in
    let few : Result Rule TableCause = cond (leb most_rules before) (Err Rules) (Ok (tables.rule_of parts)) in
    let within : Result Rule TableCause = cond (not (tables.is_in_range parts)) (Err Range) few in
    Ok-same (tables.rule_of parts) rule
    (unless (leb most_rules before) Rules (Ok (tables.rule_of parts)) rule
    (unless (not (tables.is_in_range parts)) Range few rule
    (unless (not (tables.has_form parts)) Form within rule (unless _ _ _ rule read))))

rules-are : (text : List ℕ) (rules : List Rule) → tables.SpellsRules text rules → rules_in text ≡ rules
rules-are text rules spelled =
    let say : List ℕ → Rule = λ rule. tables.rule_of (tables.parts_of rule) in
    let texts = tables.rule_texts text in
    let long : length (rules_in text) ≡ length rules = length-map texts say ∙ sym spelled.count in
    same_lists (rules_in text) rules long
    (λ i d below.
    let within : i < length rules = omega (arith, below, long) in
    get_or-map say texts i [] d (omega (arith, within, spelled.count))
    ∙ rule-is i (get_or texts i []) (get_or rules i d) (spelled.each i d within))

-- an empty text has an empty rule
pub table_fault-empty : table_fault [] ≡ Some (Table Empty 0)
unfolding table_fault
table_fault-empty = refl

pub table_fault-none : (text : List ℕ) (rules : List Rule) → tables.SpellsTable text rules → table_fault text ≡ None
unfolding table_fault
table_fault-none text rules spells =
    let pieces = pieces-none tables.read_at Table text (λ i below. Ok-is _ (get_or rules i some_rule) (spells.spelled.each i some_rule (omega (arith, spells.spelled.count)))) in
    let lacking = find-none (lacks_any rules) 0 16 (λ state below. spells.complete state) in
    rw (pieces, rules-are text rules spells.spelled, lacking) refl

faulty-refused : (text : List ℕ) (refusal : TableCause) (place : ℕ) → tables.IsFaulty text refusal place
    → table_fault text ≡ Some (Table refusal place)
unfolding table_fault
faulty-refused text refusal place faulty =
    rw (pieces-refused tables.read_at Table text faulty.faulty place refusal faulty.within faulty.before faulty.why faulty.where_it_stands) refl

least-small : (text : List ℕ) (rules : List Rule) (least : ℕ) → tables.SpellsRules text rules → lacks_any rules least ≡ true → least < 16
least-small text rules least spelled lacks =
    elim (cases_lt least 16) [
      | inl small ↦ small
      | inr beyond ↦ absurd (true-false (lacks_any rules least) lacks (lacks-beyond rules (each-from_reads text rules spelled.each) least beyond))
    ]
  where
    true-false : (b : Bool) → b ≡ true → b ≡ false → ⊥
    true-false b is isnt = cc

incomplete-refused : (text : List ℕ) (refusal : TableCause) (place : ℕ) → tables.IsIncomplete text refusal place
    → table_fault text ≡ Some (Table refusal place)
unfolding table_fault
incomplete-refused text refusal place lacking =
    let rules = lacking.rules in
    let pieces = pieces-none tables.read_at Table text (λ i below. Ok-is _ (get_or rules i some_rule) (lacking.spelled.each i some_rule (omega (arith, lacking.spelled.count)))) in
    let least = find-least (lacks_any rules) 0 16 place (omega arith) (least-small text rules place lacking.spelled lacking.lacks) lacking.lacks lacking.below in
    rw (pieces, rules-are text rules lacking.spelled, least, lacking.cause_is) refl

pub table_fault-refused : (text : List ℕ) (refusal : TableCause) (place : ℕ) → tables.IsRefused text refusal place
    → table_fault text ≡ Some (Table refusal place)
table_fault-refused text refusal place (inl faulty) = faulty-refused text refusal place faulty
table_fault-refused text refusal place (inr lacking) = incomplete-refused text refusal place lacking

-- a table without a fault spells some rules
pub table-some : (text : List ℕ) → table_fault text ≡ None → (rules : List Rule) × tables.SpellsTable text rules
table-some text none = by (some_reading text)
  where
    by : ((rules : List Rule) × tables.SpellsTable text rules) ⊎ ((cause : TableCause) × (place : ℕ) × tables.IsRefused text cause place)
        → (rules : List Rule) × tables.SpellsTable text rules
    by (inl spelled) = spelled
    by (inr (cause, place, refused)) = absurd (none-some (Table cause place) (table_fault text) none (table_fault-refused text cause place refused))
