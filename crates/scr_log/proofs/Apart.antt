-- The places of the words: no two are the same.
use Rattle.std.proofs.Common.{◌≡◌, ◌≢◌, ℕ, ◌+◌, ◌-◌, ◌*◌, ◌/◌, ◌%◌, ◌<◌, ◌≤◌, ◌⊎◌, inl, inr, sym, ap, arith, mul-le-mul_right, suc-mul, suc}
use Rattle.std.proofs.Math.Nat.{mod-eq_of_lt, div-add-mod}
use Rattle.std.proofs.lemmas.Nat.{mod-mul-add}
use mathlib.Core.Logic.{dite}
use native.Mathlib.Decide.{dec_lt}
use Rattle.atomic_table.proofs.Lists.{one_turn}
use Rattle.scr_log.specs.Layout.{core_size, word_count, tag_offset, data_offset, finished_offset, place, claim_place, halt_place}

-- numbers a * n + x with x below n: a greater a gives a greater number
further : (a b n : ℕ) → a < b → a * n + n ≤ b * n
further a b n less = let more : suc a * n ≤ b * n = mul-le-mul_right n less in omega (arith, suc-mul a n)

apart_below : (size core other offset next : ℕ) → offset < size → next < size → core < other
    → core * size + offset ≡ other * size + next → core ≡ other
apart_below size core other offset next a b less same = let more = further core other size less in absurd (omega arith)

apart_by : (size core other offset next : ℕ) → offset < size → next < size
    → core * size + offset ≡ other * size + next → Dec (core < other) → Dec (other < core) → core ≡ other
apart_by size core other offset next a b same (yes less) _ = apart_below size core other offset next a b less same
apart_by size core other offset next a b same (no _) (yes more) = sym (apart_below size other core next offset b a more (sym same))
apart_by size core other offset next a b same (no less) (no more) = omega arith

-- two words of cores that have one place are of one core
pub place-core : (slots core other offset next : ℕ) → offset < core_size slots → next < core_size slots
    → place slots core offset ≡ place slots other next → core ≡ other
unfolding place
place-core slots core other offset next a b same =
    apart_by (8 * slots + 1) core other offset next a b same (dec_lt core other) (dec_lt other core)

-- and at one offset
pub place-offset : (slots core offset next : ℕ) → place slots core offset ≡ place slots core next → offset ≡ next
unfolding place
place-offset slots core offset next same = omega arith

-- the words of the cores stand in front of the claim word, and that in front of the halt word
pub place-below : (cores slots core offset : ℕ) → core < cores → offset < core_size slots
    → place slots core offset < claim_place cores slots
unfolding place claim_place
place-below cores slots core offset less within =
    let more = further core cores (8 * slots + 1) less in omega arith

pub claim_place-below : (cores slots : ℕ) → claim_place cores slots < halt_place cores slots
unfolding claim_place halt_place
claim_place-below cores slots = omega arith

pub halt_place-below : (cores slots : ℕ) → halt_place cores slots < word_count cores slots
unfolding halt_place
halt_place-below cores slots = omega arith

-- the offsets of a core's words
module _ (slots : ℕ) (some : 0 < slots) where
  pub tag_offset-below : (q : ℕ) → tag_offset slots q < core_size slots
  unfolding tag_offset
  tag_offset-below q = omega arith

  pub data_offset-below : (q i : ℕ) → i < 7 → data_offset slots q i < core_size slots
  unfolding data_offset
  data_offset-below q i few = omega arith

  pub finished_offset-below : finished_offset slots < core_size slots
  unfolding finished_offset
  finished_offset-below = omega arith

  pub tag-finished : (q : ℕ) → tag_offset slots q ≢ finished_offset slots
  unfolding tag_offset finished_offset
  tag-finished q same = omega arith

  pub data-finished : (q i : ℕ) → i < 7 → data_offset slots q i ≢ finished_offset slots
  unfolding data_offset finished_offset
  data-finished q i few same = omega arith

  pub tag-data : (q r i : ℕ) → i < 7 → tag_offset slots q ≢ data_offset slots r i
  unfolding tag_offset data_offset
  tag-data q r i few same = omega arith

  pub tag-tag : (q r : ℕ) → tag_offset slots q ≡ tag_offset slots r → q % slots ≡ r % slots
  unfolding tag_offset
  tag-tag q r same = omega arith

  pub data-slot : (q i r j : ℕ) → i < 7 → j < 7 → data_offset slots q i ≡ data_offset slots r j → q % slots ≡ r % slots
  unfolding data_offset
  data-slot q i r j a b same = omega arith

  pub data-word : (q i r j : ℕ) → i < 7 → j < 7 → data_offset slots q i ≡ data_offset slots r j → i ≡ j
  unfolding data_offset
  data-word q i r j a b same = omega arith

  -- two numbers less than a turn apart have two slots
  pub slot-apart : (q u : ℕ) → q < u → u < q + slots → q % slots ≢ u % slots
  slot-apart q u less more same = let one : q ≡ u = one_turn q u slots (omega arith) more same in omega arith

  -- the numbers of the first turn
  pub slot-first : (q : ℕ) → q < slots → q % slots ≡ q
  slot-first q less = mod-eq_of_lt less

-- a slot holds nothing below u, or there is a last number below u in it
last_of : (slots q u : ℕ) → 0 < slots → q % slots < u
    → (r : ℕ) × (r < u) × (u ≤ r + slots) × (r % slots ≡ q % slots)
last_of slots q u some more =
    let before : ℕ = u - 1 - q % slots in
    let whole = div-add-mod before slots in
    let turns : ℕ = before / slots in
    let left : ℕ = before % slots in
    let few : left < slots = omega arith in
    let slot : ℕ = q % slots in
    let below : slot < slots = omega arith in
    let sum : slots * turns + left ≡ before = whole in
    let swap : turns * slots ≡ slots * turns = omega arith in
    (turns * slots + slot, omega arith, omega arith, mod-mul-add turns slots slot below)

pub last_in : (slots q u : ℕ) → 0 < slots
    → (u ≤ q % slots) ⊎ ((r : ℕ) × (r < u) × (u ≤ r + slots) × (r % slots ≡ q % slots))
last_in slots q u some =
    dite (dec_lt (q % slots) u) (λ more. inr (last_of slots q u some more)) (λ less. inl (omega arith))

-- a slot is that of its own number in the first turn, and two numbers in one slot have one place
pub tag_offset-slot : (slots q r : ℕ) → q % slots ≡ r % slots → tag_offset slots q ≡ tag_offset slots r
unfolding tag_offset
tag_offset-slot slots q r same = ap (λ (slot : ℕ). 8 * slot) same
