-- A list of bytes has a reading.
use Rattle.std.proofs.Common.{◌≡◌, ◌≢◌, ◌⊎◌, ℕ, zero, suc, ◌≤◌, Bool, true, false, List, [], ◌∷◌, ◌++◌, length, Result, Ok, Err, MatchBool, refl, ap, subst, inl, inr, arith}
use Rattle.std.proofs.lemmas.List.{length-append}
use Rattle.std.specs.List.{flat_map}
use Rattle.scr_pcap.specs.declared.error.CaptureError.{CaptureError}
use Rattle.scr_pcap.specs.Records.{Record}
use Rattle.scr_pcap.specs.Reading as classic
use Rattle.scr_pcap.proofs.SomeReading as classic_some
use Rattle.scr_pcapng.specs.declared.error.NgError.{NgError}
use Rattle.scr_pcapng.specs.declared.error.AnyError.{AnyError}
use Rattle.scr_pcapng.specs.declared.error.AnyError.TheVariants.{Classic, Ng}
use Rattle.scr_pcapng.specs.Contents.{Position, position_behind}
use Rattle.scr_pcapng.specs.Blocks.{Block, block_in}
use Rattle.scr_pcapng.specs.Reading.{BeginWith, IsBlockReading, IsClassicReading, IsFaultyRest, IsReading, IsReadingFrom, START, behind_all, block_records, is_in_blocks}
use Rattle.scr_pcapng.proofs.Fronts.{IsFront, IsWhole-alone, IsBlock-long, NoBlock-from_fault, block_in-front}

-- blocks up to the end or to a fault
record Split (position : Position) (bytes : List ℕ) : Type 0 where
  blocks : List Block
  rest : List ℕ
  spelled : BeginWith position blocks bytes rest
  stops : (rest ≡ []) ⊎ ((fault : NgError) × IsFaultyRest (behind_all position blocks) rest fault)

faulty : (position : Position) (bytes : List ℕ) (fault : NgError) → bytes ≢ [] → block_in position bytes ≡ Err fault → Split position bytes
faulty position bytes fault some refused = record {
  blocks = [];
  rest = bytes;
  spelled = refl;
  stops = inr (fault, record { more = some; longest = NoBlock-from_fault position bytes fault refused; first_test = refused });
}

front_or_fault_at : (position : Position) (bytes : List ℕ) (block : Result Block NgError) → block_in position bytes ≡ block
    → ((b : Block) × IsFront position bytes b) ⊎ ((fault : NgError) × (block_in position bytes ≡ Err fault))
front_or_fault_at position bytes (Ok b) told = inl (b, block_in-front position bytes b told)
front_or_fault_at position bytes (Err fault) told = inr (fault, told)

front_or_fault : (position : Position) (bytes : List ℕ) → ((b : Block) × IsFront position bytes b) ⊎ ((fault : NgError) × (block_in position bytes ≡ Err fault))
front_or_fault position bytes = front_or_fault_at position bytes (block_in position bytes) refl

shorter : (byte room : ℕ) (bytes first behind : List ℕ) → length (byte ∷ bytes) ≤ suc room → byte ∷ bytes ≡ first ++ behind → 8 ≤ length first → length behind ≤ room
shorter byte room bytes first behind within parts long =
    let count : length (byte ∷ bytes) ≡ length (first ++ behind) = ap length parts in
    let sum = length-append first behind in
    omega arith

-- by so many bytes at most
split : (room : ℕ) (position : Position) (bytes : List ℕ) → length bytes ≤ room → Split position bytes
split room position [] within = record { blocks = []; rest = []; spelled = refl; stops = inl refl }
split zero position (byte ∷ bytes) within = absurd (omega arith)
split (suc room) position (byte ∷ bytes) within =
    elim (front_or_fault position (byte ∷ bytes)) [
      | inr refused ↦ faulty position (byte ∷ bytes) refused.0 (λ none. cc) refused.1
      | inl found ↦
          let b = found.0 in
          let front = found.1 in
          let is = IsWhole-alone position b.bytes b front.whole in
          let more = split room (position_behind position b.content) front.behind
          (shorter byte room bytes b.bytes front.behind within front.parts (IsBlock-long position b is)) in
          record {
            blocks = b ∷ more.blocks;
            rest = more.rest;
            spelled = (front.behind, front.parts, is, more.spelled);
            stops = more.stops;
          }
    ]

abbrev SomeFrom : Position → List ℕ → Type 0
SomeFrom position bytes = (reading : Result (List Record) NgError) × IsReadingFrom position bytes reading

pub some_from : (position : Position) (bytes : List ℕ) → (reading : Result (List Record) NgError) × IsReadingFrom position bytes reading
some_from position bytes =
    let parts = split (length bytes) position bytes (omega arith) in
    elim parts.stops as (λ _. SomeFrom position bytes) [
      | inl end ↦ (
        Ok (flat_map block_records parts.blocks),
        record { blocks = parts.blocks; spelled = subst (BeginWith position parts.blocks bytes) end parts.spelled; told = refl },
      )
      | inr cut ↦ (Err cut.0, record { blocks = parts.blocks; rest = parts.rest; spelled = parts.spelled; faulty = cut.1 })
    ]

abbrev SomeReading : List ℕ → Type 0
SomeReading bytes = (reading : Result (List Record) AnyError) × IsReading bytes reading

abbrev SomeIn : Bool → List ℕ → Type 0
SomeIn format bytes = (reading : Result (List Record) AnyError) × MatchBool format (IsBlockReading bytes reading) (IsClassicReading bytes reading)

from_blocks : (bytes : List ℕ) (reading : Result (List Record) NgError) → IsReadingFrom START bytes reading → SomeIn true bytes
from_blocks bytes (Ok records) is = (Ok records, is)
from_blocks bytes (Err fault) is = (Err (Ng fault), is)

from_classic : (bytes : List ℕ) (reading : Result (List Record) CaptureError) → classic.IsReading bytes reading → SomeIn false bytes
from_classic bytes (Ok records) is = (Ok records, is)
from_classic bytes (Err fault) is = (Err (Classic fault), is)

by_format : (format : Bool) (bytes : List ℕ) → SomeIn format bytes
by_format true bytes = let found = some_from START bytes in from_blocks bytes found.0 found.1
by_format false bytes = let found = classic_some.some_reading bytes in from_classic bytes found.0 found.1

pub some_reading : (bytes : List ℕ) → (reading : Result (List Record) AnyError) × IsReading bytes reading
some_reading bytes = by_format (is_in_blocks bytes) bytes
