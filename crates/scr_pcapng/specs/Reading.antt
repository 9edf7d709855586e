-- The reading of a capture in blocks, from all its bytes at once: the records of its packets, or the first fault. Such a
-- capture begins with the four bytes 0A 0D 0D 0A, and any other is read in the libpcap file format.
use Rattle.std.specs.Prelude.{◌≡◌, ◌≢◌, ℕ, Bool, List, [], ◌∷◌, ◌++◌, Result, Ok, Err, nat_eq, MatchBool}
use Rattle.std.specs.List.{flat_map, starts_with}
use Rattle.scr_pcap.specs.declared.format.Order.TheVariants.{Little}
use Rattle.scr_pcap.specs.Records.{Record}
use Rattle.scr_pcap.specs.Reading as classic
use Rattle.scr_pcapng.specs.declared.error.NgError.{NgError}
use Rattle.scr_pcapng.specs.declared.error.AnyError.{AnyError}
use Rattle.scr_pcapng.specs.declared.error.AnyError.TheVariants.{Classic, Ng, ReadFault, OutOfMemory}
use Rattle.scr_pcapng.specs.Contents.{Position, position_behind, records_in}
use Rattle.scr_pcapng.specs.Blocks.{Block, IsBlock, block_in}

-- these blocks stand at the front of the bytes, one after another, and the rest stands behind them
abbrev pub BeginWith : Position → List Block → List ℕ → List ℕ → Type 0
BeginWith position [] bytes rest = bytes ≡ rest
BeginWith position (b ∷ blocks) bytes rest =
    (behind : List ℕ) × (bytes ≡ b.bytes ++ behind) × IsBlock position b × BeginWith (position_behind position b.content) blocks behind rest

-- where the block behind all these stands
abbrev pub behind_all : Position → List Block → Position
behind_all position [] = position
behind_all position (b ∷ blocks) = behind_all (position_behind position b.content) blocks

-- the records of blocks
abbrev pub block_records : Block → List Record
block_records b = records_in b.content b.bytes

-- no block stands at the front of the bytes
abbrev pub NoBlock : Position → List ℕ → Type 0
NoBlock position bytes = (b : Block) (behind : List ℕ) → bytes ≡ b.bytes ++ behind → IsBlock position b → ⊥

-- at this position stands a rest of which no further block is taken, and this is its fault: the first test that fails
pub record IsFaultyRest (position : Position) (rest : List ℕ) (fault : NgError) : Type 0 where
  pub more : rest ≢ []
  pub longest : NoBlock position rest
  pub first_test : block_in position rest ≡ Err fault

-- blocks spell all the bytes, and these are the records of their packets
pub record IsSpelled (position : Position) (bytes : List ℕ) (records : List Record) : Type 0 where
  pub blocks : List Block
  pub spelled : BeginWith position blocks bytes []
  pub told : records ≡ flat_map block_records blocks

-- as many blocks as there are stand before a rest with a fault
pub record IsCutShort (position : Position) (bytes : List ℕ) (fault : NgError) : Type 0 where
  pub blocks : List Block
  pub rest : List ℕ
  pub spelled : BeginWith position blocks bytes rest
  pub faulty : IsFaultyRest (behind_all position blocks) rest fault

-- the reading of these bytes, from a position on
abbrev pub IsReadingFrom : Position → List ℕ → Result (List Record) NgError → Type 0
IsReadingFrom position bytes (Ok records) = IsSpelled position bytes records
IsReadingFrom position bytes (Err fault) = IsCutShort position bytes fault

-- where the first block stands
abbrev pub START : Position
START = record { blocks = 0; packets = 0; order = Little; interfaces = [] }

-- the four bytes in front of a capture in blocks: the type of a section
abbrev pub SECTION : List ℕ
SECTION = 0x0A ∷ 0x0D ∷ 0x0D ∷ 0x0A ∷ []

abbrev pub is_in_blocks : List ℕ → Bool
is_in_blocks bytes = starts_with nat_eq bytes SECTION

-- the reading in either format, by the causes of both
abbrev pub IsClassicReading : List ℕ → Result (List Record) AnyError → Type 0
IsClassicReading bytes (Ok records) = classic.IsReading bytes (Ok records)
IsClassicReading bytes (Err (Classic fault)) = classic.IsReading bytes (Err fault)
IsClassicReading bytes (Err (Ng fault)) = ⊥
IsClassicReading bytes (Err ReadFault) = ⊥
IsClassicReading bytes (Err (OutOfMemory want)) = ⊥

-- the reading in blocks from a position on
abbrev pub IsRestInBlocks : Position → List ℕ → Result (List Record) AnyError → Type 0
IsRestInBlocks position bytes (Ok records) = IsReadingFrom position bytes (Ok records)
IsRestInBlocks position bytes (Err (Classic fault)) = ⊥
IsRestInBlocks position bytes (Err (Ng fault)) = IsReadingFrom position bytes (Err fault)
IsRestInBlocks position bytes (Err ReadFault) = ⊥
IsRestInBlocks position bytes (Err (OutOfMemory want)) = ⊥

abbrev pub IsBlockReading : List ℕ → Result (List Record) AnyError → Type 0
IsBlockReading bytes reading = IsRestInBlocks START bytes reading

-- the reading of these bytes
abbrev pub IsReading : List ℕ → Result (List Record) AnyError → Type 0
IsReading bytes reading = MatchBool (is_in_blocks bytes) (IsBlockReading bytes reading) (IsClassicReading bytes reading)
