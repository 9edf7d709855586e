-- A block that is taken in parts from a source.
use Rattle.std.specs.Prelude.{◌≡◌, ◌≢◌, ℕ, ◌+◌, ◌-◌, ◌++◌, None, ◌≤◌, List, length, take, Option, Some, Result, Ok, Err, IfSome, IfErr, ⊤}
use Rattle.std.specs.Io.KnownBytes.{Consumes, IsAtEnd}
use Rattle.scr_pcap.specs.declared.format.Order.{Order}
use Rattle.scr_pcap.specs.Header.{number_at}
use Rattle.scr_pcapng.specs.declared.kind.Kind.{Kind}
use Rattle.scr_pcapng.specs.declared.content.Content.{Content}
use Rattle.scr_pcapng.specs.declared.error.AnyError.{AnyError}
use Rattle.scr_pcapng.specs.declared.error.AnyError.TheVariants.{Classic, Ng, ReadFault, OutOfMemory}
use Rattle.scr_pcapng.specs.declared.kind.Kind.TheVariants.{SectionHeader, InterfaceDescription, SimplePacket, EnhancedPacket, Other}
use Rattle.scr_pcapng.specs.declared.error.NgError.{NgError}
use Rattle.scr_pcapng.specs.declared.error.NgError.TheVariants.{Cut}
use Rattle.scr_pcapng.specs.declared.options.Found.{Found}
use Rattle.scr_pcapng.specs.declared.options.Found.TheVariants as found
use Rattle.scr_pcapng.specs.Options.{unit_in}
use Rattle.scr_pcapng.specs.Contents.{Position, captured_by, records_in, records_with}
use Rattle.scr_pcapng.specs.Blocks.{BLOCKS, IsBlock, front_of, head_of, kind_in, order_in, total_in}
use Rattle.scr_pcapng.specs.Reading.{IsFaultyRest}

-- a source gave so many bytes
pub record TakesBytes (old new : Option (List ℕ)) (size : ℕ) : Type 0 where
  pub bytes : List ℕ
  pub taken : Consumes old new bytes
  pub all : length bytes ≡ size

-- a source gave so many bytes, of which the last four tell this number
pub record TakesTail (old new : Option (List ℕ)) (order : Order) (size told : ℕ) : Type 0 where
  pub bytes : List ℕ
  pub taken : Consumes old new bytes
  pub all : length bytes ≡ size
  pub number : told ≡ number_at order (size - 4) 4 bytes

-- a source gave so many bytes of options, which tell this unit
pub record TakesUnit (old new : Option (List ℕ)) (order : Order) (size : ℕ) (unit : Option ℕ) : Type 0 where
  pub bytes : List ℕ
  pub taken : Consumes old new bytes
  pub all : length bytes ≡ size
  pub told : unit ≡ unit_in order bytes

-- the block in front has this kind, order and total length
pub record IsHead (position : Position) (bytes : List ℕ) (kind : Kind) (order : Order) (total : ℕ) : Type 0 where
  pub few : position.blocks ≢ BLOCKS
  pub kind_told : kind ≡ kind_in position bytes
  pub front : front_of kind ≤ length bytes
  pub order_told : order_in position kind bytes ≡ Some order
  pub total_told : total ≡ total_in order bytes

-- an error that is a cause of the capture is the fault of the block that stands there
abbrev pub IsFaultOf : Position → Option (List ℕ) → AnyError → Type 0
IsFaultOf position front (Classic fault) = ⊥
IsFaultOf position front (Ng fault) = IfSome front (λ bytes. IsFaultyRest position bytes fault)
IsFaultOf position front ReadFault = ⊤
IsFaultOf position front (OutOfMemory want) = ⊤

abbrev pub IsFaultAt : {T : Type 0} → Position → Option (List ℕ) → Result T AnyError → Type 0
IsFaultAt position front result = IfErr result (IsFaultOf position front)

-- how many bytes of options an interface has
abbrev pub options_size : Kind → (total : ℕ) → ℕ
options_size SectionHeader total = 0
options_size InterfaceDescription total = total - 20
options_size SimplePacket total = 0
options_size EnhancedPacket total = 0
options_size Other total = 0

-- a source gave the options of an interface, which tell this unit, or nothing
pub record TakesOptions (old new : Option (List ℕ)) (kind : Kind) (order : Order) (total : ℕ) (unit : Option ℕ) : Type 0 where
  pub bytes : List ℕ
  pub taken : Consumes old new bytes
  pub all : length bytes ≡ options_size kind total
  pub told : kind ≡ InterfaceDescription → unit ≡ unit_in order bytes

-- a source gave the block that stands there, with this content and, of a packet, these bytes
pub record TakesBlock (position : Position) (old new : Option (List ℕ)) (content : Content) (frame : List ℕ) : Type 0 where
  pub bytes : List ℕ
  pub taken : Consumes old new bytes
  pub is : IfSome old (λ _. IsBlock position (record { bytes = bytes; content = content }))
  pub told : records_in content bytes ≡ records_with content frame

-- a source has given the head of the block that stands there
pub record HasGivenHead (position : Position) (old new : Option (List ℕ)) (kind : Kind) (order : Order) (total : ℕ) (head : List ℕ) : Type 0 where
  pub is : IfSome old (λ bytes. IsHead position bytes kind order total)
  pub taken : Consumes old new (take (head_of kind) head)

-- why bytes of the block with this number weren't taken: the end, or a failure of the source
abbrev pub IsStop : (block : ℕ) → Option (List ℕ) → AnyError → Type 0
IsStop block new (Classic fault) = ⊥
IsStop block new (Ng fault) = (fault ≡ Cut block) × IsAtEnd new
IsStop block new ReadFault = ⊤
IsStop block new (OutOfMemory want) = ⊥

-- how many bytes of a packet follow, where its tests are met
abbrev pub captured_of : Result Content NgError → ℕ
captured_of (Ok content) = captured_by content
captured_of (Err fault) = 0

-- how many bytes of options were taken
abbrev pub taken_by : Found → ℕ
taken_by (found.Unit value) = 8
taken_by found.Last = 4
taken_by (found.Another taken) = taken

-- what options tell of the unit, by what was found in front of others
abbrev pub unit_by : Found → (others : Option ℕ) → Option ℕ
unit_by (found.Unit value) others = Some value
unit_by found.Last others = None
unit_by (found.Another taken) others = others

-- of so many bytes of options a source gave some, in which this was found; so many are left
pub record TakesOption (old new : Option (List ℕ)) (order : Order) (size left : ℕ) (what : Found) : Type 0 where
  pub bytes : List ℕ
  pub taken : Consumes old new bytes
  pub all : length bytes + left ≡ size
  pub told : (behind : List ℕ) → length behind ≡ left → unit_in order (bytes ++ behind) ≡ unit_by what (unit_in order behind)
