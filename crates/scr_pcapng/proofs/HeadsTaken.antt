-- What the first bytes that were read of a block tell of all that a source had from there on.
use Rattle.std.proofs.Common.{◌≡◌, ◌≢◌, ℕ, ◌+◌, ◌≤◌, ◌<◌, true, false, List, ◌++◌, length, take, drop, Option, Some, None, Err, IfSome, refl, sym, ap, subst, ◌∙◌, arith}
use Rattle.std.proofs.lemmas.List.{append-nil, length-append, length-take-le, take-append-drop}
use Rattle.std.specs.Io.KnownBytes.{Consumes, IsAtEnd}
use Rattle.scr_pcap.specs.declared.format.Order.{Order}
use Rattle.scr_pcap.specs.Taken.{GivesAtMost, GivesFewer}
use Rattle.scr_pcap.proofs.Taking.{Consumes-then}
use Rattle.scr_pcapng.specs.declared.error.AnyError.{AnyError}
use Rattle.scr_pcapng.specs.declared.error.AnyError.TheVariants.{Ng}
use Rattle.scr_pcapng.specs.declared.error.NgError.{NgError}
use Rattle.scr_pcapng.specs.declared.error.NgError.TheVariants.{Cut, Mark, Length, TooManyBlocks}
use Rattle.scr_pcapng.specs.declared.kind.Kind.{Kind}
use Rattle.scr_pcapng.specs.declared.kind.Kind.TheVariants.{SectionHeader, InterfaceDescription, SimplePacket, EnhancedPacket, Other}
use Rattle.scr_pcapng.specs.Contents.{Position, number_of}
use Rattle.scr_pcapng.specs.Blocks.{BLOCKS, block_in, framed, front_of, head_of, is_total, kind_in, least, order_in, sized, total_in}
use Rattle.scr_pcapng.specs.Parts.{IsFaultOf, IsHead}
use Rattle.scr_pcapng.specs.Reading.{IsFaultyRest}
use Rattle.scr_pcapng.proofs.Heads.{block_in-full, block_in-odd, block_in-short, block_in-sized, block_in-unmarked, front_of-least, kind_in-append, order_in-append, total_in-append}
use Rattle.scr_pcapng.proofs.Fronts.{NoBlock-from_fault}
use Rattle.std.proofs.lemmas.Bool.{lt-ltb}

-- a fact on the bytes from a place on, by those that were taken of them and a fact that was known
pub behind_taken : {P Q : List ℕ → Type 0} (front new : Option (List ℕ)) (first : List ℕ) → Consumes front new first → IfSome front P
    → ((bytes behind : List ℕ) → bytes ≡ first ++ behind → P bytes → Q bytes) → IfSome front Q
behind_taken None new first taken known fact = tt
behind_taken (Some bytes) None first taken known fact = absurd taken
behind_taken (Some bytes) (Some behind) first taken known fact = fact bytes behind taken known

-- the same where all were taken
pub at_end : {P Q : List ℕ → Type 0} (front new : Option (List ℕ)) (first : List ℕ) → Consumes front new first → IsAtEnd new → IfSome front P
    → ((bytes : List ℕ) → bytes ≡ first → P bytes → Q bytes) → IfSome front Q
at_end None new first taken end known fact = tt
at_end (Some bytes) None first taken end known fact = absurd taken
at_end (Some bytes) (Some behind) first taken end known fact =
    fact bytes (taken ∙ ap (λ (rest : List ℕ). first ++ rest) end ∙ append-nil first) known

pub map_some : {P Q : List ℕ → Type 0} (front : Option (List ℕ)) → IfSome front P → ((bytes : List ℕ) → P bytes → Q bytes) → IfSome front Q
map_some None known fact = tt
map_some (Some bytes) known fact = fact bytes known

pub IsFaultyRest-from : (position : Position) (bytes : List ℕ) (fault : NgError) → 0 < length bytes → block_in position bytes ≡ Err fault → IsFaultyRest position bytes fault
IsFaultyRest-from position bytes fault some refused = record {
  more = λ none. let count : length bytes ≡ 0 = ap length none in omega arith;
  longest = NoBlock-from_fault position bytes fault refused;
  first_test = refused;
}

-- an error that is this cause
pub IsFaultOf-from : (position : Position) (front : Option (List ℕ)) (error : AnyError) (fault cause : NgError) → error ≡ Ng fault → fault ≡ cause
    → IfSome front (λ bytes. IsFaultyRest position bytes cause) → IsFaultOf position front error
IsFaultOf-from position front error fault cause is same faulty =
    subst (IsFaultOf position front) (sym (is ∙ ap (λ (f : NgError). Ng f) same)) faulty

kind_in-take : (position : Position) (count : ℕ) (buf : List ℕ) → 4 ≤ count → count ≤ length buf → kind_in position (take count buf) ≡ kind_in position buf
kind_in-take position count buf four within =
    let all = length-take-le count buf within in
    sym (kind_in-append position (take count buf) (drop count buf) (omega arith)) ∙ ap (kind_in position) (take-append-drop count buf)

-- the kind
pub kind-told : (position : Position) (front new : Option (List ℕ)) (buf : List ℕ) (count : ℕ) (kind : Kind) → Consumes front new (take count buf)
    → 4 ≤ count → count ≤ length buf → kind ≡ kind_in position buf → IfSome front (λ bytes. kind ≡ kind_in position bytes)
kind-told position front new buf count kind taken four within is =
    let all = length-take-le count buf within in
    behind_taken {P = λ _. Unit {0}} front new (take count buf) taken (some_fact front) (λ bytes behind parts _.
    is ∙ sym (ap (kind_in position) parts ∙ kind_in-append position (take count buf) behind (omega arith) ∙ kind_in-take position count buf four within))
  where
    some_fact : (front : Option (List ℕ)) → IfSome front (λ _. Unit {0})
    some_fact None = tt
    some_fact (Some bytes) = tt

-- fewer bytes than tell the total length
pub cut-in_front : (position : Position) (front new : Option (List ℕ)) (buf : List ℕ) (count : ℕ) → position.blocks ≢ BLOCKS → Consumes front new (take count buf)
    → IsAtEnd new → 0 < count → count ≤ length buf → IfSome front (λ bytes. count < front_of (kind_in position bytes))
    → IfSome front (λ bytes. IsFaultyRest position bytes (Cut (number_of position)))
cut-in_front position front new buf count few taken end some within short =
    let all = length-take-le count buf within in
    at_end front new (take count buf) taken end short (λ bytes parts fewer.
    let size : length bytes ≡ count = ap length parts ∙ all in
    IsFaultyRest-from position bytes (Cut (number_of position)) (omega arith) (block_in-short position bytes few (omega arith)))

-- not even eight
pub cut-before_kind : (position : Position) (front : Option (List ℕ)) (count : ℕ) → count < 8 → IfSome front (λ bytes. count < front_of (kind_in position bytes))
cut-before_kind position None count short = tt
cut-before_kind position (Some bytes) count short = let eight = front_of-least (kind_in position bytes) in omega arith

-- a section whose mark is cut
pub cut-behind_kind : (position : Position) (front : Option (List ℕ)) (count : ℕ) (kind : Kind) → IfSome front (λ bytes. kind ≡ kind_in position bytes)
    → count < front_of kind → IfSome front (λ bytes. count < front_of (kind_in position bytes))
cut-behind_kind position front count kind told short =
    map_some front told (λ bytes same. subst (λ (k : Kind). count < front_of k) same short)

order_in-take : (position : Position) (kind : Kind) (count : ℕ) (buf : List ℕ) → count ≡ front_of kind → count ≤ length buf
    → order_in position kind (take count buf) ≡ order_in position kind buf
order_in-take position kind count buf is within =
    let all = length-take-le count buf within in
    sym (order_in-append position kind (take count buf) (drop count buf) (omega arith)) ∙ ap (order_in position kind) (take-append-drop count buf)

total_in-take : (order : Order) (count : ℕ) (buf : List ℕ) → 8 ≤ count → count ≤ length buf → total_in order (take count buf) ≡ total_in order buf
total_in-take order count buf eight within =
    let all = length-take-le count buf within in
    sym (total_in-append order (take count buf) (drop count buf) (omega arith)) ∙ ap (total_in order) (take-append-drop count buf)

-- a mark that has its value in neither order
pub unmarked : (position : Position) (front new : Option (List ℕ)) (buf : List ℕ) (count : ℕ) (kind : Kind) → position.blocks ≢ BLOCKS
    → Consumes front new (take count buf) → count ≡ front_of kind → count ≤ length buf → IfSome front (λ bytes. kind ≡ kind_in position bytes)
    → order_in position kind buf ≡ None → IfSome front (λ bytes. IsFaultyRest position bytes (Mark (number_of position)))
unmarked position front new buf count kind few taken is within told none =
    let all = length-take-le count buf within in
    let eight = front_of-least kind in
    behind_taken front new (take count buf) taken told (λ bytes behind parts same.
    let size : length bytes ≡ count + length behind = ap length parts ∙ length-append (take count buf) behind ∙ ap (λ (n : ℕ). n + length behind) all in
    IsFaultyRest-from position bytes (Mark (number_of position)) (omega arith)
    (block_in-unmarked position bytes kind few same (omega arith)
    (ap (order_in position kind) parts ∙ order_in-append position kind (take count buf) behind (omega arith) ∙ order_in-take position kind count buf is within ∙ none)))

-- what tells the total length is there
pub head-told : (position : Position) (front new : Option (List ℕ)) (buf : List ℕ) (count : ℕ) (kind : Kind) (order : Order) (total : ℕ) → position.blocks ≢ BLOCKS
    → Consumes front new (take count buf) → count ≡ front_of kind → count ≤ length buf → IfSome front (λ bytes. kind ≡ kind_in position bytes)
    → order_in position kind buf ≡ Some order → total ≡ total_in order buf → IfSome front (λ bytes. IsHead position bytes kind order total)
head-told position front new buf count kind order total few taken is within told ordered size =
    let all = length-take-le count buf within in
    let eight = front_of-least kind in
    behind_taken front new (take count buf) taken told (λ bytes behind parts same.
    let more : length bytes ≡ count + length behind = ap length parts ∙ length-append (take count buf) behind ∙ ap (λ (n : ℕ). n + length behind) all in
    record {
      few = few;
      kind_told = same;
      front = omega arith;
      order_told = ap (order_in position kind) parts ∙ order_in-append position kind (take count buf) behind (omega arith) ∙ order_in-take position kind count buf is within ∙ ordered;
      total_told = size ∙ sym (ap (total_in order) parts ∙ total_in-append order (take count buf) behind (omega arith) ∙ total_in-take order count buf (omega arith) within);
    })

-- a total length that no block has
pub odd : (position : Position) (front : Option (List ℕ)) (kind : Kind) (order : Order) (total : ℕ) → IfSome front (λ bytes. IsHead position bytes kind order total)
    → is_total kind total ≡ false → IfSome front (λ bytes. IsFaultyRest position bytes (Length (number_of position)))
odd position front kind order total heads other =
    map_some front heads (λ bytes head.
    let eight = front_of-least kind in
    let enough = head.front in
    IsFaultyRest-from position bytes (Length (number_of position)) (omega arith) (block_in-odd position bytes kind order total head other))

block_in-cut : (position : Position) (bytes : List ℕ) (kind : Kind) (order : Order) (total : ℕ) → IsHead position bytes kind order total
    → is_total kind total ≡ true → length bytes < total → block_in position bytes ≡ Err (Cut (number_of position))
unfolding sized framed
block_in-cut position bytes kind order total head is cut =
    let short = lt-ltb (length bytes) total cut in
    block_in-sized position bytes kind order total head ∙ (rw (is, short) refl)

-- fewer bytes than the total length says
pub cut-behind_head : (position : Position) (front new : Option (List ℕ)) (first : List ℕ) (kind : Kind) (order : Order) (total : ℕ)
    → IfSome front (λ bytes. IsHead position bytes kind order total) → is_total kind total ≡ true → Consumes front new first → IsAtEnd new
    → length first < total → IfSome front (λ bytes. IsFaultyRest position bytes (Cut (number_of position)))
cut-behind_head position front new first kind order total heads is taken end short =
    at_end front new first taken end heads (λ bytes parts head.
    let eight = front_of-least kind in
    let enough = head.front in
    let size : length bytes ≡ length first = ap length parts in
    IsFaultyRest-from position bytes (Cut (number_of position)) (omega arith) (block_in-cut position bytes kind order total head is (omega arith)))

-- a byte behind the last block that is taken
pub byte-behind : (position : Position) (front new : Option (List ℕ)) (first : List ℕ) → position.blocks ≡ BLOCKS → Consumes front new first → 0 < length first
    → IfSome front (λ bytes. IsFaultyRest position bytes (TooManyBlocks BLOCKS))
byte-behind position None new first all taken some = tt
byte-behind position (Some bytes) None first all taken some = absurd taken
byte-behind position (Some bytes) (Some behind) first all taken some =
    let size : length bytes ≡ length first + length behind = ap length taken ∙ length-append first behind in
    IsFaultyRest-from position bytes (TooManyBlocks BLOCKS) (omega arith) (block_in-full position bytes all)

-- how many bytes were taken
pub at_most : (front new : Option (List ℕ)) (buf : List ℕ) (count most : ℕ) → Consumes front new (take count buf) → count ≤ length buf → count ≤ most
    → GivesAtMost most front new
at_most front new buf count most taken within few =
    let all = length-take-le count buf within in
    record { front = take count buf; given = taken; within = omega arith }

pub at_most-then : (front mid new : Option (List ℕ)) (buf : List ℕ) (count size most : ℕ) → Consumes front mid (take count buf) → count ≤ length buf
    → GivesFewer size mid new → count + size ≤ most → GivesAtMost most front new
at_most-then front mid new buf count size most taken within fewer few =
    let all = length-take-le count buf within in
    let less = fewer.within in
    let joined = length-append (take count buf) fewer.front in
    record { front = take count buf ++ fewer.front; given = Consumes-then front mid new (take count buf) fewer.front taken fewer.given; within = omega arith }

-- how long the parts of a head are
pub front_of-most : (kind : Kind) → front_of kind ≤ 12
front_of-most SectionHeader = omega arith
front_of-most InterfaceDescription = omega arith
front_of-most SimplePacket = omega arith
front_of-most EnhancedPacket = omega arith
front_of-most Other = omega arith

pub head_of-most : (kind : Kind) → head_of kind ≤ 28
head_of-most SectionHeader = omega arith
head_of-most InterfaceDescription = omega arith
head_of-most SimplePacket = omega arith
head_of-most EnhancedPacket = omega arith
head_of-most Other = omega arith

pub head_of-within : (kind : Kind) → head_of kind + 4 ≤ least kind
head_of-within SectionHeader = omega arith
head_of-within InterfaceDescription = omega arith
head_of-within SimplePacket = omega arith
head_of-within EnhancedPacket = omega arith
head_of-within Other = omega arith

-- the eight bytes in front of an enhanced packet
pub enhanced-head : (position : Position) (front new : Option (List ℕ)) (begun : List ℕ) (total : ℕ) → position.blocks ≢ BLOCKS
    → Consumes front new (take 8 begun) → 8 ≤ length begun → kind_in position begun ≡ EnhancedPacket → total ≡ total_in position.order begun
    → IfSome front (λ bytes. IsHead position bytes EnhancedPacket position.order total)
enhanced-head position front new begun total few taken eight kind told =
    head-told position front new begun 8 EnhancedPacket position.order total few taken refl eight
    (kind-told position front new begun 8 EnhancedPacket taken (omega arith) eight (sym kind)) refl told
