-- The head of a block doesn't change when bytes follow it.
use Rattle.std.proofs.Common.{◌≡◌, ◌≢◌, ℕ, ◌≤◌, ◌<◌, true, false, List, ◌++◌, length, Option, Some, None, Err, ◌==◌, nat_lt, if◌then◌else◌, refl, sym, ap, subst, ◌∙◌, arith, rules, tests}
use Rattle.std.proofs.lemmas.Bool.{and_parts, leb-true, le-ltb, lt-ltb, ne_eqb}
use Rattle.std.proofs.lemmas.List.{length-append}
use Rattle.scr_pcap.specs.declared.format.Order.{Order}
use Rattle.scr_pcap.specs.declared.format.Order.TheVariants.{Little, Big}
use Rattle.scr_pcap.specs.Header.{number_at}
use Rattle.scr_pcap.proofs.FirstBytes.{number_at-append}
use Rattle.scr_pcapng.specs.declared.error.NgError.TheVariants.{Cut, Mark, Length, TooManyBlocks}
use Rattle.scr_pcapng.specs.declared.kind.Kind.{Kind}
use Rattle.scr_pcapng.specs.declared.kind.Kind.TheVariants.{SectionHeader, InterfaceDescription, SimplePacket, EnhancedPacket, Other}
use Rattle.scr_pcapng.specs.Contents.{Position, number_of}
use Rattle.scr_pcapng.specs.Blocks.{BLOCKS, kind_of, least, front_of, kind_in, marked_order, order_in, total_in, is_total, ordered, sized, block_in}
use Rattle.scr_pcapng.specs.Parts.{IsHead}

-- eight bytes at least tell the total length, and no block is shorter than what tells it
pub front_of-least : (kind : Kind) → 8 ≤ front_of kind
front_of-least SectionHeader = omega arith
front_of-least InterfaceDescription = omega arith
front_of-least SimplePacket = omega arith
front_of-least EnhancedPacket = omega arith
front_of-least Other = omega arith

pub front_of-within : (kind : Kind) → front_of kind ≤ least kind
front_of-within SectionHeader = omega arith
front_of-within InterfaceDescription = omega arith
front_of-within SimplePacket = omega arith
front_of-within EnhancedPacket = omega arith
front_of-within Other = omega arith

pub is_total-least : (kind : Kind) (total : ℕ) → is_total kind total ≡ true → least kind ≤ total
is_total-least kind total told = leb-true (least kind) total (and_parts _ _ told).1

pub kind_in-append : (position : Position) (first behind : List ℕ) → 4 ≤ length first → kind_in position (first ++ behind) ≡ kind_in position first
kind_in-append position first behind h = ap kind_of (number_at-append position.order 0 4 first behind h)

-- the order whose mark has its value
marked_by : (little big : ℕ) → Option Order
marked_by little big = if little == 0x1A2B3C4D then Some Little else (if big == 0x1A2B3C4D then Some Big else None)

marked_order-append : (first behind : List ℕ) → 12 ≤ length first → marked_order (first ++ behind) ≡ marked_order first
unfolding marked_by
marked_order-append first behind h =
    ap (λ (n : ℕ). marked_by n (number_at Big 8 4 (first ++ behind))) (number_at-append Little 8 4 first behind h)
    ∙ ap (λ (n : ℕ). marked_by (number_at Little 8 4 first) n) (number_at-append Big 8 4 first behind h)

pub order_in-append : (position : Position) (kind : Kind) (first behind : List ℕ) → front_of kind ≤ length first
    → order_in position kind (first ++ behind) ≡ order_in position kind first
order_in-append position SectionHeader first behind h = marked_order-append first behind h
order_in-append position InterfaceDescription first behind h = refl
order_in-append position SimplePacket first behind h = refl
order_in-append position EnhancedPacket first behind h = refl
order_in-append position Other first behind h = refl

pub total_in-append : (order : Order) (first behind : List ℕ) → 8 ≤ length first → total_in order (first ++ behind) ≡ total_in order first
total_in-append order first behind h = number_at-append order 4 4 first behind h

pub IsHead-append : (position : Position) (first behind : List ℕ) (kind : Kind) (order : Order) (total : ℕ)
    → IsHead position first kind order total → IsHead position (first ++ behind) kind order total
IsHead-append position first behind kind order total head =
    let eight = front_of-least kind in
    let enough = head.front in
    let count = length-append first behind in
    let four : 4 ≤ length first = omega arith in
    record {
      few = head.few;
      kind_told = head.kind_told ∙ sym (kind_in-append position first behind four);
      front = omega arith;
      order_told = order_in-append position kind first behind enough ∙ head.order_told;
      total_told = head.total_told ∙ sym (total_in-append order first behind (omega arith));
    }

pub IsHead-front : (position : Position) (first behind : List ℕ) (kind : Kind) (order : Order) (total : ℕ)
    → front_of kind ≤ length first → IsHead position (first ++ behind) kind order total → IsHead position first kind order total
IsHead-front position first behind kind order total enough head =
    let eight = front_of-least kind in
    let four : 4 ≤ length first = omega arith in
    record {
      few = head.few;
      kind_told = head.kind_told ∙ kind_in-append position first behind four;
      front = enough;
      order_told = sym (order_in-append position kind first behind enough) ∙ head.order_told;
      total_told = head.total_told ∙ total_in-append order first behind (omega arith);
    }

-- what tells the total length of a block is there: its order is tested
pub block_in-ordered : (position : Position) (bytes : List ℕ) → position.blocks ≢ BLOCKS → front_of (kind_in position bytes) ≤ length bytes
    → block_in position bytes ≡ ordered position (kind_in position bytes) (order_in position (kind_in position bytes) bytes) bytes
unfolding block_in
block_in-ordered position bytes few enough =
    let full : (position.blocks == BLOCKS) ≡ false = ne_eqb position.blocks BLOCKS few in
    let short : nat_lt (length bytes) (front_of (kind_in position bytes)) ≡ false = le-ltb _ _ enough in
    rw (full, short) refl

pub block_in-sized : (position : Position) (bytes : List ℕ) (kind : Kind) (order : Order) (total : ℕ)
    → IsHead position bytes kind order total → block_in position bytes ≡ sized position kind order total bytes
block_in-sized position bytes kind order total head =
    let same : kind_in position bytes ≡ kind = sym head.kind_told in
    let enough : front_of (kind_in position bytes) ≤ length bytes = subst (λ (k : Kind). front_of k ≤ length bytes) head.kind_told head.front in
    block_in-ordered position bytes head.few enough
    ∙ ap (λ (k : Kind). ordered position k (order_in position k bytes) bytes) same
    ∙ ap (λ (o : Option Order). ordered position kind o bytes) head.order_told
    ∙ ap (λ (n : ℕ). sized position kind order n bytes) (sym head.total_told)

-- the faults of what stands in front
pub block_in-full : (position : Position) (bytes : List ℕ) → position.blocks ≡ BLOCKS → block_in position bytes ≡ Err (TooManyBlocks BLOCKS)
unfolding block_in
block_in-full position bytes all =
    let full : (position.blocks == BLOCKS) ≡ true = search (rules, tests) in
    rw full refl

pub block_in-short : (position : Position) (bytes : List ℕ) → position.blocks ≢ BLOCKS → length bytes < front_of (kind_in position bytes)
    → block_in position bytes ≡ Err (Cut (number_of position))
unfolding block_in
block_in-short position bytes few cut =
    let full : (position.blocks == BLOCKS) ≡ false = ne_eqb position.blocks BLOCKS few in
    let short : nat_lt (length bytes) (front_of (kind_in position bytes)) ≡ true = lt-ltb _ _ cut in
    rw (full, short) refl

pub block_in-unmarked : (position : Position) (bytes : List ℕ) (kind : Kind) → position.blocks ≢ BLOCKS → kind ≡ kind_in position bytes
    → front_of kind ≤ length bytes → order_in position kind bytes ≡ None → block_in position bytes ≡ Err (Mark (number_of position))
block_in-unmarked position bytes kind few told enough unmarked =
    block_in-ordered position bytes few (subst (λ (k : Kind). front_of k ≤ length bytes) told enough)
    ∙ ap (λ (k : Kind). ordered position k (order_in position k bytes) bytes) (sym told)
    ∙ ap (λ (o : Option Order). ordered position kind o bytes) unmarked

pub block_in-odd : (position : Position) (bytes : List ℕ) (kind : Kind) (order : Order) (total : ℕ)
    → IsHead position bytes kind order total → is_total kind total ≡ false → block_in position bytes ≡ Err (Length (number_of position))
unfolding sized
block_in-odd position bytes kind order total head odd = block_in-sized position bytes kind order total head ∙ (rw odd refl)
