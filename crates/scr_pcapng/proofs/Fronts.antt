-- A block in front of other bytes, and when there is none.
use Rattle.std.proofs.Common.{◌≡◌, ◌≢◌, ℕ, ◌-◌, ◌≤◌, Bool, true, false, not, List, [], ◌++◌, length, take, drop, Option, Some, None, Result, Ok, Err, ◌==◌, nat_lt, if◌then◌else◌, refl, sym, ap, subst, ◌∙◌, arith}
use Rattle.std.proofs.lemmas.Bool.{eqb-false, le-ltb, ltb-false, not-false}
use Rattle.std.proofs.lemmas.List.{append-nil, length-append, length-take-le, take-append-drop}
use Rattle.std.proofs.Math.Seq.{take-append_seam}
use Rattle.scr_pcap.specs.declared.format.Order.{Order}
use Rattle.scr_pcap.specs.Header.{number_at}
use Rattle.scr_pcapng.specs.declared.content.Content.{Content}
use Rattle.scr_pcapng.specs.declared.error.NgError.{NgError}
use Rattle.scr_pcapng.specs.declared.error.NgError.TheVariants.{Cut, Length, TooManyBlocks}
use Rattle.scr_pcapng.specs.declared.kind.Kind.{Kind}
use Rattle.scr_pcapng.specs.Contents.{Position, content_in, number_of}
use Rattle.scr_pcapng.specs.Blocks.{BLOCKS, Block, IsBlock, block_in, closed, framed, front_of, is_total, kind_in, order_in, ordered, sized, told_by, total_in}
use Rattle.scr_pcapng.specs.Parts.{IsHead}
use Rattle.scr_pcapng.specs.Reading.{NoBlock}
use Rattle.scr_pcapng.proofs.Heads.{IsHead-append, IsHead-front, block_in-sized, front_of-within, is_total-least}

-- a test that must have failed, since what it guards isn't the answer
pub behind_test : {A : Type 0} (b : Bool) (x y z : A) → (if b then x else y) ≡ z → (x ≡ z → ⊥) → (b ≡ false) × (y ≡ z)
behind_test true x y z told not_first = absurd (not_first told)
behind_test false x y z told not_first = (refl, told)

pub no_fault : {T E : Type 0} (fault : E) (value : T) → Err fault ≡ Ok value → ⊥
no_fault fault value same = cc

-- bytes that are a block as they stand
pub record IsWhole (position : Position) (bytes : List ℕ) (b : Block) : Type 0 where
  pub kind : Kind
  pub order : Order
  pub head : IsHead position bytes kind order (length bytes)
  pub total : is_total kind (length bytes) ≡ true
  pub told : closed position kind order bytes ≡ Ok b

pub sized-whole : (position : Position) (kind : Kind) (order : Order) (block behind : List ℕ) → is_total kind (length block) ≡ true
    → sized position kind order (length block) (block ++ behind) ≡ closed position kind order block
unfolding sized framed
sized-whole position kind order block behind total =
    let count = length-append block behind in
    let all : nat_lt (length (block ++ behind)) (length block) ≡ false = le-ltb _ _ (omega arith) in
    let front : take (length block) (block ++ behind) ≡ block = take-append_seam block behind in
    rw (total, all, front) refl

-- whatever follows it
pub IsWhole-append : (position : Position) (block behind : List ℕ) (b : Block) → IsWhole position block b → block_in position (block ++ behind) ≡ Ok b
IsWhole-append position block behind b whole =
    block_in-sized position (block ++ behind) whole.kind whole.order (length block)
    (IsHead-append position block behind whole.kind whole.order (length block) whole.head)
    ∙ sized-whole position whole.kind whole.order block behind whole.total ∙ whole.told

pub IsWhole-alone : (position : Position) (block : List ℕ) (b : Block) → IsWhole position block b → block_in position block ≡ Ok b
IsWhole-alone position block b whole =
    ap (block_in position) (sym (append-nil block)) ∙ IsWhole-append position block [] b whole

-- the bytes of a block are those that were tested
told_by-bytes : (block : List ℕ) (content : Result Content NgError) (b : Block) → told_by block content ≡ Ok b → b.bytes ≡ block
told_by-bytes block (Ok content) b told = let same : record { bytes = block; content = content } ≡ b = cc in ap (λ (x : Block). x.bytes) (sym same)
told_by-bytes block (Err fault) b told = absurd (no_fault fault b told)

pub closed-bytes : (position : Position) (kind : Kind) (order : Order) (block : List ℕ) (b : Block) → closed position kind order block ≡ Ok b → b.bytes ≡ block
unfolding closed
closed-bytes position kind order block b told =
    let behind = behind_test (not (number_at order (length block - 4) 4 block == length block)) (Err (Length (number_of position))) (told_by block (content_in position kind order block)) (Ok b) told (no_fault _ _) in
    told_by-bytes block (content_in position kind order block) b behind.1

-- the head of a block that met the tests
record IsHeaded (position : Position) (bytes : List ℕ) (b : Block) : Type 0 where
  order : Order
  head : IsHead position bytes (kind_in position bytes) order (total_in order bytes)
  told : sized position (kind_in position bytes) order (total_in order bytes) bytes ≡ Ok b

ordered-headed : (position : Position) (bytes : List ℕ) (b : Block) (order : Option Order) → position.blocks ≢ BLOCKS
    → front_of (kind_in position bytes) ≤ length bytes → order_in position (kind_in position bytes) bytes ≡ order
    → ordered position (kind_in position bytes) order bytes ≡ Ok b → IsHeaded position bytes b
ordered-headed position bytes b None few enough is told = absurd (no_fault _ _ told)
ordered-headed position bytes b (Some order) few enough is told = record {
  order = order;
  head = record { few = few; kind_told = refl; front = enough; order_told = is; total_told = refl };
  told = told;
}

headed : (position : Position) (bytes : List ℕ) (b : Block) → block_in position bytes ≡ Ok b → IsHeaded position bytes b
unfolding block_in
headed position bytes b told =
    let kind = kind_in position bytes in
    let rest = ordered position kind (order_in position kind bytes) bytes in
    let short = nat_lt (length bytes) (front_of kind) in
    let one = behind_test (position.blocks == BLOCKS) (Err (TooManyBlocks BLOCKS)) (if short then Err (Cut (number_of position)) else rest) (Ok b) told (no_fault _ _) in
    let two = behind_test short (Err (Cut (number_of position))) rest (Ok b) one.1 (no_fault _ _) in
    ordered-headed position bytes b (order_in position kind bytes) (eqb-false _ _ one.0) (ltb-false _ _ two.0) refl two.1

-- a block in front: its bytes are a block as they stand
pub record IsFront (position : Position) (bytes : List ℕ) (b : Block) : Type 0 where
  pub behind : List ℕ
  pub parts : bytes ≡ b.bytes ++ behind
  pub whole : IsWhole position b.bytes b

whole-front : (position : Position) (bytes : List ℕ) (b : Block) (kind : Kind) (order : Order) (total : ℕ) → IsHead position bytes kind order total
    → is_total kind total ≡ true → total ≤ length bytes → closed position kind order (take total bytes) ≡ Ok b → IsFront position bytes b
whole-front position bytes b kind order total head is enough told =
    let block = take total bytes in
    let is_block : b.bytes ≡ block = closed-bytes position kind order block b told in
    let size : length block ≡ total = length-take-le total bytes enough in
    let parts : bytes ≡ block ++ drop total bytes = sym (take-append-drop total bytes) in
    let least_total = is_total-least kind total is in
    let least_front = front_of-within kind in
    let front : front_of kind ≤ length block = omega arith in
    let head_here : IsHead position block kind order total =
    IsHead-front position block (drop total bytes) kind order total front (subst (λ (x : List ℕ). IsHead position x kind order total) parts head) in
    let whole : IsWhole position block b = record {
      kind = kind;
      order = order;
      head = subst (λ (n : ℕ). IsHead position block kind order n) (sym size) head_here;
      total = ap (is_total kind) size ∙ is;
      told = told;
    } in
    record {
      behind = drop total bytes;
      parts = parts ∙ ap (λ (x : List ℕ). x ++ drop total bytes) (sym is_block);
      whole = subst (λ (x : List ℕ). IsWhole position x b) (sym is_block) whole;
    }

sized-front : (position : Position) (bytes : List ℕ) (b : Block) (kind : Kind) (order : Order) (total : ℕ) → IsHead position bytes kind order total
    → sized position kind order total bytes ≡ Ok b → IsFront position bytes b
unfolding sized framed
sized-front position bytes b kind order total head told =
    let short = nat_lt (length bytes) total in
    let rest = closed position kind order (take total bytes) in
    let one = behind_test (not (is_total kind total)) (Err (Length (number_of position))) (if short then Err (Cut (number_of position)) else rest) (Ok b) told (no_fault _ _) in
    let two = behind_test short (Err (Cut (number_of position))) rest (Ok b) one.1 (no_fault _ _) in
    whole-front position bytes b kind order total head (not-false _ one.0) (ltb-false _ _ two.0) two.1

pub block_in-front : (position : Position) (bytes : List ℕ) (b : Block) → block_in position bytes ≡ Ok b → IsFront position bytes b
block_in-front position bytes b told =
    let found = headed position bytes b told in
    sized-front position bytes b (kind_in position bytes) found.order (total_in found.order bytes) found.head found.told

-- a block, whatever follows it
pub IsBlock-append : (position : Position) (b : Block) (behind : List ℕ) → IsBlock position b → block_in position (b.bytes ++ behind) ≡ Ok b
IsBlock-append position b behind is =
    IsWhole-append position b.bytes behind b (block_in-front position b.bytes b is).whole

-- a block that isn't there
pub NoBlock-from_fault : (position : Position) (bytes : List ℕ) (fault : NgError) → block_in position bytes ≡ Err fault → NoBlock position bytes
NoBlock-from_fault position bytes fault refused = λ b behind parts is.
    no_fault fault b (sym refused ∙ ap (block_in position) parts ∙ IsBlock-append position b behind is)

-- no block is without bytes
pub IsBlock-long : (position : Position) (b : Block) → IsBlock position b → 8 ≤ length b.bytes
IsBlock-long position b is =
    let whole = (block_in-front position b.bytes b is).whole in
    let least_total = is_total-least whole.kind (length b.bytes) whole.total in
    let front = whole.head.front in
    long whole.kind (length b.bytes) front
  where
    long : (kind : Kind) (n : ℕ) → front_of kind ≤ n → 8 ≤ n
    long kind n h = let eight = Rattle.scr_pcapng.proofs.Heads.front_of-least kind in omega arith
