-- A block that was taken in parts: its head, its options, the bytes of its packet, and its end.
use Rattle.std.specs.Prelude.{⊤}
use Rattle.std.proofs.Common.{◌≡◌, ◌≢◌, ◌⊎◌, inl, inr, ◌∷◌, ℕ, ◌+◌, ◌-◌, ◌*◌, ◌^◌, ◌≤◌, Bool, true, false, not, List, [], ◌++◌, length, take, drop, Option, Some, None, Result, Ok, Err, IfSome, IfOk, ◌==◌, slice_get, if◌then◌else◌, refl, sym, ap, subst, ◌∙◌, arith}
use Rattle.std.proofs.lemmas.Bool.{eq-eqb, ne_eqb}
use Rattle.std.proofs.lemmas.List.{append-nil, drop-drop, drop_at, length-append, length-take-le, take-append-drop, take_at}
use Rattle.std.specs.Io.KnownBytes.{Consumes}
use Rattle.scr_pcap.specs.declared.format.Order.{Order}
use Rattle.scr_pcap.specs.Header.{number_at}
use Rattle.scr_pcap.specs.Taken.{GivesAtMost, GivesFewer}
use Rattle.scr_pcap.proofs.FirstBytes.{number_at-append}
use Rattle.scr_pcap.proofs.Taking.{Consumes-then}
use Rattle.scr_pcapng.specs.declared.content.Content.{Content}
use Rattle.scr_pcapng.specs.declared.content.Content.TheVariants.{NewSection, NewInterface, Packet, Passed}
use Rattle.scr_pcapng.specs.declared.content.InterfaceInfo.{InterfaceInfo}
use Rattle.scr_pcapng.specs.declared.error.AnyError.{AnyError}
use Rattle.scr_pcapng.specs.declared.error.AnyError.TheVariants.{Classic, Ng, ReadFault, OutOfMemory}
use Rattle.scr_pcapng.specs.declared.error.NgError.{NgError}
use Rattle.scr_pcapng.specs.declared.error.NgError.TheVariants.{Cut, Length, Resolution, Version}
use Rattle.scr_pcapng.specs.declared.kind.Kind.{Kind}
use Rattle.scr_pcapng.specs.declared.kind.Kind.TheVariants.{SectionHeader, InterfaceDescription, SimplePacket, EnhancedPacket, Other}
use Rattle.scr_pcapng.specs.Contents.{IsPlaced, Position, captured_by, content_by, content_in, cut_to, enhanced_behind, enhanced_on, interface_with, number_of, option_bytes, packet_on, records_in, records_with, simple_on}
use Rattle.scr_pcapng.specs.Blocks.{block_in, closed, head_of, is_total, sized, told_by}
use Rattle.scr_pcapng.specs.Options.{unit_in}
use Rattle.scr_pcapng.specs.Parts.{HasGivenHead, IsFaultOf, IsHead, IsStop, TakesBlock, TakesOptions, TakesTail, captured_of, options_size}
use Rattle.scr_pcapng.specs.Reading.{IsFaultyRest}
use Rattle.scr_pcapng.specs.Units.{MICROSECONDS, is_beyond, microseconds, units_of}
use Rattle.scr_pcapng.proofs.Heads.{IsHead-front, block_in-sized, front_of-within, is_total-least}
use Rattle.scr_pcapng.proofs.HeadsTaken.{IsFaultyRest-from, behind_taken, cut-behind_head, head_of-within}
use Rattle.scr_pcapng.proofs.Fronts.{sized-whole}
use Rattle.scr_pcapng.proofs.Taken.{number_at-behind}

-- the numbers in a head are those in its block
number_in_head : (order : Order) (place n size : ℕ) (head block behind : List ℕ) → size ≤ length head → block ≡ take size head ++ behind → place + n ≤ size
    → number_at order place n head ≡ number_at order place n block
number_in_head order place n size head block behind enough parts within =
    let all = length-take-le size head enough in
    ap (number_at order place n) (sym (take-append-drop size head)) ∙ number_at-append order place n (take size head) (drop size head) (omega arith)
    ∙ sym (ap (number_at order place n) parts ∙ number_at-append order place n (take size head) behind (omega arith))

simple-same : (position : Position) (order : Order) (size : ℕ) (head block : List ℕ) (interface : Option InterfaceInfo)
    → number_at order 8 4 head ≡ number_at order 8 4 block → simple_on position order size head interface ≡ simple_on position order size block interface
simple-same position order size head block None original = refl
simple-same position order size head block (Some interface) original =
    ap (λ (n : ℕ). packet_on position interface 0 (cut_to interface.snap n) 12 (size - 16)) original

enhanced-same : (position : Position) (order : Order) (size : ℕ) (head block : List ℕ) (interface : Option InterfaceInfo)
    → number_at order 12 4 head ≡ number_at order 12 4 block → number_at order 16 4 head ≡ number_at order 16 4 block
    → number_at order 20 4 head ≡ number_at order 20 4 block → enhanced_on position order size head interface ≡ enhanced_on position order size block interface
enhanced-same position order size head block None high low captured = refl
enhanced-same position order size head block (Some interface) high low captured =
    let with : ℕ → ℕ → ℕ → Result Content NgError = λ h l c. packet_on position interface (microseconds interface.units (h * 2 ^ 32 + l)) c 28 (size - 32) in
    ap (λ (h : ℕ). with h (number_at order 16 4 head) (number_at order 20 4 head)) high
    ∙ ap (λ (l : ℕ). with (number_at order 12 4 block) l (number_at order 20 4 head)) low
    ∙ ap (with (number_at order 12 4 block) (number_at order 16 4 block)) captured

interface-same : (position : Position) (order : Order) (head block : List ℕ) (unit : Option ℕ)
    → number_at order 8 2 head ≡ number_at order 8 2 block → number_at order 12 4 head ≡ number_at order 12 4 block
    → interface_with position order head unit ≡ interface_with position order block unit
interface-same position order head block None link snap =
    let with : ℕ → ℕ → Result Content NgError = λ l s. Ok (NewInterface (record { link_type = l; snap = s; units = MICROSECONDS })) in
    ap (λ (l : ℕ). with l (number_at order 12 4 head)) link ∙ ap (with (number_at order 8 2 block)) snap
interface-same position order head block (Some value) link snap =
    let with : ℕ → ℕ → Result Content NgError = λ l s.
    if is_beyond value then Err (Resolution (number_of position)) else Ok (NewInterface (record { link_type = l; snap = s; units = units_of value })) in
    ap (λ (l : ℕ). with l (number_at order 12 4 head)) link ∙ ap (with (number_at order 8 2 block)) snap

-- options are not looked at but for an interface
unit_counts : (position : Position) (kind : Kind) (order : Order) (total : ℕ) (block : List ℕ) (unit other : Option ℕ) → (kind ≡ InterfaceDescription → unit ≡ other)
    → content_by position kind order total block unit ≡ content_by position kind order total block other
unfolding content_by
unit_counts position SectionHeader order total block unit other same = refl
unit_counts position InterfaceDescription order total block unit other same = ap (interface_with position order block) (same refl)
unit_counts position SimplePacket order total block unit other same = refl
unit_counts position EnhancedPacket order total block unit other same = refl
unit_counts position Other order total block unit other same = refl

-- what a block tells by its head
content_by-head : (position : Position) (kind : Kind) (order : Order) (total : ℕ) (head block behind : List ℕ) (unit : Option ℕ) → head_of kind ≤ length head
    → block ≡ take (head_of kind) head ++ behind → content_by position kind order total head unit ≡ content_by position kind order total block unit
unfolding content_by
content_by-head position SectionHeader order total head block behind unit enough parts =
    ap (λ (n : ℕ). if not (n == 1) then Err (Version (number_of position)) else Ok (NewSection order)) (number_in_head order 12 2 16 head block behind enough parts (omega arith))
content_by-head position InterfaceDescription order total head block behind unit enough parts =
    interface-same position order head block unit (number_in_head order 8 2 16 head block behind enough parts (omega arith)) (number_in_head order 12 4 16 head block behind enough parts (omega arith))
content_by-head position SimplePacket order total head block behind unit enough parts =
    simple-same position order total head block (slice_get position.interfaces 0) (number_in_head order 8 4 12 head block behind enough parts (omega arith))
content_by-head position EnhancedPacket order total head block behind unit enough parts =
    ap (λ (n : ℕ). enhanced_on position order total head (slice_get position.interfaces n)) (number_in_head order 8 4 28 head block behind enough parts (omega arith))
    ∙ enhanced-same position order total head block (slice_get position.interfaces (number_at order 8 4 block))
    (number_in_head order 12 4 28 head block behind enough parts (omega arith)) (number_in_head order 16 4 28 head block behind enough parts (omega arith)) (number_in_head order 20 4 28 head block behind enough parts (omega arith))
content_by-head position Other order total head block behind unit enough parts = refl

-- a content that is no packet
abbrev pub IsNoPacket : Result Content NgError → Type 0
IsNoPacket (Ok (NewSection order)) = ⊤
IsNoPacket (Ok (NewInterface interface)) = ⊤
IsNoPacket (Ok (Packet time place captured)) = ⊥
IsNoPacket (Ok Passed) = ⊤
IsNoPacket (Err fault) = ⊤

interface-no_packet : (position : Position) (order : Order) (head : List ℕ) (unit : Option ℕ) → IsNoPacket (interface_with position order head unit)
interface-no_packet position order head None = tt
interface-no_packet position order head (Some value) = by_value (is_beyond value)
  where
    by_value : (beyond : Bool) → IsNoPacket (if beyond then Err (Resolution (number_of position)) else
        Ok (NewInterface (record { link_type = number_at order 8 2 head; snap = number_at order 12 4 head; units = units_of value })))
    by_value true = tt
    by_value false = tt

-- a packet's block has no options that were taken
pub none_or_no_packet : (position : Position) (kind : Kind) (order : Order) (total : ℕ) (head : List ℕ) (unit : Option ℕ)
    → (options_size kind total ≡ 0) ⊎ IsNoPacket (content_by position kind order total head unit)
unfolding content_by
none_or_no_packet position SectionHeader order total head unit = inl refl
none_or_no_packet position InterfaceDescription order total head unit = inr (interface-no_packet position order head unit)
none_or_no_packet position SimplePacket order total head unit = inl refl
none_or_no_packet position EnhancedPacket order total head unit = inl refl
none_or_no_packet position Other order total head unit = inl refl

pub options-within : (kind : Kind) (total : ℕ) → is_total kind total ≡ true → head_of kind + options_size kind total + 4 ≤ total
options-within SectionHeader total is = let some = is_total-least SectionHeader total is in omega arith
options-within InterfaceDescription total is = let some = is_total-least InterfaceDescription total is in omega arith
options-within SimplePacket total is = let some = is_total-least SimplePacket total is in omega arith
options-within EnhancedPacket total is = let some = is_total-least EnhancedPacket total is in omega arith
options-within Other total is = let some = is_total-least Other total is in omega arith

captured-none : (content : Result Content NgError) → IsNoPacket content → captured_of content ≡ 0
captured-none (Ok (NewSection order)) none = refl
captured-none (Ok (NewInterface interface)) none = refl
captured-none (Ok (Packet time place captured)) none = absurd none
captured-none (Ok Passed) none = refl
captured-none (Err fault) none = refl

pub captured-placed : (content : Result Content NgError) (size total : ℕ) → IfOk content (IsPlaced size total) → (captured_of content ≡ 0) ⊎ (size + captured_of content + 4 ≤ total)
captured-placed (Ok (NewSection order)) size total placed = inl refl
captured-placed (Ok (NewInterface interface)) size total placed = inl refl
captured-placed (Ok (Packet time place captured)) size total placed = inr placed.2
captured-placed (Ok Passed) size total placed = inl refl
captured-placed (Err fault) size total placed = inl refl

-- four bytes at least follow the parts
pub parts-within : (position : Position) (kind : Kind) (order : Order) (total : ℕ) (head : List ℕ) (unit : Option ℕ) (content : Result Content NgError)
    → is_total kind total ≡ true → content ≡ content_by position kind order total head unit → IfOk content (IsPlaced (head_of kind) total)
    → head_of kind + options_size kind total + captured_of content + 4 ≤ total
parts-within position kind order total head unit content is told placed =
    let within = options-within kind total is in
    elim (none_or_no_packet position kind order total head unit) [
      | inr other ↦ (let none = captured-none content (subst IsNoPacket (sym told) other) in omega arith)
      | inl none ↦ elim (captured-placed content (head_of kind) total placed) [
        | inl no_bytes ↦ omega arith
        | inr some ↦ omega arith
      ]
    ]

-- bytes of a block that weren't there
pub stop-told : (position : Position) (front mid new : Option (List ℕ)) (kind : Kind) (order : Order) (total : ℕ) (head : List ℕ) (block size : ℕ) (error : AnyError)
    → HasGivenHead position front mid kind order total head → is_total kind total ≡ true → head_of kind ≤ length head → GivesFewer size mid new
    → head_of kind + size ≤ total → block ≡ number_of position → IsStop block new error → IsFaultOf position front error
stop-told position front mid new kind order total head block size (Classic fault) given is enough fewer within number stop = absurd stop
stop-told position front mid new kind order total head block size (Ng fault) given is enough fewer within number stop =
    let all = length-take-le (head_of kind) head enough in
    let first = take (head_of kind) head ++ fewer.front in
    let count = length-append (take (head_of kind) head) fewer.front in
    let less = fewer.within in
    let cut = cut-behind_head position front new first kind order total given.is is
    (Consumes-then front mid new (take (head_of kind) head) fewer.front given.taken fewer.given) stop.1 (omega arith) in
    subst (λ (f : NgError). IsFaultOf position front (Ng f)) (sym (stop.0 ∙ ap (λ (n : ℕ). Cut n) number)) cut
stop-told position front mid new kind order total head block size ReadFault given is enough fewer within number stop = tt
stop-told position front mid new kind order total head block size (OutOfMemory want) given is enough fewer within number stop = tt

pub stop-few : (position : Position) (front mid new : Option (List ℕ)) (kind : Kind) (order : Order) (total : ℕ) (head : List ℕ) (size : ℕ)
    → HasGivenHead position front mid kind order total head → head_of kind ≤ length head → GivesFewer size mid new → head_of kind + size ≤ total
    → GivesAtMost total front new
stop-few position front mid new kind order total head size given enough fewer within =
    let all = length-take-le (head_of kind) head enough in
    let count = length-append (take (head_of kind) head) fewer.front in
    let less = fewer.within in
    record {
      front = take (head_of kind) head ++ fewer.front;
      given = Consumes-then front mid new (take (head_of kind) head) fewer.front given.taken fewer.given;
      within = omega arith;
    }

-- a block that was taken to its end
pub record HasGivenBlock (position : Position) (front new : Option (List ℕ)) (kind : Kind) (order : Order) (total : ℕ) (head : List ℕ) (unit : Option ℕ)
    (second : ℕ) (frame : List ℕ) : Type 0 where
  pub block : List ℕ
  pub taken : Consumes front new block
  pub all : length block ≡ total
  pub is : IfSome front (λ bytes. IsHead position bytes kind order total)
  pub same : content_in position kind order block ≡ content_by position kind order total head unit
  pub ends : second ≡ number_at order (length block - 4) 4 block
  pub placed : options_size kind total ≡ 0 → take (length frame) (drop (head_of kind) block) ≡ frame

-- the options of an interface in its block
option_bytes-in : (kind : Kind) (total : ℕ) (first options behind : List ℕ) → kind ≡ InterfaceDescription → length first ≡ head_of kind
    → length options ≡ options_size kind total → length (first ++ (options ++ behind)) ≡ total → option_bytes (first ++ (options ++ behind)) ≡ options
option_bytes-in SectionHeader total first options behind is sixteen size all = absurd (cc)
option_bytes-in SimplePacket total first options behind is sixteen size all = absurd (cc)
option_bytes-in EnhancedPacket total first options behind is sixteen size all = absurd (cc)
option_bytes-in Other total first options behind is sixteen size all = absurd (cc)
option_bytes-in InterfaceDescription total first options behind is sixteen size all =
    ap (λ (n : ℕ). take (n - 20) (drop 16 (first ++ (options ++ behind)))) all
    ∙ ap (take (total - 20)) (drop_at first (options ++ behind) 16 sixteen) ∙ take_at options behind (total - 20) size

pub HasGivenBlock-from : (position : Position) (front mid behind_options behind_frame new : Option (List ℕ)) (kind : Kind) (order : Order) (total : ℕ)
    (head : List ℕ) (unit : Option ℕ) (size second : ℕ) (frame : List ℕ)
    → HasGivenHead position front mid kind order total head → head_of kind ≤ length head → TakesOptions mid behind_options kind order total unit
    → Consumes behind_options behind_frame frame → TakesTail behind_frame new order size second → 4 ≤ size
    → head_of kind + options_size kind total + length frame + size ≡ total → HasGivenBlock position front new kind order total head unit second frame
HasGivenBlock-from position front mid behind_options behind_frame new kind order total head unit size second frame given enough options framed tail four sum =
    let first = take (head_of kind) head in
    let first_all = length-take-le (head_of kind) head enough in
    let options_all = options.all in
    let tail_all = tail.all in
    let last = frame ++ tail.bytes in
    let last_count = length-append frame tail.bytes in
    let more_count = length-append options.bytes last in
    let behind = options.bytes ++ last in
    let block = first ++ behind in
    let count = length-append first behind in
    let all : length block ≡ total = omega arith in
    let place : length block - 4 ≡ length first + (length options.bytes + (length frame + (size - 4))) = omega arith in
    record {
      block = block;
      taken = Consumes-then front mid new first behind given.taken
          (Consumes-then mid behind_options new options.bytes last options.taken (Consumes-then behind_options behind_frame new frame tail.bytes framed tail.taken));
      all = all;
      is = given.is;
      same = ap (λ (n : ℕ). content_by position kind order n block (unit_in order (option_bytes block))) all
          ∙ unit_counts position kind order total block (unit_in order (option_bytes block)) unit
          (λ is. ap (unit_in order) (option_bytes-in kind total first options.bytes last is first_all options_all all) ∙ sym (options.told is))
          ∙ sym (content_by-head position kind order total head block behind unit enough refl);
      ends = tail.number
          ∙ sym (ap (λ (n : ℕ). number_at order n 4 block) place
          ∙ number_at-behind order 4 (length options.bytes + (length frame + (size - 4))) first behind
          ∙ number_at-behind order 4 (length frame + (size - 4)) options.bytes last ∙ number_at-behind order 4 (size - 4) frame tail.bytes);
      placed = λ none.
          let no_options : length options.bytes ≡ 0 = omega arith in
          ap (take (length frame)) (drop_at first behind (head_of kind) first_all ∙ without options.bytes no_options last) ∙ take_at frame tail.bytes (length frame) refl;
    }
  where
    without : (xs : List ℕ) → length xs ≡ 0 → (ys : List ℕ) → xs ++ ys ≡ ys
    without [] none ys = refl
    without (x ∷ xs) none ys = absurd (omega arith)

-- what is tested of a block that is all there
closed-odd : (position : Position) (kind : Kind) (order : Order) (block : List ℕ) → number_at order (length block - 4) 4 block ≢ length block
    → closed position kind order block ≡ Err (Length (number_of position))
unfolding closed
closed-odd position kind order block differs =
    let other : (number_at order (length block - 4) 4 block == length block) ≡ false = ne_eqb _ _ differs in
    rw other refl

closed-told : (position : Position) (kind : Kind) (order : Order) (block : List ℕ) → number_at order (length block - 4) 4 block ≡ length block
    → closed position kind order block ≡ told_by block (content_in position kind order block)
unfolding closed
closed-told position kind order block equal =
    let same : (number_at order (length block - 4) 4 block == length block) ≡ true = eq-eqb _ _ equal in
    rw same refl

block_in-closed : (position : Position) (bytes block behind : List ℕ) (kind : Kind) (order : Order) (total : ℕ) → IsHead position bytes kind order total
    → is_total kind total ≡ true → bytes ≡ block ++ behind → length block ≡ total → block_in position bytes ≡ closed position kind order block
block_in-closed position bytes block behind kind order total head is parts all =
    block_in-sized position bytes kind order total head
    ∙ ap (λ (n : ℕ). sized position kind order n bytes) (sym all) ∙ ap (sized position kind order (length block)) parts
    ∙ sized-whole position kind order block behind (ap (is_total kind) all ∙ is)

-- its fault
fault-told : (position : Position) (front new : Option (List ℕ)) (kind : Kind) (order : Order) (total : ℕ) (head : List ℕ) (unit : Option ℕ) (second : ℕ) (frame : List ℕ)
    (fault : NgError) (given : HasGivenBlock position front new kind order total head unit second frame) → is_total kind total ≡ true
    → closed position kind order given.block ≡ Err fault → IfSome front (λ bytes. IsFaultyRest position bytes fault)
fault-told position front new kind order total head unit second frame fault given is refused =
    let least_total = is_total-least kind total is in
    let some = head_of-within kind in
    let all = given.all in
    behind_taken front new given.block given.taken given.is (λ bytes behind parts known.
    let size : length bytes ≡ length given.block + length behind = ap length parts ∙ length-append given.block behind in
    IsFaultyRest-from position bytes fault (omega arith) (block_in-closed position bytes given.block behind kind order total known is parts all ∙ refused))

pub length-told : (position : Position) (front new : Option (List ℕ)) (kind : Kind) (order : Order) (total : ℕ) (head : List ℕ) (unit : Option ℕ) (second : ℕ) (frame : List ℕ)
    → HasGivenBlock position front new kind order total head unit second frame → is_total kind total ≡ true → second ≢ total
    → IfSome front (λ bytes. IsFaultyRest position bytes (Length (number_of position)))
length-told position front new kind order total head unit second frame given is differs =
    fault-told position front new kind order total head unit second frame (Length (number_of position)) given is
    (closed-odd position kind order given.block (λ same. differs (given.ends ∙ same ∙ given.all)))

pub content-refused : (position : Position) (front new : Option (List ℕ)) (kind : Kind) (order : Order) (total : ℕ) (head : List ℕ) (unit : Option ℕ) (second : ℕ) (frame : List ℕ)
    (fault : NgError) → HasGivenBlock position front new kind order total head unit second frame → is_total kind total ≡ true → second ≡ total
    → Err fault ≡ content_by position kind order total head unit → IfSome front (λ bytes. IsFaultyRest position bytes fault)
content-refused position front new kind order total head unit second frame fault given is same told =
    fault-told position front new kind order total head unit second frame fault given is
    (closed-told position kind order given.block (sym given.ends ∙ same ∙ sym given.all) ∙ ap (told_by given.block) (given.same ∙ sym told))

-- the bytes of its packet
records-told : (size total : ℕ) (content : Content) (block frame : List ℕ) → IsPlaced size total content → captured_by content ≡ length frame
    → IsNoPacket (Ok content) ⊎ (take (length frame) (drop size block) ≡ frame) → records_in content block ≡ records_with content frame
records-told size total (NewSection order) block frame placed captured told = refl
records-told size total (NewInterface interface) block frame placed captured told = refl
records-told size total Passed block frame placed captured told = refl
records-told size total (Packet time place n) block frame placed captured (inl never) = absurd never
records-told size total (Packet time place n) block frame placed captured (inr bytes) =
    let told : take n (drop place block) ≡ frame =
    ap (λ (p : ℕ). take n (drop p block)) placed.0 ∙ ap (λ (m : ℕ). take m (drop size block)) captured ∙ bytes in
    ap (λ (bs : List ℕ). record { time = time; content = bs } ∷ []) told

pub block-taken : (position : Position) (front new : Option (List ℕ)) (kind : Kind) (order : Order) (total : ℕ) (head : List ℕ) (unit : Option ℕ) (second : ℕ) (frame : List ℕ)
    (content : Content) → HasGivenBlock position front new kind order total head unit second frame → is_total kind total ≡ true → second ≡ total
    → Ok content ≡ content_by position kind order total head unit → IsPlaced (head_of kind) total content → captured_by content ≡ length frame
    → TakesBlock position front new content frame
block-taken position front new kind order total head unit second frame content given is same told placed captured =
    let all = given.all in
    let enough = is_total-least kind total is in
    let long = front_of-within kind in
    let closed_here : closed position kind order given.block ≡ Ok (record { bytes = given.block; content = content }) =
    closed-told position kind order given.block (sym given.ends ∙ same ∙ sym all) ∙ ap (told_by given.block) (given.same ∙ sym told) in
    let no_packet_or_bytes : IsNoPacket (Ok content) ⊎ (take (length frame) (drop (head_of kind) given.block) ≡ frame) =
    elim (none_or_no_packet position kind order total head unit) [
      | inl none ↦ inr (given.placed none)
      | inr other ↦ inl (subst IsNoPacket (sym told) other)
    ] in
    record {
      bytes = given.block;
      taken = given.taken;
      is = behind_taken front new given.block given.taken given.is (λ bytes behind parts known.
          let here : IsHead position given.block kind order total =
          IsHead-front position given.block behind kind order total (omega arith) (subst (λ (x : List ℕ). IsHead position x kind order total) parts known) in
          block_in-closed position given.block given.block [] kind order total here is (sym (append-nil given.block)) all ∙ closed_here);
      told = records-told (head_of kind) total content given.block frame placed captured no_packet_or_bytes;
    }

pub block-few : (position : Position) (front new : Option (List ℕ)) (kind : Kind) (order : Order) (total : ℕ) (head : List ℕ) (unit : Option ℕ) (second : ℕ) (frame : List ℕ)
    → HasGivenBlock position front new kind order total head unit second frame → GivesAtMost total front new
block-few position front new kind order total head unit second frame given =
    let all = given.all in
    record { front = given.block; given = given.taken; within = omega arith }

-- the same of an enhanced packet that was taken at once behind its total length
pub HasGivenBlock-whole : (position : Position) (front mid new : Option (List ℕ)) (order : Order) (total : ℕ) (begun rest frame : List ℕ) (second captured : ℕ)
    → Consumes front mid (take 8 begun) → 8 ≤ length begun → IfSome front (λ bytes. IsHead position bytes EnhancedPacket order total)
    → Consumes mid new rest → length rest + 8 ≡ total → 4 ≤ length rest → second ≡ number_at order (length rest - 4) 4 rest
    → frame ≡ take captured (drop 20 rest) → length frame ≡ captured
    → HasGivenBlock position front new EnhancedPacket order total (take 8 begun ++ rest) None second frame
HasGivenBlock-whole position front mid new order total begun rest frame second captured first eight head taken sum enough number part size =
    let start = take 8 begun in
    let start_all = length-take-le 8 begun eight in
    let block = start ++ rest in
    let count = length-append start rest in
    let all : length block ≡ total = omega arith in
    let place : length block - 4 ≡ length start + (length rest - 4) = omega arith in
    let behind : drop 28 block ≡ drop 20 rest =
    sym (drop-drop 20 8 block) ∙ ap (drop 20) (drop_at start rest 8 start_all) in
    record {
      block = block;
      taken = Consumes-then front mid new start rest first taken;
      all = all;
      is = head;
      same = ap (λ (n : ℕ). content_by position EnhancedPacket order n block (unit_in order (option_bytes block))) all
          ∙ unit_counts position EnhancedPacket order total block (unit_in order (option_bytes block)) None (λ is. absurd (cc));
      ends = number ∙ sym (ap (λ (n : ℕ). number_at order n 4 block) place ∙ number_at-behind order 4 (length rest - 4) start rest);
      placed = λ none. ap (take (length frame)) behind ∙ ap (λ (n : ℕ). take n (drop 20 rest)) size ∙ sym part;
    }

-- what an enhanced packet tells, by the bytes behind its total length
number_behind : (order : Order) (place : ℕ) (first rest : List ℕ) → length first ≡ 8 → number_at order (8 + place) 4 (first ++ rest) ≡ number_at order place 4 rest
number_behind order place first rest eight =
    ap (λ (n : ℕ). number_at order (n + place) 4 (first ++ rest)) (sym eight) ∙ number_at-behind order 4 place first rest

enhanced-numbers : (position : Position) (total : ℕ) (first rest : List ℕ) (interface : Option InterfaceInfo) → length first ≡ 8
    → enhanced_on position position.order total (first ++ rest) interface ≡ enhanced_behind position total rest interface
enhanced-numbers position total first rest None eight = refl
enhanced-numbers position total first rest (Some interface) eight =
    let order = position.order in
    let block = first ++ rest in
    let with : ℕ → ℕ → ℕ → Result Content NgError = λ h l c. packet_on position interface (microseconds interface.units (h * 2 ^ 32 + l)) c 28 (total - 32) in
    ap (λ (h : ℕ). with h (number_at order 16 4 block) (number_at order 20 4 block)) (number_behind order 4 first rest eight)
    ∙ ap (λ (l : ℕ). with (number_at order 4 4 rest) l (number_at order 20 4 block)) (number_behind order 8 first rest eight)
    ∙ ap (with (number_at order 4 4 rest) (number_at order 8 4 rest)) (number_behind order 12 first rest eight)

pub enhanced-told : (position : Position) (total : ℕ) (first rest : List ℕ) → length first ≡ 8
    → content_by position EnhancedPacket position.order total (first ++ rest) None
    ≡ enhanced_behind position total rest (slice_get position.interfaces (number_at position.order 0 4 rest))
unfolding content_by
enhanced-told position total first rest eight =
    ap (λ (n : ℕ). enhanced_on position position.order total (first ++ rest) (slice_get position.interfaces n)) (number_behind position.order 0 first rest eight)
    ∙ enhanced-numbers position total first rest (slice_get position.interfaces (number_at position.order 0 4 rest)) eight
