use Rattle.std.proofs.Common.{◌≡◌, ℕ, ◌+◌, ◌-◌, ◌≤◌, List, ◌++◌, inl, inr, length, take, drop, None, Ok, refl, sym, ap, ◌∙◌, slice_get, arith}
use Rattle.std.proofs.lemmas.Grind.{common_steps}
use Rattle.std.proofs.lemmas.List.{length-append, length-drop, length-take-le}
use Rattle.std.proofs.lemmas.Result.{err_from_is_err_and}
use Rattle.scr_pcap.specs.Header.{number_at}
use Rattle.scr_pcap.proofs.Taking.{Consumes-then}
use Rattle.scr_pcapng.specs.declared.kind.Kind.TheVariants.{EnhancedPacket}
use Rattle.scr_pcapng.specs.Contents.{content_by, enhanced_behind}
use Rattle.scr_pcapng.specs.State.{BlockReaderState, LONGEST_BLOCK}
use Rattle.scr_pcapng.proofs.Heads.{is_total-least}
use Rattle.scr_pcapng.proofs.HeadsTaken.{IsFaultOf-from, at_most-then, cut-behind_head, enhanced-head}
use Rattle.scr_pcapng.proofs.Taken.{GivesAtMost-more}
use Rattle.scr_pcapng.proofs.BlockTaken.{HasGivenBlock-whole, block-few, block-taken, captured-placed, content-refused, enhanced-told, length-told}
use Rattle.scr_pcapng.proofs.reader.BlockReader.take_enhanced.Goals as goal

pub returns-in_err-fill-clause-few : goal.returns-in_err-fill-clause-few
returns-in_err-fill-clause-few g c =
    let position = c.args.self.now.position in
    let begun = c.args.begun in
    let total = c.args.total in
    let eight : 8 ≤ length begun = grind (arith, common_steps) in
    let room = c.requires.room in
    let least_total = is_total-least EnhancedPacket total c.requires.is in
    let few : 8 + (total - 8) ≤ LONGEST_BLOCK = omega arith in
    λ front taken. at_most-then front _ _ begun 8 (total - 8) LONGEST_BLOCK taken eight c.in_err-fill.ensures.fewer few

pub returns-then-branch-size-clause-faulty : goal.returns-then-branch-size-clause-faulty
returns-then-branch-size-clause-faulty g c =
    let position = c.args.self.now.position in
    let begun = c.args.begun in
    let total = c.args.total in
    let eight : 8 ≤ length begun = grind (arith, common_steps) in
    let room = c.requires.room in
    let least_total = is_total-least EnhancedPacket total c.requires.is in
    let start = length-take-le 8 begun eight in
    let rest = c.fill.new.self in
    let filled = c.in_ok-fill.ensures in
    let count = filled.count in
    let most = filled.within in
    let joined = length-append (take 8 begun) rest in
    let short = c.if-branch-size.true in
    λ front taken. IsFaultOf-from position front _ c.cut.result _ c.into.ensures c.cut.ensures
    (cut-behind_head position front _ (take 8 begun ++ rest) EnhancedPacket position.order total
    (enhanced-head position front _ begun total c.requires.some taken eight c.requires.kind c.requires.told) c.requires.is
    (Consumes-then front _ _ (take 8 begun) rest taken filled.taken) (filled.end short) (omega arith))

pub returns-then-branch-size-clause-few : goal.returns-then-branch-size-clause-few
returns-then-branch-size-clause-few g c =
    let position = c.args.self.now.position in
    let begun = c.args.begun in
    let total = c.args.total in
    let eight : 8 ≤ length begun = grind (arith, common_steps) in
    let room = c.requires.room in
    let least_total = is_total-least EnhancedPacket total c.requires.is in
    let start = length-take-le 8 begun eight in
    let rest = c.fill.new.self in
    let filled = c.in_ok-fill.ensures in
    let count = filled.count in
    let most = filled.within in
    let joined = length-append (take 8 begun) rest in
    let short = c.if-branch-size.true in
    let few : length (take 8 begun ++ rest) ≤ LONGEST_BLOCK = omega arith in
    λ front taken. record {
      front = take 8 begun ++ rest;
      given = Consumes-then front _ _ (take 8 begun) rest taken filled.taken;
      within = few;
    }

pub returns-then-u32_at-total-clause-faulty : goal.returns-then-u32_at-total-clause-faulty
returns-then-u32_at-total-clause-faulty g c =
    let position = c.args.self.now.position in
    let begun = c.args.begun in
    let total = c.args.total in
    let eight : 8 ≤ length begun = grind (arith, common_steps) in
    let room = c.requires.room in
    let least_total = is_total-least EnhancedPacket total c.requires.is in
    let start = length-take-le 8 begun eight in
    let rest = c.fill.new.self in
    let filled = c.in_ok-fill.ensures in
    let count = filled.count in
    let most = filled.within in
    let whole = c.if-branch-size.false in
    let sum : length rest + 8 ≡ total = omega arith in
    let enough : 4 ≤ length rest = omega arith in
    let place : total - 8 - 4 ≡ length rest - 4 = omega arith in
    let bytes = c.bytes-rest.ensures.bytes in
    let number : c.u32_at.result ≡ number_at position.order (length rest - 4) 4 rest =
    c.u32_at.ensures ∙ ap (λ (reader : BlockReaderState). number_at reader.position.order (total - 8 - 4) 4 c.bytes-rest.result.now) c.self.view_is
    ∙ ap (number_at position.order (total - 8 - 4) 4) bytes ∙ ap (λ (n : ℕ). number_at position.order n 4 rest) place in
    let none = take 0 (drop 20 rest) in
    let none_all : length none ≡ 0 = length-take-le 0 (drop 20 rest) (omega arith) in
    λ front taken. IsFaultOf-from position front _ c.length.result _ c.into-then-u32_at-total.ensures c.length.ensures
    (length-told position front _ EnhancedPacket position.order total (take 8 begun ++ rest) None c.u32_at.result none (HasGivenBlock-whole position front _ _ position.order total begun rest none c.u32_at.result 0 taken eight
    (enhanced-head position front _ begun total c.requires.some taken eight c.requires.kind c.requires.told) filled.taken sum enough number refl none_all) c.requires.is c.if-u32_at-total.true)

pub returns-then-u32_at-total-clause-few : goal.returns-then-u32_at-total-clause-few
returns-then-u32_at-total-clause-few g c =
    let position = c.args.self.now.position in
    let begun = c.args.begun in
    let total = c.args.total in
    let eight : 8 ≤ length begun = grind (arith, common_steps) in
    let room = c.requires.room in
    let least_total = is_total-least EnhancedPacket total c.requires.is in
    let start = length-take-le 8 begun eight in
    let rest = c.fill.new.self in
    let filled = c.in_ok-fill.ensures in
    let count = filled.count in
    let most = filled.within in
    let whole = c.if-branch-size.false in
    let sum : length rest + 8 ≡ total = omega arith in
    let enough : 4 ≤ length rest = omega arith in
    let place : total - 8 - 4 ≡ length rest - 4 = omega arith in
    let bytes = c.bytes-rest.ensures.bytes in
    let number : c.u32_at.result ≡ number_at position.order (length rest - 4) 4 rest =
    c.u32_at.ensures ∙ ap (λ (reader : BlockReaderState). number_at reader.position.order (total - 8 - 4) 4 c.bytes-rest.result.now) c.self.view_is
    ∙ ap (number_at position.order (total - 8 - 4) 4) bytes ∙ ap (λ (n : ℕ). number_at position.order n 4 rest) place in
    let none = take 0 (drop 20 rest) in
    let none_all : length none ≡ 0 = length-take-le 0 (drop 20 rest) (omega arith) in
    let few : total ≤ LONGEST_BLOCK = omega arith in
    λ front taken. GivesAtMost-more _ _ total LONGEST_BLOCK (block-few position front _ EnhancedPacket position.order total (take 8 begun ++ rest) None c.u32_at.result none (HasGivenBlock-whole position front _ _ position.order total begun rest none c.u32_at.result 0 taken eight
    (enhanced-head position front _ begun total c.requires.some taken eight c.requires.kind c.requires.told) filled.taken sum enough number refl none_all)) few

pub returns-in_err-content-clause-faulty : goal.returns-in_err-content-clause-faulty
returns-in_err-content-clause-faulty g c =
    let position = c.args.self.now.position in
    let begun = c.args.begun in
    let total = c.args.total in
    let eight : 8 ≤ length begun = grind (arith, common_steps) in
    let room = c.requires.room in
    let least_total = is_total-least EnhancedPacket total c.requires.is in
    let start = length-take-le 8 begun eight in
    let rest = c.fill.new.self in
    let filled = c.in_ok-fill.ensures in
    let count = filled.count in
    let most = filled.within in
    let whole = c.if-branch-size.false in
    let sum : length rest + 8 ≡ total = omega arith in
    let enough : 4 ≤ length rest = omega arith in
    let place : total - 8 - 4 ≡ length rest - 4 = omega arith in
    let bytes = c.bytes-rest.ensures.bytes in
    let number : c.u32_at.result ≡ number_at position.order (length rest - 4) 4 rest =
    c.u32_at.ensures ∙ ap (λ (reader : BlockReaderState). number_at reader.position.order (total - 8 - 4) 4 c.bytes-rest.result.now) c.self.view_is
    ∙ ap (number_at position.order (total - 8 - 4) 4) bytes ∙ ap (λ (n : ℕ). number_at position.order n 4 rest) place in
    let none = take 0 (drop 20 rest) in
    let none_all : length none ≡ 0 = length-take-le 0 (drop 20 rest) (omega arith) in
    let told : c.enhanced_behind.result ≡ content_by position EnhancedPacket position.order total (take 8 begun ++ rest) None =
    c.enhanced_behind.ensures.told
    ∙ ap (λ (xs : List ℕ). enhanced_behind position total xs (slice_get position.interfaces (number_at position.order 0 4 xs))) bytes
    ∙ sym (enhanced-told position total (take 8 begun) rest start) in
    let p = err_from_is_err_and c.from_residual-in_err-content.result c.from_residual-in_err-content.ensures.1 in
    λ front taken. rw (p.1, p.2)
    (content-refused position front _ EnhancedPacket position.order total (take 8 begun ++ rest) None c.u32_at.result none c.in_err-content.field-0.0 (HasGivenBlock-whole position front _ _ position.order total begun rest none c.u32_at.result 0 taken eight
    (enhanced-head position front _ begun total c.requires.some taken eight c.requires.kind c.requires.told) filled.taken sum enough number refl none_all) c.requires.is c.if-u32_at-total.false (sym c.in_err-content.was ∙ told))

pub returns-in_err-content-clause-few : goal.returns-in_err-content-clause-few
returns-in_err-content-clause-few g c =
    let position = c.args.self.now.position in
    let begun = c.args.begun in
    let total = c.args.total in
    let eight : 8 ≤ length begun = grind (arith, common_steps) in
    let room = c.requires.room in
    let least_total = is_total-least EnhancedPacket total c.requires.is in
    let start = length-take-le 8 begun eight in
    let rest = c.fill.new.self in
    let filled = c.in_ok-fill.ensures in
    let count = filled.count in
    let most = filled.within in
    let whole = c.if-branch-size.false in
    let sum : length rest + 8 ≡ total = omega arith in
    let enough : 4 ≤ length rest = omega arith in
    let place : total - 8 - 4 ≡ length rest - 4 = omega arith in
    let bytes = c.bytes-rest.ensures.bytes in
    let number : c.u32_at.result ≡ number_at position.order (length rest - 4) 4 rest =
    c.u32_at.ensures ∙ ap (λ (reader : BlockReaderState). number_at reader.position.order (total - 8 - 4) 4 c.bytes-rest.result.now) c.self.view_is
    ∙ ap (number_at position.order (total - 8 - 4) 4) bytes ∙ ap (λ (n : ℕ). number_at position.order n 4 rest) place in
    let none = take 0 (drop 20 rest) in
    let none_all : length none ≡ 0 = length-take-le 0 (drop 20 rest) (omega arith) in
    let few : total ≤ LONGEST_BLOCK = omega arith in
    λ front taken. GivesAtMost-more _ _ total LONGEST_BLOCK (block-few position front _ EnhancedPacket position.order total (take 8 begun ++ rest) None c.u32_at.result none (HasGivenBlock-whole position front _ _ position.order total begun rest none c.u32_at.result 0 taken eight
    (enhanced-head position front _ begun total c.requires.some taken eight c.requires.kind c.requires.told) filled.taken sum enough number refl none_all)) few

pub returns-clause-taken : goal.returns-clause-taken
returns-clause-taken g c =
    let position = c.args.self.now.position in
    let begun = c.args.begun in
    let total = c.args.total in
    let eight : 8 ≤ length begun = grind (arith, common_steps) in
    let room = c.requires.room in
    let least_total = is_total-least EnhancedPacket total c.requires.is in
    let start = length-take-le 8 begun eight in
    let rest = c.fill.new.self in
    let filled = c.in_ok-fill.ensures in
    let count = filled.count in
    let most = filled.within in
    let whole = c.if-branch-size.false in
    let sum : length rest + 8 ≡ total = omega arith in
    let enough : 4 ≤ length rest = omega arith in
    let place : total - 8 - 4 ≡ length rest - 4 = omega arith in
    let bytes = c.bytes-rest.ensures.bytes in
    let number : c.u32_at.result ≡ number_at position.order (length rest - 4) 4 rest =
    c.u32_at.ensures ∙ ap (λ (reader : BlockReaderState). number_at reader.position.order (total - 8 - 4) 4 c.bytes-rest.result.now) c.self.view_is
    ∙ ap (number_at position.order (total - 8 - 4) 4) bytes ∙ ap (λ (n : ℕ). number_at position.order n 4 rest) place in
    let told : c.enhanced_behind.result ≡ content_by position EnhancedPacket position.order total (take 8 begun ++ rest) None =
    c.enhanced_behind.ensures.told
    ∙ ap (λ (xs : List ℕ). enhanced_behind position total xs (slice_get position.interfaces (number_at position.order 0 4 xs))) bytes
    ∙ sym (enhanced-told position total (take 8 begun) rest start) in
    let content = c.in_ok-content.content in
    let placed = c.in_ok-content.ensures.placed in
    let captured = c.captured.ensures in
    let behind = length-drop 20 rest in
    let within : c.captured.result ≤ length (drop 20 rest) = elim (captured-placed (Ok content) 28 total placed) [
      | inl no_bytes ↦ omega arith
      | inr some ↦ omega arith
    ] in
    let part = c.keep.ensures in
    let sized : length c.keep.new.self ≡ c.captured.result = ap length part ∙ length-take-le c.captured.result (drop 20 rest) within in
    λ front taken. block-taken position front _ EnhancedPacket position.order total (take 8 begun ++ rest) None c.u32_at.result c.keep.new.self content (HasGivenBlock-whole position front _ _ position.order total begun rest c.keep.new.self c.u32_at.result c.captured.result taken eight
    (enhanced-head position front _ begun total c.requires.some taken eight c.requires.kind c.requires.told) filled.taken sum enough number part sized) c.requires.is c.if-u32_at-total.false
    (sym c.in_ok-content.was ∙ told) placed (sym captured ∙ sym sized)

pub returns-clause-few : goal.returns-clause-few
returns-clause-few g c =
    let position = c.args.self.now.position in
    let begun = c.args.begun in
    let total = c.args.total in
    let eight : 8 ≤ length begun = grind (arith, common_steps) in
    let room = c.requires.room in
    let least_total = is_total-least EnhancedPacket total c.requires.is in
    let start = length-take-le 8 begun eight in
    let rest = c.fill.new.self in
    let filled = c.in_ok-fill.ensures in
    let count = filled.count in
    let most = filled.within in
    let whole = c.if-branch-size.false in
    let sum : length rest + 8 ≡ total = omega arith in
    let enough : 4 ≤ length rest = omega arith in
    let place : total - 8 - 4 ≡ length rest - 4 = omega arith in
    let bytes = c.bytes-rest.ensures.bytes in
    let number : c.u32_at.result ≡ number_at position.order (length rest - 4) 4 rest =
    c.u32_at.ensures ∙ ap (λ (reader : BlockReaderState). number_at reader.position.order (total - 8 - 4) 4 c.bytes-rest.result.now) c.self.view_is
    ∙ ap (number_at position.order (total - 8 - 4) 4) bytes ∙ ap (λ (n : ℕ). number_at position.order n 4 rest) place in
    let none = take 0 (drop 20 rest) in
    let none_all : length none ≡ 0 = length-take-le 0 (drop 20 rest) (omega arith) in
    let few : total ≤ LONGEST_BLOCK = omega arith in
    λ front taken. GivesAtMost-more _ _ total LONGEST_BLOCK (block-few position front _ EnhancedPacket position.order total (take 8 begun ++ rest) None c.u32_at.result none (HasGivenBlock-whole position front _ _ position.order total begun rest none c.u32_at.result 0 taken eight
    (enhanced-head position front _ begun total c.requires.some taken eight c.requires.kind c.requires.told) filled.taken sum enough number refl none_all)) few
