-- How a reader of blocks goes on, one block after another.
use Rattle.std.proofs.Common.{◌≡◌, ◌≢◌, ℕ, ◌+◌, ◌-◌, ◌*◌, ◌≤◌, ◌<◌, false, List, [], ◌∷◌, ◌++◌, length, Option, Some, None, Result, Ok, Err, IfErr, IfSome, ◌==◌, refl, sym, ap, subst, ◌∙◌, arith}
use Rattle.std.proofs.lemmas.Bool.{ne_eqb}
use Rattle.std.proofs.lemmas.List.{length-append}
use Rattle.std.specs.Io.KnownBytes.{IsAtEnd}
use Rattle.scr_pcap.specs.declared.reader.RecordInfo.{RecordInfo}
use Rattle.scr_pcap.specs.Records.{Record}
use Rattle.scr_pcap.specs.Taken.{GivesAtMost}
use Rattle.scr_pcap.proofs.Sizes.{GivesAtMost-more, GivesAtMost-then}
use Rattle.scr_pcapng.specs.declared.content.Content.{Content}
use Rattle.scr_pcapng.specs.declared.content.Content.TheVariants.{NewSection, NewInterface, Packet, Passed}
use Rattle.scr_pcapng.specs.declared.error.AnyError.{AnyError}
use Rattle.scr_pcapng.specs.declared.error.AnyError.TheVariants.{Classic, Ng, ReadFault, OutOfMemory}
use Rattle.scr_pcapng.specs.declared.error.NgError.{NgError}
use Rattle.scr_pcapng.specs.declared.progress.Progress.{Progress}
use Rattle.scr_pcapng.specs.declared.progress.Progress.TheVariants.{Reading, Ended, Refused}
use Rattle.scr_pcapng.specs.Contents.{Position, captured_by, position_behind, records_with}
use Rattle.scr_pcapng.specs.Blocks.{BLOCKS, Block, IsBlock}
use Rattle.scr_pcapng.specs.Parts.{IsFaultOf, TakesBlock}
use Rattle.scr_pcapng.specs.Reading.{IsFaultyRest, IsReadingFrom, IsRestInBlocks, block_records}
use Rattle.scr_pcapng.specs.State.{BlockReaderState, IsBlockCause, IsCauseOf, IsCounted, LONGEST_BLOCK, ReadsOn, Rest, ahead, faults_counted, left_in, most_of_block, put_before, reach_in, rest_in_blocks}
use Rattle.scr_pcapng.specs.Steps.{IsEndOf, Steps, Tells, answer_with, info_in}

-- the reading behind a block, with its records in front
reading-behind : (position : Position) (b : Block) (behind : List ℕ) (records : List Record) (reading : Result (List Record) AnyError) → IsBlock position b
    → block_records b ≡ records → IsRestInBlocks (position_behind position b.content) behind reading
    → IsRestInBlocks position (b.bytes ++ behind) (put_before records reading)
reading-behind position b behind records (Ok others) is told rest = record {
  blocks = b ∷ rest.blocks;
  spelled = (behind, refl, is, rest.spelled);
  told = ap (λ (rs : List Record). rs ++ others) (sym told) ∙ ap (λ (rs : List Record). block_records b ++ rs) rest.told;
}
reading-behind position b behind records (Err (Ng fault)) is told rest = record {
  blocks = b ∷ rest.blocks;
  rest = rest.rest;
  spelled = (behind, refl, is, rest.spelled);
  faulty = rest.faulty;
}
reading-behind position b behind records (Err (Classic fault)) is told rest = absurd rest
reading-behind position b behind records (Err ReadFault) is told rest = absurd rest
reading-behind position b behind records (Err (OutOfMemory want)) is told rest = absurd rest

-- behind a block nothing was taken ahead
ahead-behind : (position : Position) (content : Content) (left : Option (List ℕ)) → ahead (position_behind position content) left ≡ left
ahead-behind position (NewSection order) left = let some : (position.blocks + 1 == 0) ≡ false = ne_eqb _ _ (λ none. absurd (omega arith)) in rw some refl
ahead-behind position (NewInterface interface) left = let some : (position.blocks + 1 == 0) ≡ false = ne_eqb _ _ (λ none. absurd (omega arith)) in rw some refl
ahead-behind position (Packet time place captured) left = let some : (position.blocks + 1 == 0) ≡ false = ne_eqb _ _ (λ none. absurd (omega arith)) in rw some refl
ahead-behind position Passed left = let some : (position.blocks + 1 == 0) ≡ false = ne_eqb _ _ (λ none. absurd (omega arith)) in rw some refl

reads-on : (position : Position) (old new : Option (List ℕ)) (content : Content) (frame : List ℕ) (reading : Result (List Record) AnyError)
    → TakesBlock position old new content frame → IfSome new (λ bytes. IsRestInBlocks (position_behind position content) bytes reading)
    → IfSome old (λ bytes. IsRestInBlocks position bytes (put_before (records_with content frame) reading))
reads-on position None new content frame reading block rest = tt
reads-on position (Some old) None content frame reading block rest = absurd block.taken
reads-on position (Some old) (Some new) content frame reading block rest =
    let b : Block = record { bytes = block.bytes; content = content } in
    subst (λ (bytes : List ℕ). IsRestInBlocks position bytes (put_before (records_with content frame) reading)) (sym block.taken)
    (reading-behind position b new (records_with content frame) reading block.is block.told rest)

-- a block was taken
pub ReadsOn-block : (position : Position) (left new : Option (List ℕ)) (content : Content) (frame : List ℕ) → TakesBlock position (ahead position left) new content frame
    → ReadsOn (rest_in_blocks position left) (rest_in_blocks (position_behind position content) new) (records_with content frame)
ReadsOn-block position left new content frame block = λ reading rest.
    reads-on position (ahead position left) new content frame reading block
    (subst (λ (front : Option (List ℕ)). IfSome front (λ bytes. IsRestInBlocks (position_behind position content) bytes reading)) (ahead-behind position content new) rest)

-- nothing was in front
put_before-none : (records : List Record) (reading : Result (List Record) AnyError) → put_before records (put_before [] reading) ≡ put_before records reading
put_before-none records (Ok others) = refl
put_before-none records (Err fault) = refl

pub put_none : (reading : Result (List Record) AnyError) → put_before [] reading ≡ reading
put_none (Ok others) = refl
put_none (Err fault) = refl

ReadsOn-then : (a b c : Rest) (records : List Record) → ReadsOn a b [] → ReadsOn b c records → ReadsOn a c records
ReadsOn-then a b c records first second = λ reading rest. subst a (put_none (put_before records reading)) (first (put_before records reading) (second reading rest))

pub ReadsOn-none : (a : Rest) → ReadsOn a a []
ReadsOn-none a = λ reading rest. subst a (sym (put_none reading)) rest

IsCauseOf-then : (a b : Rest) (fault : AnyError) → ReadsOn a b [] → IsCauseOf b fault → IsCauseOf a fault
IsCauseOf-then a b (Classic fault) first cause = first (Err (Classic fault)) cause
IsCauseOf-then a b (Ng fault) first cause = first (Err (Ng fault)) cause
IsCauseOf-then a b ReadFault first cause = tt
IsCauseOf-then a b (OutOfMemory want) first cause = tt

Tells-then : (a b c : Rest) (frame : List ℕ) (progress : Progress) (found : Option RecordInfo) → ReadsOn a b [] → Tells b c frame progress found
    → Tells a c frame progress found
Tells-then a b c frame Reading None first second = ReadsOn-then a b c [] first second
Tells-then a b c frame Reading (Some info) first second = ReadsOn-then a b c (record { time = info.time; content = frame } ∷ []) first second
Tells-then a b c frame Ended found first second = first (Ok []) second
Tells-then a b c frame (Refused fault) found first second = IsCauseOf-then a b fault first second

-- the end, and a fault of the block that stands there
pub rest-ended : (position : Position) (left : Option (List ℕ)) → IsAtEnd (ahead position left) → rest_in_blocks position left (Ok [])
rest-ended position left end = ended (ahead position left) end
  where
    ended : (front : Option (List ℕ)) → IsAtEnd front → IfSome front (λ bytes. IsRestInBlocks position bytes (Ok []))
    ended None end = tt
    ended (Some bytes) end = record { blocks = []; spelled = end; told = refl }

pub rest-faulty : (position : Position) (left : Option (List ℕ)) (fault : AnyError) → IsFaultOf position (ahead position left) fault
    → IsCauseOf (rest_in_blocks position left) fault
rest-faulty position left fault faulty = cause (ahead position left) fault faulty
  where
    cut : (front : Option (List ℕ)) (fault : NgError) → IfSome front (λ bytes. IsFaultyRest position bytes fault)
        → IfSome front (λ bytes. IsReadingFrom position bytes (Err fault))
    cut None fault faulty = tt
    cut (Some bytes) fault faulty = record { blocks = []; rest = bytes; spelled = refl; faulty = faulty }

    cause : (front : Option (List ℕ)) (fault : AnyError) → IsFaultOf position front fault
        → IsCauseOf (λ reading. IfSome front (λ bytes. IsRestInBlocks position bytes reading)) fault
    cause front (Classic fault) faulty = absurd faulty
    cause front (Ng fault) faulty = cut front fault faulty
    cause front ReadFault faulty = tt
    cause front (OutOfMemory want) faulty = tt

-- a step, by how far it has come
pub Steps-from : (old : BlockReaderState) (left : Option (List ℕ)) (faults : ℕ) (new : BlockReaderState) (rest : Option (List ℕ)) (faults_now : ℕ) (frame : List ℕ)
    (found : Option RecordInfo) (progress : Progress) → old.progress ≡ Reading → new.progress ≡ progress
    → Tells (rest_in_blocks old.position left) (rest_in_blocks new.position rest) frame progress found → IsEndOf progress rest
    → IsCounted old.position.packets new.position.packets frame (answer_with progress found)
    → IfErr (answer_with progress found) IsBlockCause → faults_now ≡ faults_counted (answer_with progress found) faults
    → ((start : Option (List ℕ)) → GivesAtMost (reach_in old.position Reading) start (ahead old.position left)
    → GivesAtMost (reach_in new.position progress) start (left_in new.position progress rest))
    → Steps old left faults new rest faults_now frame found
Steps-from old left faults new rest faults_now frame found progress reading is tells ends counts named faulty reaches = record {
  tells = subst (λ (p : Progress). Tells (rest_in_blocks old.position left) (rest_in_blocks new.position rest) frame p found) (sym is) tells;
  ends = subst (λ (p : Progress). IsEndOf p rest) (sym is) ends;
  counts = subst (λ (p : Progress). IsCounted old.position.packets new.position.packets frame (answer_with p found)) (sym is) counts;
  named = subst (λ (p : Progress). IfErr (answer_with p found) IsBlockCause) (sym is) named;
  faulty = subst (λ (p : Progress). faults_now ≡ faults_counted (answer_with p found) faults) (sym is) faulty;
  reaches = λ start before.
      subst (λ (p : Progress). GivesAtMost (reach_in new.position p) start (left_in new.position p rest)) (sym is)
      (reaches start (subst (λ (p : Progress). GivesAtMost (reach_in old.position p) start (left_in old.position p left)) reading before));
}

most-before_last : (position : Position) → position.blocks < BLOCKS → most_of_block position ≡ LONGEST_BLOCK
most-before_last position few = let other : (position.blocks == BLOCKS) ≡ false = ne_eqb _ _ (λ all. absurd (omega arith)) in rw other refl

reaches-block : (position : Position) (front rest start : Option (List ℕ)) → position.blocks < BLOCKS → GivesAtMost (most_of_block position) front rest
    → GivesAtMost (position.blocks * LONGEST_BLOCK) start front → GivesAtMost ((position.blocks + 1) * LONGEST_BLOCK) start rest
reaches-block position front rest start few more before =
    let most = most-before_last position few in
    let within = more.within in
    let bounded : length more.front ≤ LONGEST_BLOCK = omega arith in
    GivesAtMost-more _ _ start rest (omega arith) (GivesAtMost-then (position.blocks * LONGEST_BLOCK) LONGEST_BLOCK start front rest more.front before more.given bounded)

pub blocks-behind : (position : Position) (content : Content) → (position_behind position content).blocks ≡ position.blocks + 1
blocks-behind position (NewSection order) = refl
blocks-behind position (NewInterface interface) = refl
blocks-behind position (Packet time place captured) = refl
blocks-behind position Passed = refl

reaches-behind : (position next : Position) (content : Content) (left rest : Option (List ℕ)) → next ≡ position_behind position content → position.blocks < BLOCKS
    → GivesAtMost (most_of_block position) (ahead position left) rest
    → (start : Option (List ℕ)) → GivesAtMost (reach_in position Reading) start (ahead position left)
    → GivesAtMost (reach_in next Reading) start (left_in next Reading rest)
reaches-behind position next content left rest is few more = λ start before.
    subst (λ (p : Position). GivesAtMost (reach_in p Reading) start (left_in p Reading rest)) (sym is)
    (subst (λ (n : ℕ). GivesAtMost (n * LONGEST_BLOCK) start (ahead (position_behind position content) rest)) (sym (blocks-behind position content))
    (subst (GivesAtMost ((position.blocks + 1) * LONGEST_BLOCK) start) (sym (ahead-behind position content rest))
    (reaches-block position (ahead position left) rest start few more before)))

-- what a block tells of the packets
block-tells : (old left : Rest) (frame : List ℕ) (content : Content) (number : ℕ) → ReadsOn old left (records_with content frame)
    → Tells old left frame Reading (info_in number content)
block-tells old left frame (NewSection order) number reads = reads
block-tells old left frame (NewInterface interface) number reads = reads
block-tells old left frame (Packet time place captured) number reads = reads
block-tells old left frame Passed number reads = reads

block-counts : (position next : Position) (frame : List ℕ) (content : Content) → next ≡ position_behind position content → captured_by content ≡ length frame
    → IsCounted position.packets next.packets frame (Ok (info_in next.packets content))
block-counts position next frame (NewSection order) is sized = ap (λ (p : Position). p.packets) is
block-counts position next frame (NewInterface interface) is sized = ap (λ (p : Position). p.packets) is
block-counts position next frame (Packet time place captured) is sized = (ap (λ (p : Position). p.packets) is, ap (λ (p : Position). p.packets) is, sized)
block-counts position next frame Passed is sized = ap (λ (p : Position). p.packets) is

pub Steps-block : (old : BlockReaderState) (left : Option (List ℕ)) (faults : ℕ) (new : BlockReaderState) (rest : Option (List ℕ)) (faults_now : ℕ) (frame : List ℕ)
    (content : Content) (found : Option RecordInfo) → found ≡ info_in new.position.packets content
    → old.progress ≡ Reading → new.progress ≡ Reading → new.position ≡ position_behind old.position content → old.position.blocks < BLOCKS
    → captured_by content ≡ length frame → TakesBlock old.position (ahead old.position left) rest content frame
    → GivesAtMost (most_of_block old.position) (ahead old.position left) rest → faults_now ≡ faults → Steps old left faults new rest faults_now frame found
Steps-block old left faults new rest faults_now frame content found is_found reading is next few sized block more same =
    subst (λ (f : Option RecordInfo). Steps old left faults new rest faults_now frame f) (sym is_found)
    (Steps-from old left faults new rest faults_now frame (info_in new.position.packets content) Reading reading is
    (block-tells (rest_in_blocks old.position left) (rest_in_blocks new.position rest) frame content new.position.packets
    (subst (λ (p : Position). ReadsOn (rest_in_blocks old.position left) (rest_in_blocks p rest) (records_with content frame)) (sym next)
    (ReadsOn-block old.position left rest content frame block)))
    tt (block-counts old.position new.position frame content next sized) tt same
    (reaches-behind old.position new.position content left rest next few more))

-- nothing is taken at the end
none-at_end : (m : ℕ) (front rest : Option (List ℕ)) → IsAtEnd front → GivesAtMost m front rest → GivesAtMost 0 front rest
none-at_end m None rest end more = record { front = []; given = tt; within = omega arith }
none-at_end m (Some bytes) None end more = absurd more.given
none-at_end m (Some bytes) (Some behind) end more =
    let size : 0 ≡ length more.front + length behind = sym (ap length end) ∙ ap length more.given ∙ length-append more.front behind in
    record { front = more.front; given = more.given; within = omega arith }

reaches-more : (n m : ℕ) (front rest start : Option (List ℕ)) → GivesAtMost m front rest → GivesAtMost n start front → GivesAtMost (n + m) start rest
reaches-more n m front rest start more before = GivesAtMost-then n m start front rest more.front before more.given more.within

pub Steps-ended : (old : BlockReaderState) (left : Option (List ℕ)) (faults : ℕ) (new : BlockReaderState) (rest : Option (List ℕ)) (faults_now : ℕ) (frame : List ℕ)
    → old.progress ≡ Reading → new.progress ≡ Ended → new.position ≡ old.position → IsAtEnd (ahead old.position left) → IsAtEnd rest
    → GivesAtMost (most_of_block old.position) (ahead old.position left) rest → faults_now ≡ faults → Steps old left faults new rest faults_now frame None
Steps-ended old left faults new rest faults_now frame reading is same end none more same_faults =
    Steps-from old left faults new rest faults_now frame None Ended reading is (rest-ended old.position left end) none
    (ap (λ (p : Position). p.packets) same) tt same_faults
    (λ start before. subst (λ (p : Position). GivesAtMost (p.blocks * LONGEST_BLOCK) start rest) (sym same)
    (GivesAtMost-more _ _ start rest (omega arith)
    (reaches-more (old.position.blocks * LONGEST_BLOCK) 0 (ahead old.position left) rest start (none-at_end (most_of_block old.position) (ahead old.position left) rest end more) before)))

pub Steps-refused : (old : BlockReaderState) (left : Option (List ℕ)) (faults : ℕ) (new : BlockReaderState) (rest : Option (List ℕ)) (faults_now : ℕ) (frame : List ℕ)
    (error : AnyError) → old.progress ≡ Reading → new.progress ≡ Refused error → new.position ≡ old.position → IsFaultOf old.position (ahead old.position left) error
    → GivesAtMost (most_of_block old.position) (ahead old.position left) rest → faults_now ≡ faults_counted {T = Option Content} (Err error) faults
    → Steps old left faults new rest faults_now frame None
Steps-refused old left faults new rest faults_now frame error reading is same faulty more counted =
    Steps-from old left faults new rest faults_now frame None (Refused error) reading is (rest-faulty old.position left error faulty) tt
    (ap (λ (p : Position). p.packets) same) (block_cause (ahead old.position left) error faulty) (counted ∙ same_count error)
    (λ start before. subst (λ (p : Position). GivesAtMost (p.blocks * LONGEST_BLOCK + most_of_block p) start rest) (sym same)
    (reaches-more (old.position.blocks * LONGEST_BLOCK) (most_of_block old.position) (ahead old.position left) rest start more before))
  where
    block_cause : (front : Option (List ℕ)) (error : AnyError) → IsFaultOf old.position front error → IsBlockCause error
    block_cause front (Classic fault) faulty = absurd faulty
    block_cause front (Ng fault) faulty = tt
    block_cause front ReadFault faulty = tt
    block_cause front (OutOfMemory want) faulty = tt

    same_count : (error : AnyError) → faults_counted {T = Option Content} (Err error) faults ≡ faults_counted {T = Option RecordInfo} (Err error) faults
    same_count (Classic fault) = refl
    same_count (Ng fault) = refl
    same_count ReadFault = refl
    same_count (OutOfMemory want) = refl

-- nothing done yet
pub Steps-none : (reader : BlockReaderState) (left : Option (List ℕ)) (faults : ℕ) (frame : List ℕ) → reader.progress ≡ Reading
    → Steps reader left faults reader left faults frame None
Steps-none reader left faults frame reading =
    Steps-from reader left faults reader left faults frame None Reading reading reading (ReadsOn-none (rest_in_blocks reader.position left)) tt refl tt refl (λ start before. before)

-- one step after another
pub Steps-then : (old : BlockReaderState) (left : Option (List ℕ)) (faults : ℕ) (mid : BlockReaderState) (between : Option (List ℕ)) (faults_between : ℕ)
    (new : BlockReaderState) (rest : Option (List ℕ)) (faults_now : ℕ) (frame other : List ℕ) (found : Option RecordInfo)
    → Steps old left faults mid between faults_between other None → mid.progress ≡ Reading
    → Steps mid between faults_between new rest faults_now frame found → Steps old left faults new rest faults_now frame found
Steps-then old left faults mid between faults_between new rest faults_now frame other found first reading second =
    let a = rest_in_blocks old.position left in
    let b = rest_in_blocks mid.position between in
    let reads : ReadsOn a b [] = subst (λ (p : Progress). Tells a b other p None) reading first.tells in
    let packets : mid.position.packets ≡ old.position.packets =
    subst (λ (p : Progress). IsCounted old.position.packets mid.position.packets other (answer_with p None)) reading first.counts in
    let faulty : faults_between ≡ faults = subst (λ (p : Progress). faults_between ≡ faults_counted (answer_with p None) faults) reading first.faulty in
    record {
      tells = Tells-then a b (rest_in_blocks new.position rest) frame new.progress found reads second.tells;
      ends = second.ends;
      counts = subst (λ (n : ℕ). IsCounted n new.position.packets frame (answer_with new.progress found)) packets second.counts;
      named = second.named;
      faulty = subst (λ (n : ℕ). faults_now ≡ faults_counted (answer_with new.progress found) n) faulty second.faulty;
      reaches = λ start before. second.reaches start (first.reaches start before);
    }

-- where nothing was found and no error came, nothing is left
pub end-told : (progress : Progress) (found : Option RecordInfo) (rest : Option (List ℕ)) → answer_with progress found ≡ Ok None → (found ≡ None → progress ≢ Reading)
    → IsEndOf progress rest → IsAtEnd rest
end-told Reading found rest told stops ends = let none : found ≡ None = cc in absurd (stops none refl)
end-told Ended found rest told stops ends = ends
end-told (Refused fault) found rest told stops ends = absurd (cc)

-- how many blocks a reader can still take, and the end
abbrev pub rounds : Progress → ℕ → ℕ
rounds Reading blocks = BLOCKS + 1 - blocks
rounds Ended blocks = 0
rounds (Refused fault) blocks = 0
