-- A list of bytes has one reading.
use Rattle.std.proofs.Common.{◌≡◌, ℕ, Bool, true, false, List, [], ◌∷◌, ◌++◌, length, Result, Ok, Err, MatchBool, refl, sym, ap, subst, ◌∙◌, arith}
use Rattle.std.proofs.lemmas.List.{length-append}
use Rattle.std.specs.List.{flat_map}
use Rattle.scr_pcap.specs.Records.{Record}
use Rattle.scr_pcap.proofs.OneReading as classic
use Rattle.scr_pcapng.specs.declared.error.NgError.{NgError}
use Rattle.scr_pcapng.specs.declared.error.AnyError.{AnyError}
use Rattle.scr_pcapng.specs.declared.error.AnyError.TheVariants.{Classic, Ng, ReadFault, OutOfMemory}
use Rattle.scr_pcapng.specs.Contents.{Position, position_behind}
use Rattle.scr_pcapng.specs.Blocks.{Block, IsBlock, block_in}
use Rattle.scr_pcapng.specs.Reading.{BeginWith, IsBlockReading, IsClassicReading, IsCutShort, IsReading, IsReadingFrom, IsSpelled, NoBlock, START, behind_all, block_records, is_in_blocks}
use Rattle.scr_pcapng.proofs.Fronts.{IsBlock-append, IsBlock-long}

-- the same bytes begin with the same block, and the same bytes follow it
append_same : (xs ys zs : List ℕ) → xs ++ ys ≡ xs ++ zs → ys ≡ zs
append_same [] ys zs same = same
append_same (x ∷ xs) ys zs same = append_same xs ys zs (cc)

same_block : (position : Position) (bytes : List ℕ) (b c : Block) (behind behind' : List ℕ) → bytes ≡ b.bytes ++ behind → IsBlock position b
    → bytes ≡ c.bytes ++ behind' → IsBlock position c → (b ≡ c) × (behind ≡ behind')
same_block position bytes b c behind behind' parts is parts' is' =
    let one : block_in position bytes ≡ Ok b = ap (block_in position) parts ∙ IsBlock-append position b behind is in
    let other : block_in position bytes ≡ Ok c = ap (block_in position) parts' ∙ IsBlock-append position c behind' is' in
    let both : Ok b ≡ Ok c = sym one ∙ other in
    let same : b ≡ c = cc in
    let lists : b.bytes ++ behind ≡ b.bytes ++ behind' = sym parts ∙ parts' ∙ ap (λ (x : Block). x.bytes ++ behind') (sym same) in (
      same,
      append_same b.bytes behind behind' lists,
    )

-- the blocks up to where no further one stands are the same
same_blocks : (position : Position) (blocks blocks' : List Block) (bytes rest rest' : List ℕ)
    → BeginWith position blocks bytes rest → NoBlock (behind_all position blocks) rest
    → BeginWith position blocks' bytes rest' → NoBlock (behind_all position blocks') rest' → (blocks ≡ blocks') × (rest ≡ rest')
same_blocks position [] [] bytes rest rest' spelled none spelled' none' = (refl, sym spelled ∙ spelled')
same_blocks position [] (b ∷ blocks) bytes rest rest' spelled none (behind, parts, is, spelled') none' =
    absurd (none b behind (sym spelled ∙ parts) is)
same_blocks position (b ∷ blocks) [] bytes rest rest' (behind, parts, is, spelled) none spelled' none' =
    absurd (none' b behind (sym spelled' ∙ parts) is)
same_blocks position (b ∷ blocks) (c ∷ blocks') bytes rest rest' (behind, parts, is, spelled) none (behind', parts', is', spelled') none' =
    let same = same_block position bytes b c behind behind' parts is parts' is' in
    let at = λ (x : Block). position_behind position x.content in
    let spelled_here : BeginWith (position_behind position b.content) blocks' behind rest' =
    subst (λ (x : Block). BeginWith (position_behind position x.content) blocks' behind rest') (sym same.0)
    (subst (λ (x : List ℕ). BeginWith (position_behind position c.content) blocks' x rest') (sym same.1) spelled') in
    let none_here : NoBlock (behind_all (position_behind position b.content) blocks') rest' =
    subst (λ (x : Block). NoBlock (behind_all (position_behind position x.content) blocks') rest') (sym same.0) none' in
    let tails = same_blocks (position_behind position b.content) blocks blocks' behind rest rest' spelled none spelled_here none_here in
    (ap (λ (x : Block). x ∷ blocks) same.0 ∙ ap (λ (xs : List Block). c ∷ xs) tails.0, tails.1)

NoBlock-nil : (position : Position) → NoBlock position []
NoBlock-nil position = λ b behind parts is.
    let long = IsBlock-long position b is in
    let none : 0 ≡ length (b.bytes ++ behind) = ap length parts in
    let count = length-append b.bytes behind in
    omega arith

same_records : (position : Position) (bytes : List ℕ) (records records' : List Record) → IsSpelled position bytes records → IsSpelled position bytes records'
    → records ≡ records'
same_records position bytes records records' one other =
    let same = same_blocks position one.blocks other.blocks bytes [] [] one.spelled (NoBlock-nil _) other.spelled (NoBlock-nil _) in
    one.told ∙ ap (λ (bs : List Block). flat_map block_records bs) same.0 ∙ sym other.told

same_faults : (position : Position) (bytes : List ℕ) (fault fault' : NgError) → IsCutShort position bytes fault → IsCutShort position bytes fault' → fault ≡ fault'
same_faults position bytes fault fault' one other =
    let same = same_blocks position one.blocks other.blocks bytes one.rest other.rest one.spelled one.faulty.longest other.spelled other.faulty.longest in
    let here : Result Block NgError = block_in (behind_all position one.blocks) one.rest in
    let there : Result Block NgError = block_in (behind_all position other.blocks) other.rest in
    let equal : here ≡ there =
    ap (λ (bs : List Block). block_in (behind_all position bs) one.rest) same.0 ∙ ap (λ (rest : List ℕ). block_in (behind_all position other.blocks) rest) same.1 in
    let both : Err fault ≡ Err fault' = sym one.faulty.first_test ∙ equal ∙ other.faulty.first_test in
    cc

not_both : {A : Type 0} (position : Position) (bytes : List ℕ) (records : List Record) (fault : NgError) → IsSpelled position bytes records
    → IsCutShort position bytes fault → A
not_both position bytes records fault whole cut =
    let same = same_blocks position whole.blocks cut.blocks bytes [] cut.rest whole.spelled (NoBlock-nil _) cut.spelled cut.faulty.longest in
    absurd (cut.faulty.more (sym same.1))

pub same_from : (position : Position) (bytes : List ℕ) (one other : Result (List Record) NgError) → IsReadingFrom position bytes one
    → IsReadingFrom position bytes other → one ≡ other
same_from position bytes (Ok records) (Ok records') one other = ap (λ (rs : List Record). Ok rs) (same_records position bytes records records' one other)
same_from position bytes (Ok records) (Err fault) one other = not_both position bytes records fault one other
same_from position bytes (Err fault) (Ok records) one other = not_both position bytes records fault other one
same_from position bytes (Err fault) (Err fault') one other = ap (λ (e : NgError). Err e) (same_faults position bytes fault fault' one other)

-- a reading by blocks, with the causes of both formats
widen : Result (List Record) NgError → Result (List Record) AnyError
widen (Ok records) = Ok records
widen (Err fault) = Err (Ng fault)

same_in_blocks : (bytes : List ℕ) (one other : Result (List Record) AnyError) → IsBlockReading bytes one → IsBlockReading bytes other → one ≡ other
unfolding widen
same_in_blocks bytes (Ok records) (Ok records') one other = ap widen (same_from START bytes (Ok records) (Ok records') one other)
same_in_blocks bytes (Ok records) (Err (Ng fault)) one other = ap widen (same_from START bytes (Ok records) (Err fault) one other)
same_in_blocks bytes (Err (Ng fault)) (Ok records) one other = ap widen (same_from START bytes (Err fault) (Ok records) one other)
same_in_blocks bytes (Err (Ng fault)) (Err (Ng fault')) one other = ap widen (same_from START bytes (Err fault) (Err fault') one other)
same_in_blocks bytes (Err (Classic fault)) other one _ = absurd one
same_in_blocks bytes (Err ReadFault) other one _ = absurd one
same_in_blocks bytes (Err (OutOfMemory want)) other one _ = absurd one
same_in_blocks bytes (Ok records) (Err (Classic fault)) one other = absurd other
same_in_blocks bytes (Ok records) (Err ReadFault) one other = absurd other
same_in_blocks bytes (Ok records) (Err (OutOfMemory want)) one other = absurd other
same_in_blocks bytes (Err (Ng fault)) (Err (Classic fault')) one other = absurd other
same_in_blocks bytes (Err (Ng fault)) (Err ReadFault) one other = absurd other
same_in_blocks bytes (Err (Ng fault)) (Err (OutOfMemory want)) one other = absurd other

-- the same for the other format
classic_widen : Result (List Record) Rattle.scr_pcap.specs.declared.error.CaptureError.CaptureError → Result (List Record) AnyError
classic_widen (Ok records) = Ok records
classic_widen (Err fault) = Err (Classic fault)

same_classic : (bytes : List ℕ) (one other : Result (List Record) AnyError) → IsClassicReading bytes one → IsClassicReading bytes other → one ≡ other
unfolding classic_widen
same_classic bytes (Ok records) (Ok records') one other = ap classic_widen (classic.same_readings bytes (Ok records) (Ok records') one other)
same_classic bytes (Ok records) (Err (Classic fault)) one other = ap classic_widen (classic.same_readings bytes (Ok records) (Err fault) one other)
same_classic bytes (Err (Classic fault)) (Ok records) one other = ap classic_widen (classic.same_readings bytes (Err fault) (Ok records) one other)
same_classic bytes (Err (Classic fault)) (Err (Classic fault')) one other = ap classic_widen (classic.same_readings bytes (Err fault) (Err fault') one other)
same_classic bytes (Err (Ng fault)) other one _ = absurd one
same_classic bytes (Err ReadFault) other one _ = absurd one
same_classic bytes (Err (OutOfMemory want)) other one _ = absurd one
same_classic bytes (Ok records) (Err (Ng fault)) one other = absurd other
same_classic bytes (Ok records) (Err ReadFault) one other = absurd other
same_classic bytes (Ok records) (Err (OutOfMemory want)) one other = absurd other
same_classic bytes (Err (Classic fault)) (Err (Ng fault')) one other = absurd other
same_classic bytes (Err (Classic fault)) (Err ReadFault) one other = absurd other
same_classic bytes (Err (Classic fault)) (Err (OutOfMemory want)) one other = absurd other

by_format : (format : Bool) (bytes : List ℕ) (one other : Result (List Record) AnyError)
    → MatchBool format (IsBlockReading bytes one) (IsClassicReading bytes one) → MatchBool format (IsBlockReading bytes other) (IsClassicReading bytes other)
    → one ≡ other
by_format true bytes one other first second = same_in_blocks bytes one other first second
by_format false bytes one other first second = same_classic bytes one other first second

pub same_readings : (bytes : List ℕ) (one other : Result (List Record) AnyError) → IsReading bytes one → IsReading bytes other → one ≡ other
same_readings bytes one other first second = by_format (is_in_blocks bytes) bytes one other first second
