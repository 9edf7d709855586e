-- A whole stream, taken entry by entry.
use Rattle.std.proofs.Common.{◌≡◌, ℕ, ◌+◌, ◌-◌, ◌<◌, ◌≤◌, Bool, true, false, List, [], ◌∷◌, ◌++◌, length, drop, Option, Some, None, Ok, Err, IfSome, refl, sym, ap, subst, ◌∙◌, inl, inr, arith}
use Rattle.std.specs.Prelude.{unwrap_or}
use Rattle.std.proofs.lemmas.List.FromFn.{length-map-range_with_len}
use Rattle.std.proofs.lemmas.List.{append-nil}
use Rattle.std.specs.Io.KnownBytes.{Consumes, IsAtEnd}
use Rattle.scr_base.specs.declared.row.Row.{Row}
use Rattle.scr_plan.specs.Limits.{most_packets}
use Rattle.scr_plan.specs.Link.{Link}
use Rattle.scr_plan.specs.Plan.{Plan}
use Rattle.scr_wire.specs.declared.message.Message.TheVariants.{End}
use Rattle.scr_wire.specs.Spelling.{spelling}
use Rattle.scr_stream.specs.Frames.{StreamFrame, frame_bytes, row_in, last_number}
use Rattle.scr_stream.specs.Tests.{shape_of, entry_fault}
use Rattle.scr_stream.specs.Reading.{Follows, BeginWith, no_row, rows_from, missing_from, plan_from, IsStream, IsReading}
use Rattle.scr_stream.specs.Taken.{StandsFor, IsFound, TakesEntry, LeavesBehind, HasTakenFrames, HasTakenAll, HasTaken}
use Rattle.scr_stream.specs.declared.header.Shape.{Shape}
use Rattle.scr_stream.specs.declared.error.StreamError.{StreamError}
use Rattle.scr_stream.proofs.FramesInFront.{BeginWith-more}
use Rattle.scr_stream.proofs.Keeping.{kept-length}
use Rattle.scr_stream.proofs.RowsOfFrames.{last_number-more}

-- nothing is kept of no frames
pub StandsFor-none : (history : ℕ) → StandsFor history [] [] [] 0
unfolding last_number row_in
StandsFor-none history = record {
  rows_are = refl;
  missing_are = refl;
  count_is = refl;
  few = omega arith;
  fewer = omega arith;
  none_above = λ p above. refl;
  known = λ p from to near. absurd (omega arith);
}

LeavesBehind-none : (history : ℕ) (start : Option (List ℕ)) → LeavesBehind history [] start start
LeavesBehind-none history None = tt
LeavesBehind-none history (Some bytes) = refl

-- at the beginning
pub HasTaken-none : (history : ℕ) (start : Option (List ℕ)) → HasTakenFrames history start start [] [] 0
HasTaken-none history start = record { frames = []; stands = StandsFor-none history; behind = LeavesBehind-none history start }

-- the same, by what is kept at the beginning
pub HasTaken-start : (history : ℕ) (start : Option (List ℕ)) (rows : List Row) (missing : List ℕ) (count : ℕ) → rows ≡ [] → missing ≡ [] → count ≡ 0
    → HasTakenFrames history start start rows missing count
HasTaken-start history start rows missing count rows_are missing_are count_is =
    subst (λ (xs : List Row). HasTakenFrames history start start xs missing count) (sym rows_are)
    (subst (λ (xs : List ℕ). HasTakenFrames history start start [] xs count) (sym missing_are)
    (subst (λ (n : ℕ). HasTakenFrames history start start [] [] n) (sym count_is) (HasTaken-none history start)))

-- while there is more, frames alone were taken
pub frames-so_far : (more : Bool) (history : ℕ) (start now : Option (List ℕ)) (rows : List Row) (missing : List ℕ) (count : ℕ) → more ≡ true
    → HasTaken more history start now rows missing count → HasTakenFrames history start now rows missing count
frames-so_far true history start now rows missing count is taken = taken
frames-so_far false history start now rows missing count is taken = absurd cc

-- and then all was
pub all-taken : (more : Bool) (history : ℕ) (start now : Option (List ℕ)) (rows : List Row) (missing : List ℕ) (count : ℕ) → more ≡ false
    → HasTaken more history start now rows missing count → HasTakenAll history start now rows missing
all-taken true history start now rows missing count is taken = absurd cc
all-taken false history start now rows missing count is taken = taken

-- how many entries may still come, at most
abbrev pub left_of : (more : Bool) (count : ℕ) → ℕ
left_of true count = most_packets + 1 - count
left_of false count = 0

-- they get fewer
pub fewer-left : (more : Bool) (history : ℕ) (frames : List StreamFrame) (mid new : Option (List ℕ)) (rows : List Row) (missing : List ℕ) (count : ℕ)
    (new_rows : List Row) (new_missing : List ℕ) (new_count : ℕ) → StandsFor history frames rows missing count
    → TakesEntry more history frames mid new new_rows new_missing new_count → left_of more (length new_rows) < left_of true (length rows)
fewer-left true history frames mid new rows missing count new_rows new_missing new_count stands entry =
    let before = kept-length history frames rows missing count stands in
    let now = kept-length history (frames ++ entry.it ∷ []) new_rows new_missing new_count entry.stands in
    let number = last_number-more frames entry.it entry.follows.later in
    let later = entry.follows.later in
    let few = entry.follows.few in
    omega arith
fewer-left false history frames mid new rows missing count new_rows new_missing new_count stands entry =
    let before = kept-length history frames rows missing count stands in
    let few = stands.few in
    omega arith

LeavesBehind-more : (history : ℕ) (frames : List StreamFrame) (it : StreamFrame) (start mid new : Option (List ℕ)) → LeavesBehind history frames start mid
    → Consumes mid new (frame_bytes it) → Follows history frames it → LeavesBehind history (frames ++ it ∷ []) start new
LeavesBehind-more history frames it None mid new behind taken follows = tt
LeavesBehind-more history frames it (Some bytes) None new behind taken follows = absurd behind
LeavesBehind-more history frames it (Some bytes) (Some middle) None behind taken follows = absurd taken
LeavesBehind-more history frames it (Some bytes) (Some middle) (Some rest) behind taken follows =
    BeginWith-more history [] frames it bytes middle rest behind taken follows

spelled-by : (history : ℕ) (frames : List StreamFrame) (end : List ℕ) (start mid new : Option (List ℕ)) → LeavesBehind history frames start mid
    → Consumes mid new end → IsAtEnd new → IfSome start (λ bytes. BeginWith history [] frames bytes end)
spelled-by history frames end None mid new behind taken none = tt
spelled-by history frames end (Some bytes) None new behind taken none = absurd behind
spelled-by history frames end (Some bytes) (Some middle) None behind taken none = absurd taken
spelled-by history frames end (Some bytes) (Some middle) (Some rest) behind taken none =
    subst (λ (t : List ℕ). BeginWith history [] frames bytes t) (taken ∙ ap (λ (t : List ℕ). end ++ t) none ∙ append-nil end) behind

-- an entry more
pub HasTaken-more : (more : Bool) (history : ℕ) (start mid new : Option (List ℕ)) (rows : List Row) (missing : List ℕ) (count : ℕ)
    (new_rows : List Row) (new_missing : List ℕ) (new_count : ℕ) (taken : HasTakenFrames history start mid rows missing count)
    → TakesEntry more history taken.frames mid new new_rows new_missing new_count → HasTaken more history start new new_rows new_missing new_count
HasTaken-more true history start mid new rows missing count new_rows new_missing new_count taken entry = record {
  frames = taken.frames ++ entry.it ∷ [];
  stands = entry.stands;
  behind = LeavesBehind-more history taken.frames entry.it start mid new taken.behind entry.taken entry.follows;
}
HasTaken-more false history start mid new rows missing count new_rows new_missing new_count taken entry = record {
  frames = taken.frames;
  last = entry.last;
  within = entry.within;
  few = entry.few;
  spelled = spelled-by history taken.frames _ start mid new taken.behind entry.taken entry.end;
  end = entry.end;
  rows_are = entry.rows_are;
  missing_are = entry.missing_are;
}

-- all of it
pub stream-told : (program : ℕ) (shape : Shape) (old start new : Option (List ℕ)) (rows : List Row) (missing : List ℕ) (plan : Plan)
    → IfSome old (λ bytes. (shape_of program bytes ≡ Ok shape) × (start ≡ Some (drop 8 bytes)))
    → (taken : HasTakenAll shape.history start new rows missing) → plan ≡ plan_from shape taken.frames taken.last
    → IfSome old (λ bytes. IsStream program bytes plan)
stream-told program shape None start new rows missing plan header taken told = tt
stream-told program shape (Some bytes) start new rows missing plan header taken told = record {
  shape = shape;
  header = header.0;
  frames = taken.frames;
  last = taken.last;
  within = taken.within;
  few = taken.few;
  spelled = subst (λ (s : Option (List ℕ)). IfSome s (λ t. BeginWith shape.history [] taken.frames t (spelling (End taken.last)))) header.1 taken.spelled;
  told = told;
}

-- what is kept then makes a plan
pub plan-told : (shape : Shape) (frames : List StreamFrame) (last : ℕ) (plan : Plan) (rows : List Row) (missing : List ℕ) (link : Link)
    → plan.rows ≡ rows → plan.cores ≡ shape.cores → plan.history ≡ shape.history → plan.link ≡ link
    → link ≡ record { drops = []; repeats = []; delays = []; missing = missing } → rows ≡ rows_from frames last → missing ≡ missing_from frames last
    → plan ≡ plan_from shape frames last
plan-told shape frames last plan rows missing link rows_are cores_are history_is link_is lost rows_told missing_told =
    let by_rows : List Row → Plan = λ xs. record { rows = xs; cores = plan.cores; history = plan.history; link = plan.link } in
    let by_cores : ℕ → Plan = λ n. record { rows = rows_from frames last; cores = n; history = plan.history; link = plan.link } in
    let by_history : ℕ → Plan = λ n. record { rows = rows_from frames last; cores = shape.cores; history = n; link = plan.link } in
    let by_link : Link → Plan = λ l. record { rows = rows_from frames last; cores = shape.cores; history = shape.history; link = l } in
    let by_missing : List ℕ → Plan = λ xs. by_link (record { drops = []; repeats = []; delays = []; missing = xs }) in
    ap by_rows (rows_are ∙ rows_told) ∙ ap by_cores cores_are ∙ ap by_history history_is ∙ ap by_link (link_is ∙ lost) ∙ ap by_missing missing_told

pub few-rows : (frames : List StreamFrame) (last : ℕ) (rows : List Row) → last ≤ most_packets → rows ≡ rows_from frames last → length rows ≤ most_packets
few-rows frames last rows few is =
    let count = ap length is ∙ length-map-range_with_len (λ (p : ℕ). unwrap_or (row_in frames p) no_row) 1 last in
    omega arith

pub few-kept : (history : ℕ) (frames : List StreamFrame) (rows : List Row) (missing : List ℕ) (count : ℕ) → StandsFor history frames rows missing count
    → (length rows ≤ most_packets) × (count ≤ length rows)
few-kept history frames rows missing count stands =
    let size = kept-length history frames rows missing count stands in
    let few = stands.few in
    let fewer = stands.fewer in
    let same = stands.count_is in
    (omega arith, omega arith)

-- ---- up to an error

-- the header was refused
pub header-refuses : (program : ℕ) (old : Option (List ℕ)) (error : StreamError)
    → IfSome old (λ bytes. IsFound error → shape_of program bytes ≡ Err error) → IfSome old (λ bytes. IsFound error → IsReading program bytes (Err error))
header-refuses program None error told = tt
header-refuses program (Some bytes) error told = λ found. inl (told found)

-- an entry was refused
pub entry-refuses : (program : ℕ) (shape : Shape) (old start mid : Option (List ℕ)) (rows : List Row) (missing : List ℕ) (count : ℕ) (error : StreamError)
    → IfSome old (λ bytes. (shape_of program bytes ≡ Ok shape) × (start ≡ Some (drop 8 bytes)))
    → HasTakenFrames shape.history start mid rows missing count
    → IfSome mid (λ rest. IsFound error → (frames : List StreamFrame) → StandsFor shape.history frames rows missing count → entry_fault shape.history frames rest ≡ Some error)
    → IfSome old (λ bytes. IsFound error → IsReading program bytes (Err error))
entry-refuses program shape None start mid rows missing count error header taken told = tt
entry-refuses program shape (Some bytes) start None rows missing count error header taken told =
    absurd (subst (λ (s : Option (List ℕ)). LeavesBehind shape.history taken.frames s None) header.1 taken.behind)
entry-refuses program shape (Some bytes) start (Some rest) rows missing count error header taken told = λ found.
    inr (record {
      shape = shape;
      header = header.0;
      frames = taken.frames;
      rest = rest;
      spelled = subst (λ (s : Option (List ℕ)). LeavesBehind shape.history taken.frames s (Some rest)) header.1 taken.behind;
      first_test = told found taken.frames taken.stands;
    })

-- the same, where the history is told by another name
pub entry-refuses_at : (program : ℕ) (shape : Shape) (history : ℕ) → history ≡ shape.history → (old start mid : Option (List ℕ)) (rows : List Row) (missing : List ℕ)
    (count : ℕ) (error : StreamError)
    → IfSome old (λ bytes. (shape_of program bytes ≡ Ok shape) × (start ≡ Some (drop 8 bytes)))
    → HasTakenFrames history start mid rows missing count
    → IfSome mid (λ rest. IsFound error → (frames : List StreamFrame) → StandsFor history frames rows missing count → entry_fault history frames rest ≡ Some error)
    → IfSome old (λ bytes. IsFound error → IsReading program bytes (Err error))
entry-refuses_at program shape history is old start mid rows missing count error header taken told =
    entry-refuses program shape old start mid rows missing count error header
    (subst (λ (h : ℕ). HasTakenFrames h start mid rows missing count) is taken)
    (subst (λ (h : ℕ). IfSome mid (λ rest. IsFound error → (frames : List StreamFrame) → StandsFor h frames rows missing count → entry_fault h frames rest ≡ Some error)) is told)

-- the plan of a whole stream
pub stream-told_at : (program : ℕ) (shape : Shape) (history : ℕ) → history ≡ shape.history → (old start new : Option (List ℕ)) (rows : List Row) (missing : List ℕ)
    (plan : Plan) (link : Link)
    → IfSome old (λ bytes. (shape_of program bytes ≡ Ok shape) × (start ≡ Some (drop 8 bytes)))
    → HasTakenAll history start new rows missing
    → plan.rows ≡ rows → plan.cores ≡ shape.cores → plan.history ≡ history → plan.link ≡ link
    → link ≡ record { drops = []; repeats = []; delays = []; missing = missing }
    → IfSome old (λ bytes. IsStream program bytes plan)
stream-told_at program shape history is old start new rows missing plan link header taken rows_are cores_are history_is link_is lost =
    let all : HasTakenAll shape.history start new rows missing = subst (λ (h : ℕ). HasTakenAll h start new rows missing) is taken in
    stream-told program shape old start new rows missing plan header all
    (plan-told shape all.frames all.last plan rows missing link rows_are cores_are (history_is ∙ is) link_is lost all.rows_are all.missing_are)
