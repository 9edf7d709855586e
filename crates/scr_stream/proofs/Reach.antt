-- How many bytes were taken of a source with the frames of a stream.
use Rattle.std.proofs.Common.{◌≡◌, ℕ, ◌+◌, ◌*◌, ◌≤◌, List, [], ◌∷◌, ◌++◌, length, Option, Some, None, sym, ap, ◌∙◌, append_assoc, arith}
use Rattle.std.proofs.lemmas.List.{length-append}
use Rattle.std.specs.Io.KnownBytes.{Consumes}
use Rattle.scr_pcap.specs.Taken.{GivesAtMost, GivesFewer}
use Rattle.scr_pcap.proofs.Sizes.{GivesAtMost-more, GivesAtMost-then}
use Rattle.scr_pcap.proofs.Taking.{Consumes-none}
use Rattle.scr_base.specs.declared.row.Row.{Row}
use Rattle.scr_plan.specs.Limits.{longest_history}
use Rattle.scr_wire.specs.declared.message.MessageKind.TheVariants.{Frame}
use Rattle.scr_wire.specs.Spelling.{header_bytes, rows_bytes}
use Rattle.scr_wire.proofs.RowsRead.{length-rows_bytes}
use Rattle.scr_stream.specs.Frames.{StreamFrame, frame_bytes}
use Rattle.scr_stream.specs.Reading.{Follows, BeginWith}
use Rattle.scr_stream.specs.Taken.{longest_entry, most_bytes, LeavesBehind, HasTakenFrames}
use Rattle.scr_stream.proofs.EntryStands.{length-header}

-- ---- one call

-- what was taken, at most so much
pub gives-taken : (most : ℕ) (old new : Option (List ℕ)) (front : List ℕ) → Consumes old new front → length front ≤ most → GivesAtMost most old new
gives-taken most old new front given within = record { front = front; given = given; within = within }

pub gives-nothing : (most : ℕ) (old : Option (List ℕ)) → GivesAtMost most old old
gives-nothing most old = record { front = []; given = Consumes-none old; within = omega arith }

-- a read failed before
pub gives-fewer : (most : ℕ) (old new : Option (List ℕ)) → GivesFewer most old new → GivesAtMost most old new
gives-fewer most old new fewer = let within = fewer.within in record { front = fewer.front; given = fewer.given; within = omega arith }

-- one call after another
pub gives-then : (one other most : ℕ) (old mid new : Option (List ℕ)) → GivesAtMost one old mid → GivesAtMost other mid new → one + other ≤ most → GivesAtMost most old new
gives-then one other most old mid new first second enough =
    GivesAtMost-more (one + other) most old new enough (GivesAtMost-then one other old mid new second.front first second.given second.within)

-- ---- frames

frame-size : (history : ℕ) (frames : List StreamFrame) (it : StreamFrame) → history ≤ longest_history → Follows history frames it → length (frame_bytes it) ≤ longest_entry
frame-size history frames it short follows =
    let due = follows.all_rows in
    omega (arith, length-append (header_bytes Frame it.number (length it.rows)) (rows_bytes it.rows), length-header Frame it.number (length it.rows), length-rows_bytes it.rows)

frames-reach : (history : ℕ) → history ≤ longest_history → (earlier frames : List StreamFrame) (bytes rest : List ℕ) → BeginWith history earlier frames bytes rest
    → GivesAtMost (longest_entry * length frames) (Some bytes) (Some rest)
frames-reach history short earlier [] bytes rest begins = record { front = []; given = begins; within = omega arith }
frames-reach history short earlier (it ∷ frames) bytes rest (behind, parts, follows, begins) =
    let more = frames-reach history short (earlier ++ it ∷ []) frames behind rest begins in
    let within = more.within in
    let given : behind ≡ more.front ++ rest = more.given in
    record {
      front = frame_bytes it ++ more.front;
      given = parts ∙ ap (λ (t : List ℕ). frame_bytes it ++ t) given ∙ sym (append_assoc (frame_bytes it) more.front rest);
      within = omega (arith, length-append (frame_bytes it) more.front, frame-size history earlier it short follows);
    }

behind-reach : (history : ℕ) → history ≤ longest_history → (frames : List StreamFrame) (start now : Option (List ℕ)) → LeavesBehind history frames start now
    → GivesAtMost (longest_entry * length frames) start now
behind-reach history short frames None now behind = record { front = []; given = tt; within = omega arith }
behind-reach history short frames (Some bytes) None behind = absurd behind
behind-reach history short frames (Some bytes) (Some rest) behind = frames-reach history short [] frames bytes rest behind

-- a stream up to an error behind some frames
pub stream-reach : (history : ℕ) → history ≤ longest_history → (old start now new : Option (List ℕ)) (rows : List Row) (missing : List ℕ) (count : ℕ)
    → GivesAtMost 8 old start → HasTakenFrames history start now rows missing count → GivesAtMost longest_entry now new → GivesAtMost most_bytes old new
stream-reach history short old start now new rows missing count first taken last =
    let few = taken.stands.few in
    let fewer = taken.stands.fewer in
    let frames = gives-then 8 (longest_entry * length taken.frames) (8 + longest_entry * length taken.frames) old start now first
    (behind-reach history short taken.frames start now taken.behind) (omega arith) in
    gives-then (8 + longest_entry * length taken.frames) longest_entry most_bytes old now new frames last (omega arith)
