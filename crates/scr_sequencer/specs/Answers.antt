-- What a sequencer answers, by what it keeps, and for a plan whose rows it was given so far.
use Rattle.std.specs.Prelude.{◌≡◌, ◌≢◌, ℕ, ◌+◌, ◌<◌, ◌≤◌, true, List, [], ◌∷◌, ◌++◌, All, take, map, Option, Some, None, slice_get, ◌&&◌, ◌==◌, if◌then◌else◌}
use Rattle.std.specs.List.{AllZip, flat_map, range_with_len}
use Rattle.std.specs.Option.{option_to_list}
use Rattle.circular_buffer.specs.Buffer.{keep_last}
use Rattle.scr_base.specs.declared.row.Row.{Row}
use Rattle.scr_plan.specs.Link.{fate_of, repeats}
use Rattle.scr_plan.specs.Plan.{Plan, IsPlan, frame_count}
use Rattle.scr_plan.specs.Order.{core_number, has_beacon, sends, comes_at}
use Rattle.scr_plan.specs.declared.link.Fate.{Fate}
use Rattle.scr_plan.specs.declared.link.Fate.TheVariants.{Lost}
use Rattle.scr_wire.specs.declared.message.Message.{Message}
use Rattle.scr_wire.specs.declared.message.Message.TheVariants.{Frame, Beacon}
use Rattle.scr_wire.specs.Spelling.{HasSpelling, Spells, spelling}
use Rattle.scr_wire.specs.Lane.{frame, added}
use Rattle.scr_sequencer.specs.Sequence.{Arriving, Sequence, steps_ahead, carried_next, due}

-- an answer: a beacon for every lane, and behind it frames for the lanes of their cores
pub record Answer : Type 0 where
  pub beacon : Option ℕ
  pub sent : List Arriving

-- the answer to one more row: a beacon where one comes at this step, and what is due; a frame that isn't lost has a
-- spelling
pub record IsAnswer (s : Sequence) (row : Row) (fate : Fate) (out : Answer) : Type 0 where
  pub beacon : out.beacon ≡ (if has_beacon (s.taken + 1) then Some s.taken else None)
  pub sent : out.sent ≡ due s row fate
  pub fits : fate ≢ Lost → HasSpelling (Frame (s.taken + 1) (carried_next s row))

-- frame n of a plan on its way
abbrev pub on_its_way : Plan → (n : ℕ) → Arriving
on_its_way plan n = record {
  core = core_number plan.cores n;
  packet = spelling (frame plan n);
  copy = if repeats plan.link n then Some (spelling (frame plan n)) else None;
}

-- the frames up to n that come at a step, and those that come at each of the steps behind n
abbrev pub coming : Plan → (step n : ℕ) → List Arriving
coming plan step n = if sends plan n && (comes_at plan n == step) then on_its_way plan n ∷ [] else []

abbrev pub held_for : Plan → (n step : ℕ) → List Arriving
held_for plan n step = flat_map (coming plan step) (range_with_len 1 n)

unfoldable pub held_of : Plan → (n : ℕ) → List (List Arriving)
held_of plan n = map (held_for plan n) (range_with_len (n + 1) steps_ahead)

-- a sequencer was given the first rows of this plan, and works with its cores and its history; the frames so far that are
-- sent have a spelling
pub record Follows (plan : Plan) (s : Sequence) : Type 0 where
  pub is_plan : IsPlan plan
  pub cores : s.cores ≡ plan.cores
  pub history : s.history ≡ plan.history
  pub taken : s.taken ≤ frame_count plan
  pub rows : s.rows ≡ keep_last (s.history + 1) (take s.taken plan.rows)
  pub held : s.held ≡ held_of plan s.taken
  pub fits : (n : ℕ) → n ≤ s.taken → sends plan n ≡ true → HasSpelling (frame plan n)

-- this is the row of the next packet of the plan, and the fate of its frame
pub record IsNext (plan : Plan) (s : Sequence) (row : Row) (fate : Fate) : Type 0 where
  pub row_is : slice_get plan.rows s.taken ≡ Some row
  pub fate_is : fate ≡ fate_of plan.link (s.taken + 1)

-- the message of a beacon, where there is one
abbrev pub beacons_of : Option ℕ → List Message
beacons_of None = []
beacons_of (Some number) = Beacon number ∷ []

-- what is sent to the lane of a core, as bytes: the beacon, and then the packets of the frames that are its own
abbrev pub packets_to : (core : ℕ) → Arriving → List (List ℕ)
packets_to core it = if it.core == core then it.packet ∷ option_to_list it.copy else []

abbrev pub sent_to : (core : ℕ) → Answer → List (List ℕ)
sent_to core out = map spelling (beacons_of out.beacon) ++ flat_map (packets_to core) out.sent

-- the answer is what step n of the plan adds to the lane of each core, message by message
pub record Adds (plan : Plan) (n : ℕ) (out : Answer) : Type 0 where
  pub cores : All (λ it. it.core < plan.cores) out.sent
  pub spelled : (core : ℕ) → AllZip Spells (added plan core n) (sent_to core out)

-- what goes out behind the last row: the frames of each later step, and last the end with this number
pub record Behind : Type 0 where
  pub held : List (List Arriving)
  pub end : ℕ

-- the frames of a step behind the last row, where no beacon comes
abbrev pub late : List Arriving → Answer
late frames = record { beacon = None; sent = frames }

-- they are what the steps from n on add
abbrev pub AddsFrom : Plan → (n : ℕ) → (held : List (List Arriving)) → Type 0
AddsFrom plan n [] = Unit {0}
AddsFrom plan n (frames ∷ held) = Adds plan n (late frames) × AddsFrom plan (n + 1) held
