-- What the answers of `room` and `look` tell.
use Rattle.std.specs.Prelude.{◌≡◌, ◌≢◌, ℕ, ◌+◌, ◌<◌, ◌≤◌, List, [], ◌∷◌, ◌++◌, Some, None, slice_index}
use Rattle.scr_plan.specs.Plan.{Plan, row_of_packet}
use Rattle.scr_plan.specs.FinalEntry.{final_entry}
use Rattle.scr_log.specs.declared.view.Noted.{Noted}
use Rattle.scr_log.specs.declared.view.Noted.TheVariants.{Finished}
use Rattle.scr_log.specs.declared.room.Room.{Room}
use Rattle.scr_log.specs.declared.room.Room.TheVariants.{Free, NoRoom}
use Rattle.scr_log.specs.declared.look.Look.{Look}
use Rattle.scr_log.specs.declared.look.Look.TheVariants.{Row, Lost, NotYet}
use Rattle.scr_log.specs.Entries.{row_tag, lost_tag, tag_number}
use Rattle.scr_log.specs.Passes.{OfCore, IsFreeFor}

-- a call has only loaded finished words: it noted them, and no noted number fell
pub record HasLoaded (old new : OfCore) : Type 0 where
  pub same : new ≡ record old { looks = new.looks; noted = new.noted }
  pub more : List Noted
  pub looks : new.looks ≡ old.looks ++ more
  pub noted : (j : ℕ) → slice_index old.noted j ≤ slice_index new.noted j

-- the pass once it has published p where there was room
abbrev pub published_by : OfCore → ℕ → Room → OfCore
published_by pass p Free = record pass { published = p }
published_by pass p (NoRoom core done) = pass

-- its last look was this one
abbrev pub EndsWith : (old new : OfCore) → Noted → Type 0
EndsWith old new look = (before : List Noted) × (new.looks ≡ (old.looks ++ before) ++ look ∷ [])

-- a slot is free for p by what the pass has noted; or the call's last look was at the finished word of another core, which
-- has finished too little
abbrev pub RoomTells : (old new : OfCore) → ℕ → Room → Type 0
RoomTells old new p Free = IsFreeFor new p
RoomTells old new p (NoRoom core done) =
    (core < old.logs.plan.cores) × (core ≢ old.core) × (done + old.logs.slots < p) × EndsWith old new (Finished core done)

-- the row of packet p, which is the final entry of that core; or that its final entry is LOST; or a tag of a lower number
abbrev pub LookTells : Plan → (core p tag : ℕ) → Look → Type 0
LookTells plan core p tag (Row row) =
    (tag ≡ row_tag p) × (final_entry plan core p ≡ Some row) × (row_of_packet plan p ≡ Some row)
LookTells plan core p tag Lost = (tag ≡ lost_tag p) × (final_entry plan core p ≡ None)
LookTells plan core p tag (NotYet found) = (found ≡ tag) × (tag_number tag < p)
