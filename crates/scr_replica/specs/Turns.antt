-- What a turn of a replica did, by its answer.
use Rattle.std.specs.Prelude.{◌≡◌, ◌≢◌, ℕ, ◌+◌, ◌<◌, ◌≤◌, ◌⊎◌, List, ◌∷◌, ◌++◌, Option, Some, None}
use Rattle.std.specs.Option.{option_to_list}
use Rattle.scr_base.specs.declared.row.Row.{Row}
use Rattle.scr_base.specs.declared.row.Verdict.{Verdict}
use Rattle.scr_plan.specs.declared.given.Given.{Given}
use Rattle.scr_plan.specs.FinalEntry.{final_entry}
use Rattle.scr_wire.specs.Lane.{decided}
use Rattle.scr_lane.specs.Messages.{message_count}
use Rattle.scr_lane.specs.Ends.{FoundNothing}
use Rattle.scr_log.specs.declared.view.Noted.{Noted}
use Rattle.scr_log.specs.declared.view.Noted.TheVariants.{Tag, Finished, Halt}
use Rattle.scr_log.specs.Entries.{tag_number}
use Rattle.scr_log.specs.Passes.{OfCore}
use Rattle.scr_log.specs.Answers.{EndsWith}
use Rattle.scr_replica.specs.declared.standing.Standing.{Standing}
use Rattle.scr_replica.specs.declared.standing.Standing.TheVariants as standing
use Rattle.scr_replica.specs.declared.turn.Turn.{Turn}
use Rattle.scr_replica.specs.declared.turn.Turn.TheVariants.{Moved, Verdict as Gives, Waiting, Ended, Halted, OutOfMemory}
use Rattle.scr_replica.specs.declared.turn.Pending.{Pending}
use Rattle.scr_replica.specs.declared.turn.Pending.TheVariants.{Empty, NotYet, NoRoom}
use Rattle.scr_replica.specs.OneCore.{course_up_to}
use Rattle.scr_replica.specs.Replicas.{Replica, at_hand, asked}

-- the verdict in an answer
abbrev pub given_in : Turn → Option Given
given_in Moved = None
given_in (Gives number verdict) = Some (record { number = number; verdict = verdict })
given_in (Waiting pending) = None
given_in Ended = None
given_in Halted = None
given_in (OutOfMemory error) = None

-- a replica that isn't running answers as before
abbrev pub answer_of : Standing → Turn
answer_of standing.Running = Moved
answer_of standing.Ended = Ended
answer_of standing.Halted = Halted
answer_of (standing.OutOfMemory error) = OutOfMemory error

-- the looks of a pass have grown by these
abbrev pub HasMoreLooks : (old new : OfCore) → Type 0
HasMoreLooks old new = (more : List Noted) × (new.looks ≡ old.looks ++ more)

-- this look is among those that were added
abbrev pub HasAdded : (old new : OfCore) → Noted → Type 0
HasAdded old new look = (before after : List Noted) × (new.looks ≡ old.looks ++ before ++ look ∷ after)

module _ {State : Type 0} where
  -- no turn changes what a replica is of, or sets the halt word. No count falls, and at most one packet is finished
  pub record GoesOn (old new : Replica State) : Type 0 where
    pub lane : new.lane ≡ record old.lane { count = new.lane.count; looks = new.lane.looks }
    pub pass : new.pass ≡ record old.pass { published = new.pass.published; finished = new.pass.finished; noted = new.pass.noted; looks = new.pass.looks }
    pub looks : HasMoreLooks old.pass new.pass
    pub taken : old.lane.count ≤ new.lane.count
    pub published : old.pass.published ≤ new.pass.published
    pub finished : old.pass.finished ≤ new.pass.finished
    pub one : new.pass.finished ≤ old.pass.finished + 1

  -- a message was taken, a packet published, or one finished; or one core more was seen to have lost the packet at hand
  abbrev pub Moves : (old new : Replica State) → Type 0
  Moves old new =
      (old.lane.count < new.lane.count) ⊎ ((old.pass.published < new.pass.published) ⊎ ((old.pass.finished < new.pass.finished)
      ⊎ ((old.lane.count ≡ new.lane.count) × (old.pass.published ≡ new.pass.published) × (old.pass.finished ≡ new.pass.finished)
      × (old.lost_to < new.lost_to))))

  -- the replica waits for this, by the turn's own look: for a message, where all that was decided is finished; for another
  -- core's entry for the packet at hand, which is published and lost to this core; or for a slot of the packet at hand
  abbrev pub WaitsFor : (old new : Replica State) → Pending → Type 0
  WaitsFor old new Empty =
      (old.pass.finished ≡ decided old.pass.logs.plan old.pass.core old.lane.count)
      × (old.lane.count < message_count old.lane.about) × FoundNothing old.lane new.lane
  WaitsFor old new (NotYet core tag) =
      (old.pass.published ≡ at_hand old) × (final_entry old.pass.logs.plan old.pass.core (at_hand old) ≡ None)
      × ((i : ℕ) × (old.lost_to ≤ i) × (core ≡ asked old.pass.logs.plan (at_hand old) i)) × (core ≢ old.pass.core)
      × (tag_number tag < at_hand old) × HasAdded old.pass new.pass (Tag core (at_hand old) tag)
  WaitsFor old new (NoRoom core done) =
      (old.pass.published ≡ old.pass.finished) × (at_hand old ≤ decided old.pass.logs.plan old.pass.core old.lane.count)
      × (core ≢ old.pass.core) × (done + old.pass.logs.slots < at_hand old) × HasAdded old.pass new.pass (Finished core done)

  -- a running replica answers so
  abbrev pub Answers : (old new : Replica State) → Turn → Type 0
  Answers old new Moved = (new.standing ≡ standing.Running) × Moves old new
  Answers old new (Gives number verdict) = (new.standing ≡ standing.Running) × (number ≡ new.pass.finished)
  Answers old new (Waiting pending) = (new.standing ≡ standing.Running) × WaitsFor old new pending
  Answers old new Ended = new.standing ≡ standing.Ended
  Answers old new Halted = (new.standing ≡ standing.Halted) × EndsWith old.pass new.pass (Halt 1)
  Answers old new (OutOfMemory error) = new.standing ≡ standing.OutOfMemory error

  pub record TurnTells (old new : Replica State) (answer : Turn) : Type 0 where
    pub goes_on : GoesOn old new
    pub running : old.standing ≡ standing.Running → Answers old new answer
    pub stopped : old.standing ≢ standing.Running → (new ≡ old) × (answer ≡ answer_of old.standing)

  -- the verdict in the answer is the one-core verdict of the packet that the turn has finished, where its frame is delivered
  -- to this core; and there is none where it isn't, or where no packet was finished
  abbrev pub GivesVerdict : (verdict_after : List Row → Row → Verdict) → (old new : Replica State) → Turn → Type 0
  GivesVerdict verdict_after old new answer =
      course_up_to verdict_after old.pass.logs.plan old.pass.core new.pass.finished
      ≡ course_up_to verdict_after old.pass.logs.plan old.pass.core old.pass.finished ++ option_to_list (given_in answer)
