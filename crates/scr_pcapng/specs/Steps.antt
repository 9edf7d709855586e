-- What a reader of blocks does between two moments, by what it found: a packet, or none yet.
use Rattle.std.specs.Prelude.{◌≡◌, ℕ, [], List, Option, Some, None, Result, Ok, Err, IfErr, ⊤}
use Rattle.std.specs.Io.KnownBytes.{IsAtEnd}
use Rattle.scr_pcap.specs.declared.reader.RecordInfo.{RecordInfo}
use Rattle.scr_pcap.specs.Taken.{GivesAtMost}
use Rattle.scr_pcapng.specs.declared.error.AnyError.{AnyError}
use Rattle.scr_pcapng.specs.declared.content.Content.{Content}
use Rattle.scr_pcapng.specs.declared.content.Content.TheVariants.{NewSection, NewInterface, Packet, Passed}
use Rattle.scr_pcapng.specs.declared.progress.Progress.{Progress}
use Rattle.scr_pcapng.specs.declared.progress.Progress.TheVariants.{Reading, Ended, Refused}
use Rattle.scr_pcapng.specs.State.{Answers, BlockReaderState, IsBlockCause, IsCounted, ReadsOn, Rest, faults_counted, left_of, reach, rest_in_blocks}

-- the packet in a block, with this number
abbrev pub info_in : (number : ℕ) → Content → Option RecordInfo
info_in number (NewSection order) = None
info_in number (NewInterface interface) = None
info_in number (Packet time place captured) = Some (record { number = number; time = time; length = captured })
info_in number Passed = None

-- the answer of a reader that has come so far and found this
abbrev pub answer_with : Progress → Option RecordInfo → Result (Option RecordInfo) AnyError
answer_with Reading found = Ok found
answer_with Ended found = Ok None
answer_with (Refused fault) found = Err fault

-- what it tells of the capture; it may read on where it found nothing
abbrev pub Tells : (old new : Rest) (frame : List ℕ) → Progress → Option RecordInfo → Type 0
Tells old new frame Reading None = ReadsOn old new []
Tells old new frame Reading (Some info) = Answers old new frame (Ok (Some info))
Tells old new frame Ended found = Answers old new frame (Ok None)
Tells old new frame (Refused fault) found = Answers old new frame (Err fault)

-- behind the end nothing is left
abbrev pub IsEndOf : Progress → (rest : Option (List ℕ)) → Type 0
IsEndOf Reading rest = ⊤
IsEndOf Ended rest = IsAtEnd rest
IsEndOf (Refused fault) rest = ⊤

-- between two moments, each with what the source has left and how often it failed
pub record Steps (old : BlockReaderState) (left : Option (List ℕ)) (faults : ℕ) (new : BlockReaderState) (rest : Option (List ℕ)) (faults_now : ℕ)
    (frame : List ℕ) (found : Option RecordInfo) : Type 0 where
  pub tells : Tells (rest_in_blocks old.position left) (rest_in_blocks new.position rest) frame new.progress found
  pub ends : IsEndOf new.progress rest
  pub counts : IsCounted old.position.packets new.position.packets frame (answer_with new.progress found)
  pub named : IfErr (answer_with new.progress found) IsBlockCause
  pub faulty : faults_now ≡ faults_counted (answer_with new.progress found) faults
  pub reaches : (start : Option (List ℕ)) → GivesAtMost (reach old) start (left_of old left) → GivesAtMost (reach new) start (left_of new rest)
