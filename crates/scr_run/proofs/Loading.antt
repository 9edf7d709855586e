-- How a run over a capture that is made up ends: a text is asked for, and no read fails.
use Rattle.std.proofs.Common.{◌≡◌, ℕ, List, Option, Some, Result, Ok, refl, arith}
use Rattle.scr_pcap.specs.Records.{Record}
use Rattle.scr_pcapng.specs.Reading.{IsReading}
use Rattle.scr_pcapng.specs.declared.error.AnyError.{AnyError}
use Rattle.scr_run.specs.declared.status.Status.{Status}
use Rattle.scr_run.specs.declared.status.Status.TheVariants.{Done, Words, Capture, ReadFault, WriteFault, OutOfMemory, TooMany, Pcapng, Stream}
use Rattle.scr_run.specs.Asked.{IsOfCapture}
use Rattle.scr_run.specs.Ends.{Ends, IsText, Stands}
use Rattle.scr_run.proofs.Ending.{Ends-through, Ends-behind, IsOfCapture-by}

module _ (text : List Record → List ℕ) (bytes : List ℕ) (left : Option (List ℕ)) (records : List Record) (AtEnd : Type 0)
    {O : Type 0} (written : O → Option (List ℕ)) (faults wants : O → ℕ) (old new : O) where
  no_fault : (failed : ℕ) (status : Status) → Ends (IsOfCapture text left) (Unit {0}) AtEnd written 0 0 faults wants old new status
      → Stands (IsOfCapture text left) ⊥ AtEnd written old new status
  no_fault failed Done ends = ends.stands
  no_fault failed (Words fault) ends = ends.stands
  no_fault failed (Capture error) ends = ends.stands
  no_fault failed (TooMany limit) ends = ends.stands
  no_fault failed (Pcapng error) ends = ends.stands
  no_fault failed (Stream fault) ends = ends.stands
  no_fault failed ReadFault ends = let rose = ends.reads in absurd (omega (arith, rose))
  no_fault failed WriteFault ends = ends.stands
  no_fault failed (OutOfMemory want) ends = ends.stands

  pub Ends-of_load : (Asked : Result (List ℕ) Status → Type 0) (Takes End : Type 0) (failed : ℕ) (status : Status)
      → ((one other : Result (List Record) AnyError) → IsReading bytes one → IsReading bytes other → one ≡ other)
      → left ≡ Some bytes → IsReading bytes (Ok records) → Asked (Ok (text records)) → End
      → Ends (IsOfCapture text left) (Unit {0}) AtEnd written 0 0 faults wants old new status
      → Ends Asked Takes End written failed failed faults wants old new status
  Ends-of_load Asked Takes End failed status same is read asked end ends =
      let stands = no_fault failed status ends in
      let whole : Ends (IsOfCapture text left) ⊥ AtEnd written 0 0 faults wants old new status =
      record { stands = stands; reads = ends.reads; writes = ends.writes; wants_behind = ends.wants_behind } in
      let only = Ends-through (IsOfCapture text left) (IsText (text records)) ⊥ ⊥ AtEnd (Unit {0}) written old new
      (λ a of. IsOfCapture-by text bytes left (Ok records) a same is read of) (λ none. none) (λ any. tt) 0 0 faults wants status whole in
      Ends-behind written faults wants old new (text records) Asked Takes End failed failed status asked end refl only
