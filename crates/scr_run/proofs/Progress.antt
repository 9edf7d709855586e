-- How far a run has come in a capture: so many records were taken, and something holds of their rows.
use Rattle.std.proofs.Common.{◌≡◌, ℕ, ◌+◌, List, [], ◌∷◌, ◌++◌, length, Ok, sym, ap, ◌∙◌, subst, arith}
use Rattle.std.proofs.lemmas.List.{length_push, length-map, map_push}
use Rattle.scr_base.specs.declared.row.Row.{Row}
use Rattle.scr_frame.specs.declared.parsed.Parsed.{Parsed}
use Rattle.scr_frame.specs.Fields.{fields}
use Rattle.scr_pcap.specs.Records.{Record}
use Rattle.scr_pcapng.specs.declared.error.AnyError.{AnyError}
use Rattle.scr_pcapng.specs.State.{IsCauseOf, ReadsOn, Rest}
use Rattle.scr_pcapng.proofs.Joining.{IsCauseOf-fault, ReadsOn-end, ReadsOn-push}
use Rattle.scr_run.specs.RunReport.{rows_of}

-- as many rows as records
pub length-rows_of : (row_of : Parsed → ℕ → Row) (records : List Record) → length (rows_of row_of records) ≡ length records
length-rows_of row_of records = length-map records (λ r. row_of (fields r.content) r.time)

module _ (row_of : Parsed → ℕ → Row) where
  -- from the readings of the whole capture to those of its rest
  pub record HasTaken (Holds : List Row → Type 0) (taken : ℕ) (whole rest : Rest) : Type 0 where
    pub records : List Record
    pub count : length records ≡ taken
    pub read : ReadsOn whole rest records
    pub holds : Holds (rows_of row_of records)

  -- no record yet
  pub HasTaken-none : (Holds : List Row → Type 0) (taken : ℕ) (whole rest : Rest) → ReadsOn whole rest [] → taken ≡ 0 → Holds []
      → HasTaken Holds taken whole rest
  HasTaken-none Holds taken whole rest read none holds = record { records = []; count = sym none; read = read; holds = holds }

  -- a fault behind the records
  pub HasTaken-fault : (Holds : List Row → Type 0) (taken : ℕ) (whole rest : Rest) (fault : AnyError) → HasTaken Holds taken whole rest
      → IsCauseOf rest fault → IsCauseOf whole fault
  HasTaken-fault Holds taken whole rest fault so_far cause = IsCauseOf-fault whole rest so_far.records fault so_far.read cause

  -- the end behind them
  pub HasTaken-end : (Holds : List Row → Type 0) (taken : ℕ) (whole rest : Rest) (so_far : HasTaken Holds taken whole rest) → rest (Ok [])
      → whole (Ok so_far.records)
  HasTaken-end Holds taken whole rest so_far end = ReadsOn-end whole rest so_far.records so_far.read end

  -- one record more; the frame's bytes are told by an equation
  pub HasTaken-more : (Holds After : List Row → Type 0) (taken taken' : ℕ) (whole middle rest : Rest) (r : Record) (frame : List ℕ) (number : ℕ)
      → HasTaken Holds taken whole middle → frame ≡ r.content → number ≡ taken + 1 → ReadsOn middle rest (r ∷ []) → taken' ≡ taken + 1
      → ((rows : List Row) → Holds rows → number ≡ length rows + 1 → After (rows ++ row_of (fields frame) r.time ∷ []))
      → HasTaken After taken' whole rest
  HasTaken-more Holds After taken taken' whole middle rest r frame number so_far bytes next one more steps =
      let rows = rows_of row_of so_far.records in
      let row_is : row_of (fields frame) r.time ≡ row_of (fields r.content) r.time = ap (λ (b : List ℕ). row_of (fields b) r.time) bytes in
      let rows_are : rows ++ row_of (fields frame) r.time ∷ [] ≡ rows_of row_of (so_far.records ++ r ∷ []) =
      ap (λ (w : Row). rows ++ w ∷ []) row_is ∙ sym (map_push (λ r. row_of (fields r.content) r.time) so_far.records r) in
      record {
        records = so_far.records ++ r ∷ [];
        count = omega (arith, length_push so_far.records r, so_far.count, more);
        read = ReadsOn-push whole middle rest so_far.records r so_far.read one;
        holds = subst After rows_are (steps rows so_far.holds (omega (arith, next, so_far.count, length-rows_of row_of so_far.records)));
      }
