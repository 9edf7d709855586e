-- Lines go through a batch, verdict by verdict.
use Rattle.std.proofs.Common.{◌≡◌, ◌⊎◌, ◌<◌, ◌^◌, ℕ, ◌+◌, List, [], ◌∷◌, ◌++◌, All, length, Option, Result, Err, inr, arith, refl, sym, ap, ◌∙◌, subst, append_assoc}
use Rattle.std.specs.Io.KnownBytes.{Appends}
use Rattle.std.proofs.lemmas.List.{length-append, append-nil}
use Rattle.scr_base.specs.Causes.{CountsError, counted}
use Rattle.scr_base.specs.Streams.{AppendsPrefix, StopsWithin, Passes}
use Rattle.scr_base.specs.declared.sink.SinkError.{SinkError}
use Rattle.scr_base.specs.declared.sink.SinkError.TheVariants as sink
use Rattle.scr_base.specs.declared.out_of_memory.OutOfMemory as memory
use Rattle.scr_base.proofs.Streams.{Appends-none, Appends-then, Passes-then, Passes-stops, StopsWithin-longer, StopsWithin-front}
use Rattle.scr_plan.specs.declared.given.Given.{Given}
use Rattle.scr_report.specs.Outcome.{totals_of}
use Rattle.scr_report.specs.Text.{verdict_line}
use Rattle.scr_crew.specs.declared.run_stop.RunStop.TheVariants.{WriteFault, OutOfMemory}
use Rattle.scr_crew.specs.declared.lines.Lines.{Lines}
use Rattle.scr_crew.specs.Streamed.{lines_of, stop_of_sink}
use Rattle.scr_crew.specs.Lines.{AreToWrite, IsStoppedWriting, lines-append}

-- the answer of a sink that failed
abbrev pub failed : SinkError → Result (Unit {0}) SinkError
failed error = Err error

module _ {O : Type 0} (faults wants : O → ℕ) where
  -- a sink that answers an error counts it by its kind
  stops-counting : (before out now : O) (error : SinkError) → CountsError faults wants out now (failed error) → faults out ≡ faults before → wants out ≡ wants before
      → (stop_of_sink error ≡ WriteFault → (faults now ≡ counted (faults before)) × (wants now ≡ wants before))
      × ((want : memory.OutOfMemory) → stop_of_sink error ≡ OutOfMemory want → (faults now ≡ faults before) × ((wants now ≡ wants before) ⊎ (wants now ≡ counted (wants before))))
  stops-counting before out now sink.Failed counts calm-faults calm-wants = (
    λ e. (let now = counts.failed refl in (now.0 ∙ ap counted calm-faults, now.1 ∙ calm-wants)),
    λ want e. absurd cc,
  )
  stops-counting before out now (sink.OutOfMemory lack) counts calm-faults calm-wants = (
    λ e. absurd cc,
    λ want e. (let now = counts.out_of_memory lack refl in (now.0 ∙ calm-faults, inr (now.1 ∙ ap counted calm-wants))),
  )

module _ {P O : Type 0} (written : O → Option (List ℕ)) (faults wants : O → ℕ) (names : List (List ℕ)) where
  -- nothing is taken yet
  pub writes-none : (lines : Lines P) (now : O) (whole : List Given) → length whole < 2 ^ 32 → All (λ (given : Given). given.verdict.0 < length names) whole
      → lines.batch ≡ [] → lines.taken ≡ 0 → lines.totals.items ≡ totals_of names [] → AreToWrite written faults wants names lines now now whole whole
  writes-none lines now whole few named batch taken totals = record {
    front = [];
    parts = refl;
    few = few;
    named = named;
    passed = record { sent = []; gained = Appends-none (written now); parts = sym batch };
    taken = taken;
    totals = totals;
    calm = (refl, refl);
  }

  module _ (lines : Lines P) (before out : O) (whole rest : List Given) where
    -- the line of the next verdict went through
    pub writes-one : (given : Given) (new : Lines P) (now : O) → AreToWrite written faults wants names lines before out whole (given ∷ rest)
        → Passes (written out) (written now) lines.batch new.batch (verdict_line names given) → (faults now ≡ faults out) × (wants now ≡ wants out)
        → ((so_far : List Given) → lines.totals.items ≡ totals_of names so_far → new.totals.items ≡ totals_of names (so_far ++ given ∷ []))
        → new.taken ≡ lines.taken + 1 → AreToWrite written faults wants names new before now whole rest
    writes-one given new now is passed calm totals taken =
        let line : List ℕ = verdict_line names given in
        let one : lines_of names (given ∷ []) ≡ line = append-nil line in
        let text : lines_of names is.front ++ line ≡ lines_of names (is.front ++ given ∷ []) =
        ap (λ (t : List ℕ). lines_of names is.front ++ t) (sym one) ∙ sym (lines-append names is.front (given ∷ [])) in
        record {
          front = is.front ++ given ∷ [];
          parts = is.parts ∙ sym (append_assoc is.front (given ∷ []) rest);
          few = is.few;
          named = is.named;
          passed = subst (λ (t : List ℕ). Passes (written before) (written now) [] new.batch t) text
              (Passes-then (written before) (written out) (written now) [] lines.batch new.batch (lines_of names is.front) line is.passed passed);
          taken = omega (arith, taken, is.taken, length-append is.front (given ∷ []));
          totals = totals is.front is.totals;
          calm = (calm.0 ∙ is.calm.0, calm.1 ∙ is.calm.1);
        }

    -- a write failed, in a text that stands behind the lines so far
    stops-in : (text after : List ℕ) (now : O) (error : SinkError) → AreToWrite written faults wants names lines before out whole rest
        → StopsWithin (written out) (written now) (lines.batch ++ text) → CountsError faults wants out now (failed error)
        → lines_of names rest ≡ text ++ after → IsStoppedWriting written faults wants names (stop_of_sink error) before now whole
    stops-in text after now error is stops counts front =
        let all : List ℕ = lines_of names is.front in
        let whole-is : all ++ (text ++ after) ≡ lines_of names whole =
        ap (λ (t : List ℕ). all ++ t) (sym front) ∙ sym (lines-append names is.front rest) ∙ ap (lines_of names) (sym is.parts) in
        let behind : StopsWithin (written before) (written now) (all ++ text) = Passes-stops (written before) (written out) (written now) [] lines.batch all text is.passed stops in
        let longer : StopsWithin (written before) (written now) (all ++ (text ++ after)) = StopsWithin-longer (written before) (written now) all text after behind in
        let tells = stops-counting faults wants before out now error counts is.calm.0 is.calm.1 in
        record {
          text = subst (λ (t : List ℕ). AppendsPrefix (written before) (written now) t) whole-is (StopsWithin-front (written before) (written now) (all ++ (text ++ after)) longer);
          write_fault = tells.0;
          out_of_memory = tells.1;
        }

    -- what is held went out
    pub writes-held : (new : Lines P) (now : O) → AreToWrite written faults wants names lines before out whole rest → Appends (written out) (written now) lines.batch
        → (faults now ≡ faults out) × (wants now ≡ wants out) → new.batch ≡ [] → new.taken ≡ lines.taken → new.totals.items ≡ lines.totals.items
        → AreToWrite written faults wants names new before now whole rest
    writes-held new now is gained calm empty taken totals = record {
      front = is.front;
      parts = is.parts;
      few = is.few;
      named = is.named;
      passed = record {
        sent = is.passed.sent ++ lines.batch;
        gained = Appends-then (written before) (written out) (written now) is.passed.sent lines.batch is.passed.gained gained;
        parts = is.passed.parts ∙ sym (append-nil (is.passed.sent ++ lines.batch)) ∙ ap (λ (t : List ℕ). (is.passed.sent ++ lines.batch) ++ t) (sym empty);
      };
      taken = taken ∙ is.taken;
      totals = totals ∙ is.totals;
      calm = (calm.0 ∙ is.calm.0, calm.1 ∙ is.calm.1);
    }

    pub stops-flushing : (now : O) (error : SinkError) → AreToWrite written faults wants names lines before out whole rest
        → StopsWithin (written out) (written now) lines.batch → CountsError faults wants out now (failed error)
        → IsStoppedWriting written faults wants names (stop_of_sink error) before now whole
    stops-flushing now error is stops counts =
        stops-in [] (lines_of names rest) now error is (subst (λ (t : List ℕ). StopsWithin (written out) (written now) t) (sym (append-nil lines.batch)) stops) counts refl

  -- the line of the next verdict stopped within
  pub stops-at : (lines : Lines P) (before out : O) (whole rest : List Given) (given : Given) (now : O) (error : SinkError)
      → AreToWrite written faults wants names lines before out whole (given ∷ rest)
      → StopsWithin (written out) (written now) (lines.batch ++ verdict_line names given) → CountsError faults wants out now (failed error)
      → IsStoppedWriting written faults wants names (stop_of_sink error) before now whole
  stops-at lines before out whole rest given now error is stops counts =
      stops-in lines before out whole (given ∷ rest) (verdict_line names given) (lines_of names rest) now error is stops counts refl
