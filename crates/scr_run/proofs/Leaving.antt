-- A report whose lines of verdicts have left before the rest of it is written.
use Rattle.std.proofs.Common.{◌≡◌, ◌<◌, ℕ, List, [], ◌++◌, length, Option, Result, Err, MatchResult, true, false, inr, arith, refl, sym, ap, ◌∙◌, subst, append_assoc}
use Rattle.std.specs.Io.KnownBytes.{Appends}
use Rattle.std.proofs.lemmas.List.{length-append}
use Rattle.scr_base.specs.Causes.{CountsError}
use Rattle.scr_base.specs.Streams.{AppendsPrefix, StopsWithin, WritesText}
use Rattle.scr_base.specs.declared.sink.SinkError.{SinkError}
use Rattle.scr_base.proofs.Counts.{CountsError-then}
use Rattle.scr_plan.specs.declared.counting.CoreCounts.{CoreCounts}
use Rattle.scr_report.specs.Outcome.{Outcome, report_text, verdict_lines, counter_lines}
use Rattle.scr_report.proofs.Written.{concat-append, piece-then}
use Rattle.scr_crew.specs.declared.run_stop.RunStop.{RunStop}
use Rattle.scr_crew.specs.declared.run_stop.RunStop.TheVariants as stops
use Rattle.scr_crew.specs.Streamed.{CountsStop, lines_of}
use Rattle.scr_run.specs.declared.status.Status.{Status}
use Rattle.scr_run.specs.declared.status.Status.TheVariants.{Done}
use Rattle.scr_run.specs.Ends.{Ends, IsText, status_of_sink, status_of_stop}
use Rattle.scr_run.proofs.Ending.{Ends-of_write}

-- a run that stopped
abbrev pub failed : (T : Type 0) → RunStop → Result T RunStop
failed T stop = Err stop

module _ (names : List (List ℕ)) (outcome : Outcome) where
  abbrev pub lines : List ℕ
  lines = lines_of names outcome.verdicts

  abbrev pub counters : List ℕ
  counters = report_text names outcome false

  -- they are those of a report without the verdicts
  pub counters-alone : (rest : Outcome) (delivered : ℕ) (cores : List CoreCounts) (flows : ℕ) (totals : List ℕ)
      → rest ≡ record { verdicts = []; frames = outcome.frames; delivered = delivered; kept = outcome.kept; cores = cores; flows = flows; totals = totals }
      → delivered ≡ outcome.delivered → cores ≡ outcome.cores → flows ≡ outcome.flows → totals ≡ outcome.totals
      → report_text names rest false ≡ report_text names outcome false
  counters-alone rest delivered cores flows totals is a b c d =
      ap (λ (o : Outcome). report_text names o false) is
      ∙ (λ i. report_text names (record { verdicts = []; frames = outcome.frames; delivered = a i; kept = outcome.kept; cores = b i; flows = c i; totals = d i }) false)

  report-is : report_text names outcome true ≡ lines ++ counters
  report-is = concat-append (verdict_lines names outcome) (counter_lines names outcome)

  -- some bytes stand behind the lines
  some-counters : 0 < length counters
  some-counters = omega arith

  module _ {O : Type 0} (written : O → Option (List ℕ)) (faults wants : O → ℕ) (old : O) where
    stops-within : (new : O) → AppendsPrefix (written old) (written new) lines → StopsWithin (written old) (written new) (report_text names outcome true)
    stops-within new front = record {
      sent = front.sent;
      rest = front.rest ++ counters;
      gained = front.gained;
      parts = report-is ∙ ap (λ (t : List ℕ). t ++ counters) front.parts ∙ append_assoc front.sent front.rest counters;
      outstanding = omega (arith, length-append front.rest counters, some-counters);
    }

    -- it stopped among the lines
    pub Ends-among_lines : (T : Type 0) (new : O) (stop : RunStop) (status : Status) → AppendsPrefix (written old) (written new) lines
        → CountsStop faults wants old new (failed T stop) → status ≡ status_of_stop stop
        → Ends (IsText (report_text names outcome true)) ⊥ (Unit {0}) written 0 0 faults wants old new status
    Ends-among_lines T new stops.WriteFault status front counts is =
        subst (λ (s : Status). Ends (IsText (report_text names outcome true)) ⊥ (Unit {0}) written 0 0 faults wants old new s) (sym is) (record {
          stands = record { text = report_text names outcome true; asked = refl; front = stops-within new front; end = tt };
          reads = refl;
          writes = (counts.write_fault refl).0;
          wants_behind = (counts.write_fault refl).1;
        })
    Ends-among_lines T new (stops.OutOfMemory want) status front counts is =
        subst (λ (s : Status). Ends (IsText (report_text names outcome true)) ⊥ (Unit {0}) written 0 0 faults wants old new s) (sym is) (record {
          stands = inr (record { text = report_text names outcome true; asked = refl; front = stops-within new front; end = tt });
          reads = refl;
          writes = (counts.out_of_memory want refl).0;
          wants_behind = (counts.out_of_memory want refl).1;
        })

    -- the rest was written behind the lines, or it stopped there
    pub Ends-behind_lines : (mid new : O) (rest : Outcome) (answer : Result (Unit {0}) SinkError) (status : Status) → Appends (written old) (written mid) lines
        → (faults mid ≡ faults old) × (wants mid ≡ wants old) → report_text names rest false ≡ counters → WritesText (written mid) (written new) answer (report_text names rest false)
        → CountsError faults wants mid new answer → MatchResult answer (λ done. status ≡ Done) (λ error. status ≡ status_of_sink error)
        → Ends (IsText (report_text names outcome true)) ⊥ (Unit {0}) written 0 0 faults wants old new status
    Ends-behind_lines mid new rest answer status gained calm same wrote counts is =
        Ends-of_write written faults wants old new (report_text names outcome true) answer
        (subst (λ (t : List ℕ). WritesText (written old) (written new) answer t) (sym report-is)
        (piece-then (written old) (written mid) (written new) lines counters answer gained (subst (λ (t : List ℕ). WritesText (written mid) (written new) answer t) same wrote)))
        (CountsError-then faults wants old mid new answer calm.0 calm.1 counts) status is
