-- The lines that leave by a batch while verdicts are taken.
use Rattle.std.specs.Prelude.{◌≡◌, ◌⊎◌, ℕ, ◌<◌, ◌^◌, List, [], ◌++◌, All, Option, length, map}
use Rattle.std.specs.List.{concat}
use Rattle.std.proofs.Common.{ap, ◌∙◌, inl, append_assoc}
use Rattle.std.proofs.lemmas.List.{map-append}
use Rattle.std.proofs.lemmas.List.Folds.{concat-append}
use Rattle.scr_base.specs.Causes.{counted}
use Rattle.scr_base.specs.Streams.{AppendsPrefix, Passes}
use Rattle.scr_base.specs.declared.out_of_memory.OutOfMemory as memory
use Rattle.scr_plan.specs.declared.given.Given.{Given}
use Rattle.scr_report.specs.Outcome.{totals_of}
use Rattle.scr_report.specs.Text.{verdict_line}
use Rattle.scr_crew.specs.declared.run_stop.RunStop.{RunStop}
use Rattle.scr_crew.specs.declared.run_stop.RunStop.TheVariants.{WriteFault, OutOfMemory}
use Rattle.scr_crew.specs.declared.lines.Lines.{Lines}
use Rattle.scr_crew.specs.Streamed.{lines_of}

-- the lines of two lists are those of one, and then those of the other
pub lines-append : (names : List (List ℕ)) (xs ys : List Given) → lines_of names (xs ++ ys) ≡ lines_of names xs ++ lines_of names ys
lines-append names xs ys = ap concat (map-append (verdict_line names) xs ys) ∙ concat-append (map (verdict_line names) xs) (map (verdict_line names) ys)

module _ {O : Type 0} (written : O → Option (List ℕ)) (faults wants : O → ℕ) (names : List (List ℕ)) where
  -- a front of the lines is written, and the sink has counted what stopped it, where it was the sink
  pub record IsStoppedWriting (stop : RunStop) (before now : O) (whole : List Given) : Type 0 where
    pub text : AppendsPrefix (written before) (written now) (lines_of names whole)
    pub write_fault : stop ≡ WriteFault → (faults now ≡ counted (faults before)) × (wants now ≡ wants before)
    pub out_of_memory : (want : memory.OutOfMemory) → stop ≡ OutOfMemory want
        → (faults now ≡ faults before) × ((wants now ≡ wants before) ⊎ (wants now ≡ counted (wants before)))

  module _ {P : Type 0} where
    -- a front of these verdicts was taken: their lines went through the batch, they are counted, and no write failed
    pub record AreToWrite (lines : Lines P) (before now : O) (whole rest : List Given) : Type 0 where
      pub front : List Given
      pub parts : whole ≡ front ++ rest
      pub few : length whole < 2 ^ 32
      pub named : All (λ (given : Given). given.verdict.0 < length names) whole
      pub passed : Passes (written before) (written now) [] lines.batch (lines_of names front)
      pub taken : lines.taken ≡ length front
      pub totals : lines.totals.items ≡ totals_of names front
      pub calm : (faults now ≡ faults before) × (wants now ≡ wants before)

    -- where there is no memory, a front of the lines is written
    pub lacks : (lines : Lines P) (before now : O) (whole rest : List Given) (want : memory.OutOfMemory) → AreToWrite lines before now whole rest
        → IsStoppedWriting (OutOfMemory want) before now whole
    lacks lines before now whole rest want is = record {
      text = record {
        sent = is.passed.sent;
        rest = lines.batch ++ lines_of names rest;
        gained = is.passed.gained;
        parts =
            ap (lines_of names) is.parts
            ∙ lines-append names is.front rest
            ∙ ap (λ (text : List ℕ). text ++ lines_of names rest) is.passed.parts
            ∙ append_assoc is.passed.sent lines.batch (lines_of names rest);
      };
      write_fault = λ e. absurd cc;
      out_of_memory = λ other e. (is.calm.0, inl is.calm.1);
    }
