-- How the run of a command ends, from how the run of its kind ended.
use Rattle.std.proofs.Common.{◌≡◌, ℕ, true, false, List, Option, Some, MatchOption, refl, sym, subst}
use Rattle.scr_pcap.specs.Generated.{generated_records}
use Rattle.scr_pcap.specs.Records.{Record}
use Rattle.scr_words.specs.declared.settings.Command.{Command}
use Rattle.scr_words.specs.declared.settings.Command.TheVariants.{Run, Plain, Load, Spray, Replay}
use Rattle.scr_words.specs.declared.settings.RunSettings.{RunSettings}
use Rattle.scr_words.specs.declared.settings.Shape.{Shape}
use Rattle.scr_words.specs.Operands.{makes_load}
use Rattle.scr_run.specs.declared.status.Status.{Status}
use Rattle.scr_run.specs.Rules.{Rules, rules_of, stream_code}
use Rattle.scr_run.specs.RunReport.{plan_text, shaped_text, plain_text, sprayed_text}
use Rattle.scr_run.specs.Asked.{IsOfCapture, IsOfStream, IsByCommand, IsBySettings}
use Rattle.scr_run.specs.Ends.{Ends, IsText}
use Rattle.scr_run.proofs.Ending.{Ends-through, Ends-behind}

module _ (rules : Rules) (code : Option ℕ) (shape : Shape) (made : List Record) (left : Option (List ℕ)) (AtEnd : Type 0)
    {O : Type 0} (written : O → Option (List ℕ)) (faults wants : O → ℕ) (old new : O) (failed_before failed : ℕ) (status : Status) where
  abbrev EndsBy : Command → Type 0
  EndsBy command =
      Ends (IsByCommand rules code shape made left command) (makes_load command ≡ false) (makes_load command ≡ false → AtEnd)
      written failed_before failed faults wants old new status

  pub EndsBy-run : (command : Command) → command ≡ Run
      → Ends (IsOfCapture (shaped_text rules shape true) left) (Unit {0}) AtEnd written failed_before failed faults wants old new status → EndsBy command
  EndsBy-run command is ends =
      subst EndsBy (sym is)
      (Ends-through (IsOfCapture (shaped_text rules shape true) left) (IsByCommand rules code shape made left Run) (Unit {0}) (makes_load Run ≡ false)
      AtEnd (makes_load Run ≡ false → AtEnd) written old new (λ asked of. of) (λ any. refl) (λ end same. end) failed_before failed faults wants status ends)

  pub EndsBy-plain : (command : Command) → command ≡ Plain
      → Ends (IsOfCapture (plain_text rules) left) (Unit {0}) AtEnd written failed_before failed faults wants old new status → EndsBy command
  EndsBy-plain command is ends =
      subst EndsBy (sym is)
      (Ends-through (IsOfCapture (plain_text rules) left) (IsByCommand rules code shape made left Plain) (Unit {0}) (makes_load Plain ≡ false)
      AtEnd (makes_load Plain ≡ false → AtEnd) written old new (λ asked of. of) (λ any. refl) (λ end same. end) failed_before failed faults wants status ends)

  pub EndsBy-load : (command : Command) → command ≡ Load → failed ≡ failed_before
      → Ends (IsText (shaped_text rules shape false made)) ⊥ (Unit {0}) written 0 0 faults wants old new status → EndsBy command
  EndsBy-load command is same ends =
      subst EndsBy (sym is)
      (Ends-behind written faults wants old new (shaped_text rules shape false made) (IsByCommand rules code shape made left Load) (makes_load Load ≡ false)
      (makes_load Load ≡ false → AtEnd) failed_before failed status refl (λ no_load. absurd cc) same ends)

  pub EndsBy-spray : (command : Command) (number : ℕ) → command ≡ Spray → code ≡ Some number
      → Ends (IsOfCapture (sprayed_text number rules shape) left) (Unit {0}) AtEnd written failed_before failed faults wants old new status → EndsBy command
  EndsBy-spray command number is has ends =
      subst EndsBy (sym is)
      (Ends-through (IsOfCapture (sprayed_text number rules shape) left) (IsByCommand rules code shape made left Spray) (Unit {0}) (makes_load Spray ≡ false)
      AtEnd (makes_load Spray ≡ false → AtEnd) written old new
      (λ asked of. subst (λ (k : Option ℕ). MatchOption k ⊥ (λ n. IsOfCapture (sprayed_text n rules shape) left asked)) (sym has) of)
      (λ any. refl) (λ end same. end) failed_before failed faults wants status ends)

  pub EndsBy-replay : (command : Command) (number : ℕ) → command ≡ Replay → code ≡ Some number
      → Ends (IsOfStream number (plan_text rules true) left) (Unit {0}) AtEnd written failed_before failed faults wants old new status → EndsBy command
  EndsBy-replay command number is has ends =
      subst EndsBy (sym is)
      (Ends-through (IsOfStream number (plan_text rules true) left) (IsByCommand rules code shape made left Replay) (Unit {0}) (makes_load Replay ≡ false)
      AtEnd (makes_load Replay ≡ false → AtEnd) written old new
      (λ asked of. subst (λ (k : Option ℕ). MatchOption k ⊥ (λ n. IsOfStream n (plan_text rules true) left asked)) (sym has) of)
      (λ any. refl) (λ end same. end) failed_before failed faults wants status ends)

-- what is asked for by the settings is asked for by their rules and their number in a stream
pub Ends-by_settings : (settings : RunSettings) (rules : Rules) (code : Option ℕ) (left : Option (List ℕ)) (Takes AtEnd : Type 0)
    {O : Type 0} (written : O → Option (List ℕ)) (faults wants : O → ℕ) (old new : O) (failed_before failed : ℕ) (status : Status)
    → rules_of settings.program ≡ rules → code ≡ stream_code settings.program
    → Ends (IsByCommand rules code settings.shape (generated_records settings.start settings.frames settings.hosts) left settings.command) Takes AtEnd
    written failed_before failed faults wants old new status
    → Ends (IsBySettings settings left) Takes AtEnd written failed_before failed faults wants old new status
Ends-by_settings settings rules code left Takes AtEnd written faults wants old new failed_before failed status is has ends =
    let made = generated_records settings.start settings.frames settings.hosts in
    subst (λ (k : Option ℕ). Ends (IsByCommand (rules_of settings.program) k settings.shape made left settings.command) Takes AtEnd
    written failed_before failed faults wants old new status) has
    (subst (λ (r : Rules). Ends (IsByCommand r code settings.shape made left settings.command) Takes AtEnd
    written failed_before failed faults wants old new status) (sym is) ends)
