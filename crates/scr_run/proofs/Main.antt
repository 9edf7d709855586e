-- How the whole program ends, from how the run of its command ended; and which status the words and the input ask for.
use Rattle.std.proofs.Common.{◌≡◌, inl, inr, ℕ, Bool, true, false, List, [], ◌∷◌, Option, Some, None, Result, Err, refl, sym, ap, ◌∙◌, subst}
use Rattle.scr_pcap.specs.Generated.{generated_records}
use Rattle.scr_pcap.specs.Records.{Record}
use Rattle.scr_pcapng.specs.Reading.{IsReading}
use Rattle.scr_pcapng.specs.declared.error.AnyError.{AnyError}
use Rattle.scr_plan.specs.Plan.{Plan}
use Rattle.scr_stream.specs.Reading as stream
use Rattle.scr_stream.specs.declared.error.StreamError.{StreamError}
use Rattle.scr_words.specs.declared.settings.Command.{Command}
use Rattle.scr_words.specs.declared.settings.Command.TheVariants.{Run, Plain, Load, Spray, Replay}
use Rattle.scr_words.specs.declared.settings.RunSettings.{RunSettings}
use Rattle.scr_words.specs.declared.settings.Shape.{Shape}
use Rattle.scr_words.specs.declared.word_fault.WordFault.{WordFault}
use Rattle.scr_words.specs.Operands.{makes_load, runs}
use Rattle.scr_words.specs.declared.reading.WordsError.{WordsError}
use Rattle.scr_words.specs.declared.reading.WordsError.TheVariants as error
use Rattle.scr_words.specs.WordFaults.{AreRefused}
use Rattle.scr_words.specs.WordTests.{AreRefusedBy}
use Rattle.scr_words.specs.GivenSettings.{AreAccepted}
use Rattle.scr_words.proofs.KnownPrograms.{runs-from}
use Rattle.scr_words.proofs.OneAnswer.{AreAccepted-not_refused, AreAccepted-same, AreRefused-same}
use Rattle.scr_run.specs.declared.status.Status.{Status}
use Rattle.scr_run.specs.declared.status.Status.TheVariants.{Done, Words, Stream}
use Rattle.scr_run.specs.Asked.{IsOfCapture, IsOfStream, IsByCommand, IsBySettings, IsAsked, TakeInput, TakeCapture, TakeStream, takes_capture}
use Rattle.scr_run.specs.Ends.{Ends, IsText, status_of_words}
use Rattle.scr_run.specs.Rules.{Rules, rules_of, stream_code}
use Rattle.scr_run.specs.RunReport.{plan_text, shaped_text, plain_text, sprayed_text}
use Rattle.scr_run.proofs.Ending.{Ends-through, status_asked, status_read, status_asked-by, IsOfCapture-by, no-stream}
use Rattle.scr_run.proofs.Streams.{IsOfStream-by, status_planned, status_asked-by_plan}

-- accepted words choose one program, which their command knows
pub runs-accepted : (words : List (List ℕ)) (settings : RunSettings) → AreAccepted words settings → runs settings.command settings.program ≡ true
runs-accepted [] settings accepted = absurd accepted
runs-accepted (first ∷ operands) settings accepted = runs-from settings.command operands settings.program accepted.chosen_are.program

-- words have one settings
same-load : (words : List (List ℕ)) (one other : RunSettings) → AreAccepted words one → AreAccepted words other
    → makes_load one.command ≡ makes_load other.command
same-load words one other is_one is_other = ap (λ (s : RunSettings). makes_load s.command) (AreAccepted-same words one other is_one is_other)

module _ (rules : Rules) (code : Option ℕ) (shape : Shape) (made : List Record) (left : Option (List ℕ)) where
  -- a command that takes a capture asks for a text over its reading
  abbrev OfCapture : Result (List ℕ) Status → Type 0
  OfCapture asked = (text : List Record → List ℕ) × IsOfCapture text left asked

  sprayed : (code : Option ℕ) (asked : Result (List ℕ) Status) → IsByCommand rules code shape made left Spray asked → OfCapture asked
  sprayed None asked is = absurd is
  sprayed (Some number) asked is = (sprayed_text number rules shape, is)

  by_capture : (command : Command) (asked : Result (List ℕ) Status) → takes_capture command ≡ true
      → IsByCommand rules code shape made left command asked → OfCapture asked
  by_capture Run asked takes is = (shaped_text rules shape true, is)
  by_capture Plain asked takes is = (plain_text rules, is)
  by_capture Load asked takes is = absurd cc
  by_capture Spray asked takes is = sprayed code asked is
  by_capture Replay asked takes is = absurd cc

  by_load : (command : Command) (asked : Result (List ℕ) Status) → makes_load command ≡ true
      → IsByCommand rules code shape made left command asked → IsText (shaped_text rules shape false made) asked
  by_load Run asked makes is = absurd cc
  by_load Plain asked makes is = absurd cc
  by_load Load asked makes is = is
  by_load Spray asked makes is = absurd cc
  by_load Replay asked makes is = absurd cc

  -- a command that takes a stream, over its reading
  by_stream : (command : Command) (number : ℕ) (asked : Result (List ℕ) Status) → command ≡ Replay → code ≡ Some number
      → IsByCommand rules code shape made left command asked → IsOfStream number (plan_text rules true) left asked
  by_stream command number asked replays has is =
      subst (λ (k : Option ℕ). IsByCommand rules k shape made left Replay asked) has
      (subst (λ (c : Command). IsByCommand rules code shape made left c asked) replays is)

  -- no other command asks for the status of a stream
  abbrev Streamed : Command → Type 0
  Streamed command = (number : ℕ) × (command ≡ Replay) × (code ≡ Some number)

  replayed : (found : Option ℕ) (asked : Result (List ℕ) Status) → code ≡ found → IsByCommand rules found shape made left Replay asked → Streamed Replay
  replayed None asked has is = absurd is
  replayed (Some number) asked has is = (number, refl, has)

  by_fault : (command : Command) (fault : StreamError) → IsByCommand rules code shape made left command (Err (Stream fault)) → Streamed command
  by_fault Run fault is = absurd (no-stream (shaped_text rules shape true) left fault is)
  by_fault Plain fault is = absurd (no-stream (plain_text rules) left fault is)
  by_fault Load fault is = absurd cc
  by_fault Spray fault is = let of = sprayed code (Err (Stream fault)) is in absurd (no-stream of.0 left fault of.1)
  by_fault Replay fault is = replayed code (Err (Stream fault)) refl is

module _ (words : List (List ℕ)) (left : Option (List ℕ)) (asked : Result (List ℕ) Status) where
  -- where the words are refused, their fault's status is asked for
  pub asked-refused : (fault : WordFault) → AreRefused words fault → IsAsked words left asked → status_asked asked ≡ Words fault
  asked-refused fault refused (inl nothing) =
      let same = AreRefused-same words nothing.fault fault nothing.refused refused in
      let fault_is : nothing.fault ≡ fault = λ i. record { word = same.0 i; cause = same.1 i } in
      ap status_asked nothing.told ∙ ap (λ (f : WordFault). Words f) fault_is
  asked-refused fault refused (inr run) = absurd (AreAccepted-not_refused words run.settings fault run.accepted refused)

  -- where they make a load, a text is
  pub asked-load : (settings : RunSettings) → AreAccepted words settings → makes_load settings.command ≡ true → IsAsked words left asked
      → status_asked asked ≡ Done
  asked-load settings accepted makes (inl nothing) = absurd (AreAccepted-not_refused words settings nothing.fault accepted nothing.refused)
  asked-load settings accepted makes (inr run) =
      let load = same-load words run.settings settings run.accepted accepted ∙ makes in
      let chosen = run.settings in
      ap status_asked (by_load (rules_of chosen.program) (stream_code chosen.program) chosen.shape (generated_records chosen.start chosen.frames chosen.hosts) left
      chosen.command asked load run.told)

  -- where they take a capture, what its reading asks for is
  pub asked-capture : (bytes : List ℕ) (reading : Result (List Record) AnyError)
      → ((one other : Result (List Record) AnyError) → IsReading bytes one → IsReading bytes other → one ≡ other)
      → TakeCapture words → left ≡ Some bytes → IsReading bytes reading → IsAsked words left asked → status_asked asked ≡ status_read reading
  asked-capture bytes reading same takes is read (inl nothing) = absurd (AreAccepted-not_refused words takes.settings nothing.fault takes.accepted nothing.refused)
  asked-capture bytes reading same takes is read (inr run) =
      let chosen = run.settings in
      let captures = ap (λ (s : RunSettings). takes_capture s.command) (AreAccepted-same words chosen takes.settings run.accepted takes.accepted) ∙ takes.takes in
      let of = by_capture (rules_of chosen.program) (stream_code chosen.program) chosen.shape (generated_records chosen.start chosen.frames chosen.hosts) left
      chosen.command asked captures run.told in
      ap status_asked (IsOfCapture-by of.0 bytes left reading asked same is read of.1) ∙ status_asked-by of.0 reading

  -- where they take a stream, what its reading asks for is
  pub asked-stream : (code : ℕ) (bytes : List ℕ) (reading : Result Plan StreamError)
      → TakeStream words code → left ≡ Some bytes → stream.IsReading code bytes reading → IsAsked words left asked → status_asked asked ≡ status_planned reading
  asked-stream code bytes reading takes is read (inl nothing) = absurd (AreAccepted-not_refused words takes.settings nothing.fault takes.accepted nothing.refused)
  asked-stream code bytes reading takes is read (inr run) =
      let chosen = run.settings in
      let same = AreAccepted-same words chosen takes.settings run.accepted takes.accepted in
      let of = by_stream (rules_of chosen.program) (stream_code chosen.program) chosen.shape (generated_records chosen.start chosen.frames chosen.hosts) left
      chosen.command code asked (ap (λ (s : RunSettings). s.command) same ∙ takes.takes) (ap (λ (s : RunSettings). stream_code s.program) same ∙ takes.program) run.told in
      ap status_asked (IsOfStream-by code (plan_text (rules_of chosen.program) true) bytes left reading asked is read of)
      ∙ status_asked-by_plan (plan_text (rules_of chosen.program) true) reading

-- the status of a stream is asked for by words that take one
abbrev refused_with : Status → Result (List ℕ) Status
refused_with status = Err status

no_words : (fault : StreamError) (other : WordFault) → refused_with (Stream fault) ≡ refused_with (Words other) → ⊥
no_words fault other same = cc

pub stream-asked : (words : List (List ℕ)) (left : Option (List ℕ)) (fault : StreamError) → IsAsked words left (Err (Stream fault)) → (code : ℕ) × TakeStream words code
stream-asked words left fault (inl nothing) = absurd (no_words fault nothing.fault nothing.told)
stream-asked words left fault (inr run) =
    let chosen = run.settings in
    let of = by_fault (rules_of chosen.program) (stream_code chosen.program) chosen.shape (generated_records chosen.start chosen.frames chosen.hosts) left
    chosen.command fault run.told in
    (of.0, record { settings = chosen; accepted = run.accepted; takes = of.1; program = of.2 })

-- refused words take no input
pub refused-takes : (words : List (List ℕ)) (fault : WordFault) → AreRefused words fault → TakeInput words → ⊥
refused-takes words fault refused takes = AreAccepted-not_refused words takes.settings fault takes.accepted refused

-- nor do those that make a load
pub load-takes : (words : List (List ℕ)) (settings : RunSettings) → AreAccepted words settings → makes_load settings.command ≡ true → TakeInput words → ⊥
load-takes words settings accepted makes takes =
    let both = sym makes ∙ same-load words settings takes.settings accepted takes.accepted ∙ takes.takes in
    cc

-- the run of the settings is the run of the words
module _ (words : List (List ℕ)) (settings : RunSettings) (accepted : AreAccepted words settings) (left : Option (List ℕ)) (AtEnd : Type 0)
    {O : Type 0} (written : O → Option (List ℕ)) (old new : O) where
  pub Ends-of_words : (failed_before failed : ℕ) (faults wants : O → ℕ) (status : Status)
      → Ends (IsBySettings settings left) (makes_load settings.command ≡ false) (makes_load settings.command ≡ false → AtEnd) written failed_before failed faults wants old new status
      → Ends (IsAsked words left) (TakeInput words) (TakeInput words → AtEnd) written failed_before failed faults wants old new status
  Ends-of_words failed_before failed faults wants status ends =
      Ends-through (IsBySettings settings left) (IsAsked words left) (makes_load settings.command ≡ false) (TakeInput words)
      (makes_load settings.command ≡ false → AtEnd) (TakeInput words → AtEnd) written old new
      (λ asked is. inr (record { settings = settings; accepted = accepted; told = is }))
      (λ no_load. record { settings = settings; accepted = accepted; takes = no_load })
      (λ end takes. end (same-load words settings takes.settings accepted takes.accepted ∙ takes.takes))
      failed_before failed faults wants status ends

-- refused words end the run before it begins
pub Ends-of_refusal : (words : List (List ℕ)) (left : Option (List ℕ)) (AtEnd : Type 0) {O : Type 0} (written : O → Option (List ℕ)) (faults wants : O → ℕ) (out : O)
    (failed : ℕ) (error : WordsError) (status : Status) → status ≡ status_of_words error → AreRefusedBy words error
    → Ends (IsAsked words left) (TakeInput words) AtEnd written failed failed faults wants out out status
Ends-of_refusal words left AtEnd written faults wants out failed (error.Refused fault) status is refused =
    subst (λ (s : Status). Ends (IsAsked words left) (TakeInput words) AtEnd written failed failed faults wants out out s) (sym is) (record {
      stands = (inl (record { fault = fault; refused = refused; told = refl }), refl);
      reads = refl;
      writes = refl;
      wants_behind = refl;
    })
Ends-of_refusal words left AtEnd written faults wants out failed (error.OutOfMemory want) status is refused =
    subst (λ (s : Status). Ends (IsAsked words left) (TakeInput words) AtEnd written failed failed faults wants out out s) (sym is) (record {
      stands = inl refl;
      reads = refl;
      writes = refl;
      wants_behind = inl refl;
    })

-- what holds of a load holds where nothing is taken
by_test : (makes : Bool) (P : Type 0) → (makes ≡ true → P) → (makes ≡ false → P) → P
by_test true P load no_load = load refl
by_test false P load no_load = no_load refl

pub without-input : (words : List (List ℕ)) (settings : RunSettings) → AreAccepted words settings → (P : Type 0)
    → (makes_load settings.command ≡ true → P) → (TakeInput words → ⊥) → P
without-input words settings accepted P load none =
    by_test (makes_load settings.command) P load (λ no_load. absurd (none (record { settings = settings; accepted = accepted; takes = no_load })))
