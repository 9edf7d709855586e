-- How the end of a run follows from the ends of its parts, and what it tells of the status.
use Rattle.std.proofs.Common.{◌≡◌, ◌⊎◌, ℕ, List, [], Option, Some, None, Result, Ok, Err, IfSome, MatchResult, refl, sym, ap, ◌∙◌, subst, inl, inr}
use Rattle.std.specs.Io.KnownBytes.{Appends}
use Rattle.std.proofs.lemmas.List.{append-nil}
use Rattle.scr_base.specs.Causes.{counted, CountsError}
use Rattle.scr_base.specs.Streams.{AppendsPrefix, WritesText}
use Rattle.scr_base.specs.declared.sink.SinkError.{SinkError}
use Rattle.scr_base.specs.declared.sink.SinkError.TheVariants as sink
use Rattle.scr_base.specs.declared.out_of_memory.OutOfMemory as memory
use Rattle.scr_pcap.specs.Records.{Record}
use Rattle.scr_pcap.specs.declared.error.CaptureError.{CaptureError}
use Rattle.scr_pcap.specs.declared.error.CaptureError.TheVariants as capture
use Rattle.scr_pcapng.specs.declared.error.AnyError.{AnyError}
use Rattle.scr_pcapng.specs.declared.error.AnyError.TheVariants as any
use Rattle.scr_pcapng.specs.declared.error.NgError.{NgError}
use Rattle.scr_pcapng.specs.declared.error.NgError.TheVariants as blocks
use Rattle.scr_pcapng.specs.Either.{reading_of}
use Rattle.scr_pcapng.specs.Reading.{IsReading}
use Rattle.scr_pcapng.specs.State.{IsCauseOf, faults_counted}
use Rattle.scr_stream.specs.declared.error.StreamError.{StreamError}
use Rattle.scr_run.specs.declared.status.Status.{Status}
use Rattle.scr_run.specs.declared.status.Status.TheVariants.{Done, Words, Capture, ReadFault, WriteFault, OutOfMemory, TooMany, Pcapng, Stream}
use Rattle.scr_words.specs.declared.word_fault.WordFault.{WordFault}
use Rattle.scr_run.specs.Asked.{status_of, status_of_classic, status_of_blocks, asked_by, IsOfCapture}
use Rattle.scr_run.specs.Ends.{Ends, IsText, Stands, Writes, StopsWriting, BeginsWriting, reads_behind, writes_behind, IsWantsBehind, status_of_sink, IsRefusal, IsOutOfMemory, IsUnlessOutOfMemory, IsStop, StopsReading}

-- what is known of a run of a part is known of the whole
module _ (Asked Asked' : Result (List ℕ) Status → Type 0) (Takes Takes' AtEnd AtEnd' : Type 0) {O : Type 0} (written : O → Option (List ℕ)) (old new : O)
    (more : (asked : Result (List ℕ) Status) → Asked asked → Asked' asked) (takes : Takes → Takes') (end : AtEnd → AtEnd') where
  writes_through : Writes Asked AtEnd (written old) (written new) → Writes Asked' AtEnd' (written old) (written new)
  writes_through writes = record { text = writes.text; asked = more (Ok writes.text) writes.asked; gained = writes.gained; end = end writes.end }

  stops_through : StopsWriting Asked AtEnd (written old) (written new) → StopsWriting Asked' AtEnd' (written old) (written new)
  stops_through stops = record { text = stops.text; asked = more (Ok stops.text) stops.asked; front = stops.front; end = end stops.end }

  pub Stands-through : (status : Status) → Stands Asked Takes AtEnd written old new status → Stands Asked' Takes' AtEnd' written old new status
  Stands-through Done stands = writes_through stands
  Stands-through (Words fault) (asked, same) = (more (Err (Words fault)) asked, same)
  Stands-through (Capture error) (asked, same) = (more (Err (Capture error)) asked, same)
  Stands-through (TooMany limit) (asked, same) = (more (Err (TooMany limit)) asked, same)
  Stands-through (Pcapng error) (asked, same) = (more (Err (Pcapng error)) asked, same)
  Stands-through (Stream fault) (asked, same) = (more (Err (Stream fault)) asked, same)
  Stands-through ReadFault (taken, same) = (takes taken, same)
  Stands-through WriteFault stands = stops_through stands
  Stands-through (OutOfMemory want) (inl same) = inl same
  Stands-through (OutOfMemory want) (inr stops) = inr (stops_through stops)

  pub Ends-through : (failed_before failed : ℕ) (faults wants : O → ℕ) (status : Status)
      → Ends Asked Takes AtEnd written failed_before failed faults wants old new status
      → Ends Asked' Takes' AtEnd' written failed_before failed faults wants old new status
  Ends-through failed_before failed faults wants status ends = record {
    stands = Stands-through status ends.stands;
    reads = ends.reads;
    writes = ends.writes;
    wants_behind = ends.wants_behind;
  }

-- where no capture is taken, reading has failed as often as before
reads_none : (Asked : Result (List ℕ) Status → Type 0) (AtEnd : Type 0) {O : Type 0} (written : O → Option (List ℕ)) (old new : O) (failed_before failed : ℕ) (status : Status)
    → Stands Asked ⊥ AtEnd written old new status → failed ≡ failed_before → failed ≡ reads_behind status failed_before
reads_none Asked AtEnd written old new failed_before failed Done stands same = same
reads_none Asked AtEnd written old new failed_before failed (Words fault) stands same = same
reads_none Asked AtEnd written old new failed_before failed (Capture error) stands same = same
reads_none Asked AtEnd written old new failed_before failed (TooMany limit) stands same = same
reads_none Asked AtEnd written old new failed_before failed (Pcapng error) stands same = same
reads_none Asked AtEnd written old new failed_before failed (Stream fault) stands same = same
reads_none Asked AtEnd written old new failed_before failed ReadFault stands same = absurd stands.0
reads_none Asked AtEnd written old new failed_before failed WriteFault stands same = same
reads_none Asked AtEnd written old new failed_before failed (OutOfMemory want) stands same = same

-- the writing of a text, behind which nothing is read
module _ {O : Type 0} (written : O → Option (List ℕ)) (faults wants : O → ℕ) (old new : O) where
  -- as the sink's calls tell it
  pub Ends-of_write : (text : List ℕ) (answer : Result (Unit {0}) SinkError) → WritesText (written old) (written new) answer text
      → CountsError faults wants old new answer
      → (status : Status) → MatchResult answer (λ done. status ≡ Done) (λ error. status ≡ status_of_sink error)
      → Ends (IsText text) ⊥ (Unit {0}) written 0 0 faults wants old new status
  Ends-of_write text (Ok done) gained counts status is =
      subst (λ (s : Status). Ends (IsText text) ⊥ (Unit {0}) written 0 0 faults wants old new s) (sym is) (record {
        stands = record { text = text; asked = refl; gained = gained; end = tt };
        reads = refl;
        writes = counts.ok.0;
        wants_behind = counts.ok.1;
      })
  Ends-of_write text (Err sink.Failed) front counts status is =
      subst (λ (s : Status). Ends (IsText text) ⊥ (Unit {0}) written 0 0 faults wants old new s) (sym is) (record {
        stands = record { text = text; asked = refl; front = front; end = tt };
        reads = refl;
        writes = (counts.failed refl).0;
        wants_behind = (counts.failed refl).1;
      })
  Ends-of_write text (Err (sink.OutOfMemory want)) front counts status is =
      subst (λ (s : Status). Ends (IsText text) ⊥ (Unit {0}) written 0 0 faults wants old new s) (sym is) (record {
        stands = inr (record { text = text; asked = refl; front = front; end = tt });
        reads = refl;
        writes = (counts.out_of_memory want refl).0;
        wants_behind = inr (counts.out_of_memory want refl).1;
      })

  -- of the same text
  pub Ends-of_text : (text other : List ℕ) (status : Status) → text ≡ other → Ends (IsText text) ⊥ (Unit {0}) written 0 0 faults wants old new status
      → Ends (IsText other) ⊥ (Unit {0}) written 0 0 faults wants old new status
  Ends-of_text text other status same ends = subst (λ (t : List ℕ). Ends (IsText t) ⊥ (Unit {0}) written 0 0 faults wants old new status) same ends

  -- behind a capture that was read to its end
  pub Ends-behind : (text : List ℕ) (Asked : Result (List ℕ) Status → Type 0) (Takes AtEnd : Type 0) (failed_before failed : ℕ) (status : Status)
      → Asked (Ok text) → AtEnd → failed ≡ failed_before → Ends (IsText text) ⊥ (Unit {0}) written 0 0 faults wants old new status
      → Ends Asked Takes AtEnd written failed_before failed faults wants old new status
  Ends-behind text Asked Takes AtEnd failed_before failed status asked end same ends = record {
    stands = Stands-through (IsText text) Asked ⊥ Takes (Unit {0}) AtEnd written old new (λ a is. subst Asked (sym is) asked) (λ none. absurd none) (λ any. end) status ends.stands;
    reads = reads_none (IsText text) (Unit {0}) written old new failed_before failed status ends.stands same;
    writes = ends.writes;
    wants_behind = ends.wants_behind;
  }

-- where the reading of the capture stopped, nothing was written
pub Ends-stopped : (text : List Record → List ℕ) (left : Option (List ℕ)) (Takes AtEnd : Type 0) {O : Type 0} (written : O → Option (List ℕ)) (faults wants : O → ℕ) (out : O)
    (failed_before failed : ℕ) (status : Status) → Takes → StopsReading left failed_before failed status
    → Ends (IsOfCapture text left) Takes AtEnd written failed_before failed faults wants out out status
Ends-stopped text left Takes AtEnd written faults wants out failed_before failed Done takes stops = absurd stops.why
Ends-stopped text left Takes AtEnd written faults wants out failed_before failed (Words fault) takes stops = absurd stops.why
Ends-stopped text left Takes AtEnd written faults wants out failed_before failed (Capture error) takes stops = record {
  stands = (record { reading = Err stops.why.fault; read = stops.why.read; told = ap (λ (s : Status). Err s) stops.why.told }, refl);
  reads = stops.reads;
  writes = refl;
  wants_behind = refl;
}
Ends-stopped text left Takes AtEnd written faults wants out failed_before failed (TooMany limit) takes stops = record {
  stands = (record { reading = Err stops.why.fault; read = stops.why.read; told = ap (λ (s : Status). Err s) stops.why.told }, refl);
  reads = stops.reads;
  writes = refl;
  wants_behind = refl;
}
Ends-stopped text left Takes AtEnd written faults wants out failed_before failed (Pcapng error) takes stops = record {
  stands = (record { reading = Err stops.why.fault; read = stops.why.read; told = ap (λ (s : Status). Err s) stops.why.told }, refl);
  reads = stops.reads;
  writes = refl;
  wants_behind = refl;
}
Ends-stopped text left Takes AtEnd written faults wants out failed_before failed ReadFault takes stops = record {
  stands = (takes, refl);
  reads = stops.reads;
  writes = refl;
  wants_behind = refl;
}
Ends-stopped text left Takes AtEnd written faults wants out failed_before failed WriteFault takes stops = absurd stops.why
Ends-stopped text left Takes AtEnd written faults wants out failed_before failed (Stream fault) takes stops = absurd stops.why
Ends-stopped text left Takes AtEnd written faults wants out failed_before failed (OutOfMemory want) takes stops = record {
  stands = inl refl;
  reads = stops.reads;
  writes = refl;
  wants_behind = inl refl;
}

-- the status of a reader's fault, where the capture has it
stop-of_classic : (left : Option (List ℕ)) (fault : CaptureError) → reading_of left (Err (any.Classic fault)) → IsStop left (status_of_classic fault)
stop-of_classic left capture.ShortHeader has = record { fault = any.Classic capture.ShortHeader; read = has; told = refl }
stop-of_classic left capture.Magic has = record { fault = any.Classic capture.Magic; read = has; told = refl }
stop-of_classic left capture.Version has = record { fault = any.Classic capture.Version; read = has; told = refl }
stop-of_classic left capture.LinkType has = record { fault = any.Classic capture.LinkType; read = has; told = refl }
stop-of_classic left (capture.ShortRecord number) has = record { fault = any.Classic (capture.ShortRecord number); read = has; told = refl }
stop-of_classic left (capture.LongRecord number length) has = record { fault = any.Classic (capture.LongRecord number length); read = has; told = refl }
stop-of_classic left (capture.TooMany limit) has = record { fault = any.Classic (capture.TooMany limit); read = has; told = refl }
stop-of_classic left capture.ReadFault has = tt

stop-of_blocks : (left : Option (List ℕ)) (fault : NgError) → reading_of left (Err (any.Ng fault)) → IsStop left (status_of_blocks fault)
stop-of_blocks left (blocks.Cut block) has = record { fault = any.Ng (blocks.Cut block); read = has; told = refl }
stop-of_blocks left (blocks.Mark block) has = record { fault = any.Ng (blocks.Mark block); read = has; told = refl }
stop-of_blocks left (blocks.Length block) has = record { fault = any.Ng (blocks.Length block); read = has; told = refl }
stop-of_blocks left (blocks.Version block) has = record { fault = any.Ng (blocks.Version block); read = has; told = refl }
stop-of_blocks left (blocks.Resolution block) has = record { fault = any.Ng (blocks.Resolution block); read = has; told = refl }
stop-of_blocks left (blocks.Interface block) has = record { fault = any.Ng (blocks.Interface block); read = has; told = refl }
stop-of_blocks left (blocks.Captured block length) has = record { fault = any.Ng (blocks.Captured block length); read = has; told = refl }
stop-of_blocks left (blocks.LinkType block) has = record { fault = any.Ng (blocks.LinkType block); read = has; told = refl }
stop-of_blocks left (blocks.TooMany limit) has = record { fault = any.Ng (blocks.TooMany limit); read = has; told = refl }
stop-of_blocks left (blocks.TooManyBlocks limit) has = record { fault = any.Ng (blocks.TooManyBlocks limit); read = has; told = refl }

IsStop-of : (left : Option (List ℕ)) (error : AnyError) → IsCauseOf (reading_of left) error → IsStop left (status_of error)
IsStop-of left (any.Classic fault) has = stop-of_classic left fault has
IsStop-of left (any.Ng fault) has = stop-of_blocks left fault has
IsStop-of left any.ReadFault has = tt
IsStop-of left (any.OutOfMemory want) has = tt

-- a fault stops a run in one of three ways, whatever the capture is
stop-of_any : (error : AnyError) → IsStop None (status_of error)
stop-of_any (any.Classic fault) = stop-of_classic None fault tt
stop-of_any (any.Ng fault) = stop-of_blocks None fault tt
stop-of_any any.ReadFault = tt
stop-of_any (any.OutOfMemory want) = tt

-- how often reading failed
reads-of_classic : (fault : CaptureError) (before now : ℕ) → (fault ≡ capture.ReadFault → ⊥) → now ≡ before → now ≡ reads_behind (status_of_classic fault) before
reads-of_classic capture.ShortHeader before now named same = same
reads-of_classic capture.Magic before now named same = same
reads-of_classic capture.Version before now named same = same
reads-of_classic capture.LinkType before now named same = same
reads-of_classic (capture.ShortRecord number) before now named same = same
reads-of_classic (capture.LongRecord number length) before now named same = same
reads-of_classic (capture.TooMany limit) before now named same = same
reads-of_classic capture.ReadFault before now named same = absurd (named refl)

reads-of_blocks : (fault : NgError) (before now : ℕ) → now ≡ before → now ≡ reads_behind (status_of_blocks fault) before
reads-of_blocks (blocks.Cut block) before now same = same
reads-of_blocks (blocks.Mark block) before now same = same
reads-of_blocks (blocks.Length block) before now same = same
reads-of_blocks (blocks.Version block) before now same = same
reads-of_blocks (blocks.Resolution block) before now same = same
reads-of_blocks (blocks.Interface block) before now same = same
reads-of_blocks (blocks.Captured block length) before now same = same
reads-of_blocks (blocks.LinkType block) before now same = same
reads-of_blocks (blocks.TooMany limit) before now same = same
reads-of_blocks (blocks.TooManyBlocks limit) before now same = same

reads_of : (T : Type 0) (error : AnyError) (before now : ℕ) → (error ≡ any.Classic capture.ReadFault → ⊥) → now ≡ faults_counted {T = T} (Err error) before
    → now ≡ reads_behind (status_of error) before
reads_of T (any.Classic fault) before now named counts =
    reads-of_classic fault before now (λ is. named (ap (λ (f : CaptureError). any.Classic f) is)) counts
reads_of T (any.Ng fault) before now named counts = reads-of_blocks fault before now counts
reads_of T any.ReadFault before now named counts = counts
reads_of T (any.OutOfMemory want) before now named counts = counts

pub StopsReading-from : (T : Type 0) (left : Option (List ℕ)) (before middle now : ℕ) (error : AnyError) (status : Status)
    → now ≡ faults_counted {T = T} (Err error) middle → middle ≡ before → (error ≡ any.Classic capture.ReadFault → ⊥) → IsCauseOf (reading_of left) error
    → status ≡ status_of error → StopsReading left before now status
StopsReading-from T left before middle now error status counts same named cause is =
    subst (StopsReading left before now) (sym is) (record {
      why = IsStop-of left error cause;
      reads = reads_of T error before now named (subst (λ (n : ℕ). now ≡ faults_counted {T = T} (Err error) n) same counts);
    })

-- no memory for it
pub StopsReading-want : (left : Option (List ℕ)) (before now : ℕ) (want : memory.OutOfMemory) (status : Status) → now ≡ before → status ≡ OutOfMemory want
    → StopsReading left before now status
StopsReading-want left before now want status same is = subst (StopsReading left before now) (sym is) (record { why = tt; reads = same })

-- what stands behind any run: nothing was written, or a front of what is asked for
front_of : (before now : Option (List ℕ)) (text : List ℕ) → Appends before now text → AppendsPrefix before now text
front_of before now text gained = record { sent = text; rest = []; gained = gained; parts = sym (append-nil text) }

module _ (Asked : Result (List ℕ) Status → Type 0) (Takes AtEnd : Type 0) {O : Type 0} (written : O → Option (List ℕ)) (old new : O) where
  begins : StopsWriting Asked AtEnd (written old) (written new) → BeginsWriting Asked AtEnd (written old) (written new)
  begins stops = record {
    text = stops.text;
    asked = stops.asked;
    front = record { sent = stops.front.sent; rest = stops.front.rest; gained = stops.front.gained; parts = stops.front.parts };
    end = stops.end;
  }

  front-from : (status : Status) → Stands Asked Takes AtEnd written old new status → (new ≡ old) ⊎ BeginsWriting Asked AtEnd (written old) (written new)
  front-from Done stands =
      inr (record { text = stands.text; asked = stands.asked; front = front_of (written old) (written new) stands.text stands.gained; end = stands.end })
  front-from (Words fault) stands = inl stands.1
  front-from (Capture error) stands = inl stands.1
  front-from (TooMany limit) stands = inl stands.1
  front-from (Pcapng error) stands = inl stands.1
  front-from (Stream fault) stands = inl stands.1
  front-from ReadFault stands = inl stands.1
  front-from WriteFault stands = inr (begins stands)
  front-from (OutOfMemory want) (inl same) = inl same
  front-from (OutOfMemory want) (inr stops) = inr (begins stops)

-- the status of what is asked for
abbrev pub status_asked : Result (List ℕ) Status → Status
status_asked (Ok text) = Done
status_asked (Err status) = status

-- where one status is asked for, it comes, unless a stream failed or memory ran out
module _ (Asked : Result (List ℕ) Status → Type 0) (Takes AtEnd : Type 0) {O : Type 0} (written : O → Option (List ℕ)) (faults wants : O → ℕ) (old new : O) (failed_before failed : ℕ)
    (wanted : Status) (only : (asked : Result (List ℕ) Status) → Asked asked → status_asked asked ≡ wanted)
    (calm : Takes → failed ≡ counted failed_before → ⊥) (calm_out : wanted ≡ Done → faults new ≡ counted (faults old) → ⊥) where
  pub status-is : (status : Status) → Ends Asked Takes AtEnd written failed_before failed faults wants old new status → IsUnlessOutOfMemory status wanted
  status-is Done ends = inl (only (Ok ends.stands.text) ends.stands.asked)
  status-is (Words fault) ends = inl (only (Err (Words fault)) ends.stands.0)
  status-is (Capture error) ends = inl (only (Err (Capture error)) ends.stands.0)
  status-is (TooMany limit) ends = inl (only (Err (TooMany limit)) ends.stands.0)
  status-is (Pcapng error) ends = inl (only (Err (Pcapng error)) ends.stands.0)
  status-is (Stream fault) ends = inl (only (Err (Stream fault)) ends.stands.0)
  status-is ReadFault ends = absurd (calm ends.stands.0 ends.reads)
  status-is WriteFault ends = absurd (calm_out (sym (only (Ok ends.stands.text) ends.stands.asked)) ends.writes)
  status-is (OutOfMemory want) ends = inr (want, refl)

-- a capture has one reading, so that one status is asked for
pub IsOfCapture-by : (text : List Record → List ℕ) (bytes : List ℕ) (left : Option (List ℕ)) (reading : Result (List Record) AnyError) (asked : Result (List ℕ) Status)
    → ((one other : Result (List Record) AnyError) → IsReading bytes one → IsReading bytes other → one ≡ other)
    → left ≡ Some bytes → IsReading bytes reading → IsOfCapture text left asked → asked ≡ asked_by text reading
IsOfCapture-by text bytes left reading asked same is read of =
    let read' : IsReading bytes of.reading = subst (λ (l : Option (List ℕ)). IfSome l (λ bytes. IsReading bytes of.reading)) is of.read in
    of.told ∙ ap (asked_by text) (same of.reading reading read' read)

-- the status that a reading asks for, whatever the text
abbrev pub status_read : Result (List Record) AnyError → Status
status_read (Ok records) = Done
status_read (Err fault) = status_of fault

pub status_asked-by : (text : List Record → List ℕ) (reading : Result (List Record) AnyError) → status_asked (asked_by text reading) ≡ status_read reading
status_asked-by text (Ok records) = refl
status_asked-by text (Err fault) = refl

no_fault-done : (error : AnyError) → status_of error ≡ Done → ⊥
no_fault-done error same = subst (IsStop None) same (stop-of_any error)

-- where the reading of a capture is asked for: a fault is answered where no read failed, and the report is written where no
-- write failed either
module _ (Asked : Result (List ℕ) Status → Type 0) (Takes AtEnd : Type 0) {O : Type 0} (written : O → Option (List ℕ)) (faults wants : O → ℕ) (old new : O)
    (failed_before failed : ℕ) (status : Status) (calm : failed ≡ counted failed_before → ⊥) where
  pub malformed : (error : AnyError) → ((asked : Result (List ℕ) Status) → Asked asked → status_asked asked ≡ status_read (Err error))
      → Ends Asked Takes AtEnd written failed_before failed faults wants old new status → IsUnlessOutOfMemory status (status_of error)
  malformed error only ends =
      status-is Asked Takes AtEnd written faults wants old new failed_before failed (status_of error) only (λ takes. calm)
      (λ done rose. no_fault-done error done) status ends

  pub complete : (records : List Record) → ((asked : Result (List ℕ) Status) → Asked asked → status_asked asked ≡ status_read (Ok records))
      → (faults new ≡ counted (faults old) → ⊥) → Ends Asked Takes AtEnd written failed_before failed faults wants old new status
      → IsUnlessOutOfMemory status Done
  complete records only calm_out ends =
      status-is Asked Takes AtEnd written faults wants old new failed_before failed Done only (λ takes. calm) (λ done. calm_out) status ends

pub capture-asked : (text : List Record → List ℕ) (bytes : List ℕ) (left : Option (List ℕ)) (reading : Result (List Record) AnyError)
    → ((one other : Result (List Record) AnyError) → IsReading bytes one → IsReading bytes other → one ≡ other)
    → left ≡ Some bytes → IsReading bytes reading → (asked : Result (List ℕ) Status) → IsOfCapture text left asked → status_asked asked ≡ status_read reading
capture-asked text bytes left reading same is read asked of =
    ap status_asked (IsOfCapture-by text bytes left reading asked same is read of) ∙ status_asked-by text reading

-- no capture asks for the status of words, nor for that of a stream
no_fault-words : (fault : WordFault) (error : AnyError) → Words fault ≡ status_of error → ⊥
no_fault-words fault error same = subst (IsStop None) (sym same) (stop-of_any error)

pub no-words : (text : List Record → List ℕ) (left : Option (List ℕ)) (fault : WordFault) → IsOfCapture text left (Err (Words fault)) → ⊥
no-words text left fault of = refused of.reading of.told
  where
    refused : (reading : Result (List Record) AnyError) → Err (Words fault) ≡ asked_by text reading → ⊥
    refused (Ok records) same = cc
    refused (Err error) same = no_fault-words fault error cc

no_fault-stream : (fault : StreamError) (error : AnyError) → Stream fault ≡ status_of error → ⊥
no_fault-stream fault error same = subst (IsStop None) (sym same) (stop-of_any error)

pub no-stream : (text : List Record → List ℕ) (left : Option (List ℕ)) (fault : StreamError) → IsOfCapture text left (Err (Stream fault)) → ⊥
no-stream text left fault of = refused of.reading of.told
  where
    refused : (reading : Result (List Record) AnyError) → Err (Stream fault) ≡ asked_by text reading → ⊥
    refused (Ok records) same = cc
    refused (Err error) same = no_fault-stream fault error cc

-- how a run ended, from what is told of it status by status
module _ (Asked : Result (List ℕ) Status → Type 0) (Takes AtEnd : Type 0) {O : Type 0} (written : O → Option (List ℕ)) (faults wants : O → ℕ) (old new : O) where
  shown_stands : (status : Status) → (status ≡ Done → Writes Asked AtEnd (written old) (written new))
      → (IsRefusal status → Asked (Err status) × (new ≡ old)) → (status ≡ ReadFault → Takes × (new ≡ old))
      → (status ≡ WriteFault → StopsWriting Asked AtEnd (written old) (written new))
      → (IsOutOfMemory status → (new ≡ old) ⊎ StopsWriting Asked AtEnd (written old) (written new))
      → Stands Asked Takes AtEnd written old new status
  shown_stands Done done refused read write want = done refl
  shown_stands (Words fault) done refused read write want = refused tt
  shown_stands (Capture error) done refused read write want = refused tt
  shown_stands (TooMany limit) done refused read write want = refused tt
  shown_stands (Pcapng error) done refused read write want = refused tt
  shown_stands (Stream fault) done refused read write want = refused tt
  shown_stands ReadFault done refused read write want = read refl
  shown_stands WriteFault done refused read write want = write refl
  shown_stands (OutOfMemory memory) done refused read write want = want (memory, refl)

  pub Ends-shown : (failed_before failed : ℕ) (status : Status) → (status ≡ Done → Writes Asked AtEnd (written old) (written new))
      → (IsRefusal status → Asked (Err status) × (new ≡ old)) → (status ≡ ReadFault → Takes × (new ≡ old))
      → (status ≡ WriteFault → StopsWriting Asked AtEnd (written old) (written new))
      → (IsOutOfMemory status → (new ≡ old) ⊎ StopsWriting Asked AtEnd (written old) (written new))
      → failed ≡ reads_behind status failed_before → faults new ≡ writes_behind status (faults old) → IsWantsBehind status (wants old) (wants new)
      → Ends Asked Takes AtEnd written failed_before failed faults wants old new status
  Ends-shown failed_before failed status done refused read write want reads writes wants_behind = record {
    stands = shown_stands status done refused read write want;
    reads = reads;
    writes = writes;
    wants_behind = wants_behind;
  }

-- what stands behind any run, from how it ended
pub Ends-front : (Asked : Result (List ℕ) Status → Type 0) (Takes AtEnd : Type 0) {O : Type 0} (written : O → Option (List ℕ)) (faults wants : O → ℕ) (old new : O)
    (failed_before failed : ℕ) (status : Status) → Ends Asked Takes AtEnd written failed_before failed faults wants old new status
    → (new ≡ old) ⊎ BeginsWriting Asked AtEnd (written old) (written new)
Ends-front Asked Takes AtEnd written faults wants old new failed_before failed status ends =
    front-from Asked Takes AtEnd written old new status ends.stands
