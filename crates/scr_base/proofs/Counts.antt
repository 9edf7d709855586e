-- Counts of a sink over several calls, of which all but the last left them as they were.
use Rattle.std.proofs.Common.{◌≡◌, ℕ, Result, Ok, Err, OnOk, ap, ◌∙◌}
use Rattle.scr_base.specs.Causes.{CountsError, counted}
use Rattle.scr_base.specs.declared.out_of_memory.OutOfMemory.{OutOfMemory}
use Rattle.scr_base.specs.declared.sink.SinkError.{SinkError}
use Rattle.scr_base.specs.declared.sink.SinkError.TheVariants as sink_error

stay-then : {O T : Type 0} (count : O → ℕ) (other : O → ℕ) (a b c : O) (result : Result T SinkError) → count b ≡ count a → other b ≡ other a
    → OnOk result ((count c ≡ count b) × (other c ≡ other b)) → OnOk result ((count c ≡ count a) × (other c ≡ other a))
stay-then count other a b c (Ok x) same same_other stay = (stay.0 ∙ same, stay.1 ∙ same_other)
stay-then count other a b c (Err e) same same_other stay = tt

-- a call behind calls that left the counts as they were
pub CountsError-then : {O T : Type 0} (faults wants : O → ℕ) (a b c : O) (result : Result T SinkError) → faults b ≡ faults a → wants b ≡ wants a
    → CountsError faults wants b c result → CountsError faults wants a c result
CountsError-then faults wants a b c result same_faults same_wants counts = record {
  ok = stay-then faults wants a b c result same_faults same_wants counts.ok;
  failed = λ is. (let now = counts.failed is in (now.0 ∙ ap counted same_faults, now.1 ∙ same_wants));
  out_of_memory = λ want is. (let now = counts.out_of_memory want is in (now.0 ∙ same_faults, now.1 ∙ ap counted same_wants));
}

abbrev error_of : {T : Type 0} → Result T SinkError → SinkError
error_of (Ok x) = sink_error.Failed
error_of (Err error) = error

-- the same where it failed, and the answer is of another kind
pub CountsError-behind : {O S T : Type 0} (faults wants : O → ℕ) (a b c : O) (error : SinkError) → faults b ≡ faults a → wants b ≡ wants a
    → CountsError {T = S} faults wants b c (Err error) → CountsError {T = T} faults wants a c (Err error)
CountsError-behind {O} {S} {T} faults wants a b c error same_faults same_wants counts =
    let failing : (e : SinkError) → ◌≡◌ {A = Result T SinkError} (Err error) (Err e) → ◌≡◌ {A = Result S SinkError} (Err error) (Err e) =
    λ e is. (let made : SinkError → Result S SinkError = λ z. Err z in ap made (ap (error_of {T = T}) is)) in
    record {
      ok = tt;
      failed = λ is. (let now = counts.failed (failing sink_error.Failed is) in (now.0 ∙ ap counted same_faults, now.1 ∙ same_wants));
      out_of_memory = λ want is. (let now = counts.out_of_memory want (failing (sink_error.OutOfMemory want) is) in
          (now.0 ∙ same_faults, now.1 ∙ ap counted same_wants));
    }
