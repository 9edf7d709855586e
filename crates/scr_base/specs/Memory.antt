-- Streams in memory. Calls are numbered from 1, and counts stop at the last value of their type.
use Rattle.std.specs.Prelude.{ℕ, ◌==◌, Bool, List}
use Rattle.std.specs.List.{list_any}
use Rattle.scr_base.specs.Causes.{counted}

-- a source in memory that never fails: what is left, and at most how many bytes a call gives
pub record SureSourceInMemory : Type 0 where
  pub left : List ℕ
  pub limit : ℕ

-- a sink in memory that never fails: what was written, at most how many bytes a call takes, and how often it wanted
-- memory in vain
pub record SureSinkInMemory : Type 0 where
  pub written : List ℕ
  pub limit : ℕ
  pub wants : ℕ

-- a source in memory: what is left, at most how many bytes a call gives, the calls that fail by their numbers from 1,
-- how many calls were made, and how many of them failed
pub record SourceInMemory : Type 0 where
  pub left : List ℕ
  pub limit : ℕ
  pub failing : List ℕ
  pub calls : ℕ
  pub faults : ℕ

-- a sink in memory, the same way, and how often it wanted memory in vain
pub record SinkInMemory : Type 0 where
  pub written : List ℕ
  pub limit : ℕ
  pub failing : List ℕ
  pub calls : ℕ
  pub faults : ℕ
  pub wants : ℕ

-- whether the call behind so many calls is one of those that fail
abbrev pub fails : List ℕ → ℕ → Bool
fails failing calls = list_any (λ number. number == counted calls) failing
