-- A source that reads ahead of its caller, and a sink that writes as it is called.
use Rattle.std.specs.Prelude.{ℕ, List, Option}

-- the bytes that it holds, those that its reader still has, where the reader tells them, and how often a read failed
pub record ReadAhead : Type 0 where
  pub held : List ℕ
  pub rest : Option (List ℕ)
  pub faults : ℕ

-- a writer as a sink: what the writer holds, where it tells that, and how often a write failed
pub record WrittenTo : Type 0 where
  pub written : Option (List ℕ)
  pub faults : ℕ
