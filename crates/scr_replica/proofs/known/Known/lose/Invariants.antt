-- So many were lost so far, and no more than there is to lose.
use Rattle.std.proofs.Common.{◌≡◌, ◌-◌, ◌≤◌, length, max, ◌++◌, replicate, vec_len}
use Rattle.scr_replica.specs.declared.entry.Entry.TheVariants.{Lost}
use Rattle.scr_replica.proofs.known.Known.lose.Given as goal

abbrev pub invariant-loop-self : goal.invariant-loop-self
invariant-loop-self l = record {
  lost : l.self-inside.entries.items ≡ l.fn.self ++ replicate (length l.self-inside.entries.items - length l.fn.self) Lost;
  more : length l.fn.self ≤ length l.self-inside.entries.items;
  few : length l.self-inside.entries.items ≤ max (length l.fn.self) l.number;
}

abbrev pub decreases-loop-self : goal.decreases-loop-self
decreases-loop-self l = l.number - vec_len l.self-inside.entries
