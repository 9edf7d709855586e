-- The words so far are those of the arguments so far.
use Rattle.std.proofs.Common.{◌≡◌, ◌<◌, ◌-◌, ◌^◌, ◌++◌, length, map, drop}
use Rattle.std.specs.String.{string_bytes}
use Rattle.std.specs.Vec.Iter.{into_iter_items, into_iter_len}
use Rattle.scr_cli.proofs.arguments.words_behind_name.Given as goal

abbrev pub invariant-loop-argument : goal.invariant-loop-argument
invariant-loop-argument l = record {
  words : drop 1 (map string_bytes (into_iter_items l.fn.all)) ≡ l.words.items ++ map string_bytes (into_iter_items l.all);
  few : length l.words.items < 2 ^ 32 - 1;
}

abbrev pub decreases-loop-argument : goal.decreases-loop-argument
decreases-loop-argument l = into_iter_len l.all
