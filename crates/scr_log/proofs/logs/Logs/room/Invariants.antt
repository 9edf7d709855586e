use Rattle.std.proofs.Common.{◌≡◌, None}
use Rattle.scr_log.proofs.Calls.{HasSearched}
use Rattle.scr_log.proofs.logs.Logs.room.Given as goal

abbrev pub invariant-loop-core : goal.invariant-loop-core
invariant-loop-core l = record {
  searched : HasSearched l.fn.pass l.pass l.needed l.known l.core;
  none_behind : l.behind ≡ None;
}
