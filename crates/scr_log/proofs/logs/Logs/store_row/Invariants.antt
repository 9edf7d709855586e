use Rattle.std.proofs.Common.{◌≡◌}
use Rattle.scr_log.proofs.logs.Logs.store_row.Given as goal

abbrev pub invariant-loop-i : goal.invariant-loop-i
invariant-loop-i l = record {
  table : l.seat.table_id ≡ l.fn.seat.table_id;
  stored : l.seat.me ≡ (record l.fn.seat.me.0 { stored = l.i }, l.fn.seat.me.1);
}
