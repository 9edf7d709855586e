-- The step of the tracker: what a segment makes of its connection.
use Rattle.std.specs.Prelude.{List, Option, Some, None}
use Rattle.scr_base.specs.declared.row.Row.{Row}
use Rattle.scr_base.specs.declared.row.Verdict.{Verdict}
use Rattle.scr_program.specs.declared.fields.Fields.{Fields}
use Rattle.scr_program.specs.Keyed.{keyed_step}
use Rattle.scr_program.specs.Kinds.{is_tcp}
use Rattle.scr_conn.specs.Endpoints.{connection_of, is_same_connection}
use Rattle.scr_conn.specs.Entries.{next_entry}
use Rattle.scr_conn.specs.Verdicts.{verdict_of, INVALID, OTHER}
use Rattle.scr_conn.specs.declared.endpoint.Connection.{Connection}
use Rattle.scr_conn.specs.declared.entry.Entry.{Entry}
use Rattle.scr_conn.specs.declared.settings.ConnSettings.{ConnSettings}

-- an invalid segment leaves no entry, so that it changes nothing; the verdict on any other is its connection's state
abbrev pub answered : Option Entry → Option Entry × Verdict
answered None = (None, INVALID)
answered (Some entry) = (Some entry, verdict_of entry.state)

-- the entry that a segment leaves its connection, and its verdict
abbrev pub outcome : ConnSettings → Option Entry → Fields → Option Entry × Verdict
outcome settings known fields = answered (next_entry settings.idle known fields)

-- the connections after the row of the next packet, and its verdict
abbrev pub step : ConnSettings → List (Connection × Entry) → Row → List (Connection × Entry) × Verdict
step settings = keyed_step is_same_connection is_tcp connection_of settings.flows (outcome settings) OTHER
