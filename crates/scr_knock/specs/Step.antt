-- The door: it drops the packets of a source until that has knocked at three ports in turn.
use Rattle.std.specs.Prelude.{List, Option, Some, unwrap_or}
use Rattle.scr_base.specs.declared.row.Row.{Row}
use Rattle.scr_base.specs.declared.row.Verdict.{Verdict}
use Rattle.scr_program.specs.declared.fields.Address.{Address}
use Rattle.scr_program.specs.declared.fields.Fields.{Fields}
use Rattle.scr_program.specs.Keyed.{keyed_step}
use Rattle.scr_program.specs.Keys.{is_same_address, source_of}
use Rattle.scr_program.specs.Kinds.{has_ports}
use Rattle.scr_program.specs.Verdicts.{PASS, DROP, OTHER}
use Rattle.scr_knock.specs.Places.{next_place}
use Rattle.scr_knock.specs.declared.place.Place.{Place}
use Rattle.scr_knock.specs.declared.place.Place.TheVariants.{Start, First, Second, Open}
use Rattle.scr_knock.specs.declared.settings.KnockSettings.{KnockSettings}

-- the verdict on a packet, by the place before it: so the last knock is dropped too
abbrev pub verdict_at : Place → Verdict
verdict_at Start = DROP
verdict_at First = DROP
verdict_at Second = DROP
verdict_at Open = PASS

-- the place that a packet leaves its source, which begins at the start, and its verdict
abbrev pub outcome : KnockSettings → Option Place → Fields → Option Place × Verdict
outcome settings known fields =
    let place = unwrap_or known Start in
    (Some (next_place settings place fields.destination_port), verdict_at place)

-- the places after the row of the next packet, and its verdict
abbrev pub step : KnockSettings → List (Address × Place) → Row → List (Address × Place) × Verdict
step settings = keyed_step is_same_address has_ports source_of settings.flows (outcome settings) OTHER
