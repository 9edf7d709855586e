-- Heavy flows: it sums the lengths of the packets of each flow, and tells those of a flow that has come to many bytes.
use Rattle.std.specs.Prelude.{ℕ, ◌+◌, ◌-◌, ◌^◌, min, List, Option, Some, unwrap_or, nat_le, if◌then◌else◌}
use Rattle.scr_base.specs.declared.row.Row.{Row}
use Rattle.scr_base.specs.declared.row.Verdict.{Verdict}
use Rattle.scr_program.specs.declared.fields.Fields.{Fields}
use Rattle.scr_program.specs.declared.key.FiveTuple.{FiveTuple}
use Rattle.scr_program.specs.Keyed.{keyed_step}
use Rattle.scr_program.specs.Keys.{is_same_tuple, five_tuple_of}
use Rattle.scr_program.specs.Kinds.{is_packet}
use Rattle.scr_program.specs.Verdicts.{PASS, OTHER}
use Rattle.scr_heavy.specs.declared.settings.HeavySettings.{HeavySettings}
use Rattle.scr_heavy.specs.Verdicts.{HEAVY}

-- the bytes of a flow when one more of its packets has come; they stop at the last number of 64 bits
abbrev pub bytes_with : Option ℕ → ℕ → ℕ
bytes_with known length = min (unwrap_or known 0 + length) (2 ^ 64 - 1)

-- the bytes that a packet leaves its flow, and its verdict
abbrev pub outcome : HeavySettings → Option ℕ → Fields → Option ℕ × Verdict
outcome settings known fields =
    let bytes = bytes_with known fields.length in
    (Some bytes, if nat_le settings.bytes bytes then HEAVY else PASS)

-- the flows after the row of the next packet, and its verdict
abbrev pub step : HeavySettings → List (FiveTuple × ℕ) → Row → List (FiveTuple × ℕ) × Verdict
step settings = keyed_step is_same_tuple is_packet five_tuple_of settings.flows (outcome settings) OTHER
