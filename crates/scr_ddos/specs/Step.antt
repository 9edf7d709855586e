-- The flood counter: it counts the packets of each source, and drops those of a source past the threshold.
use Rattle.std.specs.Prelude.{ℕ, ◌+◌, ◌-◌, ◌^◌, min, List, Option, Some, unwrap_or, nat_lt, if◌then◌else◌}
use Rattle.scr_base.specs.declared.row.Row.{Row}
use Rattle.scr_base.specs.declared.row.Verdict.{Verdict}
use Rattle.scr_program.specs.declared.fields.Address.{Address}
use Rattle.scr_program.specs.declared.fields.Fields.{Fields}
use Rattle.scr_program.specs.Keyed.{keyed_step}
use Rattle.scr_program.specs.Keys.{is_same_address, source_of}
use Rattle.scr_program.specs.Kinds.{is_packet}
use Rattle.scr_program.specs.Verdicts.{PASS, DROP, OTHER}
use Rattle.scr_ddos.specs.declared.settings.DdosSettings.{DdosSettings}

-- the count of a source when one more of its packets has come; it stops at the last number of 64 bits
abbrev pub count_with : Option ℕ → ℕ
count_with known = min (unwrap_or known 0 + 1) (2 ^ 64 - 1)

-- the count that a packet leaves its source, and its verdict
abbrev pub outcome : DdosSettings → Option ℕ → Fields → Option ℕ × Verdict
outcome settings known fields =
    let count = count_with known in
    (Some count, if nat_lt settings.threshold count then DROP else PASS)

-- the counts after the row of the next packet, and its verdict
abbrev pub step : DdosSettings → List (Address × ℕ) → Row → List (Address × ℕ) × Verdict
step settings = keyed_step is_same_address is_packet source_of settings.flows (outcome settings) OTHER
