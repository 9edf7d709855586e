-- The guard of a port: it counts the packets of each source to one port, and drops those past a number.
use Rattle.std.specs.Prelude.{ℕ, ◌+◌, ◌-◌, ◌^◌, ◌==◌, min, Option, Some, None, unwrap_or, nat_lt, if◌then◌else◌}
use Rattle.scr_base.specs.declared.row.Verdict.{Verdict}
use Rattle.scr_program.specs.declared.fields.Fields.{Fields}
use Rattle.scr_program.specs.Rows.{no_fields}
use Rattle.scr_program.specs.Verdicts.{PASS, DROP}
use Rattle.scr_embed.specs.declared.settings.PortSettings.{PortSettings}

-- the fields that the guard keeps of TCP and UDP: the rest is 0
abbrev pub fields_kept : Fields → Fields
fields_kept fields = record no_fields {
  source = fields.source;
  destination = record { family = fields.source.family; value = 0 };
  destination_port = fields.destination_port;
  kind = fields.kind;
}

-- the count of a source when one more of its packets has come; it stops at the last number of 64 bits
abbrev pub count_with : Option ℕ → ℕ
count_with known = min (unwrap_or known 0 + 1) (2 ^ 64 - 1)

-- the count that a packet leaves its source, or none where it goes to another port, and its verdict
abbrev pub outcome : PortSettings → Option ℕ → Fields → Option ℕ × Verdict
outcome settings known fields =
    let count = count_with known in
    if fields.destination_port == settings.port then (Some count, if nat_lt settings.most count then DROP else PASS) else (None, PASS)
