-- The token bucket: each flow has a bucket that fills with time, and a packet passes where it can take a token.
use Rattle.std.specs.Prelude.{ℕ, ◌+◌, ◌-◌, ◌*◌, min, max, List, Option, Some, None, nat_le, if◌then◌else◌}
use Rattle.scr_base.specs.declared.row.Row.{Row}
use Rattle.scr_base.specs.declared.row.Verdict.{Verdict}
use Rattle.scr_program.specs.declared.fields.Fields.{Fields}
use Rattle.scr_program.specs.declared.key.FiveTuple.{FiveTuple}
use Rattle.scr_program.specs.Keyed.{keyed_step}
use Rattle.scr_program.specs.Keys.{is_same_tuple, five_tuple_of}
use Rattle.scr_program.specs.Kinds.{is_packet}
use Rattle.scr_program.specs.Verdicts.{PASS, DROP, OTHER}
use Rattle.scr_bucket.specs.declared.settings.BucketSettings.{BucketSettings}
use Rattle.scr_bucket.specs.declared.tokens.Tokens.{Tokens}

-- one token, in millionths
abbrev pub TOKEN : ℕ
TOKEN = 1000000

-- what a full bucket holds, in millionths of a token
abbrev pub full : BucketSettings → ℕ
full settings = settings.burst * TOKEN

-- the microseconds from one time to another, and 0 where time went back: `-` gives no less
abbrev pub elapsed : ℕ → ℕ → ℕ
elapsed last time = time - last

-- The bucket when a packet comes at this time. That of a new flow is full. Else it gained `rate` millionths in each
-- microsecond, up to a full bucket; of two times it keeps the greater.
abbrev pub filled : BucketSettings → Option Tokens → ℕ → Tokens
filled settings None time = record { held = full settings; time = time }
filled settings (Some last) time = record {
  held = min (full settings) (last.held + elapsed last.time time * settings.rate);
  time = max last.time time;
}

-- the bucket when the packet has taken its token, if there was one, and the packet's verdict
abbrev pub taken : Tokens → Tokens × Verdict
taken tokens = if nat_le TOKEN tokens.held then (record tokens { held = tokens.held - TOKEN }, PASS) else (tokens, DROP)

-- the bucket that a packet leaves its flow, and its verdict
abbrev pub outcome : BucketSettings → Option Tokens → Fields → Option Tokens × Verdict
outcome settings known fields =
    let after = taken (filled settings known fields.time) in
    (Some after.0, after.1)

-- the buckets after the row of the next packet, and its verdict
abbrev pub step : BucketSettings → List (FiveTuple × Tokens) → Row → List (FiveTuple × Tokens) × Verdict
step settings = keyed_step is_same_tuple is_packet five_tuple_of settings.flows (outcome settings) OTHER
