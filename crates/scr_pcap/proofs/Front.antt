-- A record in front, and when there is none.
use Rattle.std.proofs.Common.{◌≡◌, ℕ, ◌+◌, ◌≤◌, ◌<◌, List, ◌++◌, length, sym, subst, arith}
use Rattle.std.proofs.lemmas.List.{drop_at, length-append}
use Rattle.scr_pcap.specs.declared.format.Format.{Format}
use Rattle.scr_pcap.specs.Records.{Record, CAPTURED, IsRecord, NoRecord, time_in, captured_in}
use Rattle.scr_pcap.proofs.FirstBytes.{captured_in-append, time_in-append}

-- what a record in front tells of the whole
pub record IsFront (format : Format) (bytes : List ℕ) : Type 0 where
  pub header : 16 ≤ length bytes
  pub within : captured_in format bytes ≤ CAPTURED
  pub whole : 16 + captured_in format bytes ≤ length bytes

pub IsFront-from_record : (format : Format) (bytes first behind : List ℕ) (r : Record) → bytes ≡ first ++ behind → IsRecord format first r → IsFront format bytes
IsFront-from_record format bytes first behind r parts front =
    let whole = front.whole in
    let within = front.within in
    let count = length-append first behind in
    let header : 16 ≤ length first = omega arith in
    let captured = captured_in-append format first behind header in
    subst (IsFront format) (sym parts) (record { header = omega arith; within = omega arith; whole = omega arith })

pub NoRecord-without_front : (format : Format) (bytes : List ℕ) → (IsFront format bytes → ⊥) → NoRecord format bytes
NoRecord-without_front format bytes none = λ r first behind parts front. none (IsFront-from_record format bytes first behind r parts front)

-- fewer bytes than a header
pub NoRecord-from_short : (format : Format) (bytes : List ℕ) → length bytes < 16 → NoRecord format bytes
NoRecord-from_short format bytes h = NoRecord-without_front format bytes (λ front. let enough = front.header in omega arith)

-- a captured length that is too great
pub NoRecord-from_long : (format : Format) (bytes : List ℕ) → CAPTURED < captured_in format bytes → NoRecord format bytes
NoRecord-from_long format bytes h = NoRecord-without_front format bytes (λ front. let within = front.within in omega arith)

-- fewer bytes than the captured length says
pub NoRecord-from_cut : (format : Format) (bytes : List ℕ) → length bytes < 16 + captured_in format bytes → NoRecord format bytes
NoRecord-from_cut format bytes h = NoRecord-without_front format bytes (λ front. let whole = front.whole in omega arith)

-- a header and as many bytes as it tells are a record
pub IsRecord-joined : (format : Format) (header content : List ℕ) → length header ≡ 16 → length content ≡ captured_in format header → captured_in format header ≤ CAPTURED
    → IsRecord format (header ++ content) (record { time = time_in format header; content = content })
IsRecord-joined format header content sixteen all within =
    let enough : 16 ≤ length header = omega arith in
    let captured = captured_in-append format header content enough in
    let count = length-append header content in
    record {
      whole = omega arith;
      within = omega arith;
      time = sym (time_in-append format header content enough);
      content = sym (drop_at header content 16 sixteen);
    }
