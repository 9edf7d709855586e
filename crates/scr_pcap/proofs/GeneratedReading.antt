-- A generated capture is read as its records.
use Rattle.std.proofs.Common.{◌≡◌, ℕ, zero, suc, ◌+◌, ◌/◌, ◌%◌, ◌<◌, ◌≤◌, ◌^◌, List, [], ◌++◌, length, map, drop, Ok, refl, ◌∙◌, arith}
use Rattle.std.specs.List.{flat_map, range_with_len}
use Rattle.std.proofs.lemmas.List.Concat.{flat_map-cons}
use Rattle.std.proofs.lemmas.List.FromFn.{length-map-range_with_len}
use Rattle.byteorder.specs.Endian.{little_bytes, little_number}
use Rattle.byteorder.specs.Numbers.{little_number-reads_back}
use Rattle.scr_pcap.specs.Header.{header_of, format_of}
use Rattle.scr_pcap.specs.Records.{Record, RECORDS, CAPTURED, IsRecord, BeginWith, captured_in}
use Rattle.scr_pcap.specs.Reading.{IsReading}
use Rattle.scr_pcap.specs.Generated.{drawn, frame_of, time_of, sent_at, place, host, record_bytes, generated_header, generated_format, generated_record, generated_records, generated}
use Rattle.scr_pcap.proofs.FirstBytes.{header_of-append}
use Rattle.scr_pcap.proofs.GeneratedFrames.{frame_fits}

-- the header is valid
header-read : header_of generated_header ≡ Ok generated_format
unfolding header_of format_of
header-read = refl

-- a record whose numbers fit is read back
IsRecord-spelled : (r : Record) → r.time / 1000000 < 2 ^ 32 → length r.content ≤ CAPTURED → IsRecord generated_format (record_bytes r) r
unfolding record_bytes
IsRecord-spelled r seconds-fit content-fits =
    let seconds = r.time / 1000000 in
    let micros = r.time % 1000000 in
    let size = length r.content in
    let behind : List ℕ = little_bytes 4 size ++ r.content in
    let captured : captured_in generated_format (record_bytes r) ≡ size = little_number-reads_back 4 size behind (omega arith) in
    let whole-seconds : little_number 4 (record_bytes r) ≡ seconds =
    little_number-reads_back 4 seconds (little_bytes 4 micros ++ little_bytes 4 size ++ behind) seconds-fit in
    let whole-micros : little_number 4 (drop 4 (record_bytes r)) ≡ micros =
    little_number-reads_back 4 micros (little_bytes 4 size ++ behind) (omega arith) in
    let count : length (record_bytes r) ≡ 16 + size = omega arith in
    record {
      whole = omega arith;
      within = omega arith;
      time = omega arith;
      content = refl;
    }

-- each record of a generated capture has numbers that fit
IsRecord-generated : (start hosts i : ℕ) → i ≤ RECORDS → IsRecord generated_format (record_bytes (generated_record start hosts i)) (generated_record start hosts i)
unfolding generated_record
IsRecord-generated start hosts i few =
    let number = drawn start i in
    let small = frame_fits (0x0A000001 + host number hosts) (sent_at (place number hosts)) in
    IsRecord-spelled (record { time = time_of i; content = frame_of number hosts }) (omega arith) (omega arith)

-- records from number a on stand behind each other
BeginWith-generated : (start hosts a n : ℕ) → a + n ≤ RECORDS + 1
    → BeginWith generated_format (map (generated_record start hosts) (range_with_len a n)) (flat_map record_bytes (map (generated_record start hosts) (range_with_len a n))) []
BeginWith-generated start hosts a zero few = refl
BeginWith-generated start hosts a (suc n) few = (
  record_bytes (generated_record start hosts a),
  flat_map record_bytes (map (generated_record start hosts) (range_with_len (a + 1) n)),
  flat_map-cons record_bytes (generated_record start hosts a) (map (generated_record start hosts) (range_with_len (a + 1) n)),
  IsRecord-generated start hosts a (omega arith),
  BeginWith-generated start hosts (a + 1) n (omega arith),
)

-- there are as many records as were asked for
pub length-generated_records : (start frames hosts : ℕ) → length (generated_records start frames hosts) ≡ frames
length-generated_records start frames hosts = length-map-range_with_len (generated_record start hosts) 1 frames

-- the reading of a generated capture is its records
pub IsReading-generated : (start frames hosts : ℕ) → frames ≤ RECORDS → IsReading (generated start frames hosts) (Ok (generated_records start frames hosts))
unfolding generated
IsReading-generated start frames hosts few =
    let count = length-generated_records start frames hosts in
    record {
      format = generated_format;
      header = header_of-append generated_header (flat_map record_bytes (generated_records start frames hosts)) (omega arith) ∙ header-read;
      few = omega arith;
      spelled = BeginWith-generated start hosts 1 frames (omega arith);
    }
