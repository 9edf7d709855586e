-- A generated capture grows by a record at a time.
use Rattle.std.proofs.Common.{◌≡◌, ℕ, ◌+◌, ◌*◌, ◌%◌, ◌^◌, List, [], ◌∷◌, ◌++◌, length, map, refl, sym, ap, ◌∙◌, append_assoc, add-one, arith}
use Rattle.std.specs.List.{flat_map, range_with_len}
use Rattle.std.proofs.lemmas.List.{append-nil}
use Rattle.std.proofs.lemmas.List.Concat.{flat_map-cons, flat_map-append}
use Rattle.std.proofs.lemmas.List.FromFn.{map-range_with_len_more}
use Rattle.scr_pcap.specs.declared.generated.Sent.{Sent}
use Rattle.scr_pcap.specs.Records.{Record}
use Rattle.scr_pcap.specs.Generated.{drawn, host, place, sent_at, frame_between, frame_of, time_of, record_header, record_bytes, generated_header, generated_record, generated}

pub drawn-none : (start : ℕ) → drawn start 0 ≡ start
unfolding drawn
drawn-none start = refl

pub drawn-more : (start i : ℕ) → drawn start (i + 1) ≡ (drawn start i * 6364136223846793005 + 1442695040888963407) % 2 ^ 64
unfolding drawn
drawn-more start i = rw (add-one i) refl

pub generated-none : (start hosts : ℕ) → generated start 0 hosts ≡ generated_header
unfolding generated
generated-none start hosts = append-nil generated_header

-- record i, from its number
pub generated_record-drawn : (start hosts i number : ℕ) → number ≡ drawn start i
    → generated_record start hosts i ≡ record { time = time_of i; content = frame_of number hosts }
unfolding generated_record
generated_record-drawn start hosts i number e = ap (λ (n : ℕ). record { time = time_of i; content = frame_of n hosts }) (sym e)

pub generated-more : (start hosts i : ℕ) → generated start (i + 1) hosts ≡ generated start i hosts ++ record_bytes (generated_record start hosts (i + 1))
unfolding generated
generated-more start hosts i =
    let f = generated_record start hosts in
    let last : flat_map record_bytes (f (i + 1) ∷ []) ≡ record_bytes (f (i + 1)) = flat_map-cons record_bytes (f (i + 1)) [] ∙ append-nil (record_bytes (f (i + 1))) in
    let more = map-range_with_len_more f 1 i (i + 1) (omega arith) in
    ap (λ (rs : List Record). generated_header ++ flat_map record_bytes rs) more
    ∙ ap (λ (t : List ℕ). generated_header ++ t) (flat_map-append record_bytes (map f (range_with_len 1 i)) (f (i + 1) ∷ []))
    ∙ ap (λ (t : List ℕ). generated_header ++ (flat_map record_bytes (map f (range_with_len 1 i)) ++ t)) last
    ∙ sym (append_assoc generated_header (flat_map record_bytes (map f (range_with_len 1 i))) (record_bytes (f (i + 1))))

-- a header and then the frame are the record
pub record_written : (old middle : List ℕ) (time size client : ℕ) (sent : Sent) (i number hosts : ℕ)
    → middle ≡ old ++ record_header time size → time ≡ time_of i → size ≡ length (frame_between client sent)
    → client ≡ 0x0A000001 + host number hosts → sent ≡ sent_at (place number hosts)
    → middle ++ frame_between client sent ≡ old ++ record_bytes (record { time = time_of i; content = frame_of number hosts })
unfolding record_bytes
record_written old middle time size client sent i number hosts written time-is size-is client-is sent-is =
    let whole : ℕ → Sent → List ℕ = λ c s. old ++ (record_header (time_of i) (length (frame_between c s)) ++ frame_between c s) in
    ap (λ (t : List ℕ). t ++ frame_between client sent) written
    ∙ append_assoc old (record_header time size) (frame_between client sent)
    ∙ ap (λ (t : ℕ). old ++ (record_header t size ++ frame_between client sent)) time-is
    ∙ ap (λ (n : ℕ). old ++ (record_header (time_of i) n ++ frame_between client sent)) size-is
    ∙ ap (λ (c : ℕ). whole c sent) client-is
    ∙ ap (whole (0x0A000001 + host number hosts)) sent-is
