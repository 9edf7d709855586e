use Rattle.std.proofs.Common.{◌≡◌, ℕ, ◌+◌, ◌*◌, ◌%◌, ◌^◌, List, ◌++◌, Ok, sym, ap, ◌∙◌, subst, arith}
use Rattle.scr_pcap.specs.Records.{Record}
use Rattle.scr_pcap.specs.Reading.{IsReading}
use Rattle.scr_pcap.specs.Generated.{drawn, record_bytes, generated_header, generated, generated_record, generated_records}
use Rattle.scr_pcap.proofs.GeneratedRecords.{drawn-none, drawn-more, generated-none, generated-more, generated_record-drawn}
use Rattle.scr_pcap.proofs.GeneratedReading.{IsReading-generated}
use Rattle.scr_pcap.proofs.generated.generate.Goals as goal

pub loop-i-init : goal.loop-i-init
loop-i-init c = (
  sym (drawn-none c.args.start),
  c.in_ok-extend_from_slice.ensures.items ∙ ap (λ (t : List ℕ). t ++ generated_header) c.in_ok-bytes.ensures.items ∙ sym (generated-none c.args.start c.args.hosts),
)

pub loop-i-preserved : goal.loop-i-preserved
loop-i-preserved c =
    let start = c.args.start in
    let hosts = c.args.hosts in
    let i = c.loop-i.i in
    let number : c.next-number.result ≡ drawn start (i + 1) =
    c.next-number.ensures ∙ ap (λ (n : ℕ). (n * 6364136223846793005 + 1442695040888963407) % 2 ^ 64) c.loop-i.invariant.0 ∙ sym (drawn-more start i) in (
      number,
      c.in_ok-put_record.ensures
          ∙ ap (λ (r : Record). c.loop-i.bytes.items ++ record_bytes r) (sym (generated_record-drawn start hosts (i + 1) c.next-number.result number))
          ∙ ap (λ (t : List ℕ). t ++ record_bytes (generated_record start hosts (i + 1))) c.loop-i.invariant.1
          ∙ sym (generated-more start hosts i),
    )

pub returns-clause-reading : goal.returns-clause-reading
returns-clause-reading c =
    let all : c.loop-i.i ≡ c.args.frames = omega arith in
    let records = generated_records c.args.start c.args.frames c.args.hosts in
    let whole : generated c.args.start c.args.frames c.args.hosts ≡ c.loop-i.bytes.items =
    ap (λ (n : ℕ). generated c.args.start n c.args.hosts) (sym all) ∙ sym c.loop-i.invariant.1 in
    subst (λ (t : List ℕ). IsReading t (Ok records)) whole (IsReading-generated c.args.start c.args.frames c.args.hosts c.requires.few_frames)
