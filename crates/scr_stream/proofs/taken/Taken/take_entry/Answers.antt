use Rattle.std.proofs.Common.{◌≡◌, ◌+◌, ◌*◌, ℕ, take, ap, sym, ◌∙◌, arith}
use Rattle.std.proofs.lemmas.Result.{err_from_is_err_and}
use Rattle.scr_pcap.proofs.Told.{IsReadInFront-from_fill}
use Rattle.scr_wire.specs.declared.message.MessageKind.TheVariants.{Frame, End}
use Rattle.scr_stream.specs.Tests.{kind_in, header_fault}
use Rattle.scr_stream.specs.Taken.{longest_entry}
use Rattle.scr_stream.proofs.EndRead.{end-placed}
use Rattle.scr_stream.proofs.EntryRead.{header-told, kind-end, IsEntryHeader-from_fill, frame-refused, frame-taken, trailing-told, end-told, counts-error, counts-value, some-nothing}
use Rattle.scr_stream.proofs.FrameTaken.{frame-header}
use Rattle.scr_stream.proofs.Reach.{gives-taken, gives-then}
use Rattle.scr_stream.proofs.taken.Taken.take_entry.Goals as goal

pub returns-in_err-fields-clause-refused : goal.returns-in_err-fields-clause-refused
returns-in_err-fields-clause-refused g c =
    let filled = c.in_ok-count.ensures in
    let read = IsReadInFront-from_fill _ _ c.fill.new.buf c.in_ok-count.count 10 c.fill.auto.buf filled.within filled.taken filled.end in
    let p = err_from_is_err_and c.from_residual-in_err-fields.result c.from_residual-in_err-fields.ensures.1 in
    rw (p.1, p.2)
    (header-told c.args.history c.args.self.now.rows.items c.args.self.now.missing.items c.args.self.now.frames _ _ (take c.in_ok-count.count c.fill.new.buf) _ read
    (ap (λ (n : ℕ). header_fault c.args.history (c.args.self.now.frames + 1) n (take c.in_ok-count.count c.fill.new.buf)) (sym c.last.ensures) ∙ c.in_err-fields.ensures.refused))

pub take_frame-requires-clause-header : goal.take_frame-requires-clause-header
take_frame-requires-clause-header g c =
    let filled = c.in_ok-count.ensures in
    let read = IsReadInFront-from_fill _ _ c.fill.new.buf c.in_ok-count.count 10 c.fill.auto.buf filled.within filled.taken filled.end in
    let it = IsEntryHeader-from_fill c.args.history c.args.self.now.rows.items c.args.self.now.frames c.last.result _ _ (take c.in_ok-count.count c.fill.new.buf)
    c.last.ensures read c.in_ok-fields.ensures.passed in
    let kind-is : kind_in (take c.in_ok-count.count c.fill.new.buf) ≡ Frame = sym c.in_ok-fields.ensures.kind ∙ c.in-Frame.is in
    frame-header c.args.history _ _ (take c.in_ok-count.count c.fill.new.buf) it.ten c.requires.short_history it.passed kind-is

pub returns-in_err-take_frame-in-Frame-clause-refused : goal.returns-in_err-take_frame-in-Frame-clause-refused
returns-in_err-take_frame-in-Frame-clause-refused g c =
    let filled = c.in_ok-count.ensures in
    let read = IsReadInFront-from_fill _ _ c.fill.new.buf c.in_ok-count.count 10 c.fill.auto.buf filled.within filled.taken filled.end in
    let it = IsEntryHeader-from_fill c.args.history c.args.self.now.rows.items c.args.self.now.frames c.last.result _ _ (take c.in_ok-count.count c.fill.new.buf)
    c.last.ensures read c.in_ok-fields.ensures.passed in
    let p = err_from_is_err_and c.from_residual-in_err-take_frame-in-Frame.result c.from_residual-in_err-take_frame-in-Frame.ensures.1 in
    rw (p.1, p.2)
    (frame-refused c.args.history c.args.self.now.rows.items c.args.self.now.missing.items c.args.self.now.frames _ _ (take c.in_ok-count.count c.fill.new.buf) _ it
    c.in_err-take_frame-in-Frame.ensures.refused)

pub returns-in_err-take_frame-in-Frame-clause-few : goal.returns-in_err-take_frame-in-Frame-clause-few
returns-in_err-take_frame-in-Frame-clause-few g c =
    let filled = c.in_ok-count.ensures in
    let read = IsReadInFront-from_fill _ _ c.fill.new.buf c.in_ok-count.count 10 c.fill.auto.buf filled.within filled.taken filled.end in
    let it = IsEntryHeader-from_fill c.args.history c.args.self.now.rows.items c.args.self.now.frames c.last.result _ _ (take c.in_ok-count.count c.fill.new.buf)
    c.last.ensures read c.in_ok-fields.ensures.passed in
    let kind-is : kind_in (take c.in_ok-count.count c.fill.new.buf) ≡ Frame = sym c.in_ok-fields.ensures.kind ∙ c.in-Frame.is in
    let frame = frame-header c.args.history _ _ (take c.in_ok-count.count c.fill.new.buf) it.ten c.requires.short_history it.passed kind-is in
    let few = frame.few_rows in
    let count = c.in_ok-fields.ensures.count in
    gives-then 10 (56 * c.in_ok-fields.fields.count) longest_entry _ _ _ (gives-taken 10 _ _ (take c.in_ok-count.count c.fill.new.buf) it.taken read.within)
    c.in_err-take_frame-in-Frame.ensures.few (omega arith)

pub returns-in_ok-take_frame-in-Frame-clause-few : goal.returns-in_ok-take_frame-in-Frame-clause-few
returns-in_ok-take_frame-in-Frame-clause-few g c =
    let filled = c.in_ok-count.ensures in
    let read = IsReadInFront-from_fill _ _ c.fill.new.buf c.in_ok-count.count 10 c.fill.auto.buf filled.within filled.taken filled.end in
    let it = IsEntryHeader-from_fill c.args.history c.args.self.now.rows.items c.args.self.now.frames c.last.result _ _ (take c.in_ok-count.count c.fill.new.buf)
    c.last.ensures read c.in_ok-fields.ensures.passed in
    let kind-is : kind_in (take c.in_ok-count.count c.fill.new.buf) ≡ Frame = sym c.in_ok-fields.ensures.kind ∙ c.in-Frame.is in
    let frame = frame-header c.args.history _ _ (take c.in_ok-count.count c.fill.new.buf) it.ten c.requires.short_history it.passed kind-is in
    let few = frame.few_rows in
    let count = c.in_ok-fields.ensures.count in
    gives-then 10 (56 * c.in_ok-fields.fields.count) longest_entry _ _ _ (gives-taken 10 _ _ (take c.in_ok-count.count c.fill.new.buf) it.taken read.within)
    c.in_ok-take_frame-in-Frame.ensures.few (omega arith)

pub returns-in_err-take_end-in_default : goal.returns-in_err-take_end-in_default
returns-in_err-take_end-in_default g c =
    let filled = c.in_ok-count.ensures in
    let read = IsReadInFront-from_fill _ _ c.fill.new.buf c.in_ok-count.count 10 c.fill.auto.buf filled.within filled.taken filled.end in
    let it = IsEntryHeader-from_fill c.args.history c.args.self.now.rows.items c.args.self.now.frames c.last.result _ _ (take c.in_ok-count.count c.fill.new.buf)
    c.last.ensures read c.in_ok-fields.ensures.passed in
    let kind-is : kind_in (take c.in_ok-count.count c.fill.new.buf) ≡ End =
    kind-end c.args.history _ _ (take c.in_ok-count.count c.fill.new.buf) it.ten it.passed (λ is. c.in_default.not-Frame (c.in_ok-fields.ensures.kind ∙ is)) in
    let p = err_from_is_err_and c.from_residual-in_err-take_end-in_default.result c.from_residual-in_err-take_end-in_default.ensures.1 in
    rw (p.1, p.2)
    (record {
      taken = tt;
      refused = trailing-told c.args.history c.args.self.now.rows.items c.args.self.now.missing.items c.args.self.now.frames _ _ (take c.in_ok-count.count c.fill.new.buf) _ it kind-is
          c.in_err-take_end-in_default.ensures.followed;
      few = gives-then 10 1 longest_entry _ _ _ (gives-taken 10 _ _ (take c.in_ok-count.count c.fill.new.buf) it.taken read.within)
          c.in_err-take_end-in_default.ensures.few (omega arith);
      counts = counts-error g.S.Source.faults c.args.source.now c.fill.new.source c.take_end.new.source _ filled.cause.ok c.in_err-take_end-in_default.ensures.counts;
    })

pub pass_to-requires : goal.pass_to-requires
pass_to-requires g c =
    let filled = c.in_ok-count.ensures in
    let read = IsReadInFront-from_fill _ _ c.fill.new.buf c.in_ok-count.count 10 c.fill.auto.buf filled.within filled.taken filled.end in
    let it = IsEntryHeader-from_fill c.args.history c.args.self.now.rows.items c.args.self.now.frames c.last.result _ _ (take c.in_ok-count.count c.fill.new.buf)
    c.last.ensures read c.in_ok-fields.ensures.passed in
    let kind-is : kind_in (take c.in_ok-count.count c.fill.new.buf) ≡ End =
    kind-end c.args.history _ _ (take c.in_ok-count.count c.fill.new.buf) it.ten it.passed (λ is. c.in_default.not-Frame (c.in_ok-fields.ensures.kind ∙ is)) in
    let placed = end-placed c.args.history _ _ (take c.in_ok-count.count c.fill.new.buf) it.ten it.passed kind-is in
    let number = c.in_ok-fields.ensures.number in
    record { later = omega (arith, placed.1); few = omega (arith, placed.0) }

pub returns-in_ok-take_frame-in-Frame-clause-taken : goal.returns-in_ok-take_frame-in-Frame-clause-taken
returns-in_ok-take_frame-in-Frame-clause-taken g c =
    let filled = c.in_ok-count.ensures in
    let read = IsReadInFront-from_fill _ _ c.fill.new.buf c.in_ok-count.count 10 c.fill.auto.buf filled.within filled.taken filled.end in
    let it = IsEntryHeader-from_fill c.args.history c.args.self.now.rows.items c.args.self.now.frames c.last.result _ _ (take c.in_ok-count.count c.fill.new.buf)
    c.last.ensures read c.in_ok-fields.ensures.passed in
    frame-taken c.args.history c.args.self.now.rows.items c.args.self.now.missing.items c.args.self.now.frames _ _ _ (take c.in_ok-count.count c.fill.new.buf) _ _ _ it
    c.in_ok-take_frame-in-Frame.ensures.taken

pub returns-in_ok-pass_to-in_default : goal.returns-in_ok-pass_to-in_default
returns-in_ok-pass_to-in_default g c =
    let filled = c.in_ok-count.ensures in
    let read = IsReadInFront-from_fill _ _ c.fill.new.buf c.in_ok-count.count 10 c.fill.auto.buf filled.within filled.taken filled.end in
    let it = IsEntryHeader-from_fill c.args.history c.args.self.now.rows.items c.args.self.now.frames c.last.result _ _ (take c.in_ok-count.count c.fill.new.buf)
    c.last.ensures read c.in_ok-fields.ensures.passed in
    let kind-is : kind_in (take c.in_ok-count.count c.fill.new.buf) ≡ End =
    kind-end c.args.history _ _ (take c.in_ok-count.count c.fill.new.buf) it.ten it.passed (λ is. c.in_default.not-Frame (c.in_ok-fields.ensures.kind ∙ is)) in
    let behind = c.in_ok-take_end-in_default.ensures in
    record {
      taken = end-told c.args.history c.args.self.now.rows.items c.args.self.now.missing.items c.args.self.now.frames _ _ _ (take c.in_ok-count.count c.fill.new.buf)
          c.in_ok-fields.fields.number _ _ it kind-is c.in_ok-fields.ensures.number (c.in_ok-fields.ensures.spelled (c.in_ok-fields.ensures.kind ∙ kind-is))
          behind.few behind.end.0 behind.end.1 c.in_ok-pass_to-in_default.ensures.rows c.in_ok-pass_to-in_default.ensures.missing;
      refused = some-nothing _;
      few = gives-then 10 1 longest_entry _ _ _ (gives-taken 10 _ _ (take c.in_ok-count.count c.fill.new.buf) it.taken read.within) behind.few (omega arith);
      counts = counts-value g.S.Source.faults c.args.source.now c.fill.new.source c.take_end.new.source _ _ filled.cause.ok behind.counts;
    }
