use Rattle.std.proofs.Common.{◌≡◌, ◌+◌, ◌*◌, ℕ, drop, subst, sym, ap, ◌∙◌, arith}
use Rattle.scr_wire.specs.Reading.{count_in}
use Rattle.scr_wire.specs.Refusals.{refusal}
use Rattle.scr_wire.specs.Spelling.{Spells}
use Rattle.scr_stream.proofs.FrameRead.{read-whole, read-short, frame-numbers, cut-refused, frame-reads, added-told, added-refused}
use Rattle.scr_stream.proofs.taken.Taken.take_frame.Goals as goal

-- how many bytes the frame has
abbrev size_of : (count : ℕ) → ℕ
size_of count = 10 + 56 * count

pub returns-then-filled-size-clause-refused : goal.returns-then-filled-size-clause-refused
returns-then-filled-size-clause-refused g c =
    let header = c.requires.header in
    let few = header.few_rows in
    let room = c.requires.room in
    let count : c.from.result ≡ count_in c.args.header.now = c.from.ensures ∙ c.requires.count in
    let short = read-short (size_of c.from.result) c.in_ok-filled.filled c.args.buffer.now c.fill_behind.new.buffer (omega arith) c.if-filled-size.true in
    cut-refused _ c.args.self.now.frames c.args.self.now.rows.items c.args.self.now.missing.items c.args.header.now _ _ _ header c.in_ok-filled.ensures.filled
    (omega (arith, short.0)) (c.in_ok-filled.ensures.end short.1)

pub add-requires-clause-later : goal.add-requires-clause-later
add-requires-clause-later g c =
    let header = c.requires.header in
    let few = header.few_rows in
    let room = c.requires.room in
    let count : c.from.result ≡ count_in c.args.header.now = c.from.ensures ∙ c.requires.count in
    let whole = read-whole (size_of c.from.result) c.in_ok-filled.filled c.args.buffer.now c.fill_behind.new.buffer (drop (size_of c.from.result) c.args.buffer.now)
    (omega arith) c.fill_behind.auto.buffer c.in_ok-filled.ensures.most c.if-filled-size.false in
    (frame-numbers _ c.args.header.now _ _ _ c.in-Ok.frame header c.in_ok-filled.ensures.filled (subst (Spells c.in-Ok.frame) whole.0 c.in-Ok.ensures.shown)).0

pub add-requires-clause-few : goal.add-requires-clause-few
add-requires-clause-few g c =
    let header = c.requires.header in
    let few = header.few_rows in
    let room = c.requires.room in
    let count : c.from.result ≡ count_in c.args.header.now = c.from.ensures ∙ c.requires.count in
    let whole = read-whole (size_of c.from.result) c.in_ok-filled.filled c.args.buffer.now c.fill_behind.new.buffer (drop (size_of c.from.result) c.args.buffer.now)
    (omega arith) c.fill_behind.auto.buffer c.in_ok-filled.ensures.most c.if-filled-size.false in
    (frame-numbers _ c.args.header.now _ _ _ c.in-Ok.frame header c.in_ok-filled.ensures.filled (subst (Spells c.in-Ok.frame) whole.0 c.in-Ok.ensures.shown)).1

pub returns-in-Ok-clause-taken : goal.returns-in-Ok-clause-taken
returns-in-Ok-clause-taken g c =
    let header = c.requires.header in
    let few = header.few_rows in
    let room = c.requires.room in
    let count : c.from.result ≡ count_in c.args.header.now = c.from.ensures ∙ c.requires.count in
    let whole = read-whole (size_of c.from.result) c.in_ok-filled.filled c.args.buffer.now c.fill_behind.new.buffer (drop (size_of c.from.result) c.args.buffer.now)
    (omega arith) c.fill_behind.auto.buffer c.in_ok-filled.ensures.most c.if-filled-size.false in
    added-told c.add.result _ c.args.header.now _ _ _ c.in-Ok.frame _ _ _ _ _ _ header c.in_ok-filled.ensures.filled
    (subst (Spells c.in-Ok.frame) whole.0 c.in-Ok.ensures.shown) c.add.ensures.added

pub returns-in-Ok-clause-refused : goal.returns-in-Ok-clause-refused
returns-in-Ok-clause-refused g c =
    let header = c.requires.header in
    let few = header.few_rows in
    let room = c.requires.room in
    let count : c.from.result ≡ count_in c.args.header.now = c.from.ensures ∙ c.requires.count in
    let whole = read-whole (size_of c.from.result) c.in_ok-filled.filled c.args.buffer.now c.fill_behind.new.buffer (drop (size_of c.from.result) c.args.buffer.now)
    (omega arith) c.fill_behind.auto.buffer c.in_ok-filled.ensures.most c.if-filled-size.false in
    added-refused c.add.result _ c.args.header.now _ _ _ c.in-Ok.frame _ _ _ header c.in_ok-filled.ensures.filled (omega (arith, whole.1))
    (subst (Spells c.in-Ok.frame) whole.0 c.in-Ok.ensures.shown) c.add.ensures.refused

pub returns-in-Err-clause-refused : goal.returns-in-Err-clause-refused
returns-in-Err-clause-refused g c =
    let header = c.requires.header in
    let few = header.few_rows in
    let room = c.requires.room in
    let count : c.from.result ≡ count_in c.args.header.now = c.from.ensures ∙ c.requires.count in
    let whole = read-whole (size_of c.from.result) c.in_ok-filled.filled c.args.buffer.now c.fill_behind.new.buffer (drop (size_of c.from.result) c.args.buffer.now)
    (omega arith) c.fill_behind.auto.buffer c.in_ok-filled.ensures.most c.if-filled-size.false in
    absurd (frame-reads _ c.args.header.now _ _ _ c.in-Err.cause header c.in_ok-filled.ensures.filled (omega (arith, whole.1)) (ap refusal (sym whole.0) ∙ c.in-Err.ensures.refused))
