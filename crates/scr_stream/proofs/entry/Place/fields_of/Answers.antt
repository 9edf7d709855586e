use Rattle.std.proofs.Common.{ℕ, ap, sym, ◌∙◌, arith}
use Rattle.scr_wire.specs.declared.message.Message.TheVariants.{End}
use Rattle.scr_wire.specs.Spelling.{spelling}
use Rattle.scr_stream.proofs.EndRead.{end-spelled}
use Rattle.scr_stream.proofs.entry.Place.fields_of.Goals as goal

pub returns-clause-spelled : goal.returns-clause-spelled
returns-clause-spelled c = λ is.
    let few = c.requires.few in
    let enough = c.if-header-lt-HEADER.false in
    end-spelled c.args.header.now (omega arith) c.in_ok-test_message.ensures.answer (sym c.fields_in-fields.ensures.kind ∙ is) (λ i. omega (arith, c.type_inv.header i))
    ∙ ap (λ (n : ℕ). spelling (End n)) (sym c.fields_in-fields.ensures.number)
