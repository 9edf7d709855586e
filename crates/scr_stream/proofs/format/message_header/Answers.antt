use Rattle.std.proofs.Common.{[], sym, ◌∙◌, refl}
use Rattle.std.proofs.lemmas.List.{append-nil}
use Rattle.scr_wire.proofs.Written.{header_written}
use Rattle.scr_stream.proofs.format.message_header.Goals as goal

pub returns : goal.returns
returns c =
    sym (append-nil _)
    ∙ header_written _ [] c.args.kind c.args.number c.args.count c.code_of.result c.to_be_bytes.result c.to_be_bytes-2.result
    refl c.code_of.ensures c.to_be_bytes.ensures c.to_be_bytes-2.ensures
    ∙ append-nil _
