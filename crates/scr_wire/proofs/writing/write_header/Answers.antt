use Rattle.std.proofs.Common.{drop}
use Rattle.scr_wire.proofs.Written.{header_written}
use Rattle.scr_wire.proofs.writing.write_header.Goals as goal

pub returns : goal.returns
returns c =
    header_written c.copy_from_slice.new.self (drop 10 c.args.out.now) c.args.kind c.args.number c.args.count c.code.result c.to_be_bytes.result c.to_be_bytes-2.result
    c.copy_from_slice.ensures.after c.code.ensures c.to_be_bytes.ensures c.to_be_bytes-2.ensures
