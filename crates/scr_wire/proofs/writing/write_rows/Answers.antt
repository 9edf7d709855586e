use Rattle.std.proofs.lemmas.List.Elements.{All-more}
use Rattle.scr_wire.specs.Spelling.{IsRow}
use Rattle.scr_wire.proofs.Written.{row_written}
use Rattle.scr_wire.proofs.writing.write_rows.Goals as goal

pub loop-i-preserved : goal.loop-i-preserved
loop-i-preserved c = (
  row_written c.args.rows.now c.loop-i.i _ c.args.out.now c.loop-i.out c.write_row.new.out c.loop-i-test.true c.requires c.loop-i.auto.out c.loop-i.invariant.0 c.write_row.ensures.written,
  All-more IsRow c.args.rows.now c.loop-i.i _ c.loop-i-test.true c.loop-i.invariant.1 c.write_row.ensures.fits,
)
