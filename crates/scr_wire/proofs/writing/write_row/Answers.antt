use Rattle.std.proofs.Common.{◌<◌, ◌^◌, ℕ}
use Rattle.std.proofs.lemmas.List.Elements.{recursion_from_All}
use Rattle.scr_base.specs.RowWords.{row_words}
use Rattle.scr_wire.specs.Spelling.{row_bytes, IsRow}
use Rattle.scr_wire.proofs.writing.write_row.Goals as goal

pub returns-clause-written : goal.returns-clause-written
unfolding row_bytes
returns-clause-written c = c.write_words.ensures.written

pub returns-clause-fits : goal.returns-clause-fits
unfolding IsRow
returns-clause-fits c = recursion_from_All (λ (word : ℕ). word < 2 ^ 64) (row_words c.args.row.now) c.write_words.ensures.fits
