use Rattle.scr_report.proofs.writing.put_core.Goals as goal

pub returns-clause-text : goal.returns-clause-text
returns-clause-text g c =
    rw (← c.into.ensures, ← c.into-2.ensures, ← c.into-3.ensures, ← c.into-4.ensures) c.put_pieces.ensures.text
