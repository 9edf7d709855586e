use Rattle.scr_words.proofs.word_line.put_cause.Goals as goal

pub returns-in-UnknownName-clause-text : goal.returns-in-UnknownName-clause-text
returns-in-UnknownName-clause-text g c = rw c.in-UnknownName.is c.put-in-UnknownName.ensures.text
