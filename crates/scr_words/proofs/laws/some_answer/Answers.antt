use Rattle.scr_words.proofs.SomeAnswer.{some_answer}
use Rattle.scr_words.proofs.laws.some_answer.Goals as goal

pub returns : goal.returns
returns c = some_answer
