use Rattle.scr_words.proofs.OneAnswer.{one_answer}
use Rattle.scr_words.proofs.laws.one_answer.Goals as goal

pub returns : goal.returns
returns c = one_answer
