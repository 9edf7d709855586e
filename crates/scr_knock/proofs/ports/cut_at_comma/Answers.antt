-- The two parts of a text, by the place of its first comma.
use Rattle.scr_knock.specs.Ports.{is_comma}
use Rattle.scr_knock.proofs.Cuts.{take-at, take-drop-at, before-none, after-none}
use Rattle.scr_knock.proofs.ports.cut_at_comma.Goals as goal

pub returns-in-Some-clause-front : goal.returns-in-Some-clause-front
returns-in-Some-clause-front c = take-at is_comma c.args.text.now c.in-Some.at c.in-Some.ensures

pub returns-in-Some-clause-back : goal.returns-in-Some-clause-back
returns-in-Some-clause-back c = take-drop-at is_comma c.args.text.now c.in-Some.at c.in-Some.ensures

pub returns-in-None-clause-front : goal.returns-in-None-clause-front
returns-in-None-clause-front c = before-none is_comma c.args.text.now c.in-None.ensures

pub returns-in-None-clause-back : goal.returns-in-None-clause-back
returns-in-None-clause-back c = after-none is_comma c.args.text.now c.in-None.ensures
