use Rattle.std.proofs.Common.{◌<◌, ◌+◌, ap, sym, ◌∙◌, subst, arith}
use mathlib.Core.Option.{none}
use Rattle.atomic_table.specs.Table.{step}
use Rattle.scr_log.specs.Passes.{LogsOf}
use Rattle.scr_log.proofs.Loads.{loads_last_word}
use Rattle.scr_log.proofs.Looking.{word_read}
use Rattle.scr_log.proofs.logs.Logs.read_last_word.Goals as goal

pub load-requires : goal.load-requires
load-requires c =
    let reading = c.requires.reading in (
      reading.of_these ∙ ap (λ (l : LogsOf). l.table) (sym c.self.view_is),
      subst (λ (l : LogsOf). c.args.at + 7 < l.table.words) (sym c.self.view_is) c.requires.place.within,
      loads_last_word c.self.inside.table.shared.key.plan.value c.self.inside.table.shared.key.slots _ _ _ reading.own _
          (record { core = c.args.core; number = c.args.p }) reading.its_core reading.found,
    )

pub returns-clause-word : goal.returns-clause-word
returns-clause-word c =
    word_read c.args.self.now c.args.seat.now.table_id c.args.seat.now.me c.args.core c.args.p c.args.at 6 _
    (step c.self.inside.table.shared.table_id.slots (c.args.at + 7) 0 0 none)
    c.requires.reading c.requires.place.place (omega arith) (omega arith) c.load.ensures.2.word
