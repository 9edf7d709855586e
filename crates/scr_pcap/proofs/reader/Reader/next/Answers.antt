use Rattle.std.proofs.Common.{◌≡◌, ◌+◌, ap, sym, subst, Some, ◌∙◌}
use Rattle.scr_pcap.specs.State.{ReaderState, reach}
use Rattle.scr_pcap.specs.Taken.{GivesAtMost}
use Rattle.scr_pcap.specs.declared.reader.Progress.TheVariants.{Reading, Refused}
use Rattle.scr_pcap.proofs.Sizes.{reach-record, reach-refused}
use Rattle.scr_pcap.proofs.reader.Reader.next.Goals as goal

pub returns-in-Ok-Some-clause-reach : goal.returns-in-Ok-Some-clause-reach
returns-in-Ok-Some-clause-reach g c =
    let reading : c.args.self.now.progress ≡ Reading = sym (ap (λ (reader : ReaderState). reader.progress) c.self.view_is) ∙ c.in-Reading.is in
    let some : c.in-Ok-Some.field-0 ≡ Some c.in-Ok-Some.field-0-0 = rw c.in-Ok-Some.is at c.in-Ok-Some.field-0-is in
    let record_taken = rw (c.in-Ok-Some.is, some) at c.take_record-next.ensures.record in
    λ start before.
    let P : ReaderState → Type 0 = λ reader. GivesAtMost (reach (record reader { taken = reader.taken + 1 })) start (g.S.Source.left c.take_record-next.new.source) in
    subst P (sym c.self.view_is) (reach-record c.args.self.now start _ _ _ reading record_taken.3 before)

pub returns-in-Err-clause-reach : goal.returns-in-Err-clause-reach
returns-in-Err-clause-reach g c =
    let reading : c.args.self.now.progress ≡ Reading = sym (ap (λ (reader : ReaderState). reader.progress) c.self.view_is) ∙ c.in-Reading.is in
    λ start before.
    let P : ReaderState → Type 0 = λ reader. GivesAtMost (reach (record reader { progress = Refused c.in-Err.error })) start (g.S.Source.left c.take_record-next.new.source) in
    subst P (sym c.self.view_is) (reach-refused _ c.args.self.now start _ _ c.in-Err.error reading c.in-Err.ensures.takes before)
