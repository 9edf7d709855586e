use Rattle.std.proofs.Common.{ap, sym, ◌∙◌, ◌≤◌, ◌-◌, ℕ, arith, length-take}
use Rattle.scr_base.specs.Standard.{ReadAhead}
use Rattle.scr_base.proofs.Reading.{front-of_range}
use Rattle.scr_base.proofs.standard.ReaderSource.give.Goals as goal

pub returns-clause-bytes : goal.returns-clause-bytes
returns-clause-bytes g c =
    let within : c.copy_front-count.result ≤ c.self.inside.end - c.self.inside.start = omega (arith, length-take {A = ℕ}) in
    sym (ap (λ (source : ReadAhead). source.held) c.self.view_is)
    ∙ front-of_range c.copy_front-count.result c.self.inside.start c.self.inside.end c.self.inside.bytes c.copy_front-count.new.to within c.copy_front-count.ensures.front
