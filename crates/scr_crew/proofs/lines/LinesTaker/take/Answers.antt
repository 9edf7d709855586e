use Rattle.std.proofs.Common.{◌≡◌, ◌+◌, ◌<◌, ◌++◌, [], ℕ, List, length, Bor, Some, arith, rules, refl, sym, ap, ◌∙◌, subst}
use Rattle.std.specs.List.{slice_get}
use Rattle.std.specs.Option.{option_map}
use Rattle.std.specs.Vec.{with_items}
use Rattle.std.proofs.lemmas.List.{with_items_is}
use Rattle.std.proofs.lemmas.Option.{get_or_from_slice_get}
use Rattle.std.proofs.lemmas.Result.{err_from_is_err_and}
use Rattle.scr_base.specs.Streams.{Passes, StopsWithin}
use Rattle.scr_plan.specs.declared.given.Given.{Given}
use Rattle.scr_report.specs.Text.{verdict_line, named_line}
use Rattle.scr_crew.proofs.Named.{holds-here, some-there}
use Rattle.scr_crew.proofs.Writing.{writes-one, stops-at}
use Rattle.scr_crew.proofs.lines.LinesTaker.take.Goals as goal

pub unreachable-requires : goal.unreachable-requires
unreachable-requires g c =
    let names : List (List ℕ) = g.P.Program.verdict_names in
    let is = c.requires.3 in
    let named : c.args.given.verdict.0 < length names =
    holds-here (λ (given : Given). given.verdict.0 < length names) c.requires.1 is.front c.args.given c.requires.2 is.parts is.named in
    some-there names c.args.given.verdict.0 [] named
    (sym (ap (option_map {T = Bor (List ℕ)} {U = List ℕ} (λ name. name.now)) c.in_default.is) ∙ c.name_of.ensures)

pub returns-in_err-put_line : goal.returns-in_err-put_line
returns-in_err-put_line g c =
    λ before whole rest is.
    let names : List (List ℕ) = g.P.Program.verdict_names in
    let given : Given = c.args.given in
    let name : List ℕ = c.in-Some.name.now in
    let there : Some name ≡ slice_get names given.verdict.0 = sym (ap (option_map {T = Bor (List ℕ)} {U = List ℕ} (λ name. name.now)) c.in-Some.is) ∙ c.name_of.ensures in
    let line : verdict_line names given ≡ named_line name given.number =
    ap (λ (word : List ℕ). named_line word given.number) (get_or_from_slice_get names given.verdict.0 name [] (sym there)) in
    let told = err_from_is_err_and c.from_residual.result c.from_residual.ensures.1 in
    rw (told.1, told.2)
    (stops-at g.O.Sink.written g.O.Sink.faults g.O.Sink.wants names c.args.self.now before c.args.out.now whole rest given c.put_line.new.out c.in_err-put_line.field-0.0 is
    (subst (λ (t : List ℕ). StopsWithin (g.O.Sink.written c.args.out.now) (g.O.Sink.written c.put_line.new.out) (c.args.self.now.batch ++ t)) (sym line) c.in_err-put_line.ensures.text)
    c.in_err-put_line.ensures.cause)

pub returns : goal.returns
returns g c =
    λ before whole rest is.
    let names : List (List ℕ) = g.P.Program.verdict_names in
    let given : Given = c.args.given in
    let name : List ℕ = c.in-Some.name.now in
    let there : Some name ≡ slice_get names given.verdict.0 = sym (ap (option_map {T = Bor (List ℕ)} {U = List ℕ} (λ name. name.now)) c.in-Some.is) ∙ c.name_of.ensures in
    let line : verdict_line names given ≡ named_line name given.number =
    ap (λ (word : List ℕ). named_line word given.number) (get_or_from_slice_get names given.verdict.0 name [] (sym there)) in
    writes-one g.O.Sink.written g.O.Sink.faults g.O.Sink.wants names c.args.self.now before c.args.out.now whole rest given
    (record c.args.self.now { batch = c.put_line.new.batch; taken = c.args.self.now.taken + 1; totals = with_items c.args.self.now.totals c.count.new.totals }) c.put_line.new.out is
    (subst (λ (t : List ℕ). Passes (g.O.Sink.written c.args.out.now) (g.O.Sink.written c.put_line.new.out) c.args.self.now.batch c.put_line.new.batch t) (sym line) c.in_ok-put_line.ensures.text)
    c.in_ok-put_line.ensures.cause.ok
    (λ so_far are.
    with_items_is c.args.self.now.totals c.count.new.totals (first_of (omega (arith, c.count.auto.totals, c.deref_mut.ensures.len), search rules))
    ∙ c.count.ensures names so_far given (c.deref_mut.ensures.value ∙ are) refl)
    refl
