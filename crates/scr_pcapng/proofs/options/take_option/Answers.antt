use Rattle.std.proofs.Common.{◌≡◌, ◌≢◌, ◌-◌, ◌<◌, ◌⊎◌, ℕ, length, ap, sym, subst, ◌∙◌, inl, inr, arith}
use Rattle.std.proofs.lemmas.Grind.{common_steps}
use Rattle.scr_pcapng.specs.Options.{code_in, length_in, padded}
use Rattle.scr_pcapng.proofs.Taken.{GivesFewer-more, GivesFewer-then, TakesBytes-from, any_on_err}
use Rattle.scr_pcapng.proofs.UnitOptions.{TakesOption-another, TakesOption-last, TakesOption-unit}
use Rattle.scr_pcapng.proofs.options.take_option.Goals as goal
use Rattle.scr_pcapng.proofs.options.take_option.Goals.{then-code-eq0-via-then-code-eq0, then-code-eq0-via-else-code-eq0+then-left-size, else-code-eq-UNIT-via-then-code-eq-UNIT+else-length-eq1, else-code-eq-UNIT-via-else-code-eq-UNIT}

pub returns-then-code-eq0-clause-taken : goal.returns-then-code-eq0-clause-taken
returns-then-code-eq0-clause-taken g c =
    let head = c.take_whole.new.buf in
    let four : length head ≡ 4 = grind (arith, common_steps) in
    let size : c.padded-size.result ≡ padded (length_in c.args.order head) = c.padded-size.ensures ∙ ap padded (c.from-length.ensures ∙ c.u16_at.ensures) in
    let last : (code_in c.args.order head ≡ 0) ⊎ (c.args.left - 4 < padded (length_in c.args.order head)) =
    elim c.then-code-eq0.branch [
      | then-code-eq0-via-then-code-eq0 w ↦ inl (sym c.u16_at-code.ensures ∙ w.if-code-eq0.true)
      | then-code-eq0-via-else-code-eq0+then-left-size w ↦ inr (subst (λ (n : ℕ). c.args.left - 4 < n) size w.if-left-size.true)
    ] in
    TakesOption-last _ _ c.args.order head c.args.left c.in_ok-take_whole.ensures.taken four c.requires last

pub returns-in_err-take_whole-2-clause-fewer : goal.returns-in_err-take_whole-2-clause-fewer
returns-in_err-take_whole-2-clause-fewer g c =
    let size : c.padded-size.result ≡ 4 = c.padded-size.ensures ∙ ap padded c.if-length-eq1.true in
    let fits = c.if-left-size.false in
    let enough = c.requires in
    any_on_err _
    (GivesFewer-then _ _ _ 4 4 _ (TakesBytes-from _ _ c.take_whole.new.buf 4 c.in_ok-take_whole.ensures.taken (grind (arith, common_steps)))
    (GivesFewer-more _ _ _ 4 c.in_err-take_whole-2.ensures.fewer (grind (arith, common_steps))) (omega arith))

pub returns-then-length-eq1-clause-taken : goal.returns-then-length-eq1-clause-taken
returns-then-length-eq1-clause-taken g c =
    let head = c.take_whole.new.buf in
    let value = c.take_whole-then-length-eq1.new.buf in
    let four : length head ≡ 4 = grind (arith, common_steps) in
    let all : length value ≡ 4 = grind (arith, common_steps) in
    let size : c.padded-size.result ≡ 4 = c.padded-size.ensures ∙ ap padded c.if-length-eq1.true in
    let fits = c.if-left-size.false in
    let enough = c.requires in
    TakesOption-unit _ _ _ c.args.order head value c.args.left c.in_ok-take_whole.ensures.taken four c.in_ok-take_whole-2.ensures.taken all
    (omega arith) (sym c.u16_at-code.ensures ∙ c.if-code-eq-UNIT.true) (sym (c.from-length.ensures ∙ c.u16_at.ensures) ∙ c.if-length-eq1.true)

pub returns-in_err-pass_over-clause-fewer : goal.returns-in_err-pass_over-clause-fewer
returns-in_err-pass_over-clause-fewer g c =
    let fits = c.if-left-size.false in
    let enough = c.requires in
    any_on_err _
    (GivesFewer-then _ _ _ 4 _ _ (TakesBytes-from _ _ c.take_whole.new.buf 4 c.in_ok-take_whole.ensures.taken (grind (arith, common_steps)))
    c.in_err-pass_over.ensures.fewer (omega arith))

pub returns-clause-taken : goal.returns-clause-taken
returns-clause-taken g c =
    let head = c.take_whole.new.buf in
    let four : length head ≡ 4 = grind (arith, common_steps) in
    let long : c.from-length.result ≡ length_in c.args.order head = c.from-length.ensures ∙ c.u16_at.ensures in
    let size : c.padded-size.result ≡ padded (length_in c.args.order head) = c.padded-size.ensures ∙ ap padded long in
    let fits = c.if-left-size.false in
    let enough = c.requires in
    let other : (code_in c.args.order head ≢ 9) ⊎ (length_in c.args.order head ≢ 1) =
    elim c.else-code-eq-UNIT.branch [
      | else-code-eq-UNIT-via-then-code-eq-UNIT+else-length-eq1 w ↦ inr (λ one. w.if-length-eq1.false (long ∙ one))
      | else-code-eq-UNIT-via-else-code-eq-UNIT w ↦ inl (λ nine. w.if-code-eq-UNIT.false (c.u16_at-code.ensures ∙ nine))
    ] in
    TakesOption-another _ _ _ c.args.order head c.padded-size.result c.args.left c.in_ok-take_whole.ensures.taken four size c.in_ok-pass_over.ensures.taken (omega arith)
    (λ none. c.if-code-eq0.false (c.u16_at-code.ensures ∙ none)) other
