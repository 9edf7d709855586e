-- The parts of a rule, by what each of them says.
use Rattle.std.proofs.Common.{◌∙◌, ◌≤◌, Err, sym, ap}
use Rattle.std.proofs.lemmas.Result.{err_from_is_err_and}
use Rattle.scr_tables.specs.Rules.{most_rules}
use Rattle.scr_tables.specs.Spelling.{Parts}
use Rattle.scr_tables.proofs.Parts.{AreFormed, formed, unformed, within, beyond, no-next, no-verdict, far-state, far-pattern, far-next, full, read-all}
use Rattle.scr_tables.proofs.reading.read_parts.Goals as goal

pub returns-in_err-next : goal.returns-in_err-next
returns-in_err-next c =
    let parts : Parts = record { state = c.args.state.now; pattern = c.args.pattern.now; next = c.args.next.now; verdict = c.args.verdict.now } in
    let state = formed _ _ _ (sym c.state_in.ensures ∙ c.in_ok-state.was) in
    let pattern = formed _ _ _ (sym c.pattern_in.ensures ∙ c.in_ok-pattern.was) in
    let next = unformed _ _ c.in_err-next.field-0.0 (sym c.state_in-2.ensures ∙ c.in_err-next.was) in
    let p = err_from_is_err_and c.from_residual-in_err-next.result c.from_residual-in_err-next.ensures.1 in
    rw (p.1, p.2) (ap Err next.1 ∙ sym (no-next c.args.before parts state.0 pattern.0 next.0))

pub returns-in_err-verdict : goal.returns-in_err-verdict
returns-in_err-verdict c =
    let parts : Parts = record { state = c.args.state.now; pattern = c.args.pattern.now; next = c.args.next.now; verdict = c.args.verdict.now } in
    let state = formed _ _ _ (sym c.state_in.ensures ∙ c.in_ok-state.was) in
    let pattern = formed _ _ _ (sym c.pattern_in.ensures ∙ c.in_ok-pattern.was) in
    let next = formed _ _ _ (sym c.state_in-2.ensures ∙ c.in_ok-next.was) in
    let verdict = unformed _ _ c.in_err-verdict.field-0.0 (sym c.verdict_in.ensures ∙ c.in_err-verdict.was) in
    let p = err_from_is_err_and c.from_residual-in_err-verdict.result c.from_residual-in_err-verdict.ensures.1 in
    rw (p.1, p.2) (ap Err verdict.1 ∙ sym (no-verdict c.args.before parts state.0 pattern.0 next.0 verdict.0))

pub returns-in_default : goal.returns-in_default
returns-in_default c =
    let parts : Parts = record { state = c.args.state.now; pattern = c.args.pattern.now; next = c.args.next.now; verdict = c.args.verdict.now } in
    let state = formed _ _ _ (sym c.state_in.ensures ∙ c.in_ok-state.was) in
    let pattern = formed _ _ _ (sym c.pattern_in.ensures ∙ c.in_ok-pattern.was) in
    let next = formed _ _ _ (sym c.state_in-2.ensures ∙ c.in_ok-next.was) in
    let verdict = formed _ _ _ (sym c.verdict_in.ensures ∙ c.in_ok-verdict.was) in
    let all : AreFormed c.args.before parts = record { state = state.0; pattern = pattern.0; next = next.0; verdict = verdict.0 } in
    sym (far-next c.args.before parts all (beyond _ _ (next.1 ∙ c.in_default.is-2)))

pub returns-in_default-2 : goal.returns-in_default-2
returns-in_default-2 c =
    let parts : Parts = record { state = c.args.state.now; pattern = c.args.pattern.now; next = c.args.next.now; verdict = c.args.verdict.now } in
    let state = formed _ _ _ (sym c.state_in.ensures ∙ c.in_ok-state.was) in
    let pattern = formed _ _ _ (sym c.pattern_in.ensures ∙ c.in_ok-pattern.was) in
    let next = formed _ _ _ (sym c.state_in-2.ensures ∙ c.in_ok-next.was) in
    let verdict = formed _ _ _ (sym c.verdict_in.ensures ∙ c.in_ok-verdict.was) in
    let all : AreFormed c.args.before parts = record { state = state.0; pattern = pattern.0; next = next.0; verdict = verdict.0 } in
    sym (far-pattern c.args.before parts all (beyond _ _ (pattern.1 ∙ c.in_default.is-1)))

pub returns-in_default-3 : goal.returns-in_default-3
returns-in_default-3 c =
    let parts : Parts = record { state = c.args.state.now; pattern = c.args.pattern.now; next = c.args.next.now; verdict = c.args.verdict.now } in
    let state = formed _ _ _ (sym c.state_in.ensures ∙ c.in_ok-state.was) in
    let pattern = formed _ _ _ (sym c.pattern_in.ensures ∙ c.in_ok-pattern.was) in
    let next = formed _ _ _ (sym c.state_in-2.ensures ∙ c.in_ok-next.was) in
    let verdict = formed _ _ _ (sym c.verdict_in.ensures ∙ c.in_ok-verdict.was) in
    let all : AreFormed c.args.before parts = record { state = state.0; pattern = pattern.0; next = next.0; verdict = verdict.0 } in
    sym (far-state c.args.before parts all (beyond _ _ (state.1 ∙ c.in_default.is-0)))

pub returns-then-before-ge-MOST : goal.returns-then-before-ge-MOST
returns-then-before-ge-MOST c =
    let parts : Parts = record { state = c.args.state.now; pattern = c.args.pattern.now; next = c.args.next.now; verdict = c.args.verdict.now } in
    let state = formed _ _ _ (sym c.state_in.ensures ∙ c.in_ok-state.was) in
    let pattern = formed _ _ _ (sym c.pattern_in.ensures ∙ c.in_ok-pattern.was) in
    let next = formed _ _ _ (sym c.state_in-2.ensures ∙ c.in_ok-next.was) in
    let verdict = formed _ _ _ (sym c.verdict_in.ensures ∙ c.in_ok-verdict.was) in
    let all : AreFormed c.args.before parts = record { state = state.0; pattern = pattern.0; next = next.0; verdict = verdict.0 } in
    let s = within _ _ _ (state.1 ∙ c.in-Some-Some-Some.is-0) in
    let p = within _ _ _ (pattern.1 ∙ c.in-Some-Some-Some.is-1) in
    let n = within _ _ _ (next.1 ∙ c.in-Some-Some-Some.is-2) in
    let many : most_rules ≤ c.args.before = c.if-before-ge-MOST.true in
    sym (full c.args.before parts all s.0 p.0 n.0 many)

pub returns : goal.returns
returns c =
    let parts : Parts = record { state = c.args.state.now; pattern = c.args.pattern.now; next = c.args.next.now; verdict = c.args.verdict.now } in
    let state = formed _ _ _ (sym c.state_in.ensures ∙ c.in_ok-state.was) in
    let pattern = formed _ _ _ (sym c.pattern_in.ensures ∙ c.in_ok-pattern.was) in
    let next = formed _ _ _ (sym c.state_in-2.ensures ∙ c.in_ok-next.was) in
    let verdict = formed _ _ _ (sym c.verdict_in.ensures ∙ c.in_ok-verdict.was) in
    let all : AreFormed c.args.before parts = record { state = state.0; pattern = pattern.0; next = next.0; verdict = verdict.0 } in
    let s = within _ _ _ (state.1 ∙ c.in-Some-Some-Some.is-0) in
    let p = within _ _ _ (pattern.1 ∙ c.in-Some-Some-Some.is-1) in
    let n = within _ _ _ (next.1 ∙ c.in-Some-Some-Some.is-2) in
    sym (read-all c.args.before parts all s.0 p.0 n.0 c.if-before-ge-MOST.false _ s.1 p.1 n.1 verdict.1)
