-- What the first rule says of the packet is what the step makes of it.
use Rattle.std.proofs.Common.{◌≡◌, ◌∙◌, ℕ, List, true, sym, ap, subst, rules, unwrap_or}
use Rattle.std.specs.Map.{lookup}
use Rattle.scr_base.specs.declared.row.Verdict.{Verdict}
use Rattle.scr_program.specs.FlowList.{set_key}
use Rattle.scr_program.specs.Keys.{is_same_address}
use Rattle.scr_program.specs.Kinds.{is_packet}
use Rattle.scr_program.specs.Rows.{unpacked, source_in}
use Rattle.scr_program.specs.declared.fields.Address.{Address}
use Rattle.scr_program.specs.declared.fields.Fields.{Fields}
use Rattle.scr_tables.specs.Held.{FirstSays}
use Rattle.scr_tables.specs.Step.{state_of, verdict_for}
use Rattle.scr_tables.proofs.Held.{step-taken}
use Rattle.scr_tables.proofs.tables.answer.Goals as goal

pub returns-clause-taken : goal.returns-clause-taken
returns-clause-taken c = λ held most.
    let settings = c.args.settings.now in
    let old = c.args.flows.now in
    let new = c.update.new.self in
    let row = c.args.row.now in
    let fields = c.unpack-fields.result in
    let decision = c.in_ok-decision.decision in
    let updated = c.in_ok-decision.ensures.updated in
    let looked : is_packet (unpacked row).kind ≡ true =
    ap (λ (f : Fields). is_packet f.kind) (sym c.unpack-fields.ensures) ∙ sym c.is_packet.ensures ∙ c.if-not-is_packet.false in
    let says : FirstSays settings.table (unwrap_or (lookup (is_same_address fields.source) old.list) 0) fields (updated.0, decision) = search rules in
    let said = subst (λ (f : Fields). FirstSays settings.table (state_of old.list f.source) f (updated.0, decision)) c.unpack-fields.ensures says in
    let list : new.list ≡ set_key is_same_address settings.flows old.list (source_in row) updated.0 =
    updated.2 ∙ ap (λ (n : ℕ). set_key is_same_address n old.list fields.source updated.0) most
    ∙ ap (λ (f : Fields). set_key is_same_address settings.flows old.list f.source updated.0) c.unpack-fields.ensures in
    step-taken settings old.list row updated.0 decision looked held said
    ∙ ap (λ (flows : List (Address × ℕ)). (flows, verdict_for decision)) (sym list)
    ∙ ap (λ (v : Verdict). (new.list, v)) (sym c.verdict_for.ensures)
