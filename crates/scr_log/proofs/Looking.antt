-- What the loads of a look tell, with numbers of packets counted from 1.
use Rattle.std.proofs.Common.{◌≡◌, ◌≢◌, ℕ, Bool, true, false, ◌+◌, ◌-◌, ◌*◌, ◌<◌, sym, refl, ap, ◌∙◌, arith, subst}
use Rattle.std.specs.Prelude.{Option, Some, None, if◌then◌else◌}
use Rattle.atomic_table.specs.Seated.{TableId}
use Rattle.scr_base.specs.declared.row.Row as rows
use Rattle.scr_plan.specs.Plan.{Plan, row_of_packet}
use Rattle.scr_plan.specs.Kept.{carries_to}
use Rattle.scr_plan.specs.FinalEntry.{final_entry}
use Rattle.scr_log.specs.declared.view.PassView.{PassView}
use Rattle.scr_log.specs.declared.view.Found.{Found}
use Rattle.scr_log.specs.declared.view.Noted.TheVariants.{Tag}
use Rattle.scr_log.specs.declared.look.Look.TheVariants.{Row, Lost, NotYet}
use Rattle.scr_log.specs.Layout.{place, tag_offset, data_offset}
use Rattle.scr_log.specs.Entries.{entry, row_word}
use Rattle.scr_log.specs.Passes.{LogsOf, looked}
use Rattle.scr_log.specs.Seats.{core_seen, IsReading}
use Rattle.scr_log.specs.Steps.{Mine, AStep, LoadsTagOf, tag_seen, IsWordFound}
use Rattle.scr_log.specs.Answers.{LookTells}
use Rattle.scr_log.proofs.Calls.{final_entry-from_zero, data_place}

chosen : (b : Bool) (o : Option rows.Row) (row : rows.Row) → (if b then o else None) ≡ Some row → o ≡ Some row
chosen true o row is = is
chosen false o row is = absurd (cc)

-- a final entry that is a row is the packet's row
row_of_final : (plan : Plan) (core p : ℕ) (row : rows.Row) → final_entry plan core p ≡ Some row → row_of_packet plan p ≡ Some row
row_of_final plan core p row is = chosen (carries_to plan core p) (row_of_packet plan p) row is

-- a word of the row that was found
pub word_read : (logs : LogsOf) (table : TableId) (me : Mine) (core p at i n : ℕ) (step : AStep) → IsReading logs table me core p
    → at ≡ place logs.slots core (tag_offset logs.slots (p - 1)) → i < 7 → step.word ≡ at + 1 + i → IsWordFound step me.0 n
    → (row : rows.Row) → final_entry logs.plan core p ≡ Some row → n ≡ row_word row i
word_read logs table me core p at i n step reading here few it told row is =
    let v : PassView = me.0 in
    let q : ℕ = v.finished in
    told (record { core = core; number = p }) i row reading.found few
    (subst (λ (slots : ℕ). step.word ≡ place slots core (data_offset slots q i)) (sym reading.same_slots)
    (it ∙ data_place logs.slots core p q at i reading.current here))
    (subst (λ (plan : Plan). entry plan core q ≡ Some row) (sym reading.same_plan)
    (final_entry-from_zero logs.plan core p q reading.current ∙ is))

-- a row was found
pub reads : (logs : LogsOf) (table : TableId) (me after : Mine) (own core p n : ℕ) → table ≡ logs.table → me.0.plan ≡ logs.plan → me.0.slots ≡ logs.slots
    → me.0.core ≡ Some own → p ≡ me.0.finished + 1 → LoadsTagOf me core n after → n ≡ 4 * p + 1 → IsReading logs table after core p
reads logs table me after own core p n same_table same_plan same_slots mine current loaded is =
    let tagged : n ≡ 4 * (me.0.finished + 1) + 1 = omega arith in
    let told = loaded.tells.row tagged in
    subst (λ (m : Mine). IsReading logs table m core p) (sym (loaded.found tagged)) (record {
      of_these = same_table;
      same_plan = same_plan;
      same_slots = same_slots;
      own = own;
      its_core = mine;
      found = ap (λ (number : ℕ). Some (let f : Found = record { core = core; number = number } in f)) (sym current);
      current = current;
      row = told.0;
      is_row = sym (final_entry-from_zero logs.plan core p me.0.finished current)
          ∙ subst (λ (plan : Plan). entry plan core me.0.finished ≡ Some told.0) same_plan told.1;
    })

-- what a look adds to what contracts see of the pass
pub seen_after : (table next : TableId) (v : PassView) (own core p n : ℕ) → next ≡ table → p ≡ v.finished + 1
    → core_seen next (tag_seen v core n) own ≡ looked (core_seen table v own) (Tag core p n)
seen_after table next v own core p n same current =
    ap (λ (t : TableId). core_seen t (tag_seen v core n) own) same
    ∙ ap (λ (number : ℕ). looked (core_seen table v own) (Tag core number n)) (sym current)

-- no row was found: it is lost, or not there yet
pub tells_lost : (plan : Plan) (me after : Mine) (core p n : ℕ) → me.0.plan ≡ plan → p ≡ me.0.finished + 1 → LoadsTagOf me core n after
    → n ≡ 4 * p + 2 → LookTells plan core p n Lost
tells_lost plan me after core p n same current loaded is =
    let tagged : n ≡ 4 * (me.0.finished + 1) + 2 = omega arith in (
      is,
      sym (final_entry-from_zero plan core p me.0.finished current)
          ∙ subst (λ (q : Plan). entry q core me.0.finished ≡ None) same (loaded.tells.lost tagged),
    )

pub tells_not_yet : (plan : Plan) (me after : Mine) (core p n : ℕ) → p ≡ me.0.finished + 1 → LoadsTagOf me core n after
    → n ≢ 4 * p + 1 → n ≢ 4 * p + 2 → LookTells plan core p n (NotYet n)
tells_not_yet plan me after core p n current loaded not_row not_lost =
    let number = loaded.tells.number (λ is. not_row (omega arith)) (λ is. not_lost (omega arith)) in
    (refl, omega arith)

pub tells_row : (plan : Plan) (core p n : ℕ) (row : rows.Row) → n ≡ 4 * p + 1 → final_entry plan core p ≡ Some row → LookTells plan core p n (Row row)
tells_row plan core p n row tagged is = (tagged, is, row_of_final plan core p row is)
