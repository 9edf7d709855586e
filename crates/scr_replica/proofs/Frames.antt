-- What the message of a frame tells its core.
use Rattle.std.proofs.Common.{◌≡◌, ℕ, ◌+◌, ◌-◌, ◌<◌, ◌≤◌, true, false, List, length, get_or, take, Some, arith, sym, ap, ◌∙◌}
use Rattle.std.specs.Prelude.{slice_get}
use Rattle.std.proofs.lemmas.Bool.{false_from_ne_true}
use Rattle.std.proofs.lemmas.List.{length-drop, length-take-le, get_or-drop, get_or-take}
use Rattle.std.proofs.lemmas.Option.{slice_get-get_or, get_or_from_slice_get, slice_get_within}
use Rattle.scr_base.specs.declared.row.Row.{Row}
use Rattle.scr_plan.specs.Kept.{first_carried, carries_to}
use Rattle.scr_plan.specs.Plan.{Plan, row_of_packet}
use Rattle.scr_plan.specs.Delivered.{delivers_to}
use Rattle.scr_plan.proofs.Packets.{Decides-carried}
use Rattle.scr_wire.specs.declared.message.Message.{Message}
use Rattle.scr_wire.specs.Spelling.{number_of, rows_of}
use Rattle.scr_replica.specs.declared.entry.Entry.{Entry}
use Rattle.scr_replica.specs.declared.entry.Entry.TheVariants.{Delivered, Carried, Lost}
use Rattle.scr_replica.specs.Entries.{entry_of, Knows, IsFrameTo, with_lost}
use Rattle.scr_replica.proofs.Lost.{length-with_lost}
use Rattle.scr_replica.proofs.Knowing.{IsFinal, entry_lost, entry_row, is_frame_to, not_carried, final_lost}

module _ (plan : Plan) (core : ℕ) (message : Message) (frame : IsFrameTo plan core message) where
  abbrev first : ℕ
  first = first_carried plan.history (number_of message) - 1

  -- the rows are those of the packets behind `first` and up to the frame's own
  pub count_of : length (rows_of message) ≡ number_of message - first
  count_of =
      let is = is_frame_to plan core (number_of message) frame.is_delivered in
      let rows = ap (λ (m : Message). length (rows_of m)) frame.is_frame in
      omega (
        arith,
        rows,
        is.is.to,
        length-drop first (take (number_of message) plan.rows),
        length-take-le (number_of message) plan.rows is.is.to,
      )

  -- the delivered frames before it are up to d
  abbrev pub EarlierUpTo : ℕ → Type 0
  EarlierUpTo d = (f : ℕ) → f ≤ number_of message - 1 → delivers_to plan core f ≡ true → f ≤ d

  -- a packet above d that stands before its rows is lost
  pub lost_before : (d p : ℕ) → EarlierUpTo d → d < p → p ≤ number_of message - length (rows_of message) → entry_of plan core p ≡ Lost
  lost_before d p earlier above to =
      let is = is_frame_to plan core (number_of message) frame.is_delivered in
      let from = is.is.from in
      let count = count_of in
      entry_lost plan core p (not_carried plan core (number_of message - 1) p d earlier above (λ f later all. omega arith))

  module _ (i p : ℕ) (row : Row) (at : slice_get (rows_of message) i ≡ Some row) (place : (number_of message - length (rows_of message)) + i + 1 ≡ p) where
    to_frame : p ≤ number_of message
    to_frame =
        let is = is_frame_to plan core (number_of message) frame.is_delivered in
        let from = is.is.from in
        let within = slice_get_within (rows_of message) i row at in
        omega (arith, count_of)

    -- the row of the packet
    the_row : row_of_packet plan p ≡ Some row
    the_row =
        let is = is_frame_to plan core (number_of message) frame.is_delivered in
        let from = is.is.from in
        let all = is.is.to in
        let to = to_frame in
        let counted = count_of in
        let number : ℕ = number_of message in
        let here : first + i ≡ p - 1 = omega arith in
        let below : first + i < number = omega arith in
        let within : p - 1 < length plan.rows = omega arith in
        let read : get_or (rows_of message) i row ≡ row = get_or_from_slice_get (rows_of message) i row row at in
        let carried : get_or (rows_of message) i row ≡ get_or plan.rows (p - 1) row =
        ap (λ (m : Message). get_or (rows_of m) i row) frame.is_frame
        ∙ get_or-drop first (take number plan.rows) i row
        ∙ get_or-take number plan.rows (first + i) row below
        ∙ ap (λ (k : ℕ). get_or plan.rows k row) here in
        slice_get-get_or plan.rows (p - 1) row within ∙ ap Some (sym carried ∙ read)

    is_carried : carries_to plan core p ≡ true
    is_carried =
        let is = is_frame_to plan core (number_of message) frame.is_delivered in
        let from = is.is.from in
        let to = to_frame in
        let counted = count_of in
        (Decides-carried plan core p).1
        (record { frame = number_of message; is_delivered = is; carries_it = record { from = omega arith; to = to } })

    -- its own frame wasn't delivered, where the delivered frames before this one are up to d
    pub row_of_earlier : (d : ℕ) → EarlierUpTo d → d < p → p < number_of message → Carried row ≡ entry_of plan core p
    row_of_earlier d earlier above below =
        let not_own : delivers_to plan core p ≡ false =
        false_from_ne_true (delivers_to plan core p) (λ own. let le = earlier p (omega arith) own in absurd (omega arith)) in
        sym (entry_row plan core p row false is_carried the_row not_own)

    pub row_of_own : number_of message ≤ p → Delivered row ≡ entry_of plan core p
    row_of_own late =
        let to = to_frame in
        let same : number_of message ≡ p = omega arith in
        let own : delivers_to plan core p ≡ true = ap (delivers_to plan core) (sym same) ∙ frame.is_delivered in
        sym (entry_row plan core p row true is_carried the_row own)

  -- what is known
  module _ (known : List Entry) (knows : Knows plan core (number_of message - 1) known) where
    pub final_before : IsFinal plan core (with_lost (number_of message - length (rows_of message)) known)
    final_before =
        final_lost plan core (number_of message - length (rows_of message)) known knows.final
        (λ p above to. lost_before (length known) p knows.own above to)

    pub few_before : length (with_lost (number_of message - length (rows_of message)) known) ≤ number_of message
    few_before =
        let is = is_frame_to plan core (number_of message) frame.is_delivered in
        let from = is.is.from in
        let within = knows.within in
        omega (arith, length-with_lost (number_of message - length (rows_of message)) known)

  -- what is known at last
  pub knows_all : (now : List Entry) → IsFinal plan core now → length now ≡ number_of message → Knows plan core (number_of message) now
  knows_all now final len = record { final = final; within = omega arith; own = λ f to delivered. omega arith }
