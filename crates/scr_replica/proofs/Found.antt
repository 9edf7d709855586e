-- Where all cores know what they will ever know, a packet's row is kept just where one of them knows it.
use Rattle.std.proofs.Common.{◌≡◌, ℕ, ◌+◌, ◌-◌, ◌<◌, ◌≤◌, List, length, get_or, take, drop, Option, Some, None, inl, inr, arith, sym, ap, subst, ◌∙◌}
use Rattle.std.specs.Prelude.{IfSome, IfNone}
use Rattle.std.specs.Option.{option_copied}
use Rattle.std.specs.Borrow.{Bor}
use Rattle.std.proofs.lemmas.Bool.{cases_lt}
use Rattle.std.proofs.lemmas.List.{length-take-le, length-drop, get_or-take, get_or-drop, take_all}
use Rattle.std.proofs.lemmas.List.FromFn.{get_or-map-range_with_len}
use Rattle.scr_base.specs.declared.row.Row.{Row}
use Rattle.scr_plan.specs.Plan.{Plan, IsPlan, frame_count}
use Rattle.scr_plan.specs.Delivered.{delivers_to}
use Rattle.scr_plan.specs.FinalEntry.{final_entry}
use Rattle.scr_replica.specs.declared.entry.Entry.{Entry}
use Rattle.scr_replica.specs.declared.entry.Entry.TheVariants.{Lost}
use Rattle.scr_replica.specs.Entries.{row_in, entry_of, entries_up_to}
use Rattle.scr_replica.specs.Told.{Told, untold, row_at, AllFinal}
use Rattle.scr_replica.specs.OneCore.{kept_row}
use Rattle.scr_replica.proofs.Knowing.{length-entries}
use Rattle.scr_replica.proofs.Packets.{row_in-entry_with, known-kept, unknown-unkept}

-- the cores from one on, and those before one
pub row_at-drop : (cores : List Told) (turn core place : ℕ) → row_at (drop turn cores) core place ≡ row_at cores (turn + core) place
row_at-drop cores turn core place = ap (λ (x : Told). row_in (get_or x.known place Lost)) (get_or-drop turn cores core untold)

pub row_at-take : (cores : List Told) (turn core place : ℕ) → core < turn → row_at (take turn cores) core place ≡ row_at cores core place
row_at-take cores turn core place below = ap (λ (x : Told). row_in (get_or x.known place Lost)) (get_or-take turn cores core untold below)

module _ (plan : Plan) (core place : ℕ) (within : place < frame_count plan) where
  -- the entry at a place
  pub entry_at : (d : Entry) → get_or (entries_up_to plan core (frame_count plan)) place d ≡ entry_of plan core (place + 1)
  unfolding entries_up_to
  entry_at d = get_or-map-range_with_len (entry_of plan core) 1 (frame_count plan) place (place + 1) d within (omega arith)

  pub known_of_entry : (entry : Entry) → entry ≡ entry_of plan core (place + 1) → IfSome (row_in entry) (λ row. kept_row plan (place + 1) ≡ Some row)
  known_of_entry entry is =
      by_row (row_in entry) (ap row_in is ∙ row_in-entry_with (delivers_to plan core (place + 1)) (final_entry plan core (place + 1)))
    where
      by_row : (o : Option Row) → o ≡ final_entry plan core (place + 1) → IfSome o (λ row. kept_row plan (place + 1) ≡ Some row)
      by_row None e = tt
      by_row (Some row) e = known-kept plan (place + 1) (omega arith) (omega arith) core row (sym e)

module _ (plan : Plan) (cores : List Told) (final : AllFinal plan cores) (place : ℕ) (within : place < frame_count plan) where
  row_at-final : (core : ℕ) → core < length cores → row_at cores core place ≡ final_entry plan core (place + 1)
  row_at-final core below =
      let count = final.count in
      ap (λ (x : List Entry). row_in (get_or x place Lost)) (final.each core (omega arith))
      ∙ ap row_in (entry_at plan core place within Lost)
      ∙ row_in-entry_with (delivers_to plan core (place + 1)) (final_entry plan core (place + 1))

  pub found : (core : ℕ) (row : Row) → core < length cores → row_at cores core place ≡ Some row → Some row ≡ kept_row plan (place + 1)
  found core row below there =
      sym (known-kept plan (place + 1) (omega arith) (omega arith) core row (sym (row_at-final core below) ∙ there))

  pub none_found : IsPlan plan → ((core : ℕ) → core < length cores → row_at cores core place ≡ None) → None ≡ kept_row plan (place + 1)
  none_found is_plan none =
      let count = final.count in
      sym (unknown-unkept plan (place + 1) (omega arith) (omega arith) is_plan
      (λ core below. let within_all : core < length cores = omega arith in sym (row_at-final core within_all) ∙ none core within_all))

  -- each core's list has the place
  pub long : (core : ℕ) → core < length cores → place < length (get_or cores core untold).known
  long core below =
      let count = final.count in
      omega (arith, ap length (final.each core (omega arith)), length-entries plan core (frame_count plan))

  -- in two parts
  module _ (turn : ℕ) (few : turn ≤ length cores) where
    abbrev behind : List Told
    behind = take (length cores - turn) (drop turn cores)

    behind_is : behind ≡ drop turn cores
    behind_is = let len = length-drop turn cores in take_all (length cores - turn) (drop turn cores) (omega arith)

    abbrev IsLong : List Told → Type 0
    IsLong part = (core : ℕ) → core < length part → place < length (get_or part core untold).known

    pub long_behind : IsLong behind
    long_behind =
        subst IsLong (sym behind_is)
        (λ core below.
        let len : length (get_or (drop turn cores) core untold).known ≡ length (get_or cores (turn + core) untold).known =
        ap (λ (x : Told). length x.known) (get_or-drop turn cores core untold) in
        let all = long (turn + core) (omega (arith, length-drop turn cores)) in
        omega arith)

    pub long_before : IsLong (take turn cores)
    long_before core below =
        let counted = length-take-le turn cores few in
        let len : length (get_or (take turn cores) core untold).known ≡ length (get_or cores core untold).known =
        ap (λ (x : Told). length x.known) (get_or-take turn cores core untold (omega arith)) in
        let all = long core (omega arith) in
        omega arith

    abbrev Finds : List Told → Type 0
    Finds part = (core : ℕ) (row : Row) → core < length part → row_at part core place ≡ Some row → Some row ≡ kept_row plan (place + 1)

    pub found_behind : Finds behind
    found_behind =
        subst Finds (sym behind_is)
        (λ core row below there.
        found (turn + core) row (omega (arith, length-drop turn cores)) (sym (row_at-drop cores turn core place) ∙ there))

    pub found_before : Finds (take turn cores)
    found_before core row below there =
        let len = length-take-le turn cores few in
        found core row (omega arith) (sym (row_at-take cores turn core place (omega arith)) ∙ there)

    abbrev HasNone : List Told → Type 0
    HasNone part = (core : ℕ) → core < length part → row_at part core place ≡ None

    pub none_in_parts : IsPlan plan → HasNone behind → HasNone (take turn cores) → None ≡ kept_row plan (place + 1)
    none_in_parts is_plan none_behind before =
        let after : HasNone (drop turn cores) = subst HasNone behind_is none_behind in
        let len = length-take-le turn cores few in
        none_found is_plan
        (λ core below.
        elim (cases_lt core turn) as (λ _. row_at cores core place ≡ None) [
          | inl early ↦ sym (row_at-take cores turn core place early) ∙ before core (omega arith)
          | inr late ↦ (
              let at : turn + (core - turn) ≡ core = omega arith in
              ap (λ (k : ℕ). row_at cores k place) (sym at)
              ∙ sym (row_at-drop cores turn (core - turn) place)
              ∙ after (core - turn) (omega (arith, length-drop turn cores)))
        ])

    -- what the search of the second part finds is the kept row, where the first part has none
    pub found_last : IsPlan plan → HasNone behind → (o : Option (Bor Row))
        → IfSome o (λ row. (core : ℕ) × (core < length (take turn cores)) × (row_at (take turn cores) core place ≡ Some row.now))
        → IfNone o (HasNone (take turn cores)) → option_copied o ≡ kept_row plan (place + 1)
    found_last is_plan none_behind None some none = none_in_parts is_plan none_behind none
    found_last is_plan none_behind (Some row) some none = found_before some.0 row.now some.1 some.2
