-- After any rows of TCP and UDP the sources of the table are those of the door, each in the state of its place.
use Rattle.std.proofs.Common.{◌≡◌, ◌∙◌, ℕ, suc, Bool, true, false, ◌||◌, ◌==◌, List, [], ◌∷◌, All, Option, Some, None, unwrap_or, map, take, length, fold, refl, ap, inl, inr, ◌⊎◌}
use Rattle.std.specs.Map.{lookup, remove_entry}
use Rattle.std.specs.Option.{option_map}
use Rattle.std.proofs.lemmas.List.{take-map}
use Rattle.std.proofs.lemmas.List.Elements.{All-head, All-tail}
use Rattle.std.proofs.lemmas.Map.Made.{lookup-map_values}
use Rattle.scr_base.specs.declared.row.Row.{Row}
use Rattle.scr_base.specs.declared.row.Verdict.{Verdict}
use Rattle.scr_program.specs.declared.fields.Address.{Address}
use Rattle.scr_program.specs.declared.fields.Fields.{Fields}
use Rattle.scr_program.specs.FlowList.{set_key}
use Rattle.scr_program.specs.Folds.{flows_after, verdict_after}
use Rattle.scr_program.specs.Keyed.{keyed_step}
use Rattle.scr_program.specs.Keys.{is_same_address}
use Rattle.scr_program.specs.Kinds.{has_ports, is_packet}
use Rattle.scr_program.specs.Rows.{unpacked, kind_in, source_in, kind_number}
use Rattle.scr_frame.specs.declared.parsed.Kind.TheVariants as kinds
use Rattle.scr_knock.specs.Places.{next_place}
use Rattle.scr_knock.specs.Step.{verdict_at}
use Rattle.scr_knock.specs.Step as door
use Rattle.scr_knock.specs.declared.place.Place.{Place}
use Rattle.scr_knock.specs.declared.place.Place.TheVariants.{Start, First, Second, Open}
use Rattle.scr_knock.specs.declared.settings.KnockSettings.{KnockSettings}
use Rattle.scr_tables.specs.Rules.{first_rule}
use Rattle.scr_tables.specs.Step.{state_of, taken_by}
use Rattle.scr_tables.specs.Step as tables
use Rattle.scr_tables.specs.declared.settings.TableSettings.{TableSettings}
use Rattle.scr_laws.specs.DoorRules.{IsDoor, door_rules}

-- a list of pairs whose values are mapped, without a key, and with a key set
module _ {K X Y : Type 0} (g : X → Y) where
  abbrev mapped : List (K × X) → List (K × Y)
  mapped pairs = map (λ pair. (pair.0, g pair.1)) pairs

  remove_entry-mapped : (test : K → Bool) (pairs : List (K × X)) → remove_entry test (mapped pairs) ≡ mapped (remove_entry test pairs)
  remove_entry-mapped test [] = refl
  remove_entry-mapped test (pair ∷ pairs) = (elim (test pair.0) as (λ b. test pair.0 ≡ b → remove_entry test (mapped (pair ∷ pairs)) ≡ mapped (remove_entry test (pair ∷ pairs))) [
    | true ↦ λ is. rw is refl
    | false ↦ λ is. rw is (ap (λ (rest : List (K × Y)). (pair.0, g pair.1) ∷ rest) (remove_entry-mapped test pairs))
  ]) refl

  set_key-mapped : (same : K → K → Bool) (most : ℕ) (pairs : List (K × X)) (key : K) (value : X)
      → set_key same most (mapped pairs) key (g value) ≡ mapped (set_key same most pairs key value)
  set_key-mapped same most pairs key value =
      ap (λ (rest : List (K × Y)). take most ((key, g value) ∷ rest)) (remove_entry-mapped (same key) pairs)
      ∙ take-map (λ (pair : K × X). (pair.0, g pair.1)) most ((key, value) ∷ remove_entry (same key) pairs)

  length-mapped : (pairs : List (K × X)) → length (mapped pairs) ≡ length pairs
  length-mapped [] = refl
  length-mapped (pair ∷ pairs) = ap suc (length-mapped pairs)

-- the state of a place
abbrev state_at : Place → ℕ
state_at Start = 0
state_at First = 1
state_at Second = 2
state_at Open = 3

abbrev in_states : List (Address × Place) → List (Address × ℕ)
in_states flows = map (λ flow. (flow.0, state_at flow.1)) flows

-- a source that is absent is at the start, and in state 0
state_of-place : (flows : List (Address × Place)) (source : Address)
    → state_of (in_states flows) source ≡ state_at (unwrap_or (lookup (is_same_address source) flows) Start)
state_of-place flows source =
    ap (λ (found : Option ℕ). unwrap_or found 0) (lookup-map_values state_at (is_same_address source) flows)
    ∙ known (lookup (is_same_address source) flows)
  where
    known : (place : Option Place) → unwrap_or (option_map state_at place) 0 ≡ state_at (unwrap_or place Start)
    known (Some place) = refl
    known None = refl

decided : (test : Bool) → (test ≡ true) ⊎ (test ≡ false)
decided true = inl refl
decided false = inr refl

-- at a packet with ports, the first rule of the state of a place leads to the state of the next place, and says what the door says
module _ (settings : KnockSettings) (most : ℕ) (flows : List (Address × ℕ)) (source : Address) (fields : Fields) (looked : has_ports fields.kind ≡ true) where
  abbrev Agrees : Place → Type 0
  Agrees place =
      taken_by most flows source (first_rule (door_rules settings.first settings.second settings.third) (state_at place) fields)
      ≡ (set_key is_same_address most flows source (state_at (next_place settings place fields.destination_port)), verdict_at place)

  place-agrees : (place : Place) → Agrees place
  place-agrees Start =
      elim (decided (fields.destination_port == settings.first)) [
        | inl first ↦ rw (looked, first) refl
        | inr other ↦ rw (looked, other) refl
      ]
  place-agrees First =
      elim (decided (fields.destination_port == settings.second)) [
        | inl second ↦ rw (looked, second) refl
        | inr missed ↦ elim (decided (fields.destination_port == settings.first)) [
          | inl first ↦ rw (looked, missed, first) refl
          | inr other ↦ rw (looked, missed, other) refl
        ]
      ]
  place-agrees Second =
      elim (decided (fields.destination_port == settings.third)) [
        | inl third ↦ rw (looked, third) refl
        | inr missed ↦ elim (decided (fields.destination_port == settings.first)) [
          | inl first ↦ rw (looked, missed, first) refl
          | inr other ↦ rw (looked, missed, other) refl
        ]
      ]
  place-agrees Open = refl

packet-where_ports : (kind : ℕ) → has_ports kind ≡ true → is_packet kind ≡ true
packet-where_ports kind looked = or-right (kind == kind_number kinds.Bare) (has_ports kind) looked
  where
    or-right : (a b : Bool) → b ≡ true → (a || b) ≡ true
    or-right true b is = refl
    or-right false b is = is

module _ (table : TableSettings) (settings : KnockSettings) (is : IsDoor table settings) where
  -- so both steps agree
  step-agrees : (flows : List (Address × Place)) (row : Row) → has_ports (kind_in row) ≡ true
      → tables.step table (in_states flows) row ≡ (in_states (door.step settings flows row).0, (door.step settings flows row).1)
  unfolding tables.step keyed_step
  step-agrees flows row looked =
      let source = source_in row in
      let fields = unpacked row in
      let place : Place = unwrap_or (lookup (is_same_address source) flows) Start in
      let packet : is_packet (kind_in row) ≡ true = packet-where_ports (kind_in row) looked in
      let state : state_of (in_states flows) source ≡ state_at place = state_of-place flows source in
      let agrees = place-agrees settings table.flows (in_states flows) source fields looked place in
      let set = set_key-mapped state_at is_same_address settings.flows flows source (next_place settings place fields.destination_port) in
      rw (packet, looked, is.rules, state) (
      agrees
      ∙ ap (λ (most : ℕ). (set_key is_same_address most (in_states flows) source (state_at (next_place settings place fields.destination_port)), verdict_at place)) is.flows
      ∙ ap (λ (list : List (Address × ℕ)). (list, verdict_at place)) set)

  pub flows-agree : (rows : List Row) → All (λ row. has_ports (kind_in row) ≡ true) rows
      → flows_after (tables.step table) rows ≡ in_states (flows_after (door.step settings) rows)
  unfolding flows_after
  flows-agree rows looked = from [] rows looked
    where
      from : (flows : List (Address × Place)) (rows : List Row) → All (λ row. has_ports (kind_in row) ≡ true) rows
          → fold (λ flows row. (tables.step table flows row).0) (in_states flows) rows ≡ in_states (fold (λ flows row. (door.step settings flows row).0) flows rows)
      from flows [] looked = refl
      from flows (row ∷ rows) looked =
          ap (λ (after : List (Address × ℕ) × Verdict). fold (λ flows row. (tables.step table flows row).0) after.0 rows)
          (step-agrees flows row (All-head (λ row. has_ports (kind_in row) ≡ true) row rows looked))
          ∙ from (door.step settings flows row).0 rows (All-tail (λ row. has_ports (kind_in row) ≡ true) row rows looked)

  pub verdicts-agree : (rows : List Row) (row : Row) → All (λ row. has_ports (kind_in row) ≡ true) rows → has_ports (kind_in row) ≡ true
      → verdict_after (tables.step table) rows row ≡ verdict_after (door.step settings) rows row
  verdicts-agree rows row before looked =
      ap (λ (flows : List (Address × ℕ)). (tables.step table flows row).1) (flows-agree rows before)
      ∙ ap (λ (after : List (Address × ℕ) × Verdict). after.1) (step-agrees (flows_after (door.step settings) rows) row looked)

  pub counts-agree : (rows : List Row) → All (λ row. has_ports (kind_in row) ≡ true) rows
      → length (flows_after (tables.step table) rows) ≡ length (flows_after (door.step settings) rows)
  counts-agree rows before =
      ap (λ (flows : List (Address × ℕ)). length flows) (flows-agree rows before)
      ∙ length-mapped state_at (flows_after (door.step settings) rows)
