-- What was written of a plan is read as a plan of the same run.
use Rattle.std.proofs.Common.{◌≡◌, ◌≢◌, ◌⊎◌, ℕ, zero, suc, ◌+◌, ◌-◌, ◌<◌, ◌≤◌, Bool, true, false, not, ◌&&◌, List, [], ◌∷◌, ◌++◌, length, All, Option, Some, None, Ok, refl, sym, ap, ◌∙◌, inl, inr, arith, eqb}
use Rattle.std.specs.Prelude.{unwrap_or, slice_get}
use Rattle.std.specs.List.{list_any, range_with_len}
use Rattle.std.proofs.lemmas.Bool.{cases_lt, false_from_ne_true}
use Rattle.std.proofs.lemmas.Bool.Decides.{nat_tests}
use Rattle.std.proofs.lemmas.List.FromFn.{length-map-range_with_len}
use Rattle.std.proofs.lemmas.Map.Views.{any-filter_same}
use Rattle.scr_base.specs.declared.row.Row.{Row}
use Rattle.scr_plan.specs.Drops.{has_number}
use Rattle.scr_plan.specs.Delays.{delay_of}
use Rattle.scr_plan.specs.Link.{loses}
use Rattle.scr_plan.specs.Plan.{Plan, IsPlan, HasParts, frame_count, row_of_packet}
use Rattle.scr_plan.specs.Delivered.{delivers}
use Rattle.scr_plan.specs.Kept.{first_carried, carries, keeps}
use Rattle.scr_plan.proofs.Delivering.{delivers-sends}
use Rattle.scr_plan.proofs.FromOne.{IsSome-from_any}
use Rattle.scr_plan.proofs.Judged.{judged-lost, judged-prompt}
use Rattle.scr_plan.proofs.Steps.{sends-within}
use Rattle.scr_wire.specs.declared.message.Message.TheVariants.{End}
use Rattle.scr_wire.specs.Spelling.{IsRow, spelling}
use Rattle.scr_stream.specs.Streamed.{streamed, stream_header, frames_of}
use Rattle.scr_stream.specs.Frames.{StreamFrame, carried_row, row_in, has_frame}
use Rattle.scr_stream.specs.Tests.{shape_of, has_shape}
use Rattle.scr_stream.specs.Reading.{no_row, plan_from, IsReading}
use Rattle.scr_stream.specs.SameRun.{IsSameRun}
use Rattle.scr_stream.specs.declared.header.Shape.{Shape}
use Rattle.scr_stream.proofs.Differing.{got}
use Rattle.scr_stream.proofs.Ranges.{any-same, any-found}
use Rattle.scr_stream.proofs.RowsWritten.{written, Earlier-none, written-carries}
use Rattle.scr_stream.proofs.FramesWritten.{written_from, written-begin, written-numbers, written-last, written-rows, written-there}

-- an undelivered frame is no frame of the run, or doesn't come in time
outside : (plan : Plan) (n : ℕ) → ((1 ≤ n) × (n ≤ frame_count plan) → ⊥) → delivers plan n ≡ false
outside plan n out =
    false_from_ne_true (delivers plan n)
    (λ yes. let within = sends-within plan n (delivers-sends plan n yes) in out (within.0, within.1))

module _ (plan : Plan) (is : IsPlan plan) where
  abbrev count : ℕ
  count = frame_count plan

  abbrev frames : List StreamFrame
  frames = written_from plan 1 count

  abbrev shape : Shape
  shape = record { cores = plan.cores; history = plan.history }

  -- the plan that is read
  abbrev pub read_of : Plan
  read_of = plan_from shape frames count

  as-many : frame_count read_of ≡ count
  as-many = length-map-range_with_len (λ (p : ℕ). unwrap_or (row_in frames p) no_row) 1 count

  parts : HasParts read_of read_of.link plan.cores count
  parts = record { link_is = refl; cores_are = refl; frames_are = as-many }

  -- a frame is missing exactly where it wasn't delivered
  missing-is : (n : ℕ) → 1 ≤ n → n ≤ count → loses read_of.link n ≡ not (delivers plan n)
  unfolding loses has_number
  missing-is n from to =
      let g : ℕ → Bool = λ m. not (has_frame frames m) in
      let there : list_any (λ m. eqb m n) (range_with_len 1 count) ≡ true =
      any-found (λ m. eqb m n) 1 count n from (omega arith) (grind (arith, nat_tests)) in
      any-filter_same (λ m. eqb m n) g (g n) (λ m same. let at : m ≡ n = grind (arith, nat_tests) in ap g at) (range_with_len 1 count)
      ∙ ap (λ (b : Bool). g n && b) there
      ∙ and-true (g n)
      ∙ ap not (written-numbers plan 1 count n from (omega arith))
    where
      and-true : (b : Bool) → (b && true) ≡ b
      and-true true = refl
      and-true false = refl

  no-delay : (n : ℕ) → delay_of [] n ≡ 0
  unfolding delay_of
  no-delay n = refl

  same-delivered : (n : ℕ) → delivers read_of n ≡ delivers plan n
  same-delivered n =
      elim (cases_lt 0 n) [
        | inr none ↦ outside read_of n (λ within. let from = within.0 in omega arith) ∙ sym (outside plan n (λ within. let from = within.0 in omega arith))
        | inl from ↦ elim (cases_lt count n) [
          | inl above ↦
              outside read_of n (λ within. let to = within.1 in omega (arith, as-many))
              ∙ sym (outside plan n (λ within. let to = within.1 in omega arith))
          | inr to ↦ within n (omega arith) to (delivers plan n) refl
        ]
      ]
    where
      within : (n : ℕ) → 1 ≤ n → n ≤ count → (b : Bool) → delivers plan n ≡ b → delivers read_of n ≡ delivers plan n
      within n from to true told =
          judged-prompt read_of read_of.link plan.cores count n parts from to (missing-is n from to ∙ ap not told) (omega (arith, no-delay n)) (no-delay n)
          ∙ sym told
      within n from to false told =
          judged-lost read_of read_of.link plan.cores count n parts (missing-is n from to ∙ ap not told) ∙ sym told

  same-kept : (p : ℕ) → keeps read_of p ≡ keeps plan p
  unfolding keeps
  same-kept p =
      ap (λ (k : ℕ). list_any (λ n. delivers read_of n && carries plan.history n p) (range_with_len 1 k)) as-many
      ∙ any-same (λ n. delivers read_of n && carries plan.history n p) (λ n. delivers plan n && carries plan.history n p) 1 count
      (λ n from to. ap (λ (b : Bool). b && carries plan.history n p) (same-delivered n))

  known : (p : ℕ) (one other : Option Row) → one ≢ None → (one ≡ None) ⊎ (one ≡ other) → Some (unwrap_or one no_row) ≡ other
  known p None other there agrees = absurd (there refl)
  known p (Some row) other there (inl none) = absurd cc
  known p (Some row) other there (inr same) = same

  row-there : (n p : ℕ) → first_carried plan.history n ≤ p → p ≤ n → 1 ≤ n → n ≤ count → row_of_packet plan p ≢ None
  row-there n p from to start within = there plan.rows (p - 1) (omega arith)
    where
      there : (rows : List Row) (i : ℕ) → i < length rows → slice_get rows i ≢ None
      there [] i below = λ e. absurd (omega arith)
      there (row ∷ rows) zero below = λ e. absurd cc
      there (row ∷ rows) (suc i) below = there rows i (omega arith)

  same-rows : (p : ℕ) → keeps plan p ≡ true → row_of_packet read_of p ≡ row_of_packet plan p
  unfolding keeps
  same-rows p kept =
      let some = IsSome-from_any (λ n. delivers plan n && carries plan.history n p) count kept in
      let passes = some.passes in
      let n : ℕ = some.number in
      let delivered : delivers plan some.number ≡ true = grind (arith, nat_tests) in
      let start = some.from in
      let end = some.to in
      let from : first_carried plan.history some.number ≤ p = grind (arith, nat_tests) in
      let to : p ≤ some.number = grind (arith, nat_tests) in
      let at : 1 + (p - 1) ≡ p = omega arith in
      let carried = written-carries plan some.number p some.to from to in
      let there : carried_row (written plan some.number) p ≢ None =
      λ none. row-there some.number p from to some.from some.to (sym carried ∙ none) in
      got (λ k. unwrap_or (row_in frames k) no_row) 1 count (p - 1) (omega arith)
      ∙ ap (λ (k : ℕ). Some (unwrap_or (row_in frames k) no_row)) at
      ∙ known p (row_in frames p) (row_of_packet plan p) (written-there plan 1 count some.number p some.from (omega arith) delivered there)
      (written-rows plan 1 count p (omega arith))

  same-run : IsSameRun plan read_of
  same-run = record {
    cores = refl;
    history = refl;
    count = as-many;
    delivered = same-delivered;
    kept = same-kept;
    rows = same-rows;
  }

  header-read : (program : ℕ) (behind : List ℕ) → shape_of program (stream_header program plan.cores plan.history ++ behind) ≡ Ok shape
  unfolding shape_of
  header-read program behind =
      let core = is.a_core in
      let few = is.few_cores in
      let short = is.short_history in
      let long : 8 ≤ length (stream_header program plan.cores plan.history ++ behind) = omega arith in
      let same : eqb program program ≡ true = grind (arith, nat_tests) in
      let within : has_shape (stream_header program plan.cores plan.history ++ behind) ≡ true = grind (arith, nat_tests) in
      grind (arith, nat_tests)

  pub reads-back : (program : ℕ) → All IsRow plan.rows
      → (other : Plan) × IsReading program (streamed program plan) (Ok other) × IsSameRun plan other
  reads-back program fits = (
    read_of,
    record {
      shape = shape;
      header = header-read program (frames_of plan ++ spelling (End count));
      frames = frames;
      last = count;
      within = let last = written-last plan 1 count (omega arith) in omega arith;
      few = is.few_rows;
      spelled = written-begin plan is fits (spelling (End count)) 1 count [] (omega arith) (omega arith) (Earlier-none plan 1 (omega arith));
      told = refl;
    },
    same-run,
  )
