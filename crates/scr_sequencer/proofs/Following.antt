-- Behind the first rows of a plan, a sequencer that is given its next row stands behind one row more.
use Rattle.std.proofs.Common.{◌≡◌, ◌≢◌, ℕ, zero, suc, ◌+◌, ◌-◌, ◌<◌, ◌≤◌, Bool, true, false, cond, not, ◌&&◌, List, [], ◌∷◌, ◌++◌, length, get_or, take, drop, max, Some, None, refl, sym, ap, subst, ◌∙◌, ⊎_elim, arith, eqb, replicate, map}
use Rattle.std.specs.List.{flat_map, range_with_len}
use Rattle.std.proofs.lemmas.Bool.{cases_lt, false_from_ne_true}
use Rattle.std.proofs.lemmas.Bool.Decides.{nat_tests}
use Rattle.std.proofs.lemmas.List.{length-append, length-drop, length-take-le, take_more, drop-drop, drop-append-le}
use Rattle.std.proofs.lemmas.List.FromFn.{get_or-map-range_with_len, length-map-range_with_len}
use Rattle.std.proofs.lemmas.Option.{get_or_from_slice_get, slice_get_within}
use Rattle.std.proofs.Math.Seq.{drop-nil}
use Rattle.circular_buffer.specs.Buffer.{keep_last}
use Rattle.scr_base.specs.declared.row.Row.{Row}
use Rattle.scr_plan.specs.Delays.{greatest_delay}
use Rattle.scr_plan.specs.Link.{loses, repeats, delays_by}
use Rattle.scr_plan.specs.Plan.{Plan, IsPlan, frame_count}
use Rattle.scr_plan.specs.Order.{core_number, comes_at, sends}
use Rattle.scr_plan.specs.declared.link.Fate.{Fate}
use Rattle.scr_plan.specs.declared.link.Fate.TheVariants.{Lost, Once, Twice}
use Rattle.scr_plan.proofs.FromOne.{lists-suc}
use Rattle.scr_plan.proofs.FrameDelays.{delay_of-near}
use Rattle.scr_plan.proofs.Steps.{sends-within, sends-free}
use Rattle.scr_wire.specs.declared.message.Message.TheVariants.{Frame}
use Rattle.scr_wire.specs.Spelling.{HasSpelling, spelling}
use Rattle.scr_wire.specs.Lane.{frame, rows_carried}
use Rattle.scr_sequencer.specs.Sequence.{Arriving, Sequence, steps_ahead, after, carried_next, arriving, due, begun, nothing_held}
use Rattle.scr_sequencer.specs.Answers.{on_its_way, coming, held_for, held_of, Follows, IsNext}
use Rattle.scr_sequencer.proofs.Rotating.{given, own, own-given, held_next, held_next-at, held_next-length, rotated}

-- ---- the rows

-- of the last rows, and one more, the last are those of all rows and one more
keep_last_more : (k : ℕ) (xs : List Row) (x : Row) → 1 ≤ k → keep_last k (keep_last k xs ++ x ∷ []) ≡ keep_last k (xs ++ x ∷ [])
keep_last_more k xs x some =
    let gone = length xs - k in
    let kept : List Row = drop gone xs in
    let joined : drop gone (xs ++ x ∷ []) ≡ kept ++ x ∷ [] = drop-append-le gone xs (x ∷ []) (omega arith) in
    let more : length (kept ++ x ∷ []) ≡ length kept + 1 = length-append kept (x ∷ []) in
    let all : length (xs ++ x ∷ []) ≡ length xs + 1 = length-append xs (x ∷ []) in
    let both : gone + (length (kept ++ x ∷ []) - k) ≡ length (xs ++ x ∷ []) - k = omega (arith, length-drop gone xs) in
    ap (drop (length (kept ++ x ∷ []) - k)) (sym joined)
    ∙ drop-drop (length (kept ++ x ∷ []) - k) gone (xs ++ x ∷ [])
    ∙ ap (λ (n : ℕ). drop n (xs ++ x ∷ [])) both

-- a frame that is lost isn't sent, and any other is
sends-not_lost : (plan : Plan) (n : ℕ) → 1 ≤ n → n ≤ frame_count plan → sends plan n ≡ not (loses plan.link n)
sends-not_lost plan n from to = by (loses plan.link n) refl
  where
    by : (b : Bool) → loses plan.link n ≡ b → sends plan n ≡ not b
    by true lost =
        let within = sends-within plan n in
        false_from_ne_true (sends plan n) (λ yes. let both : true ≡ false = sym lost ∙ (within yes).2 in absurd (cc))
    by false free = sends-free plan n from to free

module _ (plan : Plan) (s : Sequence) (row : Row) (fate : Fate) (follows : Follows plan s) (next : IsNext plan s row fate) where
  pub next_within : s.taken < frame_count plan
  next_within = slice_get_within plan.rows s.taken row next.row_is

  -- the rows that the next frame carries are the last of the plan's
  rows_next : carried_next s row ≡ keep_last (s.history + 1) (take (s.taken + 1) plan.rows)
  rows_next =
      let one_more : take (s.taken + 1) plan.rows ≡ take s.taken plan.rows ++ row ∷ [] =
      take_more plan.rows s.taken row next_within ∙ ap (λ (x : Row). take s.taken plan.rows ++ x ∷ []) (get_or_from_slice_get plan.rows s.taken row row next.row_is) in
      ap (λ (x : List Row). keep_last (s.history + 1) (x ++ row ∷ [])) follows.rows
      ∙ keep_last_more (s.history + 1) (take s.taken plan.rows) row (omega arith)
      ∙ ap (keep_last (s.history + 1)) (sym one_more)

  -- and so they are those that the plan says
  rows_of_frame : carried_next s row ≡ rows_carried plan (s.taken + 1)
  rows_of_frame =
      let same = follows.history in
      let below = next_within in
      let count : length (take (s.taken + 1) plan.rows) ≡ s.taken + 1 = length-take-le (s.taken + 1) plan.rows (omega arith) in
      let place : length (take (s.taken + 1) plan.rows) - (s.history + 1) ≡ max 1 (s.taken + 1 - plan.history) - 1 = omega arith in
      rows_next ∙ ap (λ (n : ℕ). drop n (take (s.taken + 1) plan.rows)) place

  -- ---- the frames

  arriving-is : (twice : Bool) → twice ≡ repeats plan.link (s.taken + 1) → arriving s row twice ≡ on_its_way plan (s.taken + 1)
  arriving-is twice is = λ i. record {
    core = core_number (follows.cores i) (s.taken + 1);
    packet = spelling (Frame (s.taken + 1) (rows_of_frame i));
    copy = cond (is i) (Some (spelling (Frame (s.taken + 1) (rows_of_frame i)))) None;
  }

  -- what the next row gives is its frame, where the plan has it come
  given-is : (steps : ℕ) → given s row fate steps ≡ coming plan (s.taken + 1 + steps) (s.taken + 1)
  given-is steps =
      subst (λ (it : Fate). given s row it steps ≡ coming plan (s.taken + 1 + steps) (s.taken + 1)) (sym next.fate_is)
      (by (loses plan.link (s.taken + 1)) (repeats plan.link (s.taken + 1)) refl (let below = next_within in sends-not_lost plan (s.taken + 1) (omega arith) (omega arith)))
    where
      late : (d : ℕ) → eqb (s.taken + 1 + d) (s.taken + 1 + steps) ≡ eqb d steps
      late d = grind (arith, nat_tests)

      by : (b r : Bool) → r ≡ repeats plan.link (s.taken + 1) → sends plan (s.taken + 1) ≡ not b
          → given s row (cond b Lost (cond r (Twice (delays_by plan.link (s.taken + 1))) (Once (delays_by plan.link (s.taken + 1))))) steps
          ≡ coming plan (s.taken + 1 + steps) (s.taken + 1)
      by true r is sent = rw sent refl
      by false true is sent =
          rw (sent, late (delays_by plan.link (s.taken + 1))) (ap (λ (it : Arriving). cond (eqb (delays_by plan.link (s.taken + 1)) steps) (it ∷ []) []) (arriving-is true is))
      by false false is sent =
          rw (sent, late (delays_by plan.link (s.taken + 1))) (ap (λ (it : Arriving). cond (eqb (delays_by plan.link (s.taken + 1)) steps) (it ∷ []) []) (arriving-is false is))

  own-is : own s row fate ≡ coming plan (s.taken + 1) (s.taken + 1)
  own-is =
      let here : s.taken + 1 + 0 ≡ s.taken + 1 = omega arith in
      own-given s row fate ∙ given-is 0 ∙ ap (λ (step : ℕ). coming plan step (s.taken + 1)) here

  -- ---- what is held

  one_more : (step : ℕ) → held_for plan (s.taken + 1) step ≡ held_for plan s.taken step ++ coming plan step (s.taken + 1)
  one_more step =
      let count : s.taken + 1 ≡ suc s.taken = omega arith in
      ap (λ (n : ℕ). flat_map (coming plan step) (range_with_len 1 n)) count
      ∙ lists-suc (coming plan step) s.taken
      ∙ ap (λ (n : ℕ). flat_map (coming plan step) (range_with_len 1 s.taken) ++ coming plan step n) (sym count)

  held-at : (i : ℕ) → i < steps_ahead → get_or s.held i [] ≡ held_for plan s.taken (s.taken + 1 + i)
  unfolding held_of
  held-at i below =
      ap (λ (held : List (List Arriving)). get_or held i []) follows.held
      ∙ get_or-map-range_with_len (held_for plan s.taken) (s.taken + 1) steps_ahead i (s.taken + 1 + i) [] below refl

-- no frame comes later than the greatest delay says
too_late : (plan : Plan) (n step : ℕ) → IsPlan plan → n + greatest_delay < step → coming plan step n ≡ []
too_late plan n step is above =
    let near = delay_of-near plan.link.delays n is.is_link.delay_list.each in
    let other : eqb (comes_at plan n) step ≡ false = grind (arith, nat_tests) in
    let none : (sends plan n && eqb (comes_at plan n) step) ≡ false = grind (arith, nat_tests) in
    ap (λ (b : Bool). cond b (on_its_way plan n ∷ []) []) none

none_held : (plan : Plan) (n step : ℕ) → IsPlan plan → n + greatest_delay < step → held_for plan n step ≡ []
none_held plan zero step is above = refl
none_held plan (suc n) step is above =
    lists-suc (coming plan step) n
    ∙ ap (λ (its : List Arriving). its ++ coming plan step (suc n)) (none_held plan n step is (omega arith))
    ∙ too_late plan (suc n) step is above

module _ (plan : Plan) (s : Sequence) (row : Row) (fate : Fate) (follows : Follows plan s) (next : IsNext plan s row fate) where
  held-long : length s.held ≡ steps_ahead
  unfolding held_of
  held-long = ap length follows.held ∙ length-map-range_with_len (held_for plan s.taken) (s.taken + 1) steps_ahead

  held_then : drop 1 (held_next s row fate) ++ [] ∷ [] ≡ held_of plan (s.taken + 1)
  unfolding held_of
  held_then =
      let long = held-long in
      rotated (held_next s row fate) (held_for plan (s.taken + 1)) (s.taken + 1 + 1) greatest_delay steps_ahead
      (held_next-length s row fate ∙ held-long) refl
      (λ i early.
      let place : s.taken + 1 + (1 + i) ≡ s.taken + 1 + 1 + i = omega arith in
      held_next-at s row fate (1 + i) (omega arith) (omega arith)
      ∙ ap (λ (its : List Arriving). its ++ given s row fate (1 + i)) (held-at plan s row fate follows next (1 + i) (omega arith))
      ∙ ap (λ (its : List Arriving). held_for plan s.taken (s.taken + 1 + (1 + i)) ++ its) (given-is plan s row fate follows next (1 + i))
      ∙ sym (one_more plan s row fate follows next (s.taken + 1 + (1 + i)))
      ∙ ap (held_for plan (s.taken + 1)) place)
      (none_held plan (s.taken + 1) (s.taken + 1 + 1 + greatest_delay) follows.is_plan (omega arith))

  -- what is due is what comes at the next step
  pub due-is : due s row fate ≡ coming plan (s.taken + 1) (s.taken + 1) ++ held_for plan s.taken (s.taken + 1)
  due-is =
      let here : s.taken + 1 + 0 ≡ s.taken + 1 = omega arith in
      (λ i. own-is plan s row fate follows next i ++ held-at plan s row fate follows next 0 (omega arith) i)
      ∙ ap (λ (step : ℕ). coming plan (s.taken + 1) (s.taken + 1) ++ held_for plan s.taken step) here

  -- the fate of a frame that arrives isn't lost
  arrives : loses plan.link (s.taken + 1) ≡ false → fate ≢ Lost
  arrives free = λ lost. by (loses plan.link (s.taken + 1)) (repeats plan.link (s.taken + 1)) free (sym next.fate_is ∙ lost)
    where
      by : (b r : Bool) → b ≡ false
          → cond b Lost (cond r (Twice (delays_by plan.link (s.taken + 1))) (Once (delays_by plan.link (s.taken + 1)))) ≡ Lost → ⊥
      by true r free same = absurd cc
      by false true free same = absurd cc
      by false false free same = absurd cc

  pub fits_next : (fate ≢ Lost → HasSpelling (Frame (s.taken + 1) (carried_next s row)))
      → (n : ℕ) → n ≤ s.taken + 1 → sends plan n ≡ true → HasSpelling (frame plan n)
  fits_next fits n to sent =
      ⊎_elim
      (λ (newest : s.taken < n).
      let same : s.taken + 1 ≡ n = omega arith in
      let free : loses plan.link (s.taken + 1) ≡ false = ap (loses plan.link) same ∙ (sends-within plan n sent).2 in
      subst (λ (k : ℕ). HasSpelling (frame plan k)) same
      (subst (λ (rows : List Row). HasSpelling (Frame (s.taken + 1) rows)) (rows_of_frame plan s row fate follows next) (fits (arrives free))))
      (λ (older : n ≤ s.taken). follows.fits n older sent)
      (cases_lt s.taken n)

  pub follows_after : (fate ≢ Lost → HasSpelling (Frame (s.taken + 1) (carried_next s row)))
      → Follows plan (after s row fate)
  follows_after fits =
      let below = next_within plan s row fate follows next in
      record {
        is_plan = follows.is_plan;
        cores = follows.cores;
        history = follows.history;
        taken = omega arith;
        rows = rows_next plan s row fate follows next;
        held = held_then;
        fits = fits_next fits;
      }

-- ---- a new sequencer

no_frames : (f : ℕ → List Arriving) (a n : ℕ) → ((k : ℕ) → f k ≡ []) → replicate n [] ≡ map f (range_with_len a n)
no_frames f a zero none = refl
no_frames f a (suc n) none = λ i. sym (none a) i ∷ no_frames f (a + 1) n none i

-- it was given no row
pub follows_none : (plan : Plan) → IsPlan plan → Follows plan (begun plan.cores plan.history)
unfolding held_of nothing_held
follows_none plan is = record {
  is_plan = is;
  cores = refl;
  history = refl;
  taken = omega arith;
  rows = sym (drop-nil (0 - (plan.history + 1)));
  held = no_frames (held_for plan 0) 1 steps_ahead (λ k. refl);
  fits = λ n to sent. let from = (sends-within plan n sent).0 in absurd (omega arith);
}
