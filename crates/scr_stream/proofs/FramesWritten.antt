-- The frames in the stream of a plan: they stand in it, in front of its end, and tell what is delivered and the rows that
-- are kept.
use Rattle.std.proofs.Common.{◌≡◌, ◌≢◌, ◌⊎◌, ℕ, zero, suc, ◌+◌, ◌<◌, ◌≤◌, Bool, true, false, cond, ◌||◌, List, [], ◌∷◌, ◌++◌, All, Option, Some, None, refl, sym, ap, subst, ◌∙◌, append_assoc, inl, inr, arith, eqb}
use Rattle.std.specs.List.{flat_map, range_with_len}
use Rattle.std.proofs.lemmas.Bool.{cases_lt}
use Rattle.std.proofs.lemmas.Bool.Decides.{nat_tests}
use Rattle.std.proofs.lemmas.List.Concat.{flat_map-cons}
use Rattle.scr_base.specs.declared.row.Row.{Row}
use Rattle.scr_plan.specs.Plan.{Plan, IsPlan, frame_count}
use Rattle.scr_plan.specs.Delivered.{delivers}
use Rattle.scr_wire.specs.Lane.{frame}
use Rattle.scr_wire.specs.Spelling.{IsRow, spelling}
use Rattle.scr_stream.specs.Streamed.{frame_at}
use Rattle.scr_stream.specs.Frames.{StreamFrame, carried_row, first_of, row_in, has_frame, last_number}
use Rattle.scr_stream.specs.Reading.{BeginWith}
use Rattle.scr_stream.proofs.RowsWritten.{written, Agrees, Agrees-first, Earlier, Earlier-past, Earlier-more, written-agrees, written-follows}

-- those of the n frames from a on that are delivered
abbrev pub written_from : Plan → (a n : ℕ) → List StreamFrame
written_from plan a zero = []
written_from plan a (suc n) = cond (delivers plan a) (written plan a ∷ written_from plan (a + 1) n) (written_from plan (a + 1) n)

-- ---- they stand in front of what follows

bytes-there : (plan : Plan) (a n : ℕ) (rest : List ℕ) → delivers plan a ≡ true
    → flat_map (frame_at plan) (range_with_len a (suc n)) ++ rest ≡ spelling (frame plan a) ++ (flat_map (frame_at plan) (range_with_len (a + 1) n) ++ rest)
unfolding frame_at
bytes-there plan a n rest told =
    let behind : List ℕ = flat_map (frame_at plan) (range_with_len (a + 1) n) in
    ap (λ (t : List ℕ). t ++ rest) (flat_map-cons (frame_at plan) a (range_with_len (a + 1) n))
    ∙ ap (λ (b : Bool). (cond b (spelling (frame plan a)) [] ++ behind) ++ rest) told
    ∙ append_assoc (spelling (frame plan a)) behind rest

no-bytes-there : (plan : Plan) (a n : ℕ) (rest : List ℕ) → delivers plan a ≡ false
    → flat_map (frame_at plan) (range_with_len a (suc n)) ++ rest ≡ flat_map (frame_at plan) (range_with_len (a + 1) n) ++ rest
unfolding frame_at
no-bytes-there plan a n rest told =
    let behind : List ℕ = flat_map (frame_at plan) (range_with_len (a + 1) n) in
    ap (λ (t : List ℕ). t ++ rest) (flat_map-cons (frame_at plan) a (range_with_len (a + 1) n))
    ∙ ap (λ (b : Bool). (cond b (spelling (frame plan a)) [] ++ behind) ++ rest) told

module _ (plan : Plan) (is : IsPlan plan) (fits : All IsRow plan.rows) (rest : List ℕ) where
  pub written-begin : (a n : ℕ) (earlier : List StreamFrame) → 1 ≤ a → a + n ≤ frame_count plan + 1 → Earlier plan a earlier
      → BeginWith plan.history earlier (written_from plan a n) (flat_map (frame_at plan) (range_with_len a n) ++ rest) rest
  written-begin a zero earlier from within so_far = refl
  written-begin a (suc n) earlier from within so_far =
      by (delivers plan a) refl (λ frames more. written-begin (a + 1) n frames (omega arith) (omega arith) more)
    where
      by : (b : Bool) → delivers plan a ≡ b
          → ((frames : List StreamFrame) → Earlier plan (a + 1) frames
          → BeginWith plan.history frames (written_from plan (a + 1) n) (flat_map (frame_at plan) (range_with_len (a + 1) n) ++ rest) rest)
          → BeginWith plan.history earlier (cond b (written plan a ∷ written_from plan (a + 1) n) (written_from plan (a + 1) n))
          (flat_map (frame_at plan) (range_with_len a (suc n)) ++ rest) rest
      by true told behind = (
        flat_map (frame_at plan) (range_with_len (a + 1) n) ++ rest,
        bytes-there plan a n rest told,
        written-follows plan a earlier is fits from (omega arith) so_far,
        behind (earlier ++ written plan a ∷ []) (Earlier-more plan a earlier (omega arith) so_far),
      )
      by false told behind =
          subst (λ (t : List ℕ). BeginWith plan.history earlier (written_from plan (a + 1) n) t rest) (sym (no-bytes-there plan a n rest told))
          (behind earlier (Earlier-past plan a earlier so_far))

-- ---- their numbers

none-below : (plan : Plan) (a n m : ℕ) → m < a → has_frame (written_from plan a n) m ≡ false
none-below plan a zero m below = refl
none-below plan a (suc n) m below = by (delivers plan a) (none-below plan (a + 1) n m (omega arith))
  where
    by : (b : Bool) → has_frame (written_from plan (a + 1) n) m ≡ false
        → has_frame (cond b (written plan a ∷ written_from plan (a + 1) n) (written_from plan (a + 1) n)) m ≡ false
    by true behind =
        let other : eqb a m ≡ false = grind (arith, nat_tests) in
        ap (λ (b : Bool). b || has_frame (written_from plan (a + 1) n) m) other ∙ behind
    by false behind = behind

-- one of them has number m exactly where frame m is delivered
pub written-numbers : (plan : Plan) (a n m : ℕ) → a ≤ m → m < a + n → has_frame (written_from plan a n) m ≡ delivers plan m
written-numbers plan a zero m from to = absurd (omega arith)
written-numbers plan a (suc n) m from to =
    by (delivers plan a) refl (cases_lt a m) (λ less. written-numbers plan (a + 1) n m (omega arith) (omega arith))
  where
    by : (b : Bool) → delivers plan a ≡ b → (a < m) ⊎ (m ≤ a) → ((a < m) → has_frame (written_from plan (a + 1) n) m ≡ delivers plan m)
        → has_frame (cond b (written plan a ∷ written_from plan (a + 1) n) (written_from plan (a + 1) n)) m ≡ delivers plan m
    by true told (inl less) behind =
        let other : eqb a m ≡ false = grind (arith, nat_tests) in
        ap (λ (b : Bool). b || has_frame (written_from plan (a + 1) n) m) other ∙ behind less
    by true told (inr le) behind =
        let same : a ≡ m = omega arith in
        let here : eqb a m ≡ true = grind (arith, nat_tests) in
        ap (λ (b : Bool). b || has_frame (written_from plan (a + 1) n) m) here ∙ sym told ∙ ap (delivers plan) same
    by false told (inl less) behind = behind less
    by false told (inr le) behind =
        let same : a ≡ m = omega arith in
        none-below plan (a + 1) n m (omega arith) ∙ sym told ∙ ap (delivers plan) same

pub written-last : (plan : Plan) (a n : ℕ) → 1 ≤ a → last_number (written_from plan a n) < a + n
unfolding last_number
written-last plan a zero from = omega arith
written-last plan a (suc n) from = by (delivers plan a) (written-last plan (a + 1) n (omega arith))
  where
    by : (b : Bool) → last_number (written_from plan (a + 1) n) < a + 1 + n
        → last_number (cond b (written plan a ∷ written_from plan (a + 1) n) (written_from plan (a + 1) n)) < a + suc n
    by true behind = omega arith
    by false behind = omega arith

-- ---- their rows

pub written-rows : (plan : Plan) (a n p : ℕ) → a + n ≤ frame_count plan + 1 → Agrees plan p (row_in (written_from plan a n) p)
unfolding row_in
written-rows plan a zero p within = inl refl
written-rows plan a (suc n) p within = by (delivers plan a) (written-rows plan (a + 1) n p (omega arith))
  where
    by : (b : Bool) → Agrees plan p (row_in (written_from plan (a + 1) n) p)
        → Agrees plan p (row_in (cond b (written plan a ∷ written_from plan (a + 1) n) (written_from plan (a + 1) n)) p)
    by true behind =
        Agrees-first plan p (carried_row (written plan a) p) (row_in (written_from plan (a + 1) n) p)
        (written-agrees plan a p (omega arith)) behind
    by false behind = behind

first-there : (a b : Option Row) → a ≢ None → first_of a b ≢ None
first-there None b there = absurd (there refl)
first-there (Some row) b there = λ e. absurd cc

first-or_second : (a b : Option Row) → b ≢ None → first_of a b ≢ None
first-or_second None b there = there
first-or_second (Some row) b there = λ e. absurd cc

-- a row that frame m carries is there, where the frame is delivered
pub written-there : (plan : Plan) (a n m p : ℕ) → a ≤ m → m < a + n → delivers plan m ≡ true → carried_row (written plan m) p ≢ None
    → row_in (written_from plan a n) p ≢ None
unfolding row_in
written-there plan a zero m p from to delivered there = absurd (omega arith)
written-there plan a (suc n) m p from to delivered there =
    by (delivers plan a) refl (cases_lt a m) (λ less. written-there plan (a + 1) n m p (omega arith) (omega arith) delivered there)
  where
    by : (b : Bool) → delivers plan a ≡ b → (a < m) ⊎ (m ≤ a) → ((a < m) → row_in (written_from plan (a + 1) n) p ≢ None)
        → row_in (cond b (written plan a ∷ written_from plan (a + 1) n) (written_from plan (a + 1) n)) p ≢ None
    by true told (inl less) behind = first-or_second (carried_row (written plan a) p) (row_in (written_from plan (a + 1) n) p) (behind less)
    by true told (inr le) behind =
        let same : m ≡ a = omega arith in
        first-there (carried_row (written plan a) p) (row_in (written_from plan (a + 1) n) p)
        (subst (λ (k : ℕ). carried_row (written plan k) p ≢ None) same there)
    by false told (inl less) behind = behind less
    by false told (inr le) behind =
        let same : a ≡ m = omega arith in
        let both : false ≡ true = sym told ∙ ap (delivers plan) same ∙ delivered in
        absurd cc
