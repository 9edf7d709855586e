-- The verdicts of the cores, merged frame by frame.
use Rattle.std.proofs.Common.{◌≡◌, ◌≢◌, ℕ, zero, suc, ◌+◌, ◌-◌, ◌<◌, ◌≤◌, Bool, true, false, cond, ◌&&◌, List, [], ◌∷◌, ◌++◌, length, get_or, set, map, replicate, drop, inl, inr, Option, Some, None, option_to_list, arith, refl, sym, ap, ◌∙◌}
use Rattle.std.specs.Prelude.{filter_map, slice_get, MatchOption}
use Rattle.std.specs.List.{range_with_len, cons_option}
use Rattle.std.specs.Option.{option_map}
use Rattle.std.proofs.lemmas.Bool.{eq-eqb, cases_eq}
use Rattle.std.proofs.lemmas.List.{drop-drop, get_or-map, get_or-replicate, get_or-set_same, get_or-set_other, append-nil}
use Rattle.std.proofs.lemmas.List.FromFn.{get_or-map-range_with_len}
use Rattle.scr_base.specs.declared.row.Row.{Row}
use Rattle.scr_base.specs.declared.row.Verdict.{Verdict}
use Rattle.scr_plan.specs.Delivered.{delivers_to, core_number, delivers}
use Rattle.scr_plan.specs.declared.given.Given.{Given}
use Rattle.scr_plan.specs.Plan.{Plan, frame_count, row_of_packet}
use Rattle.scr_plan.specs.Counts.{plan_counts}
use Rattle.scr_plan.proofs.Delivering.{delivered_to-other}
use Rattle.scr_replica.specs.OneCore.{given_with, given_at, given_to, course, course_up_to, verdicts, entries}
use Rattle.scr_replica.specs.Answers.{CoreAnswer, courses, core_answer, core_answers}
use Rattle.scr_replica.proofs.Taking.{filter_map-more}

-- the element at a place is the first behind those before it
slice_get-first : (xs : List Given) (place : ℕ) → slice_get xs place ≡ slice_get (drop place xs) 0
slice_get-first [] zero = refl
slice_get-first [] (suc place) = refl
slice_get-first (x ∷ xs) zero = refl
slice_get-first (x ∷ xs) (suc place) = slice_get-first xs place

late_step : (a : ℕ) (o : Option Given) (tail : List Given) (g : Given) → ((first : Given) → o ≡ Some first → first.number ≡ a)
    → (slice_get tail 0 ≡ Some g → a + 1 ≤ g.number) → slice_get (cons_option o tail) 0 ≡ Some g → a ≤ g.number
late_step a None tail g number later e = let le = later e in omega arith
late_step a (Some first) tail g number later e =
    let one : first ≡ g = cc in
    let at = number first refl in
    omega (arith, at, ap (λ (x : Given). x.number) one)

-- the first verdict among those of later frames is that of a later frame
first_late : (h : ℕ → Option Given) → ((m : ℕ) (g : Given) → h m ≡ Some g → g.number ≡ m) → (k a : ℕ) (g : Given)
    → slice_get (filter_map h (range_with_len a k)) 0 ≡ Some g → a ≤ g.number
first_late h numbers zero a g e = absurd cc
first_late h numbers (suc k) a g e = late_step a (h a) (filter_map h (range_with_len (a + 1) k)) g (numbers a) (first_late h numbers k (a + 1) g) e

module _ (verdict_after : List Row → Row → Verdict) (plan : Plan) where
  -- the verdicts of a core from frame n on
  unfoldable pub rest : (core n : ℕ) → List Given
  rest core n = filter_map (given_to verdict_after plan core) (range_with_len n (frame_count plan + 1 - n))

  number_of_given : (b : Bool) (n : ℕ) (row : Option Row) (g : Given) → cond b (option_map (given_with verdict_after plan n) row) None ≡ Some g → g.number ≡ n
  number_of_given true n None g e = absurd cc
  number_of_given true n (Some row) g e = let same : given_with verdict_after plan n row ≡ g = cc in sym (ap (λ (x : Given). x.number) same)
  number_of_given false n row g e = absurd cc

  given_number : (core n : ℕ) (g : Given) → given_to verdict_after plan core n ≡ Some g → g.number ≡ n
  given_number core n g e = number_of_given (delivers_to plan core n) n (row_of_packet plan n) g e

  module _ (n : ℕ) (from : 1 ≤ n) (to : n ≤ frame_count plan) where
    rest-here : (core : ℕ) → rest core n ≡ cons_option (given_to verdict_after plan core n) (rest core (n + 1))
    unfolding rest
    rest-here core =
        let count : frame_count plan + 1 - n ≡ suc (frame_count plan - n) = omega arith in
        let later : frame_count plan - n ≡ frame_count plan + 1 - (n + 1) = omega arith in
        ap (λ (k : ℕ). filter_map (given_to verdict_after plan core) (range_with_len n k)) count
        ∙ ap (λ (k : ℕ). cons_option (given_to verdict_after plan core n) (filter_map (given_to verdict_after plan core) (range_with_len (n + 1) k))) later

    -- at a frame of another core nothing goes
    pub rest-other : (core : ℕ) → core_number plan.cores n ≢ core → rest core n ≡ rest core (n + 1)
    rest-other core other =
        rest-here core
        ∙ ap (λ (b : Bool). cons_option (cond b (option_map (given_with verdict_after plan n) (row_of_packet plan n)) None) (rest core (n + 1)))
        (delivered_to-other plan core n other)

    own_delivers : (core : ℕ) → core ≡ core_number plan.cores n → delivers_to plan core n ≡ delivers plan n
    unfolding delivers_to
    own_delivers core is =
        let same = eq-eqb (core_number plan.cores n) core (sym is) in
        let both : (b : Bool) → (b && true) ≡ b = elim [ true ↦ refl | false ↦ refl ] in
        ap (λ (b : Bool). delivers plan n && b) same ∙ both (delivers plan n)

    given-own : (core : ℕ) → core ≡ core_number plan.cores n → given_to verdict_after plan core n ≡ given_at verdict_after plan n
    given-own core is = ap (λ (b : Bool). cond b (option_map (given_with verdict_after plan n) (row_of_packet plan n)) None) (own_delivers core is)

    -- the verdict at the place of the frame's core
    module _ (core place : ℕ) (own : List Given) (is : core ≡ core_number plan.cores n) (left : drop place own ≡ rest core n) where
      first_is : slice_get own place ≡ slice_get (cons_option (given_to verdict_after plan core n) (rest core (n + 1))) 0
      first_is = slice_get-first own place ∙ ap (λ (xs : List Given). slice_get xs 0) (left ∙ rest-here core)

      first_of_rest : (g : Given) → slice_get (rest core (n + 1)) 0 ≡ Some g → n + 1 ≤ g.number
      unfolding rest
      first_of_rest g e = first_late (given_to verdict_after plan core) (given_number core) (frame_count plan + 1 - (n + 1)) (n + 1) g e

      -- it is the frame's
      pub taken : (g : Given) → slice_get own place ≡ Some g → g.number ≡ n
          → (given_at verdict_after plan n ≡ Some g) × (drop (place + 1) own ≡ rest core (n + 1))
      taken g there number = by_given (given_to verdict_after plan core n) refl
        where
          by_given : (o : Option Given) → given_to verdict_after plan core n ≡ o
              → (given_at verdict_after plan n ≡ Some g) × (drop (place + 1) own ≡ rest core (n + 1))
          by_given None e =
              let late = first_of_rest g
              (sym (ap (λ (o : Option Given). slice_get (cons_option o (rest core (n + 1))) 0) e) ∙ sym first_is ∙ there) in
              absurd (omega arith)
          by_given (Some first) e =
              let same : Some first ≡ Some g =
              sym (ap (λ (o : Option Given). slice_get (cons_option o (rest core (n + 1))) 0) e) ∙ sym first_is ∙ there in (
                sym (given-own core is) ∙ e ∙ same,
                sym (drop-drop 1 place own)
                    ∙ ap (drop 1) (left ∙ rest-here core ∙ ap (λ (o : Option Given). cons_option o (rest core (n + 1))) e),
              )

      -- it isn't
      pub passed : MatchOption (slice_get own place) (Unit {0}) (λ g. g.number ≢ n)
          → (given_at verdict_after plan n ≡ None) × (drop place own ≡ rest core (n + 1))
      passed other = by_given (given_to verdict_after plan core n) refl
        where
          by_given : (o : Option Given) → given_to verdict_after plan core n ≡ o
              → (given_at verdict_after plan n ≡ None) × (drop place own ≡ rest core (n + 1))
          by_given None e = (
            sym (given-own core is) ∙ e,
            left ∙ rest-here core ∙ ap (λ (o : Option Given). cons_option o (rest core (n + 1))) e,
          )
          by_given (Some first) e =
              let there : slice_get own place ≡ Some first =
              first_is ∙ ap (λ (o : Option Given). slice_get (cons_option o (rest core (n + 1))) 0) e in
              let number = given_number core n first e in
              absurd ((rw there at other) number)

-- the merged verdicts of the frames before n, and what each core has left at its place
pub record IsMerged (verdict_after : List Row → Row → Verdict) (plan : Plan) (n : ℕ) (places : List ℕ) (merged : List Given) : Type 0 where
  pub merged_is : merged ≡ filter_map (given_at verdict_after plan) (range_with_len 1 (n - 1))
  pub left : (core : ℕ) → core < plan.cores → drop (get_or places core 0) (course verdict_after plan core) ≡ rest verdict_after plan core n

module _ (verdict_after : List Row → Row → Verdict) (plan : Plan) where
  -- the verdicts of a core
  pub own_course : (results : List CoreAnswer) (core : ℕ) (d : CoreAnswer) → map (λ (it : CoreAnswer). it.verdicts) results ≡ courses verdict_after plan
      → length results ≡ plan.cores → core < plan.cores → (get_or results core d).verdicts ≡ course verdict_after plan core
  own_course results core d are count below =
      sym (get_or-map (λ (it : CoreAnswer). it.verdicts) results core d [] (omega arith))
      ∙ ap (λ (xs : List (List Given)). get_or xs core []) are
      ∙ get_or-map-range_with_len (course verdict_after plan) 0 plan.cores core core [] below (omega arith)

  pub IsMerged-none : (places : List ℕ) → places ≡ replicate plan.cores 0 → IsMerged verdict_after plan 1 places []
  unfolding rest course_up_to
  IsMerged-none places are =
      let all : frame_count plan ≡ frame_count plan + 1 - 1 = omega arith in
      record {
        merged_is = refl;
        left = λ core below.
            let place : get_or places core 0 ≡ 0 = ap (λ (xs : List ℕ). get_or xs core 0) are ∙ get_or-replicate plan.cores core 0 0 below in
            ap (λ (k : ℕ). drop k (course verdict_after plan core)) place
            ∙ ap (λ (k : ℕ). filter_map (given_to verdict_after plan core) (range_with_len 1 k)) all;
      }

  pub IsMerged-all : (n : ℕ) (places : List ℕ) (merged : List Given) → n ≡ frame_count plan + 1 → IsMerged verdict_after plan n places merged
      → merged ≡ verdicts verdict_after plan
  unfolding verdicts
  IsMerged-all n places merged end is =
      let all : n - 1 ≡ frame_count plan = omega arith in
      is.merged_is ∙ ap (λ (k : ℕ). filter_map (given_at verdict_after plan) (range_with_len 1 k)) all

  module _ (n : ℕ) (from : 1 ≤ n) (to : n ≤ frame_count plan) (places : List ℕ) (merged : List Given) (is : IsMerged verdict_after plan n places merged) where
    merged_more : (o : Option Given) → given_at verdict_after plan n ≡ o
        → merged ++ option_to_list o ≡ filter_map (given_at verdict_after plan) (range_with_len 1 (n + 1 - 1))
    merged_more o e =
        let here : n ≡ n + 1 - 1 = omega arith in
        ap (λ (xs : List Given). xs ++ option_to_list o) is.merged_is
        ∙ ap (λ (x : Option Given). filter_map (given_at verdict_after plan) (range_with_len 1 (n - 1)) ++ option_to_list x) (sym e)
        ∙ sym (filter_map-more (given_at verdict_after plan) (n - 1) n (omega arith))
        ∙ ap (λ (k : ℕ). filter_map (given_at verdict_after plan) (range_with_len 1 k)) here

    module _ (core : ℕ) (own : List Given) (core-is : core ≡ core_number plan.cores n) (below : core < plan.cores) (own-is : own ≡ course verdict_after plan core) where
      left_own : drop (get_or places core 0) own ≡ rest verdict_after plan core n
      left_own = ap (drop (get_or places core 0)) own-is ∙ is.left core below

      -- the next verdict of the frame's core is the frame's
      pub IsMerged-taken : (g : Given) → core < length places → slice_get own (get_or places core 0) ≡ Some g → g.number ≡ n
          → IsMerged verdict_after plan (n + 1) (set places core (get_or places core 0 + 1)) (merged ++ g ∷ [])
      IsMerged-taken g within there number =
          let both = taken verdict_after plan n from to core (get_or places core 0) own core-is left_own g there number in
          record {
            merged_is = merged_more (Some g) both.0;
            left = λ other other_below.
                elim (cases_eq other core) as (λ _. drop (get_or (set places core (get_or places core 0 + 1)) other 0) (course verdict_after plan other) ≡ rest verdict_after plan other (n + 1)) [
                  | inl same ↦ (
                      let place : get_or (set places core (get_or places core 0 + 1)) other 0 ≡ get_or places core 0 + 1 =
                      ap (λ (k : ℕ). get_or (set places core (get_or places core 0 + 1)) k 0) same
                      ∙ get_or-set_same places core (get_or places core 0 + 1) 0 within in
                      ap (λ (k : ℕ). drop k (course verdict_after plan other)) place
                      ∙ ap (λ (k : ℕ). drop (get_or places core 0 + 1) (course verdict_after plan k)) same
                      ∙ ap (drop (get_or places core 0 + 1)) (sym own-is)
                      ∙ both.1
                      ∙ ap (λ (k : ℕ). rest verdict_after plan k (n + 1)) (sym same))
                  | inr apart ↦
                      ap (λ (k : ℕ). drop k (course verdict_after plan other)) (get_or-set_other places core other (get_or places core 0 + 1) 0 apart)
                      ∙ is.left other other_below
                      ∙ rest-other verdict_after plan n from to other (λ e. apart (sym e ∙ sym core-is))
                ];
          }

      -- or it isn't
      pub IsMerged-passed : MatchOption (slice_get own (get_or places core 0)) (Unit {0}) (λ g. g.number ≢ n) → IsMerged verdict_after plan (n + 1) places merged
      IsMerged-passed later =
          let both = passed verdict_after plan n from to core (get_or places core 0) own core-is left_own later in
          record {
            merged_is = sym (append-nil merged) ∙ merged_more None both.0;
            left = λ other other_below.
                elim (cases_eq other core) as (λ _. drop (get_or places other 0) (course verdict_after plan other) ≡ rest verdict_after plan other (n + 1)) [
                  | inl same ↦
                      ap (λ (k : ℕ). drop (get_or places k 0) (course verdict_after plan k)) same
                      ∙ ap (drop (get_or places core 0)) (sym own-is)
                      ∙ both.1
                      ∙ ap (λ (k : ℕ). rest verdict_after plan k (n + 1)) (sym same)
                  | inr apart ↦ is.left other other_below ∙ rest-other verdict_after plan n from to other (λ e. apart (sym e ∙ sym core-is))
                ];
          }

-- ---- all answers together

map-of_map : {A B C : Type 0} (f : B → C) (g : A → B) (xs : List A) → map f (map g xs) ≡ map (λ x. f (g x)) xs
map-of_map f g [] = refl
map-of_map f g (x ∷ xs) = ap (λ (ys : List _). f (g x) ∷ ys) (map-of_map f g xs)

module _ (verdict_after : List Row → Row → Verdict) (count_after : List Row → ℕ) (plan : Plan) where
  pub courses_of : (results : List CoreAnswer) → results ≡ core_answers verdict_after count_after plan
      → map (λ (it : CoreAnswer). it.verdicts) results ≡ courses verdict_after plan
  courses_of results are =
      ap (map (λ (it : CoreAnswer). it.verdicts)) are
      ∙ map-of_map (λ (it : CoreAnswer). it.verdicts) (core_answer verdict_after count_after plan) (range_with_len 0 plan.cores)

  pub counts_of : (results : List CoreAnswer) → results ≡ core_answers verdict_after count_after plan
      → map (λ (it : CoreAnswer). it.counts) results ≡ map (plan_counts plan) (range_with_len 0 plan.cores)
  counts_of results are =
      ap (map (λ (it : CoreAnswer). it.counts)) are
      ∙ map-of_map (λ (it : CoreAnswer). it.counts) (core_answer verdict_after count_after plan) (range_with_len 0 plan.cores)

  pub flows_of : (results : List CoreAnswer) (d : CoreAnswer) → results ≡ core_answers verdict_after count_after plan → 1 ≤ plan.cores
      → (get_or results 0 d).flows ≡ entries count_after plan
  flows_of results d are some =
      ap (λ (xs : List CoreAnswer). (get_or xs 0 d).flows) are
      ∙ ap (λ (it : CoreAnswer). it.flows) (get_or-map-range_with_len (core_answer verdict_after count_after plan) 0 plan.cores 0 0 d some (omega arith))
