-- The verdict of a frame is taken where it comes by the lane of its core.
use Rattle.std.proofs.Common.{◌≡◌, ◌≢◌, ℕ, zero, suc, ◌+◌, ◌-◌, ◌<◌, ◌≤◌, Bool, false, cond, ◌&&◌, ◌==◌, List, [], ◌∷◌, length, get_or, set, drop, inl, inr, Option, Some, None, arith, refl, sym, ap, ◌∙◌, subst}
use Rattle.std.specs.Prelude.{filter_map, MatchOption, IfSome, OnSome}
use Rattle.std.specs.List.{range_with_len, cons_option, slice_get}
use Rattle.std.specs.Option.{option_map}
use Rattle.std.proofs.lemmas.Bool.{cases_eq}
use Rattle.std.proofs.lemmas.List.{length-set, get_or-set_same, get_or-set_other}
use Rattle.scr_base.specs.declared.row.Row.{Row}
use Rattle.scr_base.specs.declared.row.Verdict.{Verdict}
use Rattle.scr_plan.specs.declared.given.Given.{Given}
use Rattle.scr_plan.specs.Delivered.{delivers_to, core_number, delivers}
use Rattle.scr_plan.specs.Plan.{Plan, frame_count, row_of_packet}
use Rattle.scr_lane.specs.Ends.{End, FoundNothing}
use Rattle.scr_replica.specs.OneCore.{given_with, given_at, given_to, verdicts, course_up_to}
use Rattle.scr_replica.proofs.InOrder.{rest, rest-other, taken, passed}
use Rattle.scr_crew.specs.Verdicts.{StandsIn, HasMoved, IsNewVerdictEnd}
use Rattle.scr_crew.specs.Takings.{AreToCome, verdicts_from, course_from, still_to_come}

-- ---- one lane

drop-get : (xs : List Given) (n : ℕ) (given : Given) → slice_get xs n ≡ Some given → drop n xs ≡ given ∷ drop (suc n) xs
drop-get [] n given e = absurd cc
drop-get (x ∷ xs) zero given e = let same : x ≡ given = cc in ap (λ (y : Given). y ∷ xs) same
drop-get (x ∷ xs) (suc n) given e = drop-get xs n given e

-- the verdict that is taken stood first among those to come
pub first-taken : (old new : End (List Given)) (given : Given) → StandsIn old.about old.count given → HasMoved old new
    → still_to_come old None ≡ given ∷ still_to_come new None
first-taken old new given stands has =
    let looked : End (List Given) = has.0 in
    let same : (looked.about ≡ old.about) × (looked.count ≡ old.count) = elim has.1 [
      | inl e ↦ (ap (λ (x : End (List Given)). x.about) e, ap (λ (x : End (List Given)). x.count) e)
      | inr found ↦ (ap (λ (x : End (List Given)). x.about) found.1, ap (λ (x : End (List Given)). x.count) found.1)
    ] in
    let about : new.about ≡ old.about = ap (λ (x : End (List Given)). x.about) has.2 ∙ same.0 in
    let count : new.count ≡ old.count + 1 = ap (λ (x : End (List Given)). x.count) has.2 ∙ ap (λ (n : ℕ). n + 1) same.1 in
    let next : suc old.count ≡ new.count = omega (arith, count) in
    drop-get old.about old.count given stands
    ∙ ap (λ (n : ℕ). given ∷ drop n old.about) next
    ∙ ap (λ (xs : List Given). given ∷ drop new.count xs) (sym about)

-- the same over what a try to take gave, where none was held
pub first-of : (old new : End (List Given)) (held result : Option Given) → held ≡ None → IfSome result (StandsIn old.about old.count) → OnSome result (HasMoved old new)
    → IfSome result (λ given. still_to_come old held ≡ given ∷ still_to_come new None)
first-of old new (Some given) result none stands has = absurd cc
first-of old new None None none stands has = tt
first-of old new None (Some given) none stands has = first-taken old new given stands has

-- where nothing is found, the same is to come
pub none-taken : (old new : End (List Given)) → FoundNothing old new → still_to_come new None ≡ still_to_come old None
none-taken old new found =
    ap (λ (x : End (List Given)). drop x.count x.about) found.1

module _ (verdict_after : List Row → Row → Verdict) (plan : Plan) where
  frames-from-1 : frame_count plan + 1 - 1 ≡ frame_count plan
  frames-from-1 = omega arith

  -- of a new end the whole course is to come
  pub all-to_come : (core : ℕ) (end : End (List Given)) → IsNewVerdictEnd verdict_after plan core end → still_to_come end None ≡ course_from verdict_after plan core 1
  unfolding course_from course_up_to
  all-to_come core end new =
      ap (λ (n : ℕ). drop n end.about) new.unmoved
      ∙ new.about
      ∙ ap (λ (k : ℕ). filter_map (given_to verdict_after plan core) (range_with_len 1 k)) (sym frames-from-1)

  -- from frame 1 on it is all verdicts
  pub verdicts-from-1 : verdicts_from verdict_after plan 1 ≡ verdicts verdict_after plan
  unfolding verdicts_from verdicts
  verdicts-from-1 = ap (λ (k : ℕ). filter_map (given_at verdict_after plan) (range_with_len 1 k)) frames-from-1

  -- behind the last frame there is none
  pub verdicts-from-end : (n : ℕ) → frame_count plan < n → verdicts_from verdict_after plan n ≡ []
  unfolding verdicts_from
  verdicts-from-end n behind =
      let none : frame_count plan + 1 - n ≡ 0 = omega arith in
      ap (λ (k : ℕ). filter_map (given_at verdict_after plan) (range_with_len n k)) none

  rest-is : (core n : ℕ) → rest verdict_after plan core n ≡ course_from verdict_after plan core n
  unfolding rest course_from
  rest-is core n = refl

  module _ (n : ℕ) (from : 1 ≤ n) (to : n ≤ frame_count plan) where
    from-here : (h : ℕ → Option Given) → filter_map h (range_with_len n (frame_count plan + 1 - n)) ≡ cons_option (h n) (filter_map h (range_with_len (n + 1) (frame_count plan + 1 - (n + 1))))
    from-here h =
        let count : frame_count plan + 1 - n ≡ suc (frame_count plan - n) = omega arith in
        let later : frame_count plan - n ≡ frame_count plan + 1 - (n + 1) = omega arith in
        ap (λ (k : ℕ). filter_map h (range_with_len n k)) count
        ∙ ap (λ (k : ℕ). cons_option (h n) (filter_map h (range_with_len (n + 1) k))) later

    verdicts-here : (o : Option Given) → given_at verdict_after plan n ≡ o → verdicts_from verdict_after plan n ≡ cons_option o (verdicts_from verdict_after plan (n + 1))
    unfolding verdicts_from
    verdicts-here o e = from-here (given_at verdict_after plan) ∙ ap (λ (x : Option Given). cons_option x (filter_map (given_at verdict_after plan) (range_with_len (n + 1) (frame_count plan + 1 - (n + 1))))) e

    course-other : (core : ℕ) → core_number plan.cores n ≢ core → course_from verdict_after plan core n ≡ course_from verdict_after plan core (n + 1)
    course-other core other = sym (rest-is core n) ∙ rest-other verdict_after plan n from to core other ∙ rest-is core (n + 1)

    not-to : (core : ℕ) → delivers plan n ≡ false → delivers_to plan core n ≡ false
    unfolding delivers_to
    not-to core lost = ap (λ (b : Bool). b && (core_number plan.cores n == core)) lost

    course-none : (core : ℕ) → delivers plan n ≡ false → course_from verdict_after plan core n ≡ course_from verdict_after plan core (n + 1)
    unfolding course_from
    course-none core lost =
        from-here (given_to verdict_after plan core)
        ∙ ap (λ (b : Bool). cons_option (cond b (option_map (given_with verdict_after plan n) (row_of_packet plan n)) None) (filter_map (given_to verdict_after plan core) (range_with_len (n + 1) (frame_count plan + 1 - (n + 1))))) (not-to core lost)

    module _ (lists : List (List Given)) (coming : AreToCome verdict_after plan (record { next = n; to_come = lists })) where
      -- no verdict of the frame comes: it isn't delivered
      pub absent : delivers plan n ≡ false → (verdicts_from verdict_after plan n ≡ verdicts_from verdict_after plan (n + 1)) × AreToCome verdict_after plan (record { next = n + 1; to_come = lists })
      absent lost = (
        verdicts-here None (ap (λ (b : Bool). cond b (option_map (given_with verdict_after plan n) (row_of_packet plan n)) None) lost),
        record {
          from = omega arith;
          to = omega arith;
          each = record {
            all = coming.each.all;
            each = λ core item below. coming.each.each core item below ∙ course-none core lost;
          };
        },
      )

      module _ (core : ℕ) (is : core ≡ core_number plan.cores n) (below : core < plan.cores) where
        own-left : drop 0 (get_or lists core []) ≡ rest verdict_after plan core n
        own-left = coming.each.each core [] below ∙ sym (rest-is core n)

        -- the frame's verdict comes by the lane of its core
        pub its : (given : Given) (after : List Given) → get_or lists core [] ≡ given ∷ after → given.number ≡ n
            → (verdicts_from verdict_after plan n ≡ given ∷ verdicts_from verdict_after plan (n + 1)) × AreToCome verdict_after plan (record { next = n + 1; to_come = set lists core after })
        its given after first number =
            let both = taken verdict_after plan n from to core 0 (get_or lists core []) is own-left given (ap (λ (xs : List Given). slice_get xs 0) first) number in
            let left : after ≡ course_from verdict_after plan core (n + 1) = ap (drop 1) (sym first) ∙ both.1 ∙ rest-is core (n + 1) in
            let all : length lists ≡ plan.cores = coming.each.all in (
              verdicts-here (Some given) both.0,
              record {
                from = omega arith;
                to = omega arith;
                each = record {
                  all = length-set lists core after ∙ all;
                  each = λ other item other-below.
                      elim (cases_eq other core) as (λ _. get_or (set lists core after) other item ≡ course_from verdict_after plan other (n + 1)) [
                        | inl same ↦
                            ap (λ (k : ℕ). get_or (set lists core after) k item) same
                            ∙ get_or-set_same lists core after item (omega arith)
                            ∙ left
                            ∙ ap (λ (k : ℕ). course_from verdict_after plan k (n + 1)) (sym same)
                        | inr apart ↦
                            get_or-set_other lists core other after item apart
                            ∙ coming.each.each other item other-below
                            ∙ course-other other (λ e. apart (sym e ∙ sym is))
                      ];
                };
              },
            )

        -- a later one comes, so the frame isn't delivered
        pub later : (given : Given) (after : List Given) → get_or lists core [] ≡ given ∷ after → (given.number ≡ n → ⊥)
            → (verdicts_from verdict_after plan n ≡ verdicts_from verdict_after plan (n + 1)) × AreToCome verdict_after plan (record { next = n + 1; to_come = lists })
        later given after first other =
            let P : List Given → Type 0 = λ xs. MatchOption (slice_get xs 0) (Unit {0}) (λ g. g.number ≢ n) in
            let both = passed verdict_after plan n from to core 0 (get_or lists core []) is own-left (subst P (sym first) other) in (
              verdicts-here None both.0,
              record {
                from = omega arith;
                to = omega arith;
                each = record {
                  all = coming.each.all;
                  each = λ one item one-below.
                      elim (cases_eq one core) as (λ _. get_or lists one item ≡ course_from verdict_after plan one (n + 1)) [
                        | inl same ↦
                            coming.each.each one item one-below
                            ∙ ap (λ (k : ℕ). course_from verdict_after plan k n) same
                            ∙ sym (rest-is core n)
                            ∙ sym own-left
                            ∙ both.1
                            ∙ rest-is core (n + 1)
                            ∙ ap (λ (k : ℕ). course_from verdict_after plan k (n + 1)) (sym same)
                        | inr apart ↦ coming.each.each one item one-below ∙ course-other one (λ e. apart (sym e ∙ sym is))
                      ];
                };
              },
            )
