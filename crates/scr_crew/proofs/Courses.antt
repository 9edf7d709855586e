-- The course of a core, verdict by verdict.
use Rattle.std.proofs.Common.{inl, inr, ◌≡◌, ℕ, ◌+◌, ◌≤◌, Bool, List, [], ◌∷◌, ◌++◌, length, Option, Some, None, Result, Ok, Err, refl, sym, ap, ◌∙◌, subst, arith, append_assoc}
use Rattle.std.specs.Prelude.{filter_map, is_ok, OnOk, OnErr, if◌then◌else◌}
use Rattle.std.specs.List.{range_with_len, cons_option, slice_get}
use Rattle.std.proofs.lemmas.List.{length-append, append-nil}
use Rattle.std.proofs.lemmas.List.FromFn.{length-range_with_len}
use Rattle.scr_base.specs.declared.row.Row.{Row}
use Rattle.scr_base.specs.declared.row.Verdict.{Verdict}
use Rattle.scr_plan.specs.declared.given.Given.{Given}
use Rattle.scr_plan.specs.Plan.{Plan, frame_count}
use Rattle.scr_lane.specs.Ends.{End, FoundNoRoom}
use Rattle.scr_replica.specs.OneCore.{given_at, given_to, course, course_up_to, verdicts}
use Rattle.scr_crew.specs.Verdicts.{StandsIn, HasMoved, IsToGet}

length-cons : {Y : Type 0} (o : Option Y) (ys : List Y) → length (cons_option o ys) ≤ length ys + 1
length-cons None ys = omega arith
length-cons (Some y) ys = omega arith

length-filter_map : {X Y : Type 0} (h : X → Option Y) (xs : List X) → length (filter_map h xs) ≤ length xs
length-filter_map h [] = omega arith
length-filter_map h (x ∷ xs) =
    let one = length-cons (h x) (filter_map h xs) in
    let more = length-filter_map h xs in
    omega arith

-- a core has at most a verdict for each frame
pub few_verdicts : (verdict_after : List Row → Row → Verdict) (plan : Plan) (core : ℕ) → length (course verdict_after plan core) ≤ frame_count plan
unfolding course_up_to
few_verdicts verdict_after plan core =
    omega (arith, length-filter_map (given_to verdict_after plan core) (range_with_len 1 (frame_count plan)), length-range_with_len 1 (frame_count plan))

-- so have all cores together
pub few_verdicts-all : (verdict_after : List Row → Row → Verdict) (plan : Plan) → length (verdicts verdict_after plan) ≤ frame_count plan
unfolding verdicts
few_verdicts-all verdict_after plan =
    omega (arith, length-filter_map (given_at verdict_after plan) (range_with_len 1 (frame_count plan)), length-range_with_len 1 (frame_count plan))

get-seam : (front rest : List Given) (given : Given) → slice_get (front ++ given ∷ rest) (length front) ≡ Some given
get-seam [] rest given = refl
get-seam (x ∷ front) rest given = get-seam front rest given

-- an end that has sent nothing is to get the whole course
pub is_to_get-all : (end : End (List Given)) (whole : List Given) → end.about ≡ whole → end.count ≡ 0 → IsToGet end whole whole
is_to_get-all end whole about unsent = record { about = about; front = []; parts = refl; count = unsent }

module _ (end : End (List Given)) (whole rest : List Given) where
  -- the verdict that is to come next stands at the next place
  pub comes-next : (given : Given) → IsToGet end whole (given ∷ rest) → StandsIn end.about end.count given
  comes-next given is =
      let P : List Given → ℕ → Type 0 = λ xs n. slice_get xs n ≡ Some given in
      subst (λ (n : ℕ). P end.about n) (sym is.count)
      (subst (λ (xs : List Given). P xs (length is.front)) (sym (is.about ∙ is.parts)) (get-seam is.front rest given))

  -- one that has sent it is to get the others
  pub gets-on : (given : Given) (new : End (List Given)) → IsToGet end whole (given ∷ rest) → HasMoved end new → IsToGet new whole rest
  gets-on given new is has =
      let looked : End (List Given) = has.0 in
      let same : (looked.about ≡ end.about) × (looked.count ≡ end.count) = elim has.1 [
        | inl e ↦ (ap (λ (x : End (List Given)). x.about) e, ap (λ (x : End (List Given)). x.count) e)
        | inr found ↦ (ap (λ (x : End (List Given)). x.about) found.1, ap (λ (x : End (List Given)). x.count) found.1)
      ] in
      record {
        about = ap (λ (x : End (List Given)). x.about) has.2 ∙ same.0 ∙ is.about;
        front = is.front ++ given ∷ [];
        parts = is.parts ∙ sym (append_assoc is.front (given ∷ []) rest);
        count =
            ap (λ (x : End (List Given)). x.count) has.2
            ∙ ap (λ (n : ℕ). n + 1) (same.1 ∙ is.count)
            ∙ sym (length-append is.front (given ∷ []));
      }

  -- one that refused it is still to get it
  pub gets-same : (new : End (List Given)) → new.about ≡ end.about → new.count ≡ end.count → IsToGet end whole rest → IsToGet new whole rest
  gets-same new about count is = record {
    about = about ∙ is.about;
    front = is.front;
    parts = is.parts;
    count = count ∙ is.count;
  }

-- one that is to get nothing more has sent the whole course
pub all-sent : (end : End (List Given)) (whole : List Given) → IsToGet end whole [] → end.count ≡ length whole
all-sent end whole is = is.count ∙ ap length (sym (append-nil is.front) ∙ sym is.parts)

-- what an end that was given a verdict is to get then, whether it took it or not
pub offered : (end new : End (List Given)) (whole rest : List Given) (given : Given) (result : Result (Unit {0}) Given) (taken : Bool)
    → taken ≡ is_ok result → OnOk result (HasMoved end new) → OnErr result (FoundNoRoom end new)
    → IsToGet end whole (given ∷ rest) → IsToGet new whole (if taken then rest else given ∷ rest)
offered end new whole rest given (Ok x) taken said moves stays is =
    subst (λ (b : Bool). IsToGet new whole (if b then rest else given ∷ rest)) (sym said) (gets-on end whole rest given new is moves)
offered end new whole rest given (Err x) taken said moves stays is =
    let found = stays.1 in
    subst (λ (b : Bool). IsToGet new whole (if b then rest else given ∷ rest)) (sym said)
    (gets-same end whole (given ∷ rest) new (ap (λ (e : End (List Given)). e.about) found) (ap (λ (e : End (List Given)). e.count) found) is)
