-- One lane more.
use Rattle.std.proofs.Common.{◌≡◌, ℕ, ◌+◌, ◌<◌, List, [], ◌∷◌, ◌++◌, length, get_or, true, false, sym, refl, ap, ◌∙◌, subst, ⊎_elim, arith, eqb, ◌≢◌}
use Rattle.std.proofs.lemmas.List.{length-append, get_or_append_left}
use Rattle.std.proofs.Math.Seq.{get_or-append_seam}
use Rattle.std.proofs.lemmas.Bool.Decides.{eqb_tells}
use Rattle.scr_plan.specs.Plan.{Plan}
use Rattle.scr_lane.specs.Messages.{Route, route}
use Rattle.scr_lane.specs.Ends.{End}
use Rattle.scr_feed.specs.Made.{AreEnds, AreLanes}

last_there : (xs : List (End Route)) (x d : End Route) (n : ℕ) → length xs ≡ n → get_or (xs ++ x ∷ []) n d ≡ x
last_there xs x d n long = ap (λ (k : ℕ). get_or (xs ++ x ∷ []) k d) (sym long) ∙ get_or-append_seam xs x [] d

pub one_more : (plan : Plan) (capacity count : ℕ) (sends receives : List (End Route)) (send receive : End Route) → AreLanes plan capacity count sends receives
    → AreEnds (route plan count) capacity send receive → AreLanes plan capacity (count + 1) (sends ++ send ∷ []) (receives ++ receive ∷ [])
one_more plan capacity count sends receives send receive lanes ends =
    let sends_long = lanes.all_sends in
    let receives_long = lanes.all_receives in
    record {
      all_sends = omega (arith, length-append sends (send ∷ []));
      all_receives = omega (arith, length-append receives (receive ∷ []));
      each = λ core s r within.
          ⊎_elim
          (λ (same : (eqb core count ≡ true) × (core ≡ count)).
          subst (λ (k : ℕ). AreEnds (route plan k) capacity (get_or (sends ++ send ∷ []) k s) (get_or (receives ++ receive ∷ []) k r)) (sym same.1)
          (subst (λ (z : End Route × End Route). AreEnds (route plan count) capacity z.0 z.1) (λ i. (sym (last_there sends send s count sends_long) i, sym (last_there receives receive r count receives_long) i)) ends))
          (λ (differ : (eqb core count ≡ false) × (core ≢ count)).
          let below : core < count = let no = differ.1 in omega arith in
          subst (λ (z : End Route × End Route). AreEnds (route plan core) capacity z.0 z.1)
          (λ i. (sym (get_or_append_left sends (send ∷ []) s core (omega arith)) i, sym (get_or_append_left receives (receive ∷ []) r core (omega arith)) i))
          (lanes.each core s r below))
          (eqb_tells core count);
    }

pub no_lanes : (plan : Plan) (capacity : ℕ) → AreLanes plan capacity 0 [] []
no_lanes plan capacity = record {
  all_sends = refl;
  all_receives = refl;
  each = λ core s r within. absurd (omega arith);
}
