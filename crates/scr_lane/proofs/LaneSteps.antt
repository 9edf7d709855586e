-- Each step on the queue keeps its rule.
use Rattle.std.proofs.Common.{◌≡◌, ℕ, ◌+◌, ◌<◌, ◌≤◌, ◌⊎◌, List, [], ◌∷◌, ◌++◌, length, set, sym, refl, ap, ◌∙◌, subst, inl, inr, ⊎_elim, arith, length-append}
use mathlib.Core.Option.{some}
use lib.ListN.{get_elem?}
use Rattle.crossbeam_queue.specs.Fifo.{Pushes, Pops, Forks}
use Rattle.scr_lane.specs.declared.view.Role.TheVariants.{Both, Sender, Receiver}
use Rattle.scr_lane.specs.declared.view.Hand.{Hand}
use Rattle.scr_lane.specs.Views.{hand, blank}
use Rattle.scr_lane.specs.LaneRule.{FitFrom, IsBlank, IsUnderWay, InLane}
use Rattle.scr_lane.proofs.TwoViews.{one_there, two_there}

-- one item more behind those that fit
fit_snoc : {T : Type 0} (fits : ℕ → T → Type 0) (place : ℕ) (items : List T) (item : T) → FitFrom fits place items → fits (place + length items) item
    → FitFrom fits place (items ++ item ∷ [])
fit_snoc fits place [] item all it = let here : place + 0 ≡ place = omega arith in (subst (λ (k : ℕ). fits k item) here it, tt)
fit_snoc fits place (x ∷ items) item all it =
    let there : place + length (x ∷ items) ≡ (place + 1) + length items = omega arith in
    (all.0, fit_snoc fits (place + 1) items item all.1 (subst (λ (k : ℕ). fits k item) there it))

module _ {A : Type 0} where
  blank_there : {T : Type 0} (nothing : A) (items : List T) (views : List (Hand A)) → IsBlank nothing items views → (id : ℕ) (v : Hand A) → get_elem? views id ≡ some v → (id ≡ 0) × (blank nothing ≡ v)
  blank_there nothing items views h id v at = one_there (blank nothing) v id (ap (λ (l : List (Hand A)). get_elem? l id) (sym h.pass) ∙ at)

  set_first : (views : List (Hand A)) (a b w : Hand A) (id : ℕ) → views ≡ a ∷ b ∷ [] → id ≡ 0 → set views id w ≡ w ∷ b ∷ []
  set_first views a b w id e z = ap (λ (l : List (Hand A)). set l id w) e ∙ ap (λ (i : ℕ). set (a ∷ b ∷ []) i w) z

  set_second : (views : List (Hand A)) (a b w : Hand A) (id : ℕ) → views ≡ a ∷ b ∷ [] → id ≡ 1 → set views id w ≡ a ∷ w ∷ []
  set_second views a b w id e z = ap (λ (l : List (Hand A)). set l id w) e ∙ ap (λ (i : ℕ). set (a ∷ b ∷ []) i w) z

module _ {T A : Type 0} (total : A → ℕ) (fits : A → ℕ → T → Type 0) (nothing : A) where
  abbrev Rule : List T → List (Hand A) → Type 0
  Rule = InLane total fits nothing

  abbrev Way : List T → List (Hand A) → Type 0
  Way = IsUnderWay total fits

  -- which end's view it is
  ends : (items : List T) (views : List (Hand A)) (p : Way items views) (id : ℕ) (v : Hand A) → get_elem? views id ≡ some v
      → ((id ≡ 0) × (hand Sender p.about p.capacity p.sent ≡ v)) ⊎ ((id ≡ 1) × (hand Receiver p.about p.capacity p.taken ≡ v))
  ends items views p id v at = two_there _ _ v id (ap (λ (l : List (Hand A)). get_elem? l id) (sym p.ends) ∙ at)

  pub begins : Rule [] (blank nothing ∷ [])
  begins = inl record { pass = refl; empty = refl }

  -- the ends get one lane and one capacity
  pub parts : (id : ℕ) (v : Hand A) (a : A) (n : ℕ) → v.role ≡ Both → Forks Rule id v (hand Sender a n 0) (hand Receiver a n 0)
  parts id v a n both items views holds at =
      let left : Hand A = hand Sender a n 0 in
      let right : Hand A = hand Receiver a n 0 in
      ⊎_elim
      (λ (h : IsBlank nothing items views).
      let is = blank_there nothing items views h id v at in
      inr record {
        about = a;
        capacity = n;
        sent = 0;
        taken = 0;
        ends = ap (λ (l : List (Hand A)). set l id left ++ right ∷ []) h.pass ∙ ap (λ (i : ℕ). set (blank nothing ∷ []) i left ++ right ∷ []) is.0;
        order = omega arith;
        within = omega arith;
        room = omega arith;
        count = ap (λ (l : List T). 0 + length l) h.empty;
        fit = subst (FitFrom (fits a) 0) (sym h.empty) tt;
      })
      (λ (p : Way items views).
      ⊎_elim
      (λ (is : (id ≡ 0) × (hand Sender p.about p.capacity p.sent ≡ v)). let e : Sender ≡ Both = ap (λ (h : Hand A). h.role) is.1 ∙ both in absurd cc)
      (λ (is : (id ≡ 1) × (hand Receiver p.about p.capacity p.taken ≡ v)). let e : Receiver ≡ Both = ap (λ (h : Hand A). h.role) is.1 ∙ both in absurd cc)
      (ends items views p id v at))
      holds

  -- the sender's next item joins at the back
  pub pushes : (n id : ℕ) (a : A) (count : ℕ) (x : T) → fits a count x → count < total a
      → Pushes Rule n id (hand Sender a n count) x (λ w. w ≡ hand Sender a n (count + 1))
  pushes n id a count x it within items views short holds at =
      let v : Hand A = hand Sender a n count in
      let w : Hand A = hand Sender a n (count + 1) in
      ⊎_elim
      (λ (h : IsBlank nothing items views). let e : Both ≡ Sender = ap (λ (h : Hand A). h.role) (blank_there nothing items views h id v at).1 in absurd cc)
      (λ (p : Way items views).
      ⊎_elim
      (λ (is : (id ≡ 0) × (hand Sender p.about p.capacity p.sent ≡ v)).
      let same : p.about ≡ a = ap (λ (h : Hand A). h.about) is.1 in
      let room : p.capacity ≡ n = ap (λ (h : Hand A). h.capacity) is.1 in
      let sent : p.sent ≡ count = ap (λ (h : Hand A). h.count) is.1 in
      let order : p.taken ≤ p.sent = p.order in
      let under_way : p.taken + length items ≡ p.sent = p.count in
      let place : count ≡ p.taken + length items = omega arith in (
        w,
        inr record {
          about = a;
          capacity = n;
          sent = count + 1;
          taken = p.taken;
          ends = set_first views _ _ w id p.ends is.0 ∙ (λ i. w ∷ hand Receiver (same i) (room i) p.taken ∷ []);
          order = omega arith;
          within = omega arith;
          room = omega arith;
          count = omega (arith, length-append items (x ∷ []));
          fit = fit_snoc (fits a) p.taken items x (subst (λ (b : A). FitFrom (fits b) p.taken items) same p.fit) (subst (λ (k : ℕ). fits a k x) place it);
        },
        refl,
      ))
      (λ (is : (id ≡ 1) × (hand Receiver p.about p.capacity p.taken ≡ v)). let e : Receiver ≡ Sender = ap (λ (h : Hand A). h.role) is.1 in absurd cc)
      (ends items views p id v at))
      holds

  -- the receiver's next item leaves at the front
  pub pops : (id : ℕ) (a : A) (n count : ℕ)
      → Pops Rule id (hand Receiver a n count) (λ x w. (w ≡ hand Receiver a n (count + 1)) × fits a count x × (count < total a))
  pops id a n count x items views holds at =
      let v : Hand A = hand Receiver a n count in
      let w : Hand A = hand Receiver a n (count + 1) in
      ⊎_elim
      (λ (h : IsBlank nothing (x ∷ items) views). let e : Both ≡ Receiver = ap (λ (h : Hand A). h.role) (blank_there nothing (x ∷ items) views h id v at).1 in absurd cc)
      (λ (p : Way (x ∷ items) views).
      ⊎_elim
      (λ (is : (id ≡ 0) × (hand Sender p.about p.capacity p.sent ≡ v)). let e : Sender ≡ Receiver = ap (λ (h : Hand A). h.role) is.1 in absurd cc)
      (λ (is : (id ≡ 1) × (hand Receiver p.about p.capacity p.taken ≡ v)).
      let same : p.about ≡ a = ap (λ (h : Hand A). h.about) is.1 in
      let room : p.capacity ≡ n = ap (λ (h : Hand A). h.capacity) is.1 in
      let taken : p.taken ≡ count = ap (λ (h : Hand A). h.count) is.1 in
      let under_way : p.taken + length (x ∷ items) ≡ p.sent = p.count in
      let most : p.sent ≤ total p.about = p.within in
      let few : p.sent ≤ p.taken + p.capacity = p.room in
      let whole : total p.about ≡ total a = ap total same in
      let fit = subst (λ (b : A × ℕ). FitFrom (fits b.0) b.1 (x ∷ items)) (λ i. (same i, taken i)) p.fit in (
        w,
        inr record {
          about = a;
          capacity = n;
          sent = p.sent;
          taken = count + 1;
          ends = set_second views _ _ w id p.ends is.0 ∙ (λ i. hand Sender (same i) (room i) p.sent ∷ w ∷ []);
          order = omega arith;
          within = omega arith;
          room = omega arith;
          count = omega arith;
          fit = fit.1;
        },
        (refl, fit.0, omega arith),
      ))
      (ends (x ∷ items) views p id v at))
      holds
