-- What is held for later steps, behind one row more: each list by its place.
use Rattle.std.proofs.Common.{◌≡◌, ◌≢◌, ℕ, ◌+◌, ◌-◌, ◌<◌, ◌≤◌, Bool, true, false, cond, List, [], ◌∷◌, ◌++◌, length, get_or, set, take, drop, map, Some, None, inl, inr, refl, sym, ap, ◌∙◌, arith, eqb, length-set, get_or-set_same, get_or-set_other}
use Rattle.std.specs.List.{range_with_len}
use Rattle.std.specs.Option.{option_to_list}
use Rattle.std.proofs.lemmas.List.{append-nil, length-append, length-drop, length-map, ext_get_or, get_or_append_left, get_or-map, map-set, take-map}
use Rattle.std.proofs.lemmas.Option.{get_or_from_slice_get, slice_get_within}
use Rattle.std.specs.List.{slice_get}
use Rattle.std.proofs.lemmas.Grind.{get_or_after_one}
use Rattle.std.proofs.lemmas.List.FromFn.{get_or-map-range_with_len, length-map-range_with_len}
use Rattle.std.proofs.lemmas.Bool.{cases_lt}
use Rattle.std.proofs.lemmas.Bool.Decides.{eqb_tells, nat_tests}
use Rattle.std.proofs.Math.Seq.{get_or-append_seam, map-set_same}
use Rattle.scr_base.specs.declared.row.Row.{Row}
use Rattle.scr_plan.specs.Link.{delay_in}
use Rattle.scr_plan.specs.declared.link.Fate.{Fate}
use Rattle.scr_plan.specs.declared.link.Fate.TheVariants.{Lost, Once, Twice}
use Rattle.scr_sequencer.specs.Sequence.{Arriving, Sequence, arriving, put, next_frame, in_turn, held_with}

-- whether a frame comes so many steps late, and whether it comes twice
abbrev pub is_late : Fate → (steps : ℕ) → Bool
is_late Lost steps = false
is_late (Once delay) steps = eqb delay steps
is_late (Twice delay) steps = eqb delay steps

abbrev pub is_twice : Fate → Bool
is_twice Lost = false
is_twice (Once delay) = false
is_twice (Twice delay) = true

-- what the next row adds to the frames that come so many steps behind its own
abbrev pub given : Sequence → Row → Fate → (steps : ℕ) → List Arriving
given s row fate steps = cond (is_late fate steps) (arriving s row (is_twice fate) ∷ []) []

-- what is in turn, and what is held with the next frame
abbrev pub own : Sequence → Row → Fate → List Arriving
own s row fate = option_to_list (in_turn (delay_in fate) (next_frame s row fate))

abbrev pub held_next : Sequence → Row → Fate → List (List Arriving)
held_next s row fate = held_with s.held (delay_in fate) (next_frame s row fate)

in_turn-one : (b : Bool) (it : Arriving) → option_to_list (cond b (Some it) None) ≡ cond b (it ∷ []) []
in_turn-one true it = refl
in_turn-one false it = refl

pub own-given : (s : Sequence) (row : Row) (fate : Fate) → own s row fate ≡ given s row fate 0
own-given s row Lost = refl
own-given s row (Once delay) = in_turn-one (eqb delay 0) (arriving s row false)
own-given s row (Twice delay) = in_turn-one (eqb delay 0) (arriving s row true)

-- a frame put to those of a later step
put_at : (held : List (List Arriving)) (delay i : ℕ) (it : Arriving) → 1 ≤ i → i < length held
    → get_or (cond (eqb delay 0) held (put held delay it)) i [] ≡ get_or held i [] ++ cond (eqb delay i) (it ∷ []) []
put_at held delay i it from within =
    elim (eqb_tells delay 0) as (λ _. get_or (cond (eqb delay 0) held (put held delay it)) i [] ≡ get_or held i [] ++ cond (eqb delay i) (it ∷ []) []) [
      | inl none ↦ (
          let other : eqb delay i ≡ false = let zero = none.1 in grind (arith, nat_tests) in
          rw (none.0, other) (sym (append-nil (get_or held i []))))
      | inr some ↦ rw some.0 (
          elim (eqb_tells delay i) as (λ _. get_or (put held delay it) i [] ≡ get_or held i [] ++ cond (eqb delay i) (it ∷ []) []) [
            | inl here ↦ rw (here.0, here.1) (get_or-set_same held i (get_or held i [] ++ it ∷ []) [] within)
            | inr there ↦ (
                let apart : i ≢ delay = λ same. there.1 (sym same) in
                rw there.0 (get_or-set_other held delay i (get_or held delay [] ++ it ∷ []) [] apart ∙ sym (append-nil (get_or held i []))))
          ])
    ]

pub held_next-at : (s : Sequence) (row : Row) (fate : Fate) (i : ℕ) → 1 ≤ i → i < length s.held
    → get_or (held_next s row fate) i [] ≡ get_or s.held i [] ++ given s row fate i
held_next-at s row Lost i from within = sym (append-nil (get_or s.held i []))
held_next-at s row (Once delay) i from within = put_at s.held delay i (arriving s row false) from within
held_next-at s row (Twice delay) i from within = put_at s.held delay i (arriving s row true) from within

put-length : (held : List (List Arriving)) (delay : ℕ) (it : Arriving) → length (cond (eqb delay 0) held (put held delay it)) ≡ length held
put-length held delay it = by (eqb delay 0)
  where
    by : (b : Bool) → length (cond b held (put held delay it)) ≡ length held
    by true = refl
    by false = length-set held delay (get_or held delay [] ++ it ∷ [])

pub held_next-length : (s : Sequence) (row : Row) (fate : Fate) → length (held_next s row fate) ≡ length s.held
held_next-length s row Lost = refl
held_next-length s row (Once delay) = put-length s.held delay (arriving s row false)
held_next-length s row (Twice delay) = put-length s.held delay (arriving s row true)

-- without the first list, and with an empty one behind the others, these are the lists of another function
pub rotated : {X : Type 0} (old : List (List X)) (f : ℕ → List X) (a k n : ℕ) → length old ≡ k + 1 → n ≡ k + 1
    → ((i : ℕ) → i < k → get_or old (1 + i) [] ≡ f (a + i)) → f (a + k) ≡ []
    → drop 1 old ++ [] ∷ [] ≡ map f (range_with_len a n)
rotated old f a k n long count each last =
    let front : List (List _) = drop 1 old in
    let front-long : length front ≡ k = omega (arith, length-drop 1 old) in
    let all-long : length (front ++ [] ∷ []) ≡ k + 1 = length-append front ([] ∷ []) ∙ ap (λ (x : ℕ). x + 1) front-long in
    ext_get_or [] (front ++ [] ∷ []) (map f (range_with_len a n)) (all-long ∙ sym count ∙ sym (length-map-range_with_len f a n))
    (λ i within.
    let there : get_or (map f (range_with_len a n)) i [] ≡ f (a + i) = get_or-map-range_with_len f a n i (a + i) [] (omega arith) refl in
    elim (cases_lt i k) as (λ _. get_or (front ++ [] ∷ []) i [] ≡ get_or (map f (range_with_len a n)) i []) [
      | inl early ↦ get_or_append_left front ([] ∷ []) [] i (omega arith) ∙ get_or_after_one old i [] ∙ each i early ∙ sym there
      | inr late ↦ (
          let here : i ≡ k = omega arith in
          ap (λ (j : ℕ). get_or (front ++ [] ∷ []) j []) (here ∙ sym front-long) ∙ get_or-append_seam front [] [] []
          ∙ sym last ∙ ap (λ (j : ℕ). f (a + j)) (sym here) ∙ sym there)
    ])

-- the lists but the last
pub popped : {V X : Type 0} (f : V → X) (xs ys : List V) (n : ℕ) → ys ≡ take (length xs - 1) xs → length (map f xs) ≡ n + 1 → map f ys ≡ take n (map f xs)
popped f xs ys n is long =
    let count : length xs - 1 ≡ n = omega (arith, length-map xs f) in
    ap (map f) (is ∙ ap (λ (k : ℕ). take k xs) count) ∙ sym (take-map f n xs)

-- a list by its place is changed, to one that shows the same or one more
pub kept : {V X : Type 0} (f : V → List X) (xs : List V) (i : ℕ) (v w : V) → Some v ≡ slice_get xs i → f w ≡ f v → map f (set xs i w) ≡ map f xs
kept f xs i v w there same = map-set_same f xs i w v (same ∙ ap f (sym (get_or_from_slice_get xs i v v (sym there))))

pub joined : {V X : Type 0} (f : V → List X) (xs : List V) (i : ℕ) (v w : V) (it : X) → Some v ≡ slice_get xs i → f w ≡ f v ++ it ∷ []
    → map f (set xs i w) ≡ set (map f xs) i (get_or (map f xs) i [] ++ it ∷ [])
joined f xs i v w it there more =
    let within = slice_get_within xs i v (sym there) in
    let before : f v ≡ get_or (map f xs) i [] =
    ap f (sym (get_or_from_slice_get xs i v v (sym there))) ∙ sym (get_or-map f xs i v [] within) in
    map-set f xs i w ∙ ap (set (map f xs) i) (more ∙ ap (λ (its : List _). its ++ it ∷ []) before)
