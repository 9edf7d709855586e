-- A list of delays, looked up frame by frame.
use Rattle.std.proofs.Common.{◌≡◌, ℕ, zero, suc, ◌<◌, ◌≤◌, Bool, true, false, cond, ◌||◌, List, [], ◌∷◌, length, get_or, take, map, refl, ap, arith, eqb}
use Rattle.std.specs.List.{All, list_any}
use Rattle.std.proofs.lemmas.Bool.Decides.{nat_tests}
use Rattle.scr_plan.specs.Delays.{greatest_delay, IsDelay, delay_of}
use Rattle.scr_plan.specs.Link.{Link, IsLink, loses, repeats, delays_by, fate_of, delay_in}
use Rattle.scr_plan.specs.declared.delays.FrameDelay.{FrameDelay}
use Rattle.scr_plan.specs.declared.link.Fate.TheVariants.{Lost, Once, Twice}

-- a search among the frames
pub named_frames : (delays : List FrameDelay) (n : ℕ) → list_any (λ m. eqb m n) (map (λ it. it.frame) delays) ≡ list_any (λ it. eqb it.frame n) delays
named_frames [] n = refl
named_frames (it ∷ delays) n = ap (λ (b : Bool). eqb it.frame n || b) (named_frames delays n)

neither : (a b : Bool) → (a || b) ≡ false → (a ≡ false) × (b ≡ false)
neither true b e = absurd cc
neither false b e = (refl, e)

-- the first delay that names the frame is its own
pub delay_of-found : (delays : List FrameDelay) (n i : ℕ) (d : FrameDelay) → list_any (λ it. eqb it.frame n) (take i delays) ≡ false
    → i < length delays → (get_or delays i d).frame ≡ n → delay_of delays n ≡ (get_or delays i d).steps
unfolding delay_of
delay_of-found [] n i d none below same = absurd (omega arith)
delay_of-found (it ∷ delays) n zero d none below same =
    let here : eqb it.frame n ≡ true = grind (arith, nat_tests) in
    ap (λ (b : Bool). cond b it.steps (delay_of delays n)) here
delay_of-found (it ∷ delays) n (suc i) d none below same =
    let both = neither (eqb it.frame n) (list_any (λ x. eqb x.frame n) (take i delays)) none in
    rw both.0 (delay_of-found delays n i d both.1 (omega arith) same)

pub delay_of-none : (delays : List FrameDelay) (n : ℕ) → list_any (λ it. eqb it.frame n) delays ≡ false → delay_of delays n ≡ 0
unfolding delay_of
delay_of-none [] n none = refl
delay_of-none (it ∷ delays) n none =
    let both = neither (eqb it.frame n) (list_any (λ x. eqb x.frame n) delays) none in
    rw both.0 (delay_of-none delays n both.1)

-- no delay is above the greatest
pub delay_of-near : (delays : List FrameDelay) (n : ℕ) → All IsDelay delays → delay_of delays n ≤ greatest_delay
unfolding delay_of
delay_of-near [] n each = omega arith
delay_of-near (it ∷ delays) n each =
    by (eqb it.frame n) (each 0 it (omega arith)).steps_above (delay_of-near delays n (λ k d within. each (suc k) d (omega arith)))
  where
    by : (b : Bool) → it.steps ≤ greatest_delay → delay_of delays n ≤ greatest_delay → cond b it.steps (delay_of delays n) ≤ greatest_delay
    by true here others = here
    by false here others = others

-- nor that of a fate
pub fate_of-near : (link : Link) (n : ℕ) → IsLink link → delay_in (fate_of link n) ≤ greatest_delay
fate_of-near link n is = by (loses link n) (repeats link n) (delay_of-near link.delays n is.delay_list.each)
  where
    by : (lost twice : Bool) → delays_by link n ≤ greatest_delay
        → delay_in (cond lost Lost (cond twice (Twice (delays_by link n)) (Once (delays_by link n)))) ≤ greatest_delay
    by true twice near = omega arith
    by false true near = near
    by false false near = near
