-- Frames counted one after another, with the packets that they carry.
use Rattle.std.proofs.Common.{◌≡◌, ℕ, suc, ◌+◌, ◌-◌, ◌<◌, ◌≤◌, Bool, true, false, ◌&&◌, ◌||◌, max, inl, inr, arith, sym, ap, subst, ◌∙◌}
use Rattle.std.specs.List.{range_with_len, count_by}
use Rattle.std.proofs.lemmas.Bool.{false_from_ne_true, cases_lt}
use Rattle.std.proofs.lemmas.Bool.Decides.{nat_tests}
use Rattle.scr_plan.specs.Kept.{Carries, carries, some_carries, first_carried}
use Rattle.scr_plan.specs.declared.counting.Tally.{Tally}
use Rattle.scr_plan.specs.Plan.{Plan}
use Rattle.scr_plan.specs.Delivered.{delivers, delivers_to}
use Rattle.scr_plan.proofs.FromOne.{IsSome-from_any, any-from_IsSome, any-suc, count-suc, count-gap}
use Rattle.scr_plan.proofs.Packets.{Decides-carries}

-- a tally of those of the frames 1 to m that pass a test
pub record IsTally (test : ℕ → Bool) (history m : ℕ) (tally : Tally) : Type 0 where
  pub frames : tally.frames ≡ count_by test (range_with_len 1 m)
  pub packets : tally.packets ≡ count_by (λ p. some_carries test history m p) (range_with_len 1 m)
  pub few_frames : tally.frames ≤ tally.last
  pub few_packets : tally.packets ≤ tally.last
  pub last : tally.last ≤ m
  pub at_last : 0 < tally.last → test tally.last ≡ true
  pub behind : (n : ℕ) → tally.last < n → n ≤ m → test n ≡ false

-- a frame that passes a test and carries packet p
record IsCarrier (test : ℕ → Bool) (history m p : ℕ) : Type 0 where
  frame : ℕ
  from : 1 ≤ frame
  to : frame ≤ m
  passes : test frame ≡ true
  carries_it : Carries history frame p

carrier : (test : ℕ → Bool) (history m p : ℕ) → some_carries test history m p ≡ true → IsCarrier test history m p
carrier test history m p any =
    let some = IsSome-from_any (λ n. test n && carries history n p) m any in
    let yes : test some.number && carries history some.number p ≡ true = some.passes in
    record {
      frame = some.number;
      from = some.from;
      to = some.to;
      passes = grind (arith, nat_tests);
      carries_it = (Decides-carries history some.number p).0 (grind (arith, nat_tests));
    }

some_carries-from : (test : ℕ → Bool) (history m p : ℕ) → IsCarrier test history m p → some_carries test history m p ≡ true
some_carries-from test history m p is =
    let yes = (Decides-carries history is.frame p).1 is.carries_it in
    let it = is.passes in
    any-from_IsSome (λ n. test n && carries history n p) m
    (record { number = is.frame; from = is.from; to = is.to; passes = grind (arith, nat_tests) })

-- no frame carries a packet behind it
some_carries-later : (test : ℕ → Bool) (history m p : ℕ) → m < p → some_carries test history m p ≡ false
some_carries-later test history m p above =
    false_from_ne_true (some_carries test history m p)
    (λ yes. let is = carrier test history m p yes in omega (arith, is.to, is.carries_it.to))

-- one frame more
some_carries-suc : (test : ℕ → Bool) (history m p : ℕ)
    → some_carries test history (suc m) p ≡ (some_carries test history m p || (test (suc m) && carries history (suc m) p))
some_carries-suc test history m p = any-suc (λ n. test n && carries history n p) m

-- it fails the test
some_carries-fails : (test : ℕ → Bool) (history m p : ℕ) → test (suc m) ≡ false
    → some_carries test history (suc m) p ≡ some_carries test history m p
some_carries-fails test history m p fails = let more = some_carries-suc test history m p in grind (arith, more)

-- it carries p
some_carries-new : (test : ℕ → Bool) (history m p : ℕ) → test (suc m) ≡ true → Carries history (suc m) p
    → some_carries test history (suc m) p ≡ true
some_carries-new test history m p passes is =
    some_carries-from test history (suc m) p
    (record { frame = suc m; from = omega arith; to = omega arith; passes = passes; carries_it = is })

-- p stands before all that it carries
some_carries-early : (test : ℕ → Bool) (history m p : ℕ) → p < first_carried history (suc m)
    → some_carries test history (suc m) p ≡ some_carries test history m p
some_carries-early test history m p early =
    let not_it : carries history (suc m) p ≡ false =
    false_from_ne_true (carries history (suc m) p) (λ yes. let is = (Decides-carries history (suc m) p).0 yes in omega (arith, is.from)) in
    let more = some_carries-suc test history m p in
    grind (arith, more, not_it)

-- the last frame before it carries p already
some_carries-known : (test : ℕ → Bool) (history m last p : ℕ) → last ≤ m → test last ≡ true → 1 ≤ p → p ≤ last
    → first_carried history (suc m) ≤ p → some_carries test history (suc m) p ≡ some_carries test history m p
some_carries-known test history m last p within passes from to late =
    let before : some_carries test history m p ≡ true =
    some_carries-from test history m p
    (record {
      frame = last;
      from = omega arith;
      to = within;
      passes = passes;
      carries_it = record { from = omega arith; to = to };
    }) in
    let more = some_carries-suc test history m p in
    grind (arith, more, before)

-- no frame behind the last one passes, so none carries what stands behind it
some_carries-unknown : (test : ℕ → Bool) (history m last p : ℕ) → ((n : ℕ) → last < n → n ≤ m → test n ≡ false) → last < p
    → some_carries test history m p ≡ false
some_carries-unknown test history m last p behind above =
    false_from_ne_true (some_carries test history m p)
    (λ yes.
    let is = carrier test history m p yes in
    let fails = behind is.frame (omega (arith, is.carries_it.to)) is.to in
    let passes = is.passes in
    cc)

pub IsTally-none : (test : ℕ → Bool) (history : ℕ) (tally : Tally) → tally.frames ≡ 0 → tally.packets ≡ 0 → tally.last ≡ 0
    → IsTally test history 0 tally
IsTally-none test history tally frames packets last = record {
  frames = frames;
  packets = packets;
  few_frames = omega arith;
  few_packets = omega arith;
  last = omega arith;
  at_last = λ some. absurd (omega arith);
  behind = λ n above within. absurd (omega arith);
}

-- a frame that fails
pub IsTally-skips : (test : ℕ → Bool) (history m : ℕ) (tally : Tally) → test (suc m) ≡ false → IsTally test history m tally
    → IsTally test history (suc m) tally
IsTally-skips test history m tally fails is =
    let wide : ℕ → Bool = λ p. some_carries test history (suc m) p in
    let narrow : ℕ → Bool = λ p. some_carries test history m p in
    let same = count-gap wide narrow (suc m) (suc m) (λ p from to. some_carries-fails test history m p fails) (λ p above within. absurd (omega arith)) in
    let none : narrow (suc m) ≡ false = some_carries-later test history m (suc m) (omega arith) in
    let frames = is.frames in
    let packets = is.packets in
    record {
      frames = grind (arith, frames, count-suc test m);
      packets = grind (arith, packets, same, none, count-suc narrow m);
      few_frames = is.few_frames;
      few_packets = is.few_packets;
      last = omega (arith, is.last);
      at_last = is.at_last;
      behind = λ n above within.
          elim (cases_lt n (suc m)) [
            | inl before ↦ is.behind n above (omega arith)
            | inr after ↦ (let e : suc m ≡ n = omega arith in ap test (sym e) ∙ fails)
          ];
    }

-- a frame that passes
pub IsTally-counts : (test : ℕ → Bool) (history m : ℕ) (tally next : Tally) → test (suc m) ≡ true → IsTally test history m tally
    → next.frames ≡ tally.frames + 1
    → next.packets ≡ tally.packets + (suc m - max tally.last (first_carried history (suc m) - 1))
    → next.last ≡ suc m
    → IsTally test history (suc m) next
IsTally-counts test history m tally next passes is frames packets last =
    let known : ℕ = max tally.last (first_carried history (suc m) - 1) in
    let wide : ℕ → Bool = λ p. some_carries test history (suc m) p in
    let narrow : ℕ → Bool = λ p. some_carries test history m p in
    let within = is.last in
    let early = λ (p : ℕ) (from : 1 ≤ p) (to : p ≤ known).
    elim (cases_lt p (first_carried history (suc m))) as (λ _. wide p ≡ narrow p) [
      | inl before ↦ some_carries-early test history m p before
      | inr after ↦ some_carries-known test history m tally.last p within (is.at_last (omega arith)) from (omega arith) after
    ] in
    let late = λ (p : ℕ) (above : known < p) (to : p ≤ suc m).
    (let carried : Carries history (suc m) p = record { from = omega arith; to = to } in
    let both : (wide p ≡ true) × (narrow p ≡ false) =
    (some_carries-new test history m p passes carried, some_carries-unknown test history m tally.last p is.behind (omega arith)) in
    both) in
    let same = count-gap wide narrow known (suc m) early late in
    let none : narrow (suc m) ≡ false = some_carries-later test history m (suc m) (omega arith) in
    let frames_before = is.frames in
    let packets_before = is.packets in
    let few_frames = is.few_frames in
    let few_packets = is.few_packets in
    record {
      frames = grind (arith, frames, frames_before, passes, count-suc test m);
      packets = grind (arith, packets, packets_before, same, none, count-suc narrow m);
      few_frames = omega arith;
      few_packets = omega arith;
      last = omega arith;
      at_last = λ some. ap test last ∙ passes;
      behind = λ n above to. absurd (omega arith);
    }

-- the same, where a loop stands at frame f
pub IsTally-moved : (test : ℕ → Bool) (history m n : ℕ) (tally : Tally) → m ≡ n → IsTally test history m tally → IsTally test history n tally
IsTally-moved test history m n tally same is = subst (λ (k : ℕ). IsTally test history k tally) same is

pub IsTally-skips_at : (test : ℕ → Bool) (history f : ℕ) (tally : Tally) → 1 ≤ f → test f ≡ false
    → IsTally test history (f - 1) tally → IsTally test history (f + 1 - 1) tally
IsTally-skips_at test history f tally from fails is =
    let here : f ≡ suc (f - 1) = omega arith in
    IsTally-moved test history (suc (f - 1)) (f + 1 - 1) tally (omega arith)
    (IsTally-skips test history (f - 1) tally (ap test (sym here) ∙ fails) is)

pub IsTally-counts_at : (test : ℕ → Bool) (history f : ℕ) (tally next : Tally) → 1 ≤ f → test f ≡ true
    → IsTally test history (f - 1) tally
    → next.frames ≡ tally.frames + 1
    → next.packets ≡ tally.packets + (f - max tally.last (first_carried history f - 1))
    → next.last ≡ f
    → IsTally test history (f + 1 - 1) next
IsTally-counts_at test history f tally next from passes is frames packets last =
    let here : f ≡ suc (f - 1) = omega arith in
    IsTally-moved test history (suc (f - 1)) (f + 1 - 1) next (omega arith)
    (IsTally-counts test history (f - 1) tally next (ap test (sym here) ∙ passes) is frames (omega arith) (omega arith))

-- the same tally by another name
pub IsTally-same : (test : ℕ → Bool) (history m : ℕ) (tally other : Tally) → tally ≡ other → IsTally test history m other
    → IsTally test history m tally
IsTally-same test history m tally other same is = subst (λ (it : Tally). IsTally test history m it) (sym same) is

-- the tally of a core's frames, and that of all
pub record AreTallies (plan : Plan) (core history m : ℕ) (own all : Tally) : Type 0 where
  pub of_own : IsTally (λ n. delivers_to plan core n) history m own
  pub of_all : IsTally (λ n. delivers plan n) history m all
