-- One packet more.
use Rattle.std.proofs.Common.{◌≡◌, ℕ, suc, ◌+◌, ◌-◌, ◌<◌, ◌≤◌, Bool, true, false, cond, ◌&&◌, not, List, [], ◌∷◌, ◌++◌, Option, Some, None, get_or, option_to_list, arith, refl, sym, ap, ◌∙◌}
use Rattle.std.specs.Prelude.{filter_map, is_some, count_by, IfSome, IsSome}
use Rattle.std.specs.Borrow.{Bor}
use Rattle.std.specs.List.{range_with_len, cons_option}
use Rattle.std.specs.Option.{option_map, option_copied}
use Rattle.std.proofs.lemmas.List.{get_or_default}
use Rattle.std.proofs.lemmas.List.Elements.{filter_map-append}
use Rattle.std.proofs.lemmas.List.FromFn.{length-range_with_len}
use Rattle.std.proofs.lemmas.List.Sums.{count_by-le-length}
use Rattle.scr_base.specs.declared.row.Row.{Row}
use Rattle.scr_base.specs.declared.row.Verdict.{Verdict}
use Rattle.scr_plan.specs.declared.counting.CoreCounts.{CoreCounts}
use Rattle.scr_plan.specs.declared.given.Given.{Given}
use Rattle.scr_plan.specs.Plan.{Plan, frame_count, row_of_packet}
use Rattle.scr_plan.specs.Delivered.{delivers_to}
use Rattle.scr_plan.specs.Counts.{counts_up_to}
use Rattle.scr_plan.specs.Kept.{carries_to, keeps}
use Rattle.scr_plan.proofs.FromOne.{range-suc, count-suc}
use Rattle.scr_plan.proofs.Packets.{kept-carried, carried-own}
use Rattle.scr_replica.specs.declared.entry.Entry.{Entry}
use Rattle.scr_replica.specs.Entries.{entries_up_to}
use Rattle.scr_replica.specs.Told.{Told, untold, AllFinal}
use Rattle.scr_replica.specs.OneCore.{kept_row, kept_rows, given_with, given_to, course_up_to}

cons_none : {Y : Type 0} (o : Option Y) → cons_option o [] ≡ option_to_list o
cons_none None = refl
cons_none (Some y) = refl

pub filter_map-more : {Y : Type 0} (h : ℕ → Option Y) (n p : ℕ) → n + 1 ≡ p
    → filter_map h (range_with_len 1 p) ≡ filter_map h (range_with_len 1 n) ++ option_to_list (h p)
filter_map-more h n p next =
    let is : p ≡ suc n = omega arith in
    let one : 1 + n ≡ p = omega arith in
    ap (λ (k : ℕ). filter_map h (range_with_len 1 k)) is
    ∙ ap (filter_map h) (range-suc 1 n)
    ∙ filter_map-append h (range_with_len 1 n) ((1 + n) ∷ [])
    ∙ ap (λ (k : ℕ). filter_map h (range_with_len 1 n) ++ filter_map h (k ∷ [])) one
    ∙ ap (λ (xs : List _). filter_map h (range_with_len 1 n) ++ xs) (cons_none (h p))

count-more : (test : ℕ → Bool) (n p : ℕ) → n + 1 ≡ p → count_by test (range_with_len 1 p) ≡ count_by test (range_with_len 1 n) + cond (test p) 1 0
count-more test n p next =
    let is : p ≡ suc n = omega arith in
    ap (λ (k : ℕ). count_by test (range_with_len 1 k)) is
    ∙ count-suc test n
    ∙ ap (λ (k : ℕ). count_by test (range_with_len 1 n) + cond (test k) 1 0) (sym is)

count_few : (test : ℕ → Bool) (n : ℕ) → count_by test (range_with_len 1 n) ≤ n
count_few test n = omega (arith, count_by-le-length test (range_with_len 1 n), length-range_with_len 1 n)

-- no packet
pub kept_rows-zero : (plan : Plan) → kept_rows plan 0 ≡ []
unfolding kept_rows
kept_rows-zero plan = refl

pub course-zero : (verdict_after : List Row → Row → Verdict) (plan : Plan) (core : ℕ) → course_up_to verdict_after plan core 0 ≡ []
unfolding course_up_to
course-zero verdict_after plan core = refl

-- the core's own list
pub own_entries : (plan : Plan) (cores : List Told) (core : ℕ) (items : List Entry) (d : Told) → AllFinal plan cores → core < plan.cores
    → items ≡ (get_or cores core d).known → items ≡ entries_up_to plan core (frame_count plan)
own_entries plan cores core items d final below is =
    let count = final.count in
    is ∙ ap (λ (x : Told). x.known) (get_or_default cores core d untold (omega arith)) ∙ final.each core below

-- a row that was found
pub is_some-copied : (row : Option (Bor Row)) → is_some row ≡ is_some (option_copied row)
is_some-copied None = refl
is_some-copied (Some row) = refl

pub some_kept : (o : Option Row) (row : Option (Bor Row)) (kept : Option Row) → IfSome o (λ r. kept ≡ Some r) → option_copied row ≡ kept → IsSome o
    → is_some row ≡ true
some_kept None row kept is found some = absurd cc
some_kept (Some r) row kept is found some = is_some-copied row ∙ ap is_some found ∙ ap is_some is

module _ (plan : Plan) (n p : ℕ) (next : n + 1 ≡ p) where
  pub kept_rows-more : kept_rows plan p ≡ kept_rows plan n ++ option_to_list (kept_row plan p)
  unfolding kept_rows
  kept_rows-more = filter_map-more (kept_row plan) n p next

  module _ (core : ℕ) where
    pub counts_few : ((counts_up_to plan core n).delivered ≤ n) × ((counts_up_to plan core n).carried ≤ n)
        × ((counts_up_to plan core n).recovered ≤ n) × ((counts_up_to plan core n).skipped ≤ n)
    counts_few = (
      count_few (λ q. delivers_to plan core q) n,
      count_few (λ q. carries_to plan core q) n,
      count_few (λ q. keeps plan q && not (carries_to plan core q)) n,
      count_few (λ q. not (keeps plan q)) n,
    )

    -- the counts after one packet more
    pub counts-more : (old new : CoreCounts) (own known kept : Bool) → old ≡ counts_up_to plan core n
        → own ≡ delivers_to plan core p → known ≡ carries_to plan core p → kept ≡ keeps plan p
        → new.delivered ≡ old.delivered + cond own 1 0
        → new.carried ≡ old.carried + cond known 1 0
        → new.recovered ≡ old.recovered + cond (kept && not known) 1 0
        → new.skipped ≡ old.skipped + cond (not kept) 1 0
        → new ≡ counts_up_to plan core p
    counts-more old new own known kept is own-is known-is kept-is delivered carried recovered skipped =
        let a : new.delivered ≡ (counts_up_to plan core p).delivered =
        delivered
        ∙ ap (λ (x : CoreCounts). x.delivered + cond own 1 0) is
        ∙ ap (λ (b : Bool). (counts_up_to plan core n).delivered + cond b 1 0) own-is
        ∙ sym (count-more (λ q. delivers_to plan core q) n p next) in
        let b : new.carried ≡ (counts_up_to plan core p).carried =
        carried
        ∙ ap (λ (x : CoreCounts). x.carried + cond known 1 0) is
        ∙ ap (λ (b : Bool). (counts_up_to plan core n).carried + cond b 1 0) known-is
        ∙ sym (count-more (λ q. carries_to plan core q) n p next) in
        let d : new.recovered ≡ (counts_up_to plan core p).recovered =
        recovered
        ∙ ap (λ (x : CoreCounts). x.recovered + cond (kept && not known) 1 0) is
        ∙ ap (λ (b : Bool). (counts_up_to plan core n).recovered + cond (b && not known) 1 0) kept-is
        ∙ ap (λ (b : Bool). (counts_up_to plan core n).recovered + cond (keeps plan p && not b) 1 0) known-is
        ∙ sym (count-more (λ q. keeps plan q && not (carries_to plan core q)) n p next) in
        let e : new.skipped ≡ (counts_up_to plan core p).skipped =
        skipped
        ∙ ap (λ (x : CoreCounts). x.skipped + cond (not kept) 1 0) is
        ∙ ap (λ (b : Bool). (counts_up_to plan core n).skipped + cond (not b) 1 0) kept-is
        ∙ sym (count-more (λ q. not (keeps plan q)) n p next) in
        λ i. record { delivered = a i; carried = b i; recovered = d i; skipped = e i }

    module _ (verdict_after : List Row → Row → Verdict) where
      pub course-more : course_up_to verdict_after plan core p ≡ course_up_to verdict_after plan core n ++ option_to_list (given_to verdict_after plan core p)
      unfolding course_up_to
      course-more = filter_map-more (given_to verdict_after plan core) n p next

      given_of : (own keeps : Bool) (row : Option Row) (f : Row → Given) → (own ≡ true → keeps ≡ true)
          → cond own (option_to_list (option_map f (cond keeps row None))) [] ≡ option_to_list (cond own (option_map f row) None)
      given_of true true row f kept = refl
      given_of true false row f kept = let e = kept refl in absurd cc
      given_of false keeps row f kept = refl

      -- the verdict that is given with the kept row is that of the course
      pub given_kept : (from : 1 ≤ p) (to : p ≤ frame_count plan) (own : Bool) (row : Option Row) → own ≡ delivers_to plan core p → row ≡ kept_row plan p
          → cond own (option_to_list (option_map (λ r. record { number = p; verdict = verdict_after (kept_rows plan n) r }) row)) []
          ≡ option_to_list (given_to verdict_after plan core p)
      given_kept from to own row own-is row-is =
          let before : n ≡ p - 1 = omega arith in
          ap (λ (k : ℕ). cond own (option_to_list (option_map (λ r. record { number = p; verdict = verdict_after (kept_rows plan k) r }) row)) []) before
          ∙ ap (λ (o : Option Row). cond own (option_to_list (option_map (given_with verdict_after plan p) o)) []) row-is
          ∙ ap (λ (b : Bool). cond b (option_to_list (option_map (given_with verdict_after plan p) (kept_row plan p))) []) own-is
          ∙ given_of (delivers_to plan core p) (keeps plan p) (row_of_packet plan p) (given_with verdict_after plan p)
          (λ holds. kept-carried plan core p (carried-own plan core p holds))
