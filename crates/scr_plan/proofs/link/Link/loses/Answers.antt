use Rattle.std.proofs.Common.{◌≡◌, ◌<◌, ◌≤◌, ℕ, List, Bool, true, false, ◌||◌, Result, Ok, Err, length, get_or, ⊎_elim, sym, subst, ap, ◌∙◌, arith, eqb}
use Rattle.std.specs.Prelude.{MatchResult, is_ok}
use Rattle.std.specs.List.{list_any}
use Rattle.std.proofs.lemmas.Bool.{cases_lt, false_from_ne_true, eq-eqb, eqb-true}
use Rattle.std.proofs.lemmas.Grind.{get_or_default_zero}
use Rattle.std.proofs.lemmas.List.Folds.{Any-from_list_any, list_any_at}
use Rattle.std.proofs.lemmas.List.Sorted.{searched}
use Rattle.scr_plan.specs.Drops.{has_number}
use Rattle.scr_plan.specs.Link.{Link, loses}
use Rattle.scr_plan.proofs.link.Link.loses.Goals as goal

pub returns-then-has-clause-answer : goal.returns-then-has-clause-answer
unfolding loses
returns-then-has-clause-answer c =
    let it = c.self.inside in
    let has : has_number it.drops c.args.n ≡ true = sym c.has.ensures.answer ∙ c.if-has.true in
    c.if-has.true
    ∙ subst (λ (link : Link). true ≡ loses link c.args.n) c.self.view_is
    (sym (ap (λ (b : Bool). b || list_any (λ (m : ℕ). eqb m c.args.n) it.missing.items) has))

-- a search in numbers that grow
abbrev Found : (xs : List ℕ) (x : ℕ) → Result ℕ ℕ → Type 0
Found xs x r = MatchResult r (λ i. (i < length xs) × (get_or xs i 0 ≡ x)) (λ i. (i ≤ length xs) × ((k : ℕ) → k < i → get_or xs k 0 < x) × ((k : ℕ) → i ≤ k → k < length xs → x < get_or xs k 0))

is_found : (xs : List ℕ) (x : ℕ) (r : Result ℕ ℕ) → Found xs x r → is_ok r ≡ list_any (λ m. eqb m x) xs
is_found xs x (Ok i) found = sym (list_any_at (λ m. eqb m x) xs i 0 found.0 (eq-eqb (get_or xs i 0) x found.1))
is_found xs x (Err i) none =
    sym (false_from_ne_true (list_any (λ m. eqb m x) xs) (λ some.
    let it = Any-from_list_any (λ (m : ℕ). eqb m x) xs some in
    let there : get_or xs it.0 0 ≡ it.1 = get_or_default_zero' xs it.0 it.1 it.2 ∙ it.3 in
    let same : it.1 ≡ x = eqb-true it.1 x it.4 in
    ⊎_elim
    (λ (before : it.0 < i). let below = none.1 it.0 before in omega arith)
    (λ (behind : i ≤ it.0). let above = none.2 it.0 behind it.2 in omega arith)
    (cases_lt it.0 i)))
  where
    get_or_default_zero' : (ys : List ℕ) (k d : ℕ) → k < length ys → get_or ys k 0 ≡ get_or ys k d
    get_or_default_zero' ys k d within = sym (get_or_default_zero ys k d within)

abbrev Grows : List ℕ → Type 0
Grows xs = (i j : ℕ) → i < j → j < length xs → get_or xs i 0 < get_or xs j 0

grows : (xs : List ℕ) → Grows xs → (i j : ℕ) → i ≤ j → j < length xs → get_or xs i 0 ≤ get_or xs j 0
grows xs each i j to within =
    ⊎_elim
    (λ (less : i < j). let more = each i j less within in omega arith)
    (λ (more : j ≤ i). let same : i ≡ j = omega arith in let at : get_or xs i 0 ≡ get_or xs j 0 = ap (λ (k : ℕ). get_or xs k 0) same in omega arith)
    (cases_lt i j)

pub returns-else-has-clause-answer : goal.returns-else-has-clause-answer
unfolding loses
returns-else-has-clause-answer c =
    let it = c.self.inside in
    let items = c.deref.result.now in
    let none : has_number it.drops c.args.n ≡ false = sym c.has.ensures.answer ∙ c.if-has.false in
    subst (λ (link : Link). c.is_ok.result ≡ loses link c.args.n) c.self.view_is
    (c.is_ok.ensures.value
    ∙ is_found items c.args.n c.binary_search.result (searched items c.args.n c.binary_search.result c.binary_search.ensures.position
    (grows items (subst (λ (xs : List ℕ). Grows xs) (sym c.deref.ensures.value) (λ i j less within. c.self.invariant.missing_grow i j 0 less within))))
    ∙ ap (λ (xs : List ℕ). list_any (λ (m : ℕ). eqb m c.args.n) xs) c.deref.ensures.value
    ∙ sym (ap (λ (b : Bool). b || list_any (λ (m : ℕ). eqb m c.args.n) it.missing.items) none))
