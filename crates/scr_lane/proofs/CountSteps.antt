-- Each step on the two words keeps their rule.
use Rattle.std.proofs.Common.{◌≡◌, ℕ, ◌≤◌, ◌⊎◌, List, [], ◌∷◌, ◌++◌, get_or, set, sym, ap, ◌∙◌, subst, inr, ⊎_elim, le_trans, arith, length-set, get_or-set_same, get_or-set_other}
use mathlib.Core.Option.{some}
use lib.ListN.{get_elem?}
use Rattle.atomic_table.specs.Table.{keeps, Allows, Splits}
use Rattle.scr_lane.specs.declared.view.Role.TheVariants.{Both, Sender, Receiver}
use Rattle.scr_lane.specs.declared.view.Tally.{Tally}
use Rattle.scr_lane.specs.Views.{tally}
use Rattle.scr_lane.specs.CountsRule.{HasWords, IsWhole, FoundAtMost, IsParted, KeepsCounts}
use Rattle.scr_lane.proofs.TwoViews.{one_there, two_there}

abbrev Slots : Type 0
Slots = List (ℕ × Unit {0})

-- more may be found where more is stored
found_more : (most more : ℕ) (looks : List ℕ) → most ≤ more → FoundAtMost most looks → FoundAtMost more looks
found_more most more [] le all = tt
found_more most more (look ∷ looks) le all = (le_trans all.0 le, found_more most more looks le all.1)

-- one look more
found_snoc : (most look : ℕ) (looks : List ℕ) → FoundAtMost most looks → look ≤ most → FoundAtMost most (looks ++ look ∷ [])
found_snoc most look [] all le = (le, tt)
found_snoc most look (x ∷ looks) all le = (all.0, found_snoc most look looks all.1 le)

with_sent : (words : List ℕ) (sent taken new : ℕ) → HasWords words sent taken → HasWords (set words 0 new) new taken
with_sent words sent taken new h = let long = h.long in record {
  long = length-set words 0 new ∙ h.long;
  sent_is = get_or-set_same words 0 new 0 (omega arith);
  taken_is = get_or-set_other words 0 16 new 0 (λ e. omega arith) ∙ h.taken_is;
}

with_taken : (words : List ℕ) (sent taken new : ℕ) → HasWords words sent taken → HasWords (set words 16 new) sent new
with_taken words sent taken new h = let long = h.long in record {
  long = length-set words 16 new ∙ h.long;
  sent_is = get_or-set_other words 16 0 new 0 (λ e. omega arith) ∙ h.sent_is;
  taken_is = get_or-set_same words 16 new 0 (omega arith);
}

-- which end's view it is
roles : (views : List Tally) (words : List ℕ) (p : IsParted words views) (id : ℕ) (v : Tally) → get_elem? views id ≡ some v
    → ((id ≡ 0) × (tally Sender p.sent p.looks_of_sender ≡ v)) ⊎ ((id ≡ 1) × (tally Receiver p.taken p.looks_of_receiver ≡ v))
roles views words p id v at = two_there _ _ v id (ap (λ (l : List Tally). get_elem? l id) (sym p.seats) ∙ at)

not_whole : (words : List ℕ) (views : List Tally) (h : IsWhole words views) (id : ℕ) (v : Tally) → get_elem? views id ≡ some v → v.role ≡ Both
not_whole words views h id v at = ap (λ (t : Tally). t.role) (sym (one_there (tally Both 0 []) v id (ap (λ (l : List Tally). get_elem? l id) (sym h.seat) ∙ at)).1)

-- the views after a step of the sender, or of the receiver
set_first : (views : List Tally) (a b w : Tally) (id : ℕ) → views ≡ a ∷ b ∷ [] → id ≡ 0 → set views id w ≡ w ∷ b ∷ []
set_first views a b w id e z = ap (λ (l : List Tally). set l id w) e ∙ ap (λ (i : ℕ). set (a ∷ b ∷ []) i w) z

set_second : (views : List Tally) (a b w : Tally) (id : ℕ) → views ≡ a ∷ b ∷ [] → id ≡ 1 → set views id w ≡ a ∷ w ∷ []
set_second views a b w id e z = ap (λ (l : List Tally). set l id w) e ∙ ap (λ (i : ℕ). set (a ∷ b ∷ []) i w) z

pub store_sent : (slots id new : ℕ) (v : Tally) (c : Slots) → v.role ≡ Sender → v.stored ≤ new
    → Allows KeepsCounts slots id (v, c) 0 (λ _. new) (λ _ m. m ≡ (tally v.role new v.looks, c))
store_sent slots id new v c sends grows s holds wide at low =
    ⊎_elim
    (λ (h : IsWhole s.words s.views). let e : Sender ≡ Both = sym sends ∙ not_whole s.words s.views h id v at in absurd cc)
    (λ (p : IsParted s.words s.views).
    ⊎_elim
    (λ (is : (id ≡ 0) × (tally Sender p.sent p.looks_of_sender ≡ v)).
    let was : p.sent ≡ v.stored = ap (λ (t : Tally). t.stored) is.1 in (
      tally Sender new p.looks_of_sender,
      keeps,
      tt,
      inr record {
        sent = new;
        taken = p.taken;
        looks_of_sender = p.looks_of_sender;
        looks_of_receiver = p.looks_of_receiver;
        words_are = with_sent s.words p.sent p.taken new p.words_are;
        seats = set_first s.views _ _ _ id p.seats is.0;
        sender_found = p.sender_found;
        receiver_found = found_more p.sent new p.looks_of_receiver (omega arith) p.receiver_found;
      },
      ap (λ (t : Tally). (tally t.role new t.looks, c)) is.1,
    ))
    (λ (is : (id ≡ 1) × (tally Receiver p.taken p.looks_of_receiver ≡ v)). let e : Receiver ≡ Sender = ap (λ (t : Tally). t.role) is.1 ∙ sends in absurd cc)
    (roles s.views s.words p id v at))
    holds

pub store_taken : (slots id new : ℕ) (v : Tally) (c : Slots) → v.role ≡ Receiver → v.stored ≤ new
    → Allows KeepsCounts slots id (v, c) 16 (λ _. new) (λ _ m. m ≡ (tally v.role new v.looks, c))
store_taken slots id new v c takes grows s holds wide at low =
    ⊎_elim
    (λ (h : IsWhole s.words s.views). let e : Receiver ≡ Both = sym takes ∙ not_whole s.words s.views h id v at in absurd cc)
    (λ (p : IsParted s.words s.views).
    ⊎_elim
    (λ (is : (id ≡ 0) × (tally Sender p.sent p.looks_of_sender ≡ v)). let e : Sender ≡ Receiver = ap (λ (t : Tally). t.role) is.1 ∙ takes in absurd cc)
    (λ (is : (id ≡ 1) × (tally Receiver p.taken p.looks_of_receiver ≡ v)).
    let was : p.taken ≡ v.stored = ap (λ (t : Tally). t.stored) is.1 in (
      tally Receiver new p.looks_of_receiver,
      keeps,
      tt,
      inr record {
        sent = p.sent;
        taken = new;
        looks_of_sender = p.looks_of_sender;
        looks_of_receiver = p.looks_of_receiver;
        words_are = with_taken s.words p.sent p.taken new p.words_are;
        seats = set_second s.views _ _ _ id p.seats is.0;
        sender_found = found_more p.taken new p.looks_of_sender (omega arith) p.sender_found;
        receiver_found = p.receiver_found;
      },
      ap (λ (t : Tally). (tally t.role new t.looks, c)) is.1,
    ))
    (roles s.views s.words p id v at))
    holds

-- the sender looks at the taken word
pub look_taken : (slots id : ℕ) (v : Tally) (c : Slots) → v.role ≡ Sender
    → Allows KeepsCounts slots id (v, c) 16 (λ n. n) (λ n m. m ≡ (tally v.role v.stored (v.looks ++ n ∷ []), c))
look_taken slots id v c sends s holds wide at low =
    let n : ℕ = get_or s.words 16 0 in
    ⊎_elim
    (λ (h : IsWhole s.words s.views). let e : Sender ≡ Both = sym sends ∙ not_whole s.words s.views h id v at in absurd cc)
    (λ (p : IsParted s.words s.views).
    ⊎_elim
    (λ (is : (id ≡ 0) × (tally Sender p.sent p.looks_of_sender ≡ v)).
    let found : n ≡ p.taken = p.words_are.taken_is in (
      tally Sender p.sent (p.looks_of_sender ++ n ∷ []),
      keeps,
      tt,
      inr record {
        sent = p.sent;
        taken = p.taken;
        looks_of_sender = p.looks_of_sender ++ n ∷ [];
        looks_of_receiver = p.looks_of_receiver;
        words_are = subst (HasWords (set s.words 16 n) p.sent) found (with_taken s.words p.sent p.taken n p.words_are);
        seats = set_first s.views _ _ _ id p.seats is.0;
        sender_found = found_snoc p.taken n p.looks_of_sender p.sender_found (omega arith);
        receiver_found = p.receiver_found;
      },
      ap (λ (t : Tally). (tally t.role t.stored (t.looks ++ n ∷ []), c)) is.1,
    ))
    (λ (is : (id ≡ 1) × (tally Receiver p.taken p.looks_of_receiver ≡ v)). let e : Receiver ≡ Sender = ap (λ (t : Tally). t.role) is.1 ∙ sends in absurd cc)
    (roles s.views s.words p id v at))
    holds

-- the receiver looks at the sent word
pub look_sent : (slots id : ℕ) (v : Tally) (c : Slots) → v.role ≡ Receiver
    → Allows KeepsCounts slots id (v, c) 0 (λ n. n) (λ n m. m ≡ (tally v.role v.stored (v.looks ++ n ∷ []), c))
look_sent slots id v c takes s holds wide at low =
    let n : ℕ = get_or s.words 0 0 in
    ⊎_elim
    (λ (h : IsWhole s.words s.views). let e : Receiver ≡ Both = sym takes ∙ not_whole s.words s.views h id v at in absurd cc)
    (λ (p : IsParted s.words s.views).
    ⊎_elim
    (λ (is : (id ≡ 0) × (tally Sender p.sent p.looks_of_sender ≡ v)). let e : Sender ≡ Receiver = ap (λ (t : Tally). t.role) is.1 ∙ takes in absurd cc)
    (λ (is : (id ≡ 1) × (tally Receiver p.taken p.looks_of_receiver ≡ v)).
    let found : n ≡ p.sent = p.words_are.sent_is in (
      tally Receiver p.taken (p.looks_of_receiver ++ n ∷ []),
      keeps,
      tt,
      inr record {
        sent = p.sent;
        taken = p.taken;
        looks_of_sender = p.looks_of_sender;
        looks_of_receiver = p.looks_of_receiver ++ n ∷ [];
        words_are = subst (λ (x : ℕ). HasWords (set s.words 0 n) x p.taken) found (with_sent s.words p.sent p.taken n p.words_are);
        seats = set_second s.views _ _ _ id p.seats is.0;
        sender_found = p.sender_found;
        receiver_found = found_snoc p.sent n p.looks_of_receiver p.receiver_found (omega arith);
      },
      ap (λ (t : Tally). (tally t.role t.stored (t.looks ++ n ∷ []), c)) is.1,
    ))
    (roles s.views s.words p id v at))
    holds

-- the one seat is parted
pub parts : (id : ℕ) (v : Tally) → v.role ≡ Both → Splits KeepsCounts id v (tally Sender 0 []) (tally Receiver 0 [])
parts id v both s holds at =
    let left : Tally = tally Sender 0 [] in
    let right : Tally = tally Receiver 0 [] in
    ⊎_elim
    (λ (h : IsWhole s.words s.views).
    let is = one_there (tally Both 0 []) v id (ap (λ (l : List Tally). get_elem? l id) (sym h.seat) ∙ at) in
    inr record {
      sent = 0;
      taken = 0;
      looks_of_sender = [];
      looks_of_receiver = [];
      words_are = h.words_are;
      seats = ap (λ (l : List Tally). set l id left ++ right ∷ []) h.seat ∙ ap (λ (i : ℕ). set (tally Both 0 [] ∷ []) i left ++ right ∷ []) is.0;
      sender_found = tt;
      receiver_found = tt;
    })
    (λ (p : IsParted s.words s.views).
    ⊎_elim
    (λ (is : (id ≡ 0) × (tally Sender p.sent p.looks_of_sender ≡ v)). let e : Sender ≡ Both = ap (λ (t : Tally). t.role) is.1 ∙ both in absurd cc)
    (λ (is : (id ≡ 1) × (tally Receiver p.taken p.looks_of_receiver ≡ v)). let e : Receiver ≡ Both = ap (λ (t : Tally). t.role) is.1 ∙ both in absurd cc)
    (roles s.views s.words p id v at))
    holds
