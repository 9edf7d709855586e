-- The packets of the messages that are due and not sent: the first is the lane's next one, and what is given joins behind.
use Rattle.std.proofs.Common.{◌≡◌, ℕ, zero, suc, ◌+◌, ◌≤◌, List, [], ◌∷◌, ◌++◌, length, drop, sym, refl, ap, ◌∙◌, subst, arith}
use Rattle.std.specs.Prelude.{Some}
use Rattle.std.specs.List.{AllZip, slice_get}
use Rattle.std.proofs.lemmas.List.{length-append, drop-append-le}
use Rattle.scr_wire.specs.declared.message.Message.{Message}
use Rattle.scr_wire.specs.Spelling.{Spells}
use Rattle.scr_wire.specs.Lane.{lane}
use Rattle.scr_lane.specs.Messages.{Route, SpellsMessage}
use Rattle.scr_lane.specs.Ends.{End}
use Rattle.scr_feed.specs.Feeding.{IsFed}

pub AllZip-append : (ms ns : List Message) (ps qs : List (List ℕ)) → AllZip Spells ms ps → AllZip Spells ns qs → AllZip Spells (ms ++ ns) (ps ++ qs)
AllZip-append [] ns [] qs h k = k
AllZip-append [] ns (p ∷ ps) qs h k = absurd h
AllZip-append (m ∷ ms) ns [] qs h k = absurd h
AllZip-append (m ∷ ms) ns (p ∷ ps) qs h k = (h.0, AllZip-append ms ns ps qs h.1 k)

-- the first of what is left
pub record IsFirst (due : List Message) (count : ℕ) (packet : List ℕ) (rest : List (List ℕ)) : Type 0 where
  pub message : Message
  pub stands : slice_get due count ≡ Some message
  pub spells : Spells message packet
  pub within : count + 1 ≤ length due
  pub left : AllZip Spells (drop (count + 1) due) rest

pub first_left : (due : List Message) (count : ℕ) (packet : List ℕ) (rest : List (List ℕ)) → AllZip Spells (drop count due) (packet ∷ rest) → IsFirst due count packet rest
first_left [] zero packet rest h = absurd h
first_left [] (suc count) packet rest h = absurd h
first_left (m ∷ due) zero packet rest h = record { message = m; stands = refl; spells = h.0; within = omega arith; left = h.1 }
first_left (m ∷ due) (suc count) packet rest h =
    let it = first_left due count packet rest h in
    let within = it.within in
    let place : suc (count + 1) ≡ suc count + 1 = omega arith in
    record {
      message = it.message;
      stands = it.stands;
      spells = it.spells;
      within = omega arith;
      left = subst (λ (k : ℕ). AllZip Spells (drop k (m ∷ due)) rest) place it.left;
    }

get_front : (xs ys : List Message) (n : ℕ) (m : Message) → slice_get xs n ≡ Some m → slice_get (xs ++ ys) n ≡ Some m
get_front [] ys n m is = absurd cc
get_front (x ∷ xs) ys zero m is = is
get_front (x ∷ xs) ys (suc n) m is = get_front xs ys n m is

-- so it is the lane's next message
pub next_of_lane : (route : Route) (due rest : List Message) (packet : List ℕ) (left : List (List ℕ)) (end : End Route)
    → lane route.plan route.core ≡ due ++ rest → IsFed route due (packet ∷ left) end → SpellsMessage end.about end.count packet
next_of_lane route due rest packet left end parts fed =
    let first = first_left due end.count packet left fed.in_order in
    subst (λ (r : Route). SpellsMessage r end.count packet) (sym fed.about)
    (record {
      message = first.message;
      stands = ap (λ (xs : List Message). slice_get xs end.count) parts ∙ get_front due rest end.count first.message first.stands;
      spells = first.spells;
    })

-- and once it was sent, the others are left
pub others_left : (route : Route) (due : List Message) (packet : List ℕ) (left : List (List ℕ)) (end after : End Route)
    → IsFed route due (packet ∷ left) end → after.about ≡ end.about → after.count ≡ end.count + 1 → IsFed route due left after
others_left route due packet left end after fed about count =
    let first = first_left due end.count packet left fed.in_order in
    let within = first.within in
    record {
      about = about ∙ fed.about;
      sent = omega arith;
      in_order = subst (λ (k : ℕ). AllZip Spells (drop k due) left) (sym count) first.left;
    }

-- a look changes nothing of it
pub same_left : (route : Route) (due : List Message) (left : List (List ℕ)) (end after : End Route) → IsFed route due left end
    → after.about ≡ end.about → after.count ≡ end.count → IsFed route due left after
same_left route due left end after fed about count = let sent = fed.sent in record {
  about = about ∙ fed.about;
  sent = omega arith;
  in_order = subst (λ (k : ℕ). AllZip Spells (drop k due) left) (sym count) fed.in_order;
}

-- where nothing is left, what is given is left
pub given : (route : Route) (due more : List Message) (packets : List (List ℕ)) (end : End Route) → IsFed route due [] end → AllZip Spells more packets
    → IsFed route (due ++ more) packets end
given route due more packets end fed spelled = let sent = fed.sent in record {
  about = fed.about;
  sent = omega (arith, length-append due more);
  in_order =
      subst (λ (ms : List Message). AllZip Spells ms packets) (sym (drop-append-le end.count due more fed.sent))
      (AllZip-append (drop end.count due) more [] packets fed.in_order spelled);
}

none_left : (due : List Message) (count : ℕ) → AllZip Spells (drop count due) [] → length due ≤ count
none_left [] count h = omega arith
none_left (m ∷ due) zero h = absurd h
none_left (m ∷ due) (suc count) h = let more = none_left due count h in omega arith

-- where nothing is left, all that is due was sent
pub all_sent : (route : Route) (due : List Message) (end : End Route) → IsFed route due [] end → end.count ≡ length due
all_sent route due end fed = let sent = fed.sent in let all = none_left due end.count fed.in_order in omega arith
