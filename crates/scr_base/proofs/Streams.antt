-- What a sink gains by one write after another.
use Rattle.std.proofs.Common.{◌≡◌, ◌<◌, ℕ, arith, length, length-append, inr, OnErr, List, [], ◌++◌, take, drop, Option, Some, None, Result, Ok, Err, sym, ap, ◌∙◌, append_assoc, subst}
use Rattle.std.proofs.lemmas.List.{append-nil, take-append-drop}
use Rattle.std.specs.Io.KnownBytes.{Appends, Keeps}
use Rattle.scr_base.specs.Streams.{AppendsPrefix, StopsWithin, Passes, WritesText, BatchesText, HoldsOrWrote}

-- nothing appended
pub Appends-none : (a : Option (List ℕ)) → Appends a a []
Appends-none None = tt
Appends-none (Some x) = sym (append-nil x)

pub Appends-keeps : (a b c : Option (List ℕ)) (x : List ℕ) → Appends a b x → Keeps b c → Appends a c x
Appends-keeps None b c x gained kept = tt
Appends-keeps (Some a) None c x gained kept = absurd gained
Appends-keeps (Some a) (Some b) None x gained kept = absurd kept
Appends-keeps (Some a) (Some b) (Some c) x gained kept = kept ∙ gained

-- one text after another
pub Appends-then : (a b c : Option (List ℕ)) (x y : List ℕ) → Appends a b x → Appends b c y → Appends a c (x ++ y)
Appends-then None b c x y first second = tt
Appends-then (Some a) None c x y first second = absurd first
Appends-then (Some a) (Some b) None x y first second = absurd second
Appends-then (Some a) (Some b) (Some c) x y first second = second ∙ ap (λ (t : List ℕ). t ++ y) first ∙ append_assoc a x y

-- a batch passed on one text after another
pub Passes-then : (a b c : Option (List ℕ)) (p q r x y : List ℕ) → Passes a b p q x → Passes b c q r y → Passes a c p r (x ++ y)
Passes-then a b c p q r x y first second = record {
  sent = first.sent ++ second.sent;
  gained = Appends-then a b c first.sent second.sent first.gained second.gained;
  parts =
      sym (append_assoc p x y) ∙ ap (λ (t : List ℕ). t ++ y) first.parts ∙ append_assoc first.sent q y
      ∙ ap (λ (t : List ℕ). first.sent ++ t) second.parts ∙ sym (append_assoc first.sent second.sent r);
}

-- a write that failed behind texts that were passed on
pub Passes-stops : (a b c : Option (List ℕ)) (p q x y : List ℕ) → Passes a b p q x → StopsWithin b c (q ++ y) → StopsWithin a c (p ++ (x ++ y))
Passes-stops a b c p q x y first second = record {
  sent = first.sent ++ second.sent;
  rest = second.rest;
  gained = Appends-then a b c first.sent second.sent first.gained second.gained;
  parts =
      sym (append_assoc p x y) ∙ ap (λ (t : List ℕ). t ++ y) first.parts ∙ append_assoc first.sent q y
      ∙ ap (λ (t : List ℕ). first.sent ++ t) second.parts ∙ sym (append_assoc first.sent second.sent second.rest);
  outstanding = second.outstanding;
}

-- a front of a text is a front of a longer one
pub StopsWithin-longer : (a b : Option (List ℕ)) (p x y : List ℕ) → StopsWithin a b (p ++ x) → StopsWithin a b (p ++ (x ++ y))
StopsWithin-longer a b p x y front = record {
  sent = front.sent;
  rest = front.rest ++ y;
  gained = front.gained;
  parts = sym (append_assoc p x y) ∙ ap (λ (t : List ℕ). t ++ y) front.parts ∙ append_assoc front.sent front.rest y;
  outstanding = (let some : 0 < length front.rest = front.outstanding in omega (arith, length-append {A = ℕ}));
}

-- a text that stopped within has a front that was appended
pub StopsWithin-front : (a b : Option (List ℕ)) (text : List ℕ) → StopsWithin a b text → AppendsPrefix a b text
StopsWithin-front a b text stops = record { sent = stops.sent; rest = stops.rest; gained = stops.gained; parts = stops.parts }

-- bytes from the front of what is held go out
pub Passes-sends : (a b c : Option (List ℕ)) (n : ℕ) (p q x : List ℕ) → Passes a b p q x → Appends b c (take n q) → Passes a c p (drop n q) x
Passes-sends a b c n p q x passed gained = record {
  sent = passed.sent ++ take n q;
  gained = Appends-then a b c passed.sent (take n q) passed.gained gained;
  parts = passed.parts ∙ ap (λ (t : List ℕ). passed.sent ++ t) (sym (take-append-drop n q)) ∙ sym (append_assoc passed.sent (take n q) (drop n q));
}

-- a text that is written behind what was held, with nothing held any more
pub WritesText-behind : {E : Type 0} (a b c : Option (List ℕ)) (held holds text : List ℕ) (result : Result Unit E)
    → Appends a b held → holds ≡ [] → WritesText b c result text → BatchesText a c held holds result text
WritesText-behind a b c held holds text (Ok u) before empty gained = record {
  sent = held ++ text;
  gained = Appends-then a b c held text before gained;
  parts = sym (ap (λ (t : List ℕ). (held ++ text) ++ t) empty ∙ append-nil (held ++ text));
}
WritesText-behind a b c held holds text (Err e) before empty front = record {
  sent = held ++ front.sent;
  rest = front.rest;
  gained = Appends-then a b c held front.sent before front.gained;
  parts = ap (λ (t : List ℕ). held ++ t) front.parts ∙ sym (append_assoc held front.sent front.rest);
  outstanding = front.outstanding;
}

-- a text behind texts that were passed on, whole or not
pub BatchesText-then : {E : Type 0} (a b c : Option (List ℕ)) (p q r x y : List ℕ) (result : Result Unit E)
    → Passes a b p q x → BatchesText b c q r result y → BatchesText a c p r result (x ++ y)
BatchesText-then a b c p q r x y (Ok u) first second = Passes-then a b c p q r x y first second
BatchesText-then a b c p q r x y (Err e) first second = Passes-stops a b c p q x y first second

-- what was passed on to an empty batch, and then what the batch holds
pub WritesText-finish : {E : Type 0} (a b c : Option (List ℕ)) (p q x : List ℕ) (result : Result Unit E)
    → p ≡ [] → Passes a b p q x → WritesText b c result q → WritesText a c result x
WritesText-finish a b c p q x (Ok u) empty passed gained =
    let P : List ℕ → Type 0 = λ t. Appends a c t in
    subst P (sym passed.parts ∙ ap (λ (t : List ℕ). t ++ x) empty) (Appends-then a b c passed.sent q passed.gained gained)
WritesText-finish a b c p q x (Err e) empty passed front = record {
  sent = passed.sent ++ front.sent;
  rest = front.rest;
  gained = Appends-then a b c passed.sent front.sent passed.gained front.gained;
  parts =
      ap (λ (t : List ℕ). t ++ x) (sym empty) ∙ passed.parts ∙ ap (λ (t : List ℕ). passed.sent ++ t) front.parts
      ∙ sym (append_assoc passed.sent front.sent front.rest);
  outstanding = front.outstanding;
}

-- a batch that had written all that it held, and failed with the text behind it
pub HoldsOrWrote-behind : {E : Type 0} (a b c : Option (List ℕ)) (held holds text : List ℕ) (result : Result Unit E)
    → Appends a b held → holds ≡ [] → WritesText b c result text → OnErr result (HoldsOrWrote a c held holds)
HoldsOrWrote-behind a b c held holds text (Ok u) before empty gained = tt
HoldsOrWrote-behind a b c held holds text (Err e) before empty stops =
    inr (empty, (stops.sent, Appends-then a b c held stops.sent before stops.gained))
