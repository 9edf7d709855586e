-- How the options of an interface tell the unit of its times, one option after another.
use Rattle.std.specs.Prelude.{⊤}
use Rattle.std.proofs.Common.{◌≡◌, ◌≢◌, ◌⊎◌, append_assoc, subst, ℕ, zero, suc, ◌+◌, ◌-◌, ◌≤◌, ◌<◌, Bool, true, false, ◌&&◌, ◌||◌, List, [], ◌∷◌, ◌++◌, length, take, drop, slice_index, find, Option, Some, None, ◌==◌, nat_lt, if◌then◌else◌, refl, sym, ap, ◌∙◌, inl, inr, arith}
use Rattle.std.specs.Option.{option_map}
use Rattle.std.proofs.lemmas.Bool.{cases_Bool, eq-eqb, le-ltb, lt-ltb, ltb-false, ne_eqb}
use Rattle.std.proofs.lemmas.List.{drop_at, length-append, length-drop, length-take-le, take-append-le}
use Rattle.scr_pcap.specs.declared.format.Order.{Order}
use Rattle.std.specs.Io.KnownBytes.{Consumes}
use Rattle.scr_pcap.proofs.FirstBytes.{number_at-append}
use Rattle.scr_pcap.proofs.Taking.{Consumes-none, Consumes-then}
use Rattle.scr_pcapng.specs.declared.options.Found.TheVariants as found
use Rattle.scr_pcapng.specs.Parts.{TakesBytes, TakesOption, TakesUnit, taken_by, unit_by}
use Rattle.scr_pcapng.specs.declared.options.Found.{Found}
use Rattle.scr_pcap.specs.Taken.{GivesFewer}
use Rattle.scr_pcapng.proofs.Taken.{GivesFewer-then}
use Rattle.scr_pcapng.specs.Options.{BlockOption, code_in, length_in, option_in, option_end, options_up_to, padded, stops, tells_unit, unit_in}

-- with fewer than four bytes the list stops
pub stops-short : (order : Order) (bytes : List ℕ) → length bytes < 4 → stops order bytes ≡ true
stops-short order bytes h = let short : nat_lt (length bytes) 4 ≡ true = lt-ltb _ _ h in rw short refl

or_left : (x y : Bool) → (x || y) ≡ false → x ≡ false
or_left true y h = h
or_left false y h = refl

pub stops-long : (order : Order) (bytes : List ℕ) → stops order bytes ≡ false → 4 ≤ length bytes
stops-long order bytes h = ltb-false _ _ (or_left (nat_lt (length bytes) 4) _ h)

options_up_to-stop : (most : ℕ) (order : Order) (bytes : List ℕ) → stops order bytes ≡ true → options_up_to most order bytes ≡ []
options_up_to-stop zero order bytes h = refl
options_up_to-stop (suc most) order bytes h = rw h refl

-- a count that is great enough makes no difference
options_up_to-enough : (order : Order) (m n : ℕ) (bytes : List ℕ) → length bytes ≤ m → length bytes ≤ n → options_up_to m order bytes ≡ options_up_to n order bytes
options_up_to-enough order zero n bytes h k = sym (options_up_to-stop n order bytes (stops-short order bytes (omega arith)))
options_up_to-enough order (suc m) zero bytes h k = options_up_to-stop (suc m) order bytes (stops-short order bytes (omega arith))
options_up_to-enough order (suc m) (suc n) bytes h k =
    elim (cases_Bool (stops order bytes)) [
      | inl end ↦ options_up_to-stop (suc m) order bytes end ∙ sym (options_up_to-stop (suc n) order bytes end)
      | inr on ↦
          let rest = drop (option_end order bytes) bytes in
          let count = length-drop (option_end order bytes) bytes in
          let same = options_up_to-enough order m n rest (omega arith) (omega arith) in
          rw on (ap (λ (xs : List BlockOption). option_in order bytes ∷ xs) same)
    ]

pub unit_in-stop : (order : Order) (bytes : List ℕ) → stops order bytes ≡ true → unit_in order bytes ≡ None
unfolding unit_in
unit_in-stop order bytes h =
    ap (λ (xs : List BlockOption). option_map (λ (o : BlockOption). slice_index o.value 0) (find tells_unit xs)) (options_up_to-stop (length bytes) order bytes h)

-- the option in front, and the others behind it
abbrev unit_from : Order → BlockOption → List ℕ → Option ℕ
unit_from order o behind = if tells_unit o then Some (slice_index o.value 0) else unit_in order behind

found_in : (o : BlockOption) (xs : List BlockOption)
    → option_map (λ (o : BlockOption). slice_index o.value 0) (find tells_unit (o ∷ xs))
    ≡ (if tells_unit o then Some (slice_index o.value 0) else option_map (λ (o : BlockOption). slice_index o.value 0) (find tells_unit xs))
found_in o xs =
    elim (cases_Bool (tells_unit o)) [ inl tells ↦ rw tells refl | inr other ↦ rw other refl ]

unit_in-at : (order : Order) (most : ℕ) (bytes : List ℕ) → length bytes ≡ suc most → stops order bytes ≡ false
    → unit_in order bytes ≡ unit_from order (option_in order bytes) (drop (option_end order bytes) bytes)
unfolding unit_in
unit_in-at order most bytes size on =
    let rest = drop (option_end order bytes) bytes in
    let count = length-drop (option_end order bytes) bytes in
    let told = λ (xs : List BlockOption). option_map (λ (o : BlockOption). slice_index o.value 0) (find tells_unit xs) in
    let here : options_up_to (length bytes) order bytes ≡ option_in order bytes ∷ options_up_to most order rest =
    ap (λ (n : ℕ). options_up_to n order bytes) size ∙ (rw on refl) in
    let behind : options_up_to most order rest ≡ options_up_to (length rest) order rest = options_up_to-enough order most (length rest) rest (omega arith) (omega arith) in
    ap told here ∙ found_in (option_in order bytes) (options_up_to most order rest)
    ∙ ap (λ (xs : List BlockOption). if tells_unit (option_in order bytes) then Some (slice_index (option_in order bytes).value 0) else told xs) behind

pub unit_in-next : (order : Order) (bytes : List ℕ) → stops order bytes ≡ false
    → unit_in order bytes ≡ unit_from order (option_in order bytes) (drop (option_end order bytes) bytes)
unit_in-next order bytes on =
    let long = stops-long order bytes on in
    unit_in-at order (length bytes - 1) bytes (omega arith) on

-- the code and the length that stand in front
code_in-append : (order : Order) (head behind : List ℕ) → length head ≡ 4 → code_in order (head ++ behind) ≡ code_in order head
code_in-append order head behind four = number_at-append order 0 2 head behind (omega arith)

length_in-append : (order : Order) (head behind : List ℕ) → length head ≡ 4 → length_in order (head ++ behind) ≡ length_in order head
length_in-append order head behind four = number_at-append order 2 2 head behind (omega arith)

-- the list stops at code 0, and where a value passes the end
stops-last : (order : Order) (head behind : List ℕ) → length head ≡ 4 → (code_in order head ≡ 0) ⊎ (length behind < padded (length_in order head))
    → stops order (head ++ behind) ≡ true
stops-last order head behind four (inl zero_code) =
    let long : nat_lt (length (head ++ behind)) 4 ≡ false = le-ltb _ _ (omega (arith, length-append head behind)) in
    let code : (code_in order (head ++ behind) == 0) ≡ true = eq-eqb _ _ (code_in-append order head behind four ∙ zero_code) in
    rw (long, code) refl
stops-last order head behind four (inr short) =
    let long : nat_lt (length (head ++ behind)) 4 ≡ false = le-ltb _ _ (omega (arith, length-append head behind)) in
    let size = length_in-append order head behind four in
    let end : option_end order (head ++ behind) ≡ 4 + padded (length_in order head) = ap (λ (n : ℕ). 4 + padded n) size in
    let passes : nat_lt (length (head ++ behind)) (option_end order (head ++ behind)) ≡ true = lt-ltb _ _ (omega (arith, length-append head behind)) in
    rw (long, passes) (or_true (code_in order (head ++ behind) == 0))
  where
    or_true : (b : Bool) → (b || true) ≡ true
    or_true true = refl
    or_true false = refl

pub unit_in-last : (order : Order) (head behind : List ℕ) → length head ≡ 4 → (code_in order head ≡ 0) ⊎ (length behind < padded (length_in order head))
    → unit_in order (head ++ behind) ≡ None
unit_in-last order head behind four last = unit_in-stop order (head ++ behind) (stops-last order head behind four last)

-- an option that is whole
goes_on : (order : Order) (head value behind : List ℕ) → length head ≡ 4 → code_in order head ≢ 0 → length value ≡ padded (length_in order head)
    → stops order (head ++ (value ++ behind)) ≡ false
goes_on order head value behind four some all =
    let count = length-append head (value ++ behind) in
    let more = length-append value behind in
    let long : nat_lt (length (head ++ (value ++ behind))) 4 ≡ false = le-ltb _ _ (omega arith) in
    let same = code_in-append order head (value ++ behind) four in
    let code : (code_in order (head ++ (value ++ behind)) == 0) ≡ false = ne_eqb _ _ (λ none. some (sym same ∙ none)) in
    let size = length_in-append order head (value ++ behind) four in
    let end : option_end order (head ++ (value ++ behind)) ≡ 4 + padded (length_in order head) = ap (λ (n : ℕ). 4 + padded n) size in
    let within : nat_lt (length (head ++ (value ++ behind))) (option_end order (head ++ (value ++ behind))) ≡ false = le-ltb _ _ (omega arith) in
    rw (long, code, within) refl

-- a length is within its padding
padded-le : (n : ℕ) → n ≤ padded n
padded-le n = omega arith

pub unit_in-on : (order : Order) (head value behind : List ℕ) → length head ≡ 4 → code_in order head ≢ 0 → length value ≡ padded (length_in order head)
    → unit_in order ((head ++ value) ++ behind)
    ≡ unit_from order (record { code = code_in order head; value = take (length_in order head) value }) behind
unit_in-on order head value behind four some all =
    let bytes = head ++ (value ++ behind) in
    let within = padded-le (length_in order head) in
    let code = code_in-append order head (value ++ behind) four in
    let size = length_in-append order head (value ++ behind) four in
    let content : take (length_in order bytes) (drop 4 bytes) ≡ take (length_in order head) value =
    ap (λ (n : ℕ). take n (drop 4 bytes)) size ∙ ap (take (length_in order head)) (drop_at head (value ++ behind) 4 four)
    ∙ take-append-le (length_in order head) value behind (omega arith) in
    let count = length-append head value in
    let rest : drop (option_end order bytes) bytes ≡ behind =
    ap (λ (n : ℕ). drop (4 + padded n) bytes) size ∙ ap (drop (4 + padded (length_in order head))) (sym (append_assoc head value behind))
    ∙ drop_at (head ++ value) behind (4 + padded (length_in order head)) (omega arith) in
    let make : ℕ → List ℕ → BlockOption = λ c v. record { code = c; value = v } in
    ap (unit_in order) (append_assoc head value behind) ∙ unit_in-next order bytes (goes_on order head value behind four some all)
    ∙ ap (λ (o : BlockOption). unit_from order o (drop (option_end order bytes) bytes)) (ap (λ (c : ℕ). make c (take (length_in order bytes) (drop 4 bytes))) code ∙ ap (make (code_in order head)) content)
    ∙ ap (unit_from order (make (code_in order head) (take (length_in order head) value))) rest

-- what was taken of options, by what was found in them
pub TakesOption-last : (old new : Option (List ℕ)) (order : Order) (head : List ℕ) (size : ℕ) → Consumes old new head → length head ≡ 4 → 4 ≤ size
    → (code_in order head ≡ 0) ⊎ (size - 4 < padded (length_in order head)) → TakesOption old new order size (size - 4) found.Last
TakesOption-last old new order head size taken four enough last = record {
  bytes = head;
  taken = taken;
  all = omega arith;
  told = λ behind is. unit_in-last order head behind four (subst (λ (n : ℕ). (code_in order head ≡ 0) ⊎ (n < padded (length_in order head))) (sym is) last);
}

first_of : (value : List ℕ) → length value ≡ 4 → (length (take 1 value) ≡ 1) × (slice_index (take 1 value) 0 ≡ slice_index value 0)
first_of [] all = absurd (omega arith)
first_of (v ∷ value) all = (refl, refl)

pub TakesOption-unit : (old mid new : Option (List ℕ)) (order : Order) (head value : List ℕ) (size : ℕ) → Consumes old mid head → length head ≡ 4
    → Consumes mid new value → length value ≡ 4 → 8 ≤ size → code_in order head ≡ 9 → length_in order head ≡ 1
    → TakesOption old new order size (size - 8) (found.Unit (slice_index value 0))
TakesOption-unit old mid new order head value size taken four more all enough code one =
    let count = length-append head value in
    let content : take (length_in order head) value ≡ take 1 value = ap (λ (n : ℕ). take n value) one in
    let first = first_of value all in
    let sized : length value ≡ padded (length_in order head) = all ∙ sym (ap padded one) in
    let o : BlockOption = record { code = code_in order head; value = take (length_in order head) value } in
    let is_code : (code_in order head == 9) ≡ true = eq-eqb _ _ code in
    let is_one : (length (take (length_in order head) value) == 1) ≡ true = eq-eqb _ _ (ap length content ∙ first.0) in
    let tells : tells_unit o ≡ true = rw (is_code, is_one) refl in
    let told : slice_index (take (length_in order head) value) 0 ≡ slice_index value 0 = ap (λ (v : List ℕ). slice_index v 0) content ∙ first.1 in
    record {
      bytes = head ++ value;
      taken = Consumes-then old mid new head value taken more;
      all = omega arith;
      told = λ behind is.
          unit_in-on order head value behind four (λ none. let differ = sym none ∙ code in omega arith) sized
          ∙ ap (λ (b : Bool). if b then Some (slice_index o.value 0) else unit_in order behind) tells ∙ ap (λ (v : ℕ). Some v) told;
    }

and_false : (b : Bool) → (b && false) ≡ false
and_false true = refl
and_false false = refl

pub TakesOption-another : (old mid new : Option (List ℕ)) (order : Order) (head : List ℕ) (rest size : ℕ) → Consumes old mid head → length head ≡ 4
    → rest ≡ padded (length_in order head) → TakesBytes mid new rest → 4 + rest ≤ size → code_in order head ≢ 0
    → (code_in order head ≢ 9) ⊎ (length_in order head ≢ 1)
    → TakesOption old new order size (size - (4 + rest)) (found.Another (4 + rest))
TakesOption-another old mid new order head rest size taken four is_padded more enough some other =
    let value = more.bytes in
    let sized : length value ≡ padded (length_in order head) = more.all ∙ is_padded in
    let count = length-append head value in
    let within = padded-le (length_in order head) in
    let o : BlockOption = record { code = code_in order head; value = take (length_in order head) value } in
    let long : length (take (length_in order head) value) ≡ length_in order head = length-take-le _ value (omega arith) in
    let tells : tells_unit o ≡ false = not_unit other long in
    record {
      bytes = head ++ value;
      taken = Consumes-then old mid new head value taken more.taken;
      all = omega arith;
      told = λ behind is.
          unit_in-on order head value behind four some sized
          ∙ ap (λ (b : Bool). if b then Some (slice_index o.value 0) else unit_in order behind) tells;
    }
  where
    not_unit : (code_in order head ≢ 9) ⊎ (length_in order head ≢ 1)
        → length (take (length_in order head) more.bytes) ≡ length_in order head
        → tells_unit (record { code = code_in order head; value = take (length_in order head) more.bytes }) ≡ false
    not_unit (inl differs) long = let other_code : (code_in order head == 9) ≡ false = ne_eqb _ _ differs in rw other_code refl
    not_unit (inr differs) long =
        let longer : (length (take (length_in order head) more.bytes) == 1) ≡ false = ne_eqb _ _ (λ one. differs (sym long ∙ one)) in
        rw longer (and_false (code_in order head == 9))

-- one option behind another
pub TakesOption-then : (old mid new : Option (List ℕ)) (order : Order) (size left less n : ℕ) (before what : Found)
    → TakesOption old mid order size left before → before ≡ found.Another n → TakesOption mid new order left (left - taken_by what) what → less ≡ taken_by what
    → TakesOption old new order size (left - less) what
TakesOption-then old mid new order size left less n before what first is_another second same =
    let one = first.all in
    let two = second.all in
    let count = length-append first.bytes second.bytes in
    record {
      bytes = first.bytes ++ second.bytes;
      taken = Consumes-then old mid new first.bytes second.bytes first.taken second.taken;
      all = omega arith;
      told = λ behind is.
          let more = length-append second.bytes behind in
          ap (unit_in order) (append_assoc first.bytes second.bytes behind) ∙ first.told (second.bytes ++ behind) (omega arith)
          ∙ ap (λ (f : Found). unit_by f (unit_in order (second.bytes ++ behind))) is_another ∙ second.told behind (omega arith);
    }

pub TakesOption-none : (left : Option (List ℕ)) (order : Order) (size n : ℕ) → TakesOption left left order size size (found.Another n)
TakesOption-none left order size n = record { bytes = []; taken = Consumes-none left; all = omega arith; told = λ behind is. refl }

pub TakesOption-fewer : (old mid new : Option (List ℕ)) (order : Order) (size left : ℕ) (what : Found) → TakesOption old mid order size left what
    → GivesFewer left mid new → GivesFewer size old new
TakesOption-fewer old mid new order size left what first fewer =
    let one = first.all in
    GivesFewer-then old mid new (length first.bytes) left size (record { bytes = first.bytes; taken = first.taken; all = refl }) fewer (omega arith)

-- behind them no option is found any more
abbrev pub IsLast : Found → Type 0
IsLast (found.Unit value) = ⊤
IsLast found.Last = ⊤
IsLast (found.Another taken) = ⊥

unit_by-last : (what : Found) (order : Order) (behind : List ℕ) → (length behind < 4) ⊎ IsLast what → unit_by what (unit_in order behind) ≡ unit_by what None
unit_by-last (found.Unit value) order behind last = refl
unit_by-last found.Last order behind last = refl
unit_by-last (found.Another taken) order behind (inl short) = unit_in-stop order behind (stops-short order behind short)
unit_by-last (found.Another taken) order behind (inr never) = absurd never

pub TakesUnit-from : (old mid new : Option (List ℕ)) (order : Order) (size left : ℕ) (what : Found) → TakesOption old mid order size left what
    → TakesBytes mid new left → (left < 4) ⊎ IsLast what → TakesUnit old new order size (unit_by what None)
TakesUnit-from old mid new order size left what first rest last =
    let one = first.all in
    let two = rest.all in
    let count = length-append first.bytes rest.bytes in
    record {
      bytes = first.bytes ++ rest.bytes;
      taken = Consumes-then old mid new first.bytes rest.bytes first.taken rest.taken;
      all = omega arith;
      told = sym (first.told rest.bytes rest.all
          ∙ unit_by-last what order rest.bytes (subst (λ (n : ℕ). (n < 4) ⊎ IsLast what) (sym rest.all) last));
    }

pub IsLast-from : (what : Found) → ((n : ℕ) → what ≡ found.Another n → ⊥) → IsLast what
IsLast-from (found.Unit value) none = tt
IsLast-from found.Last none = tt
IsLast-from (found.Another taken) none = none taken refl

pub no_unit : (what : Found) → ((n : ℕ) → what ≡ found.Unit n → ⊥) → unit_by what None ≡ None
no_unit (found.Unit value) none = absurd (none value refl)
no_unit found.Last none = refl
no_unit (found.Another taken) none = refl

pub not_both : {b : Bool} → b ≡ false → b ≡ true → ⊥
not_both no_match match_found = let both : false ≡ true = sym no_match ∙ match_found in cc
