-- What is taken from a source by one read after another.
use Rattle.std.proofs.Common.{◌≡◌, ℕ, ◌+◌, ◌-◌, ◌≤◌, List, [], ◌++◌, length, Option, Result, Ok, Err, OnErr, sym, ap, ◌∙◌, arith}
use Rattle.std.proofs.Math.Seq.{drop-append-add}
use Rattle.std.proofs.lemmas.List.{length-append}
use Rattle.std.specs.Io.KnownBytes.{Consumes, prepend_known}
use Rattle.scr_pcap.specs.declared.format.Order.{Order}
use Rattle.scr_pcap.specs.Header.{number, number_at}
use Rattle.scr_pcap.proofs.Taking.{Consumes-none, Consumes-then, GivesFewer-ahead}
use Rattle.scr_pcap.specs.Taken.{GivesAtMost, GivesFewer}
use Rattle.scr_pcapng.specs.Parts.{TakesBytes, TakesTail}

pub TakesBytes-none : (left : Option (List ℕ)) (size : ℕ) → size ≡ 0 → TakesBytes left left size
TakesBytes-none left size none = record { bytes = []; taken = Consumes-none left; all = omega arith }

pub TakesBytes-from : (old new : Option (List ℕ)) (bytes : List ℕ) (size : ℕ) → Consumes old new bytes → length bytes ≡ size → TakesBytes old new size
TakesBytes-from old new bytes size taken all = record { bytes = bytes; taken = taken; all = all }

pub TakesBytes-then : (a b c : Option (List ℕ)) (first second size : ℕ) → TakesBytes a b first → TakesBytes b c second → first + second ≡ size → TakesBytes a c size
TakesBytes-then a b c first second size one other sum =
    let x = one.all in
    let y = other.all in
    let joined = length-append one.bytes other.bytes in
    record { bytes = one.bytes ++ other.bytes; taken = Consumes-then a b c one.bytes other.bytes one.taken other.taken; all = omega arith }

pub GivesFewer-then : (a b c : Option (List ℕ)) (first second size : ℕ) → TakesBytes a b first → GivesFewer second b c → first + second ≤ size → GivesFewer size a c
GivesFewer-then a b c first second size one other within =
    let x = one.all in
    let y = other.within in
    let joined = length-append one.bytes other.front in
    record {
      front = one.bytes ++ other.front;
      given = Consumes-then a b c one.bytes other.front one.taken other.given;
      within = omega arith;
    }

pub GivesFewer-more : (a b : Option (List ℕ)) (size more : ℕ) → GivesFewer size a b → size ≤ more → GivesFewer more a b
GivesFewer-more a b size more fewer within =
    let y = fewer.within in
    record { front = fewer.front; given = fewer.given; within = omega arith }

-- what holds at any error
pub any_on_err : {T E P : Type 0} (result : Result T E) → P → OnErr result P
any_on_err (Ok value) fact = tt
any_on_err (Err fault) fact = fact

-- a number behind other bytes
pub number_at-behind : (order : Order) (n place : ℕ) (first behind : List ℕ) → number_at order (length first + place) n (first ++ behind) ≡ number_at order place n behind
number_at-behind order n place first behind = ap (number order n) (drop-append-add first behind place)

-- the end of a block, of which a short piece was kept
pub TakesTail-from : (old mid new : Option (List ℕ)) (order : Order) (surplus short size told : ℕ) (piece : List ℕ) → TakesBytes old mid surplus
    → Consumes mid new piece → length piece ≡ short → surplus + short ≡ size → 4 ≤ short → told ≡ number_at order (short - 4) 4 piece
    → TakesTail old new order size told
TakesTail-from old mid new order surplus short size told piece passed taken all sum enough is =
    let x = passed.all in
    let joined = length-append passed.bytes piece in
    let place : size - 4 ≡ length passed.bytes + (short - 4) = omega arith in
    record {
      bytes = passed.bytes ++ piece;
      taken = Consumes-then old mid new passed.bytes piece passed.taken taken;
      all = omega arith;
      number = is ∙ sym (number_at-behind order 4 (short - 4) passed.bytes piece) ∙ ap (λ (n : ℕ). number_at order n 4 (passed.bytes ++ piece)) (sym place);
    }

-- bytes that were taken ahead, and fewer behind them
pub fewer-ahead : {T E : Type 0} (result : Result T E) (first : List ℕ) (size more : ℕ) (old new : Option (List ℕ)) → OnErr result (GivesFewer size old new)
    → length first + size ≤ more → OnErr result (GivesFewer more (prepend_known first old) new)
fewer-ahead (Ok value) first size more old new fewer within = tt
fewer-ahead (Err fault) first size more old new fewer within = GivesFewer-ahead first size more old new fewer within

-- no more than another bound
pub GivesAtMost-more : (old new : Option (List ℕ)) (size more : ℕ) → GivesAtMost size old new → size ≤ more → GivesAtMost more old new
GivesAtMost-more old new size more most within =
    let few = most.within in
    record { front = most.front; given = most.given; within = omega arith }
