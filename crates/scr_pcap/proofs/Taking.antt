-- What is taken from a source by one read after another.
use Rattle.std.proofs.Common.{◌≡◌, ℕ, ◌+◌, ◌≤◌, List, [], ◌++◌, length, take, Option, Some, None, Result, Ok, Err, OnErr, refl, sym, ap, subst, ◌∙◌, append_assoc, arith}
use Rattle.std.proofs.Math.Seq.{take-append-add}
use Rattle.std.proofs.lemmas.List.{length-append, length-take-le, take-append-le}
use borrow.Rule.Slice.PartMut.{put_mid, post_of}
use Rattle.std.specs.Io.KnownBytes.{Consumes, prepend_known}
use Rattle.scr_pcap.specs.Taken.{GivesFewer}

-- nothing taken
pub Consumes-none : (a : Option (List ℕ)) → Consumes a a []
Consumes-none None = tt
Consumes-none (Some x) = refl

-- some bytes after others
pub Consumes-then : (a b c : Option (List ℕ)) (x y : List ℕ) → Consumes a b x → Consumes b c y → Consumes a c (x ++ y)
Consumes-then None b c x y first second = tt
Consumes-then (Some a) None c x y first second = absurd first
Consumes-then (Some a) (Some b) None x y first second = absurd second
Consumes-then (Some a) (Some b) (Some c) x y first second = first ∙ ap (λ (t : List ℕ). x ++ t) second ∙ sym (append_assoc x y c)

-- what stands in front after a write behind the first a
pub take-put_mid_front : (a k n : ℕ) (xs ys : List ℕ) → a ≤ length xs → n ≤ length ys → take (a + n) (put_mid a k xs ys) ≡ take a xs ++ take n ys
take-put_mid_front a k n xs ys within enough =
    let front = length-take-le a xs within in
    subst (λ (m : ℕ). take (m + n) (put_mid a k xs ys) ≡ take a xs ++ take n ys) front
    (take-append-add (take a xs) (ys ++ post_of a k xs) n ∙ ap (λ (t : List ℕ). take a xs ++ t) (take-append-le n ys (post_of a k xs) enough))

-- bytes that were taken ahead, and those behind them
pub Consumes-ahead : (first bytes : List ℕ) (old new : Option (List ℕ)) → Consumes old new bytes → Consumes (prepend_known first old) new (first ++ bytes)
Consumes-ahead first bytes None new taken = tt
Consumes-ahead first bytes (Some old) None taken = absurd taken
Consumes-ahead first bytes (Some old) (Some new) taken = ap (λ (t : List ℕ). first ++ t) taken ∙ sym (append_assoc first bytes new)

pub GivesFewer-ahead : (first : List ℕ) (size more : ℕ) (old new : Option (List ℕ)) → GivesFewer size old new → length first + size ≤ more
    → GivesFewer more (prepend_known first old) new
GivesFewer-ahead first size more old new fewer within =
    let count = length-append first fewer.front in
    let few = fewer.within in
    record { front = first ++ fewer.front; given = Consumes-ahead first fewer.front old new fewer.given; within = omega arith }

pub fewer_ahead_on_err : {T E : Type 0} (result : Result T E) (first : List ℕ) (size more : ℕ) (old new : Option (List ℕ)) → GivesFewer size old new
    → length first + size ≤ more → OnErr result (GivesFewer more (prepend_known first old) new)
fewer_ahead_on_err (Ok value) first size more old new fewer within = tt
fewer_ahead_on_err (Err fault) first size more old new fewer within = GivesFewer-ahead first size more old new fewer within

pub fewer_behind_on_err : {T E : Type 0} (result : Result T E) (first : List ℕ) (size more : ℕ) (old mid new : Option (List ℕ)) → Consumes old mid first
    → OnErr result (GivesFewer size mid new) → length first + size ≤ more → OnErr result (GivesFewer more old new)
fewer_behind_on_err (Ok value) first size more old mid new taken fewer within = tt
fewer_behind_on_err (Err fault) first size more old mid new taken fewer within =
    let count = length-append first fewer.front in
    let few = fewer.within in
    record { front = first ++ fewer.front; given = Consumes-then old mid new first fewer.front taken fewer.given; within = omega arith }
