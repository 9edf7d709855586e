-- The header of a stream, from the first bytes that were read.
use Rattle.std.proofs.Common.{◌≡◌, ℕ, ◌<◌, ◌≤◌, true, false, List, [], ◌++◌, length, drop, Option, Some, None, Result, Ok, Err, IfSome, IfOk, IfErr, sym, ap, ◌∙◌, inl, inr, arith, rules, tests}
use Rattle.std.specs.Prelude.{slice_index, nat_lt}
use Rattle.std.proofs.Math.ListN.{get_or-append}
use Rattle.std.proofs.lemmas.Bool.{cases_lt}
use Rattle.std.proofs.lemmas.List.{length-append, append-nil, drop_at}
use Rattle.scr_pcap.proofs.Told.{IsReadInFront}
use Rattle.scr_stream.specs.Tests.{shape_of}
use Rattle.scr_stream.specs.Taken.{IsFound}
use Rattle.scr_stream.specs.declared.error.StreamError.{StreamError}
use Rattle.scr_stream.specs.declared.error.StreamError.TheVariants as fault
use Rattle.scr_stream.specs.declared.header.Shape.{Shape}

byte-append : (i : ℕ) (first behind : List ℕ) → i < length first → slice_index (first ++ behind) i ≡ slice_index first i
byte-append i first behind below = get_or-append first behind 0 i below

pub shape_of-append : (program : ℕ) (first behind : List ℕ) → 8 ≤ length first → shape_of program (first ++ behind) ≡ shape_of program first
unfolding shape_of
shape_of-append program first behind enough =
    let count = length-append first behind in
    let long : nat_lt (length (first ++ behind)) 8 ≡ false = search (rules, tests) in
    let whole : nat_lt (length first) 8 ≡ false = search (rules, tests) in
    let e0 = byte-append 0 first behind (omega arith) in
    let e1 = byte-append 1 first behind (omega arith) in
    let e2 = byte-append 2 first behind (omega arith) in
    let e3 = byte-append 3 first behind (omega arith) in
    let e4 = byte-append 4 first behind (omega arith) in
    let e5 = byte-append 5 first behind (omega arith) in
    let e6 = byte-append 6 first behind (omega arith) in
    let e7 = byte-append 7 first behind (omega arith) in
    cc

shape_of-same : (program : ℕ) (bytes first behind : List ℕ) → bytes ≡ first ++ behind → (length first < 8 → behind ≡ []) → shape_of program bytes ≡ shape_of program first
shape_of-same program bytes first behind parts end =
    elim (cases_lt (length first) 8) [
      | inl short ↦ ap (shape_of program) (parts ∙ ap (λ (t : List ℕ). first ++ t) (end short) ∙ append-nil first)
      | inr enough ↦ ap (shape_of program) parts ∙ shape_of-append program first behind enough
    ]

long_from_ok : (program : ℕ) (first : List ℕ) (shape : Shape) → shape_of program first ≡ Ok shape → 8 ≤ length first
unfolding shape_of
long_from_ok program first shape told =
    elim (cases_lt (length first) 8) [
      | inl short ↦
          let test : nat_lt (length first) 8 ≡ true = search (rules, tests) in
          let refused : Err fault.ShortHeader ≡ Ok shape = rw test at told in
          absurd (cc)
      | inr enough ↦ enough
    ]

-- an invalid header was read
pub shape-refused : (program : ℕ) (old new : Option (List ℕ)) (first : List ℕ) (error : StreamError) → IsReadInFront old new first 8
    → Err error ≡ shape_of program first → IfSome old (λ bytes. IsFound error → shape_of program bytes ≡ Err error)
shape-refused program None new first error read told = tt
shape-refused program (Some bytes) None first error read told = absurd read.taken
shape-refused program (Some bytes) (Some behind) first error read told = λ _. shape_of-same program bytes first behind read.taken read.end ∙ sym told

-- a valid header was read
pub shape-taken : (program : ℕ) (old new : Option (List ℕ)) (first : List ℕ) (shape : Shape) → IsReadInFront old new first 8
    → Ok shape ≡ shape_of program first → IfSome old (λ bytes. (shape_of program bytes ≡ Ok shape) × (new ≡ Some (drop 8 bytes)))
shape-taken program None new first shape read told = tt
shape-taken program (Some bytes) None first shape read told = absurd read.taken
shape-taken program (Some bytes) (Some behind) first shape read told =
    let enough = long_from_ok program first shape (sym told) in
    let within = read.within in (
      shape_of-same program bytes first behind read.taken read.end ∙ sym told,
      ap (λ (t : List ℕ). Some t) (sym (ap (drop 8) read.taken ∙ drop_at first behind 8 (omega arith))),
    )

-- the same, of what the test of the header answers
pub refusal-told : (result : Result Shape StreamError) (program : ℕ) (old new : Option (List ℕ)) (first : List ℕ) → IsReadInFront old new first 8
    → result ≡ shape_of program first → IfSome old (λ bytes. IfErr result (λ error. IsFound error → shape_of program bytes ≡ Err error))
refusal-told (Err error) program old new first read told = shape-refused program old new first error read told
refusal-told (Ok shape) program None new first read told = tt
refusal-told (Ok shape) program (Some bytes) new first read told = tt

pub shape-told : (result : Result Shape StreamError) (program : ℕ) (old new : Option (List ℕ)) (first : List ℕ) → IsReadInFront old new first 8
    → result ≡ shape_of program first
    → IfSome old (λ bytes. IfOk result (λ shape. (shape_of program bytes ≡ Ok shape) × (new ≡ Some (drop 8 bytes))))
shape-told (Ok shape) program old new first read told = shape-taken program old new first shape read told
shape-told (Err error) program None new first read told = tt
shape-told (Err error) program (Some bytes) new first read told = tt
