-- Decimal digits one by one, and the value of a front of them.
use Rattle.std.proofs.Common.{◌≡◌, ℕ, ◌+◌, ◌-◌, ◌*◌, ◌<◌, ◌≤◌, List, length, take, ◌==◌, get_or, Bool, true, false, arith, refl, sym, ◌∙◌}
use Rattle.std.specs.Int.{IsInRange}
use Rattle.std.specs.Bool.{Decides}
use Rattle.std.specs.Char.{digit_value}
use Rattle.std.specs.Str.{all_ascii_digits}
use Rattle.std.proofs.lemmas.Int.Digits.{digits_value_more}
use Rattle.std.proofs.lemmas.Str.Parse.{numerals_by_value, tells_all_ascii_digits, tells_by_index, digits_value-take-le}
use Rattle.std.proofs.lemmas.Bool.Decides.{nat_tests, same_from_decides}
use Rattle.scr_base.specs.Numbers.{is_number, number_of}

pub digits-each : (ds : List ℕ) → all_ascii_digits ds ≡ true → (i : ℕ) → i < length ds → IsInRange 48 57 (get_or ds i 0)
digits-each ds all =
    (numerals_by_value (λ ds. (i : ℕ) → i < length ds → IsInRange 48 57 (get_or ds i 0)) tells_by_index).from ds
    ((numerals_by_value (λ ds. all_ascii_digits ds ≡ true) tells_all_ascii_digits).to ds all)

pub digits-all : (ds : List ℕ) → ((i : ℕ) → i < length ds → IsInRange 48 57 (get_or ds i 0)) → all_ascii_digits ds ≡ true
digits-all ds each =
    (numerals_by_value (λ ds. all_ascii_digits ds ≡ true) tells_all_ascii_digits).from ds
    ((numerals_by_value (λ ds. (i : ℕ) → i < length ds → IsInRange 48 57 (get_or ds i 0)) tells_by_index).to ds each)

-- whether each byte of a text that isn't empty is a digit
pub number-is : (ds : List ℕ) (test : Bool) → 0 < length ds → Decides test ((k : ℕ) → k < length ds → IsInRange 48 57 (get_or ds k 0))
    → test ≡ is_number ds
number-is ds test some each =
    let same : test ≡ all_ascii_digits ds = same_from_decides test (all_ascii_digits ds) each (digits-each ds, digits-all ds) in
    let filled : (length ds == 0) ≡ false = grind (arith, nat_tests) in
    same ∙ sym (rw filled refl)

pub number-all : (ds : List ℕ) → is_number ds ≡ true → all_ascii_digits ds ≡ true
number-all ds is = grind (arith, nat_tests)

-- each of its bytes is a digit
pub number-each : (ds : List ℕ) → is_number ds ≡ true → (i : ℕ) → i < length ds → IsInRange 48 57 (get_or ds i 0)
number-each ds is = digits-each ds (number-all ds is)

digit_value-is : (c : ℕ) → IsInRange 48 57 c → digit_value c ≡ c - 48
digit_value-is c range = grind (arith, nat_tests)

-- one digit more
pub number-more : (ds : List ℕ) (i : ℕ) → is_number ds ≡ true → i < length ds
    → number_of (take (i + 1) ds) ≡ number_of (take i ds) * 10 + (get_or ds i 0 - 48)
number-more ds i is below = rw (← digit_value-is (get_or ds i 0) (number-each ds is i below)) (digits_value_more 10 ds i below)

-- a front of the digits is no more than all
pub number-front : (ds : List ℕ) (i : ℕ) → number_of (take i ds) ≤ number_of ds
number-front ds i = digits_value-take-le 10 ds i (omega arith)
