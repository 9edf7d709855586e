-- Words of 64 bits: what is read is what was written, and what was written is read again.
use Rattle.std.proofs.Common.{◌≡◌, ℕ, zero, suc, ◌+◌, ◌*◌, ◌^◌, ◌<◌, ◌≤◌, List, [], ◌∷◌, ◌++◌, length, get_or, take, drop, refl, sym, ap, ◌∙◌, append_assoc, arith, inl, inr}
use Rattle.std.specs.List.{flat_map, AllByRecursion}
use Rattle.std.proofs.lemmas.Bool.{cases_lt}
use Rattle.std.proofs.lemmas.List.{drop_at, take-append-drop, length-take, length-drop, length-take-le, get_or-drop, get_or-take, get_or_past, drop-drop}
use Rattle.std.proofs.lemmas.List.Concat.{flat_map-cons}
use Rattle.std.proofs.lemmas.Nat.{be_bytes_2, be_bytes_4, be_bytes_8}
use Rattle.byteorder.specs.Endian.{big_number, big_bytes}
use Rattle.byteorder.specs.Numbers.{big_number-reads_back, length-bytes_high_first, big_from-take}

abbrev pub IsBytes : List ℕ → Type 0
IsBytes bytes = (i : ℕ) → get_or bytes i 0 < 256

pub IsBytes-drop : (n : ℕ) (bytes : List ℕ) → IsBytes bytes → IsBytes (drop n bytes)
IsBytes-drop n bytes h i = rw get_or-drop (h (n + i))

pub IsBytes-take : (n : ℕ) (bytes : List ℕ) → IsBytes bytes → IsBytes (take n bytes)
IsBytes-take n bytes h i =
    elim (cases_lt i n) [
      | inl lt ↦ rw (get_or-take n bytes i 0 lt) (h i)
      | inr le ↦ rw (get_or_past (take n bytes) i 0 (omega (arith, length-take n bytes))) (omega arith)
    ]

-- the bytes of the number that they are
pub big_bytes_2 : (bytes : List ℕ) → length bytes ≡ 2 → IsBytes bytes → big_bytes 2 (big_number 2 bytes) ≡ bytes
big_bytes_2 bytes len fits = be_bytes_2 bytes (big_number 2 bytes) len fits (omega arith)

pub big_bytes_4 : (bytes : List ℕ) → length bytes ≡ 4 → IsBytes bytes → big_bytes 4 (big_number 4 bytes) ≡ bytes
big_bytes_4 bytes len fits = be_bytes_4 bytes (big_number 4 bytes) len fits (omega arith)

pub big_bytes_8 : (bytes : List ℕ) → length bytes ≡ 8 → IsBytes bytes → big_bytes 8 (big_number 8 bytes) ≡ bytes
big_bytes_8 bytes len fits = be_bytes_8 bytes (big_number 8 bytes) len fits (omega arith)

-- the bytes of the number in front, and what stands behind them
pub number_back : (n : ℕ) → ((bytes : List ℕ) → length bytes ≡ n → IsBytes bytes → big_bytes n (big_number n bytes) ≡ bytes)
    → (bytes : List ℕ) → n ≤ length bytes → IsBytes bytes → big_bytes n (big_number n bytes) ++ drop n bytes ≡ bytes
number_back n back bytes le fits =
    let front : big_number n (take n bytes) ≡ big_number n bytes = big_from-take 0 n n bytes (omega arith) in
    let first : big_bytes n (big_number n bytes) ≡ take n bytes = ap (big_bytes n) (sym front) ∙ back (take n bytes) (length-take-le n bytes le) (IsBytes-take n bytes fits) in
    ap (λ (x : List ℕ). x ++ drop n bytes) first ∙ take-append-drop n bytes

-- so many words, one after the other
unfoldable pub words_in : ℕ → List ℕ → List ℕ
words_in zero bytes = []
words_in (suc n) bytes = big_number 8 bytes ∷ words_in n (drop 8 bytes)

-- the bytes of the words that stand in bytes, and what stands behind them
pub words_back : (n : ℕ) (bytes : List ℕ) → 8 * n ≤ length bytes → IsBytes bytes → flat_map (big_bytes 8) (words_in n bytes) ++ drop (8 * n) bytes ≡ bytes
unfolding words_in
words_back zero bytes le fits = refl
words_back (suc n) bytes le fits =
    let behind : List ℕ = flat_map (big_bytes 8) (words_in n (drop 8 bytes)) in
    let place : 8 * suc n ≡ 8 + 8 * n = omega arith in
    let rest = words_back n (drop 8 bytes) (omega (arith, length-drop 8 bytes)) (IsBytes-drop 8 bytes fits) in
    ap (λ (x : List ℕ). x ++ drop (8 * suc n) bytes) (flat_map-cons (big_bytes 8) (big_number 8 bytes) (words_in n (drop 8 bytes)))
    ∙ append_assoc (big_bytes 8 (big_number 8 bytes)) behind (drop (8 * suc n) bytes)
    ∙ ap (λ (k : ℕ). big_bytes 8 (big_number 8 bytes) ++ (behind ++ drop k bytes)) place
    ∙ ap (λ (x : List ℕ). big_bytes 8 (big_number 8 bytes) ++ (behind ++ x)) (sym (drop-drop (8 * n) 8 bytes))
    ∙ ap (λ (x : List ℕ). big_bytes 8 (big_number 8 bytes) ++ x) rest
    ∙ number_back 8 big_bytes_8 bytes (omega arith) fits

-- the words that stand in the bytes of words
pub words_again : (words rest : List ℕ) → AllByRecursion (λ word. word < 2 ^ 64) words → words_in (length words) (flat_map (big_bytes 8) words ++ rest) ≡ words
unfolding words_in
words_again [] rest fits = refl
words_again (word ∷ words) rest fits =
    let regrouped : flat_map (big_bytes 8) (word ∷ words) ++ rest ≡ big_bytes 8 word ++ (flat_map (big_bytes 8) words ++ rest) =
    ap (λ (x : List ℕ). x ++ rest) (flat_map-cons (big_bytes 8) word words) ∙ append_assoc (big_bytes 8 word) (flat_map (big_bytes 8) words) rest in
    let first : big_number 8 (big_bytes 8 word ++ (flat_map (big_bytes 8) words ++ rest)) ≡ word = big_number-reads_back 8 word (flat_map (big_bytes 8) words ++ rest) fits.0 in
    let behind : drop 8 (big_bytes 8 word ++ (flat_map (big_bytes 8) words ++ rest)) ≡ flat_map (big_bytes 8) words ++ rest = drop_at (big_bytes 8 word) (flat_map (big_bytes 8) words ++ rest) 8 (length-bytes_high_first 8 word) in
    ap (words_in (suc (length words))) regrouped
    ∙ ap (λ (x : ℕ). x ∷ words_in (length words) (drop 8 (big_bytes 8 word ++ (flat_map (big_bytes 8) words ++ rest)))) first
    ∙ ap (λ (x : List ℕ). word ∷ words_in (length words) x) behind
    ∙ ap (λ (x : List ℕ). word ∷ x) (words_again words rest fits.1)
