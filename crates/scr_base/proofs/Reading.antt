-- Bytes that go out from the front of what is left.
use Rattle.std.proofs.Common.{◌≡◌, ℕ, ◌+◌, ◌-◌, ◌≤◌, slice_range, List, ◌++◌, take, drop, sym, refl, arith}
use Rattle.std.proofs.lemmas.List.{take-append-drop, take-take, drop-drop, drop-take}

-- what was copied from a piece at the front, and then the rest
pub front-copied : (n m at : ℕ) (bytes copy : List ℕ) → n ≤ m → take n copy ≡ take n (take m (drop at bytes))
    → drop at bytes ≡ take n copy ++ drop (at + n) bytes
front-copied n m at bytes copy within same =
    rw (same, take-take n m (drop at bytes) within, ← drop-drop n at bytes) (sym (take-append-drop n (drop at bytes)))

-- the same of a range
pub front-of_range : (n start end : ℕ) (bytes copy : List ℕ) → n ≤ end - start → take n copy ≡ take n (slice_range bytes start end)
    → slice_range bytes start end ≡ take n copy ++ slice_range bytes (start + n) end
front-of_range n start end bytes copy within same =
    let cut : n + (end - (start + n)) ≡ end - start = omega arith in
    let rest : drop n (slice_range bytes start end) ≡ slice_range bytes (start + n) end =
    rw (← cut, drop-take n (end - (start + n)) (drop start bytes), drop-drop n start bytes) refl in
    rw (same, ← rest) (sym (take-append-drop n (slice_range bytes start end)))
