-- Frames in front of bytes, and the numbers that have none.
use Rattle.std.proofs.Common.{◌≡◌, ℕ, ◌<◌, ◌≤◌, not, List, [], ◌∷◌, ◌++◌, length, get_or, refl, sym, subst, ◌∙◌, append_assoc}
use Rattle.std.proofs.lemmas.List.{append-nil}
use Rattle.scr_stream.specs.Frames.{StreamFrame, frame_bytes, has_frame}
use Rattle.scr_stream.specs.Reading.{Follows, BeginWith, missing_from}
use Rattle.scr_stream.proofs.Ranges.{filter-from, filter-grows}

-- one frame more
pub BeginWith-more : (history : ℕ) (earlier frames : List StreamFrame) (it : StreamFrame) (bytes middle rest : List ℕ)
    → BeginWith history earlier frames bytes middle → middle ≡ frame_bytes it ++ rest → Follows history (earlier ++ frames) it
    → BeginWith history earlier (frames ++ it ∷ []) bytes rest
BeginWith-more history earlier [] it bytes middle rest begins parts follows =
    (rest, begins ∙ parts, subst (λ (all : List StreamFrame). Follows history all it) (append-nil earlier) follows, refl)
BeginWith-more history earlier (first ∷ frames) it bytes middle rest begins parts follows = (
  begins.0,
  begins.1,
  begins.2,
  BeginWith-more history (earlier ++ first ∷ []) frames it begins.0 middle rest begins.3 parts
      (subst (λ (all : List StreamFrame). Follows history all it) (sym (append_assoc earlier (first ∷ []) frames)) follows),
)

-- numbers without a frame are from 1 on, and grow
pub missing-from_one : (frames : List StreamFrame) (last i d : ℕ) → i < length (missing_from frames last) → 1 ≤ get_or (missing_from frames last) i d
missing-from_one frames last i d below = filter-from (λ n. not (has_frame frames n)) 1 last i d below

pub missing-grows : (frames : List StreamFrame) (last i j d : ℕ) → i < j → j < length (missing_from frames last)
    → get_or (missing_from frames last) i d < get_or (missing_from frames last) j d
missing-grows frames last i j d less below = filter-grows (λ n. not (has_frame frames n)) 1 last i j d less below

pub from_one-at : (frames : List StreamFrame) (last : ℕ) (missing : List ℕ) → missing ≡ missing_from frames last
    → (i d : ℕ) → i < length missing → 1 ≤ get_or missing i d
from_one-at frames last missing is =
    subst (λ (xs : List ℕ). (i d : ℕ) → i < length xs → 1 ≤ get_or xs i d) (sym is) (missing-from_one frames last)

pub grows-at : (frames : List StreamFrame) (last : ℕ) (missing : List ℕ) → missing ≡ missing_from frames last
    → (i j d : ℕ) → i < j → j < length missing → get_or missing i d < get_or missing j d
grows-at frames last missing is =
    subst (λ (xs : List ℕ). (i j d : ℕ) → i < j → j < length xs → get_or xs i d < get_or xs j d) (sym is) (missing-grows frames last)
