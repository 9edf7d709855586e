-- What the newest of some looks found.
use Rattle.std.proofs.Common.{◌≡◌, ℕ, List, [], ◌∷◌, ◌++◌, refl}
use Rattle.scr_lane.specs.Ends.{last_or}

pub last_or_none : (before : ℕ) → last_or before [] ≡ before
unfolding last_or
last_or_none before = refl

pub last_or_snoc : (before : ℕ) (looks : List ℕ) (look : ℕ) → last_or before (looks ++ look ∷ []) ≡ look
unfolding last_or
last_or_snoc before [] look = refl
last_or_snoc before (x ∷ looks) look = last_or_snoc x looks look
