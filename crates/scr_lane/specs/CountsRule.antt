-- The rule of the two words beside a lane's queue: how many items its sender has sent, and how many its receiver has
-- taken. Each is stored by its own end alone and never falls. Each end keeps its looks, which are what it found in the
-- other's word each time that it loaded it. The words lie two cache lines apart, and those between them are never used.
use Rattle.std.specs.Prelude.{◌≡◌, ℕ, ◌≤◌, ◌⊎◌, List, [], ◌∷◌, ◌++◌, length, slice_index}
use Rattle.std.specs.List.{AllByRecursion}
use Rattle.atomic_table.specs.Table.{State, Me, Step}
use Rattle.scr_lane.specs.declared.view.Role.TheVariants.{Both, Sender, Receiver}
use Rattle.scr_lane.specs.declared.view.Tally.{Tally}
use Rattle.scr_lane.specs.Views.{tally}

-- the sent word is the first, and the taken word is the last
pub record HasWords (words : List ℕ) (sent taken : ℕ) : Type 0 where
  pub long : length words ≡ 17
  pub sent_is : slice_index words 0 ≡ sent
  pub taken_is : slice_index words 16 ≡ taken

-- before the ends are parted, one seat has both words, and nothing was stored
pub record IsWhole (words : List ℕ) (views : List Tally) : Type 0 where
  pub words_are : HasWords words 0 0
  pub seat : views ≡ tally Both 0 [] ∷ []

-- none of these looks found more than this
abbrev pub FoundAtMost : (most : ℕ) → List ℕ → Type 0
FoundAtMost most looks = AllByRecursion (λ look. look ≤ most) looks

-- afterwards each word is what its end has stored, and no end has found more in the other's
pub record IsParted (words : List ℕ) (views : List Tally) : Type 0 where
  pub sent : ℕ
  pub taken : ℕ
  pub looks_of_sender : List ℕ
  pub looks_of_receiver : List ℕ
  pub words_are : HasWords words sent taken
  pub seats : views ≡ tally Sender sent looks_of_sender ∷ tally Receiver taken looks_of_receiver ∷ []
  pub sender_found : FoundAtMost taken looks_of_sender
  pub receiver_found : FoundAtMost sent looks_of_receiver

abbrev pub KeepsCounts : State (Unit {0}) Tally → Type 0
KeepsCounts s = IsWhole s.words s.views ⊎ IsParted s.words s.views

-- a store: the number stored is the new one
abbrev pub Stores : Step (Unit {0}) → Me (Unit {0}) Tally → ℕ → Me (Unit {0}) Tally → Type 0
Stores step me number after = after ≡ (tally me.0.role step.first me.0.looks, me.1)

-- a load: the number found is one look more
abbrev pub Looks : Step (Unit {0}) → Me (Unit {0}) Tally → ℕ → Me (Unit {0}) Tally → Type 0
Looks step me number after = after ≡ (tally me.0.role me.0.stored (me.0.looks ++ number ∷ []), me.1)
