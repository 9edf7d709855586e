-- A link: the frames that get lost on it, those that come twice, those that come later, and those that were never there.
use Rattle.std.specs.Prelude.{ℕ, ◌<◌, ◌≤◌, Bool, ◌||◌, List, [], length, ◌==◌, if◌then◌else◌}
use Rattle.std.specs.List.{list_any, slice_index_or}
use Rattle.scr_plan.specs.Drops.{IsDropList, has_number}
use Rattle.scr_plan.specs.Delays.{IsDelayList, delay_of}
use Rattle.scr_plan.specs.declared.drops.DropRange.{DropRange}
use Rattle.scr_plan.specs.declared.delays.FrameDelay.{FrameDelay}
use Rattle.scr_plan.specs.declared.link.Fate.{Fate}
use Rattle.scr_plan.specs.declared.link.Fate.TheVariants.{Lost, Once, Twice}

pub record Link : Type 0 where
  pub drops : List DropRange
  pub repeats : List DropRange
  pub delays : List FrameDelay
  pub missing : List ℕ

-- what is true of every link: the missing numbers grow from 1 up
pub record IsLink (link : Link) : Type 0 where
  pub drop_list : IsDropList link.drops
  pub repeat_list : IsDropList link.repeats
  pub delay_list : IsDelayList link.delays
  pub missing_from : (i d : ℕ) → i < length link.missing → 1 ≤ slice_index_or link.missing i d
  pub missing_grow : (i j d : ℕ) → i < j → j < length link.missing → slice_index_or link.missing i d < slice_index_or link.missing j d

-- a link on which each frame arrives once, in its turn
abbrev pub empty_link : Link
empty_link = record { drops = []; repeats = []; delays = []; missing = [] }

-- whether frame n is lost: it is dropped or missing
unfoldable pub loses : Link → (n : ℕ) → Bool
loses link n = has_number link.drops n || list_any (λ m. m == n) link.missing

-- whether it comes twice, and how many steps late it comes
abbrev pub repeats : Link → (n : ℕ) → Bool
repeats link n = has_number link.repeats n

abbrev pub delays_by : Link → (n : ℕ) → ℕ
delays_by link n = delay_of link.delays n

-- all this in one
abbrev pub fate_of : Link → (n : ℕ) → Fate
fate_of link n =
    if loses link n then Lost else (if repeats link n then Twice (delays_by link n) else Once (delays_by link n))

-- the delay in it, and 0 in that of a lost frame
abbrev pub delay_in : Fate → ℕ
delay_in Lost = 0
delay_in (Once delay) = delay
delay_in (Twice delay) = delay
