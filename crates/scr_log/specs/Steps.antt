-- What each of the ten kinds of step does to the view of the pass that makes it, and what it tells.
use Rattle.std.specs.Prelude.{◌≡◌, ◌≢◌, ℕ, ◌+◌, ◌-◌, ◌<◌, ◌≤◌, [], ◌∷◌, ◌++◌, max, replicate, Some, None, slice_index, slice_set}
use Rattle.atomic_table.specs.Table.{Me, Step}
use Rattle.scr_base.specs.declared.row.Row.{Row}
use Rattle.scr_log.specs.declared.view.PassView.{PassView}
use Rattle.scr_log.specs.declared.view.Found.{Found}
use Rattle.scr_log.specs.declared.view.Noted.TheVariants.{Tag, Finished, Halt, Drawn}
use Rattle.scr_log.specs.Layout.{tag_offset, data_offset, finished_offset, place}
use Rattle.scr_log.specs.Entries.{row_tag, lost_tag, tag_number, row_word, entry}
use Rattle.scr_log.specs.Passes.{free_view}

abbrev pub Mine : Type 0
Mine = Me (Unit {0}) PassView

abbrev pub AStep : Type 0
AStep = Step (Unit {0})

-- split: one of the stock goes to a new free pass
abbrev pub handed : PassView → PassView
handed v = record v { stock = v.stock - 1 }

abbrev pub new_pass : PassView → PassView
new_pass v = free_view v.plan v.slots 1 [] 0

-- draw: the number is the pass's core, or it is noted as drawn too late
abbrev pub with_core : PassView → ℕ → PassView
with_core v n = record v { stock = v.stock - 1; core = Some n; noted = replicate v.plan.cores 0 }

abbrev pub too_late : PassView → ℕ → PassView
too_late v n = record v { stock = v.stock - 1; looks = v.looks ++ Drawn n ∷ [] }

pub record Draws (step : AStep) (me : Mine) (n : ℕ) (after : Mine) : Type 0 where
  pub core : n < me.0.plan.cores → after ≡ (with_core me.0 n, me.1)
  pub late : me.0.plan.cores ≤ n → after ≡ (too_late me.0 n, me.1)

-- store a data word, store a tag, store the finished word
abbrev pub StoresWord : AStep → Mine → ℕ → Mine → Type 0
StoresWord step me n after = after ≡ (record me.0 { stored = me.0.stored + 1 }, me.1)

abbrev pub StoresTag : AStep → Mine → ℕ → Mine → Type 0
StoresTag step me n after = after ≡ (record me.0 { published = me.0.published + 1; stored = 0 }, me.1)

abbrev pub StoresFinished : AStep → Mine → ℕ → Mine → Type 0
StoresFinished step me n after = after ≡ (record me.0 { finished = me.0.finished + 1 }, me.1)

-- load a tag: it is noted, and a row is found where the tag says that the current packet has one
abbrev pub tag_seen : PassView → (core n : ℕ) → PassView
tag_seen v core n = record v { looks = v.looks ++ Tag core (v.finished + 1) n ∷ [] }

abbrev pub row_found : PassView → (core n : ℕ) → PassView
row_found v core n = record v {
  looks = v.looks ++ Tag core (v.finished + 1) n ∷ [];
  found = Some (record { core = core; number = v.finished + 1 });
}

pub record TellsTag (v : PassView) (core n : ℕ) : Type 0 where
  pub row : n ≡ row_tag (v.finished + 1) → (row : Row) × (entry v.plan core v.finished ≡ Some row)
  pub lost : n ≡ lost_tag (v.finished + 1) → entry v.plan core v.finished ≡ None
  pub number : n ≢ row_tag (v.finished + 1) → n ≢ lost_tag (v.finished + 1) → tag_number n < v.finished + 1

pub record LoadsTagOf (me : Mine) (core n : ℕ) (after : Mine) : Type 0 where
  pub found : n ≡ row_tag (me.0.finished + 1) → after ≡ (row_found me.0 core n, me.1)
  pub not_found : n ≢ row_tag (me.0.finished + 1) → after ≡ (tag_seen me.0 core n, me.1)
  pub tells : TellsTag me.0 core n

abbrev pub LoadsTag : AStep → Mine → ℕ → Mine → Type 0
LoadsTag step me n after =
    (core : ℕ) → core < me.0.plan.cores → step.word ≡ place me.0.slots core (tag_offset me.0.slots me.0.finished)
    → LoadsTagOf me core n after

-- load a data word of the row that was found: it is that word of the row. At the last one the note goes
abbrev pub IsWordFound : AStep → PassView → ℕ → Type 0
IsWordFound step v n =
    (found : Found) (i : ℕ) (row : Row) → v.found ≡ Some found → i < 7
    → step.word ≡ place v.slots found.core (data_offset v.slots v.finished i)
    → entry v.plan found.core v.finished ≡ Some row → n ≡ row_word row i

pub record LoadsWord (step : AStep) (me : Mine) (n : ℕ) (after : Mine) : Type 0 where
  pub same : after ≡ me
  pub word : IsWordFound step me.0 n

pub record LoadsLastWord (step : AStep) (me : Mine) (n : ℕ) (after : Mine) : Type 0 where
  pub done : after ≡ (record me.0 { found = None }, me.1)
  pub word : IsWordFound step me.0 n

-- load a finished word: it is noted as a look, and as the core's finished number where it is greater
abbrev pub finished_seen : PassView → (core n : ℕ) → PassView
finished_seen v core n = record v {
  looks = v.looks ++ Finished core n ∷ [];
  noted = slice_set v.noted core (max (slice_index v.noted core) n);
}

abbrev pub LoadsFinished : AStep → Mine → ℕ → Mine → Type 0
LoadsFinished step me n after =
    (core : ℕ) → core < me.0.plan.cores → step.word ≡ place me.0.slots core (finished_offset me.0.slots)
    → after ≡ (finished_seen me.0 core n, me.1)

-- set the halt word, load it
abbrev pub SetsHalt : AStep → Mine → ℕ → Mine → Type 0
SetsHalt step me n after = after ≡ (record me.0 { halts = me.0.halts + 1 }, me.1)

abbrev pub LoadsHalt : AStep → Mine → ℕ → Mine → Type 0
LoadsHalt step me n after = after ≡ (record me.0 { looks = me.0.looks ++ Halt n ∷ [] }, me.1)
