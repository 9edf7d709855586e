-- The kinds of step as the calls make them: numbers of packets are counted from 1, and places are those of a call.
use Rattle.std.proofs.Common.{◌≡◌, ◌≢◌, ℕ, ◌+◌, ◌-◌, ◌<◌, ◌≤◌, List, [], ◌∷◌, ◌++◌, length, sym, refl, ap, ◌∙◌, arith, subst, max, min, get_or-set_same, get_or-set_other, append_assoc, append-nil}
use Rattle.std.specs.Prelude.{Some, slice_index, slice_set}
use mathlib.Core.Option.{none}
use mathlib.Core.Logic.{dite}
use native.Mathlib.Decide.{ℕ_discrete}
use Rattle.atomic_table.specs.Table.{step, Allows}
use Rattle.atomic_table.specs.Seated.{TableId}
use Rattle.scr_base.specs.declared.row.Row.{Row}
use Rattle.scr_plan.specs.Plan.{Plan}
use Rattle.scr_plan.specs.FinalEntry.{final_entry}
use Rattle.scr_log.specs.declared.view.Noted.{Noted}
use Rattle.scr_log.specs.declared.view.Noted.TheVariants.{Finished}
use Rattle.scr_log.specs.Layout.{tag_offset, data_offset, place}
use Rattle.scr_log.specs.Entries.{entry, tag, tag_of, row_word}
use Rattle.scr_log.specs.LogRule.{Keeps}
use Rattle.scr_log.specs.Passes.{LogsOf, OfCore, noted_finished}
use Rattle.scr_log.specs.Seats.{MayPublish}
use Rattle.scr_log.specs.Steps.{Mine, StoresWord, StoresTag}
use Rattle.scr_log.specs.declared.room.Room.TheVariants.{NoRoom}
use Rattle.scr_log.specs.Answers.{HasLoaded, RoomTells}
use Rattle.scr_log.proofs.Stores.{stores_word, stores_tag}

-- the final entry of packet p, counted from 0
pub final_entry-from_zero : (plan : Plan) (core p q : ℕ) → p ≡ q + 1 → entry plan core q ≡ final_entry plan core p
unfolding entry
final_entry-from_zero plan core p q is = ap (λ (n : ℕ). final_entry plan core n) (sym is)

pub tag-from_zero : (plan : Plan) (core p q : ℕ) → p ≡ q + 1 → tag_of (final_entry plan core p) p ≡ tag plan core q
unfolding entry tag
tag-from_zero plan core p q is = ap (λ (n : ℕ). tag_of (final_entry plan core n) n) is

pub place-from_zero : (slots core p q : ℕ) → p ≡ q + 1 → place slots core (tag_offset slots (p - 1)) ≡ place slots core (tag_offset slots q)
place-from_zero slots core p q is =
    let same : p - 1 ≡ q = omega arith in
    ap (λ (n : ℕ). place slots core (tag_offset slots n)) same

-- the words of a row stand behind its tag
pub data-behind_tag : (slots core q i : ℕ) → place slots core (tag_offset slots q) + 1 + i ≡ place slots core (data_offset slots q i)
unfolding place tag_offset data_offset
data-behind_tag slots core q i = omega arith

pub data_place : (slots core p q at i : ℕ) → p ≡ q + 1 → at ≡ place slots core (tag_offset slots (p - 1))
    → at + 1 + i ≡ place slots core (data_offset slots q i)
data_place slots core p q at i is here =
    ap (λ (n : ℕ). n + 1 + i) (here ∙ place-from_zero slots core p q is) ∙ data-behind_tag slots core q i

-- word i of the row of p is stored
pub word_allowed : (logs : LogsOf) (table : TableId) (homes id : ℕ) (first me : Mine) (core p at i : ℕ) (row : Row)
    → MayPublish logs table first core p → me ≡ (record first.0 { stored = i }, first.1) → i < 7
    → final_entry logs.plan core p ≡ Some row → at ≡ place logs.slots core (tag_offset logs.slots (p - 1))
    → Allows (Keeps logs.plan logs.slots) homes id me (at + 1 + i) (λ _. row_word row i)
    (λ _. StoresWord (step homes (at + 1 + i) (row_word row i) 0 none) me (row_word row i))
word_allowed logs table homes id first me core p at i row may now few is here =
    let q : ℕ = first.0.published in
    let next : p ≡ q + 1 = may.next in
    let left = may.left in
    subst
    (λ (m : Mine). Allows (Keeps logs.plan logs.slots) homes id m (at + 1 + i) (λ _. row_word row i)
    (λ _. StoresWord (step homes (at + 1 + i) (row_word row i) 0 none) m (row_word row i)))
    (sym now)
    (stores_word logs.plan logs.slots homes id (record first.0 { stored = i }, first.1) core (at + 1 + i) (row_word row i) row
    may.its_core may.nothing_found may.idle (omega arith) (final_entry-from_zero logs.plan core p q next ∙ is) few
    (λ j less else. let free = may.room j less else in omega arith) refl (data_place logs.slots core p q at i next here))

-- the tag of p is stored
pub tag_allowed : (logs : LogsOf) (table : TableId) (homes id : ℕ) (me : Mine) (core p at n : ℕ)
    → MayPublish logs table me core p → ((row : Row) → final_entry logs.plan core p ≡ Some row → me.0.stored ≡ 7)
    → n ≡ tag_of (final_entry logs.plan core p) p → at ≡ place logs.slots core (tag_offset logs.slots (p - 1))
    → Allows (Keeps logs.plan logs.slots) homes id me at (λ _. n) (λ _. StoresTag (step homes at n 0 none) me n)
tag_allowed logs table homes id me core p at n may whole is here =
    let q : ℕ = me.0.published in
    let next : p ≡ q + 1 = may.next in
    let left = may.left in
    stores_tag logs.plan logs.slots homes id me core at n may.its_core may.nothing_found may.idle (omega arith)
    (λ row its. whole row (sym (final_entry-from_zero logs.plan core p q next) ∙ its))
    (λ j less else. let free = may.room j less else in omega arith)
    (is ∙ tag-from_zero logs.plan core p q next)
    (here ∙ place-from_zero logs.slots core p q next)

-- a pass has looked at the finished words of the cores below this one, but its own
pub record HasSearched (old new : OfCore) (needed known core : ℕ) : Type 0 where
  pub loaded : HasLoaded old new
  pub known_of_all : (j : ℕ) → j < core → j ≢ old.core → known ≤ slice_index new.noted j
  pub enough : needed ≤ known

pub nothing_loaded : (pass : OfCore) → HasLoaded pass pass
nothing_loaded pass = record {
  same = refl;
  more = [];
  looks = sym (append-nil pass.looks);
  noted = λ j. omega arith;
}

noted-more : (noted : List ℕ) (core done j : ℕ) → core < length noted
    → slice_index noted j ≤ slice_index (slice_set noted core (max (slice_index noted core) done)) j
noted-more noted core done j in_list =
    dite (ℕ_discrete j core)
    (λ (same : j ≡ core).
    let it = get_or-set_same noted core (max (slice_index noted core) done) 0 in_list in
    subst (λ (k : ℕ). slice_index noted k ≤ slice_index (slice_set noted core (max (slice_index noted core) done)) k) (sym same) (omega arith))
    (λ else. let it = get_or-set_other noted core j (max (slice_index noted core) done) 0 else in omega arith)

pub loaded_more : (old new : OfCore) (core done : ℕ) → HasLoaded old new → core < length new.noted
    → HasLoaded old (noted_finished new core done)
loaded_more old new core done loaded in_list = record {
  same = ap
      (λ (pass : OfCore). record pass { looks = new.looks ++ Finished core done ∷ []; noted = slice_set new.noted core (max (slice_index new.noted core) done) })
      loaded.same;
  more = loaded.more ++ Finished core done ∷ [];
  looks = ap (λ (looks : List Noted). looks ++ Finished core done ∷ []) loaded.looks ∙ append_assoc old.looks loaded.more (Finished core done ∷ []);
  noted = λ j. let was = loaded.noted j in let more = noted-more new.noted core done j in_list in omega arith;
}

pub searched_own : (old new : OfCore) (needed known core : ℕ) → core ≡ old.core → HasSearched old new needed known core
    → HasSearched old new needed known (core + 1)
searched_own old new needed known core own searched = record {
  loaded = searched.loaded;
  known_of_all = λ j less differ. let not_own : j ≢ core = λ same. differ (same ∙ own) in searched.known_of_all j (omega arith) differ;
  enough = searched.enough;
}

pub searched_more : (old new : OfCore) (needed known core done : ℕ) → length new.noted ≡ old.logs.plan.cores → core < old.logs.plan.cores
    → needed ≤ done → HasSearched old new needed known core
    → HasSearched old (noted_finished new core done) needed (min known done) (core + 1)
searched_more old new needed known core done each below enough searched =
    let in_list : core < length new.noted = omega arith in
    let loaded = loaded_more old new core done searched.loaded in_list in
    let was = searched.enough in
    record {
      loaded = loaded;
      known_of_all = λ j less differ.
          dite (ℕ_discrete j core)
          (λ (same : j ≡ core).
          let it = get_or-set_same new.noted core (max (slice_index new.noted core) done) 0 in_list in
          subst (λ (k : ℕ). min known done ≤ slice_index (slice_set new.noted core (max (slice_index new.noted core) done)) k) (sym same) (omega arith))
          (λ apart.
          let it = get_or-set_other new.noted core j (max (slice_index new.noted core) done) 0 apart in
          let known_j = searched.known_of_all j (omega arith) differ in
          omega arith);
      enough = omega arith;
    }

-- a core that has finished too little was met
pub met_behind : (old new : OfCore) (core done p needed : ℕ) → HasLoaded old new → core < old.logs.plan.cores → core ≢ old.core
    → done < needed → needed ≡ p - old.logs.slots → RoomTells old (noted_finished new core done) p (NoRoom core done)
met_behind old new core done p needed loaded below other less is =
    (below, other, omega arith, (loaded.more, ap (λ (looks : List Noted). looks ++ Finished core done ∷ []) loaded.looks))
