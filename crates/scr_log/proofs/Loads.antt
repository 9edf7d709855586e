-- The loads keep the log rule, and what they tell, but for that of a tag (TagLoads.antt).
use Rattle.std.proofs.Common.{◌≡◌, ℕ, ◌+◌, ◌<◌, ◌≤◌, inl, inr, List, [], ◌∷◌, ◌++◌, length, set, sym, refl, ap, ◌∙◌, arith, subst, length-set, get_or-set_same, get_or-set_other, max}
use Rattle.std.specs.Prelude.{Option, Some, None, slice_index, slice_set}
use Rattle.std.proofs.lemmas.List.{set-get_or}
use Rattle.std.proofs.lemmas.List.Elements.{All-push}
use mathlib.Core.Option.{some, none}
use mathlib.Core.Logic.{dite}
use native.Mathlib.Decide.{ℕ_discrete}
use lib.ListN.{get_elem?}
use Rattle.atomic_table.specs.Table.{step, keeps, Allows}
use Rattle.scr_base.specs.declared.row.Row.{Row}
use Rattle.scr_plan.specs.Plan.{Plan}
use Rattle.scr_log.specs.declared.view.PassView.{PassView}
use Rattle.scr_log.specs.declared.view.Found.{Found}
use Rattle.scr_log.specs.declared.view.Noted.{Noted}
use Rattle.scr_log.specs.declared.view.Noted.TheVariants.{Finished, Halt}
use Rattle.scr_log.specs.Layout.{data_offset, finished_offset, place, halt_place}
use Rattle.scr_log.specs.Entries.{entry, row_word}
use Rattle.scr_log.specs.Progress.{Progress, progress_of}
use Rattle.scr_log.specs.LogRule.{IsFound, IsCorePass, WasThere, IsPass, LogRule, Keeps, core_words}
use Rattle.scr_log.specs.Steps.{Mine, LoadsWord, LoadsLastWord, IsWordFound, LoadsFinished, finished_seen, LoadsHalt}
use Rattle.scr_log.proofs.Rules.{goes, total-kept, halt_kept}
use Rattle.scr_log.proofs.Apart as at

module _ (plan : Plan) (slots : ℕ) (words : List ℕ) (progress : ℕ → Progress) (owner : ℕ → ℕ) (id : ℕ) (v : PassView) where
  -- the pass of a core with other looks, another count of halts and another row that was found
  pub core_pass_with : (core : ℕ) (looks : List Noted) (halts : ℕ) (f : Option Found)
      → ((found : Found) → f ≡ Some found → IsFound plan progress core (progress_of v) found)
      → IsCorePass plan slots words progress owner id v core
      → IsCorePass plan slots words progress owner id (record v { looks = looks; halts = halts; found = f }) core
  core_pass_with core looks halts f found is = record {
    below = is.below;
    drawn = is.drawn;
    only = is.only;
    own = is.own;
    each_core = is.each_core;
    noted = is.noted;
    room = is.room;
    room_to_write = is.room_to_write;
    found = found;
  }

  -- a pass with one look more
  pub pass_with : (look : Noted) (halts : ℕ) → WasThere plan slots words progress look → IsPass plan slots words progress owner id v
      → IsPass plan slots words progress owner id (record v { looks = v.looks ++ look ∷ []; halts = halts })
  pass_with look halts was is = record {
    same_plan = is.same_plan;
    same_slots = is.same_slots;
    looks = All-push (WasThere plan slots words progress) v.looks look is.looks was;
    core = λ core its. let c = is.core core its in core_pass_with core _ halts v.found c.found c;
  }

module _ (plan : Plan) (slots : ℕ) (words : List ℕ) (views : List PassView) (rule : LogRule plan slots words views)
    (id : ℕ) (v : PassView) (there : get_elem? views id ≡ some v) (w : PassView) where
  -- a step that changes no word
  pub watches : w.core ≡ v.core → w.stock ≡ v.stock → w.halts ≡ v.halts
      → IsPass plan slots words rule.progress rule.owner id w → LogRule plan slots words (set views id w)
  watches same_core same_stock same_halts pass = goes plan slots words views rule id v there w words rule.progress (record {
    same_core = same_core;
    same_length = refl;
    stocks = let total = total-kept views id v w there same_stock in let was = rule.stocks in omega arith;
    later = record { published = λ j. omega arith; finished = λ j. omega arith; claim = omega arith; halt = λ one. one };
    others = λ core below not. (refl, λ offset within. refl);
    log = λ core below mine. rule.logs core below;
    cleared = λ core j a b differ mine. rule.cleared core j a b differ;
    pass = pass;
    halt = halt_kept views id v w _ there same_halts rule.halt;
  })

  pub watches_word : (i : ℕ) → w.core ≡ v.core → w.stock ≡ v.stock → w.halts ≡ v.halts
      → IsPass plan slots words rule.progress rule.owner id w → LogRule plan slots (slice_set words i (slice_index words i)) (set views id w)
  watches_word i same_core same_stock same_halts pass =
      subst (λ (ws : List ℕ). LogRule plan slots ws (set views id w)) (sym (set-get_or words i 0)) (watches same_core same_stock same_halts pass)

-- the halt word is loaded
pub loads_halt : (plan : Plan) (slots homes id : ℕ) (me : Mine) (i : ℕ) → i ≡ halt_place plan.cores slots
    → Allows (Keeps plan slots) homes id me i (λ n. n) (LoadsHalt (step homes i 0 0 none) me)
loads_halt plan slots homes id me i is s rule _ there _ =
    let v : PassView = me.0 in
    let n : ℕ = slice_index s.words i in
    let w : PassView = record v { looks = v.looks ++ Halt n ∷ [] } in (
      w,
      keeps,
      tt,
      watches_word plan slots s.words s.views rule id v there w i refl refl refl
          (pass_with plan slots s.words rule.progress rule.owner id v (Halt n) v.halts
          (λ one. ap (λ (place : ℕ). slice_index s.words place) (sym is) ∙ one) (rule.passes id v there)),
      refl,
    )

-- a finished word is loaded
module _ (plan : Plan) (slots : ℕ) (words : List ℕ) (progress : ℕ → Progress) (owner : ℕ → ℕ) (id : ℕ) (v : PassView) (j n : ℕ)
    (below : j < plan.cores) (is : IsPass plan slots words progress owner id v) (at_most : n ≤ (progress j).finished) where
  noted_after : (core : ℕ) → IsCorePass plan slots words progress owner id v core → (i : ℕ) → i < plan.cores
      → slice_index (slice_set v.noted j (max (slice_index v.noted j) n)) i ≤ (progress i).finished
  noted_after core c i less =
      dite (ℕ_discrete i j)
      (λ (same : i ≡ j).
      let in_list : j < length v.noted = let e = c.each_core in omega arith in
      let it = get_or-set_same v.noted j (max (slice_index v.noted j) n) 0 in_list in
      let was = c.noted j below in
      subst (λ (k : ℕ). slice_index (slice_set v.noted j (max (slice_index v.noted j) n)) k ≤ (progress k).finished) (sym same) (omega arith))
      (λ else. let it = get_or-set_other v.noted j i (max (slice_index v.noted j) n) 0 else in let was = c.noted i less in omega arith)

  noted_grows : (core : ℕ) → IsCorePass plan slots words progress owner id v core → (i : ℕ) → i < plan.cores
      → slice_index v.noted i ≤ slice_index (slice_set v.noted j (max (slice_index v.noted j) n)) i
  noted_grows core c i less =
      dite (ℕ_discrete i j)
      (λ (same : i ≡ j).
      let in_list : j < length v.noted = let e = c.each_core in omega arith in
      let it = get_or-set_same v.noted j (max (slice_index v.noted j) n) 0 in_list in
      subst (λ (k : ℕ). slice_index v.noted k ≤ slice_index (slice_set v.noted j (max (slice_index v.noted j) n)) k) (sym same) (omega arith))
      (λ else. let it = get_or-set_other v.noted j i (max (slice_index v.noted j) n) 0 else in omega arith)

  pub finished_pass : IsPass plan slots words progress owner id (finished_seen v j n)
  finished_pass = record {
    same_plan = is.same_plan;
    same_slots = is.same_slots;
    looks = All-push (WasThere plan slots words progress) v.looks (Finished j n) is.looks (below, at_most);
    core = λ core its. let c = is.core core its in record {
      below = c.below;
      drawn = c.drawn;
      only = c.only;
      own = c.own;
      each_core = length-set v.noted j (max (slice_index v.noted j) n) ∙ c.each_core;
      noted = noted_after core c;
      room = λ i less else. let more = noted_grows core c i less in let was = c.room i less else in omega arith;
      room_to_write = λ i less else stored. let more = noted_grows core c i less in let was = c.room_to_write i less else stored in omega arith;
      found = c.found;
    };
  }

pub loads_finished : (plan : Plan) (slots homes id : ℕ) (me : Mine) (j i : ℕ) → j < plan.cores → i ≡ place slots j (finished_offset slots)
    → Allows (Keeps plan slots) homes id me i (λ n. n) (LoadsFinished (step homes i 0 0 none) me)
loads_finished plan slots homes id me j i below is s rule _ there _ =
    let v : PassView = me.0 in
    let n : ℕ = slice_index s.words i in
    let w : PassView = finished_seen v j n in
    let pass = rule.passes id v there in
    let word : n ≡ (rule.progress j).finished = ap (λ (place : ℕ). slice_index s.words place) is ∙ (rule.logs j below).finished_word in
    let within = at.finished_offset-below slots rule.some_slots in (
      w,
      keeps,
      tt,
      watches_word plan slots s.words s.views rule id v there w i refl refl refl
          (finished_pass plan slots s.words rule.progress rule.owner id v j n below pass (omega arith)),
      (λ core less its.
          let its' : i ≡ place slots core (finished_offset slots) =
          subst (λ (k : ℕ). i ≡ place k core (finished_offset k)) pass.same_slots its in
          let one : j ≡ core = at.place-core slots j core (finished_offset slots) (finished_offset slots) within within (sym is ∙ its') in
          ap (λ (c : ℕ). (finished_seen v c n, me.1)) one),
    )

-- a word of a row that was found is loaded
module _ (plan : Plan) (slots : ℕ) (words : List ℕ) (views : List PassView) (rule : LogRule plan slots words views)
    (id : ℕ) (v : PassView) (there : get_elem? views id ≡ some v) (b : ℕ) (mine : v.core ≡ Some b)
    (found : Found) (has : v.found ≡ Some found) where
  the_pass : IsPass plan slots words rule.progress rule.owner id v
  the_pass = rule.passes id v there

  found_is : IsFound plan rule.progress b (progress_of v) found
  found_is = (the_pass.core b mine).found found has

  -- the row stands still: its writer may not have begun to use the slot again
  pub word_stands : (i : ℕ) (row : Row) → i < 7 → entry plan found.core v.finished ≡ Some row
      → core_words slots words found.core (data_offset slots v.finished i) ≡ row_word row i
  word_stands i row few its =
      let c = the_pass.core b mine in
      let j : ℕ = found.core in
      let f = found_is in
      let own : (rule.progress b).finished ≡ v.finished = ap (λ (p : Progress). p.finished) c.own in
      let current : found.number ≡ v.finished + 1 = f.current in
      let reached : found.number ≤ (rule.progress j).published = f.published in
      let clear = rule.cleared j b f.below c.below f.other in
      let turn : (rule.progress j).published ≤ (rule.progress b).finished + slots = clear.published in
      (rule.logs j f.below).rows v.finished i row (omega arith) (omega arith)
      (dite (ℕ_discrete (rule.progress j).stored 0)
      (λ (none : (rule.progress j).stored ≡ 0). inr (omega arith))
      (λ some_stored.
      let more : (rule.progress j).published + 1 ≤ (rule.progress b).finished + slots = clear.writing (omega arith) in
      inl (omega arith)))
      few its

  told_word : (homes place_of n : ℕ) → n ≡ slice_index words place_of → IsWordFound (step homes place_of 0 0 none) v n
  told_word homes place_of n is other i row its few at_place entry_is =
      let one : found ≡ other = let both : Some found ≡ Some other = sym has ∙ its in cc in
      let at' : place_of ≡ place slots other.core (data_offset slots v.finished i) =
      subst (λ (k : ℕ). place_of ≡ place k other.core (data_offset k v.finished i)) the_pass.same_slots at_place in
      let at'' : place_of ≡ place slots found.core (data_offset slots v.finished i) =
      subst (λ (f : Found). place_of ≡ place slots f.core (data_offset slots v.finished i)) (sym one) at' in
      let entry' : entry plan found.core v.finished ≡ Some row =
      subst (λ (z : Plan × Found). entry z.0 z.1.core v.finished ≡ Some row) (λ k. (the_pass.same_plan k, sym one k)) entry_is in
      is ∙ (ap (λ (p : ℕ). slice_index words p) at'' ∙ word_stands i row few entry')

  last_pass : IsPass plan slots words rule.progress rule.owner id (record v { found = None })
  last_pass = record {
    same_plan = the_pass.same_plan;
    same_slots = the_pass.same_slots;
    looks = the_pass.looks;
    core = λ core its. core_pass_with plan slots words rule.progress rule.owner id v core v.looks v.halts None
        (λ other none. absurd (cc)) (the_pass.core core its);
  }

pub loads_word : (plan : Plan) (slots homes id : ℕ) (me : Mine) (b i : ℕ) (found : Found) → me.0.core ≡ Some b → me.0.found ≡ Some found
    → Allows (Keeps plan slots) homes id me i (λ n. n) (LoadsWord (step homes i 0 0 none) me)
loads_word plan slots homes id me b i found mine has s rule _ there _ =
    let v : PassView = me.0 in (
      v,
      keeps,
      tt,
      watches_word plan slots s.words s.views rule id v there v i refl refl refl (rule.passes id v there),
      record {
        same = refl;
        word = told_word plan slots s.words s.views rule id v there b mine found has homes i (slice_index s.words i) refl;
      },
    )

pub loads_last_word : (plan : Plan) (slots homes id : ℕ) (me : Mine) (b i : ℕ) (found : Found) → me.0.core ≡ Some b → me.0.found ≡ Some found
    → Allows (Keeps plan slots) homes id me i (λ n. n) (LoadsLastWord (step homes i 0 0 none) me)
loads_last_word plan slots homes id me b i found mine has s rule _ there _ =
    let v : PassView = me.0 in
    let w : PassView = record v { found = None } in (
      w,
      keeps,
      tt,
      watches_word plan slots s.words s.views rule id v there w i refl refl refl
          (last_pass plan slots s.words s.views rule id v there b mine found has),
      record {
        done = refl;
        word = told_word plan slots s.words s.views rule id v there b mine found has homes i (slice_index s.words i) refl;
      },
    )
