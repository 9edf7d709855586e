-- What the cores still await of a step, packet by packet.
use Rattle.std.proofs.Common.{◌≡◌, ℕ, suc, ◌+◌, ◌<◌, ◌≤◌, Bool, true, false, cond, List, [], ◌∷◌, ◌++◌, length, get_or, drop, set, replicate, map, Option, Some, None, Result, Ok, Err, inl, inr, arith, refl, sym, ap, subst, ◌∙◌, append_assoc, append-nil, eqb, option_to_list}
use Rattle.std.specs.Prelude.{OnOk, slice_get}
use Rattle.std.specs.List.{All, AllZip, flat_map}
use Rattle.std.proofs.Math.Seq.{drop-cons}
use Rattle.std.proofs.lemmas.List.{drop_all, length-append, get_or-append-add, length-set, length_push, length-replicate, get_or_default, get_or-replicate, get_or-set_same, get_or-set_other}
use Rattle.std.proofs.lemmas.Bool.{cases_eq}
use Rattle.std.proofs.lemmas.Bool.Decides.{nat_tests}
use Rattle.std.proofs.lemmas.Grind.{flat_map-append}
use Rattle.std.proofs.lemmas.List.Concat.{flat_map-cons}
use Rattle.scr_plan.specs.Plan.{Plan, IsPlan, frame_count}
use Rattle.scr_wire.specs.declared.message.Message.{Message}
use Rattle.scr_wire.specs.declared.message.Message.TheVariants.{End}
use Rattle.scr_wire.specs.Spelling.{Spells, spelling}
use Rattle.scr_wire.specs.Lane.{added, lane_so_far, last_step, lane}
use Rattle.scr_wire.proofs.LaneGrows.{lane_so_far-zero, lane_so_far-suc, lane_front, length-lane}
use Rattle.scr_sequencer.specs.Sequence.{Arriving}
use Rattle.scr_sequencer.specs.Answers.{Answer, Adds, beacons_of, packets_to, sent_to}
use Rattle.scr_replica.specs.Told.{Told, untold, IsTold, Tells, AllFinal}
use Rattle.scr_replica.specs.Awaiting.{Awaits, AllAwait, AllTook}
use Rattle.scr_replica.proofs.Deciding.{told-none, told-whole}

-- what holds where a call succeeds
pub on_ok : {A E P Q : Type 0} (result : Result A E) → (P → Q) → OnOk result P → OnOk result Q
on_ok (Ok value) then holds = then holds
on_ok (Err error) then holds = tt

-- where each message that a packet may spell is taken, if a call succeeds
pub on_ok_told : {A E Q : Type 0} (history : ℕ) (packet : List ℕ) (old new : Told) (result : Result A E)
    → (((message : Message) → Spells message packet → Tells history message old new) → Q)
    → ((message : Message) → Spells message packet → OnOk result (Tells history message old new)) → OnOk result Q
on_ok_told history packet old new (Ok value) then holds = then holds
on_ok_told history packet old new (Err error) then holds = tt

-- the same of all cores
pub on_ok_all : {A E Q : Type 0} (history : ℕ) (packet : List ℕ) (old new : List Told) (result : Result A E)
    → (((message : Message) → Spells message packet → (core : ℕ) → core < length old
    → Tells history message (get_or old core untold) (get_or new core untold)) → Q)
    → ((message : Message) → Spells message packet
    → OnOk result ((core : ℕ) → core < length old → Tells history message (get_or old core untold) (get_or new core untold))) → OnOk result Q
on_ok_all history packet old new (Ok value) then holds = then holds
on_ok_all history packet old new (Err error) then holds = tt

-- the packets of frames, one frame at a time
pub frames-next : (frames : List Arriving) (i : ℕ) (it : Arriving) (core : ℕ) → i < length frames → it ≡ get_or frames i it
    → flat_map (packets_to core) (drop i frames) ≡ packets_to core it ++ flat_map (packets_to core) (drop (i + 1) frames)
frames-next frames i it core within is =
    let next : suc i ≡ i + 1 = omega arith in
    ap (flat_map (packets_to core)) (drop-cons frames i it within ∙ ap (λ (x : Arriving). x ∷ drop (suc i) frames) (sym is) ∙ ap (λ (k : ℕ). it ∷ drop k frames) next)
    ∙ flat_map-cons (packets_to core) it (drop (i + 1) frames)

pub frames-over : (frames : List Arriving) (i core : ℕ) → length frames ≤ i → flat_map (packets_to core) (drop i frames) ≡ []
frames-over frames i core all = ap (flat_map (packets_to core)) (drop_all i frames all)

-- what holds of all frames holds of those behind others
pub all-behind : (P : Arriving → Type 0) (front back : List Arriving) → All P (front ++ back) → All P back
all-behind P front back all k d within =
    subst P (get_or-append-add front back k d) (all (length front + k) d (omega (arith, length-append front back)))

-- the element behind others
element-behind : (front : List Message) (it : Message) (rest : List Message) → slice_get (front ++ it ∷ rest) (length front) ≡ Some it
element-behind [] it rest = refl
element-behind (first ∷ front) it rest = element-behind front it rest

-- the first of some messages, where their packets have a first
record First (coming : List Message) (packet : List ℕ) (packets : List (List ℕ)) : Type 0 where
  message : Message
  others : List Message
  parts : coming ≡ message ∷ others
  spells : Spells message packet
  spelled : AllZip Spells others packets

first-of : (coming : List Message) (packet : List ℕ) (packets : List (List ℕ)) → AllZip Spells coming (packet ∷ packets) → First coming packet packets
first-of [] packet packets spelled = absurd spelled
first-of (it ∷ others) packet packets spelled = record { message = it; others = others; parts = refl; spells = spelled.0; spelled = spelled.1 }

none-left : (coming : List Message) → AllZip Spells coming [] → coming ≡ []
none-left [] spelled = refl
none-left (it ∷ others) spelled = absurd spelled

module _ (plan : Plan) (core n : ℕ) where
  -- one packet more
  module _ (packet : List ℕ) (packets : List (List ℕ)) (it : Told) (awaits : Awaits plan core n (packet ∷ packets) it) where
    first : First awaits.coming packet packets
    first = first-of awaits.coming packet packets awaits.spelled

    pub spelled-next : (message : Message) × Spells message packet
    spelled-next = (first.message, first.spells)

    stands : n ≤ last_step plan → slice_get (lane plan core) (length awaits.front) ≡ Some first.message
    stands within =
        let whole = lane_front plan core n within in
        let parts : lane plan core ≡ awaits.front ++ first.message ∷ (first.others ++ whole.0) =
        whole.1
        ∙ ap (λ (xs : List Message). xs ++ whole.0) (awaits.all ∙ ap (λ (xs : List Message). awaits.front ++ xs) first.parts)
        ∙ append_assoc awaits.front (first.message ∷ first.others) whole.0 in
        ap (λ (xs : List Message). slice_get xs (length awaits.front)) parts
        ∙ element-behind awaits.front first.message (first.others ++ whole.0)

    pub given-next : (new : Told) → IsPlan plan → n ≤ last_step plan
        → ((message : Message) → Spells message packet → Tells plan.history message it new) → Awaits plan core n packets new
    given-next new is_plan within tells =
        let told = tells first.message first.spells plan core (length awaits.front) is_plan refl (stands within) awaits.told in
        record {
          front = awaits.front ++ first.message ∷ [];
          coming = first.others;
          all =
              awaits.all
              ∙ ap (λ (xs : List Message). awaits.front ++ xs) first.parts
              ∙ sym (append_assoc awaits.front (first.message ∷ []) first.others);
          spelled = first.spelled;
          told = subst (λ (m : ℕ). IsTold plan core m new) (sym (length_push awaits.front first.message)) told;
        }

  -- what was taken, where nothing is left
  pub told-so_far : (it : Told) → Awaits plan core n [] it → IsTold plan core (length (lane_so_far plan core n)) it
  told-so_far it awaits =
      let none = none-left awaits.coming awaits.spelled in
      let all : lane_so_far plan core n ≡ awaits.front =
      awaits.all ∙ ap (λ (xs : List Message). awaits.front ++ xs) none ∙ append-nil awaits.front in
      subst (λ (xs : List Message). IsTold plan core (length xs) it) (sym all) awaits.told

module _ (plan : Plan) where
  -- nothing at the start
  pub AllTook-none : (cores : List Told) → IsPlan plan → cores ≡ replicate plan.cores untold → AllTook plan 0 cores
  AllTook-none cores is_plan is = record {
    is_plan = is_plan;
    within = omega arith;
    count = ap length is ∙ length-replicate plan.cores untold;
    each = λ core below.
        let at : get_or cores core untold ≡ untold =
        ap (λ (xs : List Told). get_or xs core untold) is ∙ get_or-replicate plan.cores core untold untold below in
        record {
          front = [];
          coming = [];
          all = lane_so_far-zero plan core;
          spelled = tt;
          told = subst (IsTold plan core 0) (sym at) (told-none plan core);
        };
  }

  -- a step begins
  pub begun : (n m : ℕ) (out : Answer) (cores : List Told) → n + 1 ≡ m → m ≤ last_step plan → AllTook plan n cores → Adds plan m out
      → AllAwait plan m (λ core. sent_to core out) cores
  begun n m out cores next within took adds = record {
    is_plan = took.is_plan;
    within = within;
    count = took.count;
    each = λ core below.
        let it : Told = get_or cores core untold in
        let same : m ≡ suc n = omega arith in
        record {
          front = lane_so_far plan core n;
          coming = added plan core m;
          all =
              ap (lane_so_far plan core) same ∙ lane_so_far-suc plan core n
              ∙ ap (λ (k : ℕ). lane_so_far plan core n ++ added plan core k) (sym same);
          spelled = adds.spelled core;
          told = told-so_far plan core n it (took.each core below);
        };
  }

  module _ (n : ℕ) where
    -- the same packets
    pub await-same : (packets others : ℕ → List (List ℕ)) (cores : List Told) → ((core : ℕ) → packets core ≡ others core)
        → AllAwait plan n packets cores → AllAwait plan n others cores
    await-same packets others cores same await = record {
      is_plan = await.is_plan;
      within = await.within;
      count = await.count;
      each = λ core below.
          subst (λ (ps : List (List ℕ)). Awaits plan core n ps (get_or cores core untold)) (same core) (await.each core below);
    }

    -- a packet for every core
    pub given-all : (packet : List ℕ) (rest : ℕ → List (List ℕ)) (old new : List Told) → length new ≡ length old
        → AllAwait plan n (λ core. packet ∷ rest core) old
        → ((message : Message) → Spells message packet → (core : ℕ) → core < length old
        → Tells plan.history message (get_or old core untold) (get_or new core untold))
        → AllAwait plan n rest new
    given-all packet rest old new len await tells =
        let count = await.count in
        record {
          is_plan = await.is_plan;
          within = await.within;
          count = len ∙ count;
          each = λ core below.
              given-next plan core n packet (rest core) (get_or old core untold) (await.each core below) (get_or new core untold) await.is_plan await.within
              (λ message spells. tells message spells core (omega arith));
        }

    -- packets for one core
    module _ (own : ℕ) (packets : List (List ℕ)) (rest : ℕ → List (List ℕ)) (old : List Told) (below_count : own < plan.cores)
        (await : AllAwait plan n (λ core. cond (eqb own core) packets [] ++ rest core) old) where
      pub own-awaits : Awaits plan own n (packets ++ rest own) (get_or old own untold)
      own-awaits =
          let here : eqb own own ≡ true = grind (arith, nat_tests) in
          subst (λ (b : Bool). Awaits plan own n (cond b packets [] ++ rest own) (get_or old own untold)) here (await.each own below_count)

      pub given-own : (new : Told) → Awaits plan own n (rest own) new → AllAwait plan n rest (set old own new)
      given-own new awaits =
          let count = await.count in
          record {
            is_plan = await.is_plan;
            within = await.within;
            count = length-set old own new ∙ count;
            each = λ core below.
                elim (cases_eq core own) as (λ _. Awaits plan core n (rest core) (get_or (set old own new) core untold)) [
                  | inl same ↦ (
                      let here : get_or (set old own new) core untold ≡ new =
                      ap (λ (k : ℕ). get_or (set old own new) k untold) same ∙ get_or-set_same old own new untold (omega arith) in
                      subst (Awaits plan core n (rest core)) (sym here) (subst (λ (k : ℕ). Awaits plan k n (rest k) new) (sym same) awaits))
                  | inr other ↦ (
                      let not_here : eqb own core ≡ false = grind (arith, nat_tests) in
                      subst (Awaits plan core n (rest core)) (sym (get_or-set_other old own core new untold other))
                      (subst (λ (b : Bool). Awaits plan core n (cond b packets [] ++ rest core) (get_or old core untold)) not_here (await.each core below)))
                ];
          }

  -- a step begins, in parts
  pub begun-parts : (n : ℕ) (beacon : Option ℕ) (own late : List Arriving) (cores : List Told) → n < frame_count plan → AllTook plan n cores
      → Adds plan (n + 1) (record { beacon = beacon; sent = own ++ late })
      → AllAwait plan (n + 1) (λ core. map spelling (beacons_of beacon) ++ (flat_map (packets_to core) own ++ flat_map (packets_to core) late)) cores
  begun-parts n beacon own late cores below took adds =
      await-same (n + 1) _ _ cores
      (λ core. ap (λ (ps : List (List ℕ)). map spelling (beacons_of beacon) ++ ps) (flat_map-append (packets_to core) own late))
      (begun n (n + 1) (record { beacon = beacon; sent = own ++ late }) cores refl (omega arith) took adds)

  -- a frame, once or twice, for its core, which is this
  module _ (n : ℕ) (it : Arriving) (rest : ℕ → List (List ℕ)) (cores : List Told) (d : Told) (below : it.core < plan.cores)
      (await : AllAwait plan n (λ core. packets_to core it ++ rest core) cores) where
    abbrev old : Told
    old = get_or cores it.core d

    frame-awaits : Awaits plan it.core n (it.packet ∷ (option_to_list it.copy ++ rest it.core)) old
    frame-awaits =
        let count = await.count in
        subst (Awaits plan it.core n (it.packet ∷ (option_to_list it.copy ++ rest it.core)))
        (sym (get_or_default cores it.core d untold (omega arith)))
        (own-awaits n it.core (it.packet ∷ option_to_list it.copy) rest cores below await)

    pub frame-spelled : (message : Message) × Spells message it.packet
    frame-spelled = spelled-next plan it.core n it.packet (option_to_list it.copy ++ rest it.core) old frame-awaits

    module _ (mid : Told) (told : (message : Message) → Spells message it.packet → Tells plan.history message old mid) where
      copy-awaits : Awaits plan it.core n (option_to_list it.copy ++ rest it.core) mid
      copy-awaits =
          given-next plan it.core n it.packet (option_to_list it.copy ++ rest it.core) old frame-awaits mid await.is_plan await.within told

      pub given-once : it.copy ≡ None → AllAwait plan n rest (set cores it.core mid)
      given-once none =
          given-own n it.core (it.packet ∷ option_to_list it.copy) rest cores below await mid
          (subst (λ (o : Option (List ℕ)). Awaits plan it.core n (option_to_list o ++ rest it.core) mid) none copy-awaits)

      module _ (copy : List ℕ) (twice : it.copy ≡ Some copy) where
        copy-next : Awaits plan it.core n (copy ∷ rest it.core) mid
        copy-next = subst (λ (o : Option (List ℕ)). Awaits plan it.core n (option_to_list o ++ rest it.core) mid) twice copy-awaits

        pub copy-spelled : (message : Message) × Spells message copy
        copy-spelled = spelled-next plan it.core n copy (rest it.core) mid copy-next

        pub given-twice : (new : Told) → ((message : Message) → Spells message copy → Tells plan.history message mid new)
            → AllAwait plan n rest (set cores it.core new)
        given-twice new again =
            given-own n it.core (it.packet ∷ option_to_list it.copy) rest cores below await new
            (given-next plan it.core n copy (rest it.core) mid copy-next new await.is_plan await.within again)

  -- the end
  module _ (cores new : List Told) (took : AllTook plan (last_step plan) cores) where
    pub AllFinal-end : length new ≡ length cores
        → ((core : ℕ) → core < length cores → Tells plan.history (End (frame_count plan)) (get_or cores core untold) (get_or new core untold))
        → AllFinal plan new
    AllFinal-end len tells =
        let count = took.count in
        record {
          count = len ∙ count;
          each = λ core below.
              let so_far : List Message = lane_so_far plan core (last_step plan) in
              let told = told-so_far plan core (last_step plan) (get_or cores core untold) (took.each core below) in
              let whole = length-lane plan core in
              told-whole plan core (length so_far + 1) (get_or new core untold) (omega arith)
              (tells core (omega arith) plan core (length so_far) took.is_plan refl (element-behind so_far (End (frame_count plan)) []) told);
        }
