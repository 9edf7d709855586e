-- What each step of a feed leaves.
use Rattle.std.proofs.Common.{◌≡◌, ◌≢◌, ℕ, zero, suc, ◌+◌, ◌^◌, ◌<◌, ◌≤◌, ◌⊎◌, Bool, true, false, cond, List, [], ◌∷◌, ◌++◌, length, map, set, get_or, All, Option, Some, None, inl, inr, sym, refl, ap, ◌∙◌, subst, ⊎_elim, arith, eqb, leb, drop, length-set, get_or-set_same, get_or-set_other}
use Rattle.std.specs.List.{AllZip, flat_map}
use Rattle.std.specs.Option.{option_to_list}
use Rattle.std.proofs.lemmas.List.{append-nil, length-append}
use Rattle.std.proofs.lemmas.List.Concat.{flat_map-cons}
use Rattle.std.proofs.lemmas.List.Elements.{All-nil, All-append}
use Rattle.std.proofs.lemmas.Grind.{flat_map-append}
use Rattle.std.proofs.lemmas.Bool.{le-leb}
use Rattle.std.proofs.lemmas.Bool.Decides.{eqb_tells, nat_tests}
use Rattle.scr_plan.specs.Plan.{Plan, IsPlan, frame_count}
use Rattle.scr_wire.specs.declared.message.Message.{Message}
use Rattle.scr_wire.specs.declared.message.Message.TheVariants as message
use Rattle.scr_wire.specs.Spelling.{IsRow, Spells, spelling}
use Rattle.scr_wire.specs.Lane.{added, lane, lane_so_far, last_step}
use Rattle.scr_wire.proofs.LaneGrows.{lane_so_far-zero, lane_so_far-suc, lane_front}
use Rattle.scr_sequencer.specs.Sequence.{Arriving}
use Rattle.scr_sequencer.specs.Answers.{Answer, Adds, beacons_of, packets_to}
use Rattle.scr_lane.specs.Messages.{Route, route, SpellsMessage}
use Rattle.scr_lane.specs.Ends.{End, FoundNoRoom}
use Rattle.scr_feed.specs.Left.{Left, messages_of, left_for, NoneToAll, second}
use Rattle.scr_feed.specs.declared.to_all.ToAll.{ToAll}
use Rattle.scr_feed.specs.Feeding.{Feeding, IsFed, IsFeeding, IsWhole, due}
use Rattle.scr_feed.specs.Made.{AreLanes}
use Rattle.scr_feed.proofs.Due.{next_of_lane, others_left, same_left, given, all_sent}

front_of : (b : Bool) (plan : Plan) (core n : ℕ) → n ≤ last_step plan
    → (rest : List Message) × (lane plan core ≡ cond b (lane plan core) (lane_so_far plan core n) ++ rest)
front_of true plan core n within = ([], sym (append-nil (lane plan core)))
front_of false plan core n within = lane_front plan core n within

-- the lane of a core begins with what is due in it
due_front : (f : Feeding) (core : ℕ) → IsFeeding f → (rest : List Message) × (lane f.plan core ≡ due f core ++ rest)
due_front f core is = front_of f.ended f.plan core f.taken is.within

-- ---- the end of one lane changes

abbrev pub with_end : Feeding → (core : ℕ) → End Route → Left → Feeding
with_end f core end left = record f { ends = set f.ends core end; left = left }

fed_other : (f : Feeding) (core other : ℕ) (end d : End Route) (left : Left) → IsFeeding f → other < f.plan.cores → other ≢ core
    → left_for left other ≡ left_for f.left other
    → IsFed (route f.plan other) (due f other) (left_for left other) (get_or (set f.ends core end) other d)
fed_other f core other end d left is below differ same =
    subst (λ (z : List (List ℕ) × End Route). IsFed (route f.plan other) (due f other) z.0 z.1)
    (λ i. (sym same i, sym (get_or-set_other f.ends core other end d differ) i))
    (is.fed other d below)

fed_here : (f : Feeding) (core : ℕ) (end d : End Route) (left : Left) → IsFeeding f → core < f.plan.cores
    → IsFed (route f.plan core) (due f core) (left_for left core) end
    → IsFed (route f.plan core) (due f core) (left_for left core) (get_or (set f.ends core end) core d)
fed_here f core end d left is below fed =
    let within : core < length f.ends = let all = is.each_core in omega arith in
    subst (IsFed (route f.plan core) (due f core) (left_for left core)) (sym (get_or-set_same f.ends core end d within)) fed

pub changed : (f : Feeding) (core : ℕ) (end : End Route) (left : Left) → IsFeeding f → core < f.plan.cores
    → All (λ it. it.core < f.plan.cores) left.frames
    → IsFed (route f.plan core) (due f core) (left_for left core) end
    → ((other : ℕ) → other < f.plan.cores → other ≢ core → left_for left other ≡ left_for f.left other)
    → IsFeeding (with_end f core end left)
changed f core end left is below cores here others = record {
  plan = is.plan;
  within = is.within;
  all_taken = is.all_taken;
  each_core = length-set f.ends core end ∙ is.each_core;
  cores = cores;
  fed = λ other d within.
      ⊎_elim
      (λ (same : (eqb other core ≡ true) × (other ≡ core)).
      subst (λ (k : ℕ). IsFed (route f.plan k) (due f k) (left_for left k) (get_or (set f.ends core end) k d)) (sym same.1)
      (fed_here f core end d left is below here))
      (λ (differ : (eqb other core ≡ false) × (other ≢ core)).
      fed_other f core other end d left is within differ.1 (others other within differ.1))
      (eqb_tells other core);
}

-- a look changes nothing that is due or left
pub looked_at : (f : Feeding) (core : ℕ) (before after : End Route) → IsFeeding f → core < f.plan.cores → before ≡ get_or f.ends core before
    → after.about ≡ before.about → after.count ≡ before.count → IsFeeding (with_end f core after f.left)
looked_at f core before after is below stood about count =
    let fed = subst (IsFed (route f.plan core) (due f core) (left_for f.left core)) (sym stood) (is.fed core before below) in
    changed f core after f.left is below is.cores (same_left (route f.plan core) (due f core) (left_for f.left core) before after fed about count) (λ other within differ. refl)

pub no_room : (f : Feeding) (core : ℕ) (before after : End Route) → IsFeeding f → core < f.plan.cores → before ≡ get_or f.ends core before
    → FoundNoRoom before after → IsFeeding (with_end f core after f.left)
no_room f core before after is below stood found =
    looked_at f core before after is below stood (ap (λ (e : End Route). e.about) found.1) (ap (λ (e : End Route). e.count) found.1)

-- ---- a packet for all lanes

-- what is left for a core whose turn hasn't come
left_turn : (left : Left) (core : ℕ) → left.from ≤ core → left_for left core ≡ map spelling left.to_all ++ flat_map (packets_to core) left.frames
left_turn left core from = ap (λ (b : Bool). cond b (map spelling left.to_all) [] ++ flat_map (packets_to core) left.frames) (le-leb left.from core from)

-- and of one that it has passed
left_passed : (left : Left) (core : ℕ) → core < left.from → left_for left core ≡ flat_map (packets_to core) left.frames
left_passed left core past =
    let no : leb left.from core ≡ false = grind (arith, nat_tests) in
    ap (λ (b : Bool). cond b (map spelling left.to_all) [] ++ flat_map (packets_to core) left.frames) no

abbrev pub passed_on : Left → Left
passed_on left = record left { from = left.from + 1 }

others_same : (left : Left) (other : ℕ) → other ≢ left.from → left_for (passed_on left) other ≡ left_for left other
others_same left other differ =
    let same : leb (left.from + 1) other ≡ leb left.from other = grind (arith, nat_tests) in
    ap (λ (b : Bool). cond b (map spelling left.to_all) [] ++ flat_map (packets_to other) left.frames) same

-- where the packet for all lanes is at hand, it is the next message of the lane whose turn it is
turn_first : (left : Left) (packet : List ℕ) → map spelling left.to_all ≡ packet ∷ [] → left_for left left.from ≡ packet ∷ flat_map (packets_to left.from) left.frames
turn_first left packet is = left_turn left left.from (omega arith) ∙ ap (λ (ps : List (List ℕ)). ps ++ flat_map (packets_to left.from) left.frames) is

fed_at : (f : Feeding) (core : ℕ) (end : End Route) (left : List (List ℕ)) → IsFeeding f → core < f.plan.cores → end ≡ get_or f.ends core end
    → left_for f.left core ≡ left → IsFed (route f.plan core) (due f core) left end
fed_at f core end left is below stood same =
    subst (λ (z : List (List ℕ) × End Route). IsFed (route f.plan core) (due f core) z.0 z.1) (λ i. (same i, sym stood i)) (is.fed core end below)

pub next_to_all : (f : Feeding) (packet : List ℕ) (end : End Route) → IsFeeding f → f.left.from < f.plan.cores → map spelling f.left.to_all ≡ packet ∷ []
    → end ≡ get_or f.ends f.left.from end → SpellsMessage end.about end.count packet
next_to_all f packet end is below packet_is stood =
    let core : ℕ = f.left.from in
    let front = due_front f core is in
    next_of_lane (route f.plan core) (due f core) front.0 packet (flat_map (packets_to core) f.left.frames) end front.1
    (fed_at f core end _ is below stood (turn_first f.left packet packet_is))

pub sent_to_all : (f : Feeding) (packet : List ℕ) (end after : End Route) → IsFeeding f → f.left.from < f.plan.cores → map spelling f.left.to_all ≡ packet ∷ []
    → end ≡ get_or f.ends f.left.from end → after.about ≡ end.about → after.count ≡ end.count + 1
    → IsFeeding (with_end f f.left.from after (passed_on f.left))
sent_to_all f packet end after is below packet_is stood about count =
    let core : ℕ = f.left.from in
    let rest : List (List ℕ) = flat_map (packets_to core) f.left.frames in
    let fed = fed_at f core end (packet ∷ rest) is below stood (turn_first f.left packet packet_is) in
    changed f core after (passed_on f.left) is below is.cores
    (subst (λ (ps : List (List ℕ)). IsFed (route f.plan core) (due f core) ps after) (sym (left_passed (passed_on f.left) core (omega arith)))
    (others_left (route f.plan core) (due f core) packet rest end after fed about count))
    (λ other within differ. others_same f.left other differ)

-- ---- a packet for one lane

nil_before : (xs ys : List (List ℕ)) → xs ++ ys ≡ ys → xs ≡ []
nil_before [] ys e = refl
nil_before (x ∷ xs) ys e = let same = ap length e in let long = length-append xs ys in absurd (omega arith)

abbrev pub with_frames : Left → List Arriving → Left
with_frames left frames = record left { frames = frames }

-- where nothing is for all cores, only frames are left
only_frames : (cores : ℕ) (left : Left) (frames : List Arriving) (core : ℕ) → NoneToAll cores left → core < cores
    → left_for (with_frames left frames) core ≡ flat_map (packets_to core) frames
only_frames cores left frames core none below =
    ap (λ (ps : List (List ℕ)). ps ++ flat_map (packets_to core) frames)
    (nil_before (cond (leb left.from core) (map spelling left.to_all) []) (flat_map (packets_to core) left.frames) (none core below))

-- the packets of a frame, for its own core and for another
own_packets : (it : Arriving) → packets_to it.core it ≡ it.packet ∷ option_to_list it.copy
own_packets it =
    let own : eqb it.core it.core ≡ true = grind (arith, nat_tests) in
    ap (λ (b : Bool). cond b (it.packet ∷ option_to_list it.copy) []) own

other_packets : (it : Arriving) (core : ℕ) → core ≢ it.core → packets_to core it ≡ []
other_packets it core differ =
    let other : eqb it.core core ≡ false = grind (arith, nat_tests) in
    ap (λ (b : Bool). cond b (it.packet ∷ option_to_list it.copy) []) other

-- and of its copy
second_own : (core : ℕ) (copy : Option (List ℕ)) → flat_map (packets_to core) (option_to_list (second core copy)) ≡ option_to_list copy
second_own core None = refl
second_own core (Some packet) =
    let own : eqb core core ≡ true = grind (arith, nat_tests) in
    ap (λ (b : Bool). cond b (packet ∷ []) [] ++ []) own

second_other : (core other : ℕ) (copy : Option (List ℕ)) → other ≢ core → flat_map (packets_to other) (option_to_list (second core copy)) ≡ []
second_other core other None differ = refl
second_other core other (Some packet) differ =
    let not_own : eqb core other ≡ false = grind (arith, nat_tests) in
    ap (λ (b : Bool). cond b (packet ∷ []) [] ++ []) not_own

second_core : (core cores : ℕ) (copy : Option (List ℕ)) → core < cores → All (λ it. it.core < cores) (option_to_list (second core copy))
second_core core cores None below = All-nil (λ it. it.core < cores)
second_core core cores (Some packet) below = λ k d within. one k d within
  where
    it : Arriving
    it = record { core = core; packet = packet; copy = None }

    one : (k : ℕ) (d : Arriving) → k < length (it ∷ []) → (get_or (it ∷ []) k d).core < cores
    one zero d within = below
    one (suc k) d within = absurd (omega arith)

-- what is left behind the first packet of the first frame
abbrev pub behind_first : Arriving → (others : List Arriving) → List Arriving
behind_first it others = option_to_list (second it.core it.copy) ++ others

module _ (f : Feeding) (it : Arriving) (others : List Arriving) (is : IsFeeding f) (none : NoneToAll f.plan.cores f.left) (frames : f.left.frames ≡ it ∷ others) where
  all_below : All (λ (x : Arriving). x.core < f.plan.cores) (it ∷ others)
  all_below = subst (All (λ (x : Arriving). x.core < f.plan.cores)) frames is.cores

  pub first_below : it.core < f.plan.cores
  first_below = all_below 0 it (omega arith)

  others_below : All (λ (x : Arriving). x.core < f.plan.cores) others
  others_below = λ k d within. all_below (suc k) d (omega arith)

  first_left : left_for f.left it.core ≡ it.packet ∷ (option_to_list it.copy ++ flat_map (packets_to it.core) others)
  first_left =
      none it.core first_below
      ∙ ap (flat_map (packets_to it.core)) frames
      ∙ flat_map-cons (packets_to it.core) it others
      ∙ ap (λ (ps : List (List ℕ)). ps ++ flat_map (packets_to it.core) others) (own_packets it)

  behind_left : left_for (with_frames f.left (behind_first it others)) it.core ≡ option_to_list it.copy ++ flat_map (packets_to it.core) others
  behind_left =
      only_frames f.plan.cores f.left (behind_first it others) it.core none first_below
      ∙ flat_map-append (packets_to it.core) (option_to_list (second it.core it.copy)) others
      ∙ ap (λ (ps : List (List ℕ)). ps ++ flat_map (packets_to it.core) others) (second_own it.core it.copy)

  same_for_others : (other : ℕ) → other < f.plan.cores → other ≢ it.core → left_for (with_frames f.left (behind_first it others)) other ≡ left_for f.left other
  same_for_others other below differ =
      only_frames f.plan.cores f.left (behind_first it others) other none below
      ∙ flat_map-append (packets_to other) (option_to_list (second it.core it.copy)) others
      ∙ ap (λ (ps : List (List ℕ)). ps ++ flat_map (packets_to other) others) (second_other it.core other it.copy differ ∙ sym (other_packets it other differ))
      ∙ sym (flat_map-cons (packets_to other) it others)
      ∙ ap (flat_map (packets_to other)) (sym frames)
      ∙ sym (none other below)

  pub next_to_one : (end : End Route) → end ≡ get_or f.ends it.core end → SpellsMessage end.about end.count it.packet
  next_to_one end stood =
      let front = due_front f it.core is in
      next_of_lane (route f.plan it.core) (due f it.core) front.0 it.packet (option_to_list it.copy ++ flat_map (packets_to it.core) others) end front.1
      (fed_at f it.core end (it.packet ∷ (option_to_list it.copy ++ flat_map (packets_to it.core) others)) is first_below stood first_left)

  pub sent_to_one : (end after : End Route) → end ≡ get_or f.ends it.core end → after.about ≡ end.about → after.count ≡ end.count + 1
      → IsFeeding (with_end f it.core after (with_frames f.left (behind_first it others)))
  sent_to_one end after stood about count =
      let rest : List (List ℕ) = option_to_list it.copy ++ flat_map (packets_to it.core) others in
      let fed = fed_at f it.core end (it.packet ∷ rest) is first_below stood first_left in
      changed f it.core after (with_frames f.left (behind_first it others)) is first_below
      (All-append (λ (x : Arriving). x.core < f.plan.cores) (option_to_list (second it.core it.copy)) others (second_core it.core f.plan.cores it.copy first_below) others_below)
      (subst (λ (ps : List (List ℕ)). IsFed (route f.plan it.core) (due f it.core) ps after) (sym behind_left)
      (others_left (route f.plan it.core) (due f it.core) it.packet rest end after fed about count))
      same_for_others

-- ---- what comes next is taken

-- where nothing is left, what is given to each lane is left
pub taken : (f g : Feeding) (more : ℕ → List Message) → IsFeeding f → NoneToAll f.plan.cores f.left → f.left.frames ≡ []
    → g.plan ≡ f.plan → g.ends ≡ f.ends → g.taken ≤ last_step f.plan → (g.ended ≡ true → g.taken ≡ last_step f.plan)
    → All (λ it. it.core < f.plan.cores) g.left.frames
    → ((core : ℕ) → due g core ≡ due f core ++ more core)
    → ((core : ℕ) → core < f.plan.cores → AllZip Spells (more core) (left_for g.left core))
    → IsFeeding g
taken f g more is none no_frame plan ends within all_taken cores grows spelled = record {
  plan = subst IsPlan (sym plan) is.plan;
  within = subst (λ (p : Plan). g.taken ≤ last_step p) (sym plan) within;
  all_taken = λ over. all_taken over ∙ ap last_step (sym plan);
  each_core = ap length ends ∙ is.each_core ∙ ap (λ (p : Plan). p.cores) (sym plan);
  cores = subst (λ (p : Plan). All (λ (it : Arriving). it.core < p.cores) g.left.frames) (sym plan) cores;
  fed = λ core d below.
      let below' : core < f.plan.cores = subst (λ (p : Plan). core < p.cores) plan below in
      let nothing : left_for f.left core ≡ [] = none core below' ∙ ap (flat_map (packets_to core)) no_frame in
      let before = subst (λ (ps : List (List ℕ)). IsFed (route f.plan core) (due f core) ps (get_or f.ends core d)) nothing (is.fed core d below') in
      let after = given (route f.plan core) (due f core) (more core) (left_for g.left core) (get_or f.ends core d) before (spelled core below') in
      subst (λ (z : (Plan × List Message) × List (End Route)). IsFed (route z.0.0 core) z.0.1 (left_for g.left core) (get_or z.1 core d))
      (λ i. ((sym plan i, sym (grows core) i), sym ends i)) after;
}

-- nothing is left, and so all that is due was sent
pub whole : (f : Feeding) → IsFeeding f → NoneToAll f.plan.cores f.left → f.left.frames ≡ [] → f.ended ≡ true → IsWhole f
whole f is none no_frame ended core end below =
    let nothing : left_for f.left core ≡ [] = none core below ∙ ap (flat_map (packets_to core)) no_frame in
    let fed = subst (λ (ps : List (List ℕ)). IsFed (route f.plan core) (due f core) ps (get_or f.ends core end)) nothing (is.fed core end below) in
    all_sent (route f.plan core) (due f core) (get_or f.ends core end) fed
    ∙ ap (λ (b : Bool). length (cond b (lane f.plan core) (lane_so_far f.plan core f.taken))) ended

end_spells : (n : ℕ) → n < 2 ^ 32 → Spells (message.End n) (spelling (message.End n))
end_spells n fits = record { has_spelling = record { number = fits; count = refl; rows = All-nil IsRow }; spelled = refl }

-- the end behind the last step
pub takes_end : (f g : Feeding) → IsFeeding f → NoneToAll f.plan.cores f.left → f.left.frames ≡ [] → f.ended ≡ false → f.taken ≡ last_step f.plan
    → g ≡ record f { ended = true; left = record { to_all = message.End (frame_count f.plan) ∷ []; from = 0; frames = f.left.frames } } → IsFeeding g
takes_end f g is none no_frame going last g_is =
    let plan : g.plan ≡ f.plan = ap (λ (x : Feeding). x.plan) g_is in
    let few = is.plan.few_rows in
    let end : Message = message.End (frame_count f.plan) in
    let new : Left = record { to_all = end ∷ []; from = 0; frames = [] } in
    let left_is : g.left ≡ new = ap (λ (x : Feeding). x.left) g_is ∙ ap (λ (its : List Arriving). record { to_all = end ∷ []; from = 0; frames = its }) no_frame in
    taken f g (λ core. end ∷ []) is none no_frame plan (ap (λ (x : Feeding). x.ends) g_is)
    (let same : g.taken ≡ f.taken = ap (λ (x : Feeding). x.taken) g_is in omega arith)
    (λ _. ap (λ (x : Feeding). x.taken) g_is ∙ last)
    (subst (All (λ (it : Arriving). it.core < f.plan.cores)) (sym (ap (λ (l : Left). l.frames) left_is)) (All-nil (λ (it : Arriving). it.core < f.plan.cores)))
    (λ core.
    ap (λ (x : Feeding). due x core) g_is
    ∙ ap (λ (n : ℕ). lane_so_far f.plan core n ++ end ∷ []) (sym last)
    ∙ ap (λ (b : Bool). cond b (lane f.plan core) (lane_so_far f.plan core f.taken) ++ end ∷ []) (sym going))
    (λ core below. subst (λ (l : Left). AllZip Spells (end ∷ []) (left_for l core)) (sym left_is)
    (subst (AllZip Spells (end ∷ [])) (sym (left_turn new core (omega arith))) (end_spells (frame_count f.plan) (omega arith), tt)))

-- what the next step adds
pub takes_step : (f g : Feeding) (out : Answer) → IsFeeding f → NoneToAll f.plan.cores f.left → f.left.frames ≡ [] → f.ended ≡ false
    → f.taken < last_step f.plan → Adds f.plan (f.taken + 1) out
    → g ≡ record f { taken = f.taken + 1; left = record { to_all = beacons_of out.beacon; from = g.left.from; frames = out.sent } }
    → (map spelling (beacons_of out.beacon) ≡ []) ⊎ (g.left.from ≡ 0) → IsFeeding g
takes_step f g out is none no_frame going more adds g_is first =
    let plan : g.plan ≡ f.plan = ap (λ (x : Feeding). x.plan) g_is in
    let taken_is : g.taken ≡ f.taken + 1 = ap (λ (x : Feeding). x.taken) g_is in
    let ended_is : g.ended ≡ false = ap (λ (x : Feeding). x.ended) g_is ∙ going in
    let left_is : g.left ≡ record { to_all = beacons_of out.beacon; from = g.left.from; frames = out.sent } = ap (λ (x : Feeding). x.left) g_is in
    let step : suc f.taken ≡ f.taken + 1 = omega arith in
    taken f g (λ core. added f.plan core (f.taken + 1)) is none no_frame plan (ap (λ (x : Feeding). x.ends) g_is) (omega arith)
    (λ over. let both : true ≡ false = sym over ∙ ended_is in absurd (cc))
    (subst (All (λ (it : Arriving). it.core < f.plan.cores)) (sym (ap (λ (l : Left). l.frames) left_is)) adds.cores)
    (λ core.
    ap (λ (x : Feeding). due x core) g_is
    ∙ ap (λ (b : Bool). cond b (lane f.plan core) (lane_so_far f.plan core (f.taken + 1))) going
    ∙ ap (lane_so_far f.plan core) (sym step)
    ∙ lane_so_far-suc f.plan core f.taken
    ∙ ap (λ (k : ℕ). lane_so_far f.plan core f.taken ++ added f.plan core k) step
    ∙ ap (λ (b : Bool). cond b (lane f.plan core) (lane_so_far f.plan core f.taken) ++ added f.plan core (f.taken + 1)) (sym going))
    (λ core below. subst (λ (l : Left). AllZip Spells (added f.plan core (f.taken + 1)) (left_for l core)) (sym left_is)
    (subst (AllZip Spells (added f.plan core (f.taken + 1))) (sym (left_new (record { to_all = beacons_of out.beacon; from = g.left.from; frames = out.sent }) core first)) (adds.spelled core)))
  where
    left_new : (left : Left) (core : ℕ) → (map spelling left.to_all ≡ []) ⊎ (left.from ≡ 0) → left_for left core ≡ map spelling left.to_all ++ flat_map (packets_to core) left.frames
    left_new left core (inl nothing) = ap (λ (ps : List (List ℕ)). ps ++ flat_map (packets_to core) left.frames) (by (leb left.from core) ∙ sym nothing)
      where
        by : (b : Bool) → cond b (map spelling left.to_all) [] ≡ []
        by true = nothing
        by false = refl
    left_new left core (inr zero_from) = left_turn left core (omega arith)

-- ---- a new feed

nothing_left : (b : Bool) → cond b (map spelling []) [] ++ [] ≡ []
nothing_left true = refl
nothing_left false = refl

pub fresh : (plan : Plan) (capacity : ℕ) (sends receives : List (End Route)) (left : Left) → IsPlan plan → AreLanes plan capacity plan.cores sends receives
    → left.to_all ≡ [] → left.frames ≡ []
    → IsFeeding (record { plan = plan; taken = 0; ended = false; ends = sends; left = left })
fresh plan capacity sends receives left is lanes to_all frames = record {
  plan = is;
  within = omega arith;
  all_taken = λ over. absurd (cc);
  each_core = lanes.all_sends;
  cores = subst (All (λ (it : Arriving). it.core < plan.cores)) (sym frames) (All-nil (λ (it : Arriving). it.core < plan.cores));
  fed = λ core d below.
      let end = (lanes.each core d d below).new_send in
      let about : (get_or sends core d).about ≡ route plan core = ap (λ (e : End Route). e.about) end in
      let count : (get_or sends core d).count ≡ 0 = ap (λ (e : End Route). e.count) end in
      let nothing : left_for left core ≡ [] =
      (λ i. cond (leb left.from core) (map spelling (to_all i)) [] ++ flat_map (packets_to core) (frames i)) ∙ nothing_left (leb left.from core) in
      record {
        about = about;
        sent = omega arith;
        in_order =
            subst (λ (z : (ℕ × List Message) × List (List ℕ)). AllZip Spells (drop z.0.0 z.0.1) z.1)
            (λ i. ((sym count i, sym (lane_so_far-zero plan core) i), sym nothing i)) tt;
      };
}

-- ---- what a feed shows

abbrev pub shown : (plan : Plan) (taken : ℕ) (ended : Bool) (ends : List (End Route)) (to_all : ToAll) (from : ℕ) (own : Option Arriving) (late : List Arriving) → Feeding
shown plan taken ended ends to_all from own late = record {
  plan = plan;
  taken = taken;
  ended = ended;
  ends = ends;
  left = record { to_all = messages_of to_all; from = from; frames = option_to_list own ++ late };
}
