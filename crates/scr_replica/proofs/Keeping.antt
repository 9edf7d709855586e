-- What each part of a turn keeps of what is true of every replica.
use Rattle.std.proofs.Common.{◌≡◌, ◌≢◌, ℕ, ◌+◌, ◌-◌, ◌<◌, ◌≤◌, true, List, length, Option, None, arith, refl, sym, ap, subst, ◌∙◌}
use Rattle.scr_base.specs.declared.row.Row.{Row}
use Rattle.scr_plan.specs.declared.counting.CoreCounts.{CoreCounts}
use Rattle.scr_plan.specs.Plan.{Plan}
use Rattle.scr_plan.specs.FinalEntry.{final_entry}
use Rattle.scr_plan.specs.Counts.{counts_up_to}
use Rattle.scr_wire.specs.declared.message.Message.TheVariants.{End as EndOf}
use Rattle.scr_wire.specs.Lane.{lane, decided}
use Rattle.scr_wire.proofs.Decides.{decided-zero, decided-suc, decided-whole}
use Rattle.scr_lane.specs.Messages.{Route, message_count}
use Rattle.scr_lane.specs.Ends.{End}
use Rattle.scr_log.specs.declared.view.Noted.{Noted}
use Rattle.scr_log.specs.Passes.{IsLogs, OfCore}
use Rattle.scr_replica.specs.declared.heard.Heard.{Heard}
use Rattle.scr_replica.specs.declared.standing.Standing.{Standing}
use Rattle.scr_replica.specs.declared.standing.Standing.TheVariants as standing
use Rattle.scr_replica.specs.Replicas.{Replica, Begin, IsThrough, at_hand, asked}
use Rattle.scr_replica.specs.Heard.{HasHeard}
use Rattle.scr_replica.specs.Stages.{replica_of, Keeps}

counts-zero : (plan : Plan) (core : ℕ) → counts_up_to plan core 0 ≡ record { delivered = 0; carried = 0; recovered = 0; skipped = 0 }
counts-zero plan core = refl

module _ {State : Type 0} where
  module _ (it : Replica State) (h : Heard) (row : Option Row) (done k history : ℕ) (was : Keeps it h row done k history) where
    abbrev plan : Plan
    plan = it.pass.logs.plan

    abbrev core : ℕ
    core = it.pass.core

    -- looks change nothing of it
    pub keeps-looks : (lane_looks noted : List ℕ) (looks : List Noted) (how : Standing) → how ≢ standing.Ended
        → Keeps (record it { lane = record it.lane { looks = lane_looks }; pass = record it.pass { noted = noted; looks = looks }; standing = how }) h row done k history
    keeps-looks lane_looks noted looks how goes =
        let is = was.replica in
        record {
          replica = record {
            is_logs = is.is_logs;
            core = is.core;
            its_lane = is.its_lane;
            published = is.published;
            finished = is.finished;
            one_more = is.one_more;
            counts = is.counts;
            lost = is.lost;
            through = λ ended. absurd (goes ended);
          };
          heard = was.heard;
          earlier = was.earlier;
          row = was.row;
          finished = was.finished;
          cores = was.cores;
          history = was.history;
          few_lost = was.few_lost;
        }

    -- the same where it stands as it did
    pub keeps-more_looks : (looks : List Noted) → Keeps (record it { pass = record it.pass { looks = looks } }) h row done k history
    keeps-more_looks looks =
        let is = was.replica in
        record {
          replica = record {
            is_logs = is.is_logs;
            core = is.core;
            its_lane = is.its_lane;
            published = is.published;
            finished = is.finished;
            one_more = is.one_more;
            counts = is.counts;
            lost = is.lost;
            through = is.through;
          };
          heard = was.heard;
          earlier = was.earlier;
          row = was.row;
          finished = was.finished;
          cores = was.cores;
          history = was.history;
          few_lost = was.few_lost;
        }

    -- its lane was taken whole, and all is finished
    pub through-all : h.whole ≡ true → it.pass.finished ≡ decided plan core it.lane.count → IsThrough it
    through-all whole all =
        let is = was.replica in
        let last : it.lane.count ≡ length (lane plan core) = was.heard.whole whole in (
          last ∙ sym (ap message_count is.its_lane),
          all ∙ decided-whole plan core it.lane.count (omega arith),
        )

    pub keeps-ended : IsThrough it → Keeps (record it { standing = standing.Ended }) h row done k history
    keeps-ended through =
        let is = was.replica in
        record {
          replica = record {
            is_logs = is.is_logs;
            core = is.core;
            its_lane = is.its_lane;
            published = is.published;
            finished = is.finished;
            one_more = is.one_more;
            counts = is.counts;
            lost = is.lost;
            through = λ ended. through;
          };
          heard = was.heard;
          earlier = was.earlier;
          row = was.row;
          finished = was.finished;
          cores = was.cores;
          history = was.history;
          few_lost = was.few_lost;
        }

    module _ (goes : it.standing ≢ standing.Ended) where
      -- one message more
      pub keeps-taken : (lane_looks : List ℕ) (next : Heard) → it.pass.finished ≡ decided plan core it.lane.count
          → it.lane.count < length (lane plan core) → HasHeard plan core (it.lane.count + 1) next
          → Keeps (record it { lane = record it.lane { count = it.lane.count + 1; looks = lane_looks } }) next row done k history
      keeps-taken lane_looks next all within heard =
          let is = was.replica in
          let m : ℕ = it.lane.count in
          let more = decided-suc plan core m (EndOf 0) within in
          let back : m + 1 - 1 ≡ m = omega arith in
          let up = is.published in
          record {
            replica = record {
              is_logs = is.is_logs;
              core = is.core;
              its_lane = is.its_lane;
              published = omega (arith, more, up);
              finished = is.finished;
              one_more = is.one_more;
              counts = is.counts;
              lost = is.lost;
              through = λ ended. absurd (goes ended);
            };
            heard = heard;
            earlier = omega (arith, ap (decided plan core) back, all);
            row = was.row;
            finished = was.finished;
            cores = was.cores;
            history = was.history;
            few_lost = was.few_lost;
          }

      -- the packet at hand published
      pub keeps-published : (noted : List ℕ) (looks : List Noted) (p : ℕ) (own : Option Row) → p ≡ at_hand it → it.pass.published ≡ it.pass.finished
          → p ≤ decided plan core it.lane.count → own ≡ final_entry plan core p
          → Keeps (record it { pass = record it.pass { published = p; noted = noted; looks = looks } }) h own done k history
      keeps-published noted looks p own hand idle few is_own =
          let is = was.replica in
          record {
            replica = record {
              is_logs = is.is_logs;
              core = is.core;
              its_lane = is.its_lane;
              published = few;
              finished = omega arith;
              one_more = omega arith;
              counts = is.counts;
              lost = is.lost;
              through = λ ended. absurd (goes ended);
            };
            heard = was.heard;
            earlier = was.earlier;
            row = λ same. is_own ∙ ap (final_entry plan core) hand;
            finished = was.finished;
            cores = was.cores;
            history = was.history;
            few_lost = was.few_lost;
          }

      -- the packet at hand finished
      pub keeps-finished : (state : State) (counts : CoreCounts) (p : ℕ) → p ≡ at_hand it → it.pass.published ≡ at_hand it
          → counts ≡ counts_up_to plan core p
          → Keeps (record it { state = state; counts = counts; lost_to = 0; pass = record it.pass { finished = p } }) h row p k history
      keeps-finished state counts p hand published counted =
          let is = was.replica in
          let before = was.earlier in
          record {
            replica = record {
              is_logs = is.is_logs;
              core = is.core;
              its_lane = is.its_lane;
              published = is.published;
              finished = omega arith;
              one_more = omega arith;
              counts = counted;
              lost = λ i none. absurd (omega arith);
              through = λ ended. absurd (goes ended);
            };
            heard = was.heard;
            earlier = omega arith;
            row = λ same. absurd (omega arith);
            finished = refl;
            cores = was.cores;
            history = was.history;
            few_lost = omega arith;
          }

      -- a core more was seen to have lost the packet at hand
      pub keeps-lost : (looks : List Noted) (lost_to : ℕ) → lost_to ≤ plan.cores
          → ((i : ℕ) → i < lost_to → final_entry plan (asked plan (at_hand it) i) (at_hand it) ≡ None)
          → Keeps (record it { pass = record it.pass { looks = looks }; lost_to = lost_to }) h row done k history
      keeps-lost looks lost_to few lost =
          let is = was.replica in
          record {
            replica = record {
              is_logs = is.is_logs;
              core = is.core;
              its_lane = is.its_lane;
              published = is.published;
              finished = is.finished;
              one_more = is.one_more;
              counts = is.counts;
              lost = lost;
              through = λ ended. absurd (goes ended);
            };
            heard = was.heard;
            earlier = was.earlier;
            row = was.row;
            finished = was.finished;
            cores = was.cores;
            history = was.history;
            few_lost = few;
          }

  pub keeps-begin : (lane : End Route) (pass : OfCore) (state : State) (h : Heard) → Begin lane pass → IsLogs pass.logs
      → pass.core < pass.logs.plan.cores → HasHeard pass.logs.plan pass.core 0 h → (k history : ℕ) → k ≡ pass.logs.plan.cores
      → history ≡ pass.logs.plan.history
      → Keeps (replica_of lane pass state (record { delivered = 0; carried = 0; recovered = 0; skipped = 0 }) 0 standing.Running) h None 0 k history
  keeps-begin lane pass state h begin is_logs below heard k history cores carried =
      let published = begin.unpublished in
      let finished = begin.unfinished in
      let untaken = begin.untaken in
      let nothing = decided-zero pass.logs.plan pass.core in
      let back : lane.count - 1 ≡ 0 = omega arith in
      record {
        replica = record {
          is_logs = is_logs;
          core = below;
          its_lane = begin.its_lane;
          published = omega arith;
          finished = omega arith;
          one_more = omega arith;
          counts = sym (ap (counts_up_to pass.logs.plan pass.core) finished ∙ counts-zero pass.logs.plan pass.core);
          lost = λ i none. absurd (omega arith);
          through = λ ended. absurd cc;
        };
        heard = subst (λ (m : ℕ). HasHeard pass.logs.plan pass.core m h) (sym untaken) heard;
        earlier = omega (arith, ap (decided pass.logs.plan pass.core) back, nothing);
        row = λ same. absurd (omega arith);
        finished = sym finished;
        cores = cores;
        history = carried;
        few_lost = omega arith;
      }
