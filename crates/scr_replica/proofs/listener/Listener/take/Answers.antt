use Rattle.std.proofs.Common.{◌≡◌, ℕ, ◌-◌, ◌<◌, max, refl, sym, ap, subst, ◌∙◌, arith}
use Rattle.scr_wire.specs.declared.message.Message.{Message}
use Rattle.scr_wire.specs.declared.message.Message.TheVariants.{Frame, Beacon, End}
use Rattle.scr_wire.specs.declared.message.MessageKind.TheVariants as kind
use Rattle.scr_wire.specs.Spelling.{kind_of, number_of, rows_of}
use Rattle.scr_replica.specs.Entries.{Knows, with_lost}
use Rattle.scr_replica.specs.Told.{Told}
use Rattle.scr_replica.proofs.Deciding.{told-beacon, told-end, told-passed, told-frame, is_frame-to, knows-before}
use Rattle.scr_replica.proofs.listener.Listener.take.Goals as goal
use Rattle.scr_replica.proofs.listener.Listener.take.Goals.{in-Frame-2+in_ok-take_frame-in-Frame-2, in-Beacon+in_ok-lose-in-Beacon, in-End+in_ok-lose-in-End}

a-frame : (it : Message) → kind_of it ≡ kind.Frame → it ≡ Frame (number_of it) (rows_of it)
a-frame (Frame n rows) e = refl
a-frame (Beacon n) e = absurd cc
a-frame (End n) e = absurd cc

a-beacon : (it : Message) → kind_of it ≡ kind.Beacon → it ≡ Beacon (number_of it)
a-beacon (Frame n rows) e = absurd cc
a-beacon (Beacon n) e = refl
a-beacon (End n) e = absurd cc

an-end : (it : Message) → kind_of it ≡ kind.End → it ≡ End (number_of it)
an-end (Frame n rows) e = absurd cc
an-end (Beacon n) e = absurd cc
an-end (End n) e = refl

pub returns-in-Frame : goal.returns-in-Frame
returns-in-Frame c =
    let it = c.args.message.now in
    let frame = a-frame it (sym c.kind.ensures ∙ c.in-Frame.is) in
    let taken = ap (λ (x : Told). x.taken) c.self.view_is in
    λ plan core m is_plan same at told.
    told-passed plan core m it at c.args.self.now told (number_of it) (rows_of it) frame
    (omega (arith, taken, c.if-number-self.true, c.number-number.ensures))

pub returns : goal.returns
returns c =
    let it = c.args.message.now in
    let old : Told = c.args.self.now in
    let new : Told = record { known = c.match-kind.self-inside.known; taken = c.max-self-inside.result } in
    let was_known = ap (λ (x : Told). x.known) c.self.view_is in
    let was_taken = ap (λ (x : Told). x.taken) c.self.view_is in
    let number = c.number-number.ensures in
    λ plan core m is_plan same at told.
    elim c.match-kind.branch [
      | in-Frame-2+in_ok-take_frame-in-Frame-2 w ↦ (
          let frame = a-frame it (sym c.kind.ensures ∙ w.in-Frame-2.is) in
          let above : old.taken < number_of it = omega (arith, was_taken, w.if-number-self.false, number) in
          let known = ap (λ x. x.known) w.self-inside-is in
          let kept = ap (λ x. x.taken) w.self-inside-is in
          let taken : new.taken ≡ max old.taken (number_of it) = omega (arith, c.max-self-inside.ensures, kept, was_taken, number) in
          let to_core = is_frame-to plan core m it at old told (number_of it) (rows_of it) frame above in
          let before = knows-before plan core m it at old told (number_of it) (rows_of it) frame above in
          let knows =
          w.in_ok-take_frame-in-Frame-2.ensures plan core to_core
          (subst (Knows plan core (number_of it - 1)) (sym was_known) before) in
          told-frame plan core m it at old told (number_of it) (rows_of it) frame above new
          (subst (Knows plan core (number_of it)) (sym known) knows) taken)
      | in-Beacon+in_ok-lose-in-Beacon w ↦ (
          let beacon = a-beacon it (sym c.kind.ensures ∙ w.in-Beacon.is) in
          let known = ap (λ x. x.known) w.self-inside-is in
          let kept = ap (λ x. x.taken) w.self-inside-is in
          let taken : new.taken ≡ max old.taken (number_of it) = omega (arith, c.max-self-inside.ensures, kept, was_taken, number) in
          let lost : w.saturating_sub.result ≡ number_of it - plan.history = omega (arith, w.saturating_sub.ensures, number, same) in
          let knows : new.known ≡ with_lost (number_of it - plan.history) old.known =
          known ∙ w.in_ok-lose-in-Beacon.ensures
          ∙ ap (λ (k : ℕ). with_lost k c.self.inside.known) lost
          ∙ ap (with_lost (number_of it - plan.history)) was_known in
          told-beacon plan core m it at old told (number_of it) new beacon knows taken)
      | in-End+in_ok-lose-in-End w ↦ (
          let end = an-end it (sym c.kind.ensures ∙ w.in-End.is) in
          let known = ap (λ x. x.known) w.self-inside-is in
          let kept = ap (λ x. x.taken) w.self-inside-is in
          let taken : new.taken ≡ max old.taken (number_of it) = omega (arith, c.max-self-inside.ensures, kept, was_taken, number) in
          let knows : new.known ≡ with_lost (number_of it) old.known =
          known ∙ w.in_ok-lose-in-End.ensures
          ∙ ap (λ (k : ℕ). with_lost k c.self.inside.known) number
          ∙ ap (with_lost (number_of it)) was_known in
          told-end plan core m it at old told (number_of it) new is_plan end knows taken)
    ]
