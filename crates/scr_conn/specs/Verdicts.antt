-- The verdicts of the tracker: a state, INVALID or OTHER.
use Rattle.std.specs.Prelude.{ℕ, List, [], ◌∷◌, codes}
use Rattle.scr_base.specs.declared.row.Verdict.{Verdict}
use Rattle.scr_conn.specs.declared.entry.State.{State}
use Rattle.scr_conn.specs.declared.entry.State.TheVariants.{SynSent, SynRecv, Established, FinWait, LastAck, TimeWait, Closed}

abbrev pub names : List (List ℕ)
names =
    codes "SYN_SENT" ∷ codes "SYN_RECV" ∷ codes "ESTABLISHED" ∷ codes "FIN_WAIT" ∷ codes "LAST_ACK" ∷ codes "TIME_WAIT"
    ∷ codes "CLOSED" ∷ codes "INVALID" ∷ codes "OTHER" ∷ []

-- the verdict of a packet that brings its connection to this state
abbrev pub verdict_of : State → Verdict
verdict_of SynSent = record { 0 = 0 }
verdict_of SynRecv = record { 0 = 1 }
verdict_of Established = record { 0 = 2 }
verdict_of FinWait = record { 0 = 3 }
verdict_of LastAck = record { 0 = 4 }
verdict_of TimeWait = record { 0 = 5 }
verdict_of Closed = record { 0 = 6 }

abbrev pub INVALID : Verdict
INVALID = record { 0 = 7 }

abbrev pub OTHER : Verdict
OTHER = record { 0 = 8 }
