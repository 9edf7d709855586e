-- The report that is written is that of the capture.
use Rattle.std.proofs.Common.{◌≡◌, ℕ, List, Option, Ok, IfSome, ap}
use Rattle.scr_base.specs.declared.row.Row.{Row}
use Rattle.scr_pcap.specs.Records.{Record}
use Rattle.scr_pcapng.specs.Reading.{IsReading}
use Rattle.scr_plan.specs.declared.counting.CoreCounts.{CoreCounts}
use Rattle.scr_plan.specs.declared.given.Given.{Given}
use Rattle.scr_plan.specs.Link.{Link}
use Rattle.scr_plan.specs.Plan.{Plan}
use Rattle.scr_report.specs.Outcome.{Outcome, report_of, totals_of}
use Rattle.scr_run.specs.Asked.{IsOfCapture}

-- an outcome by its parts
pub outcome-of : (names : List (List ℕ)) (outcome : Outcome) (verdicts : List Given) (frames delivered kept : ℕ) (cores : List CoreCounts) (flows : ℕ)
    → outcome.verdicts ≡ verdicts → outcome.frames ≡ frames → outcome.delivered ≡ delivered → outcome.kept ≡ kept → outcome.cores ≡ cores → outcome.flows ≡ flows
    → outcome.totals ≡ totals_of names verdicts
    → outcome ≡ report_of names verdicts frames delivered kept cores flows
outcome-of names outcome verdicts frames delivered kept cores flows a b c d e f g =
    λ i. record { verdicts = a i; frames = b i; delivered = c i; kept = d i; cores = e i; flows = f i; totals = g i }

-- a plan by its parts
pub plan-of : (plan : Plan) (rows : List Row) (cores history : ℕ) (link : Link)
    → plan.rows ≡ rows → plan.cores ≡ cores → plan.history ≡ history → plan.link ≡ link
    → plan ≡ record { rows = rows; cores = cores; history = history; link = link }
plan-of plan rows cores history link a b c d = λ i. record { rows = a i; cores = b i; history = c i; link = d i }

-- the report of the records that were read is asked for
pub IsOfCapture-from : (text : List Record → List ℕ) (report : List ℕ) (left : Option (List ℕ)) (records : List Record)
    → IfSome left (λ bytes. IsReading bytes (Ok records)) → report ≡ text records → IsOfCapture text left (Ok report)
IsOfCapture-from text report left records read is =
    record { reading = Ok records; read = read; told = ap (λ (t : List ℕ). Ok t) is }
