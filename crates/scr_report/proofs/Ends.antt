-- Where a reader stops behind the verdicts, the cores, some totals and all totals.
use Rattle.std.proofs.Common.{◌≡◌, ◌≢◌, ℕ, ◌+◌, ◌<◌, ◌^◌, List, [], ◌∷◌, ◌++◌, All, length, map, drop, get_or, Err, arith, sym, ap, ◌∙◌, subst, append_assoc, length-append, zero-add}
use Rattle.std.specs.List.{zip, enumerate_from}
use Rattle.std.proofs.lemmas.List.{append-nil, drop_more, drop_all}
use Rattle.std.proofs.lemmas.List.Elements.{All-head, All-nil}
use Rattle.scr_plan.specs.declared.given.Given.{Given}
use Rattle.scr_plan.specs.declared.counting.CoreCounts.{CoreCounts}
use Rattle.scr_report.specs.declared.report.ReportError.{ReportError}
use Rattle.scr_report.specs.Memory.{IsOfText}
use Rattle.scr_report.specs.declared.report.ReportError.TheVariants.{Line, Ended, OutOfMemory}
use Rattle.scr_report.specs.Text.{name_at, verdict_line, frames_line, core_line, flows_line, total_line}
use Rattle.scr_report.specs.Outcome.{Outcome, counter_lines, report_lines}
use Rattle.scr_report.specs.Grammar.{lines_in, MayFollow, FollowOn, AreCounts, IsReadable, SpellsReport, ReadsAs}
use Rattle.scr_report.specs.Parts.{Cursor, GoesPast, first_line, refusal_at, last_number, ReadsVerdicts, ReadsFrames, LacksFrames, ReadsCores, ReadsFlows, LacksFlows, ReadsTotals, LacksTotal}
use Rattle.scr_report.proofs.Stages.{GoesPast-then}
use Rattle.scr_report.proofs.Refusals.{goes-on, AreRead, AreTotals, has-cores, has-totals, totals-go-on, up_to_cores, up_to_totals, begins, begins-front, IsStuck, refused}

heads : {X : Type 0} {a b : X} {xs ys : List X} → a ∷ xs ≡ b ∷ ys → a ≡ b
heads e = cc

nothing : {X : Type 0} {a : X} {xs : List X} → [] ≡ a ∷ xs → ⊥
nothing e = cc

-- ---- behind the verdicts

next-verdict : (names : List (List ℕ)) (last : ℕ) (more : List Given) (outcome : Outcome) (text line : List ℕ) (others : List (List ℕ))
    → IsReadable names outcome → FollowOn names last more → line ∷ others ≡ map (verdict_line names) more ++ counter_lines names outcome
    → ((given : Given) → MayFollow names last given → first_line text ≢ verdict_line names given)
    → ((f d k : ℕ) → f < 2 ^ 32 → d < 2 ^ 32 → k < 2 ^ 32 → first_line text ≢ frames_line f d k) → first_line text ≢ line
next-verdict names last [] outcome text line others readable follow same no_more none =
    λ is. none outcome.frames outcome.delivered outcome.kept readable.frames readable.delivered readable.kept (is ∙ heads same)
next-verdict names last (x ∷ more) outcome text line others readable follow same no_more none = λ is. no_more x follow.0 (is ∙ heads same)

ends-verdict : (names : List (List ℕ)) (more : List Given) (outcome : Outcome) → [] ≡ map (verdict_line names) more ++ counter_lines names outcome → ⊥
ends-verdict names [] outcome same = nothing same
ends-verdict names (x ∷ more) outcome same = nothing same

stuck-at_frames : (names : List (List ℕ)) (verdicts : List Given) (text : List ℕ) → FollowOn names 0 verdicts
    → ((given : Given) → MayFollow names (last_number 0 verdicts) given → first_line text ≢ verdict_line names given)
    → ((f d k : ℕ) → f < 2 ^ 32 → d < 2 ^ 32 → k < 2 ^ 32 → first_line text ≢ frames_line f d k)
    → IsStuck names (map (verdict_line names) verdicts) text
stuck-at_frames names verdicts text follow no_more none =
    let Small : ℕ → Type 0 = λ total. total < 2 ^ 64 in
    let read : AreRead names verdicts 0 0 0 [] = record {
      follow = follow;
      f_fits = omega arith;
      d_fits = omega arith;
      k_fits = omega arith;
      few = omega arith;
      each = All-nil AreCounts;
    } in
    let are : AreTotals names 0 [] = record { flows_fit = omega arith; no_more = omega arith; fit = All-nil Small } in
    let on = λ (outcome : Outcome) (readable : IsReadable names outcome) (others : List (List ℕ)) (same : report_lines names outcome ≡ map (verdict_line names) verdicts ++ others).
    goes-on names 0 outcome.frames outcome.delivered outcome.kept verdicts outcome.verdicts _ others follow readable.verdicts same in
    record {
      begin = begins-front names (map (verdict_line names) verdicts) _ (begins-front names (up_to_cores names verdicts 0 0 0 []) _ (begins names verdicts 0 0 0 [] 0 [] read are));
      no_next = λ outcome readable line more same.
          let goes = on outcome readable (line ∷ more) same in
          next-verdict names (last_number 0 verdicts) goes.more outcome text line more readable goes.follow goes.others_are no_more none;
      no_end = λ ended outcome readable same.
          let goes = on outcome readable [] (same ∙ sym (append-nil (map (verdict_line names) verdicts))) in
          ends-verdict names goes.more outcome goes.others_are;
    }

-- ---- behind the cores

next-core : (names : List (List ℕ)) (cores more : List CoreCounts) (outcome : Outcome) (text line : List ℕ) (others : List (List ℕ))
    → IsReadable names outcome → outcome.cores ≡ cores ++ more → All AreCounts more
    → line ∷ others ≡ map core_line (enumerate_from (0 + length cores) more) ++ (flows_line outcome.flows ∷ map total_line (zip names outcome.totals))
    → (length cores < 16 → (counts : CoreCounts) → AreCounts counts → first_line text ≢ core_line (length cores, counts))
    → ((flows : ℕ) → flows < 2 ^ 64 → first_line text ≢ flows_line flows) → first_line text ≢ line
next-core names cores [] outcome text line others readable are each same no_more none = λ is. none outcome.flows readable.flows (is ∙ heads same)
next-core names cores (x ∷ more) outcome text line others readable are each same no_more none = λ is.
    let few : length cores < 16 = omega (arith, ap length are, length-append cores (x ∷ more), readable.few_cores) in
    no_more few x (All-head AreCounts x more each) (is ∙ heads same ∙ ap (λ (n : ℕ). core_line (n, x)) (zero-add (length cores)))

ends-core : (first flows : ℕ) (more : List CoreCounts) (rest : List (List ℕ)) → [] ≡ map core_line (enumerate_from first more) ++ (flows_line flows ∷ rest) → ⊥
ends-core first flows [] rest same = nothing same
ends-core first flows (x ∷ more) rest same = nothing same

stuck-at_flows : (names : List (List ℕ)) (verdicts : List Given) (f d k : ℕ) (cores : List CoreCounts) (text : List ℕ) → AreRead names verdicts f d k cores
    → (length cores < 16 → (counts : CoreCounts) → AreCounts counts → first_line text ≢ core_line (length cores, counts))
    → ((flows : ℕ) → flows < 2 ^ 64 → first_line text ≢ flows_line flows)
    → IsStuck names (up_to_cores names verdicts f d k cores) text
stuck-at_flows names verdicts f d k cores text read no_more none =
    let Small : ℕ → Type 0 = λ total. total < 2 ^ 64 in
    let are : AreTotals names 0 [] = record { flows_fit = omega arith; no_more = omega arith; fit = All-nil Small } in
    let lines : List (List ℕ) = up_to_cores names verdicts f d k cores in
    record {
      begin = begins-front names lines _ (begins names verdicts f d k cores 0 [] read are);
      no_next = λ outcome readable line more same.
          let has = has-cores names verdicts f d k cores outcome (line ∷ more) read readable same in
          next-core names cores has.on.more outcome text line more readable has.on.are has.on.each has.on.others_are no_more none;
      no_end = λ ended outcome readable same.
          let has = has-cores names verdicts f d k cores outcome [] read readable (same ∙ sym (append-nil lines)) in
          ends-core (0 + length cores) outcome.flows has.on.more (map total_line (zip names outcome.totals)) has.on.others_are;
    }

-- ---- behind some totals

-- the lines of the other names begin with that of the next one
next-total : (names : List (List ℕ)) (totals : List ℕ) (place : ℕ) → length totals ≡ length names → place < length names
    → map total_line (zip (drop place names) (drop place totals))
    ≡ total_line (name_at names place, get_or totals place 0) ∷ map total_line (zip (drop (place + 1) names) (drop (place + 1) totals))
next-total names totals place all below =
    let ns : drop place names ≡ name_at names place ∷ drop (place + 1) names = drop_more names place [] below in
    let ts : drop place totals ≡ get_or totals place 0 ∷ drop (place + 1) totals = drop_more totals place 0 (omega arith) in
    ap (λ (t : List (List ℕ)). map total_line (zip t (drop place totals))) ns
    ∙ ap (λ (t : List ℕ). map total_line (zip (name_at names place ∷ drop (place + 1) names) t)) ts

stuck-at_total : (names : List (List ℕ)) (verdicts : List Given) (f d k : ℕ) (cores : List CoreCounts) (flows : ℕ) (totals : List ℕ) (text : List ℕ)
    → AreRead names verdicts f d k cores → AreTotals names flows totals → length totals < length names
    → ((total : ℕ) → total < 2 ^ 64 → first_line text ≢ total_line (name_at names (length totals), total))
    → IsStuck names (up_to_totals names verdicts f d k cores flows totals) text
stuck-at_total names verdicts f d k cores flows totals text read are below none =
    let lines : List (List ℕ) = up_to_totals names verdicts f d k cores flows totals in
    let next = λ (outcome : Outcome) (readable : IsReadable names outcome) (others : List (List ℕ)) (same : report_lines names outcome ≡ lines ++ others).
    let has = has-totals names verdicts f d k cores flows totals outcome others read are.flows_fit readable same in
    totals-go-on names totals outcome.totals others readable.a_total_each are.no_more has.same_totals
    ∙ next-total names outcome.totals (length totals) readable.a_total_each below in
    record {
      begin = begins names verdicts f d k cores flows totals read are;
      no_next = λ outcome readable line more same is.
          let at = next outcome readable (line ∷ more) same in
          none (get_or outcome.totals (length totals) 0) (readable.totals (length totals) 0 (omega (arith, readable.a_total_each))) (is ∙ heads at);
      no_end = λ ended outcome readable same. nothing (next outcome readable [] (same ∙ sym (append-nil lines)));
    }

-- ---- behind all totals

stuck-at_end : (names : List (List ℕ)) (verdicts : List Given) (f d k : ℕ) (cores : List CoreCounts) (flows : ℕ) (totals : List ℕ) (text : List ℕ)
    → AreRead names verdicts f d k cores → AreTotals names flows totals → length totals ≡ length names → text ≢ []
    → IsStuck names (up_to_totals names verdicts f d k cores flows totals) text
stuck-at_end names verdicts f d k cores flows totals text read are all some =
    let lines : List (List ℕ) = up_to_totals names verdicts f d k cores flows totals in
    record {
      begin = begins names verdicts f d k cores flows totals read are;
      no_next = λ outcome readable line more same is.
          let has = has-totals names verdicts f d k cores flows totals outcome (line ∷ more) read are.flows_fit readable same in
          let rest = totals-go-on names totals outcome.totals (line ∷ more) readable.a_total_each are.no_more has.same_totals in
          let none : drop (length totals) names ≡ [] = drop_all (length totals) names (omega arith) in
          nothing (sym (rest ∙ ap (λ (t : List (List ℕ)). map total_line (zip t (drop (length totals) outcome.totals))) none));
      no_end = λ ended outcome readable same. absurd (some ended);
    }

-- ---- the same by what the parts of the reader say

refused-past : (names : List (List ℕ)) (bytes : List ℕ) (start now : Cursor) (lines : List (List ℕ)) (error : ReportError)
    → start.text ≡ bytes → start.number ≡ 1 → GoesPast start now lines → IsStuck names lines now.text → error ≡ refusal_at now.text now.number
    → ReadsAs names bytes (Err error)
refused-past names bytes start now lines error text_is number_is past stuck error_is =
    let P : ReportError → Type 0 = λ e. ReadsAs names bytes (Err e) in
    subst P (sym error_is)
    (refused names bytes lines now.text now.number (ap lines_in (sym text_is) ∙ past.parts) (past.count ∙ ap (λ (n : ℕ). n + length lines) number_is) stuck)

pub no-frames : (names : List (List ℕ)) (bytes : List ℕ) (start a : Cursor) (verdicts : List Given) (error : ReportError) → start.text ≡ bytes → start.number ≡ 1
    → ReadsVerdicts names start a verdicts → LacksFrames a error → ReadsAs names bytes (Err error)
no-frames names bytes start a verdicts error text_is number_is vs lacks =
    refused-past names bytes start a (map (verdict_line names) verdicts) error text_is number_is vs.past
    (stuck-at_frames names verdicts a.text vs.follow vs.no_more lacks.none) lacks.error_is

-- the parts up to the cores
past-cores : (names : List (List ℕ)) (start a b c : Cursor) (verdicts : List Given) (f d k : ℕ) (cores : List CoreCounts) → ReadsVerdicts names start a verdicts
    → ReadsFrames a b f d k → ReadsCores b c cores → GoesPast start c (up_to_cores names verdicts f d k cores)
past-cores names start a b c verdicts f d k cores vs fs cs =
    GoesPast-then start a c (map (verdict_line names) verdicts) (frames_line f d k ∷ map core_line (enumerate_from 0 cores)) vs.past
    (GoesPast-then a b c (frames_line f d k ∷ []) (map core_line (enumerate_from 0 cores)) fs.past cs.past)

are-read : (names : List (List ℕ)) (start a b c : Cursor) (verdicts : List Given) (f d k : ℕ) (cores : List CoreCounts) → ReadsVerdicts names start a verdicts
    → ReadsFrames a b f d k → ReadsCores b c cores → AreRead names verdicts f d k cores
are-read names start a b c verdicts f d k cores vs fs cs = record {
  follow = vs.follow;
  f_fits = fs.frames_fit;
  d_fits = fs.delivered_fit;
  k_fits = fs.kept_fit;
  few = cs.few;
  each = cs.each;
}

pub no-flows : (names : List (List ℕ)) (bytes : List ℕ) (start a b c : Cursor) (verdicts : List Given) (f d k : ℕ) (cores : List CoreCounts) (error : ReportError)
    → start.text ≡ bytes → start.number ≡ 1 → ReadsVerdicts names start a verdicts → ReadsFrames a b f d k → ReadsCores b c cores → LacksFlows c error
    → ReadsAs names bytes (Err error)
no-flows names bytes start a b c verdicts f d k cores error text_is number_is vs fs cs lacks =
    refused-past names bytes start c (up_to_cores names verdicts f d k cores) error text_is number_is
    (past-cores names start a b c verdicts f d k cores vs fs cs)
    (stuck-at_flows names verdicts f d k cores c.text (are-read names start a b c verdicts f d k cores vs fs cs) cs.no_more lacks.none) lacks.error_is

-- the parts up to some totals
past-totals : (names : List (List ℕ)) (start c e g : Cursor) (verdicts : List Given) (f d k : ℕ) (cores : List CoreCounts) (flows : ℕ) (totals : List ℕ)
    → GoesPast start c (up_to_cores names verdicts f d k cores) → ReadsFlows c e flows → ReadsTotals names e g totals
    → GoesPast start g (up_to_totals names verdicts f d k cores flows totals)
past-totals names start c e g verdicts f d k cores flows totals front fl ts =
    GoesPast-then start c g (up_to_cores names verdicts f d k cores) (flows_line flows ∷ map total_line (zip names totals)) front
    (GoesPast-then c e g (flows_line flows ∷ []) (map total_line (zip names totals)) fl.past ts.past)

are-totals : (names : List (List ℕ)) (c e g : Cursor) (flows : ℕ) (totals : List ℕ) → ReadsFlows c e flows → ReadsTotals names e g totals → AreTotals names flows totals
are-totals names c e g flows totals fl ts = record { flows_fit = fl.flows_fit; no_more = ts.few; fit = ts.each }

pub no-total : (names : List (List ℕ)) (bytes : List ℕ) (start a b c e g : Cursor) (verdicts : List Given) (f d k : ℕ) (cores : List CoreCounts) (flows : ℕ) (error : ReportError)
    → start.text ≡ bytes → start.number ≡ 1 → ReadsVerdicts names start a verdicts → ReadsFrames a b f d k → ReadsCores b c cores → ReadsFlows c e flows
    → LacksTotal names e g error → ReadsAs names bytes (Err error)
no-total names bytes start a b c e g verdicts f d k cores flows error text_is number_is vs fs cs fl lacks =
    let front = past-cores names start a b c verdicts f d k cores vs fs cs in
    refused-past names bytes start g (up_to_totals names verdicts f d k cores flows lacks.totals) error text_is number_is
    (past-totals names start c e g verdicts f d k cores flows lacks.totals front fl lacks.read)
    (stuck-at_total names verdicts f d k cores flows lacks.totals g.text (are-read names start a b c verdicts f d k cores vs fs cs)
    (are-totals names c e g flows lacks.totals fl lacks.read) lacks.few lacks.none) lacks.error_is

pub no-end : (names : List (List ℕ)) (bytes : List ℕ) (start a b c e g : Cursor) (verdicts : List Given) (f d k : ℕ) (cores : List CoreCounts) (flows : ℕ) (totals : List ℕ) (error : ReportError)
    → start.text ≡ bytes → start.number ≡ 1 → ReadsVerdicts names start a verdicts → ReadsFrames a b f d k → ReadsCores b c cores → ReadsFlows c e flows
    → ReadsTotals names e g totals → length totals ≡ length names → g.text ≢ [] → error ≡ refusal_at g.text g.number → ReadsAs names bytes (Err error)
no-end names bytes start a b c e g verdicts f d k cores flows totals error text_is number_is vs fs cs fl ts all some error_is =
    let front = past-cores names start a b c verdicts f d k cores vs fs cs in
    refused-past names bytes start g (up_to_totals names verdicts f d k cores flows totals) error text_is number_is
    (past-totals names start c e g verdicts f d k cores flows totals front fl ts)
    (stuck-at_end names verdicts f d k cores flows totals g.text (are-read names start a b c verdicts f d k cores vs fs cs)
    (are-totals names c e g flows totals fl ts) all some) error_is

pub spelled : (names : List (List ℕ)) (bytes : List ℕ) (start a b c e g : Cursor) (verdicts : List Given) (f d k : ℕ) (cores : List CoreCounts) (flows : ℕ) (totals : List ℕ)
    → start.text ≡ bytes → ReadsVerdicts names start a verdicts → ReadsFrames a b f d k → ReadsCores b c cores → ReadsFlows c e flows
    → ReadsTotals names e g totals → length totals ≡ length names → g.text ≡ []
    → SpellsReport names bytes (record { verdicts = verdicts; frames = f; delivered = d; kept = k; cores = cores; flows = flows; totals = totals })
spelled names bytes start a b c e g verdicts f d k cores flows totals text_is vs fs cs fl ts all ended =
    let front = past-cores names start a b c verdicts f d k cores vs fs cs in
    let past = past-totals names start c e g verdicts f d k cores flows totals front fl ts in
    let lines : List (List ℕ) = up_to_totals names verdicts f d k cores flows totals in
    let whole : lines_in bytes ≡ lines =
    ap lines_in (sym text_is) ∙ past.parts ∙ ap (λ (t : List ℕ). lines ++ lines_in t) ended ∙ append-nil lines in
    record {
      readable = record {
        verdicts = vs.follow;
        frames = fs.frames_fit;
        delivered = fs.delivered_fit;
        kept = fs.kept_fit;
        few_cores = cs.few;
        cores = cs.each;
        flows = fl.flows_fit;
        a_total_each = all;
        totals = ts.each;
      };
      lines = whole ∙ append_assoc (map (verdict_line names) verdicts) (frames_line f d k ∷ map core_line (enumerate_from 0 cores)) (flows_line flows ∷ map total_line (zip names totals));
    }

-- want of memory says nothing
pub but_for_memory : (names : List (List ℕ)) (bytes : List ℕ) (error : ReportError) → (IsOfText error → ReadsAs names bytes (Err error)) → ReadsAs names bytes (Err error)
but_for_memory names bytes (OutOfMemory want) is = tt
but_for_memory names bytes (Line n) is = is tt
but_for_memory names bytes (Ended n) is = is tt
