-- What is written of a plain report has whole lines, which are read back.
use Rattle.std.proofs.Common.{◌≡◌, ℕ, zero, suc, take, ◌+◌, ◌<◌, ◌≤◌, ◌^◌, List, [], ◌∷◌, ◌++◌, All, length, map, get_or, true, false, codes, decimal, eqb, arith, refl, sym, ap, ◌∙◌, append_assoc}
use Rattle.std.specs.List.{zip, enumerate_from}
use Rattle.std.specs.Str.{all_ascii_digits}
use Rattle.std.specs.Char.{is_ascii_digit}
use Rattle.std.proofs.lemmas.Bool.{and_parts, or_from}
use Rattle.std.proofs.lemmas.Bool.Decides.{nat_tests}
use Rattle.std.proofs.lemmas.List.Elements.{All-nil, All-cons, All-head, All-tail, All-append}
use Rattle.std.proofs.lemmas.List.Folds.{list_any-append}
use Rattle.scr_plan.specs.declared.given.Given.{Given}
use Rattle.scr_plan.specs.declared.counting.CoreCounts.{CoreCounts}
use Rattle.scr_report.specs.Text.{line, name_at, verdict_line, frames_line, core_line, flows_line, total_line}
use Rattle.scr_report.specs.Outcome.{Outcome, report_lines, report_text}
use Rattle.scr_report.specs.Grammar.{IsFirstOfName, FollowOn, AreCounts, IsReadable, SpellsReport}
use Rattle.scr_report.specs.ReadBack.{ArePlain, Grow}
use Rattle.scr_report.specs.Parts.{last_number}
use Rattle.scr_report.proofs.Numbers.{all-decimal}
use Rattle.scr_report.proofs.Cutting.{has_feed, IsWhole, lines-concat}

-- words without line feeds
abbrev HasNoFeed : List ℕ → Type 0
HasNoFeed word = has_feed word ≡ false

digits-no_feed : (ds : List ℕ) → all_ascii_digits ds ≡ true → HasNoFeed ds
digits-no_feed [] all = refl
digits-no_feed (d ∷ ds) all =
    let parts = and_parts (is_ascii_digit d) (all_ascii_digits ds) all in
    let other : eqb d 10 ≡ false = grind (arith, nat_tests, parts.0) in
    or_from (eqb d 10) (has_feed ds) other (digits-no_feed ds parts.1)

decimal-no_feed : (n : ℕ) → n < 2 ^ 64 → HasNoFeed (decimal n)
decimal-no_feed n below = digits-no_feed (decimal n) (all-decimal n below)

-- a line of words without line feeds is whole
whole-line : (word : List ℕ) (words : List (List ℕ)) → HasNoFeed word → All HasNoFeed words → IsWhole (line (word ∷ words))
whole-line word [] none others = record { words = word; ends = refl; no_feed = none }
whole-line word (next ∷ words) none others =
    let rest = whole-line next words (All-head HasNoFeed next words others) (All-tail HasNoFeed next words others) in
    record {
      words = word ++ 32 ∷ rest.words;
      ends = ap (λ (t : List ℕ). word ++ 32 ∷ t) rest.ends ∙ sym (append_assoc word (32 ∷ rest.words) (10 ∷ []));
      no_feed = list_any-append (λ byte. eqb byte 10) word (32 ∷ rest.words) ∙ or_from (has_feed word) (has_feed (32 ∷ rest.words)) none rest.no_feed;
    }

-- a label and a number in front of words
labelled : (label : List ℕ) (n : ℕ) (words : List (List ℕ)) → HasNoFeed label → n < 2 ^ 64 → All HasNoFeed words → All HasNoFeed (label ∷ decimal n ∷ words)
labelled label n words none below others =
    All-cons HasNoFeed label (decimal n ∷ words) none (All-cons HasNoFeed (decimal n) words (decimal-no_feed n below) others)

numbered : (n : ℕ) (words : List (List ℕ)) → n < 2 ^ 64 → All HasNoFeed words → All HasNoFeed (decimal n ∷ words)
numbered n words below others = All-cons HasNoFeed (decimal n) words (decimal-no_feed n below) others

whole-verdicts : (names : List (List ℕ)) (last : ℕ) (verdicts : List Given) → ArePlain names → FollowOn names last verdicts
    → All IsWhole (map (verdict_line names) verdicts)
whole-verdicts names last [] plain follow = All-nil IsWhole
whole-verdicts names last (x ∷ verdicts) plain follow =
    let name : List ℕ = name_at names x.verdict.0 in
    let none : HasNoFeed name = plain.no_feeds x.verdict.0 follow.0.named.within in
    All-cons IsWhole (verdict_line names x) (map (verdict_line names) verdicts)
    (whole-line (decimal x.number) (name ∷ []) (decimal-no_feed x.number (omega (arith, follow.0.fits))) (All-cons HasNoFeed name [] none (All-nil HasNoFeed)))
    (whole-verdicts names x.number verdicts plain follow.1)

whole-cores : (first : ℕ) (cores : List CoreCounts) → first + length cores ≤ 16 → All AreCounts cores → All IsWhole (map core_line (enumerate_from first cores))
whole-cores first [] few each = All-nil IsWhole
whole-cores first (x ∷ cores) few each =
    let fit = All-head AreCounts x cores each in
    let skipped : List (List ℕ) = codes "skipped" ∷ decimal x.skipped ∷ [] in
    let recovered : List (List ℕ) = codes "recovered" ∷ decimal x.recovered ∷ skipped in
    let carried : List (List ℕ) = codes "carried" ∷ decimal x.carried ∷ recovered in
    let delivered : List (List ℕ) = codes "delivered" ∷ decimal x.delivered ∷ carried in
    All-cons IsWhole (core_line (first, x)) (map core_line (enumerate_from (first + 1) cores))
    (whole-line (codes "core") (decimal first ∷ delivered) refl
    (numbered first delivered (omega arith)
    (labelled (codes "delivered") x.delivered carried refl (omega (arith, fit.delivered))
    (labelled (codes "carried") x.carried recovered refl (omega (arith, fit.carried))
    (labelled (codes "recovered") x.recovered skipped refl (omega (arith, fit.recovered))
    (labelled (codes "skipped") x.skipped [] refl (omega (arith, fit.skipped)) (All-nil HasNoFeed)))))))
    (whole-cores (first + 1) cores (omega arith) (All-tail AreCounts x cores each))

whole-totals : (names : List (List ℕ)) (totals : List ℕ) → ((i : ℕ) → i < length names → HasNoFeed (name_at names i)) → All (λ total. total < 2 ^ 64) totals
    → All IsWhole (map total_line (zip names totals))
whole-totals [] totals none fit = All-nil IsWhole
whole-totals (name ∷ names) [] none fit = All-nil IsWhole
whole-totals (name ∷ names) (x ∷ totals) none fit =
    let Small : ℕ → Type 0 = λ total. total < 2 ^ 64 in
    All-cons IsWhole (total_line (name, x)) (map total_line (zip names totals))
    (whole-line (codes "verdict") (name ∷ decimal x ∷ []) refl
    (All-cons HasNoFeed name (decimal x ∷ []) (none 0 (omega arith)) (numbered x [] (All-head Small x totals fit) (All-nil HasNoFeed))))
    (whole-totals names totals (λ i below. none (suc i) (omega arith)) (All-tail Small x totals fit))

-- each line of a report that may be read is whole, where no name has a line feed
whole-report : (names : List (List ℕ)) (outcome : Outcome) → ArePlain names → IsReadable names outcome → All IsWhole (report_lines names outcome)
whole-report names r plain is =
    let cs : List (List ℕ) = map core_line (enumerate_from 0 r.cores) in
    let ts : List (List ℕ) = map total_line (zip names r.totals) in
    let kept : List (List ℕ) = codes "kept" ∷ decimal r.kept ∷ [] in
    let delivered : List (List ℕ) = codes "delivered" ∷ decimal r.delivered ∷ kept in
    let frames : IsWhole (frames_line r.frames r.delivered r.kept) =
    whole-line (codes "frames") (decimal r.frames ∷ delivered) refl (numbered r.frames delivered (omega (arith, is.frames))
    (labelled (codes "delivered") r.delivered kept refl (omega (arith, is.delivered))
    (labelled (codes "kept") r.kept [] refl (omega (arith, is.kept)) (All-nil HasNoFeed)))) in
    let flows : IsWhole (flows_line r.flows) = whole-line (codes "flows") (decimal r.flows ∷ []) refl (numbered r.flows [] is.flows (All-nil HasNoFeed)) in
    All-append IsWhole (map (verdict_line names) r.verdicts) (frames_line r.frames r.delivered r.kept ∷ (cs ++ flows_line r.flows ∷ ts))
    (whole-verdicts names 0 r.verdicts plain is.verdicts)
    (All-cons IsWhole (frames_line r.frames r.delivered r.kept) (cs ++ flows_line r.flows ∷ ts) frames
    (All-append IsWhole cs (flows_line r.flows ∷ ts) (whole-cores 0 r.cores (omega (arith, is.few_cores)) is.cores)
    (All-cons IsWhole (flows_line r.flows) ts flows (whole-totals names r.totals plain.no_feeds is.totals))))

pub spells-written : (names : List (List ℕ)) (outcome : Outcome) → ArePlain names → IsReadable names outcome → SpellsReport names (report_text names outcome true) outcome
spells-written names outcome plain is = record { readable = is; lines = lines-concat (report_lines names outcome) (whole-report names outcome plain is) }

-- where names differ, each place is the first of its name
first-of_name : (names : List (List ℕ)) (place : ℕ) → ArePlain names → place < length names → IsFirstOfName names place
first-of_name names place plain within = record { within = within; first = λ earlier before. plain.differ earlier place before within }

pub follow-on : (names : List (List ℕ)) (last : ℕ) (verdicts : List Given) → ArePlain names → Grow last verdicts → All (λ given. given.verdict.0 < length names) verdicts
    → All (λ given. given.number < 2 ^ 32) verdicts → FollowOn names last verdicts
follow-on names last [] plain grow named fit = tt
follow-on names last (x ∷ verdicts) plain grow named fit =
    let Named : Given → Type 0 = λ given. given.verdict.0 < length names in
    let Fits : Given → Type 0 = λ given. given.number < 2 ^ 32 in (
      record { above = grow.0; fits = All-head Fits x verdicts fit; named = first-of_name names x.verdict.0 plain (All-head Named x verdicts named) },
      follow-on names x.number verdicts plain grow.1 (All-tail Named x verdicts named) (All-tail Fits x verdicts fit),
    )

-- growing numbers: at a place, and one more
pub Grow-at : (last : ℕ) (xs : List Given) (i : ℕ) (d : Given) → i < length xs → Grow last xs → last_number last (take i xs) < (get_or xs i d).number
Grow-at last [] i d below grow = absurd (omega arith)
Grow-at last (x ∷ xs) zero d below grow = grow.0
Grow-at last (x ∷ xs) (suc i) d below grow = Grow-at x.number xs i d (omega arith) grow.1

pub Grow-push : (last : ℕ) (xs : List Given) (x : Given) → Grow last xs → last_number last xs < x.number → Grow last (xs ++ x ∷ [])
Grow-push last [] x before here = (here, tt)
Grow-push last (y ∷ xs) x before here = (before.0, Grow-push y.number xs x before.1 here)
