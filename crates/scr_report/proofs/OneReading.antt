-- Bytes are read in one way, but for want of memory.
use Rattle.std.proofs.Common.{◌≡◌, ℕ, ◌-◌, ◌<◌, ◌^◌, List, [], ◌∷◌, All, length, map, take, drop, Result, Ok, Err, arith, refl, sym, ap, ◌∙◌, subst, append_assoc, inl, inr}
use Rattle.std.specs.List.{zip, enumerate_from}
use Rattle.std.proofs.lemmas.Bool.{cases_order}
use Rattle.std.proofs.lemmas.List.{append-nil, take-append-drop, take-take}
use Rattle.std.proofs.lemmas.List.Elements.{All-head, All-tail}
use Rattle.scr_report.specs.declared.report.ReportError.{ReportError}
use Rattle.std.specs.Prelude.{IfErr}
use Rattle.scr_report.specs.Memory.{IsOfText}
use Rattle.scr_report.specs.declared.report.ReportError.TheVariants.{Line, Ended, OutOfMemory}
use Rattle.scr_report.specs.Text.{verdict_line, frames_line, core_line, flows_line, total_line}
use Rattle.scr_report.specs.Outcome.{Outcome, report_lines}
use Rattle.scr_report.specs.Grammar.{lines_in, IsReadable, SpellsReport, Begins, IsBadLine, ReadsAs}
use Rattle.scr_report.proofs.LineKinds.{total-same}
use Rattle.scr_report.proofs.Refusals.{AreRead, has-totals, begins-front, up_to_totals}

-- totals of the same lines
totals-same : (names : List (List ℕ)) (xs ys : List ℕ) → length xs ≡ length names → length ys ≡ length names
    → All (λ total. total < 2 ^ 64) xs → All (λ total. total < 2 ^ 64) ys → map total_line (zip names xs) ≡ map total_line (zip names ys) → xs ≡ ys
totals-same [] [] [] all_x all_y fit_x fit_y same = refl
totals-same [] [] (y ∷ ys) all_x all_y fit_x fit_y same = absurd (omega arith)
totals-same [] (x ∷ xs) ys all_x all_y fit_x fit_y same = absurd (omega arith)
totals-same (name ∷ names) [] ys all_x all_y fit_x fit_y same = absurd (omega arith)
totals-same (name ∷ names) (x ∷ xs) [] all_x all_y fit_x fit_y same = absurd (omega arith)
totals-same (name ∷ names) (x ∷ xs) (y ∷ ys) all_x all_y fit_x fit_y same =
    let Small : ℕ → Type 0 = λ total. total < 2 ^ 64 in
    let heads : total_line (name, x) ≡ total_line (name, y) = cc in
    let tails : map total_line (zip names xs) ≡ map total_line (zip names ys) = cc in
    let one : x ≡ y = total-same name x y (All-head Small x xs fit_x) (All-head Small y ys fit_y) heads in
    λ i. one i ∷ totals-same names xs ys (omega arith) (omega arith) (All-tail Small x xs fit_x) (All-tail Small y ys fit_y) tails i

-- two reports with the same lines
pub report_lines-same : (names : List (List ℕ)) (a b : Outcome) → IsReadable names a → IsReadable names b → report_lines names a ≡ report_lines names b → a ≡ b
report_lines-same names a b is_a is_b same =
    let vs : List (List ℕ) = map (verdict_line names) b.verdicts in
    let cs : List (List ℕ) = map core_line (enumerate_from 0 b.cores) in
    let ts : List (List ℕ) = map total_line (zip names b.totals) in
    let read : AreRead names b.verdicts b.frames b.delivered b.kept b.cores = record {
      follow = is_b.verdicts;
      f_fits = is_b.frames;
      d_fits = is_b.delivered;
      k_fits = is_b.kept;
      few = is_b.few_cores;
      each = is_b.cores;
    } in
    let has = has-totals names b.verdicts b.frames b.delivered b.kept b.cores b.flows b.totals a [] read is_b.flows is_a
    (same ∙ sym (append_assoc vs (frames_line b.frames b.delivered b.kept ∷ cs) (flows_line b.flows ∷ ts))
    ∙ sym (append-nil (up_to_totals names b.verdicts b.frames b.delivered b.kept b.cores b.flows b.totals))) in
    let totals : a.totals ≡ b.totals = totals-same names a.totals b.totals is_a.a_total_each is_b.a_total_each is_a.totals is_b.totals
    (has.same_totals ∙ append-nil ts) in
    λ i. record {
      verdicts = has.front.verdicts_are i;
      frames = has.front.frames_are i;
      delivered = has.front.delivered_are i;
      kept = has.front.kept_are i;
      cores = has.cores_are i;
      flows = has.flows_are i;
      totals = totals i;
    }

begins-take : (names : List (List ℕ)) (n : ℕ) (lines : List (List ℕ)) → Begins names lines → Begins names (take n lines)
begins-take names n lines is =
    let P : List (List ℕ) → Type 0 = λ t. Begins names t in
    begins-front names (take n lines) (drop n lines) (subst P (sym (take-append-drop n lines)) is)

spelled-begins : (names : List (List ℕ)) (bytes : List ℕ) (outcome : Outcome) → SpellsReport names bytes outcome → Begins names (lines_in bytes)
spelled-begins names bytes outcome is =
    record { outcome = outcome; others = []; readable = is.readable; parts = sym is.lines ∙ sym (append-nil (lines_in bytes)) }

-- of two bad lines none is before the other
bad-first : (names : List (List ℕ)) (bytes : List ℕ) (m n : ℕ) → IsBadLine names bytes m → IsBadLine names bytes n → m < n → ⊥
bad-first names bytes m n is_m is_n before =
    let P : List (List ℕ) → Type 0 = λ t. Begins names t in
    is_m.refused (subst P (take-take m (n - 1) (lines_in bytes) (omega arith)) (begins-take names m (take (n - 1) (lines_in bytes)) is_n.before))

-- one reading
pub ReadsAs-same : (names : List (List ℕ)) (bytes : List ℕ) (one other : Result Outcome ReportError) → IfErr one IsOfText → IfErr other IsOfText
    → ReadsAs names bytes one → ReadsAs names bytes other → other ≡ one
ReadsAs-same names bytes (Err (OutOfMemory want)) other had has is is_other = absurd had
ReadsAs-same names bytes (Ok a) (Err (OutOfMemory want)) had has is is_other = absurd has
ReadsAs-same names bytes (Err (Line n)) (Err (OutOfMemory want)) had has is is_other = absurd has
ReadsAs-same names bytes (Err (Ended n)) (Err (OutOfMemory want)) had has is is_other = absurd has
ReadsAs-same names bytes (Ok a) (Ok b) had has is is_other =
    ap Ok (report_lines-same names b a is_other.readable is.readable (sym is_other.lines ∙ is.lines))
ReadsAs-same names bytes (Ok a) (Err (Line n)) had has is is_other =
    absurd (is_other.refused (begins-take names n (lines_in bytes) (spelled-begins names bytes a is)))
ReadsAs-same names bytes (Ok a) (Err (Ended n)) had has is is_other = absurd (is_other.not_spelled a is)
ReadsAs-same names bytes (Err (Line n)) (Ok a) had has is is_other =
    absurd (is.refused (begins-take names n (lines_in bytes) (spelled-begins names bytes a is_other)))
ReadsAs-same names bytes (Err (Line m)) (Err (Line n)) had has is is_other =
    elim (cases_order m n) [
      | inl same ↦ ap (λ (i : ℕ). Err (Line i)) (sym same)
      | inr apart ↦ elim apart [
        | inl before ↦ absurd (bad-first names bytes m n is is_other before)
        | inr behind ↦ absurd (bad-first names bytes n m is_other is behind)
      ]
    ]
ReadsAs-same names bytes (Err (Line m)) (Err (Ended n)) had has is is_other =
    absurd (is.refused (begins-take names m (lines_in bytes) is_other.before))
ReadsAs-same names bytes (Err (Ended n)) (Ok a) had has is is_other = absurd (is.not_spelled a is_other)
ReadsAs-same names bytes (Err (Ended n)) (Err (Line m)) had has is is_other =
    absurd (is_other.refused (begins-take names m (lines_in bytes) is.before))
ReadsAs-same names bytes (Err (Ended m)) (Err (Ended n)) had has is is_other = ap (λ (i : ℕ). Err (Ended i)) (is_other.behind ∙ sym is.behind)
