use Rattle.std.proofs.Common.{◌≡◌, ◌<◌, ◌^◌, ◌∷◌, ◌++◌, [], List, ℕ, ap, arith, sym, ◌∙◌, subst, All, length, map}
use Rattle.std.specs.List.{zip}
use Rattle.std.proofs.lemmas.List.{length_push}
use Rattle.std.proofs.lemmas.List.Elements.{All-push, All-same, All-nil}
use Rattle.scr_report.specs.Text.{name_at, total_line}
use Rattle.scr_report.specs.Parts.{GoesPast, first_line}
use Rattle.scr_report.proofs.Stages.{GoesPast-push, GoesPast-none, zip-push, zip-none}
use Rattle.scr_report.proofs.reading.read_totals.Goals as goal

pub loop-place-init : goal.loop-place-init
loop-place-init c =
    let Small : ℕ → Type 0 = λ total. total < 2 ^ 64 in
    let P : List (List ℕ) → Type 0 = λ t. GoesPast c.args.lines.now c.args.lines.now t in
    record {
      count = ap length c.new-totals.ensures.items;
      each = All-same Small _ [] c.new-totals.ensures.items (All-nil Small);
      past = subst P (sym (ap (map total_line) (zip-none c.args.names.now c.new-totals.result.items c.new-totals.ensures.items))) (GoesPast-none c.args.lines.now);
    }

pub loop-place-preserved : goal.loop-place-preserved
loop-place-preserved c =
    let Small : ℕ → Type 0 = λ total. total < 2 ^ 64 in
    let before = c.loop-place.totals.items in
    let total : ℕ = c.in-Some.total in
    let items : c.push.new.self.items ≡ before ++ total ∷ [] = c.in_ok-push.ensures.items in
    let each : All Small (before ++ total ∷ []) = All-push Small before total c.loop-place.invariant.each (omega arith) in
    let below : length before < length c.args.names.now = omega (arith, c.loop-place.invariant.count) in
    let named : total_line (name_at c.args.names.now c.loop-place.place, total) ≡ total_line (name_at c.args.names.now (length before), total) =
    ap (λ (n : ℕ). total_line (name_at c.args.names.now n, total)) (sym c.loop-place.invariant.count) in
    let line_is : first_line c.loop-place.lines.text ≡ total_line (name_at c.args.names.now (length before), total) =
    sym c.line.ensures ∙ c.in-Some.ensures ∙ ap (λ (name : List ℕ). total_line (name, total)) c.get.ensures ∙ named in
    record {
      count = ap length items ∙ omega (arith, length_push before total, c.loop-place.invariant.count);
      each = All-same Small c.push.new.self.items (before ++ total ∷ []) items each;
      past = GoesPast-push total_line c.args.lines.now c.loop-place.lines c.pass.new.self _ _ (name_at c.args.names.now (length before), total) _
          c.loop-place.invariant.past line_is c.pass.ensures.past (ap (zip c.args.names.now) items ∙ zip-push c.args.names.now before total below);
    }
