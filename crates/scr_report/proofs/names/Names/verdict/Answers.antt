use Rattle.std.proofs.Common.{◌≡◌, ◌≢◌, ℕ, ◌<◌, List, [], length, map, get_or, sym, ap, ◌∙◌, below_more, arith}
use Rattle.std.specs.String.{string_bytes}
use Rattle.std.proofs.lemmas.Bool.{both_ways}
use Rattle.std.proofs.lemmas.List.{get_or-map, length-map}
use Rattle.std.proofs.lemmas.Slice.Eq.{bytes_eq-Decides}
use Rattle.scr_report.specs.declared.names.Name.{Name}
use Rattle.scr_report.specs.Text.{name_at}
use Rattle.scr_report.specs.Grammar.{IsFirstOfName}
use Rattle.scr_report.proofs.names.Names.verdict.Goals as goal

-- the bytes of a name
abbrev bytes_of : Name → List ℕ
bytes_of name = string_bytes name.text

first-here : (names others : List (List ℕ)) (text : List ℕ) (place : ℕ) → others ≡ names → place < length others → get_or others place [] ≡ text
    → ((k : ℕ) → k < place → get_or others k [] ≢ text) → IsFirstOfName names place × (name_at names place ≡ text)
first-here names others text place are below here before =
    let here_too : name_at names place ≡ text = ap (λ (ns : List (List ℕ)). name_at ns place) (sym are) ∙ here in (
      record {
        within = omega (arith, ap length are);
        first = λ earlier front same.
            before earlier front (ap (λ (ns : List (List ℕ)). name_at ns earlier) are ∙ same ∙ here_too);
      },
      here_too,
    )

pub returns-then-eq : goal.returns-then-eq
returns-then-eq c =
    let items = c.deref-name-items.result.now in
    let names_are : map bytes_of items ≡ c.args.self.now = ap (map bytes_of) c.deref-name-items.ensures.value ∙ c.self.view_is in
    let at : get_or (map bytes_of items) c.loop-place.place [] ≡ bytes_of c.name-item.result =
    get_or-map bytes_of items c.loop-place.place c.name-item.result [] c.loop-place-test.true ∙ ap bytes_of (sym c.name-item.is) in
    let same : c.as_bytes.result.now ≡ c.args.text.now = (bytes_eq-Decides c.as_bytes.result.now c.args.text.now).0 (sym c.eq.ensures ∙ c.if-eq.true) in
    first-here c.args.self.now (map bytes_of items) c.args.text.now c.loop-place.place names_are
    (omega (arith, length-map items bytes_of, c.loop-place-test.true))
    (at ∙ sym c.as_bytes.ensures.value ∙ same) c.loop-place.invariant

pub loop-place-preserved : goal.loop-place-preserved
loop-place-preserved c =
    let items = c.deref-name-items.result.now in
    let at : get_or (map bytes_of items) c.loop-place.place [] ≡ bytes_of c.name-item.result =
    get_or-map bytes_of items c.loop-place.place c.name-item.result [] c.loop-place-test.true ∙ ap bytes_of (sym c.name-item.is) in
    below_more _ _ c.loop-place.invariant (λ same.
    both_ways c.eq.result c.if-eq.false
    (c.eq.ensures ∙ (bytes_eq-Decides c.as_bytes.result.now c.args.text.now).1 (c.as_bytes.ensures.value ∙ sym at ∙ same)))
