-- Entries that are lost, one after another.
use Rattle.std.proofs.Common.{◌≡◌, ℕ, ◌+◌, ◌-◌, ◌≤◌, List, [], ◌∷◌, ◌++◌, length, replicate, max, arith, ap, ◌∙◌, append_assoc}
use Rattle.std.proofs.lemmas.List.{length-append, length-replicate, replicate_more, length_push}
use Rattle.scr_replica.specs.declared.entry.Entry.{Entry}
use Rattle.scr_replica.specs.declared.entry.Entry.TheVariants.{Lost}
use Rattle.scr_replica.specs.Entries.{with_lost}

pub length-with_lost : (number : ℕ) (known : List Entry) → length (with_lost number known) ≡ max (length known) number
length-with_lost number known =
    omega (arith, length-append known (replicate (number - length known) Lost), length-replicate (number - length known) Lost)

-- one more
pub lost_more : (old now new : List Entry) → now ≡ old ++ replicate (length now - length old) Lost → length old ≤ length now
    → new ≡ now ++ Lost ∷ [] → new ≡ old ++ replicate (length new - length old) Lost
lost_more old now new is le push =
    let k : ℕ = length now - length old in
    let more : length new ≡ length now + 1 = ap length push ∙ length_push now Lost in
    let count : k + 1 ≡ length new - length old = omega arith in
    push
    ∙ ap (λ (x : List Entry). x ++ Lost ∷ []) is
    ∙ append_assoc old (replicate k Lost) (Lost ∷ [])
    ∙ ap (λ (x : List Entry). old ++ x) (replicate_more k Lost)
    ∙ ap (λ (n : ℕ). old ++ replicate n Lost) count

-- up to the number
pub lost_all : (number : ℕ) (old now : List Entry) → now ≡ old ++ replicate (length now - length old) Lost
    → number ≤ length now → length now ≤ max (length old) number → length old ≤ length now → now ≡ with_lost number old
lost_all number old now is up few le =
    let count : length now - length old ≡ number - length old = omega arith in
    is ∙ ap (λ (n : ℕ). old ++ replicate n Lost) count
