-- A text spells one drop list, or is refused with one cause at one place; and it spells one list of delays.
use Rattle.std.proofs.Common.{◌≡◌, ℕ, ◌<◌, List, [], ◌∷◌, get_or, Result, Ok, Err, arith, sym, ap, ◌∙◌}
use Rattle.std.specs.Result.{IsOk}
use Rattle.std.proofs.lemmas.List.{same_lists}
use Rattle.scr_plan.specs.Spelling.{read_at, place_of, SpellsRanges, IsRefused}
use Rattle.scr_plan.specs.DelaySpelling.{delay_read_at, SpellsDelays}
use Rattle.scr_plan.specs.declared.delays.FrameDelay.{FrameDelay}
use Rattle.scr_plan.specs.declared.drops.DropRange.{DropRange}
use Rattle.scr_plan.specs.declared.reading.DropCause.{DropCause}

Ok-same : {A C : Type 0} (a b : A) (x : Result A C) → x ≡ Ok a → x ≡ Ok b → a ≡ b
Ok-same a b x is_a is_b = cc

Err-same : (a b : DropCause) (x : Result DropRange DropCause) → x ≡ Err a → x ≡ Err b → a ≡ b
Err-same a b x is_a is_b = cc

not_both : (a : DropCause) (b : DropRange) (x : Result DropRange DropCause) → x ≡ Err a → x ≡ Ok b → ⊥
not_both a b x is_a is_b = cc

not_ok : (a : DropCause) (x : Result DropRange DropCause) → x ≡ Err a → IsOk x → ⊥
not_ok a x is_a ok = cc

pub SpellsRanges-same : (text : List ℕ) (a b : List DropRange) → SpellsRanges text a → SpellsRanges text b → a ≡ b
SpellsRanges-same [] a b spells_a spells_b = spells_a ∙ sym spells_b
SpellsRanges-same (byte ∷ text) a b spells_a spells_b =
    same_lists a b (spells_a.count ∙ sym spells_b.count)
    (λ k d within.
    Ok-same (get_or a k d) (get_or b k d) (read_at (byte ∷ text) k) (spells_a.each k d within)
    (spells_b.each k d (omega (arith, spells_a.count, spells_b.count))))

pub SpellsDelays-same : (text : List ℕ) (a b : List FrameDelay) → SpellsDelays text a → SpellsDelays text b → a ≡ b
SpellsDelays-same [] a b spells_a spells_b = spells_a ∙ sym spells_b
SpellsDelays-same (byte ∷ text) a b spells_a spells_b =
    same_lists a b (spells_a.count ∙ sym spells_b.count)
    (λ k d within.
    Ok-same (get_or a k d) (get_or b k d) (delay_read_at (byte ∷ text) k) (spells_a.each k d within)
    (spells_b.each k d (omega (arith, spells_a.count, spells_b.count))))

pub SpellsRanges-not_refused : (text : List ℕ) (ranges : List DropRange) (cause : DropCause) (place : ℕ)
    → SpellsRanges text ranges → IsRefused text cause place → ⊥
SpellsRanges-not_refused [] ranges cause place spells refused = omega (arith, refused.some)
SpellsRanges-not_refused (byte ∷ text) ranges cause place spells refused =
    let d : DropRange = record { first = 0; last = 0; step = 0 } in
    not_both cause (get_or ranges refused.faulty d) (read_at (byte ∷ text) refused.faulty) refused.why
    (spells.each refused.faulty d (omega (arith, spells.count, refused.within)))

-- two refusals are of one piece
same_piece : (text : List ℕ) (cause other : DropCause) (place elsewhere : ℕ) (a : IsRefused text cause place)
    (b : IsRefused text other elsewhere) → a.faulty < b.faulty → ⊥
same_piece text cause other place elsewhere a b first = not_ok cause (read_at text a.faulty) a.why (b.before a.faulty first)

pub IsRefused-same : (text : List ℕ) (cause other : DropCause) (place elsewhere : ℕ) → IsRefused text cause place
    → IsRefused text other elsewhere → (cause ≡ other) × (place ≡ elsewhere)
IsRefused-same text cause other place elsewhere a b =
    let front = same_piece text cause other place elsewhere a b in
    let back = same_piece text other cause elsewhere place b a in
    let at : a.faulty ≡ b.faulty = grind (arith, front, back) in (
      Err-same cause other (read_at text a.faulty) a.why (ap (read_at text) at ∙ b.why),
      a.where_it_stands ∙ ap (place_of text) at ∙ sym b.where_it_stands,
    )
