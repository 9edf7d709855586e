use Rattle.std.proofs.Common.{◌≡◌, ℕ, suc, List, [], ◌∷◌, ◌++◌, length, map, drop, Option, Some, None, refl, sym, ap, ◌∙◌, append_assoc, arith}
use Rattle.std.proofs.lemmas.List.{length_push}
use Rattle.std.specs.Option.{option_to_list}
use Rattle.std.specs.String.{string_bytes}
use Rattle.std.specs.Vec.Iter.{into_iter_items}
use Rattle.scr_cli.proofs.arguments.words_behind_name.Goals as goal

-- the first of a list was taken, where there was one
behind_first : {X : Type 0} (f : X → List ℕ) (taken : Option X) (old new : List X) → old ≡ option_to_list taken ++ new
    → (taken ≡ None → length old ≡ 0) → drop 1 (map f old) ≡ map f new
behind_first f None [] new parts none = ap (map f) parts
behind_first f None (x ∷ old) new parts none =
    let longer : length (x ∷ old) ≡ suc (length old) = refl in
    absurd (omega (arith, none refl))
behind_first f (Some x) old new parts none = ap (λ items. drop 1 (map f items)) parts

-- one word more
one_more : {X : Type 0} (f : X → List ℕ) (all words words' : List (List ℕ)) (rest rest' : List X) (x : X) (word : List ℕ)
    → all ≡ words ++ map f rest → rest ≡ x ∷ rest' → words' ≡ words ++ word ∷ [] → word ≡ f x → all ≡ words' ++ map f rest'
one_more f all words words' rest rest' x word so_far parts put same =
    so_far ∙ ap (λ items. words ++ map f items) parts ∙ ap (λ w. words ++ w ∷ map f rest') (sym same)
    ∙ sym (append_assoc words (word ∷ []) (map f rest')) ∙ ap (λ items. items ++ map f rest') (sym put)

pub loop-argument-init : goal.loop-argument-init
loop-argument-init c = record {
  words = behind_first string_bytes c.next-name.result (into_iter_items c.args.all) (into_iter_items c.next-name.new.self) c.next-name.ensures.items
      (λ none. (let cases = rw none at c.next-name.ensures.cases in omega (arith, cases.0, c.args.all.rest.ok.0)))
      ∙ ap (λ words. words ++ map string_bytes (into_iter_items c.next-name.new.self)) (sym c.new-words.ensures.items);
  few = omega (arith, ap length c.new-words.ensures.items);
}

pub loop-argument-preserved : goal.loop-argument-preserved
loop-argument-preserved c = record {
  words = one_more string_bytes _ c.loop-argument.words.items c.put_word.new.words.items (into_iter_items c.loop-argument.all) (into_iter_items c.next.new.self)
      c.in-Some.argument c.deref.result.now c.loop-argument.invariant.words c.in-Some.ensures.items c.in_ok-put_word.ensures c.deref.ensures;
  few = omega (arith, ap length c.in_ok-put_word.ensures, length_push c.loop-argument.words.items c.deref.result.now, c.if-len-ge-MOST_WORDS.false, c.len.ensures);
}
