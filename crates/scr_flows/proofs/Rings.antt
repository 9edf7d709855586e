-- What is left of a ring where a place is taken out, or is put in front.
use Rattle.std.proofs.Common.{◌≡◌, ◌≢◌, ℕ, ◌+◌, ◌-◌, ◌<◌, List, [], ◌∷◌, ◌++◌, length, reverse, slice_index, slice_set, sym, ap, ◌∙◌, subst, arith, Contains, inl, inr, append_assoc, length-append}
use Rattle.std.proofs.lemmas.List.{get_or-set_same, length-set, reverse-append}
use Rattle.std.proofs.lemmas.List.Elements.{Contains-append_left, Contains-append_right}
use Rattle.scr_flows.specs.Order.{walk}
use Rattle.scr_flows.specs.Ring.{first_or, last_or, Leads, IsApart, IsRing}
use Rattle.scr_flows.proofs.Elements.{Contains-head, Contains-tail, Contains-cons, Contains-with, Contains-reverse, first_or-reverse, last_or-reverse, apart-without, apart-reverse}
use Rattle.scr_flows.proofs.Leads.{walk-leads, length-walk, last_or-in, first_or-in, leads-first, leads-at, leads-other, leads-from, leads-without, leads-push}

module _ {older newer : List ℕ} {end : ℕ} {places : List ℕ} (ring : IsRing older newer end places) where
  pub end-absent : Contains places end → ⊥
  end-absent c = let less = ring.below end c in omega arith

  -- the bound and the places are within the links
  pub within : (p : ℕ) → Contains (end ∷ places) p → p < end + 1
  within p c = elim (Contains-cons end places p c) [
    | inl e ↦ omega arith
    | inr d ↦ let less = ring.below p d in omega arith
  ]

  pub ring-first : slice_index older end ≡ first_or places end
  ring-first = leads-first older end places end ring.forth

  pub ring-last : slice_index newer end ≡ last_or end places
  ring-last = leads-first newer end (reverse places) end ring.back ∙ first_or-reverse places end

  within-back : (p : ℕ) → Contains (end ∷ reverse places) p → p < length newer
  within-back p c = elim (Contains-cons end (reverse places) p c) [
    | inl e ↦ subst (λ n. p < n) (sym ring.newer_len) (omega arith)
    | inr d ↦ subst (λ n. p < n) (sym ring.newer_len) (within p (Contains-tail end places p (Contains-reverse places p d)))
  ]

  apart-back : IsApart (end ∷ reverse places)
  apart-back = (λ c. end-absent (Contains-reverse places end c), apart-reverse places ring.apart)

  module _ (at : ℕ) (below : at < end) (absent : Contains places at → ⊥) (fits : length places < end) where
    other : at ≢ end
    other e = omega (arith, e, below)

    abbrev first : ℕ
    first = slice_index older end

    put-forth : Leads (slice_set (slice_set older at first) end at) end (at ∷ places) end
    put-forth =
        let wide = ring.older_len in
        let long = length-set older at first in (
          get_or-set_same (slice_set older at first) end at 0 (omega arith),
          leads-other (slice_set older at first) end at at places end other end-absent (leads-from older end places at end (omega arith) absent ring.forth),
        )

    put-back : Leads (slice_set (slice_set newer at end) first at) end (reverse (at ∷ places)) end
    put-back =
        let wide = ring.newer_len in
        let pushed = leads-push newer end (reverse places) at end within-back (omega arith) apart-back
        (λ c. elim (Contains-cons end (reverse places) at c) [ inl e ↦ other (sym e) | inr d ↦ absent (Contains-reverse places at d) ]) ring.back in
        let is : last_or end (reverse places) ≡ first = last_or-reverse places end ∙ sym ring-first in
        subst (λ l. Leads (slice_set (slice_set newer at end) first at) end l end) (sym (reverse-append (at ∷ []) places))
        (subst (λ p. Leads (slice_set (slice_set newer at end) p at) end (reverse places ++ at ∷ []) end) is pushed)

    pub ring-put : IsRing (slice_set (slice_set older at first) end at) (slice_set (slice_set newer at end) first at) end (at ∷ places)
    ring-put = record {
      older_len = length-set (slice_set older at first) end at ∙ length-set older at first ∙ ring.older_len;
      newer_len = length-set (slice_set newer at end) first at ∙ length-set newer at end ∙ ring.newer_len;
      forth = put-forth;
      back = put-back;
      apart = (absent, ring.apart);
      below = λ p c. elim (Contains-cons at places p c) [ inl e ↦ subst (λ n. n < end) e below | inr d ↦ ring.below p d ];
      fits = omega arith;
    }

module _ {older newer : List ℕ} {end : ℕ} (before : List ℕ) (at : ℕ) (after : List ℕ) (ring : IsRing older newer end (before ++ at ∷ after)) where
  flipped : reverse (before ++ at ∷ after) ≡ reverse after ++ at ∷ reverse before
  flipped = reverse-append before (at ∷ after) ∙ ap (λ l. l ++ reverse before) (reverse-append (at ∷ []) after) ∙ append_assoc (reverse after) (at ∷ []) (reverse before)

  back : Leads newer end (reverse after ++ at ∷ reverse before) end
  back = subst (λ l. Leads newer end l end) flipped ring.back

  older-at : slice_index older at ≡ first_or after end
  older-at = leads-at older end before at after end ring.forth

  newer-at : slice_index newer at ≡ last_or end before
  newer-at = leads-at newer end (reverse after) at (reverse before) end back ∙ first_or-reverse before end

  take-forth : Leads (slice_set older (slice_index newer at) (slice_index older at)) end (before ++ after) end
  take-forth =
      let wide : (p : ℕ) → Contains (end ∷ before) p → p < length older =
      λ p c. subst (λ n. p < n) (sym ring.older_len) (within ring p (Contains-append_left (end ∷ before) (at ∷ after) p c)) in
      rw (newer-at, older-at) (leads-without older end before at after end wide (end-absent ring, ring.apart) ring.forth)

  take-back : Leads (slice_set newer (slice_index older at) (slice_index newer at)) end (reverse (before ++ after)) end
  take-back =
      let wide : (p : ℕ) → Contains (end ∷ reverse after) p → p < length newer =
      λ p c. within-back ring p (subst (λ l. Contains (end ∷ l) p) (sym flipped) (Contains-append_left (end ∷ reverse after) (at ∷ reverse before) p c)) in
      let apart : IsApart (end ∷ (reverse after ++ at ∷ reverse before)) = subst (λ l. IsApart (end ∷ l)) flipped (apart-back ring) in
      let over : slice_index older at ≡ last_or end (reverse after) = older-at ∙ sym (last_or-reverse after end) in
      let under : slice_index newer at ≡ first_or (reverse before) end = newer-at ∙ sym (first_or-reverse before end) in
      rw (over, under, reverse-append before after) (leads-without newer end (reverse after) at (reverse before) end wide apart back)

  pub ring-taken : IsRing (slice_set older (slice_index newer at) (slice_index older at)) (slice_set newer (slice_index older at) (slice_index newer at)) end (before ++ after)
  ring-taken = record {
    older_len = length-set older (slice_index newer at) (slice_index older at) ∙ ring.older_len;
    newer_len = length-set newer (slice_index older at) (slice_index newer at) ∙ ring.newer_len;
    forth = take-forth;
    back = take-back;
    apart = apart-without before at after ring.apart;
    below = λ p c. ring.below p (Contains-with before at after p c);
    fits = (let was = ring.fits in omega (arith, length-append before after, length-append before (at ∷ after)));
  }

  -- the neighbours are within the links
  pub older-at-within : slice_index older at < end + 1
  older-at-within = rw older-at (elim (Contains-cons end after (first_or after end) (first_or-in after end)) [
    | inl e ↦ within ring _ (subst (Contains (end ∷ (before ++ at ∷ after))) e (Contains-head end (before ++ at ∷ after)))
    | inr d ↦ within ring _ (Contains-tail end (before ++ at ∷ after) _ (Contains-append_right before (at ∷ after) _ (Contains-tail at after _ d)))
  ])

  pub newer-at-within : slice_index newer at < end + 1
  newer-at-within = rw newer-at (within ring _ (Contains-append_left (end ∷ before) (at ∷ after) _ (last_or-in end before)))

-- the same where a walk tells the places: it goes through the new ones
module _ {older newer : List ℕ} {end : ℕ} {places : List ℕ} (ring : IsRing older newer end places) (count : ℕ) (walked : walk older end count ≡ places) where
  met : count ≡ length places
  met = sym (length-walk older end count) ∙ ap (λ (l : List ℕ). length l) walked

  pub first-within : (first : ℕ) → first ≡ slice_index older end → first < end + 1
  first-within first is = rw (is, ring-first ring) (within ring _ (first_or-in places end))

  module _ (at first : ℕ) (below : at < end) (absent : Contains places at → ⊥) (fits : length places < end) (is : first ≡ slice_index older end) (more : ℕ) (e : more ≡ count + 1) where
    put : IsRing (slice_set (slice_set older at first) end at) (slice_set (slice_set newer at end) first at) end (at ∷ places)
    put = subst (λ f. IsRing (slice_set (slice_set older at f) end at) (slice_set (slice_set newer at end) f at) end (at ∷ places)) (sym is) (ring-put ring at below absent fits)

    pub walk-put : walk (slice_set (slice_set older at first) end at) end more ≡ at ∷ places
    walk-put =
        let all = put in
        let long : more ≡ length (at ∷ places) = omega (arith, e, met) in
        ap (walk (slice_set (slice_set older at first) end at) end) long ∙ walk-leads _ end (at ∷ places) end all.forth

    pub ring-put-walk : IsRing (slice_set (slice_set older at first) end at) (slice_set (slice_set newer at end) first at) end (walk (slice_set (slice_set older at first) end at) end more)
    ring-put-walk = subst (IsRing (slice_set (slice_set older at first) end at) (slice_set (slice_set newer at end) first at) end) (sym walk-put) put

  module _ (before : List ℕ) (at : ℕ) (after : List ℕ) (cut : places ≡ before ++ at ∷ after) (o n : ℕ) (o_is : o ≡ slice_index older at) (n_is : n ≡ slice_index newer at) where
    cut-ring : IsRing older newer end (before ++ at ∷ after)
    cut-ring = subst (IsRing older newer end) cut ring

    pub older-within : o < end + 1
    older-within = subst (λ p. p < end + 1) (sym o_is) (older-at-within before at after cut-ring)

    pub newer-within : n < end + 1
    newer-within = subst (λ p. p < end + 1) (sym n_is) (newer-at-within before at after cut-ring)

    module _ (less : ℕ) (e : less ≡ count - 1) where
      taken : IsRing (slice_set older n o) (slice_set newer o n) end (before ++ after)
      taken = subst (λ m. IsRing (slice_set older m o) (slice_set newer o m) end (before ++ after)) (sym n_is)
          (subst (λ m. IsRing (slice_set older (slice_index newer at) m) (slice_set newer m (slice_index newer at)) end (before ++ after)) (sym o_is) (ring-taken before at after cut-ring))

      pub walk-taken : walk (slice_set older n o) end less ≡ before ++ after
      walk-taken =
          let all = taken in
          let was : count ≡ length (before ++ at ∷ after) = met ∙ ap (λ (l : List ℕ). length l) cut in
          let long : less ≡ length (before ++ after) = omega (arith, e, was, length-append before after, length-append before (at ∷ after)) in
          ap (walk (slice_set older n o) end) long ∙ walk-leads _ end (before ++ after) end all.forth

      pub ring-taken-walk : IsRing (slice_set older n o) (slice_set newer o n) end (walk (slice_set older n o) end less)
      ring-taken-walk = subst (IsRing (slice_set older n o) (slice_set newer o n) end) (sym walk-taken) taken
