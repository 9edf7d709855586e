-- Lists of one view, and of two.
use Rattle.std.proofs.Common.{◌≡◌, ℕ, zero, suc, ◌⊎◌, [], ◌∷◌, sym, refl, inl, inr}
use mathlib.Core.Option.{some, some-injective, some-ne-none}
use lib.ListN.{get_elem?}

module _ {V : Type 0} where
  pub one_there : (a v : V) (id : ℕ) → get_elem? (a ∷ []) id ≡ some v → (id ≡ 0) × (a ≡ v)
  one_there a v zero e = (refl, some-injective a v e)
  one_there a v (suc id) e = absurd (some-ne-none v (sym e))

  pub two_there : (a b v : V) (id : ℕ) → get_elem? (a ∷ b ∷ []) id ≡ some v → ((id ≡ 0) × (a ≡ v)) ⊎ ((id ≡ 1) × (b ≡ v))
  two_there a b v zero e = inl (refl, some-injective a v e)
  two_there a b v (suc zero) e = inr (refl, some-injective b v e)
  two_there a b v (suc (suc id)) e = absurd (some-ne-none v (sym e))
