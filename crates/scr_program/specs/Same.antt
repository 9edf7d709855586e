-- Keys that are the same are one. (What shows a law of an `impl` has to stand in its crate's own specs/.)
use Rattle.std.specs.Prelude.{◌≡◌, ℕ, Bool, true, false, ◌&&◌, ◌==◌}
use Rattle.std.proofs.Common.{ap, ◌∙◌}
use Rattle.std.proofs.lemmas.Bool.{eqb-true}
use Rattle.scr_program.specs.declared.fields.Address.{Address}
use Rattle.scr_program.specs.declared.key.FiveTuple.{FiveTuple}
use Rattle.scr_program.specs.Keys.{is_same_address, is_same_tuple}

-- two tests that hold together
pub both : (p q : Bool) → (p && q) ≡ true → (p ≡ true) × (q ≡ true)
both true q h = (cc, h)
both false q h = cc

-- addresses that are the same are one
pub address_is_one : (a b : Address) → is_same_address a b ≡ true → a ≡ b
address_is_one a b h =
    let parts = both (a.family == b.family) (a.value == b.value) h in
    let family : a.family ≡ b.family = eqb-true a.family b.family parts.0 in
    let value : a.value ≡ b.value = eqb-true a.value b.value parts.1 in
    let at : ℕ → ℕ → Address = λ f v. record { family = f; value = v } in
    ap (λ f. at f a.value) family ∙ ap (λ v. at b.family v) value

-- five-tuples that are the same are one
pub tuple_is_one : (a b : FiveTuple) → is_same_tuple a b ≡ true → a ≡ b
tuple_is_one a b h =
    let first = both (is_same_address a.source b.source) _ h in
    let second = both (is_same_address a.destination b.destination) _ first.1 in
    let third = both (a.source_port == b.source_port) _ second.1 in
    let fourth = both (a.destination_port == b.destination_port) (a.protocol == b.protocol) third.1 in
    let e0 : a.source ≡ b.source = address_is_one a.source b.source first.0 in
    let e1 : a.destination ≡ b.destination = address_is_one a.destination b.destination second.0 in
    let e2 : a.source_port ≡ b.source_port = eqb-true a.source_port b.source_port third.0 in
    let e3 : a.destination_port ≡ b.destination_port = eqb-true a.destination_port b.destination_port fourth.0 in
    let e4 : a.protocol ≡ b.protocol = eqb-true a.protocol b.protocol fourth.1 in
    let at : Address → Address → ℕ → ℕ → ℕ → FiveTuple = λ s d sp dp p. record { source = s; destination = d; source_port = sp; destination_port = dp; protocol = p } in
    ap (λ s. at s a.destination a.source_port a.destination_port a.protocol) e0
    ∙ ap (λ d. at b.source d a.source_port a.destination_port a.protocol) e1
    ∙ ap (λ sp. at b.source b.destination sp a.destination_port a.protocol) e2
    ∙ ap (λ dp. at b.source b.destination b.source_port dp a.protocol) e3
    ∙ ap (λ p. at b.source b.destination b.source_port b.destination_port p) e4
