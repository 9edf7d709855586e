-- Connections that are the same are one. (What shows a law of an `impl` has to stand in its crate's own specs/.)
use Rattle.std.specs.Prelude.{◌≡◌, ℕ, true, ◌==◌}
use Rattle.std.proofs.Common.{ap, ◌∙◌}
use Rattle.std.proofs.lemmas.Bool.{eqb-true}
use Rattle.scr_program.specs.Keys.{is_same_address}
use Rattle.scr_program.specs.Same.{both, address_is_one}
use Rattle.scr_program.specs.declared.fields.Address.{Address}
use Rattle.scr_conn.specs.declared.endpoint.Connection.{Connection}
use Rattle.scr_conn.specs.declared.endpoint.Endpoint.{Endpoint}
use Rattle.scr_conn.specs.Endpoints.{is_same_endpoint, is_same_connection}

-- endpoints that are the same are one
pub endpoint_is_one : (a b : Endpoint) → is_same_endpoint a b ≡ true → a ≡ b
endpoint_is_one a b h =
    let parts = both (is_same_address a.address b.address) (a.port == b.port) h in
    let address : a.address ≡ b.address = address_is_one a.address b.address parts.0 in
    let port : a.port ≡ b.port = eqb-true a.port b.port parts.1 in
    let at : Address → ℕ → Endpoint = λ x p. record { address = x; port = p } in
    ap (λ x. at x a.port) address ∙ ap (λ p. at b.address p) port

-- connections that are the same are one
pub connection_is_one : (a b : Connection) → is_same_connection a b ≡ true → a ≡ b
connection_is_one a b h =
    let parts = both (is_same_endpoint a.low b.low) (is_same_endpoint a.high b.high) h in
    let low : a.low ≡ b.low = endpoint_is_one a.low b.low parts.0 in
    let high : a.high ≡ b.high = endpoint_is_one a.high b.high parts.1 in
    let at : Endpoint → Endpoint → Connection = λ x y. record { low = x; high = y } in
    ap (λ x. at x a.high) low ∙ ap (λ y. at b.low y) high
