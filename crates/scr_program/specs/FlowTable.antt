-- What a contract sees of a flow table.
use Rattle.std.specs.Prelude.{ℕ, List, Option, refl}
use Rattle.std.specs.Coded.{Coded, code_by, coded×, coded_list, coded_option, coded_ℕ}

-- how many flows there may be, the flows with the most recently used first, the key that memory was taken for, and how
-- many more keys, whichever they are, memory was taken for
pub record Table (K V : Type 0) : Type 0 where
  pub flows : ℕ
  pub list : List (K × V)
  pub ready : Option K
  pub spare : ℕ

module _ {K V : Type 0} where
  abbrev pub table_code : Coded K → Coded V → Coded (Table K V)
  table_code key entry = code_by (ℕ × (List (K × V) × (Option K × ℕ))) (coded× coded_ℕ (coded× (coded_list (coded× key entry)) (coded× (coded_option key) coded_ℕ))) (λ t. (t.flows, (t.list, (t.ready, t.spare)))) (λ p. record { flows = p.0; list = p.1.0; ready = p.1.1.0; spare = p.1.1.1 }) (λ _. refl)
