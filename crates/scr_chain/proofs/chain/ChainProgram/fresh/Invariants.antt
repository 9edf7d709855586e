use Rattle.std.specs.Prelude.{◌≡◌, ℕ, ◌<◌, Bool, length, slice_index_or}
use Rattle.scr_chain.specs.Chains.{lets_pass}
use Rattle.scr_chain.proofs.chain.ChainProgram.fresh.Given as goal

abbrev pub invariant-loop-code : goal.invariant-loop-code
invariant-loop-code g l = (length l.passes ≡ 256)
    × ((place : ℕ) (d : Bool) → place < l.code → slice_index_or l.passes place d ≡ lets_pass g.A.Program.verdict_names (record { 0 = place }))
