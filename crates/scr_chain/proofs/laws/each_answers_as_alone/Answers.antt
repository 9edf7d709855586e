use Rattle.scr_chain.proofs.OverFrames.{first-verdict, second-verdict, first-count, second-count, chain-verdict, chain-count}
use Rattle.scr_chain.proofs.laws.each_answers_as_alone.Goals as goal

pub returns-clause-first : goal.returns-clause-first
returns-clause-first c = λ first second before arrival. first-verdict first second before arrival

pub returns-clause-second : goal.returns-clause-second
returns-clause-second c = λ first second before arrival. second-verdict first second before arrival

pub returns-clause-first_flows : goal.returns-clause-first_flows
returns-clause-first_flows c = λ first second arrivals. first-count first second arrivals

pub returns-clause-second_flows : goal.returns-clause-second_flows
returns-clause-second_flows c = λ first second arrivals. second-count first second arrivals

pub returns-clause-chain : goal.returns-clause-chain
returns-clause-chain c = λ first second before arrival. chain-verdict first second before arrival

pub returns-clause-chain_flows : goal.returns-clause-chain_flows
returns-clause-chain_flows c = λ first second arrivals. chain-count first second arrivals
