use Rattle.scr_run.proofs.commands.run_before.Goals as goal

pub returns-in-Ddos-clause-ends : goal.returns-in-Ddos-clause-ends
returns-in-Ddos-clause-ends g c = rw c.in-Ddos.is c.run_chain.ensures.ends

pub returns-in-Heavy-clause-ends : goal.returns-in-Heavy-clause-ends
returns-in-Heavy-clause-ends g c = rw c.in-Heavy.is c.run_chain-in-Heavy.ensures.ends

pub returns-in-Bucket-clause-ends : goal.returns-in-Bucket-clause-ends
returns-in-Bucket-clause-ends g c = rw c.in-Bucket.is c.run_chain-in-Bucket.ensures.ends

pub returns-in-Knock-clause-ends : goal.returns-in-Knock-clause-ends
returns-in-Knock-clause-ends g c = rw c.in-Knock.is c.run_chain-in-Knock.ensures.ends

pub returns-in-Conn-clause-ends : goal.returns-in-Conn-clause-ends
returns-in-Conn-clause-ends g c = rw c.in-Conn.is c.run_chain-in-Conn.ensures.ends
