use Rattle.std.proofs.Common.{◌≤◌, length, arith}
use Rattle.scr_replica.proofs.Found.{long_behind, long_before, found_behind, found_last}
use Rattle.scr_replica.proofs.replay.any_row.Goals as goal

pub first_row-requires : goal.first_row-requires
first_row-requires c =
    let few : c.core_of-turn.result ≤ length c.args.cores.now = omega (arith, c.core_of-turn.ensures, c.cores-count.ensures.cores, c.cores-count.ensures.ranges.a_core, c.requires.known.count) in
    long_behind c.args.plan.now c.args.cores.now c.requires.known c.args.place c.requires.of_the_run c.core_of-turn.result few

pub first_row-requires-in-None : goal.first_row-requires-in-None
first_row-requires-in-None c =
    let few : c.core_of-turn.result ≤ length c.args.cores.now = omega (arith, c.core_of-turn.ensures, c.cores-count.ensures.cores, c.cores-count.ensures.ranges.a_core, c.requires.known.count) in
    long_before c.args.plan.now c.args.cores.now c.requires.known c.args.place c.requires.of_the_run c.core_of-turn.result few

pub returns-in-Some : goal.returns-in-Some
returns-in-Some c =
    let few : c.core_of-turn.result ≤ length c.args.cores.now = omega (arith, c.core_of-turn.ensures, c.cores-count.ensures.cores, c.cores-count.ensures.ranges.a_core, c.requires.known.count) in
    let some = c.in-Some.ensures.some in
    found_behind c.args.plan.now c.args.cores.now c.requires.known c.args.place c.requires.of_the_run c.core_of-turn.result few some.0 c.in-Some.row.now some.1 some.2

pub returns-in-None : goal.returns-in-None
returns-in-None c =
    let few : c.core_of-turn.result ≤ length c.args.cores.now = omega (arith, c.core_of-turn.ensures, c.cores-count.ensures.cores, c.cores-count.ensures.ranges.a_core, c.requires.known.count) in
    found_last c.args.plan.now c.args.cores.now c.requires.known c.args.place c.requires.of_the_run c.core_of-turn.result few c.cores-count.ensures.ranges
    c.in-None.ensures.none c.first_row-in-None.result c.first_row-in-None.ensures.some c.first_row-in-None.ensures.none
