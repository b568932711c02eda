use Rattle.std.proofs.Common.{◌<◌, length, arith}
use Rattle.xk_callgraph.proofs.NumberingLemmas.{read_is}
use Rattle.xk_callgraph.proofs.numbering.follow.Goals as goal

pub returns-clause-within : goal.returns-clause-within
returns-clause-within c = λ start old.
    let h : c.args.at < length c.args.reached.now.items = omega arith in
    c.in_ok-found.ensures.within start old
    (old c.args.at c.index-from.result.now (read_is c.args.reached.now.items c.args.at c.index-from.result.now h c.index-from.ensures))

pub returns-clause-found : goal.returns-clause-found
returns-clause-found c = λ same start old.
    let h : c.args.at < length c.args.reached.now.items = omega arith in
    c.in_ok-found.ensures.found same start
    (old c.args.at c.index-from.result.now (read_is c.args.reached.now.items c.args.at c.index-from.result.now h c.index-from.ensures))
