-- a turn of a loop begins inside the code
use Rattle.std.proofs.Common.{◌+◌, ◌<◌, inl, inr, refl, sym, subst, arith}
use Rattle.xk_types.specs.Order.{Has}
use Rattle.xk_types.specs.Walk.{successors}
use Rattle.xk_typestate.proofs.transfer.successors_of.Goals as goal

pub overflow_add-b : goal.overflow_add-b
overflow_add-b c =
    let to = c.in-Next.b + 1 in
    let has : Has (successors c.args.instr.now c.args.at) to = subst (λ i. Has (successors i c.args.at) to) (sym c.in-Next.is) (inr (inl refl)) in
    let inside : to < 65536 = c.requires.inside to has in
    omega arith

pub overflow_add-e : goal.overflow_add-e
overflow_add-e c =
    let to = c.in-ForTo.e + 1 in
    let has : Has (successors c.args.instr.now c.args.at) to = subst (λ i. Has (successors i c.args.at) to) (sym c.in-ForTo.is) (inr (inl refl)) in
    let inside : to < 65536 = c.requires.inside to has in
    omega arith
