use Rattle.std.proofs.Common.{◌≡◌, Some, length, sym, ap, ◌∙◌, arith}
use Rattle.xk_finishes.proofs.counters.Counters.add.Goals as goal

pub index_mut-requires : goal.index_mut-requires
index_mut-requires c =
    let owned : c.args.finish.owner ≡ Some c.owner-in-Some.inside.0 = sym c.owner.ensures ∙ c.in-Some.is ∙ ap Some (sym c.owner-in-Some.view_is) in
    omega (arith, (c.requires.there c.owner-in-Some.inside.0 owned).0, ap length c.self.view_is)
