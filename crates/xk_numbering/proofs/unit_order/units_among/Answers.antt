use Rattle.std.proofs.Common.{ℕ, List, slice_get, ap, sym, ◌∙◌}
use Rattle.xk_tree.specs.Program.{tree_value}
use Rattle.xk_numbering.proofs.PartGraphLemmas.{order_within}
use Rattle.xk_numbering.proofs.unit_order.units_among.Goals as goal

pub parts_at-requires : goal.parts_at-requires
parts_at-requires c = λ k i e.
    let there = ap (λ (l : List ℕ). slice_get l k) (sym c.deref.ensures.value) ∙ e in
    order_within (tree_value c.args.tree.now) c.args.found.now c.in_ok-order.order.items c.requires.scoped c.requires.parts c.in_ok-order.ensures.order k i there
