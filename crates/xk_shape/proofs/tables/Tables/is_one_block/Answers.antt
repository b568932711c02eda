-- one innermost finish, one block
use Rattle.std.proofs.Common.{eqb, ap, ◌∙◌}
use Rattle.std.specs.Option.{option_eq}
use Rattle.std.proofs.lemmas.Bool.Decides.{same_from_decides}
use Rattle.xk_types.specs.Blocks.{block_at, same_block}
use Rattle.xk_shape.specs.Places.{innermost}
use Rattle.xk_shape.proofs.BlockLemmas.{decides_option, decides_place}
use Rattle.xk_shape.proofs.tables.Tables.is_one_block.Goals as goal

pub returns : goal.returns
returns c = λ u nested tables.
    let one = innermost (block_at u c.args.a) in
    let other = innermost (block_at u c.args.b) in
    c.eq.ensures
    ∙ ap (λ o. option_eq eqb o c.finish_of-2.result) (c.finish_of.ensures u tables)
    ∙ ap (option_eq eqb one) (c.finish_of-2.ensures u tables)
    ∙ same_from_decides (option_eq eqb one other) (same_block (block_at u c.args.a) (block_at u c.args.b)) (decides_option one other) (decides_place u nested c.args.a c.args.b)
