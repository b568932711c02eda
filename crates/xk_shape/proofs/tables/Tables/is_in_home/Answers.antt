-- the one home decides
use Rattle.std.proofs.Common.{ℕ, false, Bool, Option, sym, ap, ◌∙◌}
use Rattle.std.specs.Option.{option_map_or}
use Rattle.xk_types.specs.Blocks.{block_at, same_block}
use Rattle.xk_shape.proofs.HomeTableLemmas.{homes_any}
use Rattle.xk_shape.proofs.UnitLemmas.{nested_of}
use Rattle.xk_shape.proofs.tables.Tables.is_in_home.Goals as goal

pub returns-in-Some : goal.returns-in-Some
returns-in-Some c = λ u has tables.
    let test : Option ℕ → Bool = λ o. option_map_or (λ home. same_block (block_at u c.args.at) (block_at u home)) o false in
    c.is_one_block.ensures u (nested_of u has.orderly) tables
    ∙ ap test (sym c.in-Some.is ∙ c.home.ensures u has.orderly tables)
    ∙ sym (homes_any u has c.args.slot (same_block (block_at u c.args.at)))

pub returns-in-None : goal.returns-in-None
returns-in-None c = λ u has tables.
    let test : Option ℕ → Bool = λ o. option_map_or (λ home. same_block (block_at u c.args.at) (block_at u home)) o false in
    ap test (sym c.in-None.is ∙ c.home.ensures u has.orderly tables)
    ∙ sym (homes_any u has c.args.slot (same_block (block_at u c.args.at)))
