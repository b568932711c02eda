-- the one home decides
use Rattle.std.proofs.Common.{ℕ, not, Bool, List, sym, ◌∙◌}
use Rattle.xk_types.specs.Blocks.{block_at, same_block}
use Rattle.xk_shape.proofs.HomeTableLemmas.{homes_any}
use Rattle.xk_shape.proofs.tables.Tables.is_elsewhere.Goals as goal

pub returns : goal.returns
returns c = λ u has tables.
    let test : List ℕ → Bool = λ h. not (same_block (block_at u c.args.at) h) in
    c.is_away.ensures u has.orderly tables ∙ sym (homes_any u has c.args.slot test)
