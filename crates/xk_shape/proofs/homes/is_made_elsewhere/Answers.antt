-- the first that makes the clock decides
use Rattle.std.proofs.Common.{ℕ, false, not, Option, Some, Bool, cond, ap, ◌∙◌}
use Rattle.std.specs.List.{position}
use Rattle.std.specs.Option.{option_map_or}
use Rattle.std.proofs.lemmas.Option.{slice_get_past}
use Rattle.xk_types.specs.Blocks.{block_at, same_block, makes, takes_clock}
use Rattle.xk_shape.proofs.HomeTableLemmas.{moved}
use Rattle.xk_shape.proofs.homes.is_made_elsewhere.Goals as goal

pub returns : goal.returns
returns c =
    let u = c.args.u.now in
    let d = c.args.slot in
    let of_home : Option ℕ → Bool = λ o. option_map_or (λ home. not (same_block (block_at u c.args.at) (block_at u home))) o false in
    c.is_away.ensures u c.requires.orderly c.requires.tables
    ∙ ap (λ b. of_home (cond b (Some 0) (position (makes d) u.code))) (ap takes_clock (slice_get_past u.params d c.requires.own))
    ∙ moved u d c.args.at c.requires.here c.requires.before
