use Rattle.std.proofs.Common.{◌≡◌, List, IfOk, subst}
use Rattle.xk_show_names.specs.Accounts.{seen_accounts}
use Rattle.xk_races_json.specs.declared.pairs.Pair.{Pair}
use Rattle.xk_races_json.proofs.PairLemmas.{same_pairs}
use Rattle.xk_races_json.proofs.pairs.pairs_in.Goals as goal

pub returns : goal.returns
returns c =
    let e = c.args.ended.now in
    subst (λ (t : List Pair). IfOk c.pairs_of.result (λ v. v.items ≡ t))
    (same_pairs c.in_ok-steps.steps (seen_accounts e.module.now e.core.world.arguments e.log.items) c.args.races.now c.in_ok-steps.ensures)
    c.pairs_of.ensures
