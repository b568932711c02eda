use Rattle.std.proofs.Common.{length, map}
use Rattle.xk_where_json.proofs.PlainLemmas.{acts_fit, clocks_fit, frames_fit, shared_fit}
use Rattle.xk_where_json.proofs.whole.put_world.Goals as goal

pub put-requires : goal.put-requires
put-requires c =
    let w = c.args.core.now.world in
    acts_fit c.args.places.now c.args.core.now.module_run w (length w.activities) _ c.in_ok-acts.ensures

pub put-requires-2 : goal.put-requires-2
put-requires-2 c =
    let w = c.args.core.now.world in
    clocks_fit w (length w.clocks) _ c.in_ok-clocks.ensures

pub put-requires-3 : goal.put-requires-3
put-requires-3 c =
    let w = c.args.core.now.world in
    frames_fit c.args.places.now c.args.core.now.module_run w (length w.activities) _ c.in_ok-frames.ensures

pub put-requires-4 : goal.put-requires-4
put-requires-4 c =
    shared_fit (map (λ x. x.now) c.args.shared.now) c.cells.result.now (length c.cells.result.now) _ c.in_ok-numbers.ensures
