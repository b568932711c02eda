use Rattle.std.proofs.Common.{ℕ, List, Bor, map}
use Rattle.xk_show_events.specs.Events.{places_of}
use Rattle.xk_show_lanes.proofs.KeptLemmas.{lanes_named}
use Rattle.xk_show_lanes.proofs.named_lanes.lanes_with_names.Goals as goal

pub returns-clause-text : goal.returns-clause-text
returns-clause-text c =
    let e = c.args.legal.now in
    let p = places_of c.args.text.now c.args.origins.now in
    let shared = map {A = Bor (List ℕ)} {B = List ℕ} (λ x. x.now) c.args.shared.now in
    let columns = c.in_ok-columns.columns in
    lanes_named p c.in_ok-places.places shared c.args.window e.module.now e.log.now e.core.now.world columns.names columns.grid c.in_ok-text.text.items
    c.in_ok-places.ensures c.in_ok-columns.ensures.names c.in_ok-columns.ensures.grid c.in_ok-text.ensures
