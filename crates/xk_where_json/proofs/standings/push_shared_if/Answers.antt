use Rattle.std.proofs.Common.{map}
use Rattle.std.specs.Prelude.{option_map}
use Rattle.serde_json.specs.View.{view}
use Rattle.xk_where_json.proofs.ItemLemmas.{cell_past, cell_there}
use Rattle.xk_where_json.proofs.standings.push_shared_if.Goals as goal

pub returns-in-None : goal.returns-in-None
returns-in-None c =
    cell_past (option_map (λ x. x.now) c.args.name) c.args.number c.args.cells.now (map view c.args.values.now.items) c.in-None.ensures.lookup.3

pub returns-in-Some : goal.returns-in-Some
returns-in-Some c =
    cell_there c.push_shared_value.result (option_map (λ x. x.now) c.args.name) c.args.number c.args.cells.now c.in-Some.value.now
    (map view c.args.values.now.items) (map view c.push_shared_value.new.values.items) c.in-Some.ensures.lookup.3.0 c.in-Some.ensures.lookup.1
    c.push_shared_value.ensures
