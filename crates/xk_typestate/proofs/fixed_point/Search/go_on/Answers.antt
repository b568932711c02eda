-- the edges from one stop
use Rattle.std.proofs.Common.{◌≡◌, ℕ, length, Some, refl, ap, arith}
use Rattle.std.proofs.lemmas.Option.{slice_get_read}
use Rattle.xk_types.specs.Code.{UnitValue}
use Rattle.xk_types.specs.Order.{Has}
use Rattle.xk_typestate.specs.Transfer.{places, way_kinds}
use Rattle.xk_types.specs.Walk.{after}
use Rattle.xk_typestate.specs.Search.{CanCome}
use Rattle.xk_typestate.proofs.EdgeLemmas.{way_may, edge_of, edge_place, edge_kind, found_read}
use Rattle.xk_typestate.proofs.SearchLemmas.{searched_done, came_inside, not_behind}
use Rattle.xk_typestate.proofs.ResultLemmas.{ok_by_three}
use Rattle.xk_typestate.proofs.fixed_point.Search.go_on.Goals as goal

pub returns-clause-searched : goal.returns-clause-searched
returns-clause-searched c =
    let m = c.args.m.now in
    let u = c.args.u.now in
    let s = c.args.slot in
    let n = c.args.done in
    let f = c.index.result.now in
    let i = c.index-instr.result.now in
    let old = c.args.self.now in
    let now = c.put_successors.new.self in
    let found = slice_get_read old.found.items (length old.found.items) n f refl c.requires.place c.index.ensures in
    let inside = came_inside m u s c.requires.closed old.found.items n f.stop f.from (c.requires.searched.came n f found) in
    let same = ap (λ (x : UnitValue). x.code) c.u.view_is in
    let as_long : length c.u.inside.code.items ≡ length u.code = ap length same in
    let here = found_read c.u.inside.code.items u.code f.stop.at i same (omega arith) c.index-instr.ensures in
    let lt = c.requires.place in
    let row = after m u i s f.stop.kind in
    let may = way_may i f.stop.kind row c.kinds_left-kinds.result.0 c.kinds_left-kinds.result.1 c.kinds_left-kinds.ensures.on c.kinds_left-kinds.ensures.past in
    let come : (to : ℕ) → Has (places c.successors_of.result) to → CanCome m u s n old to (way_kinds i to c.kinds_left-kinds.result.0 c.kinds_left-kinds.result.1) (Some n) = λ to h. record {
      come = λ k has. (lt, (f, found, edge_of m u s f.stop i to k here ((c.successors_of.ensures.edges to).0 h) ((may to k).0 has)));
      latest = c.requires.searched.recent;
      now = not_behind (Some n);
    }
    in
    ok_by_three _ _ _ _ _ c.put_successors.ensures.grown c.put_successors.ensures.put (c.put_successors.ensures.searched m u s n c.requires.searched come)
    (λ _ grown put so_far. searched_done m u s now n f so_far (grown.found n f found) (omega (arith, grown.more))
    (λ q edge. put q.at ((c.successors_of.ensures.edges q.at).1 (edge_place m u s f.stop q i here edge)) q.kind
    ((may q.at q.kind).1 (edge_kind m u s f.stop q i here edge))))
