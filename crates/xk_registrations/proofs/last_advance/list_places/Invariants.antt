use Rattle.std.proofs.Common.{◌≡◌, ◌≤◌, ◌==◌, filter}
use Rattle.std.specs.Prelude.{slice_index_or}
use Rattle.std.specs.Vec.{vec_capacity}
use Rattle.xk_collections.specs.NumberSets.{numbers_from}
use Rattle.xk_registrations.proofs.last_advance.list_places.Given as goal

-- those so far
abbrev pub invariant-loop-place : goal.invariant-loop-place
invariant-loop-place l = record {
  so_far : l.list.items ≡ filter (λ k. slice_index_or l.numbers k 0 == l.number) (numbers_from 0 l.place);
  room : vec_capacity l.fn.list ≤ vec_capacity l.list;
}
