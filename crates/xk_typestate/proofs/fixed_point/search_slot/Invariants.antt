-- all before this place are done, and the entries are seen
use Rattle.std.proofs.Common.{◌-◌, ◌*◌, length}
use Rattle.xk_typestate.specs.Search.{IsSearched, HasEntries, HasBegun}
use Rattle.xk_typestate.proofs.fixed_point.search_slot.Given as goal

abbrev pub invariant-loop-done : goal.invariant-loop-done
invariant-loop-done l = record {
  searched : IsSearched l.m l.u l.slot l.search l.done;
  entries : HasEntries l.u l.slot l.search;
  begun : HasBegun l.u l.slot l.search;
}

abbrev pub decreases-loop-done : goal.decreases-loop-done
decreases-loop-done l = 5 * length l.u.code - l.done
