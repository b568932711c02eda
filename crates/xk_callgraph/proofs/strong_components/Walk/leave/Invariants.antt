use Rattle.std.proofs.Common.{◌≡◌, ◌++◌, ℕ, [], ◌∷◌, vec_len, take}
use Rattle.xk_callgraph.proofs.strong_components.Walk.leave.Given as goal

abbrev pub invariant-loop-member : goal.invariant-loop-member
invariant-loop-member l = record {
  order : l.self.found.order.items ≡ l.fn.self.found.order.items ++ l.method ∷ [];
  numbers : l.self.numbers ≡ l.fn.self.numbers;
  least : l.self.least ≡ l.fn.self.least;
  stops : l.self.stops ≡ l.fn.self.stops;
  given : l.self.given ≡ l.fn.self.given;
  pending : (n : ℕ) × (l.self.pending.items ≡ take n l.fn.self.pending.items);
  components : vec_len l.self.found.components ≡ vec_len l.fn.self.found.components;
}

abbrev pub decreases-loop-member : goal.decreases-loop-member
decreases-loop-member l = vec_len l.self.pending
