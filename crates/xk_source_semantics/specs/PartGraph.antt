-- What the parts of a program run, by numbers. This project's own.
use Rattle.std.specs.Prelude.{◌≡◌, ℕ, List, [], ◌∷◌, ◌++◌, map, length, Some, slice_get, unwrap_or}
use Rattle.xk_callgraph.specs.CallGraph.{AreReached}
use Rattle.xk_callgraph.specs.TopologicalOrder.{AreLeast, IsInOrder, IsOnce}
use Rattle.xk_tree.specs.Tree.{TreeValue}
use Rattle.xk_source_semantics.specs.Parts.{Part, Run, opening, parts, part_runs, place_of}

-- what each part runs, and one more, which runs nothing, for all that aren't there
abbrev pub graph_by : (Run → ℕ) → List Part → List (List ℕ)
graph_by place ps = map (λ p. map place (part_runs p)) ps ++ [] ∷ []

abbrev pub place_or_last : List Part → Run → ℕ
place_or_last ps r = unwrap_or (place_of ps r) (length ps)

abbrev pub graph : List Part → List (List ℕ)
graph ps = graph_by (place_or_last ps) ps

-- The places of the parts that have units, in the order of these: `main`, and all that are run from it, each once and behind those that run it.
-- Of those that may be next the first in the text is.
pub record IsOrder (t : TreeValue) (order : List ℕ) : Type 0 where
  pub start : ℕ
  pub begins : place_of (parts t) opening ≡ Some start
  pub first : slice_get order 0 ≡ Some start
  pub reached : AreReached (graph (parts t)) start order
  pub later : IsInOrder (graph (parts t)) order
  pub once : IsOnce order
  pub least : AreLeast (graph (parts t)) start order
