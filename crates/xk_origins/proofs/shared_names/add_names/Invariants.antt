use Rattle.std.proofs.Common.{◌≡◌, ◌||◌, ℕ, List, drop, map}
use Rattle.std.specs.Prelude.{is_some}
use Rattle.xk_tree.specs.Tree.{shared_value}
use Rattle.xk_names.specs.Scope.{find, has}
use Rattle.xk_names.specs.Captures.{shared_texts}
use Rattle.xk_origins.proofs.shared_names.add_names.Given as goal

-- the table has a name, or it is left
abbrev pub invariant-loop-number : goal.invariant-loop-number
invariant-loop-number l =
    (x : List ℕ) → (is_some (find l.table x) || has (shared_texts (map shared_value (drop l.number-index l.shared))) x) ≡ has (shared_texts (map shared_value l.shared)) x
