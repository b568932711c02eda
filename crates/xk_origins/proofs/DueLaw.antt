-- The law of the contract.
use Rattle.std.proofs.Common.{ℕ, ◌≤◌, List, length}
use Rattle.xk_types.specs.Code.{ModuleValue}
use Rattle.xk_types.specs.World.{World, opening}
use Rattle.xk_types.specs.Step.{step}
use Rattle.xk_types.specs.Schedule.{Leads}
use Rattle.xk_tree.specs.AsyncOffsets.{HasBodiesApart}
use Rattle.xk_tree.specs.Tree.{TreeValue}
use Rattle.xk_names.specs.WellScoped.{IsScoped}
use Rattle.xk_source_semantics.specs.Compilation.{IsCompiled}
use Rattle.xk_source_semantics.specs.Meaning.{moments}
use Rattle.xk_law_compiler.proofs.SimulationLaw.{made_follows}
use Rattle.xk_law_compiler.proofs.MeansItsSourceLaw.{compiled_made, whole_of}
use Rattle.xk_origins.specs.Due.{HasRunBeside}
use Rattle.xk_origins.proofs.DueLemmas.{stand_beside}

pub runs_beside : (t : TreeValue) (m : ModuleValue) → IsScoped t → HasBodiesApart t → length m.units ≤ 1024 → (c : IsCompiled t m)
    → (list : List ℕ) (w : World) → Leads m list w → HasRunBeside t m c.units (moments (step m) list (opening m w.arguments)) w
runs_beside t m scoped apart few c list w leads =
    let r = made_follows (whole_of t m c) (compiled_made t m scoped apart few c) list w leads in
    record {
      run = record { list = r.list; last = r.last; goes = r.goes; same = r.same; ends = r.ends };
      stand = stand_beside t m c w.activities r.last.activities r.related.activities;
    }
