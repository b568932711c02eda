-- What is told where the steps of a log lead is told of the log.
use Rattle.std.proofs.Common.{◌≡◌, ◌∙◌, ℕ, ℤ, List, Option, ap}
use Rattle.xk_types.specs.declared.world.Entry.{Entry}
use Rattle.xk_types.specs.Code.{ModuleValue}
use Rattle.xk_types.specs.World.{World}
use Rattle.xk_show_events.specs.Events.{PlacesValue}
use Rattle.xk_show_where.specs.declared.progress.Stop.{Stop}
use Rattle.xk_show_where.specs.Progress.{IsTold, step_behind}
use Rattle.xk_where_json.specs.Standings.{standings_value, where_value}

pub told_value : (p : PlacesValue) (shared : List (List ℕ)) (n m : ModuleValue) (args : List ℤ) (log : List Entry) (w : World) (s : Option Stop)
    (ends : Option ℕ) → n ≡ m → IsTold m args log w s
    → standings_value p shared n w s ends ≡ where_value p shared m args log ends
told_value p shared n m args log w s ends same is =
    ap (λ (k : ModuleValue). standings_value p shared k w s ends) same
    ∙ ap (λ (t : Option Stop). standings_value p shared m w t ends) is.stop
    ∙ ap (λ (v : World). standings_value p shared m v (step_behind 0 v.steps log) ends) is.world
