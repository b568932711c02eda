-- The instruction that an activity stands at, in a world with its finishes.
use Rattle.std.proofs.Common.{◌≡◌, ℕ, ◌<◌, List, length, ap, ◌∙◌, arith}
use Rattle.std.specs.Prelude.{option_and_then}
use Rattle.std.proofs.lemmas.Option.{slice_get-get_or}
use Rattle.xk_types.specs.Code.{ModuleValue}
use Rattle.xk_types.specs.World.{Activity, World, instruction_at}
use Rattle.xk_finishes.specs.Tree.{NodeValue}
use Rattle.xk_activity.specs.Activities.{act_at, nobody}
use Rattle.xk_law_commute.specs.Conflicts.{next_instruction}
use Rattle.xk_core.specs.FinishView.{with_nodes, with_finishes}
use Rattle.xk_core.proofs.FinishViewLemmas.{length_told}
use Rattle.xk_core.proofs.AlikenessLemmas.{act_told}

-- it stands where it stands without them
pub instruction_told : (m : ModuleValue) (ns : List NodeValue) (w : World) (a : ℕ) → length ns ≡ length w.activities → a < length w.activities
    → next_instruction m (with_finishes ns w) a ≡ instruction_at m (act_at w.activities a).frame
instruction_told m ns w a h lt =
    ap (option_and_then (λ (x : Activity). instruction_at m x.frame))
    (slice_get-get_or (with_nodes ns w.activities) a nobody (omega (arith, lt, length_told ns w.activities h)))
    ∙ ap (λ (x : Activity). instruction_at m x.frame) (act_told ns w.activities a h lt)
