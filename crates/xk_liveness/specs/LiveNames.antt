-- Worlds that are the same but for names, dead slots, and what activities that have ended left behind.
use Rattle.std.specs.Prelude.{◌≡◌, ℕ, List}
use Rattle.xk_types.specs.declared.world.Event.{Event}
use Rattle.xk_types.specs.Code.{ModuleValue}
use Rattle.xk_types.specs.World.{World}
use Rattle.xk_types.specs.Step.{Stepped, step}
use Rattle.xk_types.specs.Schedule.{all_ended}
use Rattle.xk_law_names.specs.Names.{Exchange, all_exchanged, ArePairs, all_named}
use Rattle.xk_liveness.specs.Liveness.{SlotTable, AreAlikeWhereLive}

-- by these exchanges world w is like v where slots are live
pub record AreSameWhereLive (live : SlotTable) (xs : List Exchange) (w v : World) : Type 0 where
  pub there : ArePairs xs w
  pub alike : AreAlikeWhereLive live (all_exchanged xs w) v

-- An activity that can take a step in world w can take one in v by its number there, with the same event, to worlds that are the same so by
-- these exchanges; all have ended in both worlds or in neither; and the shared numbers are the same.
pub record GoAsOneWhereLive (m : ModuleValue) (live : SlotTable) (xs : List Exchange) (w v : World) : Type 0 where
  pub steps : (u : World) (a : ℕ) (e : Event) → step m w a ≡ Stepped u e
      → (z : World) × (step m v (all_named xs a) ≡ Stepped z e) × AreSameWhereLive live xs u z
  pub ends : all_ended w ≡ all_ended v
  pub cells : w.cells ≡ v.cells

-- by some exchanges they are
abbrev pub WhereLive : SlotTable → World → World → Type 0
WhereLive live w v = (names : List Exchange) × AreSameWhereLive live names w v
