-- Shared numbers that nobody can read any more, by a table of what may still be carried out. To add to a number isn't to read it: what
-- comes of it is seen by who reads the number alone.
use Rattle.std.specs.Prelude.{◌≡◌, ℕ, false, [], length, ◌⊎◌, Some, slice_get}
use Rattle.xk_types.specs.declared.instr.Instr.TheVariants as instr
use Rattle.xk_types.specs.World.{Activity, World, is_ended}
use Rattle.xk_law_commute.specs.PlainWorlds.{AreAlike}
use Rattle.xk_liveness.specs.Liveness.{SlotTable}
use Rattle.xk_liveness.specs.LiveNames.{WhereLive}
use Rattle.xk_closed.specs.Footprints.{Table, MayDo}

-- nobody who hasn't ended may read shared number s, nor may whom these start
abbrev pub IsUnread : Table → World → ℕ → Type 0
IsUnread rest w s = (r d : ℕ) (act : Activity) → slice_get w.activities r ≡ Some act → is_ended act.status ≡ false
    → MayDo rest act (instr.Get d s) → ⊥

-- the world without its shared numbers
abbrev pub without_cells : World → World
without_cells w = record w { cells = [] }

-- the worlds differ in such numbers at most, and in numbers of steps and in phases
pub record AreAlikeButUnread (rest : Table) (w v : World) : Type 0 where
  pub others : AreAlike (without_cells w) (without_cells v)
  pub many : length w.cells ≡ length v.cells
  pub cells : (s : ℕ) → (slice_get w.cells s ≡ slice_get v.cells s) ⊎ IsUnread rest w s

-- They are the same but for names, and differ at most in slots that are dead, in what activities that have ended left behind, and in shared
-- numbers that nobody can read any more.
abbrev pub WhereRead : SlotTable → Table → World → World → Type 0
WhereRead live rest w v = (u : World) × WhereLive live w u × AreAlikeButUnread rest u v
