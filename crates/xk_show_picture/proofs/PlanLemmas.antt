-- Where the columns of a picture stand, with names.
use Rattle.std.proofs.Common.{◌≡◌, ◌∙◌, ℕ, List, length, Some, ap}
use Rattle.xk_types.specs.declared.world.Entry.{Entry}
use Rattle.xk_types.specs.Code.{ModuleValue}
use Rattle.xk_types.specs.World.{World}
use Rattle.xk_show_events.specs.Events.{PlacesValue}
use Rattle.xk_show_names.specs.ClockNames.{NamesValue}
use Rattle.xk_show_lanes.specs.declared.grid.Grid.{Grid}
use Rattle.xk_show_lanes.specs.declared.window.Window.{Window}
use Rattle.xk_show_lanes.specs.NamedLanes.{grid_by_names}
use Rattle.xk_show_picture.specs.declared.sheet.Sheet.{Sheet}
use Rattle.xk_show_picture.specs.Sheet.{sheet_of}
use Rattle.xk_show_picture.specs.Picture.{sheet_for, signs_of}

-- in the columns of these names
pub sheet_named : (p : PlacesValue) (w : Window) (m : ModuleValue) (log : List Entry) (last : World)
    (n k : NamesValue) (g : Grid) (s : Sheet)
    → n ≡ k → g ≡ grid_by_names p n w m log last → s ≡ sheet_of g (signs_of (Some n) (length last.clocks)) (length last.clocks)
    → s ≡ sheet_for p (Some k) w m log last
sheet_named p w m log last n k g s named columned is =
    is
    ∙ ap (λ h. sheet_of h (signs_of (Some n) (length last.clocks)) (length last.clocks)) columned
    ∙ ap (λ r. sheet_for p (Some r) w m log last) named
