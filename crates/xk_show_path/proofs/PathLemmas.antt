-- What is drawn by equal rounds, names and columns is equal.
use Rattle.std.proofs.Common.{◌≡◌, ◌∙◌, ℕ, Bool, true, List, Option, ap, sym}
use Rattle.xk_types.specs.declared.world.Entry.{Entry}
use Rattle.xk_types.specs.Code.{ModuleValue}
use Rattle.xk_types.specs.World.{World}
use Rattle.xk_show_events.specs.Events.{PlacesValue}
use Rattle.xk_show_names.specs.ClockNames.{NamesValue}
use Rattle.xk_show_lanes.specs.declared.grid.Grid.{Grid}
use Rattle.xk_show_lanes.specs.declared.window.Window.{Window}
use Rattle.xk_show_picture.specs.declared.sheet.Sheet.{Sheet}
use Rattle.xk_show_picture.specs.Picture.{columns, is_drawn, rows_of, sheet_for}
use Rattle.xk_show_path.specs.PathLanes.{path_lanes_by, path_lanes_in}
use Rattle.xk_show_path.specs.PathPicture.{path_picture_by, path_picture_of, path_picture_on, with_column}
use Rattle.xk_show_path.specs.Rounds.{Rounds}

-- lanes
pub lanes_are : (r run : Rounds) (p : PlacesValue) (n known : Option NamesValue) (g : Grid) (w : Window) (m : ModuleValue) (log : List Entry)
    (last : World) (text : List ℕ)
    → r ≡ run → n ≡ known → g ≡ columns p n w m log last → text ≡ path_lanes_in r g p n m log last
    → text ≡ path_lanes_by run p known w m log last
lanes_are r run p n known g w m log last text rounded named columned is =
    is
    ∙ ap (λ h. path_lanes_in r h p n m log last) columned
    ∙ ap (λ k. path_lanes_by r p k w m log last) named
    ∙ ap (λ q. path_lanes_by q p known w m log last) rounded

-- a picture that isn't too large
pub picture_is : (r run : Rounds) (p : PlacesValue) (n known : Option NamesValue) (s : Sheet) (rows : List ℕ) (w : Window) (m : ModuleValue)
    (log : List Entry) (last : World) (text : List ℕ)
    → r ≡ run → is_drawn w m log last ≡ true → s ≡ with_column (sheet_for p known w m log last) → n ≡ known
    → rows ≡ rows_of w m last.arguments log → text ≡ path_picture_on r s rows p n m log last
    → text ≡ path_picture_of run p known w m log last
picture_is r run p n known s rows w m log last text rounded drawn placed named lined is =
    is
    ∙ ap (λ t. path_picture_on r t rows p n m log last) placed
    ∙ ap (λ k. path_picture_on r (with_column (sheet_for p known w m log last)) rows p k m log last) named
    ∙ ap (λ k. path_picture_on r (with_column (sheet_for p known w m log last)) k p known m log last) lined
    ∙ ap (λ q. path_picture_by true q p known w (rows_of w m last.arguments log) m log last) rounded
    ∙ ap (λ (d : Bool). path_picture_by d run p known w (rows_of w m last.arguments log) m log last) (sym drawn)
