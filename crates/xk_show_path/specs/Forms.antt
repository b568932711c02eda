-- A run with its critical path, as lanes or as a picture. This project's own.
use Rattle.std.specs.Prelude.{ℕ, Bool, List, Option, if◌then◌else◌}
use Rattle.xk_types.specs.declared.world.Entry.{Entry}
use Rattle.xk_types.specs.Code.{ModuleValue}
use Rattle.xk_types.specs.World.{World}
use Rattle.xk_show_events.specs.Events.{PlacesValue}
use Rattle.xk_show_lanes.specs.declared.window.Window.{Window}
use Rattle.xk_show_lanes.specs.Lanes.{are_lanes_whole}
use Rattle.xk_show_picture.specs.Picture.{is_drawn}
use Rattle.xk_show_path.specs.declared.forms.PathForm.{PathForm}
use Rattle.xk_show_path.specs.declared.forms.PathForm.TheVariants as path_form
use Rattle.xk_show_path.specs.PathLanes.{path_lanes_text}
use Rattle.xk_show_path.specs.PathPicture.{path_picture_text}

-- as lanes, or as a picture
abbrev pub form_of : Bool → PathForm
form_of picture = if picture then path_form.Picture else path_form.Lanes

-- what is told of these steps of the run that a log stands for, which ends in this world; by names, where those of the shared numbers
-- are known
abbrev pub path_text : PathForm → PlacesValue → Option (List (List ℕ)) → Window → ModuleValue → List Entry → World → List ℕ
path_text path_form.Lanes p shared w m log last = path_lanes_text p shared w m log last
path_text path_form.Picture p shared w m log last = path_picture_text p shared w m log last

-- whether that is a whole answer, as that of `lanes`, or of `lanes --svg`
abbrev pub is_path_whole : PathForm → Window → ModuleValue → List Entry → World → Bool
is_path_whole path_form.Lanes w m log last = are_lanes_whole last
is_path_whole path_form.Picture w m log last = is_drawn w m log last
