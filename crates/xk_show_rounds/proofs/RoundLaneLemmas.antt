-- What is drawn of a legal run is drawn of the run that ended.
use Rattle.std.proofs.Common.{◌≡◌, ◌∙◌, ℕ, List, Option, ap}
use Rattle.xk_types.specs.declared.world.Entry.{Entry}
use Rattle.xk_types.specs.Code.{ModuleValue}
use Rattle.xk_types.specs.World.{World}
use Rattle.xk_show_events.specs.Events.{PlacesValue}
use Rattle.xk_show_names.specs.ClockNames.{NamesValue}
use Rattle.xk_show_lanes.specs.declared.grid.Grid.{Grid}
use Rattle.xk_show_lanes.specs.declared.window.Window.{Window}
use Rattle.xk_show_lanes.specs.Lanes.{whole_run}
use Rattle.xk_show_picture.specs.Picture.{columns, names_for}
use Rattle.xk_show_path.specs.Rounds.{Rounds, rounds_of_run}
use Rattle.xk_show_rounds.specs.RoundLanes.{accounts_of, round_lanes_in, round_lanes_text}

-- with the names and columns for these steps
abbrev drawn : Rounds → PlacesValue → Option (List (List ℕ)) → Window → ModuleValue → List Entry → World → List ℕ
drawn r p shared w m log last =
    round_lanes_in r (columns p (names_for p shared w m log last) w m log last) (names_for p shared w m log last)
    (accounts_of m last.arguments log) last

pub lanes_are : (r : Rounds) (p : PlacesValue) (shared : Option (List (List ℕ))) (n : Option NamesValue) (g : Grid) (w : Window)
    (m legal_m : ModuleValue) (log legal_log : List Entry) (last legal_last : World) (text : List ℕ)
    → legal_m ≡ m → legal_log ≡ log → legal_last ≡ last → w ≡ whole_run → r ≡ rounds_of_run m last.arguments log
    → n ≡ names_for p shared w legal_m legal_log legal_last → g ≡ columns p n w legal_m legal_log legal_last
    → text ≡ round_lanes_in r g n (accounts_of legal_m legal_last.arguments legal_log) legal_last
    → text ≡ round_lanes_text p shared m log last
unfolding round_lanes_text
lanes_are r p shared n g w m legal_m log legal_log last legal_last text same_m same_log same_last whole rounded named columned is =
    is
    ∙ ap (λ h. round_lanes_in r h n (accounts_of legal_m legal_last.arguments legal_log) legal_last) columned
    ∙ ap
    (λ k. round_lanes_in r (columns p k w legal_m legal_log legal_last) k (accounts_of legal_m legal_last.arguments legal_log) legal_last)
    named
    ∙ ap (λ v. drawn r p shared v legal_m legal_log legal_last) whole
    ∙ ap (λ o. drawn r p shared whole_run o legal_log legal_last) same_m
    ∙ ap (λ l. drawn r p shared whole_run m l legal_last) same_log
    ∙ ap (λ (v : World). drawn r p shared whole_run m log v) same_last
    ∙ ap (λ q. drawn q p shared whole_run m log last) rounded
