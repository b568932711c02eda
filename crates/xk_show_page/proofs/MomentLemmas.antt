-- Steps behind the last one that is asked for.
use Rattle.std.proofs.Common.{◌≡◌, ◌∙◌, ℕ, ◌<◌, Bool, true, false, not, ◌&&◌, List, [], Option, refl, sym, ap, arith}
use Rattle.std.specs.Prelude.{nat_le, if◌then◌else◌}
use Rattle.std.proofs.lemmas.Bool.Decides.{nat_tests}
use Rattle.xk_types.specs.declared.world.Event.{Event}
use Rattle.xk_types.specs.declared.world.Event.TheVariants as event
use Rattle.xk_types.specs.Code.{ModuleValue}
use Rattle.xk_types.specs.World.{World}
use Rattle.xk_types.specs.Schedule.{is_local}
use Rattle.xk_show_events.specs.Events.{PlacesValue}
use Rattle.xk_show_names.specs.declared.accounts.Account.{Account}
use Rattle.xk_show_names.specs.ClockNames.{NamesValue}
use Rattle.xk_show_lanes.specs.declared.window.Window.{Window}
use Rattle.xk_show_lanes.specs.Lanes.{is_asked}
use Rattle.xk_show_lanes.proofs.LaneLemmas.{none_asked}
use Rattle.xk_show_page.specs.Page.{line_of, moment, print_by, told_step}

behind : (window : Window) (k : ℕ) → window.last < k → nat_le k window.last ≡ false
behind window k past = grind (arith, nat_tests)

none_printed : (window : Window) (p : PlacesValue) (n : Option NamesValue) (a : Account) (e : Event) → window.last < a.step.number
    → print_by window p n a e ≡ []
none_printed window p n a (event.Printed i) past = ap (λ b. if b then line_of p n a else []) (behind window a.step.number past)
none_printed window p n a event.Local past = refl
none_printed window p n a event.Made past = refl
none_printed window p n a event.Got past = refl
none_printed window p n a event.Put past = refl
none_printed window p n a event.Added past = refl
none_printed window p n a event.Opened past = refl
none_printed window p n a event.Closed past = refl
none_printed window p n a event.Spawned past = refl
none_printed window p n a event.Resumed past = refl
none_printed window p n a event.Dropped past = refl
none_printed window p n a event.Arrived past = refl
none_printed window p n a event.Passed past = refl
none_printed window p n a event.Ended past = refl

-- nothing is told of them
pub none_told : (window : Window) (p : PlacesValue) (n : Option NamesValue) (m : ModuleValue) (v : World) (a : Account)
    → window.last < a.step.number → told_step window p n m v a ≡ []
none_told window p n m v a past =
    ap (λ b. if b then moment p n m v a else print_by window p n a a.step.event) (not_moment (not (is_local a.step.event)))
    ∙ none_printed window p n a a.step.event past
  where
    not_moment : (b : Bool) → (b && is_asked window a.step.number) ≡ false
    not_moment true = none_asked window a.step.number past
    not_moment false = refl
