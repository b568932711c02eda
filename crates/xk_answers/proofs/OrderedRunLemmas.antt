-- Runs in an order, as the run of a chooser gives them.
use Rattle.std.proofs.Common.{◌≡◌, ◌∙◌, ℕ, ℤ, Bool, Global, Vec, List, Option, None, Some, false, true, ap, refl, subst}
use Rattle.std.specs.Prelude.{map, option_map, unwrap_or, if◌then◌else◌}
use Rattle.xk_types.specs.declared.world.Entry.{Entry}
use Rattle.xk_types.specs.Acceptance.{IsAccepted}
use Rattle.xk_types.specs.Code.{ModuleValue}
use Rattle.xk_types.specs.World.{World, opening}
use Rattle.xk_types.specs.Schedule.{all_ended, printed}
use Rattle.xk_types.specs.Logs.{schedule_of}
use Rattle.xk_core.specs.Core.{CoreValue}
use Rattle.xk_scheduler.specs.Choosers.{Follows}
use Rattle.xk_scheduler.specs.LoggedRuns.{IsRunOf}
use Rattle.xk_scheduler.specs.WholeRuns.{IsLogThat, IsRunThat}
use Rattle.xk_scheduler.proofs.UnloggedRunLemmas.{follows_any, run_weaker}
use Rattle.xk_greedy.specs.Rounds.{IsByRounds}
use Rattle.xk_greedy.proofs.OneRunLemmas.{log_by_rounds}
pub use Rattle.xk_greedy.proofs.OneRunLemmas.{follows_rounds_once}
use Rattle.xk_jobs.specs.Tasks.{By, Greedy, In, Way, way_value}
use Rattle.xk_jobs.specs.declared.job.Drive.{Drive}
use Rattle.xk_jobs.specs.declared.job.Drive.TheVariants as drive
use Rattle.xk_jobs.specs.declared.job.Order.TheVariants as order
use Rattle.xk_jobs.specs.declared.job.Form.{Form}
use Rattle.xk_answers.specs.declared.job_result.Done.TheVariants as done
use Rattle.xk_answers.specs.declared.picture.Picture.{Picture}
use Rattle.xk_answers.specs.declared.picture.Picture.TheVariants as picture
use Rattle.xk_program.specs.declared.program_loader.Provenance.{Provenance}
use Rattle.xk_program.specs.Origins.{IsFrom}
use Rattle.xk_answers.specs.Results.{ComesTo, Draw, IsLogText, IsPageOf, IsPicture, IsTelling, Run, is_of_whole, picture_told}
use Rattle.xk_answers.specs.Results.{shows_origins, way_given}
use Rattle.xk_answers.specs.Explanation.{Tale, event_values_so_far, events_so_far, image_so_far, lanes_so_far, page_so_far, races_told}
use Rattle.xk_answers.specs.Explanation.{path_page_told, path_told, rounds_told, span_told, why_told}
use Rattle.xk_answers.specs.OrderedRun.{IsFinished, IsLoggedGreedyRun, IsReplay, IsUncountedBy}
use Rattle.xk_replay.specs.Replay.{IsLegal}
use Rattle.xk_show_lanes.specs.declared.window.Window.{Window}

-- ---- choosers without a state

without_state : {S : Type 0} (place : List ℕ → ℕ) (m : ModuleValue) (args : List ℤ) (s : S) (numbers : List ℤ) (steps : ℕ)
    → IsRunThat (Follows {S = S} (λ z enabled. place enabled) (λ z enabled. z) m s (opening m args)) m args numbers steps
    → IsRunThat (Follows {S = Unit {0}} (λ z enabled. place enabled) (λ z enabled. z) m tt (opening m args)) m args numbers steps
without_state place m args s numbers steps r = run_weaker _ _ m args numbers steps (λ list h. follows_any place m s list (opening m args) h) r

-- ---- logs

pub log_without_state : {S : Type 0} (place : List ℕ → ℕ) (m : ModuleValue) (args : List ℤ) (s : S) (log : List Entry) (numbers : List ℤ) (steps : ℕ)
    → IsRunThat (IsLogThat (Follows {S = S} (λ z enabled. place enabled) (λ z enabled. z) m s (opening m args)) log) m args numbers steps
    → IsRunThat (IsLogThat (Follows {S = Unit {0}} (λ z enabled. place enabled) (λ z enabled. z) m tt (opening m args)) log) m args numbers steps
log_without_state place m args s log numbers steps r = run_weaker _ _ m args numbers steps
    (λ list h. record { follows = follows_any place m s list (opening m args) h.follows; stands_for = h.stands_for; single = h.single }) r

-- with the log or without
pub finished_without_state : {S : Type 0} (place : List ℕ → ℕ) (m : ModuleValue) (args : List ℤ) (s : S) (keeps : Bool)
    (rounds : Option ℕ) (log : Option (List Entry)) (numbers : List ℤ) (steps : ℕ)
    → IsUncountedBy (Follows {S = S} (λ z enabled. place enabled) (λ z enabled. z) m s (opening m args)) keeps m args numbers steps
    rounds log
    → IsUncountedBy (Follows {S = Unit {0}} (λ z enabled. place enabled) (λ z enabled. z) m tt (opening m args)) keeps m args numbers steps
    rounds log
finished_without_state place m args s false None None numbers steps r = without_state place m args s numbers steps r
finished_without_state place m args s false None (Some log) numbers steps r = absurd r
finished_without_state place m args s true None None numbers steps r = absurd r
finished_without_state place m args s true None (Some log) numbers steps r = log_without_state place m args s log numbers steps r
finished_without_state place m args s keeps (Some rounds) log numbers steps r = absurd r

-- what such a run is as an answer
pub finished_run : (way : Way) (keeps : Bool) (m : ModuleValue) (args : List ℤ) (logged : List ℕ) (numbers : Vec ℤ Global) (steps : ℕ)
    (rounds : Option ℕ) (log : Option (Vec Entry Global)) → IsAccepted m
    → IsFinished way keeps m args numbers.items steps rounds (option_map (λ es. es.items) log)
    → ComesTo (Run way keeps) m args logged (done.Ended numbers steps rounds log)
finished_run (In o) false m args logged numbers steps None None accepted r = (accepted, r)
finished_run (In o) true m args logged numbers steps None (Some log) accepted r = (accepted, r)
finished_run (In o) false m args logged numbers steps None (Some log) accepted r = absurd r
finished_run (In o) true m args logged numbers steps None None accepted r = absurd r
finished_run (In o) keeps m args logged numbers steps (Some rounds) log accepted r = absurd r
finished_run (Greedy p) false m args logged numbers steps (Some rounds) None accepted r = (accepted, r)
finished_run (Greedy p) true m args logged numbers steps (Some rounds) (Some log) accepted r = (accepted, r)
finished_run (Greedy p) false m args logged numbers steps (Some rounds) (Some log) accepted r = absurd r
finished_run (Greedy p) true m args logged numbers steps (Some rounds) None accepted r = absurd r
finished_run (Greedy p) keeps m args logged numbers steps None log accepted r = absurd r
finished_run (By n) false m args logged numbers steps None None accepted r = (accepted, r)
finished_run (By n) true m args logged numbers steps None (Some log) accepted r = (accepted, r)
finished_run (By n) false m args logged numbers steps None (Some log) accepted r = absurd r
finished_run (By n) true m args logged numbers steps None None accepted r = absurd r
finished_run (By n) false m args logged numbers steps (Some rounds) log accepted r = absurd r
finished_run (By n) true m args logged numbers steps (Some rounds) log accepted r = absurd r

-- the way that is taken where none is given
pub way_taken : (given : Option Drive) → way_value (unwrap_or given (drive.Order order.First)) ≡ way_given given
way_taken None = refl
way_taken (Some d) = refl

-- ---- runs that came to their end

-- a run of a core whose main was given these arguments
pub worked_run : (m n : ModuleValue) (args : List ℤ) (log : List Entry) (numbers : List ℤ) (c : CoreValue) (steps : ℕ) → n ≡ m → c.world.arguments ≡ args
    → IsRunOf n log numbers c → all_ended c.world ≡ true → steps ≡ c.world.steps → IsReplay m args log numbers steps
worked_run m n args log numbers c steps same given run over counted =
    let run_of = subst (λ k. IsRunOf k log numbers c) same run in
    record {
      list = schedule_of log;
      last = c.world;
      follows = refl;
      leads = run_of.leads;
      given = given;
      over = over;
      numbers_are = subst (λ xs. numbers ≡ printed m (schedule_of log) (opening m xs)) given run_of.prints;
      steps_are = counted;
    }

-- the same of a run by rounds, with its log
greedy_run : (p : Option ℕ) (m n : ModuleValue) (args : List ℤ) (log : List Entry) (numbers : List ℤ) (c : CoreValue) (steps rounds : ℕ)
    → n ≡ m → c.world.arguments ≡ args → IsRunOf n log numbers c → all_ended c.world ≡ true → steps ≡ c.world.steps
    → IsByRounds p m args log c.world rounds
    → IsLoggedGreedyRun p m args numbers steps rounds log
greedy_run p m n args log numbers c steps rounds same given run over counted by = run_weaker _ _ m args numbers steps
    (λ list is. log_by_rounds p m args log c.world rounds list by over is)
    (worked_run m n args log numbers c steps same given run over counted)

-- with the log or without
pub greedy_finished : (p : Option ℕ) (keeps : Bool) (m n : ModuleValue) (args : List ℤ) (log : Vec Entry Global) (numbers : List ℤ)
    (c : CoreValue) (steps rounds : ℕ)
    → n ≡ m → c.world.arguments ≡ args → IsRunOf n log.items numbers c → all_ended c.world ≡ true → steps ≡ c.world.steps
    → IsByRounds p m args log.items c.world rounds
    → IsFinished (Greedy p) keeps m args numbers steps (Some rounds) (option_map (λ es. es.items) (if keeps then Some log else None))
greedy_finished p true m n args log numbers c steps rounds same given run over counted by =
    greedy_run p m n args log.items numbers c steps rounds same given run over counted by
greedy_finished p false m n args log numbers c steps rounds same given run over counted by =
    run_weaker _ _ m args numbers steps (λ list is. is.follows)
    (greedy_run p m n args log.items numbers c steps rounds same given run over counted by)

-- what is told by the origins and names of the bytes is a picture
pub is_picture : (p : Picture) (kind : Form) (file bytes : List ℕ) (from : Provenance) (m : ModuleValue) (args : List ℤ) (es : List Entry) (last : World) (told : Tale)
    → IsFrom (shows_origins p) kind bytes from
    → told ≡ picture_told p file from.text.now (map (λ x. x.now) from.shared.items) m args es last from.origins
    → IsPicture p kind file bytes m args es last told
is_picture picture.Chart kind file bytes from m args es last told is h = h
is_picture picture.Events kind file bytes from m args es last told is h =
    let shared = map (λ x. x.now) from.shared.items in
    (shared, (is.1 refl).1, (from.origins, (is.1 refl).0, h ∙ ap (λ t. events_so_far t m args es last shared from.origins) is.0))
is_picture picture.EventValues kind file bytes from m args es last told is h =
    let shared = map (λ x. x.now) from.shared.items in
    (shared, (is.1 refl).1, (from.origins, (is.1 refl).0, h ∙ ap (λ t. event_values_so_far t m args es last shared from.origins) is.0))
is_picture (picture.Lanes window) kind file bytes from m args es last told is h =
    let shared = map (λ x. x.now) from.shared.items in
    (shared, (is.1 refl).1, (from.origins, (is.1 refl).0, h ∙ ap (λ t. lanes_so_far t window m es last shared from.origins) is.0))
is_picture (picture.Image window) kind file bytes from m args es last told is h =
    let shared = map (λ x. x.now) from.shared.items in
    (shared, (is.1 refl).1, (from.origins, (is.1 refl).0, h ∙ ap (λ t. image_so_far t window m es last shared from.origins) is.0))
is_picture (picture.Path form window) kind file bytes from m args es last told is h =
    let shared = map (λ x. x.now) from.shared.items in
    (shared, (is.1 refl).1, (from.origins, (is.1 refl).0, h ∙ ap (λ t. path_told form t window m es last shared from.origins) is.0))
is_picture picture.Rounds kind file bytes from m args es last told is h =
    let shared = map (λ x. x.now) from.shared.items in
    (shared, (is.1 refl).1, (from.origins, (is.1 refl).0, h ∙ ap (λ t. rounds_told t m es last shared from.origins) is.0))
is_picture (picture.Page window) kind file bytes from m args es last told is h =
    let shared = map (λ x. x.now) from.shared.items in
    (shared, (is.1 refl).1, (from.origins, (is.1 refl).0, h ∙ ap (λ t. page_so_far file t window m es last shared from.origins) is.0))
is_picture (picture.PathPage window) kind file bytes from m args es last told is h =
    let shared = map (λ x. x.now) from.shared.items in
    (shared, (is.1 refl).1, (from.origins, (is.1 refl).0, h ∙ ap (λ t. path_page_told file t window m es last shared from.origins) is.0))
is_picture (picture.Races json) kind file bytes from m args es last told is h =
    let shared = map (λ x. x.now) from.shared.items in
    (shared, (is.1 refl).1, (from.origins, (is.1 refl).0, h ∙ ap (λ t. races_told json t m args es shared from.origins) is.0))
is_picture (picture.Span json) kind file bytes from m args es last told is h =
    (from.origins, (is.1 refl).0, h ∙ ap (λ t. span_told json t m args es from.origins) is.0)
is_picture (picture.Why step) kind file bytes from m args es last told is h =
    let shared = map (λ x. x.now) from.shared.items in
    (shared, (is.1 refl).1, (from.origins, (is.1 refl).0, h ∙ ap (λ t. why_told t step m args es shared from.origins) is.0))

-- the log of such a run is legal, and its picture is told of it
pub pictured : (p : Picture) (kind : Form) (file bytes : List ℕ) (n m : ModuleValue) (args : List ℤ) (log : List Entry) (logged : List ℕ) (told : Tale) (c : CoreValue) {numbers : List ℤ}
    → n ≡ m → c.world.arguments ≡ args → IsAccepted m → IsLogText logged log → IsRunOf n log numbers c
    → (is_of_whole p ≡ true → all_ended c.world ≡ true)
    → IsPicture p kind file bytes n c.world.arguments log c.world told → IsTelling (Draw p) kind file bytes m args logged told
pictured p kind file bytes n m args log logged told c {numbers} same given accepted text run over is =
    let run_of = subst (λ k. IsRunOf k log numbers c) same run in
    let legal : IsLegal m args log = record { last = c.world; leads = run_of.leads; given = given } in
    let told_of : IsPicture p kind file bytes m c.world.arguments log c.world told =
    subst (λ k. IsPicture p kind file bytes k c.world.arguments log c.world told) same is in
    (accepted, (log, text, legal, over, subst (λ xs. IsPicture p kind file bytes m xs log c.world told) given told_of))

-- the same of the page of a run in which all have ended
pub paged_run : (window : Window) (kind : Form) (file bytes : List ℕ) (n m : ModuleValue) (args : List ℤ) (log : List Entry) (told : Tale)
    (c : CoreValue) {numbers : List ℤ} → n ≡ m → c.world.arguments ≡ args → IsRunOf n log numbers c → all_ended c.world ≡ true
    → IsPicture (picture.Page window) kind file bytes n c.world.arguments log c.world told → IsPageOf window kind file bytes m args log told
paged_run window kind file bytes n m args log told c {numbers} same given run over is =
    let run_of = subst (λ k. IsRunOf k log numbers c) same run in
    let legal : IsLegal m args log = record { last = c.world; leads = run_of.leads; given = given } in
    let told_of : IsPicture (picture.Page window) kind file bytes m c.world.arguments log c.world told =
    subst (λ k. IsPicture (picture.Page window) kind file bytes k c.world.arguments log c.world told) same is in
    (legal, over, subst (λ xs. IsPicture (picture.Page window) kind file bytes m xs log c.world told) given told_of)
