-- The lines of a chart, step by step, entry by entry and clock by clock.
use Rattle.std.proofs.Common.{◌≡◌, ◌∙◌, ℕ, zero, suc, ◌+◌, ◌<◌, ◌≤◌, ◌==◌, ◌&&◌, Bool, true, false, not, cond, List, [], ◌∷◌, ◌++◌, length, map, filter, replicate, take, drop, get_or, refl, sym, ap, subst, arith, slice_get}
use Rattle.std.specs.Prelude.{ℤ, flat_map}
use Rattle.std.specs.List.{list_all}
use Rattle.std.specs.Option.{option_map_or}
use Rattle.std.proofs.Math.Seq.{drop-cons, take-suc}
use Rattle.std.proofs.lemmas.List.{append_assoc, append-nil, map-append, take_all}
use Rattle.std.proofs.lemmas.List.Concat.{flat_map-append, flat_map-cons}
use Rattle.std.proofs.lemmas.List.Elements.{filter-append}
use Rattle.std.proofs.lemmas.Option.{slice_get-get_or}
use Rattle.xk_types.specs.declared.world.Entry.{Entry}
use Rattle.xk_types.specs.declared.world.Event.{Event}
use Rattle.xk_types.specs.Code.{ModuleValue}
use Rattle.xk_types.specs.World.{Clock, World}
use Rattle.xk_types.specs.Step.{Stepped, step}
use Rattle.xk_types.specs.Schedule.{Course, Through, run, run_on}
use Rattle.xk_types.specs.Logs.{schedule_of}
use Rattle.xk_law_schedules.proofs.ReachabilityLemmas.{same_through, first_step}
use Rattle.xk_core.specs.Core.{CoreValue, IsCore, advanced_now, has_advanced, is_quiet, is_registered_on, opening_core}
use Rattle.xk_collections.specs.NumberSets.{numbers_from}
use Rattle.xk_collections.proofs.RisingListLemmas.{member_passes}
use Rattle.xk_scheduler.specs.LoggedRuns.{IsRunOf}
use Rattle.xk_scheduler.proofs.RunSequenceLemmas.{run_then}
use Rattle.xk_scheduler.proofs.WakeLemmas.{none_pass}
use Rattle.xk_replay.specs.Chart.{advance_in, advances_in, advances_on, advances, act_text, acts_text, advance_line, chart_lines, chart_text, lives, living_in, registered_in}
use Rattle.xk_replay.proofs.LivingLemmas.{registered_among}

-- ---- runs in two parts

-- a front of a legal list is legal
pub legal_front : (m : ModuleValue) (xs ys : List ℕ) (w v : World) → run m (xs ++ ys) w ≡ Through v → (u : World) × (run m xs w ≡ Through u)
legal_front m [] ys w v h = (w, refl)
legal_front m (a ∷ xs) ys w v h =
    let f = first_step w v (step m w a) (run m (xs ++ ys)) h in
    let r = legal_front m xs ys f.0 v f.3 in
    (r.0, ap (λ o. run_on w o (run m xs)) f.2 ∙ r.1)

advances_append : (m : ModuleValue) (xs ys : List ℕ) (w v : World) → run m xs w ≡ Through v → advances m (xs ++ ys) w ≡ advances m xs w ++ advances m ys v
advances_append m [] ys w v h = ap (advances m ys) (same_through w v h)
advances_append m (a ∷ xs) ys w v h =
    let f = first_step w v (step m w a) (run m xs) h in
    ap (λ o. advances_on o (advances m (xs ++ ys))) f.2
    ∙ ap (λ l. advances_in f.0 ++ l) (advances_append m xs ys f.0 v f.3)
    ∙ sym (append_assoc (advances_in f.0) (advances m xs f.0) (advances m ys v))
    ∙ sym (ap (λ o. advances_on o (advances m xs) ++ advances m ys v) f.2)

lines_append : (m : ModuleValue) (xs ys : List ℕ) (w v : World) → run m xs w ≡ Through v → chart_lines m (xs ++ ys) w ≡ chart_lines m xs w ++ chart_lines m ys v
lines_append m xs ys w v h =
    ap (flat_map advance_line) (advances_append m xs ys w v h) ∙ flat_map-append advance_line (advances m xs w) (advances m ys v)

-- ---- by a step

-- the rest goes as the whole does
pub rest_run : (m : ModuleValue) (a n k : ℕ) (w x : World) (e : Event) (all : Course) → n ≡ suc k → run m (replicate n a) w ≡ all → step m w a ≡ Stepped x e
    → run m (replicate k a) x ≡ all
rest_run m a n k w x e all is h stepped =
    subst (λ o. run_on w o (run m (replicate k a)) ≡ all) stepped (subst (λ j. run m (replicate j a) w ≡ all) is h)

-- and its lines come behind those of the step
pub rest_lines : (m : ModuleValue) (a n k : ℕ) (w x : World) (e : Event) (text more all : List ℕ) → n ≡ suc k → step m w a ≡ Stepped x e
    → more ≡ text ++ flat_map advance_line (advances_in x) → text ++ chart_lines m (replicate n a) w ≡ all → more ++ chart_lines m (replicate k a) x ≡ all
rest_lines m a n k w x e text more all is stepped grown h =
    ap (λ l. l ++ chart_lines m (replicate k a) x) grown
    ∙ append_assoc text (flat_map advance_line (advances_in x)) (chart_lines m (replicate k a) x)
    ∙ ap (λ l. text ++ l) (sym (flat_map-append advance_line (advances_in x) (advances m (replicate k a) x)))
    ∙ ap (λ o. text ++ flat_map advance_line (advances_on o (advances m (replicate k a)))) (sym stepped)
    ∙ ap (λ j. text ++ chart_lines m (replicate j a) w) (sym is)
    ∙ h

-- ---- by an entry

-- The entries before number i were carried out and their lines written: the rest is legal, and its lines are those that are wanting.
pub record IsCharted (m : ModuleValue) (args : List ℤ) (log : List Entry) (i : ℕ) (c : CoreValue) (text : List ℕ) : Type 0 where
  pub same_module : c.module_run ≡ m
  pub last : World
  pub legal : run m (schedule_of (drop i log)) c.world ≡ Through last
  pub lines : text ++ chart_lines m (schedule_of (drop i log)) c.world ≡ chart_text m args log

-- none was carried out yet
pub chart_starts : (m : ModuleValue) (log : List Entry) (numbers : List ℤ) (c d : CoreValue) (text : List ℕ) → IsRunOf m log numbers d → c ≡ opening_core m d.world.arguments
    → text ≡ [] → IsCharted m d.world.arguments log 0 c text
chart_starts m log numbers c d text r is none =
    let args = d.world.arguments in
    subst (λ x. IsCharted m args log 0 x text) (sym is) (subst (λ t. IsCharted m args log 0 (opening_core m args) t) (sym none)
    (record { same_module = refl; last = d.world; legal = r.leads.1; lines = refl }))

schedule_rest : (log : List Entry) (i : ℕ) (z : Entry) → i < length log
    → schedule_of (drop i log) ≡ replicate (get_or log i z).steps (get_or log i z).act ++ schedule_of (drop (i + 1) log)
schedule_rest log i z lt =
    let next : suc i ≡ i + 1 = omega arith in
    ap schedule_of (drop-cons log i z lt)
    ∙ flat_map-cons (λ (x : Entry). replicate x.steps x.act) (get_or log i z) (drop (suc i) log)
    ∙ ap (λ j. replicate (get_or log i z).steps (get_or log i z).act ++ schedule_of (drop j log)) next

-- the entry's steps are legal
pub entry_legal : (m : ModuleValue) (args : List ℤ) (log : List Entry) (i : ℕ) (z : Entry) (c : CoreValue) (text : List ℕ) → i < length log → IsCharted m args log i c text
    → (u : World) × (run c.module_run (replicate (get_or log i z).steps (get_or log i z).act) c.world ≡ Through u)
entry_legal m args log i z c text lt h =
    let list = replicate (get_or log i z).steps (get_or log i z).act in
    let f = legal_front m list (schedule_of (drop (i + 1) log)) c.world h.last
    (ap (λ l. run m l c.world) (sym (schedule_rest log i z lt)) ∙ h.legal) in
    (f.0, ap (λ k. run k list c.world) h.same_module ∙ f.1)

-- and behind them the rest goes on
pub entry_charted : (m : ModuleValue) (args : List ℤ) (log : List Entry) (i : ℕ) (z : Entry) (c d : CoreValue) (text more : List ℕ) → i < length log → IsCharted m args log i c text
    → run c.module_run (replicate (get_or log i z).steps (get_or log i z).act) c.world ≡ Through d.world → d.module_run ≡ c.module_run
    → more ≡ text ++ chart_lines c.module_run (replicate (get_or log i z).steps (get_or log i z).act) c.world
    → IsCharted m args log (i + 1) d more
entry_charted m args log i z c d text more lt h led same grown =
    let list = replicate (get_or log i z).steps (get_or log i z).act in
    let rest = schedule_of (drop (i + 1) log) in
    let through : run m list c.world ≡ Through d.world = ap (λ k. run k list c.world) (sym h.same_module) ∙ led in
    record {
      same_module = same ∙ h.same_module;
      last = h.last;
      legal = sym (run_then m list rest c.world d.world through) ∙ ap (λ l. run m l c.world) (sym (schedule_rest log i z lt)) ∙ h.legal;
      lines = ap (λ l. l ++ chart_lines m rest d.world) (grown ∙ ap (λ k. text ++ chart_lines k list c.world) h.same_module)
          ∙ append_assoc text (chart_lines m list c.world) (chart_lines m rest d.world)
          ∙ ap (λ l. text ++ l) (sym (lines_append m list rest c.world d.world through))
          ∙ ap (λ l. text ++ chart_lines m l c.world) (sym (schedule_rest log i z lt))
          ∙ h.lines;
    }

-- ---- by a clock

apart : (b r : Bool) → (not b && r) ≡ true → (b ≡ false) × (r ≡ true)
apart false r h = (refl, h)
apart true r h = cc

quiet_at : (now : ℕ) (ks : List Clock) (c : ℕ) → list_all (λ (k : Clock). not (k.last == now)) ks ≡ true
    → option_map_or (λ (k : Clock). k.last == now) (slice_get ks c) false ≡ false
quiet_at now [] c h = refl
quiet_at now (k ∷ ks) zero h = (apart (k.last == now) (list_all (λ (x : Clock). not (x.last == now)) ks) h).0
quiet_at now (k ∷ ks) (suc c) h = quiet_at now ks c (apart (k.last == now) (list_all (λ (x : Clock). not (x.last == now)) ks) h).1

-- where no clock advanced there is no line
pub quiet_lines : (w : World) (text : List ℕ) → is_quiet w ≡ true → text ≡ text ++ flat_map advance_line (advances_in w)
quiet_lines w text h =
    sym (append-nil text)
    ∙ ap (λ l. text ++ flat_map advance_line (map (advance_in w) l))
    (sym (none_pass (has_advanced w) (numbers_from 0 (length w.clocks)) (λ c. quiet_at w.steps w.clocks c h)))

-- the lines of these clocks
abbrev pub lines_of : World → List ℕ → List ℕ
lines_of w clocks = flat_map advance_line (map (advance_in w) clocks)

-- one clock more of a list
pub clock_more : (w : World) (clocks : List ℕ) (i : ℕ) (text line more first : List ℕ) → i < length clocks → text ≡ first ++ lines_of w (take i clocks)
    → line ≡ advance_line (advance_in w (get_or clocks i 0)) → more ≡ text ++ line → more ≡ first ++ lines_of w (take (i + 1) clocks)
clock_more w clocks i text line more first inside is one grown =
    let c = get_or clocks i 0 in
    let listed = take i clocks in
    let next : suc i ≡ i + 1 = omega arith in
    grown ∙ ap (λ l. l ++ line) is ∙ append_assoc first (lines_of w listed) line
    ∙ ap (λ l. first ++ l) (
    ap (λ l. lines_of w listed ++ l) (one ∙ sym (flat_map-cons advance_line (advance_in w c) [] ∙ append-nil (advance_line (advance_in w c))))
    ∙ sym (flat_map-append advance_line (map (advance_in w) listed) (advance_in w c ∷ []))
    ∙ ap (flat_map advance_line) (sym (map-append (advance_in w) listed (c ∷ [])))
    ∙ ap (lines_of w) (sym (take-suc clocks i 0 inside) ∙ ap (λ k. take k clocks) next))

-- all of them
pub clocks_all : (w : World) (clocks : List ℕ) (n : ℕ) (text first : List ℕ) → length clocks ≤ n → clocks ≡ advanced_now w → text ≡ first ++ lines_of w (take n clocks)
    → text ≡ first ++ flat_map advance_line (advances_in w)
clocks_all w clocks n text first end listed is = is ∙ ap (λ l. first ++ lines_of w l) (take_all n clocks end ∙ listed)

-- a clock that advanced is there
pub clock_there : (w : World) (clocks : List ℕ) (i : ℕ) → i < length clocks → clocks ≡ advanced_now w → get_or clocks i 0 < length w.clocks
clock_there w clocks i inside listed =
    (member_passes (has_advanced w) (length w.clocks) i (get_or clocks i 0) (ap (λ l. slice_get l i) (sym listed) ∙ slice_get-get_or clocks i 0 inside)).1

-- ---- by an activity

-- those of the first i that pass a test
abbrev among : (ℕ → Bool) → List ℕ → ℕ → List ℕ
among p xs i = filter p (take i xs)

-- one more of a list
among_more : (p : ℕ → Bool) (xs : List ℕ) (i : ℕ) → i < length xs → among p xs (i + 1) ≡ among p xs i ++ cond (p (get_or xs i 0)) (get_or xs i 0 ∷ []) []
among_more p xs i inside =
    let next : i + 1 ≡ suc i = omega arith in
    ap (λ k. filter p (take k xs)) next ∙ ap (filter p) (take-suc xs i 0 inside) ∙ filter-append p (take i xs) (get_or xs i 0 ∷ [])

-- one that passes
pub act_more : (p : ℕ → Bool) (xs : List ℕ) (i : ℕ) (text one more : List ℕ) → i < length xs → text ≡ acts_text (filter p (take i xs)) → p (get_or xs i 0) ≡ true
    → one ≡ act_text (get_or xs i 0) → more ≡ text ++ one → more ≡ acts_text (filter p (take (i + 1) xs))
act_more p xs i text one more inside is h text_is grown =
    let a = get_or xs i 0 in
    grown ∙ ap (λ l. l ++ one) is
    ∙ ap (λ l. acts_text (among p xs i) ++ l) (text_is ∙ sym (flat_map-cons act_text a [] ∙ append-nil (act_text a)))
    ∙ sym (flat_map-append act_text (among p xs i) (a ∷ []))
    ∙ ap (λ b. acts_text (among p xs i ++ cond b (a ∷ []) [])) (sym h)
    ∙ ap acts_text (sym (among_more p xs i inside))

-- one that doesn't
pub act_not : (p : ℕ → Bool) (xs : List ℕ) (i : ℕ) (text : List ℕ) → i < length xs → text ≡ acts_text (filter p (take i xs)) → p (get_or xs i 0) ≡ false
    → text ≡ acts_text (filter p (take (i + 1) xs))
act_not p xs i text inside is h =
    let a = get_or xs i 0 in
    is ∙ ap acts_text (sym (append-nil (among p xs i)) ∙ ap (λ b. among p xs i ++ cond b (a ∷ []) []) (sym h) ∙ sym (among_more p xs i inside))

-- who lives is there
pub act_there : (w : World) (xs : List ℕ) (i : ℕ) → i < length xs → xs ≡ living_in w → get_or xs i 0 < length w.activities
act_there w xs i inside listed =
    (member_passes (lives w) (length w.activities) i (get_or xs i 0) (ap (λ l. slice_get l i) (sym listed) ∙ slice_get-get_or xs i 0 inside)).1

-- of those who live, those who are registered on a clock are all who are
pub acts_all : (m : ModuleValue) (w : World) (xs : List ℕ) (n c : ℕ) (text : List ℕ) → IsCore m w → length xs ≤ n → xs ≡ living_in w
    → text ≡ acts_text (filter (λ a. is_registered_on w a c) (take n xs)) → text ≡ acts_text (registered_in w c)
acts_all m w xs n c text core end listed is =
    is ∙ ap (λ l. acts_text (filter (λ a. is_registered_on w a c) l)) (take_all n xs end ∙ listed) ∙ ap acts_text (registered_among m w core c)
