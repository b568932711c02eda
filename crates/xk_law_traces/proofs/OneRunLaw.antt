-- What one run without a race tells of others, from the class law.
use Rattle.std.proofs.Common.{◌≡◌, ℕ, ℤ, Bool, true, false, true≢false, List, [], ◌∷◌, ◌++◌, map, Some, None, Option, option_map, refl, sym, ap, ◌∙◌, subst}
use Rattle.std.specs.Prelude.{slice_get, option_and_then, All}
use Rattle.std.specs.List.{filter_map}
use Rattle.std.specs.Option.{option_map_or}
use Rattle.std.proofs.lemmas.List.{append-nil}
use Rattle.std.proofs.lemmas.List.Elements.{All-get_or}
use Rattle.std.proofs.lemmas.Option.{get_or_from_slice_get, slice_get_within, none-some}
use Rattle.xk_types.specs.declared.instr.Instr.{Instr}
use Rattle.xk_types.specs.declared.instr.Instr.TheVariants as instr
use Rattle.xk_types.specs.Acceptance.{IsAccepted}
use Rattle.xk_types.specs.Code.{UnitValue, ModuleValue, IsWithinLimits}
use Rattle.xk_types.specs.World.{Activity, World, AreArguments, opening, instruction_at}
use Rattle.xk_types.specs.Step.{step}
use Rattle.xk_types.specs.Schedule.{Through, run, all_ended, number_printed, printed}
use Rattle.xk_law_schedules.proofs.ReachabilityLemmas.{same_through, first_step, opening_reached}
use Rattle.xk_law_commute.specs.Conflicts.{reads, puts, next_instruction, AreConflictFree}
use Rattle.xk_law_commute.proofs.ExplorationLaw.{nobody_steps}
use Rattle.xk_law_names.specs.Names.{all_named}
use Rattle.xk_law_names.proofs.NameLaw.{same_cells}
use Rattle.xk_law_names.proofs.ActivityNameOrderLaw.{run_first}
use Rattle.xk_law_traces.specs.Moments.{is_print, printed_by, printed_at, led_to, started_by}
use Rattle.xk_law_traces.specs.Classes.{AreOneClass, names_along}
use Rattle.xk_law_traces.specs.RaceFreedom.{HasNoRace, HasNeverTwo}
use Rattle.xk_law_traces.specs.OneRun.{GoesAsWell, IsBegun, IsWholeRun, ComeToOne, gets_or_puts, AddsInUnit, AddsAtMost}
use Rattle.xk_law_traces.proofs.SwapLemmas.{get_map}
use Rattle.xk_law_traces.proofs.ClassLemmas.{main_stays, class_as_well, class_prints}
use Rattle.xk_law_traces.proofs.ClassLaw.{every}
use Rattle.xk_law_traces.proofs.EdgeLaw.{ordered_free}
use Rattle.xk_law_traces.specs.Edges.{StepName, AreSound, AreOrdered}

one_of : {X : Type 0} (P : X → Type 0) (xs : List X) (k : ℕ) (x : X) → slice_get xs k ≡ Some x → All P xs → P x
one_of P xs k x h all = subst P (get_or_from_slice_get xs k x x h) (All-get_or P xs k x (slice_get_within xs k x h) all)

-- ---- whole runs

-- nothing follows where all have ended
run_on_ended : (m : ModuleValue) (t rest : List ℕ) (w y z : World) → run m t w ≡ Through y → all_ended y ≡ true
    → run m (t ++ rest) w ≡ Through z → rest ≡ []
run_on_ended m [] [] w y z h ended g = refl
run_on_ended m [] (a ∷ rest) w y z h ended g =
    let x = first_step w z (step m w a) (run m rest) g in
    absurd (nobody_steps m w x.0 a x.1 x.2 (ap all_ended (same_through w y h) ∙ ended))
run_on_ended m (a ∷ t) rest w y z h ended g =
    let x = first_step w y (step m w a) (run m t) h in
    run_on_ended m t rest x.0 y z x.3 ended (sym (run_first m (t ++ rest) w x.0 a x.1 x.2) ∙ g)

-- ---- who is who by a path

module _ (m : ModuleValue) (w : World) (s t : List ℕ) (f : ℕ → ℕ)
    (starts : (a : ℕ) → map f (started_by m s w a) ≡ started_by m t w (f a)) where
  -- where starts go by these numbers, so do paths
  path_leads : (a : ℕ) (path : List ℕ) → option_map f (led_to m s w a path) ≡ led_to m t w (f a) path
  path_leads a [] = refl
  path_leads a (k ∷ path) =
      by (slice_get (started_by m s w a) k) (λ b. path_leads b path)
      ∙ ap (option_and_then (λ b. led_to m t w b path)) (sym (get_map f (started_by m s w a) k) ∙ ap (λ l. slice_get l k) (starts a))
    where
      by : (o : Option ℕ) → ((b : ℕ) → option_map f (led_to m s w b path) ≡ led_to m t w (f b) path)
          → option_map f (option_and_then (λ b. led_to m s w b path) o) ≡ option_and_then (λ b. led_to m t w b path) (option_map f o)
      by None h = refl
      by (Some b) h = h b

  -- and so what is printed there
  path_prints : f 0 ≡ 0 → ((a : ℕ) → printed_by m s w a ≡ printed_by m t w (f a)) → (path : List ℕ)
      → printed_at m s w path ≡ printed_at m t w path
  path_prints main prints path =
      by (led_to m s w 0 path) ∙ ap (option_map (printed_by m t w)) (path_leads 0 path ∙ ap (λ a. led_to m t w a path) main)
    where
      by : (o : Option ℕ) → option_map (printed_by m s w) o ≡ option_map (printed_by m t w) (option_map f o)
      by None = refl
      by (Some a) = ap (λ l. Some l) (prints a)

-- ---- all runs

module _ (m : ModuleValue) (args : List ℤ) (limits : IsWithinLimits m) (ok : IsAccepted m) (taken : AreArguments m args) where
  abbrev w : World
  w = opening m args

  pub same : (s t : List ℕ) (z : World) → run m s w ≡ Through z → (member : AreOneClass m w s t) → GoesAsWell m w s t member z
  same s t z legal member = class_as_well m limits ok w z (opening_reached m args taken) s t member legal

  pub prints : (s t : List ℕ) (z : World) → run m s w ≡ Through z → AreOneClass m w s t → HasNeverTwo is_print m w s
      → printed m s w ≡ printed m t w
  prints s t z legal member never = class_prints m limits ok w z (opening_reached m args taken) s t member legal never

  pub begun : (s t : List ℕ) (z y : World) → IsWholeRun m args s z → HasNoRace m w s → run m t w ≡ Through y → IsBegun m w s t
  begun s t z y one free goes = every m limits ok t s w y z (opening_reached m args taken) one.legal one.ended free goes

  pub ordered_run : (s : List ℕ) (z : World) (edges : List (StepName × StepName)) → IsWholeRun m args s z → AreSound m w s edges
      → AreOrdered m w s edges → HasNoRace m w s
  ordered_run s z edges one sound ordered =
      ordered_free m limits ok w z (opening_reached m args taken) s one.legal one.ended edges sound ordered

  -- a whole run with which a schedule of a class begins is one of the class
  whole_member : (s t : List ℕ) (z y : World) → IsWholeRun m args s z → IsWholeRun m args t y → IsBegun m w s t → AreOneClass m w s t
  whole_member s t z y one other begun =
      let g : GoesAsWell m w s (t ++ begun.rest) begun.member z = same s (t ++ begun.rest) z one.legal begun.member in
      let none : begun.rest ≡ [] = run_on_ended m t begun.rest w y g.last other.legal other.ended g.legal in
      subst (AreOneClass m w s) (ap (λ l. t ++ l) none ∙ append-nil t) begun.member

  come_to_one : (s t : List ℕ) (z y : World) → IsWholeRun m args s z → IsWholeRun m args t y → AreOneClass m w s t
      → ComeToOne m args s t z y
  come_to_one s t z y one other member =
      let g : GoesAsWell m w s t member z = same s t z one.legal member in
      record {
        names = names_along member.between;
        main = main_stays m limits ok w (opening_reached m args taken) s t z member one.legal;
        cells = same_cells (names_along member.between) z g.last g.alike
            ∙ ap (λ (x : World). x.cells) (same_through g.last y (sym g.legal ∙ other.legal));
        starts = λ a. g.starts a;
        prints = λ a. ap (filter_map number_printed) (g.same a);
        paths = path_prints m w s t (all_named (names_along member.between)) g.starts
            (main_stays m limits ok w (opening_reached m args taken) s t z member one.legal)
            (λ a. ap (filter_map number_printed) (g.same a));
        numbers = λ n. g.numbers n;
      }

  pub one_every : (s t : List ℕ) (z y : World) → IsWholeRun m args s z → HasNoRace m w s → IsWholeRun m args t y → ComeToOne m args s t z y
  one_every s t z y one free other = come_to_one s t z y one other (whole_member s t z y one other (begun s t z y one free other.legal))

  pub one_prints : (s t : List ℕ) (z y : World) → IsWholeRun m args s z → HasNoRace m w s → HasNeverTwo is_print m w s
      → IsWholeRun m args t y → printed m s w ≡ printed m t w
  one_prints s t z y one free never other =
      prints s t z one.legal (whole_member s t z y one other (begun s t z y one free other.legal)) never

-- ---- modules that add to shared numbers at most

adder_reads : (i : Instr) (c : ℕ) → gets_or_puts i ≡ false → reads i c ≡ true → ⊥
adder_reads (instr.Get d s) c h g = true≢false h
adder_reads _ c h g = true≢false (sym g)

adder_puts : (i : Instr) (c : ℕ) → gets_or_puts i ≡ false → puts i c ≡ true → ⊥
adder_puts (instr.Put s x) c h g = true≢false h
adder_puts _ c h g = true≢false (sym g)

-- what an activity stands at is one of the module's instructions
next_adds : (m : ModuleValue) → AddsAtMost m → (w : World) (a : ℕ) (i : Instr) → next_instruction m w a ≡ Some i → gets_or_puts i ≡ false
next_adds m adds w a i h = of_act (slice_get w.activities a) h
  where
    of_code : (u : UnitValue) (at : ℕ) (is : AddsInUnit u) → slice_get u.code at ≡ Some i → gets_or_puts i ≡ false
    of_code u at is g = one_of (λ j. gets_or_puts j ≡ false) u.code at i g is

    of_unit : (at : ℕ) (o : Option UnitValue) → ((u : UnitValue) → o ≡ Some u → AddsInUnit u)
        → option_and_then (λ (u : UnitValue). slice_get u.code at) o ≡ Some i
        → gets_or_puts i ≡ false
    of_unit at None is g = absurd (none-some i g)
    of_unit at (Some u) is g = of_code u at (is u refl) g

    of_act : (o : Option Activity) → option_and_then (λ (x : Activity). instruction_at m x.frame) o ≡ Some i → gets_or_puts i ≡ false
    of_act None g = absurd (none-some i g)
    of_act (Some x) g = of_unit x.frame.place (slice_get m.units x.frame.unit) (λ u is. one_of AddsInUnit m.units x.frame.unit u is adds) g

-- so two next instructions never conflict
of_next : (o : Option Instr) (test : Instr → Bool) → ((i : Instr) → o ≡ Some i → test i ≡ true → ⊥) → option_map_or test o false ≡ true → ⊥
of_next None test h g = true≢false (sym g)
of_next (Some i) test h g = h i refl g

adders_apart : (m : ModuleValue) → AddsAtMost m → (w : World) (a b : ℕ) → AreConflictFree m w a b
adders_apart m adds w a b = record {
  second_reads = λ c h g. read b c g;
  first_reads = λ c h g. read a c g;
  first_puts = λ c h g. put a c h;
  second_puts = λ c h g. put b c h;
}
  where
    read : (d c : ℕ) → option_map_or (λ i. reads i c) (next_instruction m w d) false ≡ true → ⊥
    read d c = of_next (next_instruction m w d) (λ i. reads i c) (λ i is. adder_reads i c (next_adds m adds w d i is))

    put : (d c : ℕ) → option_map_or (λ i. puts i c) (next_instruction m w d) false ≡ true → ⊥
    put d c = of_next (next_instruction m w d) (λ i. puts i c) (λ i is. adder_puts i c (next_adds m adds w d i is))

pub adders_free : (m : ModuleValue) (w : World) (s : List ℕ) → AddsAtMost m → HasNoRace m w s
adders_free m w s adds v met a b differs h g = adders_apart m adds v a b
