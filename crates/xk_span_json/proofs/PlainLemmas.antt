-- What is told of how long a run had to take is plain: it has no float, and nests no deeper than an object in the making takes.
use Rattle.std.proofs.Common.{◌≡◌, ◌+◌, ℕ, suc, Bool, true, false, List, [], ◌∷◌, length, Option, Some, None, arith}
use Rattle.std.specs.Prelude.{cond, flat_map, nat_eq}
use Rattle.serde_json.specs.Data.{Data, array}
use Rattle.serde_json.specs.View.{items_of}
use Rattle.xk_json.specs.Objects.{array_of}
use Rattle.xk_json.specs.Plain.{IsPlain}
use Rattle.xk_json.proofs.ObjectLemmas.{array_plain}
use Rattle.xk_json.proofs.PlainLemmas.{AreFlat, number_plain, object_of_plain, text_plain}
use Rattle.xk_types.specs.declared.world.Event.{Event}
use Rattle.xk_show_events.specs.declared.steps.RunStep.{RunStep}
use Rattle.xk_show_events.specs.Events.{PlacesValue, origin_of}
use Rattle.xk_races.specs.declared.deeds.Deed.{Deed}
use Rattle.xk_races.specs.declared.deeds.Part.{Part}
use Rattle.xk_races.specs.declared.deeds.Part.TheVariants as part
use Rattle.xk_races.specs.Lists.{number_at}
use Rattle.xk_span_summary.specs.declared.stretches.Stretch.{Stretch}
use Rattle.xk_span_summary.specs.declared.waits.Wait.{Wait}
use Rattle.xk_show_json.proofs.EventLemmas.{origin_flat, step_flat}
use Rattle.xk_show_json.proofs.PlainListLemmas.{AreAllPlain, below_plain, both_plain, fits, list_plain}
use Rattle.xk_show_span.specs.declared.phases.Arrival.{Arrival}
use Rattle.xk_show_span.specs.Phases.{Coming, coming_with, if_awaited, if_earlier, if_last, last_round, nobody}
use Rattle.xk_span_json.specs.Phases.{earlier_groups, earlier_value, last_value, phase_groups, phase_items, phase_value, phases_from, phases_value}
use Rattle.xk_span_json.specs.Phases.{step_groups, step_value}
use Rattle.xk_span_json.specs.Span.{behind_members, line_groups, line_items, line_value, lines_value, processors_groups, processors_items}
use Rattle.xk_span_json.specs.Span.{processors_value, stretch_groups, stretch_value, wait_groups, wait_value}

-- ---- steps

step_plain : (p : PlacesValue) (s : RunStep) → IsPlain 1 (step_value p s)
step_plain p s = object_of_plain 0 (step_groups p s) (step_flat 0 s, (origin_flat 0 (origin_of p s.unit s.place), tt))

pub step_fits : (p : PlacesValue) (s : RunStep) (d : Data) → d ≡ step_value p s → IsPlain 4 d
step_fits p s d e = fits 1 (step_value p s) d (omega arith) (step_plain p s) e

-- ---- phases

earlier_plain : (round : ℕ) (a : Arrival) → IsPlain 1 (earlier_value round a)
earlier_plain round a = object_of_plain 0 (earlier_groups round a) ((number_plain _, (number_plain _, tt)), tt)

all_earlier : (round : ℕ) (came : List Arrival) → IsPlain 2 (array_of (earlier_value round) came)
all_earlier round came = array_plain 1 (earlier_value round) (earlier_plain round) came

pub earlier_fit : (round : ℕ) (came : List Arrival) (d : Data) → d ≡ array_of (earlier_value round) came → IsPlain 4 d
earlier_fit round came d e = fits 2 (array_of (earlier_value round) came) d (omega arith) (all_earlier round came) e

all_last : (p : PlacesValue) (came : List Arrival) → IsPlain 2 (array_of (last_value p) came)
all_last p came = array_plain 1 (last_value p) (λ a. step_plain p a.step) came

pub last_fit : (p : PlacesValue) (came : List Arrival) (d : Data) → d ≡ array_of (last_value p) came → IsPlain 4 d
last_fit p came d e = fits 2 (array_of (last_value p) came) d (omega arith) (all_last p came) e

phase_plain : (p : PlacesValue) (c phase : ℕ) (came : List Arrival) → IsPlain 3 (phase_value p c phase came)
phase_plain p c phase came =
    let round = last_round 0 came in
    object_of_plain 2 (phase_groups p c phase round came) (
      (number_plain _, (number_plain _, (number_plain _, tt))),
      ((all_earlier round (flat_map (if_earlier round) came), (all_last p (flat_map (if_last round) came), tt)), tt),
    )

items_plain : (p : PlacesValue) (x : Part) (k : Coming) → AreAllPlain 3 (phase_items p x k)
items_plain p (part.Advance c) k = (phase_plain p c (number_at k.phases c + 1) (flat_map (if_awaited c) k.arrivals), tt)
items_plain p (part.Start b) k = tt
items_plain p (part.Signal c) k = tt
items_plain p (part.Leave c) k = tt
items_plain p (part.Pass c) k = tt
items_plain p part.Open k = tt
items_plain p part.End k = tt
items_plain p part.Close k = tt
items_plain p (part.Access x) k = tt
items_plain p part.Print k = tt

phases_plain : (p : PlacesValue) (times : List ℕ) (i : ℕ) (k : Coming) (ds : List Deed) → AreAllPlain 3 (phases_from p times i k ds)
phases_plain p times i k [] = tt
phases_plain p times i k (d ∷ ds) =
    both_plain 3 (phase_items p d.part k) _ (items_plain p d.part k)
    (phases_plain p times (suc i) (coming_with d.part d (number_at times i) k) ds)

pub phases_fit : (p : PlacesValue) (times : List ℕ) (ds : List Deed) (d : Data) → d ≡ phases_value p times ds → IsPlain 4 d
phases_fit p times ds d e = fits 4 (phases_value p times ds) d (omega arith) (list_plain 3 _ (phases_plain p times 0 nobody ds)) e

-- ---- rounds on processors

on_processors : (work span : ℕ) (widths : List ℕ) (p : ℕ) → IsPlain 1 (processors_value work span widths p)
on_processors work span widths p = object_of_plain 0 (processors_groups work span widths p) ((number_plain _, (number_plain _, (number_plain _, tt))), tt)

processors_plain : (free : Bool) (work span : ℕ) (widths : List ℕ) → AreAllPlain 1 (processors_items free work span widths)
processors_plain false work span widths = tt
processors_plain true work span widths =
    (on_processors work span widths 2, (on_processors work span widths 4, (on_processors work span widths 8, tt)))

pub processors_fit : (free : Bool) (work span : ℕ) (widths : List ℕ) (d : Data) → d ≡ array (items_of (processors_items free work span widths))
    → IsPlain 4 d
processors_fit free work span widths d e = fits 2 _ d (omega arith) (list_plain 1 _ (processors_plain free work span widths)) e

-- ---- the path

behind_flat : (behind : Option ℕ) (e : Event) → AreFlat 1 (behind_members behind e)
behind_flat None e = tt
behind_flat (Some a) e = (number_plain a, (text_plain _, tt))

stretch_plain : (p : PlacesValue) (s : Stretch) → IsPlain 2 (stretch_value p s)
stretch_plain p s =
    object_of_plain 1 (stretch_groups p s) (
      (step_plain p s.first, (step_plain p s.last, (number_plain _, (number_plain _, tt)))),
      (behind_flat s.behind s.first.event, tt),
    )

pub stretches_fit : (p : PlacesValue) (list : List Stretch) (d : Data) → d ≡ array_of (stretch_value p) list → IsPlain 4 d
stretches_fit p list d e =
    fits 3 (array_of (stretch_value p) list) d (omega arith) (array_plain 2 (stretch_value p) (stretch_plain p) list) e

line_plain : (line many : ℕ) → IsPlain 1 (line_value line many)
line_plain line many = object_of_plain 0 (line_groups line many) ((number_plain line, (number_plain many, tt)), tt)

lines_plain : (counts : List ℕ) (line : ℕ) → AreAllPlain 1 (line_items counts line)
lines_plain counts line = go (nat_eq (number_at counts line) 0)
  where
    go : (b : Bool) → AreAllPlain 1 (cond b [] (line_value line (number_at counts line) ∷ []))
    go true = tt
    go false = (line_plain line (number_at counts line), tt)

pub lines_fit : (counts : List ℕ) (d : Data) → d ≡ lines_value counts → IsPlain 4 d
lines_fit counts d e =
    fits 2 (lines_value counts) d (omega arith) (list_plain 1 _ (below_plain 1 (line_items counts) (lines_plain counts) (length counts))) e

-- ---- waits

wait_plain : (p : PlacesValue) (w : Wait) → IsPlain 1 (wait_value p w)
wait_plain p w =
    object_of_plain 0 (wait_groups p w) (
      (text_plain _, (number_plain _, (number_plain _, (number_plain _, (number_plain _, tt))))),
      (origin_flat 0 (origin_of p w.step.unit w.step.place), tt),
    )

pub waits_fit : (p : PlacesValue) (waits : List Wait) (d : Data) → d ≡ array_of (wait_value p) waits → IsPlain 4 d
waits_fit p waits d e = fits 2 (array_of (wait_value p) waits) d (omega arith) (array_plain 1 (wait_value p) (wait_plain p) waits) e
