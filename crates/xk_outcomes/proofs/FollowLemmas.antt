-- What can be read along links is printed by the steps that they stand for; and no reading is longer than a run.
use Rattle.std.proofs.Common.{◌≡◌, ◌∙◌, ℕ, ℤ, zero, suc, ◌+◌, ◌<◌, ◌≤◌, ◌⊎◌, inl, inr, Bool, true, List, []}
use Rattle.std.proofs.Common.{◌∷◌, ◌++◌, length, Option, Some, None, refl, sym, ap, subst, append_assoc, arith, slice_get}
use Rattle.std.specs.Prelude.{option_map}
use Rattle.std.specs.Option.{option_to_list}
use Rattle.std.proofs.lemmas.List.{append-nil, append_cancel_left, length-map}
use Rattle.std.proofs.lemmas.Option.{same_Some, slice_get-map, slice_get_within}
use Rattle.xk_types.specs.Acceptance.{IsAccepted}
use Rattle.xk_types.specs.Bound.{steps_bound}
use Rattle.xk_types.specs.Code.{ModuleValue, IsWithinLimits}
use Rattle.xk_types.specs.World.{AreArguments, opening}
use Rattle.xk_types.specs.Step.{Outcome, Blocked, Wrong, Stepped, step}
use Rattle.xk_types.specs.Schedule.{IsReached, all_ended, is_enabled}
use Rattle.xk_law_schedules.proofs.StepCountLemmas.{step_counts}
use Rattle.xk_law_commute.proofs.QuietStepLaw.{enabled_step}
use Rattle.xk_ranks.specs.Reads.{Counting, IsCounting}
use Rattle.xk_core.specs.Core.{CoreValue}
use Rattle.xk_ranks.specs.Reads.{AreReachedByReads}
use Rattle.xk_law_commute.proofs.ExplorationLaw.{nobody_steps}
use Rattle.xk_outcomes.specs.Alikeness.{AreAsOneByRank, AreOver}
use Rattle.xk_readings.specs.declared.edge.Edge.{Edge}
use Rattle.xk_readings.specs.Graphs.{IsWithin, graph}
use Rattle.xk_readings.specs.Readings.{IsLongest, Reads}
use Rattle.xk_outcomes.specs.Found.{FoundValue, act_of, first_found, least_private, next, next_by_rank, one_more, settled, through}
use Rattle.xk_outcomes.specs.Found.{with_outcome, with_step}
use Rattle.xk_outcomes.specs.Ways.{CanGo, IsWay, steps_of, way_of}
use Rattle.xk_outcomes.specs.Links.{AreLinked, LeadTo, Leads, ends}
use Rattle.xk_outcomes.specs.Search.{IsFound}
use Rattle.xk_outcomes.proofs.AlikeLemmas.{ends_alike, through_alike}
use Rattle.xk_outcomes.proofs.FoundLemmas.{first_is_found, found_through}
use Rattle.xk_outcomes.proofs.RestLemmas.{found_reached, steps_within}
use Rattle.xk_outcomes.proofs.TripLemmas.{next_module}

-- ---- ends

-- all have ended in one whose end is told so
ended_there : (all : List FoundValue) (k : ℕ) (x : FoundValue) → slice_get all k ≡ Some x → slice_get (ends all) k ≡ Some true
    → all_ended x.core.world ≡ true
ended_there all k x there told =
    let over : FoundValue → Bool = λ y. all_ended y.core.world in
    same_Some (all_ended x.core.world) true (sym (slice_get-map over all k ∙ ap (option_map over) there) ∙ told)

told_there : (all : List FoundValue) (k : ℕ) (x : FoundValue) → slice_get all k ≡ Some x → all_ended x.core.world ≡ true
    → slice_get (ends all) k ≡ Some true
told_there all k x there ended =
    let over : FoundValue → Bool = λ y. all_ended y.core.world in
    slice_get-map over all k ∙ ap (option_map over) there ∙ ap Some ended

-- each link leads from one of them to one of them
pub links_within : (counts : Counting) (m : ModuleValue) (ways : List (List ℕ)) (all : List FoundValue) (links : List Edge)
    → AreLinked counts m ways all links → IsWithin (graph links (ends all))
links_within counts m ways all links linked e there =
    let l = linked.each there.0 e there.1 in
    let many = length-map all (λ (y : FoundValue). all_ended y.core.world) in
    let out = slice_get_within all e.from l.source l.out in
    let into = slice_get_within all e.to l.target l.into in
    (omega (arith, many, out), omega (arith, many, into))

-- ---- from links that lead to one, and on from there, to a reading

read_on : (links : List Edge) (over : List Bool) (n i k : ℕ) (acts rest : List ℕ) (before more : List ℤ) → Leads links n k acts before
    → Reads (graph links over) i k rest more → Reads (graph links over) (n + i) 0 (acts ++ rest) (before ++ more)
read_on links over zero i k acts rest before more led reads =
    let none : i ≡ zero + i = omega arith in
    subst (λ j. Reads (graph links over) j 0 (acts ++ rest) (before ++ more)) none
    (subst (λ ns. Reads (graph links over) i 0 (acts ++ rest) (ns ++ more)) (sym led.2)
    (subst (λ bs. Reads (graph links over) i 0 (bs ++ rest) more) (sym led.1)
    (subst (λ j. Reads (graph links over) i j rest more) led.0 reads)))
read_on links over (suc n) i k acts rest before more led reads =
    let l = led.0 in
    let one : Reads (graph links over) (suc i) l.from (l.act ∷ rest) (option_to_list l.printed ++ more) =
    (l, (led.1, led.2), refl, rest, more, subst (λ j. Reads (graph links over) i j rest more) (sym led.3) reads, refl, refl) in
    let h = read_on links over n (suc i) l.from led.4 (l.act ∷ rest) led.5 (option_to_list l.printed ++ more) led.6 one in
    let sum : n + suc i ≡ suc n + i = omega arith in
    let is_acts : led.4 ++ l.act ∷ rest ≡ acts ++ rest = sym (append_assoc led.4 (l.act ∷ []) rest) ∙ ap (λ bs. bs ++ rest) (sym led.7) in
    let is_numbers : led.5 ++ (option_to_list l.printed ++ more) ≡ before ++ more =
    sym (append_assoc led.5 (option_to_list l.printed) more) ∙ ap (λ ns. ns ++ more) (sym led.8) in
    subst (λ j. Reads (graph links over) j 0 (acts ++ rest) (before ++ more)) sum
    (subst (λ bs. Reads (graph links over) (n + suc i) 0 bs (before ++ more)) is_acts
    (subst (λ ns. Reads (graph links over) (n + suc i) 0 (led.4 ++ l.act ∷ rest) ns) is_numbers h))

-- what stands along links to one in which all have ended can be read
pub read_to : (all : List FoundValue) (links : List Edge) (k : ℕ) (x : FoundValue) (numbers : List ℤ) → slice_get all k ≡ Some x
    → all_ended x.core.world ≡ true
    → (led : LeadTo links k numbers) → Reads (graph links (ends all)) (led.0 + 0) 0 (led.1 ++ []) numbers
read_to all links k x numbers there ended led =
    subst (Reads (graph links (ends all)) (led.0 + 0) 0 (led.1 ++ [])) (append-nil numbers)
    (read_on links (ends all) led.0 0 k led.1 [] numbers [] led.2 (told_there all k x there ended, refl, refl))

-- ---- a reading is followed

-- so many steps more, by which all have ended, and which print these numbers
pub record Follows (n : ℕ) (y z : FoundValue) (numbers : List ℤ) : Type 0 where
  pub ended : all_ended z.core.world ≡ true
  pub prints : z.printed ≡ y.printed ++ numbers
  pub long : n + y.core.world.steps ≤ z.core.world.steps

-- a step is counted, and private steps take none away
steps_one : (x : FoundValue) (a : ℕ) → x.core.world.steps ≤ (one_more a x).core.world.steps
steps_one x a = by (step x.core.module_run x.core.world a) refl
  where
    by : (o : Outcome) → step x.core.module_run x.core.world a ≡ o → x.core.world.steps ≤ (with_outcome x a o).core.world.steps
    by Blocked h = omega arith
    by (Wrong c) h = omega arith
    by (Stepped u e) h = let counted = step_counts x.core.module_run x.core.world u a e h in omega (arith, counted)

steps_with : (x : FoundValue) (o : Option ℕ) → x.core.world.steps ≤ (with_step x o).core.world.steps
steps_with x None = omega arith
steps_with x (Some a) = steps_one x a

steps_settled : (x : FoundValue) (n : ℕ) → x.core.world.steps ≤ (settled n x).core.world.steps
steps_settled x zero = omega arith
steps_settled x (suc n) =
    let before = steps_settled x n in
    let more = steps_with (settled n x) (least_private (settled n x).core) in
    omega (arith, before, more)

steps_next : (m : ModuleValue) (x : FoundValue) (a : ℕ) → x.core.module_run ≡ m → is_enabled m x.core.world a ≡ true
    → suc x.core.world.steps ≤ (next a x).core.world.steps
steps_next m x a same enabled =
    let taken = enabled_step (step m x.core.world a) enabled in
    let here : one_more a x ≡ with_outcome x a (Stepped taken.0 taken.1) = ap (with_outcome x a) (ap (λ k. step k x.core.world a) same
    ∙ taken.2) in
    let counted = step_counts m x.core.world taken.0 a taken.1 taken.2 in
    let one : x.core.world.steps + 1 ≤ (one_more a x).core.world.steps =
    subst (λ (z : FoundValue). x.core.world.steps + 1 ≤ z.core.world.steps) (sym here) (omega (arith, counted)) in
    let rest = steps_settled (one_more a x) (steps_bound (one_more a x).core.module_run) in
    omega (arith, one, rest)

-- so it is of each step of a way
steps_through : (m : ModuleValue) (way : List ℕ) (x : FoundValue) → x.core.module_run ≡ m → CanGo m x way
    → length way + x.core.world.steps ≤ (through way x).core.world.steps
steps_through m [] x same goes = omega arith
steps_through m (r ∷ way) x same goes =
    let a : ℕ = act_of x.core.world r in
    let one = steps_next m x a same goes.0 in
    let rest = steps_through m way (next_by_rank r x) (next_module x a ∙ same) goes.1 in
    omega (arith, one, rest)

-- ways one after another are one way
through_append : (way more : List ℕ) (x : FoundValue) → through (way ++ more) x ≡ through more (through way x)
through_append [] more x = refl
through_append (r ∷ way) more x = through_append way more (next_by_rank r x)

either : {A B C : Type 0} → A ⊎ B → (A → C) → (B → C) → C
either (inl a) first second = first a
either (inr b) first second = second b

-- Where all have ended no link leads on: so what is read from there is read already.
over_followed : (m : ModuleValue) (counts : Counting) (ways : List (List ℕ)) (all : List FoundValue) (links : List Edge)
    → AreLinked counts m ways all links
    → (n k : ℕ) (acts : List ℕ) (numbers : List ℤ) (x y : FoundValue) → Reads (graph links (ends all)) n k acts numbers
    → slice_get all k ≡ Some x → AreOver y.core.world x.core.world → Follows n y (through (steps_of ways acts) y) numbers
over_followed m counts ways all links linked zero k acts numbers x y reads there over =
    subst (λ bs. Follows zero y (through (steps_of ways bs) y) numbers) (sym reads.1) (record {
      ended = over.0;
      prints = sym (append-nil y.printed) ∙ ap (λ ns. y.printed ++ ns) (sym reads.2);
      long = omega arith;
    })
over_followed m counts ways all links linked (suc n) k acts numbers x y reads there over =
    let e = reads.0 in
    let l = linked.each reads.1.0 e reads.1.1 in
    let source : l.source ≡ x = same_Some l.source x (sym l.out ∙ (ap (slice_get all) reads.2 ∙ there)) in
    let is_way : IsWay m x (way_of ways e.act) e.printed = subst (λ (z : FoundValue). IsWay m z (way_of ways e.act) e.printed) source
    l.is_way in
    absurd (by (way_of ways e.act) is_way.some is_way.goes)
  where
    by : (way : List ℕ) → 0 < length way → CanGo m x way → ⊥
    by [] some goes = absurd (omega (arith, some))
    by (r ∷ way) some goes =
        let taken = enabled_step (step m x.core.world (act_of x.core.world r)) goes.0 in
        nobody_steps m x.core.world taken.0 (act_of x.core.world r) taken.1 taken.2 over.1

followed : (m : ModuleValue) (limits : IsWithinLimits m) (ok : IsAccepted m) (counts : Counting) → IsCounting m counts
    → (ways : List (List ℕ)) (all : List FoundValue) (links : List Edge) → AreLinked counts m ways all links
    → ((k : ℕ) (x : FoundValue) → slice_get all k ≡ Some x → (x.core.module_run ≡ m) × IsReached m x.core.world)
    → (n k : ℕ) (acts : List ℕ) (numbers : List ℤ) (x y : FoundValue) → Reads (graph links (ends all)) n k acts numbers
    → slice_get all k ≡ Some x
    → y.core.module_run ≡ m → AreReachedByReads m counts y.core.world x.core.world → Follows n y (through (steps_of ways acts) y) numbers
followed m limits ok counts counting ways all links linked runs zero k acts numbers x y reads there is same =
    subst (λ bs. Follows zero y (through (steps_of ways bs) y) numbers) (sym reads.1) (record {
      ended = ends_alike m limits ok counts counting y.core.world x.core.world same ∙ ended_there all k x there reads.0;
      prints = sym (append-nil y.printed) ∙ ap (λ ns. y.printed ++ ns) (sym reads.2);
      long = omega arith;
    })
followed m limits ok counts counting ways all links linked runs (suc n) k acts numbers x y reads there is same =
    let e = reads.0 in
    let way : List ℕ = way_of ways e.act in
    let l = linked.each reads.1.0 e reads.1.1 in
    let source : l.source ≡ x = same_Some l.source x (sym l.out ∙ (ap (slice_get all) reads.2 ∙ there)) in
    let is_way : IsWay m x way e.printed = subst (λ (z : FoundValue). IsWay m z way e.printed) source l.is_way in
    let next : AreAsOneByRank counts (through way x).core.world l.target.core.world =
    subst (λ (z : FoundValue). AreAsOneByRank counts (through way z).core.world l.target.core.world) source l.alike in
    let t = through_alike m limits ok counts counting way y x is (runs k x there).0 same is_way.goes in
    let g = t.0 in
    let more : g.more ≡ option_to_list e.printed = append_cancel_left x.printed g.more (option_to_list e.printed) (sym g.second_prints
    ∙ is_way.prints) in
    let goal : Type 0 = Follows n (through way y) (through (steps_of ways reads.3) (through way y)) reads.4 in
    let f = either {C = goal} next
    (λ alike_next. followed m limits ok counts counting ways all links linked runs n e.to reads.3 reads.4 l.target (through way y) reads.5
    l.into
    g.first_module
    (record { first = g.alike.first; second = (runs e.to l.target l.into).1; alike = g.alike.alike ∙ alike_next }))
    (λ over. over_followed m counts ways all links linked n e.to reads.3 reads.4 l.target (through way y) reads.5 l.into
    (ends_alike m limits ok counts counting (through way y).core.world (through way x).core.world g.alike ∙ over.0, over.1)) in
    let counted = steps_through m way y is t.1 in
    let some = is_way.some in
    let long = f.long in
    subst (λ bs. Follows (suc n) y (through (steps_of ways bs) y) numbers) (sym reads.6)
    (subst (λ (z : FoundValue). Follows (suc n) y z numbers) (sym (through_append way (steps_of ways reads.3) y)) (record {
      ended = f.ended;
      prints = f.prints ∙ ap (λ ns. ns ++ reads.4) (g.first_prints ∙ ap (λ ns. y.printed ++ ns) more)
          ∙ append_assoc y.printed (option_to_list e.printed) reads.4 ∙ ap (λ ns. y.printed ++ ns) (sym reads.7);
      long = omega (arith, counted, some, long);
    }))

-- ---- where all that was found was found from a start

module _ (start : CoreValue) (counts : Counting) (counting : IsCounting start.module_run counts) (ways : List (List ℕ))
    (all : List FoundValue) (links : List Edge) (linked : AreLinked counts start.module_run ways all links)
    (found : (k : ℕ) (x : FoundValue) → slice_get all k ≡ Some x
    → IsFound start x) (first : slice_get all 0 ≡ Some (first_found start)) (limits : IsWithinLimits start.module_run)
    (ok : IsAccepted start.module_run)
    (taken : AreArguments start.module_run start.world.arguments)
    (begins : start.world ≡ opening start.module_run start.world.arguments) where
  pub read_follows : (n : ℕ) (acts : List ℕ) (numbers : List ℤ) → Reads (graph links (ends all)) n 0 acts numbers
      → Follows n (first_found start) (through (steps_of ways acts) (first_found start)) numbers
  read_follows n acts numbers reads =
      followed start.module_run limits ok counts counting ways all links linked
      (λ k x there. ((found k x there).1.module_is, found_reached start limits ok taken begins x (found k x there)))
      n 0 acts numbers (first_found start) (first_found start) reads first (first_is_found start).1.module_is
      (let here = found_reached start limits ok taken begins (first_found start) (first_is_found start) in
      record { first = here; second = here; alike = refl })

  pub longest_read : IsLongest (graph links (ends all)) (steps_bound start.module_run)
  longest_read n acts numbers reads =
      let f = read_follows n acts numbers reads in
      let long = f.long in
      let within = steps_within start limits ok taken begins (through (steps_of ways acts) (first_found start))
      (found_through start (steps_of ways acts) (first_found start) (first_is_found start)) in
      omega (arith, long, within)
