-- The end of a step, at which the clocks that are ready advance: it keeps the invariant.
use Rattle.std.proofs.Common.{◌≡◌, ℕ, ◌+◌, ◌<◌, ◌≤◌, true, false, List, map, length, refl, sym, ◌∙◌, subst, arith}
use Rattle.std.proofs.lemmas.List.{length-map}
use Rattle.xk_types.specs.declared.world.Status.{Status}
use Rattle.xk_types.specs.declared.world.Standing.{Standing}
use Rattle.xk_types.specs.declared.world.Standing.TheVariants as standing
use Rattle.xk_types.specs.Code.{ModuleValue, IsWithinLimits}
use Rattle.xk_types.specs.World.{Activity, Clock, World, standing_of}
use Rattle.xk_types.specs.Step.{is_signalled, is_pending, advanced, settled_clock, settled}
use Rattle.xk_types.specs.Bound.{steps_weight, activities_weight, clocks_weight, steps_bound, activities_bound, clocks_bound}
use Rattle.xk_law_schedules.proofs.Invariant.{Each, Stands, IsClockSound, IsActivitySound, IsSound, looks, owing}
use Rattle.xk_types.proofs.ListLemmas.{each_map, fun_ext}
use Rattle.xk_law_schedules.proofs.ClockLemmas.AdvanceLemmas.{settled_cases, stand-advanced, looks-settled, unready-advanced, ready_pending}

-- a clock before the end of step number `now`
pub record IsClockNear (activities : List Activity) (now : ℕ) (c : Clock) : Type 0 where
  pub width : length c.standings ≡ length activities
  pub last : c.last < now
  pub phase : c.phase ≤ c.last
  pub stands : Each (λ b act. Stands act.status act.since c.last (standing_of c b)) activities
  pub signalled : Each (λ b act. is_signalled (standing_of c b) ≡ true → act.since < now) activities

-- a world before the end of a step: the invariant holds, but for clocks that are ready
pub record IsNear (m : ModuleValue) (w : World) : Type 0 where
  pub limits : IsWithinLimits m
  pub activities : Each (λ a act. IsActivitySound m (looks w.clocks a) (length w.clocks) (w.steps + 1) act) w.activities
  pub clocks : Each (λ k c. IsClockNear w.activities (w.steps + 1) c) w.clocks
  pub cells : length w.cells ≡ length m.shared
  pub steps : w.steps + 1 + owing steps_weight 1 m w.activities ≤ steps_bound m
  pub started : length w.activities + owing activities_weight 0 m w.activities ≤ activities_bound m
  pub made : length w.clocks + owing clocks_weight 0 m w.activities ≤ clocks_bound m

-- on a clock that advances, the signalled are ahead, and no one else is registered
stands_advanced : (st : Status) (since last now : ℕ) (s : Standing) → Stands st since last s → (is_signalled s ≡ true → since < now)
    → is_pending s ≡ false → Stands st since now (advanced s)
stands_advanced st since last now standing.Apart h g p = tt
stands_advanced st since last now standing.Open h g p = absurd (grind arith)
stands_advanced st since last now standing.Signalled h g p = (h.0, g refl)
stands_advanced st since last now standing.Ahead h g p = absurd (grind arith)

-- the end of a step keeps a clock's invariant
clock_settled : (activities : List Activity) (now : ℕ) (c : Clock) → IsClockNear activities now c → IsClockSound activities now (settled_clock now c)
clock_settled activities now c n = settled_cases now c (IsClockSound activities now)
    (λ ready. record {
      width = length-map c.standings advanced ∙ n.width;
      last = omega arith;
      phase = omega arith;
      unready = unready-advanced now c;
      stands = λ b act at. subst (Stands act.status act.since now) (sym (stand-advanced now c b))
          (stands_advanced act.status act.since c.last now (standing_of c b) (n.stands b act at) (n.signalled b act at) (ready_pending c b ready));
    })
    (λ unready. record { width = n.width; last = omega arith; phase = n.phase; unready = unready; stands = n.stands })

-- and the world's
pub world_settled : (m : ModuleValue) (w : World) → IsNear m w → IsSound m (settled w)
world_settled m w n = record {
  limits = n.limits;
  activities = λ a act at. rw (
    fun_ext (looks (map (settled_clock (w.steps + 1)) w.clocks) a) (looks w.clocks a)
        (looks-settled (w.steps + 1) w.clocks a),
    length-map w.clocks (settled_clock (w.steps + 1)),
  ) (n.activities a act at);
  clocks = each_map (settled_clock (w.steps + 1)) (λ k c. IsClockSound w.activities (w.steps + 1) c) w.clocks
      (λ k c at. clock_settled w.activities (w.steps + 1) c (n.clocks k c at));
  cells = n.cells;
  steps = n.steps;
  started = n.started;
  made = rw (length-map w.clocks (settled_clock (w.steps + 1))) n.made;
}
