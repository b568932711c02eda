-- Steps of two activities, in either order.
use Rattle.std.proofs.Common.{◌≡◌, ℕ, ℤ, suc, zero, ◌+◌, true, false, true≢false, List, [], ◌∷◌, map, set, Some, None, Option, refl, sym, ap, ◌∙◌, subst, inl, inr, ◌⊎◌, pos, get_or, is_some}
use Rattle.std.specs.Prelude.{slice_get, option_and_then}
use Rattle.std.specs.Int.{w64, int_wrapping_add}
use Rattle.std.specs.Option.{option_map_or}
use Rattle.std.proofs.lemmas.Bool.{or_parts}
use Rattle.std.proofs.lemmas.Option.{none-some, same_Some}
use Rattle.std.proofs.lemmas.List.{map-set, get_or-set_other}
use Rattle.xk_types.specs.declared.instr.Instr.{Instr}
use Rattle.xk_types.specs.declared.instr.Instr.TheVariants as instr
use Rattle.xk_types.specs.declared.world.Event.{Event}
use Rattle.xk_types.specs.Code.{ModuleValue}
use Rattle.xk_types.specs.World.{Activity, Clock, World, standing_of, instruction_at, is_ended}
use Rattle.xk_types.specs.Step.{Outcome, Blocked, Wrong, Stepped, is_signalled, is_ready, waits, innermost, step, step_of}
use Rattle.xk_types.specs.Schedule.{is_step}
use Rattle.xk_types.proofs.ListLemmas.{get-set_other}
use Rattle.xk_law_schedules.proofs.Invariant.{Each}
use Rattle.xk_law_schedules.proofs.StepFormLemmas.{IsNext}
use Rattle.xk_law_commute.specs.PlainWorlds.{plain_activity, plain}
use Rattle.xk_law_commute.specs.Conflicts.{reads, puts, stores, next_instruction, reads_next, puts_next, stores_next, AreConflictFree}
use Rattle.xk_law_commute.proofs.StepEffect.{Move, Passes, change_by, written, enacted, aged, begins, IsSum, begins_next}
use Rattle.xk_law_commute.proofs.ListLemmas.{set_other, twice_there, some_set}
use Rattle.xk_law_commute.proofs.AdditionLemmas.{sums_go}
use Rattle.xk_law_commute.proofs.AwaitIndependenceLemmas.{same_or_not}
use Rattle.xk_law_commute.proofs.PlainStepLaw.{same_plain}
use Rattle.xk_law_commute.proofs.ClockLemmas.{clocks_go, move_beside, unready_still, moved_registers, moved_waits, signals}
use Rattle.xk_law_commute.proofs.ViewLemmas.{Sees, Acts, Goes, IsNone, DoesAct, DoesMake, DoesStart, awaits_set}

-- ---- small facts

-- one step has one world and one event
pub same_step : (u v : World) (e f : Event) → Stepped u e ≡ Stepped v f → (u ≡ v) × (e ≡ f)
same_step u v e f h = (ap (world_of u) h, ap (event_of e) h)
  where
    world_of : World → Outcome → World
    world_of d Blocked = d
    world_of d (Wrong c) = d
    world_of d (Stepped z g) = z

    event_of : Event → Outcome → Event
    event_of d Blocked = d
    event_of d (Wrong c) = d
    event_of d (Stepped z g) = g

-- who waits for no clock is signalled on none
signals_each : (cs : List Clock) (a k : ℕ) (c : Clock) → slice_get cs k ≡ Some c → signals cs a ≡ false → is_signalled (standing_of c a) ≡ false
signals_each [] a k c at h = absurd (none-some c at)
signals_each (d ∷ cs) a zero c at h = ap (λ (z : Clock). is_signalled (standing_of z a)) (sym (same_Some d c at)) ∙ (or_parts (is_signalled (standing_of d a)) (signals cs a) h).0
signals_each (d ∷ cs) a (suc k) c at h = signals_each cs a k c at (or_parts (is_signalled (standing_of d a)) (signals cs a) h).1

cells_other : (writes : Option (ℕ × (ℤ → ℤ))) (cells : List ℤ) (c : ℕ) → ((g : ℤ → ℤ) → writes ≡ Some (c, g) → ⊥) → slice_get (written writes cells) c ≡ slice_get cells c
cells_other None cells c h = refl
cells_other (Some p) cells c h = get-set_other cells p.0 c (p.1 (get_or cells p.0 (pos 0))) (λ e. h p.1 (ap (λ d. Some (d, p.1)) (sym e)))

cells_width : (writes : Option (ℕ × (ℤ → ℤ))) (cells : List ℤ) (c : ℕ) → is_some (slice_get (written writes cells) c) ≡ is_some (slice_get cells c)
cells_width None cells c = refl
cells_width (Some p) cells c = some_set cells p.0 (p.1 (get_or cells p.0 (pos 0))) c

cells_go : (r s : Option (ℕ × (ℤ → ℤ))) (cells : List ℤ) → ((c : ℕ) (g k : ℤ → ℤ) → r ≡ Some (c, g) → s ≡ Some (c, k) → (z : ℤ) → g (k z) ≡ k (g z))
    → written r (written s cells) ≡ written s (written r cells)
cells_go None s cells h = refl
cells_go (Some p) None cells h = refl
cells_go (Some p) (Some q) cells h = elim (same_or_not p.0 q.0) [
  | inl same ↦
      subst (λ d. written (Some p) (written (Some (d, q.1)) cells) ≡ written (Some (d, q.1)) (written (Some p) cells)) same
      (twice_there p.1 q.1 cells p.0 (pos 0) (h p.0 p.1 q.1 refl (ap (λ d. Some (d, q.1)) (sym same))))
  | inr differs ↦
      ap (λ z. set (set cells q.0 (q.1 (get_or cells q.0 (pos 0)))) p.0 (p.1 z)) (get_or-set_other cells q.0 p.0 (q.1 (get_or cells q.0 (pos 0))) (pos 0) differs)
      ∙ set_other cells q.0 p.0 (q.1 (get_or cells q.0 (pos 0))) (p.1 (get_or cells p.0 (pos 0))) differs
      ∙ ap (λ z. set (set cells p.0 (p.1 (get_or cells p.0 (pos 0)))) q.0 (q.1 z))
      (sym (get_or-set_other cells p.0 q.0 (p.1 (get_or cells p.0 (pos 0))) (pos 0) (λ e. differs (sym e))))
]

-- what two steps make of one number, where neither writes it whatever it was
stores_go : (m : ModuleValue) (w : World) (a b c : ℕ) (g k : ℤ → ℤ) → AreConflictFree m w a b → stores_next m w a c ≡ true → stores_next m w b c ≡ true
    → (puts_next m w a c ≡ true) ⊎ IsSum g → (puts_next m w b c ≡ true) ⊎ IsSum k → (z : ℤ) → g (k z) ≡ k (g z)
stores_go m w a b c g k apart p q (inl r) s z = absurd (apart.first_puts c r q)
stores_go m w a b c g k apart p q (inr r) (inl s) z = absurd (apart.second_puts c s p)
stores_go m w a b c g k apart p q (inr r) (inr s) z =
    r.1 (k z) ∙ ap (λ y. int_wrapping_add w64 y r.0) (s.1 z) ∙ sums_go w64 z s.0 r.0 ∙ sym (s.1 (g z) ∙ ap (λ y. int_wrapping_add w64 y s.0) (r.1 z))

-- the next instruction, looked up
pub next_is : (m : ModuleValue) (w : World) (b : ℕ) (y : Activity) (i : Instr) → slice_get w.activities b ≡ Some y → IsNext m y i → next_instruction m w b ≡ Some i
next_is m w b y i found next = ap (option_and_then (λ (act : Activity). instruction_at m act.frame)) found ∙ next.here

stores_is : (m : ModuleValue) (w : World) (b c : ℕ) (y : Activity) (i : Instr) → slice_get w.activities b ≡ Some y → IsNext m y i → stores i c ≡ true → stores_next m w b c ≡ true
stores_is m w b c y i found next h = ap (λ o. option_map_or (λ j. stores j c) o false) (next_is m w b y i found next) ∙ h

reads_is : (m : ModuleValue) (w : World) (b c : ℕ) (y : Activity) (i : Instr) → slice_get w.activities b ≡ Some y → IsNext m y i → reads i c ≡ true → reads_next m w b c ≡ true
reads_is m w b c y i found next h = ap (λ o. option_map_or (λ j. reads j c) o false) (next_is m w b y i found next) ∙ h

puts_is : (m : ModuleValue) (w : World) (b c : ℕ) (y : Activity) (i : Instr) → slice_get w.activities b ≡ Some y → IsNext m y i → puts i c ≡ true → puts_next m w b c ≡ true
puts_is m w b c y i found next h = ap (λ o. option_map_or (λ j. puts j c) o false) (next_is m w b y i found next) ∙ h

-- how, by the next instruction
how_is : (m : ModuleValue) (w : World) (b c : ℕ) (g : ℤ → ℤ) (y : Activity) (i : Instr) → slice_get w.activities b ≡ Some y → IsNext m y i → (puts i c ≡ true) ⊎ IsSum g
    → (puts_next m w b c ≡ true) ⊎ IsSum g
how_is m w b c g y i found next (inl h) = inl (puts_is m w b c y i found next h)
how_is m w b c g y i found next (inr h) = inr h

begins_is : (m : ModuleValue) (w : World) (b : ℕ) (y : Activity) (i : Instr) → slice_get w.activities b ≡ Some y → IsNext m y i → begins i ≡ true → begins_next m w b ≡ true
begins_is m w b y i found next h = ap (λ o. option_map_or begins o false) (next_is m w b y i found next) ∙ h

-- ---- two steps that begin nothing

module _ (m : ModuleValue) (w : World) (a b : ℕ) (x y : Activity) (found : slice_get w.activities a ≡ Some x) (known : slice_get w.activities b ≡ Some y) (differs : b ≡ a → ⊥)
    (quiet : Each (λ k (c : Clock). is_ready c ≡ false) w.clocks) where
  turned : a ≡ b → ⊥
  turned e = differs (sym e)

  -- what a sees after b's step
  sees_act : (next : Activity) (move : Move) (writes : Option (ℕ × (ℤ → ℤ))) → next.governed ≡ y.governed → is_ended y.status ≡ false
      → ((c : ℕ) (n : ℤ → ℤ) → writes ≡ Some (c, n) → (i : Instr) → IsNext m x i → reads i c ≡ true → ⊥) → Sees m w (enacted w b next move writes) a x x.since
  sees_act next move writes governed alive apart = record {
    there = found;
    then = get-set_other w.activities b a next turned ∙ found;
    clocks = λ s k named. moved_registers (w.steps + 1) a b (change_by move) w.clocks k turned;
    cells = λ i at c g. cells_other writes w.cells c (λ n e. apart c n e i at g);
    width = cells_width writes w.cells;
    waits = moved_waits (w.steps + 1) a b (change_by move) w.clocks turned;
    awaits = awaits_set w.activities b y next known governed (innermost a x) alive;
  }

  -- where both orders lead
  worlds_go : (p q : Activity) (s t : ℕ) (f g : Move) (r z : Option (ℕ × (ℤ → ℤ))) → (f ≡ Passes → waits w a ≡ false) → (g ≡ Passes → waits w b ≡ false)
      → ((c : ℕ) (n k : ℤ → ℤ) → r ≡ Some (c, n) → z ≡ Some (c, k) → (y : ℤ) → n (k y) ≡ k (n y))
      → plain (enacted (enacted w b q g z) a (aged p s) f r) ≡ plain (enacted (enacted w a p f r) b (aged q t) g z)
  worlds_go p q s t f g r z f_passes g_passes apart =
      let one : World = enacted (enacted w b q g z) a (aged p s) f r in
      let other : World = enacted (enacted w a p f r) b (aged q t) g z in
      same_plain one other
      (map-set plain_activity (set w.activities b q) a (aged p s) ∙ ap (λ zs. set zs a (plain_activity p)) (map-set plain_activity w.activities b q)
      ∙ set_other (map plain_activity w.activities) b a (plain_activity q) (plain_activity p) turned
      ∙ sym (map-set plain_activity (set w.activities a p) b (aged q t) ∙ ap (λ zs. set zs b (plain_activity q)) (map-set plain_activity w.activities a p)))
      (sym (clocks_go (w.steps + 1 + 1) (w.steps + 1) (w.steps + 1 + 1) (w.steps + 1) a b (change_by f) (change_by g) w.clocks differs (record {
        first = λ k c at. move_beside f k (standing_of c a) (λ e. signals_each w.clocks a k c at (f_passes e));
        second = λ k c at. move_beside g k (standing_of c b) (λ e. signals_each w.clocks b k c at (g_passes e));
        still = λ k c at. unready_still c (quiet k c at);
      })))
      (cells_go r z w.cells apart) refl

-- ---- squares of two steps that begin nothing

pub not_none : (o : Outcome) (v : World) (e : Event) → o ≡ Stepped v e → is_step o ≡ false → ⊥
not_none o v e h g = true≢false (sym (ap is_step h) ∙ g)

module _ (m : ModuleValue) (w : World) (a b : ℕ) (x y : Activity) (found : slice_get w.activities a ≡ Some x) (known : slice_get w.activities b ≡ Some y) (differs : b ≡ a → ⊥)
    (quiet : Each (λ k (c : Clock). is_ready c ≡ false) w.clocks) (apart : AreConflictFree m w a b) where
  pub both_act : (u v : World) (e f : Event) → step m w a ≡ Stepped u e → step m w b ≡ Stepped v f
      → Acts m w v a x (step m w a) (step m v a) → Acts m w u b y (step m w b) (step m u b)
      → (p : World) × (q : World) × (step m v a ≡ Stepped p e) × (step m u b ≡ Stepped q f) × (plain p ≡ plain q)
  both_act u v e f hu hv A B =
      let us : (u ≡ enacted w a A.next A.move A.writes) × (e ≡ A.e) = same_step u (enacted w a A.next A.move A.writes) e A.e (sym hu ∙ A.here) in
      let vs : (v ≡ enacted w b B.next B.move B.writes) × (f ≡ B.e) = same_step v (enacted w b B.next B.move B.writes) f B.e (sym hv ∙ B.here) in
      let p : World = enacted v a (aged A.next A.now) A.move A.writes in
      let q : World = enacted u b (aged B.next B.now) B.move B.writes in (
        p,
        q,
        A.there ∙ ap (λ z. Stepped p z) (sym us.1),
        B.there ∙ ap (λ z. Stepped q z) (sym vs.1),
        ap (λ z. plain (enacted z a (aged A.next A.now) A.move A.writes)) vs.0
            ∙ worlds_go m w a b x y found known differs quiet A.next B.next A.now B.now A.move B.move A.writes B.writes A.passes B.passes
            (λ c n k r z. let i = A.touched c n r in let j = B.touched c k z in
            stores_go m w a b c n k apart (stores_is m w a c x i.0 found i.1 i.2) (stores_is m w b c y j.0 known j.1 j.2)
            (how_is m w a c n x i.0 found i.1 i.3) (how_is m w b c k y j.0 known j.1 j.3))
            ∙ sym (ap (λ z. plain (enacted z b (aged B.next B.now) B.move B.writes)) us.0),
      )

  -- what each sees after the other's step
  pub first_sees : (v : World) (o q : Outcome) → Acts m w w b y o q → (f : Event) → o ≡ Stepped v f → Sees m w v a x x.since
  first_sees v o q B f h =
      let vs : (v ≡ enacted w b B.next B.move B.writes) × (f ≡ B.e) = same_step v (enacted w b B.next B.move B.writes) f B.e (sym h ∙ B.here) in
      subst (λ z. Sees m w z a x x.since) (sym vs.0) (sees_act m w a b x y found known differs quiet B.next B.move B.writes B.governed B.alive
      (λ c n r i at g. let j = B.touched c n r in apart.first_reads c (stores_is m w b c y j.0 known j.1 j.2) (reads_is m w a c x i found at g)))

  pub second_sees : (u : World) (o q : Outcome) → Acts m w w a x o q → (e : Event) → o ≡ Stepped u e → Sees m w u b y y.since
  second_sees u o q A e h =
      let us : (u ≡ enacted w a A.next A.move A.writes) × (e ≡ A.e) = same_step u (enacted w a A.next A.move A.writes) e A.e (sym h ∙ A.here) in
      subst (λ z. Sees m w z b y y.since) (sym us.0) (sees_act m w b a y x known found (λ e. differs (sym e)) quiet A.next A.move A.writes A.governed A.alive
      (λ c n r i at g. let j = A.touched c n r in apart.second_reads c (stores_is m w a c x j.0 found j.1 j.2) (reads_is m w b c y i known at g)))

-- a step that begins nothing
pub only_acts : (m : ModuleValue) (w v : World) (a : ℕ) (x : Activity) (s : ℕ) (o q : Outcome) (u : World) (e : Event) → slice_get w.activities a ≡ Some x → begins_next m w a ≡ false
    → o ≡ Stepped u e → Goes m w v a x s o q → Acts m w v a x o q
only_acts m w v a x s o q u e found begun h (IsNone g) = absurd (not_none o u e h g)
only_acts m w v a x s o q u e found begun h (DoesAct A) = A
only_acts m w v a x s o q u e found begun h (DoesMake M) = absurd (true≢false (sym (begins_is m w a x (instr.Make M.d) found M.next refl) ∙ begun))
only_acts m w v a x s o q u e found begun h (DoesStart S) = absurd (true≢false (sym (begins_is m w a x (instr.Spawn S.unit S.args) found S.next refl) ∙ begun))

-- who takes a step is there
pub found_of : (m : ModuleValue) (w : World) (a : ℕ) (u : World) (e : Event) → step m w a ≡ Stepped u e → (x : Activity) × (slice_get w.activities a ≡ Some x)
found_of m w a u e h = by (slice_get w.activities a) refl
  where
    by : (o : Option Activity) → slice_get w.activities a ≡ o → (x : Activity) × (slice_get w.activities a ≡ Some x)
    by None g = absurd (not_none (step m w a) u e h (ap (λ o. is_step (step_of m w a o)) g))
    by (Some x) g = (x, g)
