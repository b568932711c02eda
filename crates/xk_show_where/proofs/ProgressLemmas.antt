-- How far the steps of a log lead, entry by entry.
use Rattle.std.proofs.Common.{◌≡◌, ◌∙◌, ℕ, suc, ◌+◌, ◌-◌, ◌<◌, ◌≤◌, false, List, [], ◌∷◌, ◌++◌, length, replicate, drop, get_or, refl, sym, ap, subst, arith, Option, Some, None}
use Rattle.std.specs.Prelude.{ℤ}
use Rattle.std.proofs.Math.Seq.{drop-cons}
use Rattle.std.proofs.lemmas.Bool.{lt-ltb, le-ltb}
use Rattle.std.proofs.lemmas.List.{append_assoc, drop_all, replicate-append-replicate}
use Rattle.std.proofs.lemmas.List.Concat.{flat_map-cons}
use Rattle.xk_types.specs.declared.world.Entry.{Entry}
use Rattle.xk_types.specs.declared.world.Event.{Event}
use Rattle.xk_types.specs.Code.{ModuleValue}
use Rattle.xk_types.specs.World.{World, opening}
use Rattle.xk_types.specs.Step.{Outcome, Blocked, Wrong, Stepped, step}
use Rattle.xk_types.specs.Schedule.{Course, Through, run, run_on, is_enabled, is_step}
use Rattle.xk_types.specs.Logs.{schedule_of}
use Rattle.xk_scheduler.proofs.RunSequenceLemmas.{run_then}
use Rattle.xk_show_where.specs.declared.progress.Stop.{Stop}
use Rattle.xk_show_events.specs.Worlds.{last_world}
use Rattle.xk_show_where.specs.Progress.{IsTold, course_of, is_through, step_behind}
use Rattle.xk_show_where.specs.Where.{named_standings_text, named_where_text, standings_text, where_text}
use Rattle.xk_show_events.specs.Events.{PlacesValue}

-- ---- runs

-- one more step of an entry
pub one_more : (m : ModuleValue) (a n : ℕ) (w v x : World) (e : Event) → run m (replicate n a) w ≡ Through v → step m v a ≡ Stepped x e
    → run m (replicate (n + 1) a) w ≡ Through x
one_more m a n w v x e h stepped =
    ap (λ l. run m l w) (sym (replicate-append-replicate n 1 a))
    ∙ run_then m (replicate n a) (a ∷ []) w v h
    ∙ ap (λ o. run_on v o (run m [])) stepped

-- a run ends before a step that can't be taken
held_world : (w : World) (o : Outcome) (go : World → Course) → is_step o ≡ false → last_world (run_on w o go) ≡ w
held_world w Blocked go h = refl
held_world w (Wrong c) go h = refl
held_world w (Stepped v e) go h = absurd (grind arith)

held_early : (w : World) (o : Outcome) (go : World → Course) → is_step o ≡ false → is_through (run_on w o go) ≡ false
held_early w Blocked go h = refl
held_early w (Wrong c) go h = refl
held_early w (Stepped v e) go h = absurd (grind arith)

-- ---- the step behind so many

behind_here : (i n : ℕ) (e : Entry) (log : List Entry) → n < e.steps
    → step_behind i n (e ∷ log) ≡ Some (record { entry = i; step = n + 1; steps = e.steps; act = e.act })
behind_here i n e log lt = rw (lt-ltb n e.steps lt) refl

behind_past : (i n : ℕ) (e : Entry) (log : List Entry) → step_behind i (e.steps + n) (e ∷ log) ≡ step_behind (suc i) n log
behind_past i n e log =
    let less : (e.steps + n) - e.steps ≡ n = omega arith in
    rw (le-ltb (e.steps + n) e.steps (omega arith)) (ap (λ k. step_behind (suc i) k log) less)

-- ---- entries

-- The entries before number i were taken whole: the run goes on from here, and the step behind so many more is that of the entries that are left.
pub record IsAt (m : ModuleValue) (args : List ℤ) (log : List Entry) (i : ℕ) (w : World) : Type 0 where
  pub rest : run m (schedule_of (drop i log)) w ≡ course_of m args log
  pub behind : (n : ℕ) → step_behind 0 (w.steps + n) log ≡ step_behind i n (drop i log)

pub at_first : (m : ModuleValue) (args : List ℤ) (log : List Entry) → IsAt m args log 0 (opening m args)
at_first m args log = record {
  rest = refl;
  behind = λ n.
      let same : 0 + n ≡ n = omega arith in
      ap (λ j. step_behind 0 j log) same;
}

schedule_rest : (log : List Entry) (i : ℕ) (z : Entry) → i < length log
    → schedule_of (drop i log) ≡ replicate (get_or log i z).steps (get_or log i z).act ++ schedule_of (drop (suc i) log)
schedule_rest log i z lt =
    ap schedule_of (drop-cons log i z lt)
    ∙ flat_map-cons (λ (x : Entry). replicate x.steps x.act) (get_or log i z) (drop (suc i) log)

-- the entry's steps were taken: so it is at the next one
pub at_next : (m : ModuleValue) (args : List ℤ) (log : List Entry) (i n : ℕ) (z : Entry) (w v : World) → i < length log → IsAt m args log i w → z ≡ get_or log i z
    → run m (replicate n z.act) w ≡ Through v → v.steps ≡ w.steps + n → n ≡ z.steps → IsAt m args log (i + 1) v
at_next m args log i n z w v inside at is led counted all =
    let next : suc i ≡ i + 1 = omega arith in
    let rest = schedule_of (drop (suc i) log) in
    let whole : run m (replicate z.steps z.act) w ≡ Through v = subst (λ k. run m (replicate k z.act) w ≡ Through v) all led in
    let list : schedule_of (drop i log) ≡ replicate z.steps z.act ++ rest =
    schedule_rest log i z inside ∙ ap (λ (x : Entry). replicate x.steps x.act ++ rest) (sym is) in
    subst (λ j. IsAt m args log j v) next (record {
      rest = sym (run_then m (replicate z.steps z.act) rest w v whole) ∙ ap (λ l. run m l w) (sym list) ∙ at.rest;
      behind = λ k.
          let sum : v.steps + k ≡ w.steps + (z.steps + k) = omega (arith, counted, all) in
          ap (λ j. step_behind 0 j log) sum ∙ at.behind (z.steps + k)
          ∙ ap (step_behind i (z.steps + k)) (drop-cons log i z inside ∙ ap (λ (x : Entry). x ∷ drop (suc i) log) (sym is))
          ∙ behind_past i k z (drop (suc i) log);
    })

-- the entry has another step, which can't be taken
pub told_stopped : (m : ModuleValue) (args : List ℤ) (log : List Entry) (i n : ℕ) (z : Entry) (w v : World) → i < length log → IsAt m args log i w → z ≡ get_or log i z
    → run m (replicate n z.act) w ≡ Through v → v.steps ≡ w.steps + n → n < z.steps → is_enabled m v z.act ≡ false
    → IsTold m args log v (Some (record { entry = i; step = n + 1; steps = z.steps; act = z.act }))
told_stopped m args log i n z w v inside at is led counted fewer held =
    let rest = schedule_of (drop (suc i) log) in
    let k = z.steps - (n + 1) in
    let steps : n + suc k ≡ z.steps = omega arith in
    let behind = replicate k z.act ++ rest in
    let list : schedule_of (drop i log) ≡ replicate n z.act ++ (z.act ∷ behind) =
    schedule_rest log i z inside ∙ ap (λ (x : Entry). replicate x.steps x.act ++ rest) (sym is)
    ∙ ap (λ j. replicate j z.act ++ rest) (sym steps)
    ∙ ap (λ l. l ++ rest) (sym (replicate-append-replicate n (suc k) z.act))
    ∙ append_assoc (replicate n z.act) (z.act ∷ replicate k z.act) rest in
    let course : course_of m args log ≡ run_on v (step m v z.act) (run m behind) =
    sym at.rest ∙ ap (λ l. run m l w) list ∙ run_then m (replicate n z.act) (z.act ∷ behind) w v led in
    record {
      world = sym (held_world v (step m v z.act) (run m behind) held) ∙ ap last_world (sym course);
      stop = sym (ap (λ j. step_behind 0 j log) counted ∙ at.behind n
          ∙ ap (step_behind i n) (drop-cons log i z inside ∙ ap (λ (x : Entry). x ∷ drop (suc i) log) (sym is))
          ∙ behind_here i n z (drop (suc i) log) fewer);
      whole = sym (held_early v (step m v z.act) (run m behind) held) ∙ ap is_through (sym course);
    }

-- all entries were taken
pub told_whole : (m : ModuleValue) (args : List ℤ) (log : List Entry) (i : ℕ) (w : World) → length log ≤ i → IsAt m args log i w → IsTold m args log w None
told_whole m args log i w out at =
    let none : drop i log ≡ [] = drop_all i log out in
    let course : course_of m args log ≡ Through w = sym at.rest ∙ ap (λ l. run m (schedule_of l) w) none in
    let same : w.steps + 0 ≡ w.steps = omega arith in
    record {
      world = ap last_world (sym course);
      stop = sym (ap (λ j. step_behind 0 j log) (sym same) ∙ at.behind 0 ∙ ap (step_behind i 0) none);
      whole = ap is_through (sym course);
    }

-- so the text of that world is the log's
pub told_text : (p : PlacesValue) (m : ModuleValue) (args : List ℤ) (log : List Entry) (w : World) (s : Option Stop) → IsTold m args log w s
    → standings_text p m w s ≡ where_text p m args log
told_text p m args log w s t = ap (standings_text p m w) t.stop ∙ ap (λ v. standings_text p m v (step_behind 0 v.steps log)) t.world

-- and so is the text by names
pub named_told_text : (p : PlacesValue) (shared : List (List ℕ)) (m : ModuleValue) (args : List ℤ) (log : List Entry) (w : World)
    (s : Option Stop) → IsTold m args log w s → named_standings_text p shared m w s ≡ named_where_text p shared m args log
named_told_text p shared m args log w s t =
    ap (named_standings_text p shared m w) t.stop ∙ ap (λ v. named_standings_text p shared m v (step_behind 0 v.steps log)) t.world
