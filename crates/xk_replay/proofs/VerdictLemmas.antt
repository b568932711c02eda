-- A log has one verdict at most: a legal one holds no step that isn't enabled, and leads to one world.
use Rattle.std.proofs.Common.{◌≡◌, ◌∙◌, ℕ, ℤ, suc, ◌+◌, ◌-◌, ◌<◌, List, ◌∷◌, ◌++◌, length, replicate, take, refl, sym, ap, subst, arith, inl, inr}
use Rattle.std.specs.Prelude.{◌⊎◌, Result, Ok, Err, IfOk, IfErr}
use Rattle.std.proofs.lemmas.Bool.{true≢false}
use Rattle.std.proofs.lemmas.List.{append_assoc, replicate-append-replicate, take_all}
use Rattle.std.proofs.lemmas.List.Concat.{flat_map-append, flat_map-cons}
use Rattle.std.proofs.lemmas.Option.{slice_get_within}
use Rattle.xk_types.specs.declared.world.Entry.{Entry}
use Rattle.xk_types.specs.Code.{ModuleValue}
use Rattle.xk_types.specs.World.{World, opening}
use Rattle.xk_types.specs.Schedule.{Through, Leads, run, all_ended}
use Rattle.xk_types.specs.Logs.{schedule_of}
use Rattle.xk_law_schedules.proofs.ReachabilityLemmas.{same_through}
use Rattle.xk_scheduler.proofs.ScheduleLemmas.{split_before, barred}
use Rattle.xk_replay.specs.declared.fault.ReplayFault.{ReplayFault}
use Rattle.xk_replay.specs.declared.fault.ReplayFault.TheVariants as fault
use Rattle.xk_replay.specs.Replay.{IsLegal, IsStoppedAt, IsUnfinished, IsWhole, Verdict, Whole, Stopped, Unfinished, Says}
use Rattle.xk_replay.specs.Replay.{Fails, IsStop, IsFaultOf}
use Rattle.xk_replay.proofs.ChartLineLemmas.{legal_front}

-- the schedule of a log in three parts: what stands before an entry, some steps of it, and what begins with its next step
schedule_in_parts : (front rest : List Entry) (e : Entry) (n k : ℕ) → e.steps ≡ n + suc k
    → schedule_of (front ++ e ∷ rest) ≡ (schedule_of front ++ replicate n e.act) ++ e.act ∷ (replicate k e.act ++ schedule_of rest)
schedule_in_parts front rest e n k all =
    let a = e.act in
    let later = schedule_of rest in
    let own : replicate e.steps a ≡ replicate n a ++ replicate (suc k) a = ap (λ j. replicate j a) all ∙ sym (replicate-append-replicate n (suc k) a) in
    flat_map-append (λ (x : Entry). replicate x.steps x.act) front (e ∷ rest)
    ∙ ap (λ l. schedule_of front ++ l) (flat_map-cons (λ (x : Entry). replicate x.steps x.act) e rest
    ∙ ap (λ l. l ++ later) own
    ∙ append_assoc (replicate n a) (replicate (suc k) a) later)
    ∙ sym (append_assoc (schedule_of front) (replicate n a) (a ∷ (replicate k a ++ later)))

-- from a world with these arguments a schedule leads as it does from the opening one
pub leads_from : (m : ModuleValue) (args : List ℤ) (list : List ℕ) (w : World) → Leads m list w → w.arguments ≡ args → run m list (opening m args) ≡ Through w
leads_from m args list w l given = subst (λ xs. run m list (opening m xs) ≡ Through w) given l.1

module _ (m : ModuleValue) (args : List ℤ) (log : List Entry) where
  -- where an entry is the first that holds a step which isn't enabled, no part of the log that has it is legal
  stopped_part : (i j : ℕ) (w : World) → IsStoppedAt m args log i → i < j → run m (schedule_of (take j log)) (opening m args) ≡ Through w → ⊥
  stopped_part i j w s lt through =
      let e = s.entry in
      let split = split_before log i j e s.there lt in
      let k = e.steps - (s.done + 1) in
      let front = schedule_of (take i log) ++ replicate s.done e.act in
      let rest = replicate k e.act ++ schedule_of split.0 in
      let whole : schedule_of (take j log) ≡ front ++ e.act ∷ rest =
      ap schedule_of split.1 ∙ schedule_in_parts (take i log) split.0 e s.done k (omega (arith, s.left)) in
      barred m front rest e.act (opening m args) s.last w (leads_from m args front s.last s.leads s.given) s.blocked
      (ap (λ l. run m l (opening m args)) (sym whole) ∙ through)

  -- nor is the log
  stopped_all : (i : ℕ) (w : World) → IsStoppedAt m args log i → run m (schedule_of log) (opening m args) ≡ Through w → ⊥
  stopped_all i w s through =
      stopped_part i (length log) w s (slice_get_within log i s.entry s.there)
      (ap (λ l. run m (schedule_of l) (opening m args)) (take_all (length log) log (omega arith)) ∙ through)

  -- what stands before the entry is legal
  stopped_front : (i : ℕ) → IsStoppedAt m args log i → (w : World) × (run m (schedule_of (take i log)) (opening m args) ≡ Through w)
  stopped_front i s =
      let own = replicate s.done s.entry.act in
      legal_front m (schedule_of (take i log)) own (opening m args) s.last
      (leads_from m args (schedule_of (take i log) ++ own) s.last s.leads s.given)

  stopped_not_later : (i j : ℕ) → IsStoppedAt m args log i → IsStoppedAt m args log j → i < j → ⊥
  stopped_not_later i j s t lt = let before = stopped_front j t in stopped_part i j before.0 s lt before.1

  stopped_once : (i j : ℕ) → IsStoppedAt m args log i → IsStoppedAt m args log j → i ≡ j
  stopped_once i j s t = omega (arith, stopped_not_later i j s t, stopped_not_later j i t s)

  whole_not_unfinished : IsWhole m args log → IsUnfinished m args log → ⊥
  whole_not_unfinished r u =
      let here = leads_from m args (schedule_of log) r.last r.leads r.given in
      let there = leads_from m args (schedule_of log) u.last u.leads u.given in
      true≢false (sym r.over ∙ ap all_ended (same_through r.last u.last (sym here ∙ there)) ∙ u.goes_on)

  whole_not_stopped : (i : ℕ) → IsWhole m args log → IsStoppedAt m args log i → ⊥
  whole_not_stopped i r s = stopped_all i r.last s (leads_from m args (schedule_of log) r.last r.leads r.given)

  unfinished_not_stopped : (i : ℕ) → IsUnfinished m args log → IsStoppedAt m args log i → ⊥
  unfinished_not_stopped i u s = stopped_all i u.last s (leads_from m args (schedule_of log) u.last u.leads u.given)

  pub one_verdict : (v w : Verdict) → Says m args log v → Says m args log w → v ≡ w
  one_verdict Whole Whole p q = refl
  one_verdict Whole (Stopped j) p q = absurd (whole_not_stopped j p q)
  one_verdict Whole Unfinished p q = absurd (whole_not_unfinished p q)
  one_verdict (Stopped i) Whole p q = absurd (whole_not_stopped i q p)
  one_verdict (Stopped i) (Stopped j) p q = ap Stopped (stopped_once i j p q)
  one_verdict (Stopped i) Unfinished p q = absurd (unfinished_not_stopped i q p)
  one_verdict Unfinished Whole p q = absurd (whole_not_unfinished q p)
  one_verdict Unfinished (Stopped j) p q = absurd (unfinished_not_stopped j p q)
  one_verdict Unfinished Unfinished p q = refl

  -- in a legal log no step isn't enabled
  pub legal_not_stopped : (i : ℕ) → IsLegal m args log → IsStoppedAt m args log i → ⊥
  legal_not_stopped i r s = stopped_all i r.last s (leads_from m args (schedule_of log) r.last r.leads r.given)

  -- ---- what is told

  -- what stops a log is a fault of it
  pub stop_told : (f : ReplayFault) → IsStop m args log f → IsFaultOf m args log f
  stop_told (fault.NotEnabled i) s = s
  stop_told fault.NotEnded s = absurd s
  stop_told fault.OutOfMemory s = s

  pub fault_of_whole : (f : ReplayFault) → IsFaultOf m args log f → IsWhole m args log → f ≡ fault.OutOfMemory
  fault_of_whole (fault.NotEnabled i) told r = absurd (whole_not_stopped i r told)
  fault_of_whole fault.NotEnded told r = absurd (whole_not_unfinished r told)
  fault_of_whole fault.OutOfMemory told r = refl

  pub fault_of_stopped : (i : ℕ) (f : ReplayFault) → IsFaultOf m args log f → IsStoppedAt m args log i → (f ≡ fault.NotEnabled i) ⊎ (f ≡ fault.OutOfMemory)
  fault_of_stopped i (fault.NotEnabled j) told s = inl (ap fault.NotEnabled (stopped_once j i told s))
  fault_of_stopped i fault.NotEnded told s = absurd (unfinished_not_stopped i told s)
  fault_of_stopped i fault.OutOfMemory told s = inr refl

  pub fault_of_unfinished : (f : ReplayFault) → IsFaultOf m args log f → IsUnfinished m args log → (f ≡ fault.NotEnded) ⊎ (f ≡ fault.OutOfMemory)
  fault_of_unfinished (fault.NotEnabled j) told u = absurd (unfinished_not_stopped j u told)
  fault_of_unfinished fault.NotEnded told u = inl refl
  fault_of_unfinished fault.OutOfMemory told u = inr refl

  -- what stops a legal log is want of memory
  pub stop_of_legal : (f : ReplayFault) → IsStop m args log f → IsLegal m args log → f ≡ fault.OutOfMemory
  stop_of_legal (fault.NotEnabled i) told r = absurd (legal_not_stopped i r told)
  stop_of_legal fault.NotEnded told r = absurd told
  stop_of_legal fault.OutOfMemory told r = refl

  -- the log of a whole run is refused for want of memory alone
  pub answer_whole : {X Y : Type 0} (r : Result X (Y × ReplayFault)) → IfErr r (λ f. IsFaultOf m args log f.1) → IsWhole m args log → IfErr r (λ f. f.1 ≡ fault.OutOfMemory)
  answer_whole (Ok x) told p = tt
  answer_whole (Err f) told p = fault_of_whole f.1 told p

  -- where an entry is the first that holds a step which isn't enabled, it is told
  pub answer_stopped : {X Y : Type 0} (i : ℕ) (r : Result X (Y × ReplayFault)) → IfOk r (λ x. IsWhole m args log) → IfErr r (λ f. IsFaultOf m args log f.1)
      → IsStoppedAt m args log i → Fails (fault.NotEnabled i) r
  answer_stopped i (Ok x) ok told s = whole_not_stopped i ok s
  answer_stopped i (Err f) ok told s = fault_of_stopped i f.1 told s

  -- where the log stops before the run does, that is told
  pub answer_unfinished : {X Y : Type 0} (r : Result X (Y × ReplayFault)) → IfOk r (λ x. IsWhole m args log) → IfErr r (λ f. IsFaultOf m args log f.1)
      → IsUnfinished m args log → Fails fault.NotEnded r
  answer_unfinished (Ok x) ok told u = whole_not_unfinished ok u
  answer_unfinished (Err f) ok told u = fault_of_unfinished f.1 told u
