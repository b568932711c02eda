-- A log is played again, step by step and entry by entry.
use Rattle.std.proofs.Common.{◌≡◌, ◌∙◌, ℕ, ℤ, ◌+◌, ◌<◌, Bool, true, false, List, [], ◌∷◌, ◌++◌, length, replicate, take, get_or, sym, ap, subst}
use Rattle.std.specs.Option.{option_to_list}
use Rattle.std.proofs.Math.Seq.{take-suc}
use Rattle.std.proofs.lemmas.List.{append_assoc, append-nil, replicate-append-replicate}
use Rattle.std.proofs.lemmas.List.Concat.{flat_map-append, flat_map-cons}
use Rattle.std.proofs.lemmas.Option.{slice_get-get_or}
use Rattle.std.proofs.Common.{add-one}
use Rattle.xk_types.specs.declared.world.Entry.{Entry}
use Rattle.xk_types.specs.declared.world.Event.{Event}
use Rattle.xk_types.specs.Code.{ModuleValue}
use Rattle.xk_types.specs.World.{opening, AreArguments}
use Rattle.xk_types.specs.Step.{Stepped, step}
use Rattle.xk_types.specs.Schedule.{Through, run, is_enabled, number_printed, printed}
use Rattle.xk_types.specs.Logs.{schedule_of}
use Rattle.xk_law_schedules.proofs.ReachabilityLemmas.{run_more, run_arguments}
use Rattle.xk_core.specs.Core.{CoreValue}
use Rattle.xk_scheduler.specs.LoggedRuns.{IsRunOf}
use Rattle.xk_core.specs.LocalRun.{RunsTo, IsUnseen}
use Rattle.xk_scheduler.proofs.ChooserScheduleLemmas.{printed_more, printed_unseen}
use Rattle.xk_scheduler.proofs.TurnLemmas.{leads_with, run_of}
use Rattle.xk_scheduler.proofs.RunSequenceLemmas.{run_then}
use Rattle.xk_replay.specs.Replay.{IsSoFar, GoesOn, IsHeld, IsRepeated, IsStoppedAt}

-- ---- by a step

so_far_more : (args : List ℤ) (list : List ℕ) (numbers : List ℤ) (c d : CoreValue) (a : ℕ) (e : Event)
    → IsSoFar args list numbers c → step c.module_run c.world a ≡ Stepped d.world e → d.module_run ≡ c.module_run
    → IsSoFar args (list ++ a ∷ []) (numbers ++ option_to_list (number_printed e)) d
so_far_more args list numbers c d a e s stepped same = record {
  taken = subst (λ m. AreArguments m args) (sym same) s.taken;
  leads = subst (λ m. run m (list ++ a ∷ []) (opening m args) ≡ Through d.world) (sym same)
      (run_more c.module_run list (opening c.module_run args) c.world d.world a e s.leads stepped);
  prints = subst (λ m. numbers ++ option_to_list (number_printed e) ≡ printed m (list ++ a ∷ []) (opening m args)) (sym same)
      (ap (λ l. l ++ option_to_list (number_printed e)) s.prints
      ∙ sym (printed_more c.module_run list (opening c.module_run args) c.world d.world a e s.leads stepped));
}

-- no step of an entry was taken yet
pub goes_none : (c : CoreValue) (numbers : List ℤ) (a : ℕ) → GoesOn c numbers a 0 c numbers
goes_none c numbers a args list s = subst (λ l. IsSoFar args l numbers c) (sym (append-nil list)) s

one_more : (list : List ℕ) (n a : ℕ) → list ++ replicate n a ++ a ∷ [] ≡ list ++ replicate (n + 1) a
one_more list n a = append_assoc list (replicate n a) (a ∷ []) ∙ ap (λ l. list ++ l) (replicate-append-replicate n 1 a)

-- one step of it more
pub goes_more : (c d x : CoreValue) (numbers more : List ℤ) (a n : ℕ) (e : Event)
    → GoesOn c numbers a n d more → step d.module_run d.world a ≡ Stepped x.world e → x.module_run ≡ d.module_run
    → GoesOn c numbers a (n + 1) x (more ++ option_to_list (number_printed e))
goes_more c d x numbers more a n e goes stepped same args list s =
    subst (λ l. IsSoFar args l (more ++ option_to_list (number_printed e)) x) (one_more list n a)
    (so_far_more args (list ++ replicate n a) more d x a e (goes args list s) stepped same)

-- some steps of it more, of which nothing is seen
pub goes_unseen : (c d x : CoreValue) (numbers more : List ℤ) (a n k : ℕ)
    → GoesOn c numbers a n d more → RunsTo d a k x → IsUnseen d a k → x.module_run ≡ d.module_run → GoesOn c numbers a (n + k) x more
goes_unseen c d x numbers more a n k goes runs unseen same args list s =
    let m = d.module_run in
    let before = list ++ replicate n a in
    let so_far = goes args list s in
    subst (λ l. IsSoFar args l more x) (append_assoc list (replicate n a) (replicate k a) ∙ ap (λ l. list ++ l) (replicate-append-replicate n k a))
    record {
      taken = subst (λ k2. AreArguments k2 args) (sym same) so_far.taken;
      leads = subst (λ k2. run k2 (before ++ replicate k a) (opening k2 args) ≡ Through x.world) (sym same)
          (run_then m before (replicate k a) (opening m args) d.world so_far.leads ∙ runs);
      prints = subst (λ k2. more ≡ printed k2 (before ++ replicate k a) (opening k2 args)) (sym same)
          (so_far.prints ∙ sym (printed_unseen m before (replicate k a) (opening m args) d.world so_far.leads unseen));
    }

-- as many as another number says
pub goes_as : (c : CoreValue) (numbers : List ℤ) (a n m : ℕ) (d : CoreValue) (more : List ℤ) → n ≡ m → GoesOn c numbers a n d more → GoesOn c numbers a m d more
goes_as c numbers a n m d more e goes = subst (λ k. GoesOn c numbers a k d more) e goes

-- ---- by an entry

-- the schedule of one entry more
schedule_more : (log : List Entry) (i : ℕ) (d : Entry) → i < length log
    → schedule_of (take (i + 1) log) ≡ schedule_of (take i log) ++ replicate (get_or log i d).steps (get_or log i d).act
schedule_more log i d lt =
    let e = get_or log i d in
    let more : take (i + 1) log ≡ take i log ++ e ∷ [] = rw add-one (take-suc log i d lt) in
    ap schedule_of more
    ∙ flat_map-append (λ (x : Entry). replicate x.steps x.act) (take i log) (e ∷ [])
    ∙ ap (λ l. schedule_of (take i log) ++ l) (flat_map-cons (λ (x : Entry). replicate x.steps x.act) e [] ∙ append-nil (replicate e.steps e.act))

run_so_far : (m : ModuleValue) (log : List Entry) (numbers : List ℤ) (c : CoreValue) → IsRunOf m log numbers c → IsSoFar c.world.arguments (schedule_of log) numbers c
run_so_far m log numbers c r = record {
  taken = subst (λ k. AreArguments k c.world.arguments) (sym r.module_is) r.leads.0;
  leads = subst (λ k. run k (schedule_of log) (opening k c.world.arguments) ≡ Through c.world) (sym r.module_is) r.leads.1;
  prints = subst (λ k. numbers ≡ printed k (schedule_of log) (opening k c.world.arguments)) (sym r.module_is) r.prints;
}

-- all entries before this one were carried out, and so is this one
pub entry_more : (m : ModuleValue) (log : List Entry) (i : ℕ) (z : Entry) (numbers more : List ℤ) (c d : CoreValue) → i < length log
    → IsRunOf m (take i log) numbers c → GoesOn c numbers (get_or log i z).act (get_or log i z).steps d more → d.module_run ≡ c.module_run
    → IsRunOf m (take (i + 1) log) more d × (d.world.arguments ≡ c.world.arguments)
entry_more m log i z numbers more c d lt r goes same =
    let is = same ∙ r.module_is in
    let args = c.world.arguments in
    let s = goes args (schedule_of (take i log)) (run_so_far m (take i log) numbers c r) in
    let e = get_or log i z in
    let front = schedule_of (take i log) ++ replicate e.steps e.act in
    let list = sym (schedule_more log i z lt) in (
      run_of m args (take (i + 1) log) more d is (subst (λ k. AreArguments k args) is s.taken)
          (subst (λ l. run m l (opening m args) ≡ Through d.world) list (subst (λ k. run k front (opening k args) ≡ Through d.world) is s.leads))
          (subst (λ l. more ≡ printed m l (opening m args)) list (subst (λ k. more ≡ printed k front (opening k args)) is s.prints)),
      run_arguments d.module_run front (opening d.module_run args) d.world s.leads,
    )

-- this one is held up
pub entry_held : (m : ModuleValue) (log : List Entry) (i : ℕ) (z : Entry) (numbers more : List ℤ) (c d : CoreValue) → i < length log
    → IsRunOf m (take i log) numbers c → IsHeld c numbers (get_or log i z) d more → d.module_run ≡ c.module_run
    → IsStoppedAt m c.world.arguments log i
entry_held m log i z numbers more c d lt r h same =
    let is = same ∙ r.module_is in
    let e = get_or log i z in
    let args = c.world.arguments in
    let s = h.goes args (schedule_of (take i log)) (run_so_far m (take i log) numbers c r) in
    let front = schedule_of (take i log) ++ replicate h.done e.act in
    let led = leads_with m args front d.world (subst (λ k. AreArguments k args) is s.taken) (subst (λ k. run k front (opening k args) ≡ Through d.world) is s.leads) in
    record {
      entry = e;
      there = slice_get-get_or log i z lt;
      done = h.done;
      left = h.left;
      last = d.world;
      leads = led.0;
      given = led.1;
      blocked = subst (λ k. is_enabled k d.world e.act ≡ false) is h.blocked;
    }

-- ---- what became of an entry

pub was_held : (c d : CoreValue) (numbers more : List ℤ) (e : Entry) (all : Bool) → all ≡ false → IsRepeated c numbers e d more all → IsHeld c numbers e d more
was_held c d numbers more e false h r = r
was_held c d numbers more e true h r = cc

pub was_taken : (c d : CoreValue) (numbers more : List ℤ) (e : Entry) (all : Bool) → all ≡ true → IsRepeated c numbers e d more all
    → GoesOn c numbers e.act e.steps d more
was_taken c d numbers more e true h r = r
was_taken c d numbers more e false h r = cc
