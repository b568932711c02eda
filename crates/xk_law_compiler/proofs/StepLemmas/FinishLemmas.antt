-- A `finish`: its start, and its end.
use Rattle.std.proofs.Common.{◌≡◌, ℕ, zero, suc, ◌+◌, Bool, true, false, cond, List, [], ◌∷◌, ◌++◌, length, Some, refl, sym, ap, ◌∙◌, subst, arith, inl, length-append}
use Rattle.std.specs.Prelude.{slice_get}
use Rattle.xk_types.specs.declared.instr.Instr.TheVariants as instr
use Rattle.xk_types.specs.declared.world.Event.TheVariants as event
use Rattle.xk_types.specs.World.{instruction_at}
use Rattle.xk_types.specs.Step.{Blocked, done, none, entered, left, closing, awaits, innermost, run_at}
use Rattle.xk_tree.specs.Tree.{Statement, Finish}
use Rattle.xk_emit.specs.CodeOf.{behind, code_of}
use Rattle.xk_source_semantics.specs.Source.{Todo, Do, Close, unfolded, left_with, closed}
use Rattle.xk_law_compiler.proofs.WorldLemmas.{both_move, IsKin, AreKin, awaits_kin, pairs_weaker}
use Rattle.xk_law_compiler.proofs.PlaceLemmas.{is_awaited}
use Rattle.xk_law_compiler.proofs.RelationLemmas.{holds_front, holds_back, Stands, Rest, rest_here, rest_scope}
use Rattle.xk_law_compiler.proofs.StepLemmas.ActivityLemmas.{Between, IsAs, RunningPair, Good, its_code, source_runs, goes_open, at_place}
use Rattle.xk_law_compiler.proofs.StepLemmas.FirstPartLemmas.{Ready, ready_at, ready_matched, nothing_ran}

module _ (pair : RunningPair) where
  open pair use {cx, w, v, a, rel, act, call, like}

  pub decide_finish : (at : ℕ) (s : Statement) (rest : List Todo) → call.frame.todo ≡ Do (Finish at s) ∷ rest
      → Ready pair (Finish at s) rest
      → Good pair (run_at cx.m w a act (instruction_at cx.m act.frame))
  decide_finish at s rest e r =
      let body = code_of cx.setting r.t r.scope r.n (r.first + 1) s in
      let q = r.first + 1 + length body in
      let i = instr.Finish q in
      let tail = body ++ instr.EndFinish r.first ∷ [] in
      let end = holds_back (its_code pair) (r.first + 1) body (instr.EndFinish r.first ∷ []) r.stands.holds.1 in
      let here_at : r.first ≡ act.frame.place = (let at = r.at in omega arith) in
      let behind : r.first + length (i ∷ tail) ≡ q + 1 = omega (arith, length-append body (instr.EndFinish r.first ∷ [])) in
      let last : Rest cx r.t like.part r.scope (q + 1) rest = subst (λ p. Rest cx r.t like.part r.scope p rest) behind r.after in
      let room = r.stands.room in
      let stands : Stands cx r.t like.part r.scope r.n (r.first + 1) s = record {
        lies = is_awaited r.first at s r.stands.lies;
        holds = holds_front (its_code pair) (r.first + 1) body (instr.EndFinish r.first ∷ []) r.stands.holds.1;
        covered = r.stands.covered;
        linked = r.stands.linked;
        proper = r.stands.proper;
        room = omega arith;
      } in
      at_place pair i (ready_at pair (Finish at s) rest r i tail refl)
      (both_move cx.tree (IsAs cx) w v a rel (entered act) _ none event.Opened (source_runs pair (Do (Finish at s) ∷ rest) e)
      (goes_open pair (act.frame.place + 1) act.frame.slots (unfolded s ++ Close ∷ rest) call.frame.names (act.opened + 1) (call.opened + 1) (ap (λ n. n + 1) like.opened)
      (inl (record {
        t = r.t;
        scope = r.scope;
        matched = ready_matched pair (Finish at s) rest r (nothing_ran pair r.start r.ran r.t);
        rest = subst (λ p. Rest cx r.t like.part r.scope (p + 1) (unfolded s ++ Close ∷ rest)) here_at
            (rest_scope cx r.t like.part r.scope r.n (r.first + 1) q s (Close ∷ rest) stands refl
            (rest_here cx r.t like.part r.scope q (Close ∷ rest) (r.first, end.0, last)));
      }))))

  kin : AreKin w.activities v.activities
  kin = pairs_weaker (IsAs cx) IsKin (λ x y h. record { status = h.status; governed = h.governed }) w.activities v.activities rel.activities

  pub close_follows : (rest : List Todo) → call.frame.todo ≡ Close ∷ rest → (b : ℕ)
      → slice_get (its_code pair) act.frame.place ≡ Some (instr.EndFinish b)
      → Between cx like.part (act.frame.place + 1) act.frame.slots rest call.frame.names
      → Good pair (run_at cx.m w a act (instruction_at cx.m act.frame))
  close_follows rest e b i next = at_place pair (instr.EndFinish b) i (by act.opened refl)
    where
      same : awaits w.activities (innermost a act) ≡ awaits v.activities (innermost a call)
      same =
          awaits_kin w.activities v.activities (innermost a act) 0 w.activities v.activities kin kin
          ∙ ap (λ (n : ℕ). awaits v.activities (record { owner = Some a; depth = n })) like.opened

      test : (n : ℕ) → act.opened ≡ suc n → (c : Bool) → awaits w.activities (innermost a act) ≡ c
          → Good pair (cond c Blocked (done w a (left act n) none event.Closed))
      test n o true g = tt
      test n o false g =
          both_move cx.tree (IsAs cx) w v a rel (left act n) _ none event.Closed
          (source_runs pair (Close ∷ rest) e ∙ (ap (closed v a call rest) (sym like.opened ∙ o)
          ∙ ap (λ c. cond c Blocked (done v a (record (left_with call rest) { opened = n }) none event.Closed)) (sym same ∙ g)))
          (goes_open pair (act.frame.place + 1) act.frame.slots rest call.frame.names n n refl (inl next))

      by : (n : ℕ) → act.opened ≡ n → Good pair (closing w a act n)
      by zero o = tt
      by (suc n) o = test n o (awaits w.activities (innermost a act)) refl
