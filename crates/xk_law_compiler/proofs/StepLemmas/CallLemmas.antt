-- A call, the start of an activity, and the end of a method or a body.
use Rattle.std.proofs.Common.{◌≡◌, ℕ, ◌+◌, ◌==◌, Bool, cond, List, [], ◌∷◌, ◌++◌, length, Some, Option, refl, sym, ap, ◌∙◌, subst, inl}
use Rattle.std.specs.Prelude.{slice_get, slice_set, replicate, ◌-◌}
use Rattle.std.proofs.lemmas.List.Elements.{recursion_from_All}
use Rattle.xk_types.specs.declared.instr.Instr.TheVariants as instr
use Rattle.xk_types.specs.declared.world.Value.TheVariants as value
use Rattle.xk_types.specs.declared.world.Event.TheVariants as event
use Rattle.xk_types.specs.Code.{is_method, is_body}
use Rattle.xk_types.specs.World.{Frame, Finish as Governor, instruction_at, frame_with, slots_of}
use Rattle.xk_types.specs.Step.{Stepped, done, none, all, dropped, onward, ended, returning, back_in, called, calling, child, spawning, is_given, settled, joined, run_at}
use Rattle.xk_types.proofs.ListLemmas.{fun_ext}
use Rattle.xk_tree.specs.Tree.{Word, Expression, Clocks, Statement, Block, Async, Call}
use Rattle.xk_names.specs.Uses.{clocks_listed}
use Rattle.xk_emit.specs.CodeOf.{number_of, slots_of as slots_among, body_unit, captures_at, body_params, argument_slots}
use Rattle.xk_emit.specs.Unit.{scope_from, first_temporary, unit_of_body, names_of_params, kinds_of_params, body_kinds}
use Rattle.xk_emit.specs.NameCoverage.{IsFound, IsKnown}
use Rattle.xk_source_semantics.specs.Parts.{OfMethod, OfBody}
use Rattle.xk_source_semantics.specs.Compilation.{method_kind, unit_of_part}
use Rattle.xk_source_semantics.specs.Source.{Todo, Do, named, Doing, unfolded_all, left_with, invoked, invoking, begun, starting, over}
use Rattle.xk_law_compiler.proofs.ExpressionLemmas.{args_keep}
use Rattle.xk_law_compiler.proofs.PairwiseLemmas.{Pairs}
use Rattle.xk_law_compiler.proofs.WorldLemmas.{both_move, both_start}
use Rattle.xk_law_compiler.proofs.UnitEntryLemmas.{known_named, matched_known, unit_rest}
use Rattle.xk_law_compiler.proofs.StepLemmas.ActivityLemmas.{Waits, IsAs, RunningPair, Good, its_code, source_runs, stage_of, goes, at_place}
use Rattle.xk_law_compiler.proofs.StepLemmas.ArgumentLemmas.{by_kind, given_all, args_length, all_handed}
use Rattle.xk_law_compiler.proofs.StepLemmas.FirstPartLemmas.{Ready, ready_at, ready_below, ready_matched, nothing_ran, between_after}

module _ (pair : RunningPair) where
  open pair use {cx, built, w, v, a, rel, act, call, like, running}

  pub decide_call : (f : Word) (at : ℕ) (es : List Expression) (rest : List Todo) → call.frame.todo ≡ Do (Call f at es) ∷ rest
      → Ready pair (Call f at es) rest
      → Good pair (run_at cx.m w a act (instruction_at cx.m act.frame))
  decide_call f at es rest e r =
      let d = r.stands.linked.0 in
      let u = number_of cx.setting.methods f in
      let unit = built.methods u d r.stands.linked.2 in
      let xs = names_of_params d.params in
      let args = argument_slots r.scope r.t es in
      let i = instr.Call u args in
      let held = ready_matched pair (Call f at es) rest r (args_keep r.scope r.t es r.start act.frame.slots r.ran) in
      let back = between_after pair (Call f at es) rest r i refl refl (args_keep r.scope r.t es r.start act.frame.slots r.ran) in
      at_place pair i (ready_at pair (Call f at es) rest r i [] refl)
      (subst (λ o. Good pair (calling cx.m w a act u args o)) (sym unit.found)
      (by_kind pair (unit_of_part cx.setting (OfMethod d)) (is_method (method_kind d)) args (kinds_of_params d.params) refl _ (λ vals are.
      both_move cx.tree (IsAs cx) w v a rel (called cx.m act u vals) (invoked call rest d.body (named d.params vals)) none event.Local
      (source_runs pair (Do (Call f at es) ∷ rest) e ∙ (ap (invoking v a call rest es) r.stands.linked.1
      ∙ given_all pair d.params es r.scope r.t r.start vals (ready_below pair (Call f at es) rest r) (recursion_from_All (IsKnown r.scope) es r.stands.covered.1)
      r.matched held r.ran are (λ names. done v a (invoked call rest d.body names) none event.Local)))
      (record {
        status = like.status;
        opened = like.opened;
        governed = like.governed;
        part = OfMethod d;
        placed = unit.placed;
        found = unit.found;
        stage = stage_of pair (OfMethod d) act.status (frame_with cx.m u vals) (record { todo = unfolded_all d.body; names = named d.params vals }) running
            (inl (record {
              t = first_temporary xs (Block d.close d.body);
              scope = scope_from 0 xs;
              matched = matched_known xs vals (replicate (slots_of cx.m u - length vals) value.Unset) (named d.params vals)
                  (known_named [] 0 d.params vals (args_length pair d.params args vals are) unit.covered.params);
              rest = unit_rest cx (OfMethod d) xs refl unit.covered unit.linked;
            }));
        callers = (
          record {
            part = like.part;
            placed = like.placed;
            found = like.found;
            callee = u;
            arguments = args;
            calls = ready_at pair (Call f at es) rest r i [] refl;
            between = back;
          },
          like.callers,
        );
      }))))

  pub decide_async : (at : ℕ) (cs : Option Clocks) (s : Statement) (rest : List Todo) → call.frame.todo ≡ Do (Async at cs s) ∷ rest
      → Ready pair (Async at cs s) rest
      → Good pair (run_at cx.m w a act (instruction_at cx.m act.frame))
  decide_async at cs s rest e r =
      let ws = clocks_listed cs in
      let xs = captures_at cx.setting at in
      let ps = body_params cx.setting at cs in
      let u = body_unit cx.setting at in
      let unit = unit_of_body cx.setting at cs s in
      let args = slots_among r.scope ps in
      let i = instr.Spawn u args in
      let held = ready_matched pair (Async at cs s) rest r (nothing_ran pair r.start r.ran r.t) in
      at_place pair i (ready_at pair (Async at cs s) rest r i [] refl)
      (subst (λ o. Good pair (spawning cx.m w a act u args o)) (sym r.stands.linked.0)
      (by_kind pair unit (is_body unit.kind) args (body_kinds cx.setting at cs) refl _ (λ vals are.
      let h = all_handed pair r.scope ws xs vals (recursion_from_All (IsFound r.scope) ps r.stands.covered.1) held are in
      both_start cx.tree (IsAs cx) w v a rel (onward act) (left_with call rest) (child cx.m a act u vals) (begun a call s) (is_given vals)
      (source_runs pair (Do (Async at cs s) ∷ rest) e ∙ (h.source (starting v a call rest s)
      ∙ ap (λ (g : ℕ → Bool). Stepped (settled (record v { activities = slice_set v.activities a (left_with call rest) ++ begun a call s ∷ []; clocks = joined a g v.clocks }))
      event.Spawned) (fun_ext (is_given h.clocks) (is_given vals) (λ c. sym (h.same c)))))
      (goes pair (act.frame.place + 1) act.frame.slots rest call.frame.names (inl (between_after pair (Async at cs s) rest r i refl refl (nothing_ran pair r.start r.ran r.t))))
      (record {
        status = refl;
        opened = refl;
        governed = ap (λ (n : ℕ). cond (n == 0) act.governed (record { owner = Some a; depth = n })) like.opened
            ∙ ap (λ (f : Governor). cond (call.opened == 0) f (record { owner = Some a; depth = call.opened })) like.governed;
        part = OfBody at cs s;
        placed = r.stands.linked.1;
        found = r.stands.linked.0;
        stage = inl (record {
          t = first_temporary ps s;
          scope = scope_from 0 ps;
          matched = matched_known ps vals (replicate (slots_of cx.m u - length vals) value.Unset) call.frame.names h.known;
          rest = unit_rest cx (OfBody at cs s) ps refl r.stands.linked.2 r.stands.linked.3;
        });
        callers = tt;
      }))))

  pub over_follows : call.frame.todo ≡ [] → slice_get (its_code pair) act.frame.place ≡ Some instr.Ret
      → Good pair (run_at cx.m w a act (instruction_at cx.m act.frame))
  over_follows e i = at_place pair instr.Ret i (by act.callers call.callers refl refl like.callers)
    where
      by : (fs : List Frame) (cs : List Doing) → act.callers ≡ fs → call.callers ≡ cs → Pairs (Waits cx) fs cs
          → Good pair (returning w a act fs)
      by [] [] f c h =
          both_move cx.tree (IsAs cx) w v a rel (ended act) (ended call) (all dropped) event.Ended (source_runs pair [] e ∙ ap (over v a call) c)
          (record { status = refl; opened = like.opened; governed = like.governed; part = like.part; placed = like.placed; found = like.found; stage = tt; callers = like.callers })
      by [] (d ∷ cs) f c h = absurd h
      by (g ∷ fs) [] f c h = absurd h
      by (g ∷ fs) (d ∷ cs) f c h =
          both_move cx.tree (IsAs cx) w v a rel (back_in act g fs) _ none event.Local (source_runs pair [] e ∙ ap (over v a call) c) (record {
            status = like.status;
            opened = like.opened;
            governed = like.governed;
            part = h.0.part;
            placed = h.0.placed;
            found = h.0.found;
            stage = stage_of pair h.0.part act.status (record g { place = g.place + 1 }) d running (inl h.0.between);
            callers = h.1;
          })
