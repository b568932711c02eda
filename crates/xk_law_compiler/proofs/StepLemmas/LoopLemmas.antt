-- A loop: its head, and the end of a turn.
use Rattle.std.proofs.Common.{◌≡◌, ℕ, ◌+◌, ◌<◌, ◌≤◌, Bool, true, false, cond, List, [], ◌∷◌, ◌++◌, length, ℤ, pos, ◌+ℤ◌, int_lt, int_le, Some, None, Option, refl, sym, ap, ◌∙◌, subst, arith, length-append}
use Rattle.std.specs.Prelude.{slice_get, slice_set}
use Rattle.std.specs.Int.{int_min}
use Rattle.std.specs.Option.{option_and_then}
use Rattle.std.proofs.lemmas.Option.{same_Some}
use Rattle.xk_names.proofs.TableLemmas.{none_there}
use Rattle.xk_types.specs.declared.instr.Instr.TheVariants as instr
use Rattle.xk_types.specs.declared.world.Value.{Value as Held}
use Rattle.xk_types.specs.declared.world.Value.TheVariants as value
use Rattle.xk_types.specs.declared.world.Event.TheVariants as event
use Rattle.xk_types.specs.Code.{loop_head}
use Rattle.xk_types.specs.World.{instruction_at}
use Rattle.xk_types.specs.Step.{Outcome, done, none, onward, going, slot_at, number_in, writing, no_further, turning, again, run_at}
use Rattle.xk_types.proofs.ListLemmas.{get-set_other}
use Rattle.xk_tree.specs.declared.tree.Number.{Number}
use Rattle.xk_tree.specs.Tree.{Word, Expression, Bound, UpTo, Least, top, Statement, For}
use Rattle.xk_names.specs.Scope.{find, is_text}
use Rattle.xk_emit.specs.CodeOf.{Scope, behind, before_into, last_into, loop_slots, within_loop, before_bound, head_of, before, code_of}
use Rattle.xk_emit.specs.NameCoverage.{IsNew, IsKnown, IsBoundKnown, IsLoopNew}
use Rattle.xk_emit.proofs.CoverageLemmas.TableLemmas.{is_same}
use Rattle.xk_names.proofs.TableAgreementLemmas.{find_behind, or_entry}
use Rattle.xk_source_semantics.specs.Source.{Todo, Do, Turn, Names, SourceActivity, SourceOutcome, value_of, unfolded, left_with, knowing, limited, looped, source_step}
use Rattle.xk_law_compiler.proofs.ExpressionLemmas.{number_there, number_is, number_held, exec, exec_parts, exec_one, number_written, other_written, ComesTo, IsMatched, below_more, still_matched, into_keeps, into_gives}
use Rattle.xk_law_compiler.proofs.PlaceLemmas.{is_turn}
use Rattle.xk_law_compiler.proofs.RelationLemmas.{HoldsAt, holds_front, holds_back, push_proper, Stands, EndsLoop, StandsTurn, Rest, rest_wider, rest_here, limit_of, IsLimit, IsProper, push_within, loop_within, loop_proper, rest_scope, matched_push, matched_name, matched_set}
use Rattle.xk_law_compiler.proofs.StepLemmas.ActivityLemmas.{RunningPair, Good, its_code, source_runs, at_place, moves}
use Rattle.xk_law_compiler.proofs.StepLemmas.OperandLemmas.{number_follows, put_follows}
use Rattle.xk_law_compiler.proofs.StepLemmas.FirstPartLemmas.{Ready}

-- a name that was added is there
pushed_there : (scope : Scope) (x : List ℕ) (n : ℕ) → IsNew scope x → find (scope ++ (x, n) ∷ []) x ≡ Some n
pushed_there scope x n new =
    find_behind scope x n x ∙ (ap (λ o. or_entry o (is_text x x) n) (none_there (find scope x) new) ∙ ap (λ b. or_entry None b n) (is_same x))

module _ (pair : RunningPair) where
  open pair use {cx, w, v, a, act, call, like}

  -- the number that a loop goes no further than, and what the source takes for it
  limit_follows : (scope : Scope) (x : Option Word) (o : Option ℕ) (hi : ℤ) (go : ℤ → Outcome)
      → IsMatched scope call.frame.names act.frame.slots
      → IsLimit scope x o
      → ((most : ℤ) → ((sgo : ℤ → SourceOutcome) → limited call.frame.names x hi sgo ≡ sgo most) → Good pair (go most))
      → Good pair (no_further act o hi go)
  limit_follows scope None None hi go held at h = h hi (λ sgo. refl)
  limit_follows scope None (Some d) hi go held at h = absurd at
  limit_follows scope (Some x) None hi go held at h = absurd at
  limit_follows scope (Some x) (Some d) hi go held at h =
      number_follows pair (slot_at act d) _ (λ n g. h (int_min n hi) (λ sgo. ap (λ o. number_in o (λ k. sgo (int_min k hi))) (held x.text d at ∙ number_is (slot_at act d) n g)))

  -- a loop whose head it stands at
  record Round (i : Word) (lo : ℤ) (b : Bound) (s : Statement) (rest : List Todo) (scope : Scope) (n t : ℕ) (start : List Held) : Type 0 where
    q : ℕ
    proper : IsProper scope n
    known : IsBoundKnown scope b
    new : IsLoopNew scope n i b
    room : n + loop_slots b ≤ t
    matched : IsMatched scope call.frame.names start
    ran : exec (before_bound scope t n b) start ≡ Some act.frame.slots
    head : slice_get (its_code pair) act.frame.place ≡ Some (head_of n lo b q)
    -- within, and behind it
    inside : Rest cx t like.part (within_loop scope n i b) (act.frame.place + 1) (unfolded s ++ Turn i (limit_of b) (top b) s ∷ rest)
    after : Rest cx t like.part scope (q + 1) rest

  -- what the limit comes to is in its slot, and those before it are as they were
  record IsLimited (scope : Scope) (n t : ℕ) (e : Expression) (start : List Held) : Type 0 where
    p : ℤ
    gives : ComesTo call.frame.names e p
    holds : number_held (slot_at act (n + 1)) ≡ Some p
    keeps : (k : ℕ) → k < n → slice_get act.frame.slots k ≡ slice_get start k

  limit_is : (scope : Scope) (n t : ℕ) (e : Expression) (start : List Held) → IsProper scope n → IsKnown scope e → n + 2 ≤ t
      → IsMatched scope call.frame.names start
      → exec (before_into scope t e ++ last_into scope t e (n + 1) ∷ []) start ≡ Some act.frame.slots
      → IsLimited scope n t e start
  limit_is scope n t e start proper known room matched ran =
      let slots = act.frame.slots in
      let last = last_into scope t e (n + 1) in
      let a = exec_parts (before_into scope t e) (last ∷ []) start slots ran in
      let p = into_gives scope call.frame.names t e (n + 1) start a.0 slots (below_more scope n t (omega arith) proper.below) known matched a.1 (exec_one last a.0 slots a.2) in
      record {
        p = p.n;
        gives = p.gives;
        holds = number_written a.0 slots (n + 1) p.n p.old p.there p.made;
        keeps = λ k lt. other_written a.0 slots (n + 1) k _ p.made (λ g. omega arith) ∙ into_keeps scope t e start a.0 a.1 k (omega arith);
      }

  round_follows : (i : Word) (lo : ℤ) (b : Bound) (s : Statement) (rest : List Todo) (scope : Scope) (n t : ℕ) (start : List Held)
      → Round i lo b s rest scope n t start → source_step cx.tree v a ≡ looped v a call rest i lo b s
      → Good pair (run_at cx.m w a act (instruction_at cx.m act.frame))
  round_follows i lo (UpTo hi) s rest scope n t start r src =
      at_place pair (instr.For n lo hi.value r.q) r.head (put_follows pair (slot_at act n) n (value.Number lo) _ (λ old at.
      moves pair (act.frame.place + 1) _ (unfolded s ++ Turn i None hi.value s ∷ rest) ((i.text, value.Number lo) ∷ call.frame.names) none event.Local src
      (record {
        t = t;
        scope = scope ++ (i.text, n) ∷ [];
        matched = matched_push scope call.frame.names act.frame.slots i.text n old (value.Number lo) r.proper r.new
            (λ x k f. r.matched x k f ∙ ap (λ o. slice_get o k) (same_Some start act.frame.slots r.ran)) at;
        rest = r.inside;
      })))
  round_follows i lo (Least x vb e hi) s rest scope n t start r src =
      at_place pair (instr.ForTo n lo (n + 1) hi.value r.q) r.head
      (number_follows pair (slot_at act (n + 1)) _ (λ p g.
      let same : l.p ≡ p = same_Some l.p p (sym l.holds ∙ g) in
      by p g (int_le lo (int_min p hi.value)) refl (src ∙ (l.gives (λ k. done v a (first k (int_le lo (int_min k hi.value))) none event.Local)
      ∙ ap (λ k. done v a (first k (int_le lo (int_min k hi.value))) none event.Local) same))))
    where
      l : IsLimited scope n t e start
      l = limit_is scope n t e start r.proper r.known r.room r.matched r.ran

      held : IsMatched scope call.frame.names act.frame.slots
      held = still_matched scope n call.frame.names start act.frame.slots r.proper.below l.keeps r.matched

      -- what the source does where the limit is k
      first : ℤ → Bool → SourceActivity
      first k c = cond c (knowing (knowing call [] i (value.Number lo)) (unfolded s ++ Turn i (Some x) hi.value s ∷ rest) x (value.Number k)) (left_with call rest)

      by : (p : ℤ) → number_held (slot_at act (n + 1)) ≡ Some p → (c : Bool) → int_le lo (int_min p hi.value) ≡ c
          → source_step cx.tree v a ≡ done v a (first p (int_le lo (int_min p hi.value))) none event.Local
          → Good pair (cond c (writing act n (value.Number lo) (λ next. done w a next none event.Local)) (done w a (going act (r.q + 1)) none event.Local))
      by p g true e src =
          put_follows pair (slot_at act n) n (value.Number lo) _ (λ old at.
          let inner : Scope = scope ++ (i.text, n) ∷ [] in
          let names : Names = (i.text, value.Number lo) ∷ call.frame.names in
          let slots = slice_set act.frame.slots n (value.Number lo) in
          let there : slice_get slots (n + 1) ≡ Some (value.Number p) =
          get-set_other act.frame.slots n (n + 1) (value.Number lo) (λ h. omega arith) ∙ number_is (slot_at act (n + 1)) p g in
          moves pair (act.frame.place + 1) slots (unfolded s ++ Turn i (Some x) hi.value s ∷ rest) ((x.text, value.Number p) ∷ names) none event.Local
          (src ∙ ap (λ c. done v a (first p c) none event.Local) e)
          (record {
            t = t;
            scope = inner ++ (x.text, n + 1) ∷ [];
            matched = matched_name inner names slots x.text (n + 1) (value.Number p) (push_proper scope i.text n r.proper) r.new.1
                (matched_push scope call.frame.names act.frame.slots i.text n old (value.Number lo) r.proper r.new.0 held at) there;
            rest = r.inside;
          }))
      by p g false e src =
          moves pair (r.q + 1) act.frame.slots rest call.frame.names none event.Local (src ∙ ap (λ c. done v a (first p c) none event.Local) e)
          (record { t = t; scope = scope; matched = held; rest = r.after })

  -- the end of the loop
  turn_stands : (t : ℕ) (scope : Scope) (n first q : ℕ) (i : Word) (lo : ℤ) (b : Bound) (s : Statement) → IsLoopNew scope n i b
      → slice_get (its_code pair) first ≡ Some (head_of n lo b q) → slice_get (its_code pair) q ≡ Some (instr.Next first)
      → Stands cx t like.part (within_loop scope n i b) (n + loop_slots b) (first + 1) s
      → first + 1 + length (code_of cx.setting t (within_loop scope n i b) (n + loop_slots b) (first + 1) s) ≡ q
      → EndsLoop cx.setting like.part q i (limit_of b) (top b) s
      → StandsTurn cx t like.part (within_loop scope n i b) q i (limit_of b) (top b) s
  turn_stands t scope n first q i lo (UpTo hi) s new head next body ends of_loop = record {
    of_loop = of_loop;
    first = first;
    n = n + 1;
    head = instr.For n lo hi.value q;
    loop = record { first = first; last = q; slot = n; lo = lo; hi = hi.value; limit = None };
    next = next;
    stands = head;
    begins = refl;
    most = refl;
    counter = pushed_there scope i.text n new;
    limit = tt;
    body = body;
    ends = ends;
  }
  turn_stands t scope n first q i lo (Least x vb e hi) s new head next body ends of_loop =
      let inner : Scope = scope ++ (i.text, n) ∷ [] in
      record {
        of_loop = of_loop;
        first = first;
        n = n + 2;
        head = instr.ForTo n lo (n + 1) hi.value q;
        loop = record { first = first; last = q; slot = n; lo = lo; hi = hi.value; limit = Some (n + 1) };
        next = next;
        stands = head;
        begins = refl;
        most = refl;
        counter = push_within inner x.text (n + 1) i.text n (pushed_there scope i.text n new.0);
        limit = pushed_there inner x.text (n + 1) new.1;
        body = body;
        ends = ends;
      }

  pub decide_for : (at : ℕ) (i : Word) (lo : Number) (b : Bound) (s : Statement) (rest : List Todo)
      → call.frame.todo ≡ Do (For at i lo b s) ∷ rest → Ready pair (For at i lo b s) rest
      → Good pair (run_at cx.m w a act (instruction_at cx.m act.frame))
  decide_for at i lo b s rest e r =
      let s' = For at i lo b s in
      let inner = within_loop r.scope r.n i b in
      let first = before_bound r.scope r.t r.n b in
      let p = r.first + length first in
      let body = code_of cx.setting r.t inner (r.n + loop_slots b) (p + 1) s in
      let q = p + 1 + length body in
      let tail = head_of r.n lo.value b q ∷ (body ++ instr.Next p ∷ []) in
      let code : code_of cx.setting r.t r.scope r.n r.first s' ≡ first ++ tail = ap (λ c. cond c (first ++ tail) []) r.simple in
      let begins : before cx.setting r.scope r.t r.n s' ≡ first = ap (λ c. cond c first []) r.simple in
      let holds = holds_back (its_code pair) r.first first tail (subst (HoldsAt (its_code pair) r.first) code r.stands.holds) in
      let next = holds_back (its_code pair) (p + 1) body (instr.Next p ∷ []) holds.1 in
      let here_at : p ≡ act.frame.place = (let at = r.at in omega (arith, at, ap length begins)) in
      let behind : r.first + length (code_of cx.setting r.t r.scope r.n r.first s') ≡ q + 1 =
      omega (arith, ap length code, length-append first tail, length-append body (instr.Next p ∷ [])) in
      let fits = r.stands.covered r.simple in
      let after : Rest cx r.t like.part r.scope (q + 1) rest = subst (λ k. Rest cx r.t like.part r.scope k rest) behind r.after in
      let last : Rest cx r.t like.part inner (q + 1) rest =
      rest_wider cx r.t like.part r.scope inner (q + 1) rest (loop_within r.scope r.n i b) after in
      let room = r.stands.room in
      let stands : Stands cx r.t like.part inner (r.n + loop_slots b) (p + 1) s = record {
        lies = is_turn r.t r.scope r.n r.first at i lo b s r.simple r.stands.lies;
        holds = holds_front (its_code pair) (p + 1) body (instr.Next p ∷ []) holds.1;
        covered = fits.2;
        linked = r.stands.linked r.simple;
        proper = loop_proper r.scope r.n i b r.stands.proper;
        room = omega arith;
      } in
      let of_loop : EndsLoop cx.setting like.part q i (limit_of b) (top b) s = record {
        at = at;
        lo = lo;
        bound = b;
        turns = r.simple;
        limit = refl;
        most = refl;
        from = r.first;
        lies = r.stands.lies;
        t = r.t;
        scope = r.scope;
        n = r.n;
        ends = behind;
      } in
      let turn = turn_stands r.t r.scope r.n p q i lo.value b s fits.1 holds.0 next.0 stands refl of_loop in
      round_follows i lo.value b s rest r.scope r.n r.t r.start (record {
        q = q;
        proper = r.stands.proper;
        known = fits.0;
        new = fits.1;
        room = omega arith;
        matched = r.matched;
        ran = ap (λ is. exec is r.start) (sym begins) ∙ r.ran;
        head = subst (λ k. slice_get (its_code pair) k ≡ Some (head_of r.n lo.value b q)) here_at holds.0;
        inside = subst (λ k. Rest cx r.t like.part inner (k + 1) (unfolded s ++ Turn i (limit_of b) (top b) s ∷ rest)) here_at
            (rest_scope cx r.t like.part inner (r.n + loop_slots b) (p + 1) q s (Turn i (limit_of b) (top b) s ∷ rest) stands refl
            (rest_here cx r.t like.part inner q (Turn i (limit_of b) (top b) s ∷ rest) (turn, last)));
        after = after;
      }) (source_runs pair (Do s' ∷ rest) e)

  pub turn_follows : (rest : List Todo) (i : Word) (x : Option Word) (hi : ℤ) (s : Statement) → call.frame.todo ≡ Turn i x hi s ∷ rest
      → (t : ℕ) (scope : Scope)
      → IsMatched scope call.frame.names act.frame.slots
      → StandsTurn cx t like.part scope act.frame.place i x hi s → Rest cx t like.part scope (act.frame.place + 1) rest
      → Good pair (run_at cx.m w a act (instruction_at cx.m act.frame))
  turn_follows rest i x hi s e t scope held st last =
      at_place pair (instr.Next st.first) st.next
      (subst (λ o. Good pair (turning w a act st.first o))
      (sym (ap (option_and_then (loop_head st.first)) (ap (option_and_then (λ u. slice_get u.code st.first)) like.found ∙ st.stands) ∙ st.begins))
      (number_follows pair (slot_at act st.loop.slot) _ (λ n g.
      let known : value_of call.frame.names i ≡ Some (value.Number n) = held i.text st.loop.slot st.counter ∙ number_is (slot_at act st.loop.slot) n g in
      limit_follows scope x st.loop.limit st.loop.hi _ held st.limit (λ most is.
      by n g (int_lt n most) (source_runs pair (Turn i x hi s ∷ rest) e
      ∙ (ap (λ o. number_in o (λ k. limited call.frame.names x hi (λ top. done v a (ends k (int_lt k top)) none event.Local))) known
      ∙ (ap (λ h. limited call.frame.names x h (λ top. done v a (ends n (int_lt n top)) none event.Local)) (sym st.most)
      ∙ is (λ top. done v a (ends n (int_lt n top)) none event.Local))))))))
    where
      -- what the source does where i is n
      ends : ℤ → Bool → SourceActivity
      ends n c = cond c (knowing call (unfolded s ++ Turn i x hi s ∷ rest) i (value.Number (n +ℤ pos 1))) (left_with call rest)

      by : (n : ℤ) → number_held (slot_at act st.loop.slot) ≡ Some n → (b : Bool)
          → source_step cx.tree v a ≡ done v a (ends n b) none event.Local
          → Good pair (done w a (cond b (again act st.first st.loop.slot n) (onward act)) none event.Local)
      by n g true src =
          let was = number_there (slot_at act st.loop.slot) n g in
          moves pair (st.first + 1) (slice_set act.frame.slots st.loop.slot (value.Number (n +ℤ pos 1))) (unfolded s ++ Turn i x hi s ∷ rest)
          ((i.text, value.Number (n +ℤ pos 1)) ∷ call.frame.names) none event.Local src
          (record {
            t = t;
            scope = scope;
            matched = matched_set scope call.frame.names act.frame.slots i.text st.loop.slot st.n was.0 (value.Number (n +ℤ pos 1)) st.body.proper held was.1 st.counter;
            rest = rest_scope cx t like.part scope st.n (st.first + 1) act.frame.place s (Turn i x hi s ∷ rest) st.body st.ends
                (rest_here cx t like.part scope act.frame.place (Turn i x hi s ∷ rest) (st, last));
          })
      by n g false src = moves pair (act.frame.place + 1) act.frame.slots rest call.frame.names none event.Local src (record { t = t; scope = scope; matched = held; rest = last })
