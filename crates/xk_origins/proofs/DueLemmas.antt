-- What a frame's activity has to do next in the source is what the origin of its place says.
use Rattle.std.proofs.Common.{◌≡◌, ◌∙◌, ℕ, zero, suc, ◌+◌, Bool, true, false, List, [], ◌∷◌, length, ℤ, Option, Some, None, slice_get, refl, sym, ap, subst, arith, inl, inr, length-append}
use Rattle.std.specs.Prelude.{is_some}
use Rattle.std.specs.Option.{option_map_or}
use Rattle.std.proofs.lemmas.Bool.{false≢true}
use Rattle.std.proofs.lemmas.Option.{none-some, same_Some}
use Rattle.xk_types.specs.declared.instr.Instr.{Instr}
use Rattle.xk_types.specs.declared.instr.Instr.TheVariants as instr
use Rattle.xk_types.specs.declared.instr.Comparison.{Comparison}
use Rattle.xk_types.specs.declared.world.Value.{Value as Held}
use Rattle.xk_types.specs.declared.world.Status.{Status}
use Rattle.xk_types.specs.declared.world.Status.TheVariants as status
use Rattle.xk_types.specs.Code.{ModuleValue, UnitValue}
use Rattle.xk_types.specs.World.{Frame, Activity}
use Rattle.xk_tree.specs.declared.tree.Number.{Number}
use Rattle.xk_tree.specs.declared.tree.Verb.{Verb}
use Rattle.xk_tree.specs.Tree.{Word, Expression, Make, Value, Bound, UpTo, Least, top, Statement, Declare, IfElse, For, Finish, Call, AdvanceAll, TreeValue}
use Rattle.xk_names.specs.Scope.{find, has}
use Rattle.xk_names.specs.Captures.{shared_texts}
use Rattle.xk_emit.specs.CodeOf.{Scope, before}
use Rattle.xk_source_semantics.specs.Parts.{Part}
use Rattle.xk_source_semantics.specs.Source.{Todo, Do, Turn, Close, Names, Doing, SourceActivity}
use Rattle.xk_source_semantics.specs.Compilation.{IsCompiled, unit_of_part}
use Rattle.xk_law_compiler.proofs.PlaceLemmas.{code_in}
use Rattle.xk_law_compiler.proofs.PairwiseLemmas.{Pairs}
use Rattle.xk_law_compiler.proofs.RelationLemmas.{Along, Whole, Here, limit_of}
use Rattle.xk_law_compiler.proofs.StepLemmas.ActivityLemmas.{Between, Within, RunsAs, Stage, Waits, IsAs}
use Rattle.xk_law_compiler.proofs.MeansItsSourceLaw.{whole_of}
use Rattle.xk_law_compiler.proofs.UnitLemmas.SettingLemmas.{shared_placed}
use Rattle.xk_origins.specs.Origin.{Origin, Does, Ends, Leaves, part_origins}
use Rattle.xk_origins.specs.OwnInstructions.{AreOf, is_of}
use Rattle.xk_origins.specs.Laws.{code_at}
use Rattle.xk_origins.specs.Due.{Begins, IsDue, at_once, behind_else, IsDueAt, origins_of, WaitsAs, StandsBy, AreBeside, StandsAs}
use Rattle.xk_origins.proofs.PlaceLemmas.{does_there, turn_there}
use Rattle.xk_origins.proofs.OwnInstructionLemmas.{part_is_of}

-- ---- what an instruction tells of its origin

-- an instruction has an origin, whose it is
record HasOrigin (os : List Origin) (place : ℕ) (i : Instr) : Type 0 where
  origin : Origin
  there : slice_get os place ≡ Some origin
  is : is_of origin i ≡ true

origin_there : (os : List Origin) (is : List Instr) (place : ℕ) (i : Instr) → AreOf os is → slice_get is place ≡ Some i → HasOrigin os place i
origin_there [] [] place i h e = absurd (none-some i e)
origin_there [] (j ∷ is) place i h e = absurd h
origin_there (o ∷ os) [] place i h e = absurd h
origin_there (o ∷ os) (j ∷ is) zero i h e = record { origin = o; there = refl; is = ap (is_of o) (sym (same_Some j i e)) ∙ h.0 }
origin_there (o ∷ os) (j ∷ is) (suc place) i h e = let r = origin_there os is place i h.1 e in record { origin = r.origin; there = r.there; is = r.is }

never : {P : Type 0} {b : Bool} → b ≡ false → b ≡ true → P
never e h = absurd (false≢true (sym e ∙ h))

-- no statement is done by a `ret`, an `endfinish` or a jump
does_return : (s : Statement) → is_of (Does s) instr.Ret ≡ false
does_return (Declare b x ty (Make at v)) = refl
does_return (Declare b x ty (Value e)) = refl
does_return _ = refl

does_close : (f : ℕ) (s : Statement) → is_of (Does s) (instr.EndFinish f) ≡ false
does_close f (Declare b x ty (Make at v)) = refl
does_close f (Declare b x ty (Value e)) = refl
does_close f _ = refl

does_jump : (t : ℕ) (s : Statement) → is_of (Does s) (instr.Jump t) ≡ false
does_jump t (Declare b x ty (Make at v)) = refl
does_jump t (Declare b x ty (Value e)) = refl
does_jump t _ = refl

ends_return : (s : Statement) → is_of (Ends s) instr.Ret ≡ false
ends_return (IfElse at l op r s u) = refl
ends_return _ = refl

ret_begins : (o : Origin) → is_of o instr.Ret ≡ true → Begins [] o
ret_begins (Does s) h = never (does_return s) h
ret_begins (Ends s) h = never (ends_return s) h
ret_begins (Leaves p) h = refl

close_begins : (f : ℕ) (rest : List Todo) (o : Origin) → is_of o (instr.EndFinish f) ≡ true → Begins (Close ∷ rest) o
close_begins f rest (Does s) h = never (does_close f s) h
close_begins f rest (Ends (Finish at s)) h = (rest, refl)
close_begins f rest (Ends s) h = never refl h
close_begins f rest (Leaves p) h = never refl h

-- a jump is one over an `else`
record IsElse (o : Origin) : Type 0 where
  at : ℕ
  l : Expression
  op : Comparison
  r : Expression
  s : Statement
  u : Statement
  is : o ≡ Ends (IfElse at l op r s u)

jump_over : (t : ℕ) (o : Origin) → is_of o (instr.Jump t) ≡ true → IsElse o
jump_over t (Does s) h = never (does_jump t s) h
jump_over t (Ends (IfElse at l op r s u)) h = record { at = at; l = l; op = op; r = r; s = s; u = u; is = refl }
jump_over t (Ends s) h = never refl h
jump_over t (Leaves p) h = never refl h

-- an `advance`, and a call
advance_does : (o : Origin) → is_of o instr.Advance ≡ true → (at : ℕ) × (v : Verb) × (o ≡ Does (AdvanceAll at v))
advance_does (Does (AdvanceAll at v)) h = (at, v, refl)
advance_does (Does (Declare b x ty (Make at v))) h = never refl h
advance_does (Does (Declare b x ty (Value e))) h = never refl h
advance_does (Does s) h = never refl h
advance_does (Ends (IfElse at l op r s u)) h = never refl h
advance_does (Ends s) h = never refl h
advance_does (Leaves p) h = never refl h

call_does : (u : ℕ) (xs : List ℕ) (o : Origin) → is_of o (instr.Call u xs) ≡ true
    → (f : Word) × (at : ℕ) × (es : List Expression) × (o ≡ Does (Call f at es))
call_does u xs (Does (Call f at es)) h = (f, at, es, refl)
call_does u xs (Does (Declare b x ty (Make at v))) h = never refl h
call_does u xs (Does (Declare b x ty (Value e))) h = never refl h
call_does u xs (Does s) h = never refl h
call_does u xs (Ends (IfElse at l op r s u')) h = never refl h
call_does u xs (Ends s) h = never refl h
call_does u xs (Leaves p) h = never refl h

-- the end of a turn of a loop
turn_begins : (at : ℕ) (i : Word) (lo : Number) (b : Bound) (s : Statement) (x : Option Word) (hi : ℤ) (rest : List Todo) → limit_of b ≡ x → top b ≡ hi
    → Begins (Turn i x hi s ∷ rest) (Ends (For at i lo b s))
turn_begins at i lo (UpTo n) s x hi rest limit most = (rest, ap (λ (y : Option Word). Turn i y hi s ∷ rest) (sym limit) ∙ ap (λ (n : ℤ). Turn i None n s ∷ rest) (sym most))
turn_begins at i lo (Least y v e n) s x hi rest limit most =
    (rest, ap (λ (z : Option Word). Turn i z hi s ∷ rest) (sym limit) ∙ ap (λ (n : ℤ). Turn i (Some y) n s ∷ rest) (sym most))

-- ---- what is due where a frame stands

module _ (w : Whole) (shared : List (List ℕ)) (known : (x : List ℕ) → has shared x ≡ is_some (find w.setting.shared x)) (p : Part) where
  abbrev code : List Instr
  code = code_in w.setting p

  abbrev os : List Origin
  os = part_origins shared p

  rows : AreOf os code
  rows = part_is_of w.setting shared known p

  due_here : (t : ℕ) (todo : List Todo) (scope : Scope) (place : ℕ) → Here w t p todo scope place → IsDue code os todo place
  due_here t [] scope place h = let o = origin_there os code place instr.Ret rows h in at_once place o.origin o.there (ret_begins o.origin o.is)
  due_here t (Do s ∷ rest) scope place h =
      let e : place + 0 ≡ place = omega arith in
      let there = does_there w.setting shared known p t scope h.0 place s h.1 h.2.lies 0 (omega arith) in
      at_once place (Does s) (subst (λ n. slice_get os n ≡ Some (Does s)) e there) (rest, refl)
  due_here t (Turn i x hi s ∷ rest) scope place h =
      let l = h.0.of_loop in
      at_once place (Ends (For l.at i l.lo l.bound s)) (turn_there w.setting shared known p place i x hi s l)
      (turn_begins l.at i l.lo l.bound s x hi rest l.limit l.most)
  due_here t (Close ∷ rest) scope place h =
      let o = origin_there os code place (instr.EndFinish h.0) rows h.1 in
      at_once place o.origin o.there (close_begins h.0 rest o.origin o.is)

  due_along : (todo : List Todo) (last : ℕ) → IsDue code os todo last → (jumps : List ℕ) (place : ℕ) → Along code place jumps last → IsDue code os todo place
  due_along todo last due [] place along = subst (IsDue code os todo) (sym along) due
  due_along todo last due (q ∷ jumps) place along =
      let o = origin_there os code place (instr.Jump q) rows along.0 in
      let e = jump_over q o.origin o.is in
      behind_else place q e.at e.l e.op e.r e.s e.u (o.there ∙ ap Some e.is) along.0 (due_along todo last due jumps q along.1)

  due_between : (place : ℕ) (slots : List Held) (todo : List Todo) (names : Names) → Between w p place slots todo names → IsDue code os todo place
  due_between place slots todo names b =
      due_along todo b.rest.place (due_here b.t todo b.rest.inner b.rest.place b.rest.here) b.rest.jumps place b.rest.along

  due_within : (place : ℕ) (slots : List Held) (s : Statement) (rest : List Todo) (names : Names) → Within w p place slots s rest names
      → IsDue code os (Do s ∷ rest) place
  due_within place slots s rest names h =
      let split : length (before w.setting h.scope h.t h.n s) ≡ length h.past + length h.ahead = ap length h.split ∙ length-append h.past h.ahead in
      let there = does_there w.setting shared known p h.t h.scope h.n h.first s h.simple h.stands.lies (length h.past) (omega (arith, split)) in
      at_once place (Does s) (subst (λ n. slice_get os n ≡ Some (Does s)) (sym h.at) there) (rest, refl)

  due_running : (place : ℕ) (slots : List Held) (todo : List Todo) (names : Names) → RunsAs w p place slots todo names → IsDue code os todo place
  due_running place slots todo names (inl b) = due_between place slots todo names b
  due_running place slots [] names (inr h) = absurd h
  due_running place slots (Do s ∷ rest) names (inr h) = due_within place slots s rest names h
  due_running place slots (Turn i x hi s ∷ rest) names (inr h) = absurd h
  due_running place slots (Close ∷ rest) names (inr h) = absurd h

-- ---- activities

module _ (t : TreeValue) (m : ModuleValue) (c : IsCompiled t m) where
  abbrev whole : Whole
  whole = whole_of t m c

  abbrev names : List (List ℕ)
  names = shared_texts t.shared

  placed : (x : List ℕ) → has names x ≡ is_some (find c.setting.shared x)
  placed x = sym (shared_placed t c.units c.setting c.is_setting x)

  -- the code and the origins of a unit
  code_is : (unit : ℕ) (p : Part) → slice_get m.units unit ≡ Some (unit_of_part c.setting p) → code_at m unit ≡ code_in c.setting p
  code_is unit p e = ap (λ (o : Option UnitValue). option_map_or (λ (u : UnitValue). u.code) o []) e

  origins_are : (unit : ℕ) (p : Part) → slice_get c.units unit ≡ Some p → origins_of t c.units unit ≡ part_origins names p
  origins_are unit p e = ap (λ (o : Option Part). option_map_or (part_origins names) o []) e

  due_at : (unit place : ℕ) (todo : List Todo) (p : Part) → slice_get c.units unit ≡ Some p → slice_get m.units unit ≡ Some (unit_of_part c.setting p)
      → IsDue (code_in c.setting p) (part_origins names p) todo place → IsDueAt t m c.units unit place todo
  due_at unit place todo p e f due =
      subst (λ (is : List Instr). IsDue is (origins_of t c.units unit) todo place) (sym (code_is unit p f))
      (subst (λ (os : List Origin). IsDue (code_in c.setting p) os todo place) (sym (origins_are unit p e)) due)

  -- the origin of an instruction of a unit
  origin_at : (unit place : ℕ) (i : Instr) (p : Part) → slice_get c.units unit ≡ Some p → slice_get (code_in c.setting p) place ≡ Some i
      → HasOrigin (origins_of t c.units unit) place i
  origin_at unit place i p e h =
      subst (λ (os : List Origin). HasOrigin os place i) (sym (origins_are unit p e))
      (origin_there (part_origins names p) (code_in c.setting p) place i (part_is_of c.setting names placed p) h)

  waits_as : (f : Frame) (d : Doing) → Waits whole f d → WaitsAs t m c.units f d
  waits_as f d h =
      let o = origin_at f.unit f.place (instr.Call h.callee h.arguments) h.part h.placed h.calls in
      let k = call_does h.callee h.arguments o.origin o.is in
      record {
        method = k.0;
        at = k.1;
        arguments = k.2;
        calls = o.there ∙ ap Some k.3;
        due = due_at f.unit (f.place + 1) d.todo h.part h.placed h.found (due_between whole names placed h.part (f.place + 1) f.slots d.todo d.names h.between);
      }

  wait_beside : (fs : List Frame) (ds : List Doing) → Pairs (Waits whole) fs ds → AreBeside (WaitsAs t m c.units) fs ds
  wait_beside [] [] h = tt
  wait_beside [] (d ∷ ds) h = absurd h
  wait_beside (f ∷ fs) [] h = absurd h
  wait_beside (f ∷ fs) (d ∷ ds) h = (waits_as f d h.0, wait_beside fs ds h.1)

  stands_by : (st : Status) (f : Frame) (d : Doing) (p : Part) → slice_get c.units f.unit ≡ Some p → slice_get m.units f.unit ≡ Some (unit_of_part c.setting p)
      → Stage whole p st f d
      → StandsBy t m c.units st f d
  stands_by status.Running f d p e g h = due_at f.unit f.place d.todo p e g (due_running whole names placed p f.place f.slots d.todo d.names h)
  stands_by status.Arrived f d p e g h =
      let o = origin_at f.unit f.place instr.Advance p e h.0 in
      let k = advance_does o.origin o.is in
      record {
        at = k.0;
        verb = k.1;
        arrives = o.there ∙ ap Some k.2;
        due = due_at f.unit (f.place + 1) d.todo p e g (due_between whole names placed p (f.place + 1) f.slots d.todo d.names h.1);
      }
  stands_by status.Ended f d p e g h = tt

  stands_as : (act : Activity) (call : SourceActivity) → IsAs whole act call → StandsAs t m c.units act call
  stands_as act call h = record {
    status = h.status;
    opened = h.opened;
    last = stands_by act.status act.frame call.frame h.part h.placed h.found h.stage;
    waiting = wait_beside act.callers call.callers h.callers;
  }

  pub stand_beside : (xs : List Activity) (ys : List SourceActivity) → Pairs (IsAs whole) xs ys → AreBeside (StandsAs t m c.units) xs ys
  stand_beside [] [] h = tt
  stand_beside [] (y ∷ ys) h = absurd h
  stand_beside (x ∷ xs) [] h = absurd h
  stand_beside (x ∷ xs) (y ∷ ys) h = (stands_as x y h.0, stand_beside xs ys h.1)
