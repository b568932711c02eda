-- A local step, by the instruction that the present frame stands at.
use Rattle.std.specs.Prelude.{slice_index_or}
use Rattle.std.proofs.lemmas.List.{map_more}
use Rattle.std.proofs.lemmas.List.Elements.{All-cons}
use Rattle.std.proofs.Common.{get_or, take, ◌+◌, ◌++◌, ◌≡◌, ℕ, suc, ℤ, ◌<◌, Bool, true, false, cond, List, [], ◌∷◌, length, refl, sym, ap, subst, ◌∙◌, arith, Option, Some, None, slice_get, All}
use Rattle.std.proofs.lemmas.Option.{slice_get_within, get_or_from_slice_get}
use Rattle.xk_types.specs.declared.world.Value.{Value}
use Rattle.xk_types.specs.declared.world.Value.TheVariants as value
use Rattle.xk_types.specs.declared.instr.Instr.{Instr}
use Rattle.xk_types.specs.declared.instr.Instr.TheVariants as instr
use Rattle.xk_types.specs.declared.unit.ParamKind.{ParamKind}
use Rattle.xk_types.specs.declared.unit.ParamKind.TheVariants as param
use Rattle.xk_types.specs.Code.{UnitValue, IsWithinLimits, is_method}
use Rattle.xk_types.specs.World.{instruction_at}
use Rattle.xk_activity.specs.Local.{OutcomeOf, Beyond, Wrong, Stepped, IsRight, Spot, Turn, FramesValue, in_frame, carried, carried_at, carried_on, local, local_at, turn, code_of, spot_of, frame_on, number_in, clock_in, arguments_in, calling, called, is_stepped}
use Rattle.xk_activity.specs.FrameStack.{value_at, values_at, CanCall}
use Rattle.xk_activity.proofs.OperandLemmas.{number_there, number_goes}
use Rattle.xk_activity.proofs.FrameStackLemmas.{code_at, limits_of}

-- the code of the present frame's unit, and where that frame stands
abbrev pub code_now : FramesValue → List Instr
code_now fs = code_of fs.module_run fs.frame.unit

abbrev turn_now : FramesValue → Turn
turn_now fs = turn (code_now fs) (spot_of fs.frame)

-- there is an instruction, where the step isn't wrong
pub next_there : (fs : FramesValue) → IsRight (local fs) → (i : Instr) × (instruction_at fs.module_run fs.frame ≡ Some i)
next_there fs h = go (instruction_at fs.module_run fs.frame) refl h
  where
    go : (o : Option Instr) → instruction_at fs.module_run fs.frame ≡ o → IsRight (local_at fs o) → (i : Instr) × (instruction_at fs.module_run fs.frame ≡ Some i)
    go None e r = absurd r
    go (Some i) e r = (i, e)

pub local_is : (fs : FramesValue) (i : Instr) → instruction_at fs.module_run fs.frame ≡ Some i → local fs ≡ carried_on fs i
local_is fs i e = ap (local_at fs) e

turn_is : (fs : FramesValue) (i : Instr) → instruction_at fs.module_run fs.frame ≡ Some i → turn_now fs ≡ carried (code_now fs) (spot_of fs.frame) i
turn_is fs i e = ap (carried_at (code_now fs) (spot_of fs.frame)) (code_at fs.module_run fs.frame i e)

in_frame_right : (fs : FramesValue) (t : Turn) → IsRight (in_frame fs t) → IsRight t
in_frame_right fs Beyond h = tt
in_frame_right fs Wrong h = h
in_frame_right fs (Stepped s) h = tt

-- what isn't wrong on the frames isn't on the present one
carried_right : (fs : FramesValue) (i : Instr) → IsRight (carried_on fs i) → IsRight (carried (code_now fs) (spot_of fs.frame) i)
carried_right fs (instr.Call t args) h = tt
carried_right fs instr.Ret h = tt
carried_right fs i h = in_frame_right fs (carried (code_now fs) (spot_of fs.frame) i) h

pub turn_right : (fs : FramesValue) → IsRight (local fs) → IsRight (turn_now fs)
turn_right fs h =
    let n = next_there fs h in
    subst (λ o. IsRight o) (sym (turn_is fs n.0 n.1)) (carried_right fs n.0 (subst (λ o. IsRight o) (local_is fs n.0 n.1) h))

-- a step on the present frame is one on the frames
carried_steps : (fs : FramesValue) (i : Instr) (s : Spot) → carried (code_now fs) (spot_of fs.frame) i ≡ Stepped s
    → carried_on fs i ≡ Stepped (record fs { frame = frame_on fs.frame.unit s })
carried_steps fs (instr.Call t args) s h = cc
carried_steps fs instr.Ret s h = cc
carried_steps fs i s h = ap (in_frame fs) h

pub turn_steps : (fs : FramesValue) (s : Spot) → IsRight (local fs) → turn_now fs ≡ Stepped s → local fs ≡ Stepped (record fs { frame = frame_on fs.frame.unit s })
turn_steps fs s h e =
    let n = next_there fs h in
    local_is fs n.0 n.1 ∙ carried_steps fs n.0 s (sym (turn_is fs n.0 n.1) ∙ e)

-- ---- arguments

clock_there : {X : Type 0} (o : Option Value) (go : ℕ → OutcomeOf X) → IsRight (clock_in o go) → (c : ℕ) × (o ≡ Some (value.Clock c)) × IsRight (go c)
clock_there None go h = absurd h
clock_there (Some value.Unset) go h = absurd h
clock_there (Some (value.Number n)) go h = absurd h
clock_there (Some (value.Clock c)) go h = (c, refl, h)

value_there : (slots : List Value) (s : ℕ) (v : Value) → slice_get slots s ≡ Some v → value_at slots s ≡ v
value_there slots s v e = get_or_from_slice_get slots s v value.Unset e

-- one value more
pub values_more : (slots : List Value) (args : List ℕ) (i d : ℕ) (v : Value) → i < length args → slice_get slots (get_or args i d) ≡ Some v
    → values_at slots (take (i + 1) args) ≡ values_at slots (take i args) ++ v ∷ []
values_more slots args i d v lt there = map_more (value_at slots) args i d lt
    ∙ ap (λ (x : Value). values_at slots (take i args) ++ x ∷ []) (value_there slots (get_or args i d) v there)

-- arguments that aren't wrong are there: as many as parameters, each in a slot, and the step goes on with their values
pub arguments_there : {X : Type 0} (slots : List Value) (ps : List ParamKind) (xs : List ℕ) (go : List Value → OutcomeOf X) → IsRight (arguments_in slots ps xs go)
    → (length xs ≡ length ps) × All (λ s. s < length slots) xs × (arguments_in slots ps xs go ≡ go (values_at slots xs))
arguments_there slots [] [] go h = (refl, λ k d lt. absurd (omega arith), refl)
arguments_there slots [] (x ∷ xs) go h = absurd h
arguments_there slots (p ∷ ps) [] go h = absurd h
arguments_there {X} slots (param.Number ∷ ps) (x ∷ xs) go h =
    let after : ℤ → OutcomeOf X = λ z. arguments_in slots ps xs (λ values. go (value.Number z ∷ values)) in
    let n = number_there (slice_get slots x) after h in
    let r = arguments_there slots ps xs (λ values. go (value.Number n.0 ∷ values)) (number_goes (slice_get slots x) after n.0 h n.1) in (
      ap suc r.0,
      All-cons (λ s. s < length slots) x xs (slice_get_within slots x _ n.1) r.1,
      ap (λ o. number_in o (λ z. arguments_in slots ps xs (λ values. go (value.Number z ∷ values)))) n.1 ∙ r.2
          ∙ ap (λ v. go (v ∷ values_at slots xs)) (sym (value_there slots x _ n.1)),
    )
arguments_there slots (param.Clock ∷ ps) (x ∷ xs) go h =
    let c = clock_there (slice_get slots x) (λ z. arguments_in slots ps xs (λ values. go (value.Clock z ∷ values))) h in
    let r = arguments_there slots ps xs (λ values. go (value.Clock c.0 ∷ values)) c.2 in (
      ap suc r.0,
      All-cons (λ s. s < length slots) x xs (slice_get_within slots x _ c.1) r.1,
      ap (λ o. clock_in o (λ z. arguments_in slots ps xs (λ values. go (value.Clock z ∷ values)))) c.1 ∙ r.2
          ∙ ap (λ v. go (v ∷ values_at slots xs)) (sym (value_there slots x _ c.1)),
    )

-- ---- a call

-- a call that isn't wrong has what it hands over, and comes to this
pub call_there : (fs : FramesValue) (t : ℕ) (args : List ℕ) → IsWithinLimits fs.module_run → instruction_at fs.module_run fs.frame ≡ Some (instr.Call t args)
    → IsRight (local fs) → CanCall fs t args × (local fs ≡ Stepped (called fs t (values_at fs.frame.slots args)))
call_there fs t args limits e h =
    let r = go (slice_get fs.module_run.units t) refl (subst (λ o. IsRight o) (local_is fs (instr.Call t args) e) h) in
    (r.0, local_is fs (instr.Call t args) e ∙ r.1)
  where
    kind : (b : Bool) (u : UnitValue) → slice_get fs.module_run.units t ≡ Some u
        → IsRight (cond b (arguments_in fs.frame.slots u.params args (λ values. Stepped (called fs t values))) Wrong)
        → CanCall fs t args × (cond b (arguments_in fs.frame.slots u.params args (λ values. Stepped (called fs t values))) Wrong ≡ Stepped (called fs t (values_at fs.frame.slots args)))
    kind false u found h = absurd h
    kind true u found h =
        let a = arguments_there fs.frame.slots u.params args (λ values. Stepped (called fs t values)) h in
        let l = limits_of fs.module_run t u limits found in
        (record { stands = e; unit = u; found = found; fits = (let p = l.params in let q = a.0 in omega arith); slots = a.1 }, a.2)

    go : (o : Option UnitValue) → slice_get fs.module_run.units t ≡ o → IsRight (calling fs t args o)
        → CanCall fs t args × (calling fs t args o ≡ Stepped (called fs t (values_at fs.frame.slots args)))
    go None found h = absurd h
    go (Some u) found h = kind (is_method u.kind) u found h

-- ---- whether the step is local

-- a call that isn't wrong is one step
pub call_steps : (fs : FramesValue) (t : ℕ) (args : List ℕ) → instruction_at fs.module_run fs.frame ≡ Some (instr.Call t args)
    → IsRight (local fs) → is_stepped (local fs) ≡ true
call_steps fs t args e h =
    ap is_stepped (local_is fs (instr.Call t args) e) ∙ go (slice_get fs.module_run.units t) (subst (λ o. IsRight o) (local_is fs (instr.Call t args) e) h)
  where
    kind : (b : Bool) (u : UnitValue) → IsRight (cond b (arguments_in fs.frame.slots u.params args (λ values. Stepped (called fs t values))) Wrong)
        → is_stepped (cond b (arguments_in fs.frame.slots u.params args (λ values. Stepped (called fs t values))) Wrong) ≡ true
    kind false u h = absurd h
    kind true u h = ap is_stepped (arguments_there fs.frame.slots u.params args (λ values. Stepped (called fs t values)) h).2

    go : (o : Option UnitValue) → IsRight (calling fs t args o) → is_stepped (calling fs t args o) ≡ true
    go None h = absurd h
    go (Some u) h = kind (is_method u.kind) u h

-- the instruction that is read in the code at the frame's place is the next one
pub reads : (fs : FramesValue) (code : List Instr) (place : ℕ) (i : Instr) → IsRight (local fs) → code ≡ code_now fs → place ≡ fs.frame.place
    → i ≡ slice_index_or code place i → instruction_at fs.module_run fs.frame ≡ Some i
reads fs code place i h ecode eplace is =
    let n = next_there fs h in
    let at : slice_get code place ≡ Some n.0 = ap (λ (k : ℕ). slice_get code k) eplace ∙ ap (λ (is : List Instr). slice_get is fs.frame.place) ecode ∙ code_at fs.module_run fs.frame n.0 n.1 in
    n.1 ∙ ap Some (sym (is ∙ get_or_from_slice_get code place n.0 i at))

-- an instruction that concerns more than the present frame, and is no call and no return, concerns more than the frames
pub others : (fs : FramesValue) (i : Instr) → instruction_at fs.module_run fs.frame ≡ Some i → turn_now fs ≡ Beyond
    → ((t : ℕ) (args : List ℕ) → i ≡ instr.Call t args → ⊥) → (i ≡ instr.Ret → ⊥) → local fs ≡ Beyond
others fs i e b call ret = local_is fs i e ∙ go i (sym (turn_is fs i e) ∙ b) call ret
  where
    go : (i : Instr) → carried (code_now fs) (spot_of fs.frame) i ≡ Beyond → ((t : ℕ) (args : List ℕ) → i ≡ instr.Call t args → ⊥) → (i ≡ instr.Ret → ⊥)
        → carried_on fs i ≡ Beyond
    go (instr.Call t args) h call ret = absurd (call t args refl)
    go instr.Ret h call ret = absurd (ret refl)
    go i h call ret = ap (in_frame fs) h
