-- Frames on one stack: what a write, a call and a return leave.
use Rattle.std.specs.Prelude.{reverse, nat_eq, slice_set, max}
use Rattle.std.specs.List.{refill}
use Rattle.std.specs.Option.{option_map_or, option_and_then}
use Rattle.std.proofs.Common.{◌≡◌, Bool, true, not, replicate, ℕ, zero, suc, ℤ, pos, ◌+◌, ◌-◌, ◌≤◌, ◌<◌, ◌^◌, List, [], ◌∷◌, ◌++◌, length, take, drop, refl, sym, ap, subst, ◌∙◌, arith, Option, Some, None, slice_get, All}
use Rattle.std.proofs.lemmas.Grind.{common_steps}
use Rattle.std.proofs.lemmas.List.{reverse-append, length-reverse, length-map, length-drop, drop-take}
use Rattle.std.proofs.lemmas.Option.{slice_get_within, get_or_from_slice_get}
use Rattle.xk_types.specs.declared.world.Value.{Value}
use Rattle.xk_types.specs.declared.world.Value.TheVariants as value
use Rattle.xk_types.specs.declared.instr.Instr.{Instr}
use Rattle.xk_types.specs.declared.instr.Instr.TheVariants as instr
use Rattle.xk_types.specs.Code.{UnitValue, ModuleValue, IsUnitWithinLimits, IsWithinLimits}
use Rattle.xk_types.specs.Shape.{HasShape}
use Rattle.xk_types.specs.World.{Frame, slots_of, instruction_at}
use Rattle.xk_types.specs.Bound.{stack_of, frames_of}
use Rattle.xk_law_schedules.proofs.BoundLemmas.TotalLemmas.{chain_own, chain_called, stack_own, stack_called}
use Rattle.xk_activity.specs.declared.caller.Caller.{Caller}
use Rattle.xk_activity.specs.Local.{FramesValue, Stepped, code_of, begun, called, returning, is_stepped}
use Rattle.xk_activity.specs.declared.marks.Marks.{Marks}
use Rattle.xk_activity.specs.Slots.{is_marked, values_of, AreLaid}
use Rattle.xk_activity.specs.FrameStack.{waiting, frames_on, AreStacked, IsStacked, AreBelow, with_slot, CanCall, outer, value_at, values_at}
use Rattle.xk_activity.proofs.SlotWordLemmas.{length_by, laid_filled}

-- ---- those who wait see only what lies below

less : (s : List ℤ) (m n : ℕ) → m ≤ n → take m (take n s) ≡ take m s
less s m n le = grind (arith, common_steps)

take_less : (s t : List ℤ) (m n : ℕ) → m ≤ n → take n s ≡ take n t → take m s ≡ take m t
take_less s t m n le e = sym (less s m n le) ∙ (ap (take m) e ∙ less t m n le)

waiting_same : (m : ModuleValue) (a b : ℕ) (s t : List ℤ) (top : ℕ) (cs : List Caller) → AreStacked m a b top cs → take top s ≡ take top t
    → waiting s top cs ≡ waiting t top cs
waiting_same m a b s t top [] h e = refl
waiting_same m a b s t top (c ∷ cs) h e =
    let under : c.base ≤ top = (let g = h.0 in omega arith) in
    let w = waiting_same m a b s t c.base cs h.2 (take_less s t c.base top under e) in
    let f : List ℤ → Frame = λ x. record { unit = c.unit; place = c.place; slots = values_of c.marks (drop c.base x) } in
    ap (λ x. f x ∷ waiting s c.base cs) e ∙ ap (λ r. f (take top t) ∷ r) w

-- ---- what lies above

drop_front : (xs ys : List ℤ) → drop (length xs) (xs ++ ys) ≡ ys
drop_front [] ys = refl
drop_front (x ∷ xs) ys = drop_front xs ys

take_front : (xs ys : List ℤ) → take (length xs) (xs ++ ys) ≡ xs
take_front [] ys = refl
take_front (x ∷ xs) ys = ap (λ zs. x ∷ zs) (take_front xs ys)

-- ---- places

-- an instruction stands in a unit that there is, in the code of that unit
pub record StandsAt (m : ModuleValue) (f : Frame) (i : Instr) : Type 0 where
  pub u : UnitValue
  pub found : slice_get m.units f.unit ≡ Some u
  pub there : slice_get u.code f.place ≡ Some i

stands_at : (m : ModuleValue) (f : Frame) (i : Instr) → instruction_at m f ≡ Some i → StandsAt m f i
stands_at m f i e = go (slice_get m.units f.unit) refl e
  where
    go : (o : Option UnitValue) → slice_get m.units f.unit ≡ o → option_and_then (λ unit. slice_get unit.code f.place) o ≡ Some i → StandsAt m f i
    go None found h = cc
    go (Some u) found h = record { u = u; found = found; there = h }

pub limits_of : (m : ModuleValue) (unit : ℕ) (u : UnitValue) → IsWithinLimits m → slice_get m.units unit ≡ Some u → IsUnitWithinLimits u
limits_of m unit u limits found = subst (λ x. IsUnitWithinLimits x) (get_or_from_slice_get m.units unit u u found) (limits.each unit u (slice_get_within m.units unit u found))

pub place_within : (m : ModuleValue) (f : Frame) (i : Instr) → IsWithinLimits m → instruction_at m f ≡ Some i → f.place < 4096
place_within m f i limits e =
    let s = stands_at m f i e in
    let l = limits_of m f.unit s.u limits s.found in
    let g = slice_get_within s.u.code f.place i s.there in
    let k = l.code in omega arith

pub unit_within : (m : ModuleValue) (f : Frame) (i : Instr) → instruction_at m f ≡ Some i → f.unit < length m.units
unit_within m f i e = let s = stands_at m f i e in slice_get_within m.units f.unit s.u s.found

code_found : (m : ModuleValue) (unit : ℕ) (u : UnitValue) → slice_get m.units unit ≡ Some u → code_of m unit ≡ u.code
code_found m unit u found = ap (λ o. option_map_or (λ (x : UnitValue). x.code) o []) found

slots_found : (m : ModuleValue) (unit : ℕ) (u : UnitValue) → slice_get m.units unit ≡ Some u → slots_of m unit ≡ u.slots
slots_found m unit u found = ap (λ o. option_map_or (λ (x : UnitValue). x.slots) o 0) found

-- the instruction, read in the code of the unit
pub code_at : (m : ModuleValue) (f : Frame) (i : Instr) → instruction_at m f ≡ Some i → slice_get (code_of m f.unit) f.place ≡ Some i
code_at m f i e = let s = stands_at m f i e in ap (λ is. slice_get is f.place) (code_found m f.unit s.u s.found) ∙ s.there

-- a unit has few slots
pub few_slots : (m : ModuleValue) (unit : ℕ) → IsWithinLimits m → slots_of m unit ≤ 64
few_slots m unit limits = go (slice_get m.units unit) refl
  where
    go : (o : Option UnitValue) → slice_get m.units unit ≡ o → option_map_or (λ (x : UnitValue). x.slots) o 0 ≤ 64
    go None found = omega arith
    go (Some u) found = (limits_of m unit u limits found).slots

-- ---- rooms

-- a unit's own frame has room in its own room
pub own_room : (m : ModuleValue) (unit : ℕ) → HasShape m → unit < length m.units → (slots_of m unit ≤ stack_of m unit) × (1 ≤ frames_of m unit)
own_room m unit shape lt = go (slice_there m.units unit lt)
  where
    go : (u : UnitValue) × (slice_get m.units unit ≡ Some u) → (slots_of m unit ≤ stack_of m unit) × (1 ≤ frames_of m unit)
    go p = (
      let g = stack_own m shape unit p.0 p.1 in let s = slots_found m unit p.0 p.1 in omega arith,
      chain_own (λ v. 1) m shape unit p.0 p.1,
    )

    slice_there : (us : List UnitValue) (k : ℕ) → k < length us → (u : UnitValue) × (slice_get us k ≡ Some u)
    slice_there [] k h = absurd (omega arith)
    slice_there (u ∷ us) zero h = (u, refl)
    slice_there (u ∷ us) (suc k) h = slice_there us k (omega arith)

-- before its first instruction
pub start_stacked : (m : ModuleValue) (unit long slots frames : ℕ) (cs : List Caller) → IsWithinLimits m → HasShape m → unit < length m.units → cs ≡ []
    → long ≡ slots_of m unit → slots ≡ max 2 (stack_of m unit) → frames + 1 ≡ frames_of m unit → IsStacked m unit 0 cs long slots frames
start_stacked m unit long slots frames cs limits shape lt none top s f =
    subst (λ (ds : List Caller). IsStacked m unit 0 ds long slots frames) (sym none)
    (record {
      limits = limits;
      shape = shape;
      top = omega arith;
      room = record { slots_fit = omega arith; frames_fit = omega arith };
      stacked = refl;
      whole = s;
      all = f;
    })

-- Where nobody waits for the present frame, and it has two slots at most and calls nothing, there is room for no more than these.
pub room_alone : (m : ModuleValue) (unit place : ℕ) (marks : Marks) (base long : ℕ) (stack : List ℤ) (cs : List Caller) (slots frames : ℕ) (now : FramesValue)
    → IsStacked m unit base cs long slots frames → frames_on m unit place marks base stack cs ≡ now → now.callers ≡ []
    → stack_of now.module_run now.frame.unit ≤ 2 → frames_of now.module_run now.frame.unit ≡ 1 → (slots ≤ 2) × (frames ≡ 0)
room_alone m unit place marks base long stack cs slots frames now s view none few one =
    go cs s (ap (λ (f : FramesValue). f.callers) view ∙ none)
    (subst (λ (f : FramesValue). stack_of f.module_run f.frame.unit ≤ 2) (sym view) few)
    (subst (λ (f : FramesValue). frames_of f.module_run f.frame.unit ≡ 1) (sym view) one)
  where
    go : (ds : List Caller) → IsStacked m unit base ds long slots frames → waiting stack base ds ≡ [] → stack_of m unit ≤ 2 → frames_of m unit ≡ 1 → (slots ≤ 2) × (frames ≡ 0)
    go [] r e f o =
        let w : slots ≡ max 2 (stack_of m unit) = r.whole in
        let a : frames + 1 ≡ frames_of m unit = r.all in
        (omega arith, omega arith)
    go (c ∷ ds) r e f o = cc

-- ---- a call

-- what a call needs of the stack, and what it leaves
pub record CallFits (m : ModuleValue) (unit place : ℕ) (marks : Marks) (base t : ℕ) (cs : List Caller) (long slots frames : ℕ) : Type 0 where
  pub words : long + slots_of m t ≤ slots
  pub few : slots_of m t ≤ 64
  pub caller : length cs < frames
  pub short : place < 2 ^ 16
  pub stacked : IsStacked m t long (record { unit = unit; place = place; marks = marks; base = base } ∷ cs) (long + slots_of m t) slots frames

call_fits : (m : ModuleValue) (unit place : ℕ) (marks : Marks) (base t : ℕ) (args : List ℕ) (cs : List Caller) (long slots frames : ℕ) (xs : List Value)
    → IsStacked m unit base cs long slots frames → instruction_at m (record { unit = unit; place = place; slots = xs }) ≡ Some (instr.Call t args)
    → t < length m.units → CallFits m unit place marks base t cs long slots frames
call_fits m unit place marks base t args cs long slots frames xs s e lt =
    let at = stands_at m (record { unit = unit; place = place; slots = xs }) (instr.Call t args) e in
    let p = place_within m (record { unit = unit; place = place; slots = xs }) (instr.Call t args) s.limits e in
    let f = slots_found m unit at.u at.found in
    let g = stack_called m s.shape unit at.u at.found place t args at.there in
    let h = chain_called (λ v. 1) m s.shape unit at.u at.found place t args at.there in
    let o = own_room m t s.shape lt in
    let top = s.top in
    let r = s.room.slots_fit in
    let q = s.room.frames_fit in
    record {
      words = omega (arith, o.0);
      few = few_slots m t s.limits;
      caller = omega (arith, o.1);
      short = omega arith;
      stacked = record {
        limits = s.limits;
        shape = s.shape;
        top = refl;
        room = record { slots_fit = omega arith; frames_fit = omega arith };
        stacked = (sym s.top, s.room, s.stacked);
        whole = s.whole;
        all = s.all;
      };
    }

-- what a call that can be made needs of the stack, which holds these frames
pub call_ready : (m : ModuleValue) (unit place : ℕ) (marks : Marks) (base t : ℕ) (args : List ℕ) (cs : List Caller) (stack : List ℤ) (slots frames : ℕ) (now : FramesValue)
    → IsStacked m unit base cs (length stack) slots frames → frames_on m unit place marks base stack cs ≡ now → CanCall now t args
    → CallFits m unit place marks base t cs (length stack) slots frames × (length args ≤ slots_of m t) × All (λ s. s < length (drop base stack)) args
call_ready m unit place marks base t args cs stack slots frames now s view can =
    let k : CanCall (frames_on m unit place marks base stack cs) t args = subst (λ (f : FramesValue). CanCall f t args) (sym view) can in (
      call_fits m unit place marks base t args cs (length stack) slots frames (values_of marks (drop base stack)) s k.stands (slice_get_within m.units t k.unit k.found),
      (let e = slots_found m t k.unit k.found in let f = k.fits in omega arith),
      subst (λ (n : ℕ). All (λ s. s < n) args) (length_by (is_marked marks) (drop base stack)) k.slots,
    )

pub call_stacked : (m : ModuleValue) (unit place : ℕ) (marks : Marks) (base t : ℕ) (old news : List Caller) (long slots frames top long2 slots2 frames2 : ℕ)
    → CallFits m unit place marks base t (reverse old) long slots frames → news ≡ old ++ record { unit = unit; place = place; marks = marks; base = base } ∷ []
    → top ≡ long → long2 ≡ long + slots_of m t → slots2 ≡ slots → frames2 ≡ frames → IsStacked m t top (reverse news) long2 slots2 frames2
call_stacked m unit place marks base t old news long slots frames top long2 slots2 frames2 f e p q r z =
    let c : Caller = record { unit = unit; place = place; marks = marks; base = base } in
    let k : reverse news ≡ c ∷ reverse old = ap reverse e ∙ reverse-append old (c ∷ []) in
    subst (λ (cs : List Caller). IsStacked m t top cs long2 slots2 frames2) (sym k)
    (subst (λ x. IsStacked m t x (c ∷ reverse old) long2 slots2 frames2) (sym p)
    (subst (λ x. IsStacked m t long (c ∷ reverse old) x slots2 frames2) (sym q)
    (subst (λ x. IsStacked m t long (c ∷ reverse old) (long + slots_of m t) x frames2) (sym r)
    (subst (λ x. IsStacked m t long (c ∷ reverse old) (long + slots_of m t) slots x) (sym z) f.stacked))))

-- the frames after a call, whose words were put on the stack
call_ok : (m : ModuleValue) (a b unit place : ℕ) (marks next : Marks) (base t : ℕ) (stack fresh : List ℤ) (cs : List Caller)
    → AreStacked m a b base cs → base ≤ length stack
    → frames_on m t 0 next (length stack) (stack ++ fresh) (record { unit = unit; place = place; marks = marks; base = base } ∷ cs)
    ≡ record {
      module_run = m;
      frame = record { unit = t; place = 0; slots = values_of next fresh };
      callers = record { unit = unit; place = place; slots = values_of marks (drop base stack) } ∷ waiting stack base cs;
    }
call_ok m a b unit place marks next base t stack fresh cs h le =
    let whole : List ℤ → List ℤ → List Frame → FramesValue = λ xs ys ws. record {
      module_run = m;
      frame = record { unit = t; place = 0; slots = values_of next xs };
      callers = record { unit = unit; place = place; slots = values_of marks (drop base ys) } ∷ ws;
    } in
    ap (λ xs. whole xs (take (length stack) (stack ++ fresh)) (waiting (stack ++ fresh) base cs)) (drop_front stack fresh)
    ∙ ap (λ ys. whole fresh ys (waiting (stack ++ fresh) base cs)) (take_front stack fresh)
    ∙ ap (λ ws. whole fresh stack ws)
    (waiting_same m a b (stack ++ fresh) stack base cs h
    (sym (less (stack ++ fresh) base (length stack) le) ∙ ap (take base) (take_front stack fresh)))

pub call_gives : (m : ModuleValue) (a b unit place : ℕ) (marks next : Marks) (base t size top : ℕ) (stack handed filled : List ℤ) (args : List ℕ) (old news : List Caller)
    (now : FramesValue)
    → frames_on m unit place marks base stack (reverse old) ≡ now → AreStacked m a b base (reverse old) → base ≤ length stack → top ≡ length stack
    → news ≡ old ++ record { unit = unit; place = place; marks = marks; base = base } ∷ []
    → AreLaid stack handed next (values_at (values_of marks (drop base stack)) args)
    → filled ≡ handed ++ replicate (size - length args) (pos 0) → size ≡ slots_of m t → length args ≤ size → size ≤ 64
    → frames_on m t 0 next top filled (reverse news) ≡ called now t (values_at now.frame.slots args)
call_gives m a b unit place marks next base t size top stack handed filled args old news now view h le etop enews laid efilled esize fits few =
    let values : List Value = values_at (values_of marks (drop base stack)) args in
    let c : Caller = record { unit = unit; place = place; marks = marks; base = base } in
    let many : length values ≡ length args = length-map args (value_at (values_of marks (drop base stack))) in
    let l : AreLaid stack filled next (values ++ replicate (size - length args) value.Unset) = laid_filled stack handed filled next values (size - length args) laid (omega arith) efilled in
    let n : size - length args ≡ slots_of m t - length values = omega arith in
    ap (λ k. frames_on m t 0 next k filled (reverse news)) etop
    ∙ ap (λ xs. frames_on m t 0 next (length stack) xs (reverse news)) l.items
    ∙ ap (λ cs. frames_on m t 0 next (length stack) (stack ++ l.fresh) cs) (ap reverse enews ∙ reverse-append old (c ∷ []))
    ∙ call_ok m a b unit place marks next base t stack l.fresh (reverse old) h le
    ∙ ap (λ xs. record {
      module_run = m;
      frame = record { unit = t; place = 0; slots = xs };
      callers = record { unit = unit; place = place; slots = values_of marks (drop base stack) } ∷ waiting stack base (reverse old);
    }) (l.hold ∙ ap (λ k. values ++ replicate k value.Unset) n)
    ∙ ap (λ (f : FramesValue). called f t (values_at f.frame.slots args)) view

-- ---- a return

-- the frames then
pub left_steps : (m : ModuleValue) (a b unit place : ℕ) (marks : Marks) (base : ℕ) (stack cut : List ℤ) (old news : List Caller) (c : Caller) (now : FramesValue)
    → frames_on m unit place marks base stack (reverse old) ≡ now → AreStacked m a b base (reverse old) → old ≡ news ++ c ∷ [] → cut ≡ take base stack
    → returning now now.callers ≡ Stepped (frames_on m c.unit (c.place + 1) c.marks c.base cut (reverse news))
left_steps m a b unit place marks base stack cut old news c now view h o k =
    let e : reverse old ≡ c ∷ reverse news = ap reverse o ∙ reverse-append news (c ∷ []) in
    let g : AreStacked m a b base (c ∷ reverse news) = subst (λ (cs : List Caller). AreStacked m a b base cs) e h in
    let v : frames_on m unit place marks base stack (c ∷ reverse news) ≡ now = ap (λ (cs : List Caller). frames_on m unit place marks base stack cs) (sym e) ∙ view in
    ap (λ (f : FramesValue). returning f f.callers) (sym v)
    ∙ ap (λ ws. Stepped (record { module_run = m; frame = record { unit = c.unit; place = c.place + 1; slots = values_of c.marks (drop c.base (take base stack)) }; callers = ws }))
    (waiting_same m a b stack (take base stack) c.base (reverse news) g.2 (sym (less stack c.base base (let q = g.0 in omega arith))))
    ∙ ap (λ xs. Stepped (frames_on m c.unit (c.place + 1) c.marks c.base xs (reverse news))) (sym k)

-- the frames where the nearest that waits is in place of the present one
pub up_gives : (m : ModuleValue) (a b unit place : ℕ) (marks : Marks) (base : ℕ) (stack cut : List ℤ) (old news : List Caller) (c : Caller) (now : FramesValue)
    → frames_on m unit place marks base stack (reverse old) ≡ now → AreStacked m a b base (reverse old) → old ≡ news ++ c ∷ [] → cut ≡ take base stack
    → ◌≡◌ {A = Bool × FramesValue} (true, frames_on m c.unit c.place c.marks c.base cut (reverse news)) (outer now now.callers)
up_gives m a b unit place marks base stack cut old news c now view h o k =
    let e : reverse old ≡ c ∷ reverse news = ap reverse o ∙ reverse-append news (c ∷ []) in
    let g : AreStacked m a b base (c ∷ reverse news) = subst (λ (cs : List Caller). AreStacked m a b base cs) e h in
    let v : frames_on m unit place marks base stack (c ∷ reverse news) ≡ now = ap (λ (cs : List Caller). frames_on m unit place marks base stack cs) (sym e) ∙ view in
    ap {B = Bool × FramesValue} (λ xs. (true, frames_on m c.unit c.place c.marks c.base xs (reverse news))) k
    ∙ ap {B = Bool × FramesValue}
    (λ ws. (true, record { module_run = m; frame = record { unit = c.unit; place = c.place; slots = values_of c.marks (drop c.base (take base stack)) }; callers = ws }))
    (sym (waiting_same m a b stack (take base stack) c.base (reverse news) g.2 (sym (less stack c.base base (let q = g.0 in omega arith)))))
    ∙ ap {B = Bool × FramesValue} (λ (f : FramesValue). outer f f.callers) v

-- a return comes to something exactly where a frame waits
pub waits_ok : (m : ModuleValue) (unit place : ℕ) (marks : Marks) (base : ℕ) (stack : List ℤ) (items : List Caller) (now : FramesValue) (e : Bool)
    → frames_on m unit place marks base stack (reverse items) ≡ now → e ≡ nat_eq (length items) 0 → not e ≡ is_stepped (returning now now.callers)
waits_ok m unit place marks base stack items now e view h =
    ap not (h ∙ ap (λ n. nat_eq n 0) (sym (length-reverse items))) ∙ go (reverse items) ∙ ap (λ (f : FramesValue). is_stepped (returning f f.callers)) view
  where
    go : (cs : List Caller) → not (nat_eq (length cs) 0) ≡ is_stepped (returning (frames_on m unit place marks base stack cs) (waiting stack base cs))
    go [] = refl
    go (c ∷ cs) = grind arith

-- ---- the present frame alone

-- another stack with the same words below
pub top_ok : (m : ModuleValue) (a b unit place : ℕ) (marks : Marks) (base next : ℕ) (marked : Marks) (old new : List ℤ) (cs : List Caller) (now : FramesValue)
    → frames_on m unit place marks base old cs ≡ now → AreStacked m a b base cs → take base new ≡ take base old
    → frames_on m unit next marked base new cs ≡ record now { frame = record { unit = now.frame.unit; place = next; slots = values_of marked (drop base new) } }
top_ok m a b unit place marks base next marked old new cs now view h below =
    ap (λ ws. record { module_run = m; frame = record { unit = unit; place = next; slots = values_of marked (drop base new) }; callers = ws }) (waiting_same m a b new old base cs h below)
    ∙ ap (λ (f : FramesValue). record f { frame = record { unit = f.frame.unit; place = next; slots = values_of marked (drop base new) } }) view

-- nothing changed
pub kept : (m : ModuleValue) (a b unit place : ℕ) (marks : Marks) (base : ℕ) (marked : Marks) (old new : List ℤ) (cs : List Caller) (now : FramesValue)
    → frames_on m unit place marks base old cs ≡ now → AreStacked m a b base cs → take base new ≡ take base old
    → values_of marked (drop base new) ≡ values_of marks (drop base old) → frames_on m unit place marked base new cs ≡ now
kept m a b unit place marks base marked old new cs now view h below above =
    ap (λ ws. record { module_run = m; frame = record { unit = unit; place = place; slots = values_of marked (drop base new) }; callers = ws }) (waiting_same m a b new old base cs h below)
    ∙ ap (λ xs. record { module_run = m; frame = record { unit = unit; place = place; slots = xs }; callers = waiting old base cs }) above
    ∙ view

-- the words on top of a stack, as they are lent to be changed
pub lent_top : (old words : List ℤ) (base : ℕ) → words ≡ old → take (length words - base) (drop base words) ≡ drop base old
lent_top old words base is = rw is (grind (arith, common_steps))

-- as many others lie there when they are given back
pub back_on_top : (old words new rest : List ℤ) (base : ℕ) → words ≡ old → base ≤ length old → length new ≡ length (drop base old)
    → drop base (refill (length old) old (take base words ++ (new ++ rest))) ≡ new
back_on_top old words new rest base is le long =
    let past = drop (length (take base old ++ (new ++ rest))) old in
    let below : length (take base old) ≡ base = grind (arith, common_steps) in
    let whole : length old ≡ base + length new = grind (arith, common_steps) in
    let flat : (take base old ++ (new ++ rest)) ++ past ≡ take base old ++ (new ++ (rest ++ past)) = grind (arith, common_steps) in
    let all = (take base old ++ (new ++ rest)) ++ past in
    let above : drop base (take base old ++ (new ++ (rest ++ past))) ≡ new ++ (rest ++ past) =
    subst (λ n. drop n (take base old ++ (new ++ (rest ++ past))) ≡ new ++ (rest ++ past)) below
    (drop_front (take base old) (new ++ (rest ++ past))) in
    rw is (ap (λ n. drop base (take n all)) whole ∙ drop-take base (length new) all ∙ ap (take (length new)) (ap (drop base) flat ∙ above)
    ∙ take_front new (rest ++ past))

-- and what lies below them is the same
pub back_below : (old words new rest : List ℤ) (base : ℕ) → words ≡ old → base ≤ length old
    → take base (refill (length old) old (take base words ++ (new ++ rest))) ≡ take base old
back_below old words new rest base is le = rw is (grind (arith, common_steps))

-- another value in one of its slots
pub set_gives : (m : ModuleValue) (a b unit place : ℕ) (marks : Marks) (base : ℕ) (marked : Marks) (s : ℕ) (v : Value) (old new : List ℤ) (cs : List Caller) (now : FramesValue)
    → frames_on m unit place marks base old cs ≡ now → AreStacked m a b base cs → take base new ≡ take base old
    → values_of marked (drop base new) ≡ slice_set (values_of marks (drop base old)) s v → frames_on m unit place marked base new cs ≡ with_slot now s v
set_gives m a b unit place marks base marked s v old new cs now view h below written =
    ap (λ ws. record { module_run = m; frame = record { unit = unit; place = place; slots = values_of marked (drop base new) }; callers = ws }) (waiting_same m a b new old base cs h below)
    ∙ ap (λ xs. record { module_run = m; frame = record { unit = unit; place = place; slots = xs }; callers = waiting old base cs }) written
    ∙ ap (λ (f : FramesValue). with_slot f s v) view

-- ---- the first frame

-- its first slots were given values
pub begin_gives : (m : ModuleValue) (unit : ℕ) (marks : Marks) (old handed stack : List ℤ) (values : List Value) (callers : List Caller) (size : ℕ) → old ≡ []
    → AreLaid old handed marks values → stack ≡ handed ++ replicate (size - length values) (pos 0) → size ≡ slots_of m unit → length values ≤ size → size ≤ 64 → callers ≡ []
    → frames_on m unit 0 marks 0 stack (reverse callers) ≡ begun m unit values
begin_gives m unit marks old handed stack values callers size none laid e esize fits few alone =
    let l : AreLaid old stack marks (values ++ replicate (size - length values) value.Unset) = laid_filled old handed stack marks values (size - length values) laid (omega arith) e in
    ap (λ cs. frames_on m unit 0 marks 0 stack (reverse cs)) alone
    ∙ ap (λ xs. frames_on m unit 0 marks 0 xs []) (l.items ∙ ap (λ xs. xs ++ l.fresh) none)
    ∙ ap (λ vs. record { module_run = m; frame = record { unit = unit; place = 0; slots = vs }; callers = [] })
    (l.hold ∙ ap (λ n. values ++ replicate (n - length values) value.Unset) esize)

-- ---- how long frames are

-- the present one has few slots
pub top_few : (m : ModuleValue) (unit base : ℕ) (cs : List Caller) (stack : List ℤ) (slots frames : ℕ) → IsStacked m unit base cs (length stack) slots frames → length (drop base stack) ≤ 64
top_few m unit base cs stack slots frames s =
    let f = few_slots m unit s.limits in
    let d = length-drop base stack in
    let t = s.top in omega arith

-- each frame that waits has few slots, and ends where the one above it begins
pub are_below : (m : ModuleValue) (a b top long : ℕ) (cs : List Caller) → IsWithinLimits m → AreStacked m a b top cs → top ≤ long → AreBelow long top cs
are_below m a b top long [] limits h le = le
are_below m a b top long (c ∷ cs) limits h le =
    let few = few_slots m c.unit limits in
    let at = h.0 in
    (omega arith, le, omega arith, are_below m a b c.base long cs limits h.2 (omega arith))
