-- What an instruction works on is there, where its step isn't wrong.
use Rattle.std.proofs.Common.{◌≡◌, ℕ, ℤ, ◌<◌, List, Option, Some, None, get_or, slice_get, length, refl, ap, sym, subst}
use Rattle.std.specs.Option.{option_and_then}
use Rattle.std.proofs.lemmas.Option.{slice_get_within, slice_get_read}
use Rattle.xk_types.specs.declared.world.Value.{Value}
use Rattle.xk_types.specs.declared.world.Value.TheVariants as value
use Rattle.xk_types.specs.Code.{loop_head}
use Rattle.xk_activity.specs.Local.{OutcomeOf, IsRight, Spot, number_in, put_in, turning, turn, carried, carried_at}
use Rattle.xk_activity.specs.Interpreter.{Answers}
use Rattle.xk_types.specs.declared.instr.Instr.{Instr}

-- a slot that has to hold a number does
pub number_there : {X : Type 0} (o : Option Value) (go : ℤ → OutcomeOf X) → IsRight (number_in o go) → (n : ℤ) × (o ≡ Some (value.Number n))
number_there None go h = absurd h
number_there (Some value.Unset) go h = absurd h
number_there (Some (value.Number n)) go h = (n, refl)
number_there (Some (value.Clock c)) go h = absurd h

-- and what is done with it isn't wrong
pub number_goes : {X : Type 0} (o : Option Value) (go : ℤ → OutcomeOf X) (n : ℤ) → IsRight (number_in o go) → o ≡ Some (value.Number n) → IsRight (go n)
number_goes o go n h e = rw e at h

-- a slot that is written is there
pub slot_there : (f : Spot) (d : ℕ) (v : Value) → IsRight (put_in (slice_get f.slots d) f d v) → d < length f.slots
slot_there f d v h = by (slice_get f.slots d) refl h
  where
    by : (o : Option Value) → slice_get f.slots d ≡ o → IsRight (put_in o f d v) → d < length f.slots
    by None e h = absurd h
    by (Some x) e h = slice_get_within f.slots d x e

-- where a loop's turn ends, something stands where it begins
pub begin_there : (code : List Instr) (f : Spot) (b : ℕ) → IsRight (turning f b (option_and_then (loop_head b) (slice_get code b))) → b < length code
begin_there code f b h = by (slice_get code b) refl h
  where
    by : (o : Option Instr) → slice_get code b ≡ o → IsRight (turning f b (option_and_then (loop_head b) o)) → b < length code
    by None e h = absurd h
    by (Some i) e h = slice_get_within code b i e

-- where a frame stands, there is an instruction
pub turn_there : (code : List Instr) (f : Spot) → IsRight (turn code f) → f.place < length code
turn_there code f h = by (slice_get code f.place) refl h
  where
    by : (o : Option Instr) → slice_get code f.place ≡ o → IsRight (carried_at code f o) → f.place < length code
    by None e h = absurd h
    by (Some i) e h = slice_get_within code f.place i e

-- which is the one that is carried out
pub turn_is : (code : List Instr) (f : Spot) (i : Instr) → IsRight (turn code f) → i ≡ get_or code f.place i → turn code f ≡ carried code f i
turn_is code f i h is = ap (carried_at code f) (slice_get_read code (length code) f.place i refl (turn_there code f h) is)

-- what that one answers, the turn does
pub turn_answers : (code : List Instr) (f : Spot) (i : Instr) (old : List Value) (o : Option ℕ) (new : List Value)
    → IsRight (turn code f) → i ≡ get_or code f.place i → Answers (carried code f i) old o new → Answers (turn code f) old o new
turn_answers code f i old o new h is a = subst (λ t. Answers t old o new) (sym (turn_is code f i h is)) a

-- and isn't wrong
pub carried_there : (code : List Instr) (f : Spot) (i : Instr) → IsRight (turn code f) → i ≡ get_or code f.place i → IsRight (carried code f i)
carried_there code f i h is = subst (λ t. IsRight t) (turn_is code f i h is) h
