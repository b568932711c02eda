-- The operands that an instruction names are there, and of the right kind, in a sound activity of an accepted module.
use Rattle.std.proofs.Common.{◌≡◌, ℕ, true, cond, List, [], ◌∷◌, length, set, ℤ, Some, None, Option, refl, sym, ap, ◌∙◌, subst, arith, inl, inr, length-set}
use Rattle.std.specs.Prelude.{slice_get, slice_set}
use Rattle.std.specs.Option.{option_map_or}
use Rattle.std.proofs.lemmas.Bool.{false≢true}
use Rattle.xk_types.specs.declared.world.Value.{Value}
use Rattle.xk_types.specs.declared.world.Value.TheVariants as value
use Rattle.xk_types.specs.declared.world.Standing.{Standing}
use Rattle.xk_types.specs.declared.world.Standing.TheVariants as standing
use Rattle.xk_types.specs.declared.unit.ParamKind.{ParamKind}
use Rattle.xk_types.specs.declared.unit.ParamKind.TheVariants as param
use Rattle.xk_types.specs.declared.rules.Kind.TheVariants as kind
use Rattle.xk_types.specs.Code.{ModuleValue}
use Rattle.xk_types.specs.Order.{Has}
use Rattle.xk_types.specs.World.{Activity, Clock, World, standing_of}
use Rattle.xk_types.specs.Step.{Outcome, Blocked, Wrong, Stepped, ClockUse, onward, with_slots, is_registered, number_in, clock_in, registered_on, put_in, arguments_in, cell_in, stored, done, none, moved, settled}
use Rattle.xk_types.specs.declared.world.Event.{Event}
use Rattle.xk_law_schedules.proofs.SafetyLemmas.PreservationLemmas.{cells_sound, left}
use Rattle.xk_types.specs.declared.rules.Kind.{Kind}
use Rattle.xk_types.specs.Walk.{After, gives}
use Rattle.xk_law_schedules.proofs.Invariant.{IsSound, stands_on, looks, kind_by, kind_of, is_held}
use Rattle.xk_law_schedules.proofs.SlotKindLemmas.WalkLemmas.{Allowed}
use Rattle.xk_law_schedules.proofs.SlotKindLemmas.KindTableLemmas.{reads_row, hands_row}
use Rattle.xk_law_schedules.proofs.SafetyLemmas.ArgumentLemmas.{AreGiven, given_none, given_more}

-- a step is taken, and leads to a sound world
abbrev pub Moves : ModuleValue → Outcome → Type 0
Moves m Blocked = ⊥
Moves m (Wrong c) = ⊥
Moves m (Stepped v e) = IsSound m v

-- ---- operands

-- a slot that is there is written
pub put_moves : (m : ModuleValue) (o : Option Value) (old : Value) (act : Activity) (d : ℕ) (v : Value) (go : Activity → Outcome) → o ≡ Some old
    → Moves m (go (onward (with_slots act (set act.frame.slots d v)))) → Moves m (put_in o act d v go)
put_moves m o old act d v go e h = subst (λ x. Moves m (put_in x act d v go)) (sym e) h

-- a shared number that is there is used
pub cell_moves : (m : ModuleValue) (o : Option ℤ) (n : ℤ) (go : ℤ → Outcome) → o ≡ Some n → Moves m (go n) → Moves m (cell_in o go)
cell_moves m o n go e h = subst (λ x. Moves m (cell_in x go)) (sym e) h

-- and written: a step that goes on may write one too
pub stored_moves : (m : ModuleValue) (w : World) (a : ℕ) (act : Activity) (s : ℕ) (n : ℤ) (e : Event) → Moves m (done w a (onward act) none e) → Moves m (stored w a act s n e)
stored_moves m w a act s n e h = cells_sound m (settled (left w a (onward act) (moved a none w.clocks))) (slice_set w.cells s n) h (length-set w.cells s n)

-- a clock's name has no number's kind
clock_no_number : (s : Standing) → kind_by s ≡ kind.Number → ⊥
clock_no_number standing.Apart e = grind arith
clock_no_number standing.Open e = grind arith
clock_no_number standing.Signalled e = grind arith
clock_no_number standing.Ahead e = grind arith

-- a slot of a number's kind is read
pub number_moves : (m : ModuleValue) (stands : ℕ → Standing) (o : Option Value) (v : Value) (go : ℤ → Outcome) → o ≡ Some v
    → kind_of (λ k. kind_by (stands k)) v ≡ kind.Number → ((n : ℤ) → v ≡ value.Number n → Moves m (go n)) → Moves m (number_in o go)
number_moves m stands o v go e is h = subst (λ x. Moves m (number_in x go)) (sym e) (cases v is h)
  where
    cases : (x : Value) → kind_of (λ k. kind_by (stands k)) x ≡ kind.Number → ((n : ℤ) → x ≡ value.Number n → Moves m (go n)) → Moves m (number_in (Some x) go)
    cases value.Unset g f = absurd (grind arith)
    cases (value.Number n) g f = f n refl
    cases (value.Clock k) g f = absurd (clock_no_number (stands k) g)

-- a clock on which the activity is registered is used
registered_moves : (m : ModuleValue) (a : ℕ) (o : Option Clock) (go : Outcome) → is_held (kind_by (option_map_or (λ c. standing_of c a) o standing.Apart)) ≡ true
    → Moves m go → Moves m (registered_on o a go)
registered_moves m a None go held h = absurd (false≢true held)
registered_moves m a (Some c) go held h = cases (standing_of c a) held
  where
    cases : (s : Standing) → is_held (kind_by s) ≡ true → Moves m (cond (is_registered s) go (Wrong ClockUse))
    cases standing.Apart g = absurd (false≢true g)
    cases standing.Open g = h
    cases standing.Signalled g = h
    cases standing.Ahead g = h

-- a slot of a held clock's kind is used
pub clock_moves : (m : ModuleValue) (w : World) (a : ℕ) (o : Option Value) (v : Value) (go : ℕ → Outcome) → o ≡ Some v
    → is_held (kind_of (λ k. kind_by (stands_on w.clocks a k)) v) ≡ true → ((k : ℕ) → v ≡ value.Clock k → Moves m (go k)) → Moves m (clock_in w a o go)
clock_moves m w a o v go e is h = subst (λ x. Moves m (clock_in w a x go)) (sym e) (cases v is h)
  where
    cases : (x : Value) → is_held (kind_of (λ k. kind_by (stands_on w.clocks a k)) x) ≡ true → ((k : ℕ) → x ≡ value.Clock k → Moves m (go k)) → Moves m (clock_in w a (Some x) go)
    cases value.Unset g f = absurd (false≢true g)
    cases (value.Number n) g f = absurd (false≢true g)
    cases (value.Clock k) g f = registered_moves m a (slice_get w.clocks k) (go k) g (f k refl)

-- arguments of their parameters' kinds are given
pub arguments_move : (m : ModuleValue) (w : World) (a : ℕ) (act : Activity) (ps : List ParamKind) (xs : List ℕ) (fin : ℕ → Kind → After)
    (go : List Value → Outcome) → length xs ≡ length ps
    → ((x : ℕ) → Has xs x → (v : Value) × (slice_get act.frame.slots x ≡ Some v))
    → ((s : ℕ) (v : Value) → slice_get act.frame.slots s ≡ Some v → Allowed (gives ps xs s (kind_of (looks w.clocks a) v) (fin s (kind_of (looks w.clocks a) v))))
    → ((values : List Value) → AreGiven (stands_on w.clocks a) act.frame.slots ps xs values → Moves m (go values))
    → Moves m (arguments_in w a act ps xs go)
arguments_move m w a act [] [] fin go same there rows h = h [] (given_none (stands_on w.clocks a) act.frame.slots)
arguments_move m w a act [] (x ∷ xs) fin go same there rows h = absurd (omega arith)
arguments_move m w a act (p ∷ ps) [] fin go same there rows h = absurd (omega arith)
arguments_move m w a act (param.Number ∷ ps) (x ∷ xs) fin go same there rows h =
    let kd = kind_of (looks w.clocks a) in
    let v = there x (inl refl) in
    number_moves m (stands_on w.clocks a) (slice_get act.frame.slots x) v.0 _ v.1 ((reads_row x x (kd v.0) (gives ps xs x (kd v.0) (fin x (kd v.0))) (rows x v.0 v.1)).0 refl)
    (λ n is. arguments_move m w a act ps xs fin (λ values. go (value.Number n ∷ values)) (omega arith) (λ y named. there y (inr named))
    (λ s y at. subst Allowed (reads_row x s (kd y) (gives ps xs s (kd y) (fin s (kd y))) (rows s y at)).1 (rows s y at))
    (λ values g. h (value.Number n ∷ values) (given_more (stands_on w.clocks a) act.frame.slots param.Number ps x xs (value.Number n) values refl g)))
arguments_move m w a act (param.Clock ∷ ps) (x ∷ xs) fin go same there rows h =
    let kd = kind_of (looks w.clocks a) in
    let v = there x (inl refl) in
    let held : is_held (kd v.0) ≡ true = (hands_row x x (kd v.0) (gives ps xs x (kd v.0) (fin x (kd v.0))) (rows x v.0 v.1)).0 refl in
    clock_moves m w a (slice_get act.frame.slots x) v.0 _ v.1 held
    (λ k is. arguments_move m w a act ps xs fin (λ values. go (value.Clock k ∷ values)) (omega arith) (λ y named. there y (inr named))
    (λ s y at. subst Allowed (hands_row x s (kd y) (gives ps xs s (kd y) (fin s (kd y))) (rows s y at)).1 (rows s y at))
    (λ values g. h (value.Clock k ∷ values) (given_more (stands_on w.clocks a) act.frame.slots param.Clock ps x xs (value.Clock k) values
    (x, refl, refl, v.1 ∙ ap (λ z. Some z) is, subst (λ z. is_held (kd z) ≡ true) is held) g)))
