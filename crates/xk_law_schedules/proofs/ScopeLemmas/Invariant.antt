-- The invariant of scopes. A clock belongs to the finish that is innermost where it is made, its scope: whoever is registered on the clock
-- is governed by that finish, or has it open.
use Rattle.std.proofs.Common.{◌≡◌, ℕ, zero, suc, ◌+◌, ◌<◌, ◌≤◌, ◌==◌, true, cond, List, [], ◌∷◌, ◌++◌, length, map, sum_by, Some, inl, inr, ◌⊎◌, refl, sym, ap, ◌∙◌, subst, arith}
use Rattle.std.specs.Prelude.{slice_get}
use Rattle.std.specs.Option.{option_map_or}
use Rattle.std.proofs.lemmas.Bool.{ne_eqb}
use Rattle.std.proofs.lemmas.List.{length-map}
use Rattle.xk_types.specs.declared.rules.Kind.{Kind}
use Rattle.xk_types.specs.Code.{UnitValue, ModuleValue}
use Rattle.xk_types.specs.Blocks.{block_at, depth_at, homes}
use Rattle.xk_types.specs.Bound.{room_of}
use Rattle.xk_types.specs.World.{Frame, Finish, Activity, Clock, World, base_of, base_unit}
use Rattle.xk_types.specs.Step.{Outcome, Blocked, Wrong, Stepped, governing, settled, settled_clock}
use Rattle.xk_types.specs.Order.{Has}
use Rattle.xk_law_schedules.proofs.Invariant.{Each, Names, NamedIn, looks, kind_by, is_held, stands_on}
use Rattle.xk_types.proofs.ListLemmas.{each_set, fun_ext}
use Rattle.xk_law_schedules.proofs.ClockLemmas.AdvanceLemmas.{looks-settled}
use Rattle.xk_law_schedules.proofs.SafetyLemmas.PreservationLemmas.{left}

-- ---- depths

-- the finish at this depth of activity a, which finish g governs
abbrev pub finish_at : ℕ → Finish → ℕ → Finish
finish_at a g zero = g
finish_at a g (suc d) = record { owner = Some a; depth = suc d }

-- how many finishes a frame has open
abbrev pub opened_in : ModuleValue → Frame → ℕ
opened_in m f = option_map_or (λ u. depth_at u f.place) (slice_get m.units f.unit) 0

-- how many these frames have
abbrev pub opened_by : ModuleValue → List Frame → ℕ
opened_by m fs = sum_by (opened_in m) fs

-- the finish that governs what an activity starts is its deepest
pub governing_at : (a : ℕ) (act : Activity) → governing a act ≡ finish_at a act.governed act.opened
governing_at a act = by act.opened refl
  where
    by : (n : ℕ) → act.opened ≡ n → cond (n == 0) act.governed (record { owner = Some a; depth = n }) ≡ finish_at a act.governed n
    by zero e = refl
    by (suc n) e = rw (ne_eqb (suc n) 0 (λ q. absurd (omega arith))) refl

-- ---- homes

-- the first block is round the second, or the same
abbrev pub IsRound : List ℕ → List ℕ → Type 0
IsRound [] ys = Unit {0}
IsRound (x ∷ xs) [] = ⊥
IsRound (x ∷ xs) (y ∷ ys) = (x ≡ y) × IsRound xs ys

pub round_same : (xs : List ℕ) → IsRound xs xs
round_same [] = tt
round_same (x ∷ xs) = (refl, round_same xs)

-- and round what is inside the second
pub round_more : (xs ys : List ℕ) (y : ℕ) → IsRound xs ys → IsRound xs (ys ++ y ∷ [])
round_more [] ys y h = tt
round_more (x ∷ xs) [] y h = absurd h
round_more (x ∷ xs) (z ∷ ys) y h = (h.0, round_more xs ys y h.1)

-- what is round a block in another is that block, or round the other
pub round_less : (xs ys : List ℕ) (y : ℕ) → IsRound xs (ys ++ y ∷ []) → IsRound xs ys ⊎ (xs ≡ ys ++ y ∷ [])
round_less [] ys y h = inl tt
round_less (x ∷ xs) [] y h = inr (ap (λ l. x ∷ l) (empty xs h.1) ∙ ap (λ z. z ∷ []) h.0)
  where
    empty : (l : List ℕ) → IsRound l [] → l ≡ []
    empty [] g = refl
    empty (z ∷ l) g = absurd g
round_less (x ∷ xs) (z ∷ ys) y h = elim (round_less xs ys y h.1) [
  | inl r ↦ inl (h.0, r)
  | inr e ↦ inr (ap (λ l. x ∷ l) e ∙ ap (λ q. q ∷ ys ++ y ∷ []) h.0)
]

-- it has no more finishes round it
pub round_length : (xs ys : List ℕ) → IsRound xs ys → length xs ≤ length ys
round_length [] ys h = omega arith
round_length (x ∷ xs) [] h = absurd h
round_length (x ∷ xs) (y ∷ ys) h = (let r = round_length xs ys h.1 in omega arith)

-- and fewer, where it is another
pub round_shorter : (xs ys : List ℕ) → IsRound xs ys → (xs ≡ ys → ⊥) → length xs < length ys
round_shorter [] [] h differs = absurd (differs refl)
round_shorter [] (y ∷ ys) h differs = omega arith
round_shorter (x ∷ xs) [] h differs = absurd h
round_shorter (x ∷ xs) (y ∷ ys) h differs = (let r = round_shorter xs ys h.1 (λ e. differs (ap (λ l. x ∷ l) e ∙ ap (λ z. z ∷ ys) h.0)) in omega arith)

-- ---- what holds of an activity

-- slot s of frame f of activity a names clock c: the slot has a home round the frame's place, and the clock's scope is the finish of that
-- home; so many finishes are open below the frame
pub record IsHome (m : ModuleValue) (a : ℕ) (g : Finish) (scopes : List Finish) (f : Frame) (below s c : ℕ) : Type 0 where
  pub u : UnitValue
  pub found : slice_get m.units f.unit ≡ Some u
  pub home : List ℕ
  pub is : Has (homes u s) home
  pub round : IsRound home (block_at u f.place)
  pub scope : slice_get scopes c ≡ Some (finish_at a g (length home + below))

-- so it is with each name in these frames of a clock on which the activity is registered
abbrev pub AreHome : ModuleValue → ℕ → Finish → List Finish → (ℕ → Kind) → List Frame → Type 0
AreHome m a g scopes look [] = Unit {0}
AreHome m a g scopes look (f ∷ fs) = ((s c : ℕ) → Names f.slots s c → is_held (look c) ≡ true → IsHome m a g scopes f (opened_by m fs) s c) × AreHome m a g scopes look fs

-- each of these frames has room for the finishes of its unit, and those below, in what the lowest unit has room for
abbrev pub AreRoomy : ModuleValue → ℕ → List Frame → Type 0
AreRoomy m base [] = Unit {0}
AreRoomy m base (f ∷ fs) = (opened_by m fs + room_of m f.unit ≤ room_of m base) × AreRoomy m base fs

-- with another frame of the same unit on top the lowest unit is the same
pub based : (f g : Frame) (fs : List Frame) → g.unit ≡ f.unit → base_of g fs ≡ base_of f fs
based f g [] same = same
based f g (x ∷ fs) same = refl

-- and there is room
pub rooms_same : (m : ModuleValue) (f g : Frame) (fs : List Frame) → g.unit ≡ f.unit → AreRoomy m (base_of f fs) (f ∷ fs) → AreRoomy m (base_of g fs) (g ∷ fs)
rooms_same m f g fs same h = subst (λ b. AreRoomy m b (g ∷ fs)) (sym (based f g fs same))
    ((let r = h.0 in let e : room_of m g.unit ≡ room_of m f.unit = ap (room_of m) same in omega arith), h.1)

-- an activity, by the kinds of clocks' names for it
pub record IsScopedIn (m : ModuleValue) (scopes : List Finish) (look : ℕ → Kind) (a : ℕ) (act : Activity) : Type 0 where
  -- it has the finishes open that stand round the places of its frames
  pub opened : act.opened ≡ opened_by m (act.frame ∷ act.callers)
  pub rooms : AreRoomy m (base_unit act) (act.frame ∷ act.callers)
  -- it is governed by the finish of an activity that was there before it
  pub owner : (o : ℕ) → act.governed.owner ≡ Some o → o < a
  pub homes : AreHome m a act.governed scopes look (act.frame ∷ act.callers)

-- a world
pub record IsScoped (m : ModuleValue) (w : World) : Type 0 where
  -- the scope of each clock
  pub scopes : List Finish
  pub width : length scopes ≡ length w.clocks
  pub activities : Each (λ a act. IsScopedIn m scopes (looks w.clocks a) a act) w.activities

-- what a step comes to, where it is one
abbrev pub Scopes : ModuleValue → Outcome → Type 0
Scopes m Blocked = Unit {0}
Scopes m (Wrong c) = Unit {0}
Scopes m (Stepped v e) = IsScoped m v

-- ---- with other scopes and standings

-- every scope that there was is still there
abbrev pub Keeps : List Finish → List Finish → Type 0
Keeps scopes more = (c : ℕ) (g : Finish) → slice_get scopes c ≡ Some g → slice_get more c ≡ Some g

pub home_kept : (m : ModuleValue) (a : ℕ) (g : Finish) (scopes more : List Finish) (f : Frame) (below s c : ℕ) → Keeps scopes more
    → IsHome m a g scopes f below s c → IsHome m a g more f below s c
home_kept m a g scopes more f below s c keeps h =
    record { u = h.u; found = h.found; home = h.home; is = h.is; round = h.round; scope = keeps c (finish_at a g (length h.home + below)) h.scope }

-- frames, where the activity is registered on no other of the clocks that they name
pub homes_kept : (m : ModuleValue) (a : ℕ) (g : Finish) (scopes more : List Finish) (look new : ℕ → Kind) (fs : List Frame) → Keeps scopes more
    → ((c : ℕ) → NamedIn fs c → is_held (new c) ≡ true → is_held (look c) ≡ true) → AreHome m a g scopes look fs → AreHome m a g more new fs
homes_kept m a g scopes more look new [] keeps fewer h = tt
homes_kept m a g scopes more look new (f ∷ fs) keeps fewer h = (
  (λ s c named held. home_kept m a g scopes more f (opened_by m fs) s c keeps (h.0 s c named (fewer c (inl (s, named)) held))),
  homes_kept m a g scopes more look new fs keeps (λ c named held. fewer c (inr named) held) h.1,
)

-- an activity
scoped_kept : (m : ModuleValue) (scopes more : List Finish) (look new : ℕ → Kind) (a : ℕ) (act : Activity) → Keeps scopes more
    → ((c : ℕ) → NamedIn (act.frame ∷ act.callers) c → is_held (new c) ≡ true → is_held (look c) ≡ true) → IsScopedIn m scopes look a act → IsScopedIn m more new a act
scoped_kept m scopes more look new a act keeps fewer s =
    record { opened = s.opened; rooms = s.rooms; owner = s.owner; homes = homes_kept m a act.governed scopes more look new (act.frame ∷ act.callers) keeps fewer s.homes }

-- ---- the world after a step

-- what a step leaves of the scopes, and of the activity that takes it
pub record IsLeftScoped (m : ModuleValue) (w : World) (a : ℕ) (act : Activity) (clocks : List Clock) (scopes : List Finish) : Type 0 where
  pub more : List Finish
  pub keeps : Keeps scopes more
  pub width : length more ≡ length clocks
  pub next : IsScopedIn m more (looks clocks a) a act
  pub others : (b k : ℕ) → (b ≡ a → ⊥) → stands_on clocks b k ≡ stands_on w.clocks b k

-- the end of a step changes no kind
pub settled_looks : (now : ℕ) (clocks : List Clock) (a : ℕ) → looks (map (settled_clock now) clocks) a ≡ looks clocks a
settled_looks now clocks a = fun_ext (looks (map (settled_clock now) clocks) a) (looks clocks a) (looks-settled now clocks a)

-- a world keeps its scopes where a step changes one activity, and where it stands
pub left_scoped : (m : ModuleValue) (w : World) (a : ℕ) (was act : Activity) (clocks : List Clock) (s : IsScoped m w) → slice_get w.activities a ≡ Some was
    → IsLeftScoped m w a act clocks s.scopes → IsScoped m (settled (left w a act clocks))
left_scoped m w a was act clocks s found l = record {
  scopes = l.more;
  width = l.width ∙ sym (length-map clocks (settled_clock (w.steps + 1)));
  activities = each_set (λ b x. IsScopedIn m l.more (looks (map (settled_clock (w.steps + 1)) clocks) b) b x) w.activities a was act found
      (subst (λ look. IsScopedIn m l.more look a act) (sym (settled_looks (w.steps + 1) clocks a)) l.next)
      (λ b x differs at. subst (λ look. IsScopedIn m l.more look b x)
      (fun_ext (looks w.clocks b) (looks clocks b) (λ k. ap kind_by (sym (l.others b k differs))) ∙ sym (settled_looks (w.steps + 1) clocks b))
      (scoped_kept m s.scopes l.more (looks w.clocks b) (looks w.clocks b) b x l.keeps (λ c named h. h) (s.activities b x at)));
}
