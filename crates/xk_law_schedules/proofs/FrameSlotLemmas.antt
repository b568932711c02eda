-- The slots of an activity's frames in which clocks are made, and those of the last frame that were given: each clock on which it is
-- registered is named in one of them.
use Rattle.std.proofs.Common.{◌≡◌, ℕ, zero, suc, ◌≤◌, Bool, true, false, cond, ◌||◌, ◌⊎◌, List, [], ◌∷◌, ◌++◌, length, Some, inl, inr, refl, sym, ap, ◌∙◌, subst, slice_get}
use Rattle.std.specs.List.{list_any}
use Rattle.std.specs.Option.{option_map_or}
use Rattle.std.proofs.lemmas.Bool.{false≢true}
use Rattle.std.proofs.lemmas.Option.{none-some, same_Some, slice_get_past}
use Rattle.xk_types.specs.declared.instr.Instr.{Instr}
use Rattle.xk_types.specs.declared.world.Status.{Status}
use Rattle.xk_types.specs.declared.world.Value.{Value}
use Rattle.xk_types.specs.declared.world.Value.TheVariants as value
use Rattle.xk_types.specs.declared.rules.Kind.{Kind}
use Rattle.xk_types.specs.declared.unit.ParamKind.{ParamKind}
use Rattle.xk_types.specs.Code.{UnitValue, ModuleValue, params_of}
use Rattle.xk_types.specs.Blocks.{block_at, takes_clock, makes, made_from, homes}
use Rattle.xk_types.specs.Bound.{is_made}
use Rattle.xk_types.specs.Order.{Has}
use Rattle.xk_types.specs.World.{Finish, Frame}
use Rattle.xk_types.proofs.ListLemmas.{get-append_left}
use Rattle.xk_law_schedules.proofs.Invariant.{Names, NamedIn, IsShared, IsWaiting, AreWaiting, is_held}
use Rattle.xk_law_schedules.proofs.ScopeLemmas.Invariant.{opened_by, IsHome, AreHome}

-- ---- what a list has in the slots that pass a test

abbrev pub picked : (ℕ → Bool) → List Value → List Value
picked p [] = []
picked p (x ∷ xs) = cond (p 0) (x ∷ picked (λ s. p (suc s)) xs) (picked (λ s. p (suc s)) xs)

picked_named : (p : ℕ → Bool) (xs : List Value) (s c : ℕ) → p s ≡ true → Names xs s c → (t : ℕ) × Names (picked p xs) t c
picked_named p [] s c passes named = absurd (none-some (value.Clock c) named)
picked_named p (x ∷ xs) zero c passes named = rw passes (0, named)
picked_named p (x ∷ xs) (suc s) c passes named = go (p 0) (picked_named (λ t. p (suc t)) xs s c passes named)
  where
    rest : List Value
    rest = picked (λ t. p (suc t)) xs

    go : (b : Bool) → (t : ℕ) × Names rest t c → (t : ℕ) × Names (cond b (x ∷ rest) rest) t c
    go true t = (suc t.0, t.1)
    go false t = t

behind : (xs ys : List Value) (s c : ℕ) → Names ys s c → (t : ℕ) × Names (xs ++ ys) t c
behind [] ys s c named = (s, named)
behind (x ∷ xs) ys s c named = let t = behind xs ys s c named in (suc t.0, t.1)

-- ---- slots with a home

-- one of the blocks in which its clock is made
made_any : (u : UnitValue) (s at : ℕ) (is : List Instr) (h : List ℕ) → Has (made_from u s at is) h → list_any (makes s) is ≡ true
made_any u s at [] h has = absurd has
made_any u s at (i ∷ is) h has = go (makes s i) has (made_any u s (suc at) is h)
  where
    later : List (List ℕ)
    later = made_from u s (suc at) is

    go : (b : Bool) → Has (cond b (block_at u at ∷ later) later) h → (Has later h → list_any (makes s) is ≡ true) → (b || list_any (makes s) is) ≡ true
    go true here rest = refl
    go false here rest = rest here

-- a clock is given in the slot, or made in it
homed : (u : UnitValue) (s : ℕ) (h : List ℕ) → Has (homes u s) h → (takes_clock (slice_get u.params s) ≡ true) ⊎ (is_made u s ≡ true)
homed u s h has = go (takes_clock (slice_get u.params s)) has
  where
    go : (b : Bool) → Has (cond b ([] ∷ []) [] ++ made_from u s 0 u.code) h → (b ≡ true) ⊎ (is_made u s ≡ true)
    go true here = inl refl
    go false here = inr (made_any u s 0 u.code h here)

-- a slot behind the parameters is given nothing
no_parameter : (ps : List ParamKind) (s : ℕ) → length ps ≤ s → takes_clock (slice_get ps s) ≡ true → ⊥
no_parameter ps s le takes = false≢true (sym (ap takes_clock (slice_get_past ps s le)) ∙ takes)

-- ---- frames

-- the unit of the frame makes clocks in the slot
abbrev pub made_in : ModuleValue → Frame → ℕ → Bool
made_in m f s = option_map_or (λ u. is_made u s) (slice_get m.units f.unit) false

-- it was given one there
abbrev pub given_in : ModuleValue → Frame → ℕ → Bool
given_in m f s = takes_clock (slice_get (params_of m f.unit) s)

-- what the frames have in slots in which clocks are made, and the last one in those in which it was given some
abbrev pub kept : ModuleValue → Frame → List Frame → List Value
kept m g [] = picked (made_in m g) g.slots ++ picked (given_in m g) g.slots
kept m g (f ∷ fs) = picked (made_in m g) g.slots ++ kept m f fs

module _ (m : ModuleValue) (a : ℕ) (governed : Finish) (scopes : List Finish) (look : ℕ → Kind) (st : Status) (clocks : ℕ) where
  made_here : (g : Frame) (u : UnitValue) (s : ℕ) → slice_get m.units g.unit ≡ Some u → is_made u s ≡ true → made_in m g s ≡ true
  made_here g u s found made = ap (λ o. option_map_or (λ v. is_made v s) o false) found ∙ made

  given_here : (g : Frame) (u : UnitValue) (s : ℕ) → slice_get m.units g.unit ≡ Some u → takes_clock (slice_get u.params s) ≡ true → given_in m g s ≡ true
  given_here g u s found takes = ap (λ o. takes_clock (slice_get (option_map_or (λ v. v.params) o []) s)) found ∙ takes

  -- in a slot in which clocks are made
  in_made : (g : Frame) (others : List Value) (s c : ℕ) → made_in m g s ≡ true → Names g.slots s c
      → (t : ℕ) × Names (picked (made_in m g) g.slots ++ others) t c
  in_made g others s c made named =
      let t = picked_named (made_in m g) g.slots s c made named in
      (t.0, get-append_left (picked (made_in m g) g.slots) others t.0 (value.Clock c) t.1)

  -- What is named in a parameter of a method is named in the frame below, too.
  pub kept_named : (g : Frame) (fs : List Frame) → AreWaiting m look st clocks g fs → AreHome m a governed scopes look (g ∷ fs)
      → (c : ℕ) → is_held (look c) ≡ true → NamedIn (g ∷ fs) c → (t : ℕ) × Names (kept m g fs) t c
  kept_named g [] waiting home c held named = elim named [
    | inl here ↦ last here.0 here.1 (home.0 here.0 c here.1 held)
    | inr there ↦ absurd there
  ]
    where
      last : (s : ℕ) → Names g.slots s c → IsHome m a governed scopes g (opened_by m []) s c → (t : ℕ) × Names (kept m g []) t c
      last s at h = elim (homed h.u s h.home h.is) [
        | inl takes ↦
            let t = picked_named (given_in m g) g.slots s c (given_here g h.u s h.found takes) at in
            behind (picked (made_in m g) g.slots) (picked (given_in m g) g.slots) t.0 c t.1
        | inr made ↦ in_made g (picked (given_in m g) g.slots) s c (made_here g h.u s h.found made) at
      ]
  kept_named g (f ∷ fs) waiting home c held named =
      go (λ there.
      let t = kept_named f fs waiting.1 home.1 c held there in
      behind (picked (made_in m g) g.slots) (kept m f fs) t.0 c t.1)
    where
      lent : (v : UnitValue) (args : List ℕ) (s : ℕ) → takes_clock (slice_get v.params s) ≡ true → IsShared v.params args s c f fs
          → (NamedIn (f ∷ fs) c → (t : ℕ) × Names (kept m g (f ∷ fs)) t c) → (t : ℕ) × Names (kept m g (f ∷ fs)) t c
      lent v args s takes shared below = elim shared [
        | inl l ↦ below (inl (l.0, l.3))
        | inr own ↦ absurd (no_parameter v.params s own.0 takes)
      ]

      first : (s : ℕ) → Names g.slots s c → IsHome m a governed scopes g (opened_by m (f ∷ fs)) s c
          → (NamedIn (f ∷ fs) c → (t : ℕ) × Names (kept m g (f ∷ fs)) t c) → (t : ℕ) × Names (kept m g (f ∷ fs)) t c
      first s at h below = elim (homed h.u s h.home h.is) [
        | inl takes ↦
            let w : IsWaiting m look st clocks g f fs = waiting.0 in
            let same : h.u ≡ w.v = same_Some h.u w.v (sym h.found ∙ w.callee) in
            lent w.v w.args s (subst (λ v. takes_clock (slice_get v.params s) ≡ true) same takes) (w.shares s c at) below
        | inr made ↦ in_made g (kept m f fs) s c (made_here g h.u s h.found made) at
      ]

      go : (NamedIn (f ∷ fs) c → (t : ℕ) × Names (kept m g (f ∷ fs)) t c) → (t : ℕ) × Names (kept m g (f ∷ fs)) t c
      go below = elim named [
        | inl here ↦ first here.0 here.1 (home.0 here.0 c here.1 held) below
        | inr there ↦ below there
      ]
