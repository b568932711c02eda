-- Worlds are alike where slots are live if their parts are, one by one.
use Rattle.std.proofs.Common.{◌≡◌, ◌∙◌, ℕ, zero, suc, ◌+◌, ◌<◌, Bool, true, false, cond, List}
use Rattle.std.proofs.Common.{[], ◌∷◌, length, map, Some}
use Rattle.std.proofs.Common.{refl, sym, ap, arith, slice_get, get_or, take, ext_get_or, ◌≤◌, Decides}
use Rattle.std.proofs.lemmas.List.{get_or-map, length-map, take_all}
use Rattle.std.proofs.lemmas.Option.{none-some, same_Some, slice_get-get_or}
use Rattle.xk_types.specs.declared.world.Value.{Value}
use Rattle.xk_types.specs.declared.world.Value.TheVariants as value
use Rattle.xk_types.specs.declared.world.Status.TheVariants as status
use Rattle.xk_types.specs.World.{Activity, Frame}
use Rattle.xk_activity.specs.Activities.{act_at, nobody}
use Rattle.xk_liveness.specs.Liveness.{SlotTable, live_activity, masked}
use Rattle.xk_liveness.specs.Liveness.{present, waiting}
use Rattle.xk_digests.specs.Likeness.{AreSameFrom}

-- ---- slots under masks

masked_length : (L : ℕ → Bool) (xs : List Value) → length (masked L xs) ≡ length xs
masked_length L [] = refl
masked_length L (x ∷ xs) = ap suc (masked_length (λ s. L (suc s)) xs)

masked_get : (L : ℕ → Bool) (xs : List Value) (s : ℕ) (x : Value) → slice_get xs s ≡ Some x
    → slice_get (masked L xs) s ≡ Some (cond (L s) x value.Unset)
masked_get L [] s x h = absurd (none-some x h)
masked_get L (y ∷ xs) zero x h = ap (λ (z : Value). Some (cond (L 0) z value.Unset)) (same_Some y x h)
masked_get L (y ∷ xs) (suc s) x h = masked_get (λ k. L (suc k)) xs s x h

-- slots are the same under a mask if each that is live is
pub masked_same : (L : ℕ → Bool) (xs ys : List Value) → length ys ≡ length xs
    → ((s : ℕ) → s < length xs → L s ≡ true → slice_get xs s ≡ slice_get ys s) → masked L xs ≡ masked L ys
masked_same L [] [] long each = refl
masked_same L [] (y ∷ ys) long each = absurd (omega (arith, long))
masked_same L (x ∷ xs) [] long each = absurd (omega (arith, long))
masked_same L (x ∷ xs) (y ∷ ys) long each =
    λ i. first (L 0) refl i ∷ masked_same (λ s. L (suc s)) xs ys (omega (arith, long))
    (λ s less live. each (suc s) (omega (arith, less)) live) i
  where
    first : (b : Bool) → L 0 ≡ b → cond b x value.Unset ≡ cond b y value.Unset
    first true h = same_Some x y (each 0 (omega arith) h)
    first false h = refl

pub same_length : (L : ℕ → Bool) (xs ys : List Value) → masked L xs ≡ masked L ys → length xs ≡ length ys
same_length L xs ys h = sym (masked_length L xs) ∙ ap length h ∙ masked_length L ys

-- one that is dead holds nothing, and one that is live what it held
pub masked_dead : (L : ℕ → Bool) (xs : List Value) (s : ℕ) → s < length xs → L s ≡ false → slice_get (masked L xs) s ≡ Some value.Unset
masked_dead L xs s there dead = masked_get L xs s (get_or xs s value.Unset) (slice_get-get_or xs s value.Unset there)
    ∙ ap (λ b. Some (cond b (get_or xs s value.Unset) value.Unset)) dead

pub masked_live : (L : ℕ → Bool) (xs : List Value) (s : ℕ) (x : Value) → slice_get xs s ≡ Some x → L s ≡ true
    → slice_get (masked L xs) s ≡ Some x
masked_live L xs s x there live = masked_get L xs s x there ∙ ap (λ b. Some (cond b x value.Unset)) live

-- all of them
pub all_masked : (L : ℕ → Bool) (xs : List Value) (n : ℕ) → length xs ≤ n → take n (masked L xs) ≡ masked L xs
all_masked L xs n all = let many = masked_length L xs in take_all n (masked L xs) (omega (arith, many, all))

-- ---- frames

-- a frame, what is live at another place of its unit being kept
abbrev kept_from : SlotTable → (ℕ → ℕ) → Frame → Frame
kept_from live k f = record f { slots = masked (live f.unit (k f.place)) f.slots }

frames_same : (live : SlotTable) (k : ℕ → ℕ) (f g : Frame) → AreSameFrom live (k f.place) f g → kept_from live k f ≡ kept_from live k g
frames_same live k f g h =
    let q : masked (live f.unit (k f.place)) f.slots ≡ masked (live g.unit (k g.place)) g.slots =
    h.2 ∙ (λ i. masked (live (h.0 i) (k (h.1 i))) g.slots) in
    λ i. record { unit = h.0 i; place = h.1 i; slots = q i }

frames_parts : (live : SlotTable) (k : ℕ → ℕ) (f g : Frame) → kept_from live k f ≡ kept_from live k g → AreSameFrom live (k f.place) f g
frames_parts live k f g h =
    let u : f.unit ≡ g.unit = ap (λ (z : Frame). z.unit) h in
    let p : f.place ≡ g.place = ap (λ (z : Frame). z.place) h in (
      u,
      p,
      ap (λ (z : Frame). z.slots) h ∙ sym (λ i. masked (live (u i) (k (p i))) g.slots),
    )

-- it is told whether they are the same
decided : {A B : Type 0} (b : Bool) → (A → B) → (B → A) → Decides b A → Decides b B
decided b to from d = (λ yes. to (d.0 yes), λ h. d.1 (from h))

pub present_decided : (live : SlotTable) (f g : Frame) (b : Bool) → Decides b (AreSameFrom live f.place f g)
    → Decides b (present live f ≡ present live g)
present_decided live f g b d = decided b (frames_same live (λ p. p) f g) (frames_parts live (λ p. p) f g) d

pub waiting_decided : (live : SlotTable) (f g : Frame) (b : Bool) → Decides b (AreSameFrom live (f.place + 1) f g)
    → Decides b (waiting live f ≡ waiting live g)
waiting_decided live f g b d = decided b (frames_same live (λ p. p + 1) f g) (frames_parts live (λ p. p + 1) f g) d

-- ---- activities

-- each of them, by what is read at its number
pub acts_same : (live : SlotTable) (xs ys : List Activity) → length ys ≡ length xs
    → ((b : ℕ) → b < length xs → live_activity live (act_at xs b) ≡ live_activity live (act_at ys b))
    → map (live_activity live) xs ≡ map (live_activity live) ys
acts_same live xs ys many each =
    let first = length-map xs (live_activity live) in
    let second = length-map ys (live_activity live) in
    ext_get_or nobody (map (live_activity live) xs) (map (live_activity live) ys) (first ∙ sym many ∙ sym second)
    (λ b lt. get_or-map (live_activity live) xs b nobody nobody (omega (arith, lt, first)) ∙ each b (omega (arith, lt, first))
    ∙ sym (get_or-map (live_activity live) ys b nobody nobody (omega (arith, lt, first, many))))

pub same_acts : (live : SlotTable) (xs ys : List Activity) (b : ℕ) → map (live_activity live) xs ≡ map (live_activity live) ys
    → b < length xs → b < length ys → live_activity live (act_at xs b) ≡ live_activity live (act_at ys b)
same_acts live xs ys b h here there = sym (get_or-map (live_activity live) xs b nobody nobody here)
    ∙ ap (λ (l : List Activity). get_or l b nobody) h
    ∙ get_or-map (live_activity live) ys b nobody nobody there
