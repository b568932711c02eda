-- An activity has no more such slots than the unit that it began with was given clocks, and than clocks are made in slots from there on.
use Rattle.std.proofs.Common.{◌≡◌, ℕ, zero, suc, ◌+◌, ◌≤◌, Bool, true, false, cond, List, [], ◌∷◌, length, Some, refl, sym, ap, ◌∙◌, arith, slice_get}
use Rattle.std.specs.List.{count_by}
use Rattle.std.specs.Option.{option_map_or}
use Rattle.std.proofs.lemmas.Bool.{false≢true}
use Rattle.std.proofs.lemmas.List.{length-append}
use Rattle.std.proofs.lemmas.List.Sums.{sum_by-cons}
use Rattle.xk_types.specs.declared.world.Status.{Status}
use Rattle.xk_types.specs.declared.world.Value.{Value}
use Rattle.xk_types.specs.declared.rules.Kind.{Kind}
use Rattle.xk_types.specs.declared.unit.ParamKind.{ParamKind}
use Rattle.xk_types.specs.Code.{UnitValue, ModuleValue, params_of}
use Rattle.xk_types.specs.Blocks.{takes_clock}
use Rattle.xk_types.specs.Bound.{is_made, slots_made, made_of, given_to}
use Rattle.xk_types.specs.Shape.{HasShape}
use Rattle.xk_types.specs.World.{Frame, Activity, base_of, base_unit}
use Rattle.xk_law_schedules.proofs.Invariant.{IsActivitySound, IsWaiting, AreWaiting}
use Rattle.xk_law_schedules.proofs.BoundLemmas.TotalLemmas.{chain_own, chain_called}
use Rattle.xk_law_schedules.proofs.NamedClockCountLemmas.{how_many, none, below_is}
use Rattle.xk_law_schedules.proofs.FrameSlotLemmas.{picked, made_in, given_in, kept}

length-picked : (p : ℕ → Bool) (xs : List Value) → length (picked p xs) ≡ how_many p (length xs)
length-picked p [] = refl
length-picked p (x ∷ xs) = go (p 0) (length-picked (λ s. p (suc s)) xs)
  where
    rest : List Value
    rest = picked (λ s. p (suc s)) xs

    others : ℕ
    others = how_many (λ s. p (suc s)) (length xs)

    go : (b : Bool) → length rest ≡ others → length (cond b (x ∷ rest) rest) ≡ cond b 1 0 + others
    go true e = omega arith
    go false e = omega arith

-- no more slots are given clocks than there are such parameters
given_few : (ps : List ParamKind) (n : ℕ) → how_many (λ s. takes_clock (slice_get ps s)) n ≤ count_by (λ p. takes_clock (Some p)) ps
given_few ps zero = omega arith
given_few [] (suc n) = (let e = none (λ s. takes_clock (slice_get [] s)) (suc n) (λ k takes. false≢true takes) in omega arith)
given_few (p ∷ ps) (suc n) = omega (arith, given_few ps n, sum_by-cons (λ q. cond (takes_clock (Some q)) 1 0) p ps)

-- a frame has as many slots in which clocks are made as its unit
made_few : (m : ModuleValue) (f : Frame) (u : UnitValue) → slice_get m.units f.unit ≡ Some u → length f.slots ≡ u.slots
    → length (picked (made_in m f) f.slots) ≡ slots_made u
made_few m f u found long =
    length-picked (made_in m f) f.slots ∙ ap (how_many (made_in m f)) long
    ∙ ap (λ o. how_many (λ s. option_map_or (λ v. is_made v s) o false) u.slots) found ∙ sym (below_is (is_made u) u.slots)

-- with all that the unit of the first frame may still make
below : (m : ModuleValue) → HasShape m → (look : ℕ → Kind) (st : Status) (clocks : ℕ) (g : Frame) (fs : List Frame) → AreWaiting m look st clocks g fs
    → (u : UnitValue) → slice_get m.units g.unit ≡ Some u → length g.slots ≡ u.slots
    → length (kept m g fs) + made_of m g.unit ≤ slots_made u + (given_to m (base_of g fs) + made_of m (base_of g fs))
below m shape look st clocks g [] waiting u found long =
    omega (
      arith,
      length-append (picked (made_in m g) g.slots) (picked (given_in m g) g.slots),
      made_few m g u found long,
      length-picked (given_in m g) g.slots,
      given_few (params_of m g.unit) (length g.slots),
    )
below m shape look st clocks g (f ∷ fs) waiting u found long =
    let first : IsWaiting m look st clocks g f fs = waiting.0 in
    omega (
      arith,
      length-append (picked (made_in m g) g.slots) (kept m f fs),
      made_few m g u found long,
      chain_called slots_made m shape f.unit first.u first.found f.place g.unit first.args first.call,
      below m shape look st clocks f fs waiting.1 first.u first.found first.frame.slots,
    )

pub stacked : (m : ModuleValue) → HasShape m → (look : ℕ → Kind) (clocks now : ℕ) (act : Activity) → IsActivitySound m look clocks now act
    → length (kept m act.frame act.callers) ≤ given_to m (base_unit act) + made_of m (base_unit act)
stacked m shape look clocks now act s =
    omega (
      arith,
      chain_own slots_made m shape act.frame.unit s.u s.unit,
      below m shape look act.status clocks act.frame act.callers s.waiting s.u s.unit s.frame.slots,
    )
