-- Tables that pass the test have all that may be carried out.
use Rattle.std.proofs.Common.{◌≡◌, ◌∙◌, ℕ, zero, suc, ◌+◌, ◌<◌, ◌≤◌, ◌⊎◌, inl, inr, Bool, true, false, List, [], ◌∷◌}
use Rattle.std.proofs.Common.{length, Some, None, refl, sym, ap, subst, arith, below_more, slice_get}
use Rattle.std.specs.Prelude.{slice_index_or, IsTrue}
use Rattle.std.proofs.lemmas.Option.{option_and_then_some, same_Some, slice_get_cases, slice_get_read, slice_get_within}
use Rattle.xk_types.specs.declared.instr.Instr.{Instr}
use Rattle.xk_types.specs.declared.instr.Instr.TheVariants as instr
use Rattle.xk_types.specs.Code.{ModuleValue, UnitValue}
use Rattle.xk_types.specs.Shape.{target}
use Rattle.xk_types.specs.World.{Frame, instruction_at}
use Rattle.xk_closed.specs.Footprints.{IsBehind, IsPhase, IsRest}
use Rattle.xk_closed_sets.specs.declared.footprint.Footprint.{Footprint}
use Rattle.xk_closed_sets.specs.declared.places.Reach.{Reach}
use Rattle.xk_closed_sets.specs.Footprint.{Covers}
use Rattle.xk_closed_sets.specs.Footprints.{AreFootprints, FootprintsValue, everything, known_or_all, phase_of, rest_of}
use Rattle.xk_closed_sets.specs.Places.{AreClosed, HasThere, IsClosedAt, IsClosedIn, leads, nowhere}
use Rattle.xk_closed_sets.specs.Places.{phase_in, reach_at, rest_in}
use Rattle.xk_closed_sets.proofs.FootprintLemmas.{covers_nothing}

-- behind the end
past : {X : Type 0} (xs : List X) (i : ℕ) (d : X) → length xs ≤ i → slice_index_or xs i d ≡ d
past [] i d h = refl
past (x ∷ xs) zero d h = absurd (omega (arith, h))
past (x ∷ xs) (suc i) d h = past xs i d (omega (arith, h))

leads_target : (i : Instr) (q : ℕ) → target i ≡ Some q → leads i ≡ Some q
leads_target (instr.Next b) q h = cc
leads_target (instr.Unless op x y t) q h = h
leads_target (instr.Jump t) q h = h
leads_target (instr.ForTo k lo x hi e) q h = h
leads_target _ q h = h

module _ (m : ModuleValue) (rows : List (List Reach)) (closed : AreClosed rows m.units) where
  at : (f : Frame) (i : Instr) → instruction_at m f ≡ Some i → IsClosedAt rows f.unit f.place i
  at f i e = option_and_then_some (λ (u : UnitValue). slice_get u.code f.place) (slice_get m.units f.unit) i e
      (λ x found got. (closed.each f.unit x found).each f.place i got)

  -- a place where no instruction stands has nothing, nor has one behind it
  abbrev IsThere : ℕ → ℕ → Type 0
  IsThere u p = ((i : Instr) × IsClosedAt rows u p i) ⊎ ((reach_at rows u p ≡ nowhere) × (reach_at rows u (p + 1) ≡ nowhere))

  there : (u p : ℕ) → IsThere u p
  there u p = by (slice_get_cases m.units u).1
    where
      in_code : (x : UnitValue) → slice_get m.units u ≡ Some x
          → ((i : Instr) × (p < length x.code) × (slice_get x.code p ≡ Some i) × (slice_index_or x.code p i ≡ i))
          ⊎ ((length x.code ≤ p) × (slice_get x.code p ≡ None)) → IsThere u p
      in_code x found (inl (i, lt, got, e)) = inl (i, (closed.each u x found).each p i got)
      in_code x found (inr (le, e)) =
          let few = (closed.each u x found).few in
          inr (
            past (slice_index_or rows u []) p nowhere (omega (arith, few, le)),
            past (slice_index_or rows u []) (p + 1) nowhere (omega (arith, few, le)),
          )

      by : ((x : UnitValue) × (u < length m.units) × (slice_get m.units u ≡ Some x) × (slice_index_or m.units u x ≡ x))
          ⊎ ((length m.units ≤ u) × (slice_get m.units u ≡ None)) → IsThere u p
      by (inl (x, lt, found, e)) = in_code x found (slice_get_cases x.code p).1
      by (inr (le, e)) =
          let none : slice_index_or rows u [] ≡ [] = past rows u [] (let few = closed.few in omega (arith, few, le)) in
          inr (
            ap (λ (row : List Reach). slice_index_or row p nowhere) none,
            ap (λ (row : List Reach). slice_index_or row (p + 1) nowhere) none,
          )

  covers_none : (f : Footprint) (r : Reach) → r ≡ nowhere → Covers f r.rest × Covers f r.phase
  covers_none f r e = subst (λ (z : Reach). Covers f z.rest × Covers f z.phase) (sym e) (covers_nothing f, covers_nothing f)

  on : (u p : ℕ) → Covers (reach_at rows u p).rest (reach_at rows u (p + 1)).rest
  on u p = by (there u p)
    where
      by : IsThere u p → Covers (reach_at rows u p).rest (reach_at rows u (p + 1)).rest
      by (inl (i, c)) = c.on.rest
      by (inr (e, n)) = (covers_none (reach_at rows u p).rest (reach_at rows u (p + 1)) n).0

  within : (u p : ℕ) → Covers (reach_at rows u p).rest (reach_at rows u p).phase
  within u p = by (there u p)
    where
      by : IsThere u p → Covers (reach_at rows u p).rest (reach_at rows u p).phase
      by (inl (i, c)) = c.own.within
      by (inr (e, n)) = (covers_none (reach_at rows u p).rest (reach_at rows u p) e).1

  goes : (f : Frame) (i : Instr) (q : ℕ) → instruction_at m f ≡ Some i → IsBehind i f.place q
      → HasThere (reach_at rows f.unit f.place) (reach_at rows f.unit q) i
  goes f i q e (inl next) = subst (λ (k : ℕ). HasThere (reach_at rows f.unit f.place) (reach_at rows f.unit k) i) (sym next) (at f i e).on
  goes f i q e (inr (inl aims)) = (at f i e).goes q (leads_target i q aims)
  goes f i q e (inr (inr (b, is, back))) = (at f i e).goes q (ap leads is ∙ ap Some (sym back))

  pub closed_footprints : AreFootprints m (rest_in rows) (phase_in rows)
  closed_footprints = record {
    all = record {
      own = λ f i e. (at f i e).own.rest;
      on = λ u p j h. on u p j h;
      goes = λ f i j q e behind h. (goes f i q e behind).rest j h;
      calls = λ f t args j e h. (at f (instr.Call t args) e).runs.0 j h;
      starts = λ f t args j e h. (at f (instr.Spawn t args) e).runs.0 j h;
    };
    now = record {
      own = λ f i e. (at f i e).own.phase;
      goes = λ f i j q e stays behind h. (goes f i q e behind).phase stays j h;
      calls = λ f t args j e h. (at f (instr.Call t args) e).runs.1.0 j h;
      behind = λ f t args j e h. (at f (instr.Call t args) e).runs.1.1 j h;
      starts = λ f t args j e h. (at f (instr.Spawn t args) e).runs.1 j h;
      within = λ u p j h. within u p j h;
    };
  }

-- so has the table of everything
all_footprints : (m : ModuleValue) → AreFootprints m everything everything
all_footprints m = record {
  all = record {
    own = λ f i e. refl;
    on = λ u p j h. refl;
    goes = λ f i j q e behind h. refl;
    calls = λ f t args j e h. refl;
    starts = λ f t args j e h. refl;
  };
  now = record {
    own = λ f i e. refl;
    goes = λ f i j q e stays behind h. refl;
    calls = λ f t args j e h. refl;
    behind = λ f t args j e h. refl;
    starts = λ f t args j e h. refl;
    within = λ u p j h. refl;
  };
}

known_footprints : (f : FootprintsValue) → (IsTrue f.known → AreFootprints f.module_run (rest_in f.rows) (phase_in f.rows))
    → AreFootprints f.module_run (rest_of f) (phase_of f)
known_footprints f h = by f.known h
  where
    by : (known : Bool) → (IsTrue known → AreFootprints f.module_run (rest_in f.rows) (phase_in f.rows))
        → AreFootprints f.module_run (known_or_all known (rest_in f.rows)) (known_or_all known (phase_in f.rows))
    by true h = h refl
    by false h = all_footprints f.module_run

pub known_rest : (f : FootprintsValue) → (IsTrue f.known → AreFootprints f.module_run (rest_in f.rows) (phase_in f.rows))
    → IsRest f.module_run (rest_of f)
known_rest f h = (known_footprints f h).all

pub known_phase : (f : FootprintsValue) → (IsTrue f.known → AreFootprints f.module_run (rest_in f.rows) (phase_in f.rows))
    → IsPhase f.module_run (rest_of f) (phase_of f)
known_phase f h = (known_footprints f h).now

-- ---- loops over places and units

pub more_places : (rows : List (List Reach)) (u : ℕ) (code : List Instr) (n : ℕ) (x : Instr)
    → ((p : ℕ) → p < n → (i : Instr) → slice_get code p ≡ Some i → IsClosedAt rows u p i)
    → n < length code → x ≡ slice_index_or code n x → IsClosedAt rows u n x
    → (p : ℕ) → p < n + 1 → (i : Instr) → slice_get code p ≡ Some i → IsClosedAt rows u p i
more_places rows u code n x before lt is here = below_more (λ p. (i : Instr) → slice_get code p ≡ Some i → IsClosedAt rows u p i) n before
    (λ i found. subst (IsClosedAt rows u n) (same_Some x i (sym (slice_get_read code (length code) n x refl lt is) ∙ found)) here)

pub all_places : (rows : List (List Reach)) (u : ℕ) (code : List Instr) (n : ℕ) → length code ≤ n
    → ((p : ℕ) → p < n → (i : Instr) → slice_get code p ≡ Some i → IsClosedAt rows u p i)
    → length (slice_index_or rows u []) ≤ length code → IsClosedIn rows u code
all_places rows u code n le each few = record {
  few = few;
  each = λ p i found. let w = slice_get_within code p i found in each p (omega (arith, w, le)) i found;
}

pub all_units : (rows : List (List Reach)) (units : List UnitValue) (n : ℕ) → length units ≤ n
    → ((u : ℕ) → u < n → (y : UnitValue) → slice_get units u ≡ Some y → IsClosedIn rows u y.code)
    → length rows ≤ length units → AreClosed rows units
all_units rows units n le each few = record {
  few = few;
  each = λ u y found. let w = slice_get_within units u y found in each u (omega (arith, w, le)) y found;
}
