-- A set in which each activity fits is closed.
use Rattle.std.proofs.Common.{◌≡◌, ◌∙◌, ℕ, zero, suc, ◌<◌, ◌≤◌, ◌⊎◌, inl, inr, Bool, true, false, true≢false, List, []}
use Rattle.std.proofs.Common.{◌∷◌, length, sym, subst, arith}
use Rattle.std.specs.Option.{option_map_or}
use Rattle.std.proofs.lemmas.Option.{get_or_from_slice_get, slice_get_within}
use Rattle.xk_types.specs.declared.instr.Instr.{Instr}
use Rattle.xk_types.specs.Code.{ModuleValue}
use Rattle.xk_types.specs.World.{Activity, World}
use Rattle.xk_types.specs.Schedule.{is_enabled}
use Rattle.xk_law_commute.specs.Conflicts.{next_instruction}
use Rattle.xk_activity.specs.Activities.{nobody}
use Rattle.xk_core.specs.Core.{IsCore}
use Rattle.xk_closed.specs.Closed.{IsClosed, IsStuck}
use Rattle.xk_closed.specs.Footprints.{AreCovered, IsBounded, MayDo, Table}
use Rattle.xk_closed.specs.Futures.{IsFree}
use Rattle.xk_closed.proofs.FootprintLaw.{footprints}
use Rattle.xk_closed.proofs.FutureLaw.{free_closed}
use Rattle.xk_closed_sets.specs.declared.footprint.Footprint.{Footprint}
use Rattle.xk_closed_sets.specs.ClosedSets.{IsFitting, IsMember, IsOutsider, is_in}
use Rattle.xk_closed_sets.specs.Footprint.{has, is_apart}
use Rattle.xk_closed_sets.specs.Footprints.{AreFootprints}
use Rattle.xk_closed_sets.proofs.FootprintLemmas.{apart_of, silent_of}

-- only those on the list are in the set
in_within : (members : List Bool) (a : ℕ) → is_in members a ≡ true → a < length members
in_within [] a h = absurd (true≢false (sym h))
in_within (x ∷ xs) zero h = omega arith
in_within (x ∷ xs) (suc a) h = let less = in_within xs a h in omega (arith, less)

-- ---- one that fits

pub member_free : (m : ModuleValue) (w : World) (set : ℕ → Bool) (f : Footprint) (a : ℕ) → is_enabled m w a ≡ true
    → option_map_or (is_apart f) (next_instruction m w a) true ≡ true → IsMember m w set f a
member_free m w set f a enabled apart = record {
  moves = inl enabled;
  apart = λ e j h. apart_of f (next_instruction m w a) j apart h;
  silent = λ e j h. silent_of f (next_instruction m w a) j apart h;
}

pub member_stuck : (m : ModuleValue) (w : World) (set : ℕ → Bool) (f : Footprint) (a : ℕ) → is_enabled m w a ≡ false → IsStuck m w set a
    → IsMember m w set f a
member_stuck m w set f a disabled stuck = record {
  moves = inr stuck;
  apart = λ e j h. absurd (true≢false (sym e ∙ disabled));
  silent = λ e j h. absurd (true≢false (sym e ∙ disabled));
}

pub fitting_member : (m : ModuleValue) (w : World) (set : ℕ → Bool) (rest phase : Table) (f : Footprint) (a : ℕ) → set a ≡ true
    → IsMember m w set f a → IsFitting m w set rest phase f a
fitting_member m w set rest phase f a inside h = record { member = λ e. h; outsider = λ e. absurd (true≢false (sym inside ∙ e)) }

pub fitting_outsider : (m : ModuleValue) (w : World) (set : ℕ → Bool) (rest phase : Table) (f : Footprint) (a : ℕ) → set a ≡ false
    → IsOutsider m w set rest phase f a → IsFitting m w set rest phase f a
fitting_outsider m w set rest phase f a outside h = record { member = λ e. absurd (true≢false (sym e ∙ outside)); outsider = λ e. h }

module _ (m : ModuleValue) (w : World) (core : IsCore m w) (members : List Bool) where
  module _ (rest phase : Table) (tables : AreFootprints m rest phase) (f : Footprint) (few : length members ≤ length w.activities)
      (fits : (a : ℕ) → a < length w.activities → IsFitting m w (is_in members) rest phase f a) where
    covered : AreCovered m w (is_in members) rest phase (has f)
    covered r act found out = subst (λ (z : Activity). ((j : Instr) → MayDo rest z j → has f j ≡ true)
        ⊎ (IsBounded w (is_in members) rest phase (has f) r z ⊎ IsStuck m w (is_in members) r))
        (get_or_from_slice_get w.activities r act nobody found) ((fits r (slice_get_within w.activities r act found)).outsider out)

    member : (a : ℕ) → is_in members a ≡ true → IsMember m w (is_in members) f a
    member a inside = let less = in_within members a inside in (fits a (omega (arith, less, few))).member inside

    free : IsFree m w (is_in members) (has f)
    free = record {
      moves = λ a inside. (member a inside).moves;
      apart = λ a j inside enabled h. (member a inside).apart enabled j h;
      silent = λ a j inside enabled h. (member a inside).silent enabled j h;
    }

    pub fitting_closed : IsClosed m w (is_in members)
    fitting_closed = free_closed m w (is_in members) (has f)
        (footprints m core.limits core.accepted rest phase tables.all tables.now w core.reached (is_in members) (has f) covered) free
