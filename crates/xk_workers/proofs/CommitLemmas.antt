-- Local steps of one activity that are handed in: what others have claimed stays local.
use Rattle.std.proofs.Common.{◌≡◌, ◌∙◌, ◌⊎◌, inl, inr, ℕ, zero, suc, Bool, true, false, true≢false, List, [], ◌∷◌, length, replicate, refl, sym, ap, subst, slice_set, length-set}
use Rattle.std.proofs.lemmas.Bool.{cases_eq}
use Rattle.xk_types.specs.declared.world.Event.{Event}
use Rattle.xk_types.specs.declared.world.Event.TheVariants as event
use Rattle.xk_types.specs.Code.{ModuleValue}
use Rattle.xk_types.specs.World.{World}
use Rattle.xk_types.specs.Step.{Stepped, step}
use Rattle.xk_types.specs.Schedule.{Through, run, events, events_on}
use Rattle.xk_law_schedules.proofs.ReachabilityLemmas.{same_through, first_step}
use Rattle.xk_core.specs.Core.{CoreValue, IsCore, is_next_local}
use Rattle.xk_core.specs.LocalRun.{RunsTo, AreLocal}
use Rattle.xk_core.proofs.CoreLemmas.{core_stepped}
use Rattle.xk_scheduler.proofs.IndependenceLemmas.{keeps_width}
use Rattle.xk_workers.specs.Claims.{is_claimed, AreClaims}
use Rattle.xk_workers.proofs.LocalStepLemmas.{stays_local}

-- ---- claims that are put and released

-- who isn't put or released is claimed as before
claimed_other : (claims : List Bool) (a b : ℕ) (x : Bool) → (b ≡ a → ⊥) → is_claimed (slice_set claims a x) b ≡ is_claimed claims b
claimed_other [] a b x differs = refl
claimed_other (c ∷ cs) zero zero x differs = absurd (differs refl)
claimed_other (c ∷ cs) zero (suc b) x differs = refl
claimed_other (c ∷ cs) (suc a) zero x differs = refl
claimed_other (c ∷ cs) (suc a) (suc b) x differs = claimed_other cs a b x (λ e. differs (ap (λ k. suc k) e))

-- who is released isn't claimed
released_not : (claims : List Bool) (a : ℕ) → is_claimed (slice_set claims a false) a ≡ false
released_not [] a = refl
released_not (c ∷ cs) zero = refl
released_not (c ∷ cs) (suc a) = released_not cs a

-- where one is released, who is claimed is another, and was claimed before
still_claimed : (claims : List Bool) (a b : ℕ) → is_claimed (slice_set claims a false) b ≡ true → (b ≡ a → ⊥) × (is_claimed claims b ≡ true)
still_claimed claims a b h = of (cases_eq b a)
  where
    of : (b ≡ a) ⊎ (b ≡ a → ⊥) → (b ≡ a → ⊥) × (is_claimed claims b ≡ true)
    of (inl s) = absurd (true≢false (sym h ∙ ap (is_claimed (slice_set claims a false)) s ∙ released_not claims a))
    of (inr ne) = (ne, sym (claimed_other claims a b false ne) ∙ h)

-- who is about to take a local step can be claimed
pub claims_put : (c : CoreValue) (a : ℕ) (claims : List Bool) → is_next_local c a ≡ true → AreClaims c claims → AreClaims c (slice_set claims a true)
claims_put c a claims l kept = record {
  wide = length-set claims a true ∙ kept.wide;
  local = λ b h. of b (cases_eq b a) h;
}
  where
    of : (b : ℕ) → (b ≡ a) ⊎ (b ≡ a → ⊥) → is_claimed (slice_set claims a true) b ≡ true → is_next_local c b ≡ true
    of b (inl s) h = ap (is_next_local c) s ∙ l
    of b (inr ne) h = kept.local b (sym (claimed_other claims a b true ne) ∙ h)

pub claims_release : (c : CoreValue) (a : ℕ) (claims : List Bool) → AreClaims c claims → AreClaims c (slice_set claims a false)
claims_release c a claims kept = record {
  wide = length-set claims a false ∙ kept.wide;
  local = λ b h. kept.local b (still_claimed claims a b h).1;
}

-- who wasn't claimed, and is put and released, leaves the claims as they were
pub put_back : (claims : List Bool) (a : ℕ) → is_claimed claims a ≡ false → slice_set (slice_set claims a true) a false ≡ claims
put_back [] a free = refl
put_back (c ∷ cs) zero free = ap (λ (x : Bool). x ∷ cs) (sym free)
put_back (c ∷ cs) (suc a) free = ap (λ (l : List Bool). c ∷ l) (put_back cs a free)

-- ---- n local steps

-- the module in a world
abbrev core_in : ModuleValue → World → CoreValue
core_in m w = record { module_run = m; world = w }

-- what n local steps of activity a leave: as many activities, and what is local of others
record Leaves (m : ModuleValue) (a : ℕ) (w v : World) : Type 0 where
  pub width : length v.activities ≡ length w.activities
  pub others : (b : ℕ) → (b ≡ a → ⊥) → is_next_local (core_in m w) b ≡ true → is_next_local (core_in m v) b ≡ true

heads : (p q : ℕ × Event) (ps qs : List (ℕ × Event)) → p ∷ ps ≡ q ∷ qs → (p ≡ q) × (ps ≡ qs)
heads p q ps qs h = (cc, cc)

leaves : (m : ModuleValue) (a n : ℕ) (w v : World) → IsCore m w → run m (replicate n a) w ≡ Through v → events m (replicate n a) w ≡ replicate n (a, event.Local) → Leaves m a w v
leaves m a zero w v core goes shows = subst (Leaves m a w) (same_through w v goes) (record { width = refl; others = λ b ne l. l })
leaves m a (suc n) w v core goes shows =
    let f = first_step w v (step m w a) (run m (replicate n a)) goes in
    let at = heads (a, f.1) (a, event.Local) (events m (replicate n a) f.0) (replicate n (a, event.Local))
    (sym (ap (λ o. events_on a o (events m (replicate n a))) f.2) ∙ shows) in
    let taken : step m w a ≡ Stepped f.0 event.Local = f.2 ∙ ap (λ (p : ℕ × Event). Stepped f.0 p.1) at.0 in
    let next : IsCore m f.0 = core_stepped m w f.0 a event.Local core taken in
    let rest : Leaves m a f.0 v = leaves m a n f.0 v next f.3 at.1 in
    record {
      width = rest.width ∙ keeps_width m w f.0 a event.Local taken (λ e. cc);
      others = λ b ne l. rest.others b ne (stays_local (core_in m w) (core_in m f.0) a b event.Local core next refl taken ne l);
    }

-- local steps of an activity that is released then keep the claims of all others
pub claims_handed : (c d : CoreValue) (a n : ℕ) (claims : List Bool) → IsCore c.module_run c.world → d.module_run ≡ c.module_run → RunsTo c a n d → AreLocal c a n
    → AreClaims c claims → AreClaims d (slice_set claims a false)
claims_handed c d a n claims core same ran local kept = record {
  wide = length-set claims a false ∙ kept.wide ∙ sym left.width;
  local = λ b h.
      let s = still_claimed claims a b h in
      subst (λ m. is_next_local (core_in m d.world) b ≡ true) (sym same) (left.others b s.0 (kept.local b s.1));
}
  where
    left : Leaves c.module_run a c.world d.world
    left = leaves c.module_run a n c.world d.world core ran local
