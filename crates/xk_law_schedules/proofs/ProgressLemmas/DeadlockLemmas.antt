-- Where nobody is enabled, every activity has ended: whoever shares a clock with one under a finish that is waited for is under it too, and
-- among those who wait for one another alone the one that passed longest ago isn't held back.
use Rattle.std.proofs.Common.{◌≡◌, ℕ, zero, suc, ◌+◌, ◌<◌, ◌≤◌, true, false, List, [], ◌∷◌, length, Some, refl, sym, ap, ◌∙◌, subst, arith, inl, inr}
use Rattle.std.specs.Prelude.{slice_get}
use Rattle.std.proofs.lemmas.Bool.{false≢true, true_from_ne_false}
use Rattle.std.proofs.lemmas.Option.{slice_get_within, same_Some}
use Rattle.std.proofs.lemmas.List.Sums.{sum_by-cons}
use Rattle.std.specs.Option.{option_map_or}
use Rattle.xk_types.specs.declared.world.Status.{Status}
use Rattle.xk_types.specs.declared.world.Status.TheVariants as status
use Rattle.xk_types.specs.Code.{ModuleValue}
use Rattle.xk_types.specs.Blocks.{block_at, depth_at, homes}
use Rattle.xk_types.specs.Order.{Has}
use Rattle.xk_types.specs.World.{Frame, Finish, Activity, World, is_ended}
use Rattle.xk_types.specs.Step.{innermost, is_under, step_by, step_of}
use Rattle.xk_types.specs.Schedule.{is_step, is_enabled, all_ended}
use Rattle.xk_types.specs.Acceptance.{IsAccepted}
use Rattle.xk_law_schedules.proofs.Invariant.{NamedIn, IsActivitySound, IsSound, looks, is_held}
use Rattle.xk_types.proofs.ListLemmas.{get_inside, all_given}
use Rattle.xk_law_schedules.proofs.SafetyLemmas.InstructionLemmas.{standing_at, running_moves}
use Rattle.xk_law_schedules.proofs.ScopeLemmas.Invariant.{finish_at, opened_in, opened_by, IsRound, round_length, round_shorter, AreHome, IsScoped}
use Rattle.xk_law_schedules.proofs.ScopeLemmas.StepLemmas.{closed_home}
use Rattle.xk_law_schedules.proofs.ScopeLemmas.FinishOwnerLemmas.{AreOwned, under_governed, under_owner, under_cases, under_above, IsAwaited, awaited}
use Rattle.xk_law_schedules.proofs.SafetyLemmas.StepLemmas.{moves_step, open_at_end, IsAtEnd, free_or_end}
use Rattle.xk_law_schedules.proofs.ProgressLemmas.WaitLemmas.{ShareClock, stuck_waits, waits_for}

-- ---- who is registered on a clock

module _ (m : ModuleValue) (ok : IsAccepted m) (w : World) (sound : IsSound m w) (scoped : IsScoped m w) where
  -- the depth at which a clock belongs to an activity that is registered on it
  pub record HasDepth (a : ℕ) (act : Activity) (c most : ℕ) : Type 0 where
    pub depth : ℕ
    pub within : depth ≤ most
    pub scope : slice_get scoped.scopes c ≡ Some (finish_at a act.governed depth)

  -- by a frame that names it
  frames_depth : (a : ℕ) (act : Activity) (c : ℕ) → is_held (looks w.clocks a c) ≡ true → (fs : List Frame) → NamedIn fs c
      → AreHome m a act.governed scoped.scopes (looks w.clocks a) fs
      → HasDepth a act c (opened_by m fs)
  frames_depth a act c held [] named h = absurd named
  frames_depth a act c held (f ∷ fs) (inl p) h =
      let r = h.0 p.0 c p.1 held in
      let depth : opened_in m f ≡ length (block_at r.u f.place) = ap (λ o. option_map_or (λ u. depth_at u f.place) o 0) r.found in
      record { depth = length r.home + opened_by m fs; within = omega (arith, round_length r.home (block_at r.u f.place) r.round, sum_by-cons (opened_in m) f fs); scope = r.scope }
  frames_depth a act c held (f ∷ fs) (inr p) h =
      let r = frames_depth a act c held fs p h.1 in
      record { depth = r.depth; within = omega (arith, r.within, sum_by-cons (opened_in m) f fs); scope = r.scope }

  holder_depth : (a : ℕ) (act : Activity) (c : ℕ) → slice_get w.activities a ≡ Some act → is_held (looks w.clocks a c) ≡ true → HasDepth a act c act.opened
  holder_depth a act c found held =
      let s = scoped.activities a act found in
      let r = frames_depth a act c held (act.frame ∷ act.callers) ((sound.activities a act found).held c held) s.homes in
      record { depth = r.depth; within = omega (arith, r.within, s.opened); scope = r.scope }

  -- one who waits at an `endfinish` is registered on no clock of the finish that ends
  end_depth : (a : ℕ) (act : Activity) (found : slice_get w.activities a ≡ Some act) → act.status ≡ status.Running
      → IsAtEnd m ok w sound scoped a act found → (c : ℕ) → is_held (looks w.clocks a c) ≡ true
      → (d : ℕ) × (d < act.opened) × (slice_get scoped.scopes c ≡ Some (finish_at a act.governed d))
  end_depth a act found running e c held = by ((sound.activities a act found).held c held) (scoped.activities a act found).homes
    where
      me : IsActivitySound m (looks w.clocks a) (length w.clocks) w.steps act
      me = sound.activities a act found

      by : NamedIn (act.frame ∷ act.callers) c → AreHome m a act.governed scoped.scopes (looks w.clocks a) (act.frame ∷ act.callers)
          → (d : ℕ) × (d < act.opened) × (slice_get scoped.scopes c ≡ Some (finish_at a act.governed d))
      by (inl p) h =
          let r = h.0 p.0 c p.1 held in
          let is : r.u ≡ me.u = same_Some r.u me.u (sym r.found ∙ me.unit) in
          let depth : opened_in m act.frame ≡ length (block_at me.u act.frame.place) = ap (λ o. option_map_or (λ u. depth_at u act.frame.place) o 0) me.unit in
          let shorter = round_shorter r.home (block_at me.u act.frame.place) (subst (λ v. IsRound r.home (block_at v act.frame.place)) is r.round)
          (λ q. closed_home m ok w a act sound scoped found running e.b e.here p.0 c p.1 held (subst (Has (homes me.u p.0)) q (subst (λ v. Has (homes v p.0) r.home) is r.is))) in
          (length r.home + opened_by m act.callers, omega (arith, (scoped.activities a act found).opened, sum_by-cons (opened_in m) act.frame act.callers), r.scope)
      by (inr p) h =
          let r = frames_depth a act c held act.callers p h.1 in
          (r.depth, omega (arith, r.within, open_at_end m ok w sound scoped a act found e.b e.here), r.scope)

  owned : AreOwned w.activities
  owned b act found o e = (scoped.activities b act found).owner o e

  -- Whoever shares a clock with one who is under the finish is under it too, where the owner waits at the end of the finish.
  shared_under : (e : ℕ) (waiter : Activity) (there : slice_get w.activities e ≡ Some waiter) → waiter.status ≡ status.Running → IsAtEnd m ok w sound scoped e waiter there
      → (a b : ℕ) → ShareClock w a b → a < length w.activities → b < length w.activities → is_under w.activities (innermost e waiter) a ≡ true
      → is_under w.activities (innermost e waiter) b ≡ true
  shared_under e waiter there running at a b share inside within under = by p.depth q.depth
      (same_Some (finish_at a x.0.governed p.depth) (finish_at b y.0.governed q.depth) (sym p.scope ∙ q.scope)) refl
    where
      f : Finish
      f = innermost e waiter

      x : (act : Activity) × (slice_get w.activities a ≡ Some act)
      x = get_inside w.activities a inside

      y : (act : Activity) × (slice_get w.activities b ≡ Some act)
      y = get_inside w.activities b within

      p : HasDepth a x.0 share.clock x.0.opened
      p = holder_depth a x.0 share.clock x.1 share.first

      q : HasDepth b y.0 share.clock y.0.opened
      q = holder_depth b y.0 share.clock y.1 share.second

      -- the owner of the finish is at no depth where it is registered on a clock
      not_owner : b ≡ e → (d : ℕ) → finish_at b y.0.governed d ≡ f → slice_get scoped.scopes share.clock ≡ Some (finish_at b y.0.governed d) → ⊥
      not_owner is d same scope =
          let h = end_depth e waiter there running at share.clock (subst (λ n. is_held (looks w.clocks n share.clock) ≡ true) is share.second) in
          let r : finish_at e waiter.governed h.0 ≡ f = same_Some (finish_at e waiter.governed h.0) f (sym h.2 ∙ scope ∙ ap Some same) in
          deep h.0 h.1 r
        where
          deep : (n : ℕ) → n < waiter.opened → finish_at e waiter.governed n ≡ f → ⊥
          deep zero less r = (let o = (scoped.activities e waiter there).owner e (ap (λ g. g.owner) r) in omega arith)
          deep (suc n) less r = (let o : suc n ≡ waiter.opened = ap (λ g. g.depth) r in omega arith)

      by : (d k : ℕ) → finish_at a x.0.governed d ≡ finish_at b y.0.governed k → q.depth ≡ k → is_under w.activities f b ≡ true
      by zero zero same deep = elim (under_cases w.activities owned f a x.0 x.1 under) [
        | inl g ↦ under_governed w.activities owned f b y.0 y.1 (sym same ∙ g)
        | inr o ↦ under_owner w.activities owned f b o.0 y.0 y.1 (ap (λ g. g.owner) (sym same) ∙ o.1) o.2
      ]
      by zero (suc k) same deep = elim (under_cases w.activities owned f a x.0 x.1 under) [
        | inl g ↦ absurd (not_owner (same_Some b e (ap (λ z. z.owner) (sym same ∙ g))) (suc k) (sym same ∙ g)
            (subst (λ n. slice_get scoped.scopes share.clock ≡ Some (finish_at b y.0.governed n)) deep q.scope))
        | inr o ↦ subst (λ n. is_under w.activities f n ≡ true) (same_Some o.0 b (sym o.1 ∙ ap (λ z. z.owner) same)) o.2
      ]
      by (suc d) zero same deep = under_owner w.activities owned f b a y.0 y.1 (ap (λ g. g.owner) (sym same)) under
      by (suc d) (suc k) same deep = subst (λ n. is_under w.activities f n ≡ true) (same_Some a b (ap (λ g. g.owner) same)) under

  -- ---- nobody is enabled

  abbrev pub IsStuck : Type 0
  IsStuck = (a : ℕ) → a < length w.activities → is_enabled m w a ≡ false

  -- who runs then waits at an `endfinish`
  stuck_at_end : IsStuck → (a : ℕ) (act : Activity) (found : slice_get w.activities a ≡ Some act) → act.status ≡ status.Running → IsAtEnd m ok w sound scoped a act found
  stuck_at_end stuck a act found running =
      let i = standing_at m ok w a act sound found running in
      elim (free_or_end m ok w sound scoped a act found running i.0 i.1) [
        | inl free ↦ absurd (false≢true (sym (stuck a (slice_get_within w.activities a act found))
            ∙ ap (λ o. is_step (step_of m w a o)) found ∙ ap (λ st. is_step (step_by m w a act st)) running
            ∙ moves_step m (step_by m w a act status.Running) (running_moves m ok w a act sound found running i.0 i.1 free)))
        | inr e ↦ e
      ]

  -- Where none of these activities runs, and whoever shares a clock with one of them is one, each has ended: else one that hasn't would wait
  -- for one of an earlier pass, and so on for ever.
  none_left : IsStuck → (These : ℕ → Type 0) → ((b : ℕ) (x : Activity) → slice_get w.activities b ≡ Some x → These b → x.status ≡ status.Running → ⊥)
      → ((a b : ℕ) → ShareClock w a b → a < length w.activities → b < length w.activities → These a → These b)
      → (n a : ℕ) (act : Activity) → slice_get w.activities a ≡ Some act → These a → act.since < n → is_ended act.status ≡ false → ⊥
  none_left stuck These quiet closed zero a act found one below alive = omega arith
  none_left stuck These quiet closed (suc n) a act found one below alive = by act.status refl alive (none_left stuck These quiet closed n)
    where
      by : (st : Status) → act.status ≡ st → is_ended st ≡ false
          → ((b : ℕ) (x : Activity) → slice_get w.activities b ≡ Some x → These b → x.since < n → is_ended x.status ≡ false → ⊥) → ⊥
      by status.Running e h earlier = quiet a act found one e
      by status.Arrived e h earlier =
          let r = waits_for m w sound a act found (stuck_waits m w a act found e (stuck a (slice_get_within w.activities a act found))) in
          let them = closed a r.b r.share (slice_get_within w.activities a act found) (slice_get_within w.activities r.b r.x r.found) one in
          elim r.earlier [ inl running ↦ quiet r.b r.x r.found them running | inr p ↦ earlier r.b r.x r.found them (omega (arith, p.1)) p.0 ]
      by status.Ended e h earlier = false≢true (sym h)

  -- so nobody waits at an `endfinish`, the ones of greater number first
  none_at_end : IsStuck → (n a : ℕ) (act : Activity) (found : slice_get w.activities a ≡ Some act) → length w.activities ≤ a + n → act.status ≡ status.Running → ⊥
  none_at_end stuck zero a act found end running = (let h = slice_get_within w.activities a act found in omega arith)
  none_at_end stuck (suc n) a act found end running = by (none_at_end stuck n)
    where
      at : IsAtEnd m ok w sound scoped a act found
      at = stuck_at_end stuck a act found running

      some : IsAwaited w.activities (innermost a act)
      some = awaited w.activities (innermost a act) at.awaited

      by : ((b : ℕ) (x : Activity) (there : slice_get w.activities b ≡ Some x) → length w.activities ≤ b + n → x.status ≡ status.Running → ⊥) → ⊥
      by later = none_left stuck (λ b. is_under w.activities (innermost a act) b ≡ true)
          (λ b x there under e. (let above = under_above w.activities owned (innermost a act) (suc b) b a (omega arith) refl x there under in later b x there (omega arith) e))
          (λ b c share inside within under. shared_under a act found running at b c share inside within under)
          (some.act.since + 1) some.b some.act some.found some.under (omega arith) some.alive

  -- where nobody is enabled, all have ended
  pub stuck_ended : IsStuck → all_ended w ≡ true
  stuck_ended stuck = all_given (λ act. is_ended act.status) w.activities
      (λ a act found. true_from_ne_false (is_ended act.status) (none_left stuck (λ b. Unit {0})
      (λ b x there one e. none_at_end stuck (length w.activities) b x there (omega arith) e)
      (λ b c share inside within one. tt) (act.since + 1) a act found tt (omega arith)))
