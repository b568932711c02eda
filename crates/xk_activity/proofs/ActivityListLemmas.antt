-- A list of activities that run one module, where one of them is read or changed.
use Rattle.std.proofs.Common.{◌≡◌, ℕ, zero, suc, ◌<◌, List, [], ◌∷◌, length, refl, sym, ap, subst, ◌∙◌, arith, get_or, slice_set, All}
use Rattle.std.proofs.lemmas.List.{map-set, length-map, get_or-set_same}
use Rattle.xk_types.specs.Code.{ModuleValue}
use Rattle.xk_types.specs.World.{Activity}
use Rattle.xk_activity.specs.declared.frames.Next.{Next}
use Rattle.xk_activity.specs.declared.frames.Next.TheVariants as next
use Rattle.xk_activity.specs.Local.{FramesValue, local}
use Rattle.xk_activity.specs.StepAgreement.{frames_in, with_frames}
use Rattle.xk_activity.specs.FrameStack.{Does}
use Rattle.xk_activity.specs.Activities.{ActivityValue, ActivitiesValue, acts, RunsModule, with_act, nobody, act_at, with_act_at, Takes}

-- what an attempt at a step leaves of the frames, it leaves of the activity
pub taken : (fs new : FramesValue) (act : Activity) (n : Next) → frames_in fs.module_run act ≡ fs → Does (local fs) fs n new → Takes fs.module_run act n (with_frames act new)
taken fs new act next.Stepped is d = (new, ap local is ∙ d, refl)
taken fs new act next.Visible is d = (ap local is ∙ d.0, ap (with_frames act) (d.1 ∙ sym is))

-- the activity that is read is the one of its number
there : (items : List ActivityValue) (a : ℕ) (x : ActivityValue) → a < length (acts items) → x ≡ get_or items a x → act_at (acts items) a ≡ x.act
there [] a x lt e = absurd (omega arith)
there (y ∷ ys) zero x lt e = ap (λ (v : ActivityValue). v.act) (sym e)
there (y ∷ ys) (suc k) x lt e = there ys k x (omega arith) e

-- and it runs the module
runs : (m : ModuleValue) (items : List ActivityValue) (a : ℕ) (x : ActivityValue) → All (RunsModule m) items → a < length (acts items) → x ≡ get_or items a x → x.module_run ≡ m
runs m items a x all lt e = subst (RunsModule m) (sym e) (all a x (omega (arith, lt, length-map items (λ (v : ActivityValue). v.act))))

module _ (m : ModuleValue) (items : List ActivityValue) (room a : ℕ) (x : ActivityValue) (old : ActivitiesValue)
    (view : record { module_run = m; list = acts items; room = room } ≡ old) (lt : a < length old.list) (is : x ≡ get_or items a x) where
  inside : a < length (acts items)
  inside = subst (λ (v : ActivitiesValue). a < length v.list) (sym view) lt

  -- the activity of this number
  pub at_is : act_at old.list a ≡ x.act
  at_is = ap (λ (v : ActivitiesValue). act_at v.list a) (sym view) ∙ there items a x inside is

  -- what holds of it holds of the one that is read
  pub at_read : (P : ModuleValue → Activity → Type 0) → All (RunsModule m) items → P old.module_run (act_at old.list a) → P x.module_run x.act
  at_read P all h =
      subst (λ k. P k x.act) (sym (runs m items a x all inside is))
      (subst (λ k. P k x.act) (ap (λ (v : ActivitiesValue). v.module_run) (sym view)) (subst (P old.module_run) at_is h))

  module _ (y : ActivityValue) where
    new_is : act_at (acts (slice_set items a y)) a ≡ y.act
    new_is = ap (λ l. act_at l a) (map-set (λ (v : ActivityValue). v.act) items a y) ∙ get_or-set_same (acts items) a y.act nobody inside

    -- what holds of it and of what it becomes
    pub at_both : (P : ModuleValue → Activity → Activity → Type 0) → All (RunsModule m) items → P x.module_run x.act y.act
        → P old.module_run (act_at old.list a) (act_at (acts (slice_set items a y)) a)
    at_both P all h =
        subst (P old.module_run (act_at old.list a)) (sym new_is)
        (subst (λ z. P old.module_run z y.act) (sym at_is)
        (subst (λ k. P k x.act y.act) (runs m items a x all inside is ∙ ap (λ (v : ActivitiesValue). v.module_run) view) h))

    -- the list with the activity changed
    pub changed : (new : Activity) → y.act ≡ new → record { module_run = m; list = acts (slice_set items a y); room = room } ≡ with_act_at old a new
    changed new e =
        ap (λ l. record { module_run = m; list = l; room = room }) (map-set (λ (v : ActivityValue). v.act) items a y ∙ ap (slice_set (acts items) a) e)
        ∙ ap (λ (v : ActivitiesValue). with_act_at v a new) view

    pub changed_itself : record { module_run = m; list = acts (slice_set items a y); room = room } ≡ with_act_at old a (act_at (acts (slice_set items a y)) a)
    changed_itself = changed (act_at (acts (slice_set items a y)) a) (sym new_is)

    -- changed so
    pub changed_by : (f : Activity → Activity) → y ≡ with_act x (f x.act)
        → record { module_run = m; list = acts (slice_set items a y); room = room } ≡ with_act_at old a (f (act_at old.list a))
    changed_by f e = changed (f (act_at old.list a)) (ap (λ (v : ActivityValue). v.act) e ∙ ap f (sym at_is))
