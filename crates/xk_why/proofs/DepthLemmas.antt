-- Where an activity stands, and going up from a frame to those that wait for it.
use Rattle.std.proofs.Common.{◌≡◌, ◌∙◌, ℕ, suc, ◌≤◌, Bool, true, false, List, [], ◌∷◌, length, refl, sym, ap, true≢false}
use Rattle.std.proofs.lemmas.List.{get_or_past}
use Rattle.xk_types.specs.World.{Activity, Frame, World}
use Rattle.xk_activity.specs.Activities.{act_at, nobody}
use Rattle.xk_activity.specs.Local.{FramesValue}
use Rattle.xk_activity.specs.FrameStack.{outer}
use Rattle.xk_show_events.specs.declared.steps.RunStep.{RunStep}
use Rattle.xk_why.specs.declared.data.Spot.{Spot}
use Rattle.xk_why.specs.Told.{spot}

-- of an activity that isn't there
pub nobody_stands : (v : World) (s : RunStep) → length v.activities ≤ s.act → spot v s ≡ record { step = s; depth = 0; place = 0 }
nobody_stands v s past = ap of (get_or_past v.activities s.act nobody past)
  where
    of : Activity → Spot
    of x = record { step = s; depth = length x.callers; place = x.frame.place }

-- where one can't, none waits
pub none_waits : (fs gs : FramesValue) (b : Bool) → (b, gs) ≡ outer fs fs.callers → b ≡ false → length fs.callers ≡ 0
none_waits fs gs b h e = of fs.callers h
  where
    of : (list : List Frame) → (b, gs) ≡ outer fs list → length list ≡ 0
    of [] g = refl
    of (x ∷ xs) g = absurd (true≢false (sym (ap (λ (p : Bool × FramesValue). p.0) g) ∙ e))

-- else one less waits behind that
pub one_less : (fs gs : FramesValue) (b : Bool) → (b, gs) ≡ outer fs fs.callers → b ≡ true → length fs.callers ≡ suc (length gs.callers)
one_less fs gs b h e = of fs.callers h
  where
    of : (list : List Frame) → (b, gs) ≡ outer fs list → length list ≡ suc (length gs.callers)
    of [] g = absurd (true≢false (sym e ∙ ap (λ (p : Bool × FramesValue). p.0) g))
    of (x ∷ xs) g = ap (λ (p : Bool × FramesValue). suc (length p.1.callers)) (sym g)
