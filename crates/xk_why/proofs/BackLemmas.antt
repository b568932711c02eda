-- The pass goes back over one flow after another.
use Rattle.std.proofs.Common.{◌≡◌, ◌∙◌, ℕ, suc, ◌+◌, ◌-◌, ◌<◌, Bool, true, false, List, [], ◌∷◌, ◌++◌, length, refl, sym, ap, arith}
use Rattle.std.proofs.Common.{append_assoc, Option, Some, slice_get, if◌then◌else◌}
use Rattle.std.specs.List.{list_any}
use Rattle.xk_why.specs.declared.flows.Flow.{Flow}
use Rattle.xk_why.specs.declared.flows.Location.{Location}
use Rattle.xk_why.specs.Flows.{makes}
use Rattle.xk_why.specs.Slices.{slice_from, slice_over, still_wanted, wanted_before, with_number}

by : (fs : List Flow) (n : ℕ) (f : Flow) (wanted : List Location) (list : List ℕ) (b : Bool)
    → (if b then list ++ n ∷ [] else list) ++ slice_from fs n (if b then wanted_before f wanted else wanted)
    ≡ list ++ (if b then n ∷ slice_from fs n (wanted_before f wanted) else slice_from fs n wanted)
by fs n f wanted list true = append_assoc list (n ∷ []) (slice_from fs n (wanted_before f wanted))
by fs n f wanted list false = refl

-- what was there, and what is still to come, is the same before and behind one
pub goes_over : (fs : List Flow) (count done : ℕ) (f : Flow) (old new : List Location) (before after : List ℕ) → done < count
    → slice_get fs (count - (done + 1)) ≡ Some f
    → after ≡ with_number (count - (done + 1)) f old before → new ≡ still_wanted f old
    → after ++ slice_from fs (count - (done + 1)) new ≡ before ++ slice_from fs (count - done) old
goes_over fs count done f old new before after lt here list wanted =
    let n = count - (done + 1) in
    let next : count - done ≡ suc n = omega (arith, lt) in
    ap (λ l. l ++ slice_from fs n new) list
    ∙ ap (λ w. with_number n f old before ++ slice_from fs n w) wanted
    ∙ by fs n f old before (list_any (makes f) old)
    ∙ ap (λ o. before ++ slice_over n old o (slice_from fs n)) (sym here)
    ∙ ap (λ k. before ++ slice_from fs k old) (sym next)
