-- The list in which an activity's registrations stand.
use Rattle.std.proofs.Common.{◌≡◌, ℕ, suc, ◌<◌, ◌≤◌, ◌==◌, Bool, true, not, List, [], ◌∷◌, length, cond, Option, refl, sym, ap, ◌∙◌, subst, arith, All}
use Rattle.std.specs.List.{list_all}
use Rattle.std.proofs.lemmas.List.{length-map}
use Rattle.std.specs.List.Retain.{RetainsInTurn}
use Rattle.smallvec.specs.SmallVec.{SmallVec, with_items}
use Rattle.smallvec.proofs.SmallVecLemmas.{items-with_items}
use Rattle.xk_registrations.specs.View.{Registration, AreDistinct}
use Rattle.xk_registrations.specs.RegistrationChanges.{marked, regs_where}
use Rattle.xk_registrations.proofs.StandingLemmas.{distinct_marked, other_number}

-- with other marks written to it, no two are on one clock still
pub marked_distinct : (v : SmallVec Registration) (ws xs : List Registration) (f : ℕ → Option ℕ → Option ℕ) → xs ≡ v.items → ws ≡ marked f xs → AreDistinct v.items
    → AreDistinct (with_items v ws).items
marked_distinct v ws xs f at is distinct =
    subst AreDistinct (sym (items-with_items v ws (ap length is ∙ length-map xs (λ (r : Registration). record { clock = r.clock; resumed = f r.clock r.resumed }) ∙ ap length at)))
    (subst AreDistinct (sym (is ∙ ap (marked f) at)) (distinct_marked f v.items distinct))

-- what is left where each call of a closure that doesn't change says whether the element passes a test, and leaves that as it is
pub where-from_retain : {F : Type 0} (R : F → Registration → Bool → F → Registration → Type 0) (test : Registration → Bool) (f : F)
    → ((x : Registration) (b : Bool) (f' : F) (y : Registration) → R f x b f' y → (b ≡ test x) × (f' ≡ f) × (y ≡ x))
    → (xs ys : List Registration) → RetainsInTurn R f xs ys → ys ≡ regs_where test xs
where-from_retain R test f says [] ys h = h
where-from_retain R test f says (x ∷ xs) ys h =
    let said = says x h.0 h.1 h.2 h.3 in
    let later = subst (λ g. RetainsInTurn R g xs h.4) said.1 h.5 in
    let rest = where-from_retain R test f says xs h.4 later in
    h.6 ∙ (λ i. cond (said.0 i) (said.2 i ∷ rest i) (rest i))

-- ---- steps of last advances

-- none is a step behind all of them
pub quiet_behind : (ls : List ℕ) (newest step : ℕ) → All (λ l. l ≤ newest) ls → newest < step → true ≡ list_all (λ l. not (l == step)) ls
quiet_behind [] newest step all h = refl
quiet_behind (l ∷ ls) newest step all h =
    let first : l ≤ newest = all 0 l (omega arith) in
    rw (other_number l step (omega arith)) (quiet_behind ls newest step (λ k d lt. all (suc k) d (omega arith)) h)
