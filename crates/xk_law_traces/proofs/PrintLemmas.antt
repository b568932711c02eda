-- What entries print: the numbers, and how often each one, which goes neither by names nor by who of two neighbours comes first.
use Rattle.std.proofs.Common.{◌≡◌, ℕ, ℤ, ◌+◌, Bool, true, false, true≢false, cond, List, [], ◌∷◌, ◌++◌, map, Option, Some, None, refl, sym, ap, ◌∙◌, arith}
use Rattle.std.specs.Prelude.{filter, not, fold, count_by}
use Rattle.std.specs.List.{filter_map, cons_option}
use Rattle.xk_types.specs.declared.world.Event.{Event}
use Rattle.xk_types.specs.declared.world.Event.TheVariants as event
use Rattle.xk_types.specs.Code.{ModuleValue}
use Rattle.xk_types.specs.World.{World}
use Rattle.xk_types.specs.Schedule.{is_local, events, number_printed, printed}
use Rattle.xk_law_names.specs.Names.{Exchange}
use Rattle.xk_law_traces.specs.Moments.{is_print}
use Rattle.xk_law_traces.proofs.SwapLemmas.{Entry, entry_named, entries, event_in, events_are, events_filtered}

-- the numbers that entries print
abbrev pub numbers_in : List Entry → List ℤ
numbers_in es = filter_map (λ x. number_printed x.1.0) es

-- ---- of events

abbrev numbers_of : List (ℕ × Event) → List ℤ
numbers_of es = filter_map (λ x. number_printed x.1) es

-- what prints nothing may be left out
left_out : (p : Event → Bool) → ((e : Event) → p e ≡ false → number_printed e ≡ None) → (es : List (ℕ × Event))
    → numbers_of (filter (λ x. p x.1) es) ≡ numbers_of es
left_out p silent [] = refl
left_out p silent (x ∷ es) = by (p x.1) (silent x.1) (left_out p silent es)
  where
    by : (q : Bool) → (q ≡ false → number_printed x.1 ≡ None) → numbers_of (filter (λ y. p y.1) es) ≡ numbers_of es
        → numbers_of (cond q (x ∷ filter (λ y. p y.1) es) (filter (λ y. p y.1) es)) ≡ cons_option (number_printed x.1) (numbers_of es)
    by true g h = ap (cons_option (number_printed x.1)) h
    by false g h = h ∙ sym (ap (λ o. cons_option o (numbers_of es)) (g refl))

local_silent : (e : Event) → not (is_local e) ≡ false → number_printed e ≡ None
local_silent event.Local h = refl
local_silent (event.Printed n) h = absurd (true≢false h)
local_silent _ h = refl

-- another event prints nothing
pub other_silent : (e : Event) → is_print e ≡ false → number_printed e ≡ None
other_silent (event.Printed n) h = absurd (true≢false h)
other_silent _ h = refl

numbers_are : (es : List Entry) → numbers_of (map event_in es) ≡ numbers_in es
numbers_are [] = refl
numbers_are (x ∷ es) = ap (cons_option (number_printed x.1.0)) (numbers_are es)

-- ---- what a run prints

pub printed_are : (m : ModuleValue) (list : List ℕ) (w : World) → printed m list w ≡ numbers_in (entries m list w)
printed_are m list w =
    left_out (λ e. not (is_local e)) local_silent (events m list w) ∙ ap numbers_of (events_are m list w) ∙ numbers_are (entries m list w)

-- by its prints alone
pub printed_alone : (m : ModuleValue) (list : List ℕ) (w : World)
    → printed m list w ≡ numbers_in (filter (λ x. is_print x.1.0) (entries m list w))
printed_alone m list w =
    left_out (λ e. not (is_local e)) local_silent (events m list w) ∙ sym (left_out is_print other_silent (events m list w))
    ∙ ap numbers_of (events_filtered (λ x. is_print x.1) m list w) ∙ numbers_are (filter (λ x. is_print x.1.0) (entries m list w))

-- ---- how often

pub numbers_named : (xs : List Exchange) (es : List Entry) → numbers_in (map (entry_named xs) es) ≡ numbers_in es
numbers_named xs [] = refl
numbers_named xs (x ∷ es) = ap (cons_option (number_printed x.1.0)) (numbers_named xs es)

-- so many that pass, and those of a list
abbrev with_more : (ℤ → Bool) → ℕ → List ℤ → ℕ
with_more p n zs = fold (λ k z. k + cond (p z) 1 0) n zs

-- two neighbours in either order
crossed_more : (p : ℤ → Bool) (n : ℕ) (front back : List Entry) (x y : Entry)
    → with_more p n (numbers_in (front ++ x ∷ y ∷ back)) ≡ with_more p n (numbers_in (front ++ y ∷ x ∷ back))
crossed_more p n [] back x y = by (number_printed x.1.0) (number_printed y.1.0)
  where
    by : (o r : Option ℤ)
        → with_more p n (cons_option o (cons_option r (numbers_in back))) ≡ with_more p n (cons_option r (cons_option o (numbers_in back)))
    by None r = refl
    by (Some i) None = refl
    by (Some i) (Some j) = ap (λ k. with_more p k (numbers_in back)) (omega arith)
crossed_more p n (z ∷ front) back x y = by (number_printed z.1.0) (λ k. crossed_more p k front back x y)
  where
    by : (o : Option ℤ)
        → ((k : ℕ) → with_more p k (numbers_in (front ++ x ∷ y ∷ back)) ≡ with_more p k (numbers_in (front ++ y ∷ x ∷ back)))
        → with_more p n (cons_option o (numbers_in (front ++ x ∷ y ∷ back)))
        ≡ with_more p n (cons_option o (numbers_in (front ++ y ∷ x ∷ back)))
    by None h = h n
    by (Some i) h = h (n + cond (p i) 1 0)

pub crossed_count : (p : ℤ → Bool) (front back : List Entry) (x y : Entry)
    → count_by p (numbers_in (front ++ x ∷ y ∷ back)) ≡ count_by p (numbers_in (front ++ y ∷ x ∷ back))
crossed_count p front back x y = crossed_more p 0 front back x y
