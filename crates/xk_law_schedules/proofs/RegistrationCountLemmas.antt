-- On how many clocks an activity is registered: as many as there are numbers of clocks by whose kind it is. The end of a step changes
-- that of nobody, and a `make` adds one for its maker.
use Rattle.std.proofs.Common.{◌≡◌, ℕ, ◌+◌, ◌<◌, cond, List, [], ◌∷◌, ◌++◌, map, length, refl, sym, ap, ◌∙◌}
use Rattle.std.proofs.lemmas.List.{length-map}
use Rattle.std.proofs.lemmas.List.Sums.{sum_by-cons, sum_by-append}
use Rattle.xk_types.specs.declared.world.Standing.{Standing}
use Rattle.xk_types.specs.declared.world.Standing.TheVariants as standing
use Rattle.xk_types.specs.declared.rules.Kind.{Kind}
use Rattle.xk_types.specs.World.{Clock, standing_of}
use Rattle.xk_types.specs.Step.{is_registered, settled_clock, new_clock}
use Rattle.xk_law_schedules.proofs.Invariant.{looks, kind_by, is_held}
use Rattle.xk_law_schedules.proofs.ScopeLemmas.Invariant.{settled_looks}
use Rattle.xk_law_schedules.proofs.ClockLemmas.StandingLemmas.{new_same}
use Rattle.xk_law_schedules.specs.ClockRoom.{registrations}
use Rattle.xk_law_schedules.proofs.NamedClockCountLemmas.{how_many}

-- 1 where activity a is registered on the clock
abbrev one_on : ℕ → Clock → ℕ
one_on a c = cond (is_registered (standing_of c a)) 1 0

kind_registered : (s : Standing) → is_registered s ≡ is_held (kind_by s)
kind_registered standing.Apart = refl
kind_registered standing.Open = refl
kind_registered standing.Signalled = refl
kind_registered standing.Ahead = refl

pub registered_by_kind : (clocks : List Clock) (a : ℕ) → registrations clocks a ≡ how_many (λ k. is_held (looks clocks a k)) (length clocks)
registered_by_kind [] a = refl
registered_by_kind (c ∷ cs) a =
    sum_by-cons (one_on a) c cs ∙ ap (λ b. cond b 1 0 + registrations cs a) (kind_registered (standing_of c a))
    ∙ ap (λ n. cond (is_held (kind_by (standing_of c a))) 1 0 + n) (registered_by_kind cs a)

settled_registers : (now a : ℕ) (clocks : List Clock) → registrations (map (settled_clock now) clocks) a ≡ registrations clocks a
settled_registers now a clocks =
    registered_by_kind (map (settled_clock now) clocks) a
    ∙ ap (λ n. how_many (λ k. is_held (looks (map (settled_clock now) clocks) a k)) n) (length-map clocks (settled_clock now))
    ∙ ap (λ (look : ℕ → Kind). how_many (λ k. is_held (look k)) (length clocks)) (settled_looks now clocks a)
    ∙ sym (registered_by_kind clocks a)

new_registers : (n a : ℕ) → a < n → registrations (new_clock n a ∷ []) a ≡ 1
new_registers n a h = sum_by-cons (one_on a) (new_clock n a) [] ∙ ap (λ s. cond (is_registered s) 1 0 + 0) (new_same n a h)

pub made_more : (now a n : ℕ) (clocks : List Clock) → a < n → registrations (map (settled_clock now) (clocks ++ new_clock n a ∷ [])) a ≡ registrations clocks a + 1
made_more now a n clocks h =
    settled_registers now a (clocks ++ new_clock n a ∷ []) ∙ sum_by-append (one_on a) clocks (new_clock n a ∷ [])
    ∙ ap (λ k. registrations clocks a + k) (new_registers n a h)
