-- Ways that go on as long as there is no choice.
use Rattle.std.proofs.Common.{◌≡◌, ◌∙◌, ℕ, ℤ, zero, suc, ◌≤◌, Bool, true, false, true≢false, ◌||◌, List, [], ◌∷◌, ◌++◌, length}
use Rattle.std.proofs.Common.{◌==◌, Option, Some, None, refl, sym, ap, subst, arith, eqb-true, slice_get}
use Rattle.std.specs.Option.{option_to_list}
use Rattle.std.proofs.lemmas.List.{length_push}
use Rattle.std.proofs.lemmas.List.Sums.{fold_push}
use Rattle.xk_types.specs.Acceptance.{IsAccepted}
use Rattle.xk_types.specs.Bound.{steps_bound}
use Rattle.xk_types.specs.Code.{ModuleValue, IsWithinLimits}
use Rattle.xk_types.specs.World.{World}
use Rattle.xk_types.specs.Step.{Outcome, Blocked, Wrong, Stepped, step}
use Rattle.xk_types.specs.Schedule.{Through, is_enabled, is_step, run}
use Rattle.xk_types.specs.declared.world.Event.{Event}
use Rattle.xk_law_schedules.proofs.ReachabilityLemmas.{same_through}
use Rattle.xk_closed.specs.Closed.{AreOutside, IsClosed}
use Rattle.xk_closed_sets.specs.ClosedSets.{IsSparing, is_in}
use Rattle.xk_ranks.specs.Ranks.{going, rank}
use Rattle.xk_readings.specs.declared.edge.Edge.{Edge}
use Rattle.xk_outcomes.specs.Alikeness.{Alikeness}
use Rattle.xk_outcomes.specs.Found.{FoundValue, act_of, least_private, next, next_by_rank, one_more, settled, through, with_outcome}
use Rattle.xk_outcomes.specs.Found.{with_step}
use Rattle.xk_outcomes.specs.Links.{HasLink}
use Rattle.xk_outcomes.specs.Search.{HasAfter, IsThere}
use Rattle.xk_outcomes.specs.Ways.{CanGo, IsLone, IsOnlyTried, IsTrip, LeadsAlone, is_tried}
use Rattle.xk_outcomes.proofs.AlikeLemmas.{act_again}
use Rattle.xk_outcomes.proofs.FoundLemmas.{next_prints, one_behind}
use Rattle.xk_outcomes.proofs.SearchLemmas.{tried}

-- ---- the module stays

one_module : (x : FoundValue) (a : ℕ) → (one_more a x).core.module_run ≡ x.core.module_run
one_module x a = by (step x.core.module_run x.core.world a)
  where
    by : (o : Outcome) → (with_outcome x a o).core.module_run ≡ x.core.module_run
    by Blocked = refl
    by (Wrong c) = refl
    by (Stepped u e) = refl

with_step_module : (x : FoundValue) (o : Option ℕ) → (with_step x o).core.module_run ≡ x.core.module_run
with_step_module x None = refl
with_step_module x (Some a) = one_module x a

settled_module : (n : ℕ) (x : FoundValue) → (settled n x).core.module_run ≡ x.core.module_run
settled_module zero x = refl
settled_module (suc n) x = with_step_module (settled n x) (least_private (settled n x).core) ∙ settled_module n x

pub next_module : (x : FoundValue) (a : ℕ) → (next a x).core.module_run ≡ x.core.module_run
next_module x a = settled_module (steps_bound (one_more a x).core.module_run) (one_more a x) ∙ one_module x a

pub through_module : (way : List ℕ) (x : FoundValue) → (through way x).core.module_run ≡ x.core.module_run
through_module [] x = refl
through_module (r ∷ way) x = through_module way (next_by_rank r x) ∙ next_module x (act_of x.core.world r)

-- ---- one step more at the end

can_go_more : (m : ModuleValue) (x : FoundValue) (way : List ℕ) (r : ℕ) → CanGo m x way
    → is_enabled m (through way x).core.world (act_of (through way x).core.world r) ≡ true → CanGo m x (way ++ r ∷ [])
can_go_more m x [] r goes enabled = (enabled, tt)
can_go_more m x (s ∷ way) r goes enabled = (goes.0, can_go_more m (next_by_rank s x) way r goes.1 enabled)

alone_more : (m : ModuleValue) (list : List ℕ) (x y : FoundValue) (b : ℕ) → LeadsAlone m list x y → IsLone m y.core.world b
    → LeadsAlone m (list ++ b ∷ []) x (next b y)
alone_more m [] x y b is lone = (subst (λ (z : FoundValue). IsLone m z.core.world b) (sym is) lone, ap (next b) is)
alone_more m (a ∷ list) x y b h lone = (h.0, alone_more m list (next a x) y b h.1 lone)

-- nothing stands behind so many numbers, if they are no more
none_more : (xs : List ℤ) (o : Option ℤ) → length (xs ++ option_to_list o) ≤ length xs → xs ++ option_to_list o ≡ xs
none_more xs None few = append_nothing xs
  where
    append_nothing : (ys : List ℤ) → ys ++ [] ≡ ys
    append_nothing [] = refl
    append_nothing (y ∷ ys) = ap (λ l. y ∷ l) (append_nothing ys)
none_more xs (Some n) few = let one = length_push xs n in absurd (omega (arith, one, few))

pub trip_first : (m : ModuleValue) → IsWithinLimits m → IsAccepted m → (x : FoundValue) (a r : ℕ) → x.core.module_run ≡ m
    → is_enabled m x.core.world a ≡ true → r ≡ rank (going x.core.world.activities) a → IsTrip m x a (r ∷ []) (next a x)
trip_first m limits ok x a r same enabled is =
    let act : act_of x.core.world r ≡ a = ap (act_of x.core.world) is ∙ act_again m x.core.world a enabled in
    let to : next a x ≡ next_by_rank r x = ap (λ c. next c x) (sym act) in
    let p = next_prints m limits ok x a same enabled in
    record {
      to = to;
      said = p.0;
      is_way = record {
        some = omega arith;
        goes = (subst (λ c. is_enabled m x.core.world c ≡ true) (sym act) enabled, tt);
        prints = ap (λ (z : FoundValue). z.printed) (sym to) ∙ p.1;
      };
      more = [];
      alone = refl;
    }

pub trip_more : (m : ModuleValue) → IsWithinLimits m → IsAccepted m → (x y : FoundValue) (a b r : ℕ) (way : List ℕ) → x.core.module_run ≡ m
    → IsTrip m x a way y → length y.printed ≤ length x.printed → IsLone m y.core.world b
    → r ≡ rank (going y.core.world.activities) b → IsTrip m x a (way ++ r ∷ []) (next b y)
trip_more m limits ok x y a b r way same t few lone is =
    let act : act_of y.core.world r ≡ b = ap (act_of y.core.world) is ∙ act_again m y.core.world b lone.enabled in
    let same_module : y.core.module_run ≡ m = ap (λ (z : FoundValue). z.core.module_run) t.to ∙ through_module way x ∙ same in
    let before : y.printed ≡ x.printed ++ option_to_list t.said = ap (λ (z : FoundValue). z.printed) t.to ∙ t.is_way.prints in
    let silent : y.printed ≡ x.printed =
    before ∙ none_more x.printed t.said (subst (λ (ns : List ℤ). length ns ≤ length x.printed) before few) in
    let p = next_prints m limits ok y b same_module lone.enabled in
    let here : next_by_rank r y ≡ next b y = ap (λ c. next c y) act in
    let to : next b y ≡ through (way ++ r ∷ []) x =
    sym (fold_push (λ z s. next_by_rank s z) x way r ∙ ap (next_by_rank r) (sym t.to) ∙ here) in
    let many = length_push way r in
    let takes : is_enabled m y.core.world (act_of y.core.world r) ≡ true = subst (λ c. is_enabled m y.core.world c ≡ true) (sym act)
    lone.enabled in
    record {
      to = to;
      said = p.0;
      is_way = record {
        some = omega (arith, many);
        goes = can_go_more m x way r t.is_way.goes
            (subst (λ (z : FoundValue). is_enabled m z.core.world (act_of z.core.world r) ≡ true) t.to takes);
        prints = ap (λ (z : FoundValue). z.printed) (sym to) ∙ p.1 ∙ ap (λ ns. ns ++ option_to_list p.0) silent;
      };
      more = t.more ++ b ∷ [];
      alone = alone_more m t.more (next a x) y b t.alone lone;
    }

-- ---- who alone is to be tried

-- all together are a closed set
everyone_closed : (m : ModuleValue) (w : World) → IsClosed m w (λ b. true)
everyone_closed m w = record {
  apart = λ list v outside legal a b inside out x y e f takes other. absurd (true≢false out);
  held = λ list v x e outside legal a inside takes. by list v x e a outside legal takes;
}
  where
    by : (list : List ℕ) (v x : World) (e : Event) (a : ℕ) → AreOutside (λ b. true) list → run m list w ≡ Through v
        → step m v a ≡ Stepped x e → is_enabled m w a ≡ true
    by [] v x e a outside legal takes = ap is_step (ap (λ z. step m z a) (same_through w v legal) ∙ takes)
    by (b ∷ list) v x e a outside legal takes = absurd (true≢false outside.0)

pub lone_of_all : (m : ModuleValue) (w : World) (members : List Bool) (a : ℕ) → members ≡ [] → IsOnlyTried m w members a → IsLone m w a
lone_of_all m w members a none t = record {
  set = λ b. true;
  closed = everyone_closed m w;
  inside = refl;
  enabled = t.enabled;
  only = λ b inside enabled. t.only b (subst (λ (l : List Bool). is_tried l b ≡ true) (sym none) refl) enabled;
}

-- where somebody is in a list, it isn't empty
tried_in : (members : List Bool) (c a : ℕ) → is_in members c ≡ true → is_tried members a ≡ true → is_in members a ≡ true
tried_in [] c a inside among = absurd (true≢false (sym inside))
tried_in (b ∷ members) c a inside among = by (length (b ∷ members) == 0) refl among
  where
    by : (d : Bool) → (length (b ∷ members) == 0) ≡ d → (d || is_in (b ∷ members) a) ≡ true → is_in (b ∷ members) a ≡ true
    by true e h = let none = eqb-true (length (b ∷ members)) 0 e in absurd (omega (arith, none))
    by false e h = h

pub lone_of_set : (m : ModuleValue) (w : World) (members : List Bool) (a : ℕ) → IsSparing m w (is_in members) → IsOnlyTried m w members a
    → IsLone m w a
lone_of_set m w members a s t = record {
  set = is_in members;
  closed = s.closed;
  inside = tried_in members s.free.act a s.free.is t.tried;
  enabled = t.enabled;
  only = λ b inside enabled. t.only b (tried members b inside) enabled;
}

-- ---- they have one where the way leads, and a link to it

pub after_trip : (m : ModuleValue) (like : Alikeness) (all : List FoundValue) (links : List Edge) (number to : ℕ) (here y : FoundValue)
    → (a : ℕ)
    → (way : List ℕ) → IsTrip m here a way y → IsThere like all y.core.world y.printed to
    → HasLink links number (slice_get y.printed (length here.printed)) to → HasAfter m like all links number here a
after_trip m like all links number to here y a way t there link enabled =
    let prints : y.printed ≡ here.printed ++ option_to_list t.said = ap (λ (z : FoundValue). z.printed) t.to ∙ t.is_way.prints in
    let said : slice_get y.printed (length here.printed) ≡ t.said =
    ap (λ ns. slice_get ns (length here.printed)) prints ∙ one_behind here.printed t.said in
    record {
      there = y;
      more = t.more;
      alone = t.alone;
      said = t.said;
      prints = prints;
      to = to;
      is = there;
      link = subst (λ o. HasLink links number o to) said link;
    }
