-- Worlds in which two activities have each other's number: what is looked at there, and what changes.
use Rattle.std.proofs.Common.{◌≡◌, ℕ, zero, suc, ◌+◌, ◌<◌, ◌==◌, ◌&&◌, ◌||◌, Bool, true, false, cond, List, [], ◌∷◌, ◌++◌, map, length, replicate, set, Option, Some, None, option_map, refl, sym, ap, ◌∙◌, arith}
use Rattle.std.specs.Prelude.{slice_get}
use Rattle.std.specs.List.{list_any}
use Rattle.std.specs.Option.{option_map_or}
use Rattle.std.proofs.lemmas.List.{length-map, length-replicate, map-set}
use Rattle.std.proofs.lemmas.Option.{slice_get-map, same_Some, none-some}
use Rattle.xk_types.specs.declared.world.Standing.{Standing}
use Rattle.xk_types.specs.declared.world.Standing.TheVariants as standing
use Rattle.xk_types.specs.Code.{ModuleValue}
use Rattle.xk_types.specs.declared.world.Value.{Value}
use Rattle.xk_types.specs.World.{Finish, Activity, Clock, World, is_ended, standing_of}
use Rattle.xk_types.specs.Step.{is_signalled, is_pending, is_ready, advanced, settled, settled_clock, moved, moved_on, joined, joined_on, new_clock, innermost, child, waits, same_owner, same_finish, under_within, is_under, awaits}
use Rattle.xk_types.proofs.ListLemmas.{Each}
use Rattle.xk_types.proofs.MembershipLemmas.{same_test}
use Rattle.xk_law_schedules.proofs.ScopeLemmas.FinishOwnerLemmas.{IsAwaited, awaited}
use Rattle.xk_law_commute.proofs.AwaitIndependenceLemmas.{awaits_given}
use Rattle.xk_law_commute.proofs.ListLemmas.{map_push}
use Rattle.xk_law_names.specs.ActivityNames.{neighbours_swapped, renamed, finish_renamed, governed_renamed, clock_swapped, activities_swapped}
use Rattle.xk_law_names.proofs.ActivityNameListLemmas.{renamed_twice, renamed_same, length-swapped, map-swapped, replicate-swapped, get-swapped, get_or-swapped, set-swapped, append-swapped, any-swapped}

-- ---- clocks

-- where an activity stands
pub standing-swapped : (k a : ℕ) (c : Clock) → suc k < length c.standings → standing_of (clock_swapped k c) (renamed k a) ≡ standing_of c a
standing-swapped k a c wide = get_or-swapped k c.standings a standing.Apart wide

-- the end of a step
settled_clock-swapped : (k now : ℕ) (c : Clock) → settled_clock now (clock_swapped k c) ≡ clock_swapped k (settled_clock now c)
settled_clock-swapped k now c = rw (any-swapped is_signalled k c.standings, any-swapped is_pending k c.standings) (by (is_ready c))
  where
    by : (b : Bool) → cond b (record { phase = c.phase + 1; last = now; standings = map advanced (neighbours_swapped k c.standings) })
        (clock_swapped k c)
        ≡ clock_swapped k (cond b (record { phase = c.phase + 1; last = now; standings = map advanced c.standings }) c)
    by true = ap (λ zs. record { phase = c.phase + 1; last = now; standings = zs }) (map-swapped advanced k c.standings)
    by false = refl

settled_clocks-swapped : (k now : ℕ) (cs : List Clock)
    → map (settled_clock now) (map (clock_swapped k) cs) ≡ map (clock_swapped k) (map (settled_clock now) cs)
settled_clocks-swapped k now [] = refl
settled_clocks-swapped k now (c ∷ cs) = rw (settled_clock-swapped k now c, settled_clocks-swapped k now cs)

pub settled-swapped : (k : ℕ) (w : World) → settled (activities_swapped k w) ≡ activities_swapped k (settled w)
settled-swapped k w = ap (λ cs. record (activities_swapped k w) { clocks = cs; steps = w.steps + 1 })
    (settled_clocks-swapped k (w.steps + 1) w.clocks)

-- each clock has a standing of both
abbrev pub AreWide : ℕ → List Clock → Type 0
AreWide k cs = Each (λ j (c : Clock). suc k < length c.standings) cs

moved_on-swapped : (k a : ℕ) (change : Standing → Standing) (c : Clock) → suc k < length c.standings
    → moved_on (renamed k a) change (clock_swapped k c) ≡ clock_swapped k (moved_on a change c)
moved_on-swapped k a change c wide = ap (λ zs. record { phase = c.phase; last = c.last; standings = zs })
    (ap (λ s. set (neighbours_swapped k c.standings) (renamed k a) (change s)) (standing-swapped k a c wide)
    ∙ set-swapped k c.standings a (change (standing_of c a)) wide)

pub moved-swapped : (k a : ℕ) (change : ℕ → Standing → Standing) (cs : List Clock) → AreWide k cs
    → moved (renamed k a) change (map (clock_swapped k) cs) ≡ map (clock_swapped k) (moved a change cs)
moved-swapped k a change [] wide = refl
moved-swapped k a change (c ∷ cs) wide =
    rw (moved_on-swapped k a (change 0) c (wide 0 c refl), moved-swapped k a (λ j. change (suc j)) cs (λ j x at. wide (suc j) x at))

joined_on-swapped : (k a : ℕ) (given : Bool) (c : Clock) → suc k < length c.standings
    → joined_on (renamed k a) given (clock_swapped k c) ≡ clock_swapped k (joined_on a given c)
joined_on-swapped k a given c wide = ap (λ zs. record { phase = c.phase; last = c.last; standings = zs })
    (ap (λ s. neighbours_swapped k c.standings ++ cond given s standing.Apart ∷ []) (standing-swapped k a c wide)
    ∙ sym (append-swapped k c.standings (cond given (standing_of c a) standing.Apart ∷ []) wide))

pub joined-swapped : (k a : ℕ) (given : ℕ → Bool) (cs : List Clock) → AreWide k cs
    → joined (renamed k a) given (map (clock_swapped k) cs) ≡ map (clock_swapped k) (joined a given cs)
joined-swapped k a given [] wide = refl
joined-swapped k a given (c ∷ cs) wide =
    rw (joined_on-swapped k a (given 0) c (wide 0 c refl), joined-swapped k a (λ j. given (suc j)) cs (λ j x at. wide (suc j) x at))

pub new-swapped : (k n a : ℕ) → suc k < n → new_clock n (renamed k a) ≡ clock_swapped k (new_clock n a)
new-swapped k n a inside = ap (λ zs. record { phase = 0; last = 0; standings = zs })
    (ap (λ zs. set zs (renamed k a) standing.Open) (sym (replicate-swapped k n standing.Apart))
    ∙ set-swapped k (replicate n standing.Apart) a standing.Open (omega (arith, inside, length-replicate n standing.Apart)))

signalled-swapped : (k a : ℕ) (cs : List Clock) → AreWide k cs
    → list_any (λ (c : Clock). is_signalled (standing_of c (renamed k a))) (map (clock_swapped k) cs)
    ≡ list_any (λ (c : Clock). is_signalled (standing_of c a)) cs
signalled-swapped k a [] wide = refl
signalled-swapped k a (c ∷ cs) wide = rw (standing-swapped k a c (wide 0 c refl), signalled-swapped k a cs (λ j x at. wide (suc j) x at))

pub waits-swapped : (k a : ℕ) (w : World) → AreWide k w.clocks → waits (activities_swapped k w) (renamed k a) ≡ waits w a
waits-swapped k a w wide = signalled-swapped k a w.clocks wide

-- ---- activities

abbrev pub acts_swapped : ℕ → List Activity → List Activity
acts_swapped k acts = map (governed_renamed k) (neighbours_swapped k acts)

pub length-acts : (k : ℕ) (acts : List Activity) → length (acts_swapped k acts) ≡ length acts
length-acts k acts = length-map (neighbours_swapped k acts) (governed_renamed k) ∙ length-swapped k acts

pub act-swapped : (k : ℕ) (acts : List Activity) (a : ℕ) → suc k < length acts
    → slice_get (acts_swapped k acts) (renamed k a) ≡ option_map (governed_renamed k) (slice_get acts a)
act-swapped k acts a inside =
    slice_get-map (governed_renamed k) (neighbours_swapped k acts) (renamed k a)
    ∙ ap (option_map (governed_renamed k)) (get-swapped k acts a inside)

pub set_act-swapped : (k : ℕ) (acts : List Activity) (a : ℕ) (next : Activity) → suc k < length acts
    → set (acts_swapped k acts) (renamed k a) (governed_renamed k next) ≡ acts_swapped k (set acts a next)
set_act-swapped k acts a next inside =
    sym (map-set (governed_renamed k) (neighbours_swapped k acts) (renamed k a) next)
    ∙ ap (map (governed_renamed k)) (set-swapped k acts a next inside)

pub push_act-swapped : (k : ℕ) (acts : List Activity) (x : Activity) → suc k < length acts
    → acts_swapped k (acts ++ x ∷ []) ≡ acts_swapped k acts ++ governed_renamed k x ∷ []
push_act-swapped k acts x inside =
    ap (map (governed_renamed k)) (append-swapped k acts (x ∷ []) inside) ∙ map_push (governed_renamed k) (neighbours_swapped k acts) x

pub child-renamed : (m : ModuleValue) (k a : ℕ) (act : Activity) (unit : ℕ) (values : List Value)
    → child m (renamed k a) (governed_renamed k act) unit values ≡ governed_renamed k (child m a act unit values)
child-renamed m k a act unit values = ap (λ g. record (child m a act unit values) { governed = g }) (by (act.opened == 0))
  where
    by : (b : Bool) → cond b (finish_renamed k act.governed) (finish_renamed k (innermost a act))
        ≡ finish_renamed k (cond b act.governed (innermost a act))
    by true = refl
    by false = refl

-- ---- finishes

owner_renamed : (k : ℕ) (p q : Option ℕ) → same_owner (option_map (renamed k) p) (option_map (renamed k) q) ≡ same_owner p q
owner_renamed k None None = refl
owner_renamed k None (Some b) = refl
owner_renamed k (Some a) None = refl
owner_renamed k (Some a) (Some b) = renamed_same k a b

same_renamed : (k : ℕ) (f g : Finish) → same_finish (finish_renamed k f) (finish_renamed k g) ≡ same_finish f g
same_renamed k f g = ap (λ p. p && (f.depth == g.depth)) (owner_renamed k f.owner g.owner)

module _ (k : ℕ) (acts : List Activity) (inside : suc k < length acts) (f : Finish) where
  -- no more than n activities being looked at
  abbrev GoesSo : ℕ → Type 0
  GoesSo n = (b : ℕ) → under_within (acts_swapped k acts) (finish_renamed k f) n (renamed k b) ≡ under_within acts f n b

  within-swapped : (n : ℕ) → GoesSo n
  unfolding under_within
  within-swapped zero b = refl
  within-swapped (suc n) b = rw (act-swapped k acts b inside) (by (within-swapped n) (slice_get acts b))
    where
      owner : GoesSo n → (o : Option ℕ)
          → option_map_or (under_within (acts_swapped k acts) (finish_renamed k f) n) (option_map (renamed k) o) false
          ≡ option_map_or (under_within acts f n) o false
      owner less None = refl
      owner less (Some c) = less c

      by : GoesSo n → (o : Option Activity)
          → option_map_or (λ (x : Activity). same_finish x.governed (finish_renamed k f)
          || option_map_or (under_within (acts_swapped k acts) (finish_renamed k f) n) x.governed.owner false)
          (option_map (governed_renamed k) o) false
          ≡ option_map_or
          (λ (x : Activity). same_finish x.governed f || option_map_or (under_within acts f n) x.governed.owner false) o false
      by less None = refl
      by less (Some x) = rw (same_renamed k x.governed f, owner less x.governed.owner)

  under-swapped : (b : ℕ) → is_under (acts_swapped k acts) (finish_renamed k f) (renamed k b) ≡ is_under acts f b
  under-swapped b = ap (λ n. under_within (acts_swapped k acts) (finish_renamed k f) n (renamed k b)) (length-acts k acts)
      ∙ within-swapped (length acts) b

  -- who is awaited is, by its other number
  awaited_there : IsAwaited acts f → IsAwaited (acts_swapped k acts) (finish_renamed k f)
  awaited_there i = record {
    b = renamed k i.b;
    act = governed_renamed k i.act;
    found = act-swapped k acts i.b inside ∙ ap (option_map (governed_renamed k)) i.found;
    under = under-swapped i.b ∙ i.under;
    alive = i.alive;
  }

  awaited_here : IsAwaited (acts_swapped k acts) (finish_renamed k f) → IsAwaited acts f
  awaited_here i = by (slice_get acts (renamed k i.b)) refl
    where
      -- there it has the number that this one's other number is
      there : slice_get (acts_swapped k acts) i.b ≡ option_map (governed_renamed k) (slice_get acts (renamed k i.b))
      there = ap (slice_get (acts_swapped k acts)) (sym (renamed_twice k i.b)) ∙ act-swapped k acts (renamed k i.b) inside

      by : (o : Option Activity) → slice_get acts (renamed k i.b) ≡ o → IsAwaited acts f
      by None e = absurd (none-some i.act (sym (there ∙ ap (option_map (governed_renamed k)) e) ∙ i.found))
      by (Some x) e = record {
        b = renamed k i.b;
        act = x;
        found = e;
        under = sym (under-swapped (renamed k i.b))
            ∙ ap (is_under (acts_swapped k acts) (finish_renamed k f)) (renamed_twice k i.b) ∙ i.under;
        alive = ap (λ (z : Activity). is_ended z.status)
            (same_Some (governed_renamed k x) i.act (sym (there ∙ ap (option_map (governed_renamed k)) e) ∙ i.found)) ∙ i.alive;
      }

  pub awaits-swapped : awaits (acts_swapped k acts) (finish_renamed k f) ≡ awaits acts f
  awaits-swapped = same_test (awaits (acts_swapped k acts) (finish_renamed k f)) (awaits acts f)
      (λ h. awaits_given acts f (awaited_here (awaited (acts_swapped k acts) (finish_renamed k f) h)))
      (λ h. awaits_given (acts_swapped k acts) (finish_renamed k f) (awaited_there (awaited acts f h)))
