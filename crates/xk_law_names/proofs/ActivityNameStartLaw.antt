-- Two activities that start one each, in either order: the two that are started have each other's number.
use Rattle.std.proofs.Common.{◌≡◌, ℕ, suc, ◌+◌, ◌<◌, ◌==◌, Bool, true, false, true≢false, cond, List, [], ◌∷◌, ◌++◌, map, length, set, Some, None, Option, refl, sym, ap, ◌∙◌, subst, arith, length-set}
use Rattle.std.specs.Prelude.{slice_get, option_map}
use Rattle.std.specs.Option.{option_map_or}
use Rattle.std.proofs.lemmas.List.{map-set, length_push}
use Rattle.std.proofs.lemmas.Option.{slice_get_within, same_Some}
use Rattle.xk_types.specs.declared.instr.Instr.{Instr}
use Rattle.xk_types.specs.declared.instr.Instr.TheVariants as instr
use Rattle.xk_types.specs.declared.world.Value.{Value}
use Rattle.xk_types.specs.declared.world.Standing.{Standing}
use Rattle.xk_types.specs.declared.world.Standing.TheVariants as standing
use Rattle.xk_types.specs.declared.world.Event.{Event}
use Rattle.xk_types.specs.declared.world.Event.TheVariants as event
use Rattle.xk_types.specs.Acceptance.{IsAccepted}
use Rattle.xk_types.specs.Code.{ModuleValue, IsWithinLimits}
use Rattle.xk_types.specs.World.{Finish, Activity, Clock, World, standing_of}
use Rattle.xk_types.specs.Step.{Outcome, Stepped, settled_clock, joined, joined_on, is_given, child, onward, innermost, governing, spawned, step}
use Rattle.xk_types.specs.Schedule.{IsReached}
use Rattle.xk_types.proofs.ListLemmas.{Each, each_set, each_push, get-set_other}
use Rattle.xk_law_schedules.proofs.Invariant.{IsSound}
use Rattle.xk_law_schedules.proofs.ReachabilityLemmas.{reached_sound, reached_scoped}
use Rattle.xk_law_schedules.proofs.ScopeLemmas.FinishOwnerLemmas.{AreOwned}
use Rattle.xk_law_schedules.proofs.StepFormLemmas.{IsNext, starts_or_arrives, step_kind}
use Rattle.xk_law_commute.specs.Conflicts.{reads, puts, stores, next_instruction, AreConflictFree}
use Rattle.xk_law_commute.specs.PlainWorlds.{plain_activity, plain_clock, plain}
use Rattle.xk_law_commute.proofs.StepEffect.{enacted, aged}
use Rattle.xk_law_commute.proofs.ListLemmas.{map_push, set_other, set_push, get_or_push}
use Rattle.xk_law_commute.proofs.OneClockLemmas.{settle, join_of, settle_join, settle_twice}
use Rattle.xk_law_commute.proofs.ClockLemmas.{settled_standings, plainly, unready_still}
use Rattle.xk_law_commute.proofs.PlainStepLaw.{same_plain}
use Rattle.xk_law_commute.proofs.ViewLemmas.{Starts, Goes, IsNone, DoesAct, DoesMake, DoesStart, goes}
use Rattle.xk_law_commute.proofs.ChangeSquareLemmas.{same_step, not_none, next_is}
use Rattle.xk_law_commute.proofs.StartSquareLemmas.{made_world, started_world, maker, reached_sees}
use Rattle.xk_law_names.specs.ActivityNames.{neighbours_swapped, renamed, governed_renamed, clock_swapped, activities_swapped, IsSquareOfStarts}
use Rattle.xk_law_names.proofs.ActivityNameListLemmas.{renamed_below, pushed-swapped}
use Rattle.xk_law_names.proofs.ActivityNameWorldLemmas.{acts_swapped}

-- ---- steps that start one

-- a step that starts an activity, by its instruction
pub record IsStarting (m : ModuleValue) (w : World) (a : ℕ) (o : Outcome) : Type 0 where
  pub act : Activity
  pub found : slice_get w.activities a ≡ Some act
  pub unit : ℕ
  pub args : List ℕ
  pub values : List Value
  pub next : IsNext m act (instr.Spawn unit args)
  pub here : o ≡ spawned m w a act unit values

abbrev is_spawned : Event → Bool
is_spawned event.Spawned = true
is_spawned _ = false

pub starting : (m : ModuleValue) (w : World) (a : ℕ) (u : World) → step m w a ≡ Stepped u event.Spawned → IsStarting m w a (step m w a)
starting m w a = step_kind (λ o. (u : World) → o ≡ Stepped u event.Spawned → IsStarting m w a o) m w a
    (λ u h. absurd (grind (arith, h))) (λ c u h. absurd (grind (arith, h)))
    (λ act found alive. record {
      closed = λ n some nobody runs u h. other _ u event.Closed h refl;
      over = λ here alone u h. other _ u event.Ended h refl;
      arrives = λ u h. other _ u event.Arrived h refl;
      done = λ next change e on quiet rests u h. other _ u e h (not_started e quiet);
      made = λ next on u h. other _ u event.Made h refl;
      stored = λ s n e on quiet u h. other _ u e h (not_started e quiet);
      spawned =
          λ t args values at on u h. record { act = act; found = found; unit = t; args = args; values = values; next = at; here = refl };
    })
  where
    not_started : (e : Event) → starts_or_arrives e ≡ false → is_spawned e ≡ false
    not_started event.Spawned h = absurd (true≢false h)
    not_started _ h = refl

    other : {A : Type 0} (v u : World) (e : Event) → Stepped v e ≡ Stepped u event.Spawned → is_spawned e ≡ false → A
    other v u e h g = absurd (true≢false (sym (ap is_spawned (same_step v u e event.Spawned h).1) ∙ g))

-- then there is one activity more
pub one_more : (m : ModuleValue) (w u : World) (a : ℕ) → step m w a ≡ Stepped u event.Spawned
    → length u.activities ≡ suc (length w.activities)
one_more m w u a h =
    let s : IsStarting m w a (step m w a) = starting m w a u h in
    ap (λ (z : World). length z.activities)
    (same_step u (started_world m w a s.act s.unit s.values) event.Spawned event.Spawned (sym h ∙ s.here)).0
    ∙ length_push (set w.activities a (onward s.act)) (child m a s.act s.unit s.values)
    ∙ ap (λ n. n + 1) (length-set w.activities a (onward s.act)) ∙ omega arith

-- such an instruction has to do with no shared number
starts_apart : (m : ModuleValue) (w : World) (a b : ℕ) → IsStarting m w a (step m w a) → AreConflictFree m w a b
starts_apart m w a b s = record {
  second_reads = λ c h g. absurd (true≢false (sym h ∙ none (λ i. stores i c) refl));
  first_reads = λ c h g. absurd (true≢false (sym g ∙ none (λ i. reads i c) refl));
  first_puts = λ c h g. absurd (true≢false (sym h ∙ none (λ i. puts i c) refl));
  second_puts = λ c h g. absurd (true≢false (sym g ∙ none (λ i. stores i c) refl));
}
  where
    none : (test : Instr → Bool) → test (instr.Spawn s.unit s.args) ≡ false → option_map_or test (next_instruction m w a) false ≡ false
    none test h = ap (λ o. option_map_or test o false) (next_is m w a s.act (instr.Spawn s.unit s.args) s.found s.next) ∙ h

-- where another has taken a step in between, it starts one still
only_starts : (m : ModuleValue) (w v u : World) (a : ℕ) (act : Activity) (t : ℕ) → step m w a ≡ Stepped u event.Spawned
    → Goes m w v a act t (step m w a) (step m v a) → Starts m w v a act t (step m w a) (step m v a)
only_starts m w v u a act t h (IsNone g) = absurd (not_none (step m w a) u event.Spawned h g)
only_starts m w v u a act t h (DoesAct A) =
    let same : u ≡ enacted w a A.next A.move A.writes =
    (same_step u (enacted w a A.next A.move A.writes) event.Spawned A.e (sym h ∙ A.here)).0 in
    let many : length u.activities ≡ length w.activities = ap (λ (z : World). length z.activities) same
    ∙ length-set w.activities a A.next in
    absurd (omega (arith, many, one_more m w u a h))
only_starts m w v u a act t h (DoesMake M) =
    let next : Activity = maker act M.d (length w.clocks) in
    let same : u ≡ made_world w a next = (same_step u (made_world w a next) event.Spawned event.Made (sym h ∙ M.here)).0 in
    let many : length u.activities ≡ length w.activities = ap (λ (z : World). length z.activities) same ∙ length-set w.activities a next in
    absurd (omega (arith, many, one_more m w u a h))
only_starts m w v u a act t h (DoesStart S) = S

-- ---- activities that keep their owners

-- all owners have smaller numbers
abbrev IsBelow : ℕ → Finish → Type 0
IsBelow n f = (o : ℕ) → f.owner ≡ Some o → o < n

kept_one : (n : ℕ) (act : Activity) → IsBelow n act.governed → governed_renamed n act ≡ act
kept_one n act below = ap (λ o. record act { governed = record { owner = o; depth = act.governed.depth } }) (by act.governed.owner refl)
  where
    by : (o : Option ℕ) → act.governed.owner ≡ o → option_map (renamed n) o ≡ o
    by None e = refl
    by (Some c) e = ap (λ k. Some k) (renamed_below n c (below c e))

kept_all : (n : ℕ) (acts : List Activity) → Each (λ j (x : Activity). IsBelow n x.governed) acts → map (governed_renamed n) acts ≡ acts
kept_all n [] below = refl
kept_all n (x ∷ acts) below = rw (kept_one n x (below 0 x refl), kept_all n acts (λ j y at. below (suc j) y at))

governing_below : (n a : ℕ) (act : Activity) → a < n → IsBelow n act.governed → IsBelow n (governing a act)
governing_below n a act less below = by (act.opened == 0)
  where
    by : (b : Bool) → IsBelow n (cond b act.governed (innermost a act))
    by true = below
    by false = λ o e. subst (λ k. k < n) (same_Some a o e) less

-- ---- where both orders lead

-- where a child stands, if it is given the clock or not
abbrev given_on : Clock → Bool → ℕ → Standing
given_on c x d = cond x (standing_of c d) standing.Apart

module _ (n : ℕ) (c : Clock) (width : length c.standings ≡ n) (still : settle c.standings ≡ c.standings) where
  -- two starts: those who are started stand behind the others
  started_twice : (k o a b : ℕ) (one two : Bool) → a < n
      → (settled_clock k (joined_on a one (settled_clock o (joined_on b two c)))).standings
      ≡ (c.standings ++ given_on c two b ∷ []) ++ given_on c one a ∷ []
  started_twice k o a b one two inside =
      settled_standings k (joined_on a one (settled_clock o (joined_on b two c)))
      ∙ ap (λ zs. settle (join_of a one zs)) (settled_standings o (joined_on b two c))
      ∙ settle_join a one (settle (join_of b two c.standings))
      ∙ ap (join_of a one) (settle_twice (join_of b two c.standings) ∙ settle_join b two c.standings ∙ ap (join_of b two) still)
      ∙ ap (λ s. (c.standings ++ given_on c two b ∷ []) ++ cond one s standing.Apart ∷ [])
      (get_or_push c.standings a (given_on c two b) standing.Apart (omega (arith, inside, width)))

  -- one clock
  clock_both : (k o p q a b : ℕ) (one two : Bool) → a < n → b < n
      → plain_clock (settled_clock k (joined_on a one (settled_clock o (joined_on b two c))))
      ≡ plain_clock (clock_swapped n (settled_clock p (joined_on b two (settled_clock q (joined_on a one c)))))
  clock_both k o p q a b one two inside within =
      plainly (settled_clock k (joined_on a one (settled_clock o (joined_on b two c))))
      (clock_swapped n (settled_clock p (joined_on b two (settled_clock q (joined_on a one c)))))
      (started_twice k o a b one two inside
      ∙ sym (ap (λ d. neighbours_swapped d ((c.standings ++ given_on c one a ∷ []) ++ given_on c two b ∷ [])) (sym width)
      ∙ pushed-swapped c.standings (given_on c one a) (given_on c two b))
      ∙ sym (ap (neighbours_swapped n) (started_twice p q b a two one within)))

clocks_both : (k o p q n a b : ℕ) (one two : ℕ → Bool) (cs : List Clock) → a < n → b < n → Each (λ j (c : Clock). length c.standings ≡ n) cs
    → Each (λ j (c : Clock). settle c.standings ≡ c.standings) cs
    → map plain_clock (map (settled_clock k) (joined a one (map (settled_clock o) (joined b two cs))))
    ≡ map plain_clock (map (clock_swapped n) (map (settled_clock p) (joined b two (map (settled_clock q) (joined a one cs)))))
clocks_both k o p q n a b one two [] inside within width still = refl
clocks_both k o p q n a b one two (c ∷ cs) inside within width still =
    let first : plain_clock (settled_clock k (joined_on a (one 0) (settled_clock o (joined_on b (two 0) c))))
    ≡ plain_clock (clock_swapped n (settled_clock p (joined_on b (two 0) (settled_clock q (joined_on a (one 0) c))))) =
    clock_both n c (width 0 c refl) (still 0 c refl) k o p q a b (one 0) (two 0) inside within in
    let rest : map plain_clock
    (map (settled_clock k) (joined a (λ j. one (suc j)) (map (settled_clock o) (joined b (λ j. two (suc j)) cs))))
    ≡ map plain_clock (map (clock_swapped n)
    (map (settled_clock p) (joined b (λ j. two (suc j)) (map (settled_clock q) (joined a (λ j. one (suc j)) cs))))) =
    clocks_both k o p q n a b (λ j. one (suc j)) (λ j. two (suc j)) cs inside within (λ j x at. width (suc j) x at)
    (λ j x at. still (suc j) x at) in
    λ i. first i ∷ rest i

module _ (m : ModuleValue) (w : World) (a b : ℕ) (x y : Activity) (found : slice_get w.activities a ≡ Some x)
    (known : slice_get w.activities b ≡ Some y) (differs : b ≡ a → ⊥)
    (still : Each (λ k (c : Clock). settle c.standings ≡ c.standings) w.clocks)
    (width : Each (λ k (c : Clock). length c.standings ≡ length w.activities) w.clocks)
    (owned : AreOwned w.activities) where
  abbrev n : ℕ
  n = length w.activities

  turned : a ≡ b → ⊥
  turned e = differs (sym e)

  inside : a < n
  inside = slice_get_within w.activities a x found

  within : b < n
  within = slice_get_within w.activities b y known

  below : Each (λ j (z : Activity). IsBelow n z.governed) w.activities
  below j z at o own = omega (arith, owned j z at o own, slice_get_within w.activities j z at)

  module _ (s t : ℕ) (one two : ℕ) (these those : List Value) where
    -- those whom they start, first, and second
    abbrev ours : Activity
    ours = child m a x one these

    abbrev ours_then : Activity
    ours_then = child m a (aged x s) one these

    abbrev theirs : Activity
    theirs = child m b y two those

    abbrev theirs_then : Activity
    theirs_then = child m b (aged y t) two those

    -- the others, where a is first, and where b is
    abbrev a_first : List Activity
    a_first = set (set w.activities a (onward x)) b (onward (aged y t))

    abbrev b_first : List Activity
    b_first = set (set w.activities b (onward y)) a (onward (aged x s))

    a_many : length (set w.activities a (onward x)) ≡ n
    a_many = length-set w.activities a (onward x)

    many : length a_first ≡ n
    many = length-set (set w.activities a (onward x)) b (onward (aged y t)) ∙ a_many

    abbrev AreBelow : List Activity → Type 0
    AreBelow acts = Each (λ j (z : Activity). IsBelow n z.governed) acts

    a_below : AreBelow (set w.activities a (onward x))
    a_below =
        each_set (λ j (z : Activity). IsBelow n z.governed) w.activities a x (onward x) found (below a x found) (λ j z ne at. below j z at)

    first_below : AreBelow a_first
    first_below = each_set (λ j (z : Activity). IsBelow n z.governed) (set w.activities a (onward x)) b y (onward (aged y t))
        (get-set_other w.activities a b (onward x) differs ∙ known) (below b y known) (λ j z ne at. a_below j z at)

    -- all, where a is first, the new ones in each other's place: they keep their owners
    all_below : AreBelow ((a_first ++ theirs_then ∷ []) ++ ours ∷ [])
    all_below = each_push (λ j (z : Activity). IsBelow n z.governed) (a_first ++ theirs_then ∷ []) ours
        (each_push (λ j (z : Activity). IsBelow n z.governed) a_first theirs_then first_below
        (governing_below n b y within (below b y known)))
        (governing_below n a x inside (below a x found))

    exchanged : acts_swapped n (set (set w.activities a (onward x) ++ ours ∷ []) b (onward (aged y t)) ++ theirs_then ∷ [])
        ≡ (a_first ++ theirs_then ∷ []) ++ ours ∷ []
    exchanged =
        ap (λ zs. acts_swapped n (zs ++ theirs_then ∷ []))
        (set_push (set w.activities a (onward x)) b (onward (aged y t)) ours (omega (arith, within, a_many)))
        ∙ ap (λ k. map (governed_renamed n) (neighbours_swapped k ((a_first ++ ours ∷ []) ++ theirs_then ∷ []))) (sym many)
        ∙ ap (map (governed_renamed n)) (pushed-swapped a_first ours theirs_then)
        ∙ kept_all n ((a_first ++ theirs_then ∷ []) ++ ours ∷ []) all_below

    same_others : map plain_activity b_first ≡ map plain_activity a_first
    same_others =
        map-set plain_activity (set w.activities b (onward y)) a (onward (aged x s))
        ∙ ap (λ zs. set zs a (plain_activity (onward x))) (map-set plain_activity w.activities b (onward y))
        ∙ set_other (map plain_activity w.activities) b a (plain_activity (onward y)) (plain_activity (onward x)) turned
        ∙ sym (map-set plain_activity (set w.activities a (onward x)) b (onward (aged y t))
        ∙ ap (λ zs. set zs b (plain_activity (onward y))) (map-set plain_activity w.activities a (onward x)))

    pushed_plain : (acts : List Activity) (p q : Activity)
        → map plain_activity ((acts ++ p ∷ []) ++ q ∷ []) ≡ (map plain_activity acts ++ plain_activity p ∷ []) ++ plain_activity q ∷ []
    pushed_plain acts p q = map_push plain_activity (acts ++ p ∷ []) q
        ∙ ap (λ zs. zs ++ plain_activity q ∷ []) (map_push plain_activity acts p)

    acts_both : map plain_activity (set (set w.activities b (onward y) ++ theirs ∷ []) a (onward (aged x s)) ++ ours_then ∷ [])
        ≡ map plain_activity (acts_swapped n (set (set w.activities a (onward x) ++ ours ∷ []) b (onward (aged y t)) ++ theirs_then ∷ []))
    acts_both =
        ap (λ zs. map plain_activity (zs ++ ours_then ∷ []))
        (set_push (set w.activities b (onward y)) a (onward (aged x s)) theirs
        (omega (arith, inside, length-set w.activities b (onward y))))
        ∙ pushed_plain b_first theirs ours_then ∙ ap (λ zs. (zs ++ plain_activity theirs ∷ []) ++ plain_activity ours ∷ []) same_others
        ∙ sym (ap (map plain_activity) exchanged ∙ pushed_plain a_first theirs_then ours)

    pub worlds_both : plain (started_world m (started_world m w b y two those) a (aged x s) one these)
        ≡ plain (activities_swapped n (started_world m (started_world m w a x one these) b (aged y t) two those))
    worlds_both =
        let first : World = started_world m (started_world m w b y two those) a (aged x s) one these in
        let second : World = started_world m (started_world m w a x one these) b (aged y t) two those in
        same_plain first (activities_swapped n second) acts_both
        (clocks_both (w.steps + 1 + 1) (w.steps + 1) (w.steps + 1 + 1) (w.steps + 1) n a b (is_given these)
        (is_given those) w.clocks inside within width still)
        refl refl

-- ---- worlds that are reached

pub starts_square : (m : ModuleValue) (w : World) → IsWithinLimits m → IsAccepted m → IsReached m w → (a b : ℕ) → (b ≡ a → ⊥)
    → IsSquareOfStarts m w a b
starts_square m w limits ok reached a b differs u v hu hv = (
  p,
  q,
  S.there,
  T.there,
  ap (λ z. plain (activities_swapped (length w.activities) (started_world m z a (aged x x.since) S.unit S.values))) vs
      ∙ sym (ap (λ z. plain (started_world m z b (aged y y.since) T.unit T.values)) us
      ∙ worlds_both m w b a y x B.found A.found (λ e. differs (sym e)) still width owned y.since x.since T.unit S.unit T.values S.values),
)
  where
    A : IsStarting m w a (step m w a)
    A = starting m w a u hu

    B : IsStarting m w b (step m w b)
    B = starting m w b v hv

    x : Activity
    x = A.act

    y : Activity
    y = B.act

    sound : IsSound m w
    sound = reached_sound m limits ok w reached

    still : Each (λ k (c : Clock). settle c.standings ≡ c.standings) w.clocks
    still k c at = unready_still c (sound.clocks k c at).unready

    width : Each (λ k (c : Clock). length c.standings ≡ length w.activities) w.clocks
    width k c at = (sound.clocks k c at).width

    owned : AreOwned w.activities
    owned k act at o own = ((reached_scoped m limits ok w reached).activities k act at).owner o own

    S : Starts m w v a x x.since (step m w a) (step m v a)
    S = only_starts m w v u a x x.since hu
        (goes m w v a x x.since (reached_sees m w limits ok reached a b differs (starts_apart m w a b A) x A.found v event.Spawned hv))

    T : Starts m w u b y y.since (step m w b) (step m u b)
    T = only_starts m w u v b y y.since hv
        (goes m w u b y y.since
        (reached_sees m w limits ok reached b a (λ e. differs (sym e)) (starts_apart m w b a B) y B.found u event.Spawned hu))

    us : u ≡ started_world m w a x S.unit S.values
    us = (same_step u (started_world m w a x S.unit S.values) event.Spawned event.Spawned (sym hu ∙ S.here)).0

    vs : v ≡ started_world m w b y T.unit T.values
    vs = (same_step v (started_world m w b y T.unit T.values) event.Spawned event.Spawned (sym hv ∙ T.here)).0

    p : World
    p = started_world m v a (aged x x.since) S.unit S.values

    q : World
    q = started_world m u b (aged y y.since) T.unit T.values
