-- What a step makes of the registrations of all, as the code keeps them.
use Rattle.std.proofs.Common.{◌≡◌, ℕ, zero, suc, ◌+◌, ◌<◌, ◌^◌, ◌==◌, Bool, false, not, List, [], ◌∷◌, ◌++◌, map, length, filter, get_or, set, Some, None, refl, sym, ap, ◌∙◌, subst, arith, slice_get, slice_index_or, All}
use Rattle.std.specs.List.{list_any, list_all}
use Rattle.std.specs.Option.{option_map_or, option_map}
use Rattle.std.proofs.lemmas.List.{map-set, map_push, length-map, set-get_or}
use Rattle.std.proofs.lemmas.Option.{none-some, same_Some}
use Rattle.xk_types.specs.declared.world.Standing.TheVariants as standing
use Rattle.xk_types.specs.World.{Clock, standing_of}
use Rattle.xk_types.specs.Step.{is_signalled, is_ready, resumed, passed, dropped, none, all, settled_clock, moved, joined, new_clock}
use Rattle.xk_collections.specs.NumberSets.{numbers_from}
use Rattle.xk_collections.proofs.RisingListLemmas.{same_members}
use Rattle.xk_clocks.specs.Table.{CountValue, count_at}
use Rattle.xk_clocks.proofs.TallyLemmas.{ready_same}
use Rattle.xk_registrations.specs.declared.affected_clocks.Which.{Which}
use Rattle.xk_registrations.specs.declared.affected_clocks.Which.TheVariants as which
use Rattle.xk_registrations.specs.View.{Registration, standing_at, row, reg_on, AreDistinct, told, told_by, told_clock, held, IsKept}
use Rattle.xk_registrations.specs.RegistrationChanges.{ClocksValue, RegistrationsValue, noted_in, concerns, calls, call_resume, call_drop, call_register, regs_open, regs_on, regs_resumed, regs_passed, phase_at, others, made_clocks, IsGiven, AreToldAs, AreAllowed, OwesResume, OwesDrop, HavePhasesLeft}
use Rattle.xk_registrations.specs.Standings.{lists, change_on, has_advanced_in, advanced_in}
use Rattle.xk_registrations.proofs.StandingChangeLemmas.{row_at}
use Rattle.xk_registrations.proofs.StandingLemmas.{stands_reg}
use Rattle.xk_registrations.proofs.NewClockLemmas.{length-told_by}
use Rattle.xk_registrations.proofs.CallPreconditionLemmas.{may_resume, may_drop, sound_start}
use Rattle.xk_registrations.proofs.StepLaw.{resumed_law, arrived_law, passed_law, dropped_law, left_law, started_law, made_law}

-- ---- registrations of all

pub held_item : (rs : List RegistrationsValue) (a : ℕ) (x : RegistrationsValue) → a < length rs → x ≡ get_or rs a x → held (lists rs) a ≡ x.list
held_item [] a x h is = absurd (omega arith)
held_item (r ∷ rs) zero x h is = ap (λ (y : RegistrationsValue). y.list) (sym is)
held_item (r ∷ rs) (suc a) x h is = held_item rs a x (omega arith) is

lists_set : (rs : List RegistrationsValue) (a : ℕ) (y : RegistrationsValue) → lists (set rs a y) ≡ set (lists rs) a y.list
lists_set rs a y = map-set (λ (r : RegistrationsValue). r.list) rs a y

pub length-lists : (rs : List RegistrationsValue) → length (lists rs) ≡ length rs
length-lists rs = length-map rs (λ (r : RegistrationsValue). r.list)

-- ---- the clocks told

pub length-told : (ls : List ℕ) (acts : List (List Registration)) (cs : List CountValue) → length (told ls acts cs) ≡ length cs
length-told ls acts cs = length-told_by (told_clock (λ k. slice_index_or ls k 0) acts) cs

told_by_at : (f : ℕ → CountValue → Clock) (cs : List CountValue) (k : ℕ) (c : CountValue) → slice_get cs k ≡ Some c → slice_get (told_by f cs) k ≡ Some (f k c)
told_by_at f [] k c h = absurd (none-some c h)
told_by_at f (d ∷ cs) zero c h = ap (λ x. Some (f 0 x)) (same_Some d c h)
told_by_at f (d ∷ cs) (suc k) c h = told_by_at (λ j. f (suc j)) cs k c h

pub told_at : (ls : List ℕ) (acts : List (List Registration)) (cs : List CountValue) (k : ℕ) → k < length cs
    → slice_get (told ls acts cs) k ≡ Some (told_clock (λ j. slice_index_or ls j 0) acts k (count_at cs k))
told_at ls acts cs k h = told_by_at (told_clock (λ j. slice_index_or ls j 0) acts) cs k (count_at cs k) (there cs k h)
  where
    there : (cs : List CountValue) (k : ℕ) → k < length cs → slice_get cs k ≡ Some (count_at cs k)
    there [] k h = absurd (omega arith)
    there (c ∷ cs) zero h = refl
    there (c ∷ cs) (suc k) h = there cs k (omega arith)

each_at : (P : Clock → Type 0) (xs : List Clock) (k : ℕ) (x : Clock) → All P xs → slice_get xs k ≡ Some x → P x
each_at P [] k x all h = absurd (none-some x h)
each_at P (y ∷ xs) zero x all h = subst P (same_Some y x h) (all 0 y (omega arith))
each_at P (y ∷ xs) (suc k) x all h = each_at P xs k x (λ j d lt. all (suc j) d (omega arith)) h

phases_left : (ls : List ℕ) (acts : List (List Registration)) (cs : List CountValue) → All (λ c. c.phase + 1 < 2 ^ 64) (told ls acts cs) → HavePhasesLeft cs
phases_left ls acts cs all k c at =
    each_at (λ c. c.phase + 1 < 2 ^ 64) (told ls acts cs) k (told_clock (λ j. slice_index_or ls j 0) acts k c) all
    (told_by_at (told_clock (λ j. slice_index_or ls j 0) acts) cs k c at)

-- ---- one activity's registrations become others

-- what a step tells of clocks and registrations, it tells of those that are kept in a list
kept_as : (clocks : List Clock) (v w : ClocksValue) (acts : List (List Registration)) (rs : List RegistrationsValue) → v ≡ w → lists rs ≡ acts
    → AreToldAs clocks w acts → AreToldAs clocks v (lists rs)
kept_as clocks v w acts rs e f h = rw (e, f) h

pub may_resume_in : (v : ClocksValue) (rs : List RegistrationsValue) (a : ℕ) (x : RegistrationsValue) (w : Which) → IsKept v.lasts (lists rs) v.table.clocks
    → a < length rs → x ≡ get_or rs a x → All (λ c. c.phase + 1 < 2 ^ 64) (told v.lasts (lists rs) v.table.clocks)
    → AreAllowed OwesResume v.table.clocks (regs_open (concerns w) x.list)
may_resume_in v rs a x w kept there is phases =
    subst (λ l. AreAllowed OwesResume v.table.clocks (regs_open (concerns w) l)) (held_item rs a x there is)
    (may_resume v.lasts (lists rs) v.table.clocks a kept (omega (arith, length-lists rs)) (phases_left v.lasts (lists rs) v.table.clocks phases) (concerns w))

pub may_drop_in : (v : ClocksValue) (rs : List RegistrationsValue) (a : ℕ) (x : RegistrationsValue) (w : Which) → IsKept v.lasts (lists rs) v.table.clocks
    → a < length rs → x ≡ get_or rs a x → All (λ c. c.phase + 1 < 2 ^ 64) (told v.lasts (lists rs) v.table.clocks)
    → AreAllowed OwesDrop v.table.clocks (regs_on (concerns w) x.list)
may_drop_in v rs a x w kept there is phases =
    subst (λ l. AreAllowed OwesDrop v.table.clocks (regs_on (concerns w) l)) (held_item rs a x there is)
    (may_drop v.lasts (lists rs) v.table.clocks a kept (omega (arith, length-lists rs)) (phases_left v.lasts (lists rs) v.table.clocks phases) (concerns w))

pub resumed_in : (now a : ℕ) (w : Which) (v v' : ClocksValue) (rs : List RegistrationsValue) (x y : RegistrationsValue) → IsKept v.lasts (lists rs) v.table.clocks
    → a < length rs → x ≡ get_or rs a x
    → y ≡ record x { list = regs_resumed (concerns w) (phase_at v.table.clocks) x.list } → v' ≡ calls now call_resume (regs_open (concerns w) x.list) v
    → AreToldAs (map (settled_clock now) (moved a (change_on w resumed) (told v.lasts (lists rs) v.table.clocks))) v' (lists (set rs a y))
resumed_in now a w v v' rs x y kept there is became called =
    let here = held_item rs a x there is in
    kept_as (map (settled_clock now) (moved a (change_on w resumed) (told v.lasts (lists rs) v.table.clocks))) v'
    (calls now call_resume (regs_open (concerns w) (held (lists rs) a)) v)
    (set (lists rs) a (regs_resumed (concerns w) (phase_at v.table.clocks) (held (lists rs) a))) (set rs a y)
    (called ∙ ap (λ l. calls now call_resume (regs_open (concerns w) l) v) (sym here))
    (lists_set rs a y ∙ ap (λ l. set (lists rs) a l) (ap (λ (r : RegistrationsValue). r.list) became ∙ ap (regs_resumed (concerns w) (phase_at v.table.clocks)) (sym here)))
    (law w)
  where
    law : (w : Which) → AreToldAs (map (settled_clock now) (moved a (change_on w resumed) (told v.lasts (lists rs) v.table.clocks)))
        (calls now call_resume (regs_open (concerns w) (held (lists rs) a)) v)
        (set (lists rs) a (regs_resumed (concerns w) (phase_at v.table.clocks) (held (lists rs) a)))
    law which.All = arrived_law now a v (lists rs) kept (omega (arith, length-lists rs))
    law (which.Only k) = resumed_law now a k v (lists rs) kept (omega (arith, length-lists rs))

pub dropped_in : (now a : ℕ) (w : Which) (v v' : ClocksValue) (rs : List RegistrationsValue) (x y : RegistrationsValue) → IsKept v.lasts (lists rs) v.table.clocks
    → a < length rs → x ≡ get_or rs a x → y ≡ record x { list = others w x.list } → v' ≡ calls now call_drop (regs_on (concerns w) x.list) v
    → AreToldAs (map (settled_clock now) (moved a (change_on w dropped) (told v.lasts (lists rs) v.table.clocks))) v' (lists (set rs a y))
dropped_in now a w v v' rs x y kept there is became called =
    let here = held_item rs a x there is in
    kept_as (map (settled_clock now) (moved a (change_on w dropped) (told v.lasts (lists rs) v.table.clocks))) v'
    (calls now call_drop (regs_on (concerns w) (held (lists rs) a)) v) (set (lists rs) a (others w (held (lists rs) a))) (set rs a y)
    (called ∙ ap (λ l. calls now call_drop (regs_on (concerns w) l) v) (sym here))
    (lists_set rs a y ∙ ap (λ l. set (lists rs) a l) (ap (λ (r : RegistrationsValue). r.list) became ∙ ap (others w) (sym here)))
    (law w)
  where
    law : (w : Which) → AreToldAs (map (settled_clock now) (moved a (change_on w dropped) (told v.lasts (lists rs) v.table.clocks)))
        (calls now call_drop (regs_on (concerns w) (held (lists rs) a)) v) (set (lists rs) a (others w (held (lists rs) a)))
    law which.All = left_law now a v (lists rs) kept (omega (arith, length-lists rs))
    law (which.Only k) = dropped_law now a k v (lists rs) kept (omega (arith, length-lists rs))

pub passed_in : (now a : ℕ) (v : ClocksValue) (rs : List RegistrationsValue) (x y : RegistrationsValue) → IsKept v.lasts (lists rs) v.table.clocks
    → a < length rs → x ≡ get_or rs a x → y ≡ record x { list = regs_passed x.list }
    → list_any (λ c. is_signalled (standing_of c a)) (told v.lasts (lists rs) v.table.clocks) ≡ false
    → AreToldAs (map (settled_clock now) (moved a (all passed) (told v.lasts (lists rs) v.table.clocks))) v (lists (set rs a y))
passed_in now a v rs x y kept there is became quiet =
    kept_as (map (settled_clock now) (moved a (all passed) (told v.lasts (lists rs) v.table.clocks))) v v
    (set (lists rs) a (regs_passed (held (lists rs) a))) (set rs a y) refl
    (lists_set rs a y ∙ ap (λ l. set (lists rs) a l) (ap (λ (r : RegistrationsValue). r.list) became ∙ ap regs_passed (sym (held_item rs a x there is))))
    (passed_law now a v (lists rs) kept (omega (arith, length-lists rs)) quiet)

-- ---- a clock is made

pub unnamed_in : (v : ClocksValue) (rs : List RegistrationsValue) (a : ℕ) (x : RegistrationsValue) → IsKept v.lasts (lists rs) v.table.clocks
    → a < length rs → x ≡ get_or rs a x → reg_on x.list (length v.table.clocks) ≡ None
unnamed_in v rs a x kept there is =
    ap (λ l. reg_on l (length v.table.clocks)) (sym (held_item rs a x there is)) ∙ (kept.sound a).exist (length v.table.clocks) (omega arith)

pub made_in : (now a : ℕ) (v v' : ClocksValue) (rs : List RegistrationsValue) (x y : RegistrationsValue) → IsKept v.lasts (lists rs) v.table.clocks
    → a < length rs → x ≡ get_or rs a x
    → y ≡ record x { list = x.list ++ record { clock = length v.table.clocks; resumed = None } ∷ [] } → v' ≡ made_clocks v
    → AreToldAs (map (settled_clock now) (told v.lasts (lists rs) v.table.clocks ++ new_clock (length (lists rs)) a ∷ [])) v' (lists (set rs a y))
made_in now a v v' rs x y kept there is became made =
    let here = held_item rs a x there is in
    kept_as (map (settled_clock now) (told v.lasts (lists rs) v.table.clocks ++ new_clock (length (lists rs)) a ∷ [])) v' (made_clocks v)
    (set (lists rs) a (held (lists rs) a ++ record { clock = length v.table.clocks; resumed = None } ∷ [])) (set rs a y) made
    (lists_set rs a y ∙ ap (λ l. set (lists rs) a l)
    (ap (λ (r : RegistrationsValue). r.list) became ∙ ap (λ l. l ++ record { clock = length v.table.clocks; resumed = None } ∷ []) (sym here)))
    (made_law now a v (lists rs) kept (omega (arith, length-lists rs)))

-- ---- an activity is started

pub started_in : (now a : ℕ) (given : ℕ → Bool) (v v' : ClocksValue) (rs : List RegistrationsValue) (x : RegistrationsValue) → IsKept v.lasts (lists rs) v.table.clocks
    → IsGiven given (held (lists rs) a) x.list → AreDistinct x.list → v' ≡ calls now call_register x.list v
    → AreToldAs (map (settled_clock now) (joined a given (told v.lasts (lists rs) v.table.clocks))) v' (lists (rs ++ x ∷ []))
started_in now a given v v' rs x kept is distinct called =
    kept_as (map (settled_clock now) (joined a given (told v.lasts (lists rs) v.table.clocks))) v' (calls now call_register x.list v)
    (lists rs ++ x.list ∷ []) (rs ++ x ∷ []) called (map_push (λ (r : RegistrationsValue). r.list) rs x)
    (started_law now a v (lists rs) kept given x.list (sound_start (length v.table.clocks) given (held (lists rs) a) x.list (kept.sound a) distinct is) is)

-- ---- a step that concerns no clock

rest_by : (now a : ℕ) (f : ℕ → CountValue → Clock) (cs : List CountValue) → ((k : ℕ) (c : CountValue) → slice_get cs k ≡ Some c → is_ready (f k c) ≡ false)
    → map (settled_clock now) (moved a none (told_by f cs)) ≡ told_by f cs
rest_by now a f [] each = refl
rest_by now a f (c ∷ cs) each =
    rw (set-get_or (f 0 c).standings a standing.Apart, each 0 c refl, rest_by now a (λ k. f (suc k)) cs (λ k. each (suc k))) refl

pub rest_in : (now a : ℕ) (ls : List ℕ) (acts : List (List Registration)) (cs : List CountValue) → IsKept ls acts cs
    → map (settled_clock now) (moved a none (told ls acts cs)) ≡ told ls acts cs
rest_in now a ls acts cs kept =
    rest_by now a (told_clock (λ k. slice_index_or ls k 0) acts) cs
    (λ k c at. ready_same (row acts k c.phase) c (kept.fit k c at).counts ∙ (kept.fit k c at).kept)

-- ---- one clock

pub phase_in : (ls : List ℕ) (acts : List (List Registration)) (cs : List CountValue) (k : ℕ) → k < length cs
    → option_map (λ (c : Clock). c.phase) (slice_get (told ls acts cs) k) ≡ Some (count_at cs k).phase
phase_in ls acts cs k h = ap (option_map (λ (c : Clock). c.phase)) (told_at ls acts cs k h)

pub last_in : (ls : List ℕ) (acts : List (List Registration)) (cs : List CountValue) (k : ℕ) → k < length cs
    → option_map (λ (c : Clock). c.last) (slice_get (told ls acts cs) k) ≡ Some (slice_index_or ls k 0)
last_in ls acts cs k h = ap (option_map (λ (c : Clock). c.last)) (told_at ls acts cs k h)

pub standing_in : (ls : List ℕ) (acts : List (List Registration)) (cs : List CountValue) (a k : ℕ) → k < length cs
    → option_map (λ c. standing_of c a) (slice_get (told ls acts cs) k)
    ≡ Some (option_map_or (λ r. standing_at (count_at cs k).phase r.resumed) (reg_on (held acts a) k) standing.Apart)
standing_in ls acts cs a k h =
    ap (option_map (λ c. standing_of c a)) (told_at ls acts cs k h)
    ∙ ap (λ s. Some s) (row_at acts k (count_at cs k).phase a ∙ stands_reg (held acts a) k (count_at cs k).phase)

-- ---- whether no clock advanced

quiet_by : (step : ℕ) (f : ℕ → CountValue → Clock) (ls : List ℕ) (cs : List CountValue) → length ls ≡ length cs → ((k : ℕ) (c : CountValue) → (f k c).last ≡ get_or ls k 0)
    → list_all (λ last. not (last == step)) ls ≡ list_all (λ (c : Clock). not (c.last == step)) (told_by f cs)
quiet_by step f [] [] same is = refl
quiet_by step f [] (c ∷ cs) same is = absurd (omega arith)
quiet_by step f (l ∷ ls) [] same is = absurd (omega arith)
quiet_by step f (l ∷ ls) (c ∷ cs) same is = rw (is 0 c, quiet_by step (λ k. f (suc k)) ls cs (omega arith) (λ k d. is (suc k) d)) refl

pub quiet_in : (step : ℕ) (ls : List ℕ) (acts : List (List Registration)) (cs : List CountValue) → IsKept ls acts cs
    → list_all (λ last. not (last == step)) ls ≡ list_all (λ (c : Clock). not (c.last == step)) (told ls acts cs)
quiet_in step ls acts cs kept = quiet_by step (told_clock (λ k. slice_index_or ls k 0) acts) ls cs kept.lasts (λ k c. refl)

-- ---- which clocks advanced

pub noted_told : (step : ℕ) (ls : List ℕ) (acts : List (List Registration)) (cs : List CountValue) → IsKept ls acts cs → noted_in ls step ≡ advanced_in (told ls acts cs) step
noted_told step ls acts cs kept =
    ap (λ n. filter (λ k. get_or ls k 0 == step) (numbers_from 0 n)) (kept.lasts ∙ sym (length-told ls acts cs))
    ∙ same_members (has_advanced_in (told ls acts cs) step) (λ k. get_or ls k 0 == step) 0 (length (told ls acts cs))
    (λ k from below. sym (ap (λ o. option_map_or (λ (c : Clock). c.last == step) o false) (told_at ls acts cs k (omega (arith, below, length-told ls acts cs)))))
