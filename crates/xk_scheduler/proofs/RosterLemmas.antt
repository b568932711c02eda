-- The roster from step to step: what is owed before each part of it, and that it tells of the core in the end.
use Rattle.std.proofs.Common.{◌≡◌, ◌∙◌, ℕ, ◌<◌, ◌≤◌, ◌&&◌, not, ◌+◌, Bool, true, false, true≢false, if◌then◌else◌, List, [], ◌∷◌, drop, length, filter, get_or, Some, None, inl, inr, refl, sym, ap, subst, arith}
use Rattle.std.specs.Bool.{Decides}
use Rattle.std.proofs.lemmas.List.{length-replicate, length-set}
use Rattle.xk_types.specs.declared.world.Event.{Event}
use Rattle.xk_types.specs.declared.world.Event.TheVariants as event
use Rattle.xk_types.specs.World.{World}
use Rattle.xk_types.specs.Bound.{activities_bound, clocks_bound}
use Rattle.xk_types.specs.Schedule.{is_enabled}
use Rattle.xk_collections.specs.NumberSets.{numbers_from, with_member}
use Rattle.xk_collections.specs.WaitingLists.{left, taken, times, times_in_all, waiters}
use Rattle.xk_collections.proofs.OccurrenceLemmas.{first_times, none_times}
use Rattle.xk_collections.proofs.RemainderLemmas.{left_length}
use Rattle.xk_core.specs.Core.{CoreValue, IsCore, advanced_now, is_waiting}
use Rattle.xk_core.proofs.CoreLemmas.{core_stepped}
use Rattle.xk_scheduler.specs.Choosers.{enabled_in}
use Rattle.xk_scheduler.specs.EnabledSet.{other_to_list, with_or_without}
use Rattle.xk_scheduler.specs.Rosters.{AreThere, AreWoken, HasRoomFor, IsBehind, IsListed, RosterValue, StandOut, StandsOut, empty_roster}
use Rattle.xk_scheduler.specs.Waiters.{AreAsked, AreHeld, IsAsked, IsHeldNow, IsNotedIn, IsPut}
use Rattle.xk_scheduler.proofs.EnabledSetLemmas.{core_clocks, core_few, listed_alone, listed_more, listed_own, listed_two, other_within, step_widens}
use Rattle.xk_scheduler.proofs.IndependenceLemmas.{steps_within}
use Rattle.xk_scheduler.proofs.LocalRunLemmas.{GoesAlone, alone_core, alone_held, alone_listed, listed_there}
use Rattle.xk_scheduler.proofs.WakeLemmas.{AreHeldBelow, IsWokenTo, all_below, asked_nowhere, asked_there, at_place, from_place, held_more, held_unable, none_below, noted_held, skip_more, steps_nowhere, taken_there, woken_to}

-- ---- as many lists as before

pub asked_length : (w : World) (a : ℕ) (list : List ℕ) (lists : List (List ℕ)) (next : List ℕ) (later : List (List ℕ)) → IsAsked w a list lists next later → length later ≡ length lists
asked_length w a list lists next later (inl h) = ap length h.3 ∙ length-set lists h.0 (a ∷ waiters lists h.0)
asked_length w a list lists next later (inr h) = ap length h.2

pub each_length : (w : World) (acts list : List ℕ) (lists : List (List ℕ)) (next : List ℕ) (later : List (List ℕ)) → AreAsked w acts list lists next later → length later ≡ length lists
each_length w [] list lists next later h = ap length h.1
each_length w (a ∷ acts) list lists next later h = each_length w acts h.0 h.1 next later h.3 ∙ asked_length w a list lists h.0 h.1 h.2

put_length : (w : World) (a : ℕ) (lists later : List (List ℕ)) → IsPut w a lists later → length later ≡ length lists
put_length w a lists later (inl h) = ap length h.2 ∙ length-set lists h.0 (a ∷ waiters lists h.0)
put_length w a lists later (inr h) = ap length h.1

noted_length : (w : World) (a : ℕ) (e : Event) (lists later : List (List ℕ)) → IsNotedIn w a e lists later → length later ≡ length lists
noted_length w a event.Arrived lists later h = put_length w a lists later h
noted_length w a _ lists later h = ap length h

woken_length : (w : World) (r s : RosterValue) → AreWoken w r s → length s.lists ≡ length r.lists
woken_length w r s woken =
    each_length w (taken r.lists (advanced_now w)) r.members (left r.lists (advanced_now w)) s.members s.lists woken ∙ left_length r.lists (advanced_now w)

-- ---- those who are asked one after another

-- the next of them stands in no list
pub out_at : (w : World) (acts : List ℕ) (i : ℕ) (r s : RosterValue) → i < length acts → StandOut w acts r → s.room ≡ r.room → length s.lists ≡ length r.lists
    → ((b : ℕ) → times b (drop i acts) + times_in_all b s.lists ≤ 1) → StandsOut w (get_or acts i 0) s
out_at w acts i r s lt out room clocks once =
    let b = get_or acts i 0 in
    record {
      there = out.there b (at_place acts i lt);
      nowhere = omega (arith, once b, ap (times b) (from_place acts i lt), first_times b (drop (i + 1) acts));
      room = record { acts = omega (arith, out.room.acts, room); clocks = omega (arith, out.room.clocks, clocks) };
    }

-- those who were taken out of the lists of clocks that advanced stand in none
pub out_taken : (w : World) (r s : RosterValue) (acts : List ℕ) → AreThere w r → acts ≡ taken r.lists (advanced_now w) → s.lists ≡ left r.lists (advanced_now w) → s.room ≡ r.room
    → ((b : ℕ) → times b acts + times_in_all b s.lists ≤ 1) → StandOut w acts s
out_taken w r s acts here shown rest room once = record {
  there = λ b some. here.there b (taken_there w r.lists here.room.clocks b (subst (λ (l : List ℕ). 0 < times b l) shown some));
  once = once;
  room = record {
    acts = omega (arith, here.room.acts, room);
    clocks = omega (arith, here.room.clocks, ap length rest, left_length r.lists (advanced_now w));
  };
}

-- ---- where a core is taken over

-- those of the first numbers are listed, and nobody else is
pub record AreListedBelow (c : CoreValue) (n : ℕ) (r : RosterValue) : Type 0 where
  pub list_is : r.members ≡ filter (is_enabled c.module_run c.world) (numbers_from 0 n)
  pub held : AreHeldBelow c.world n r.lists
  pub roomy : activities_bound c.module_run ≤ r.room
  pub roomy_clocks : clocks_bound c.module_run ≤ length r.lists

pub none_listed : (c : CoreValue) (r : RosterValue) → r ≡ empty_roster (activities_bound c.module_run) (clocks_bound c.module_run) → AreListedBelow c 0 r
none_listed c r is = record {
  list_is = ap (λ (z : RosterValue). z.members) is;
  held = none_below c.world r.lists (λ b. ap (λ (z : RosterValue). times_in_all b z.lists) is ∙ none_times b (clocks_bound c.module_run));
  roomy = omega (arith, ap (λ (z : RosterValue). z.room) is);
  roomy_clocks = omega (arith, ap (λ (z : RosterValue). length z.lists) is, length-replicate {A = List ℕ} (clocks_bound c.module_run) []);
}

pub room_below : (c : CoreValue) (n : ℕ) (r : RosterValue) → IsCore c.module_run c.world → n < length c.world.activities → AreListedBelow c n r → n < r.room
room_below c n r core lt h = omega (arith, lt, core_few c.module_run c.world core, h.roomy)

module _ (c : CoreValue) (n : ℕ) (r s : RosterValue) (below : AreListedBelow c n r) (listed : s ≡ record r { members = with_or_without c n r.members }) where
  -- the next is listed if it can take a step
  abbrev test : ℕ → Bool
  test = is_enabled c.module_run c.world

  list_next : s.members ≡ filter test (numbers_from 0 (n + 1))
  list_next = listed_more test n r.members s.members below.list_is (ap (λ (z : RosterValue). z.members) listed)

  lists_same : s.lists ≡ r.lists
  lists_same = ap (λ (z : RosterValue). z.lists) listed

  room_same : s.room ≡ r.room
  room_same = ap (λ (z : RosterValue). z.room) listed

  -- it stands in no list yet
  pub out_next : IsCore c.module_run c.world → n < length c.world.activities → StandsOut c.world n s
  out_next core lt = record {
    there = lt;
    nowhere = ap (times_in_all n) lists_same ∙ below.held.later n (omega arith);
    room = record {
      acts = omega (arith, core_few c.module_run c.world core, below.roomy, room_same);
      clocks = omega (arith, core_clocks c.module_run c.world core, below.roomy_clocks, ap length lists_same);
    };
  }

  -- and is put into one if it waits at an `advance`
  pub waiting_next : (t : RosterValue) → IsCore c.module_run c.world → is_waiting c.world n ≡ true → IsPut c.world n s.lists t.lists → t ≡ record s { lists = t.lists }
      → AreListedBelow c (n + 1) t
  waiting_next t core waiting put kept = record {
    list_is = ap (λ (z : RosterValue). z.members) kept ∙ list_next;
    held = held_more c.world n s.lists t.lists (omega (arith, core_clocks c.module_run c.world core, below.roomy_clocks, ap length lists_same))
        (subst (AreHeldBelow c.world n) (sym lists_same) below.held) waiting put;
    roomy = omega (arith, below.roomy, room_same, ap (λ (z : RosterValue). z.room) kept);
    roomy_clocks = omega (arith, below.roomy_clocks, ap length lists_same, put_length c.world n s.lists t.lists put);
  }

  -- or isn't, as it doesn't
  pub awake_next : is_waiting c.world n ≡ false → AreListedBelow c (n + 1) s
  awake_next awake = record {
    list_is = list_next;
    held = skip_more c.world n s.lists (subst (AreHeldBelow c.world n) (sym lists_same) below.held) awake;
    roomy = omega (arith, below.roomy, room_same);
    roomy_clocks = omega (arith, below.roomy_clocks, ap length lists_same);
  }

pub all_listed : (c : CoreValue) (n : ℕ) (r : RosterValue) → IsCore c.module_run c.world → n ≡ length c.world.activities → AreListedBelow c n r → IsListed c r
all_listed c n r core is h = record {
  core = core;
  list_is = h.list_is ∙ ap (λ k. filter (is_enabled c.module_run c.world) (numbers_from 0 k)) is;
  held = all_below c.world r.lists (subst (λ k. AreHeldBelow c.world k r.lists) is h.held);
  roomy = h.roomy;
  roomy_clocks = h.roomy_clocks;
}

-- ---- who took the step

-- who is taken out where it is held back or can't take a step stands in the list exactly if it can
own_is : (a : ℕ) (is_held can able : Bool) (list : List ℕ) → (is_held ≡ true → able ≡ false) → (able ≡ true → with_member a true list ≡ list) → can ≡ (not is_held && able)
    → (if can then list else with_member a false list) ≡ with_member a able list
own_is a true can able list held stays is = rw (is, held refl) refl
own_is a false can true list held stays is = rw is (sym (stays refl))
own_is a false can false list held stays is = rw is refl

module _ (c : CoreValue) (a : ℕ) (e : Event) (r : RosterValue) (behind : IsBehind c a e r) where
  core_now : IsCore c.module_run c.world
  core_now = core_stepped c.module_run behind.before c.world a e behind.listed.core behind.stepped

  widens : length behind.before.activities ≤ length c.world.activities
  widens = (step_widens c.module_run behind.before c.world a e behind.stepped).0

  room_behind : HasRoomFor c.world r
  room_behind = record {
    acts = omega (arith, core_few c.module_run c.world core_now, behind.listed.roomy);
    clocks = omega (arith, core_clocks c.module_run c.world core_now, behind.listed.roomy_clocks);
  }

  -- those in lists are there, for those who are woken
  pub there_behind : AreThere c.world r
  there_behind = record {
    there = λ b some. omega (arith, asked_there behind.before r.lists behind.listed.held b some, widens);
    room = room_behind;
  }

  module _ (s : RosterValue) (woken : AreWoken c.world r s) (room : s.room ≡ r.room) where
    room_woken : HasRoomFor c.world s
    room_woken = record {
      acts = omega (arith, room_behind.acts, room);
      clocks = omega (arith, room_behind.clocks, woken_length c.world r s woken);
    }

    -- and who took the step stands in none
    pub out_behind : StandsOut c.world a s
    out_behind = record {
      there = omega (arith, steps_within c.module_run behind.before c.world a e behind.stepped, widens);
      nowhere = asked_nowhere c.world a r.lists r.members s.members s.lists room_behind.clocks (steps_nowhere c.module_run behind.before c.world a e r.lists behind.stepped behind.listed.held) woken;
      room = room_woken;
    }

    module _ (t u : RosterValue) (is_held can : Bool) (noted : IsNotedIn c.world a e s.lists t.lists) (kept : t ≡ record s { lists = t.lists })
        (held : Decides is_held (IsHeldNow c.world a e)) (can_is : can ≡ (not is_held && is_enabled c.module_run c.world a))
        (own : u ≡ record t { members = (if can then t.members else with_member a false t.members) }) where
      abbrev able : ℕ → Bool
      able = is_enabled c.module_run c.world

      woken_is : IsWokenTo c.module_run behind.before c.world a e s.members s.lists
      woken_is = woken_to c.module_run behind.before c.world a e r.lists behind.listed.core behind.stepped behind.listed.held room_behind.clocks s.members s.lists
          (subst (λ (l : List ℕ). AreAsked c.world (taken r.lists (advanced_now c.world)) l (left r.lists (advanced_now c.world)) s.members s.lists) behind.listed.list_is woken)

      members_are : u.members ≡ with_member a (able a) s.members
      members_are =
          ap (λ (z : RosterValue). z.members) own ∙ ap (λ (z : RosterValue). if can then z.members else with_member a false z.members) kept
          ∙ own_is a is_held can (able a) s.members (λ h. held_unable c.module_run behind.before c.world a e behind.stepped (held.0 h))
          (λ h. ap (with_member a true) woken_is.list_is ∙ listed_own c.module_run behind.before c.world a e woken_is.test woken_is.step h ∙ sym woken_is.list_is) can_is

      room_own : u.room ≡ r.room
      room_own = ap (λ (z : RosterValue). z.room) own ∙ ap (λ (z : RosterValue). z.room) kept ∙ room

      -- who is listed besides is there
      pub room_other : (b : ℕ) → other_to_list c.world a e ≡ Some b → b < u.room
      room_other b is = omega (arith, other_within c.module_run c.world a b e core_now out_behind.there is, room_behind.acts, room_own)

      listed_so : (x : RosterValue) → x.members ≡ enabled_in c.module_run c.world → x.lists ≡ u.lists → x.room ≡ u.room → IsListed c x
      listed_so x members lists same =
          let later : x.lists ≡ t.lists = lists ∙ ap (λ (z : RosterValue). z.lists) own in
          record {
            core = core_now;
            list_is = members;
            held = subst (AreHeld c.world) (sym later) (noted_held c.module_run behind.before c.world a e s.members s.lists t.lists behind.stepped woken_is room_woken.clocks noted);
            roomy = omega (arith, behind.listed.roomy, same, room_own);
            roomy_clocks = omega (
              arith,
              behind.listed.roomy_clocks,
              ap length later,
              noted_length c.world a e s.lists t.lists noted,
              woken_length c.world r s woken,
            );
          }

      -- where nobody else is concerned, it tells of the core then
      pub listed_behind : other_to_list c.world a e ≡ None → IsListed c u
      listed_behind none = listed_so u
          (members_are ∙ ap (with_member a (able a)) woken_is.list_is ∙ listed_alone c.module_run behind.before c.world a e woken_is.test woken_is.step none) refl refl

      -- and where somebody is, once that one is listed too
      pub listed_with : (x : RosterValue) (b : ℕ) → other_to_list c.world a e ≡ Some b → x ≡ record u { members = with_or_without c b u.members } → IsListed c x
      listed_with x b is more = listed_so x
          (ap (λ (z : RosterValue). z.members) more ∙ ap (with_member b (able b)) (members_are ∙ ap (with_member a (able a)) woken_is.list_is)
          ∙ listed_two c.module_run behind.before c.world a b e woken_is.test woken_is.step is)
          (ap (λ (z : RosterValue). z.lists) more) (ap (λ (z : RosterValue). z.room) more)

-- ---- steps that nobody else can see

-- behind those of one activity, which is taken out if it can't go on
pub run_listed : (c d : CoreValue) (a n : ℕ) (r s : RosterValue) (can : Bool) → IsListed c r → is_enabled c.module_run c.world a ≡ true → GoesAlone c.module_run a n c.world d.world
    → d.module_run ≡ c.module_run → can ≡ is_enabled d.module_run d.world a → s ≡ record r { members = (if can then r.members else with_member a false r.members) } → IsListed d s
run_listed c d a n r s can listed could alone same can_is own =
    let m = c.module_run in
    let able = is_enabled d.module_run d.world a in
    let stays : with_member a true r.members ≡ r.members = ap (with_member a true) listed.list_is ∙ listed_there m c.world a could ∙ sym listed.list_is in
    record {
      core = subst (λ k. IsCore k d.world) (sym same) (alone_core m a n c.world d.world listed.core alone);
      list_is = ap (λ (z : RosterValue). z.members) own
          ∙ own_is a false can able r.members (λ h. absurd (true≢false (sym h))) (λ h. stays) can_is
          ∙ ap (with_member a able) listed.list_is
          ∙ ap (λ k. with_member a (is_enabled k d.world a) (enabled_in m c.world)) same
          ∙ sym (alone_listed m a n c.world d.world listed.core could alone)
          ∙ ap (λ k. enabled_in k d.world) (sym same);
      held = subst (AreHeld d.world) (sym (ap (λ (z : RosterValue). z.lists) own)) (alone_held m a n c.world d.world r.lists listed.core alone listed.held);
      roomy = omega (arith, ap activities_bound same, listed.roomy, ap (λ (z : RosterValue). z.room) own);
      roomy_clocks = omega (arith, ap clocks_bound same, listed.roomy_clocks, ap (λ (z : RosterValue). length z.lists) own);
    }
