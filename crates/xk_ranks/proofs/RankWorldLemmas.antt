-- Worlds with some activities alone: what is looked at there, and what changes.
use Rattle.std.proofs.Common.{◌≡◌, ℕ, zero, suc, ◌+◌, ◌<◌, ◌==◌, not, Bool, true, false, true≢false, cond, List, [], ◌∷◌}
use Rattle.std.proofs.Common.{◌++◌, map, length, length-set, replicate, set, Option, Some, None, option_map, inl, inr, ◌⊎◌, refl}
use Rattle.std.proofs.Common.{sym, ap, ◌∙◌, subst, arith}
use Rattle.std.specs.Prelude.{slice_get}
use Rattle.std.specs.List.{list_any}
use Rattle.std.proofs.lemmas.List.{length-replicate, length_push, map-set}
use Rattle.std.proofs.lemmas.Option.{slice_get-map, same_Some, none-some, slice_get_within}
use Rattle.xk_types.specs.declared.world.Standing.{Standing}
use Rattle.xk_types.specs.declared.world.Standing.TheVariants as standing
use Rattle.xk_types.specs.Code.{ModuleValue}
use Rattle.xk_types.specs.declared.world.Value.{Value}
use Rattle.xk_types.specs.World.{Finish, Activity, Clock, World, is_ended, standing_of}
use Rattle.xk_types.specs.Step.{is_signalled, is_pending, is_ready, advanced, settled, settled_clock, moved, moved_on, joined, joined_on}
use Rattle.xk_types.specs.Step.{new_clock, innermost, child, waits, is_under, awaits}
use Rattle.xk_types.proofs.ListLemmas.{Each, get_inside, get-replicate, get-set_other, get_push, get-push_other}
use Rattle.xk_types.proofs.MembershipLemmas.{same_test}
use Rattle.xk_law_schedules.proofs.ScopeLemmas.FinishOwnerLemmas.{AreOwned, under_governed, under_owner, under_cases, IsAwaited, awaited}
use Rattle.xk_law_commute.proofs.AwaitIndependenceLemmas.{awaits_given, same_or_not}
use Rattle.xk_law_commute.proofs.ListLemmas.{map_push}
use Rattle.xk_ranks.specs.Ranks.{kept, rank, finish_ranked, governed_ranked, clock_kept, acts_kept, with_only, going, remains}
use Rattle.xk_ranks.proofs.RankListLemmas.{IsMarked, get-kept, get_or-kept, set-kept, IsKept, of_rank, map-kept, push-kept}
use Rattle.xk_ranks.proofs.RankListLemmas.{replicate-kept, any-kept, rank_less, one_rank, rank-push, AreFewer, kept_twice, rank_twice}

-- ---- clocks

pub standing-kept : (ms : List Bool) (a : ℕ) (c : Clock) → IsMarked ms a → standing_of (clock_kept ms c) (rank ms a) ≡ standing_of c a
standing-kept ms a c at = get_or-kept ms c.standings a standing.Apart at

-- the clock has a standing for each mark, and those that are left out stand apart
pub record IsClear (ms : List Bool) (c : Clock) : Type 0 where
  pub width : length ms ≡ length c.standings
  pub apart : (b : ℕ) (s : Standing) → slice_get ms b ≡ Some false → slice_get c.standings b ≡ Some s → s ≡ standing.Apart

abbrev pub AreClear : List Bool → List Clock → Type 0
AreClear ms cs = Each (λ j c. IsClear ms c) cs

signalled-kept : (ms : List Bool) (c : Clock) → IsClear ms c
    → list_any is_signalled (kept ms c.standings) ≡ list_any is_signalled c.standings
signalled-kept ms c clear = any-kept is_signalled ms c.standings clear.width (λ b s at there. ap is_signalled (clear.apart b s at there))

pending-kept : (ms : List Bool) (c : Clock) → IsClear ms c → list_any is_pending (kept ms c.standings) ≡ list_any is_pending c.standings
pending-kept ms c clear = any-kept is_pending ms c.standings clear.width (λ b s at there. ap is_pending (clear.apart b s at there))

-- the end of a step
settled_clock-kept : (ms : List Bool) (now : ℕ) (c : Clock) → IsClear ms c
    → settled_clock now (clock_kept ms c) ≡ clock_kept ms (settled_clock now c)
settled_clock-kept ms now c clear = rw (signalled-kept ms c clear, pending-kept ms c clear) (by (is_ready c))
  where
    by : (b : Bool) → cond b (record { phase = c.phase + 1; last = now; standings = map advanced (kept ms c.standings) }) (clock_kept ms c)
        ≡ clock_kept ms (cond b (record { phase = c.phase + 1; last = now; standings = map advanced c.standings }) c)
    by true = ap (λ zs. record { phase = c.phase + 1; last = now; standings = zs }) (map-kept advanced ms c.standings)
    by false = refl

settled_clocks-kept : (ms : List Bool) (now : ℕ) (cs : List Clock) → AreClear ms cs
    → map (settled_clock now) (map (clock_kept ms) cs) ≡ map (clock_kept ms) (map (settled_clock now) cs)
settled_clocks-kept ms now [] clear = refl
settled_clocks-kept ms now (c ∷ cs) clear =
    rw (settled_clock-kept ms now c (clear 0 c refl), settled_clocks-kept ms now cs (λ j x at. clear (suc j) x at))

pub settled-kept : (ms : List Bool) (w : World) → AreClear ms w.clocks → settled (with_only ms w) ≡ with_only ms (settled w)
settled-kept ms w clear = ap (λ cs. record (with_only ms w) { clocks = cs; steps = w.steps + 1 })
    (settled_clocks-kept ms (w.steps + 1) w.clocks clear)

-- a change of standings
moved_on-kept : (ms : List Bool) (a : ℕ) (change : Standing → Standing) (c : Clock) → IsMarked ms a
    → moved_on (rank ms a) change (clock_kept ms c) ≡ clock_kept ms (moved_on a change c)
moved_on-kept ms a change c at = ap (λ zs. record { phase = c.phase; last = c.last; standings = zs })
    (ap (λ s. set (kept ms c.standings) (rank ms a) (change s)) (standing-kept ms a c at)
    ∙ set-kept ms c.standings a (change (standing_of c a)) at)

pub moved-kept : (ms : List Bool) (a : ℕ) (change : ℕ → Standing → Standing) (cs : List Clock) → IsMarked ms a
    → moved (rank ms a) change (map (clock_kept ms) cs) ≡ map (clock_kept ms) (moved a change cs)
moved-kept ms a change [] at = refl
moved-kept ms a change (c ∷ cs) at = rw (moved_on-kept ms a (change 0) c at, moved-kept ms a (λ j. change (suc j)) cs at)

moved_on-clear : (ms : List Bool) (a : ℕ) (change : Standing → Standing) (c : Clock) → IsMarked ms a → IsClear ms c
    → IsClear ms (moved_on a change c)
moved_on-clear ms a change c at clear = record {
  width = omega (arith, clear.width, length-set c.standings a (change (standing_of c a)));
  apart = λ b s out there. clear.apart b s out
      (sym (get-set_other c.standings a b (change (standing_of c a)) (λ e. differ b out (sym (ap (λ n. slice_get ms n) e) ∙ out)))
      ∙ there);
}
  where
    differ : (b : ℕ) → slice_get ms b ≡ Some false → slice_get ms a ≡ Some false → ⊥
    differ b out same = true≢false (same_Some true false (sym at ∙ same))

pub moved-clear : (ms : List Bool) (a : ℕ) (change : ℕ → Standing → Standing) (cs : List Clock) → IsMarked ms a → AreClear ms cs
    → AreClear ms (moved a change cs)
moved-clear ms a change [] at clear j c there = absurd (none-some c there)
moved-clear ms a change (d ∷ cs) at clear zero c there =
    subst (IsClear ms) (same_Some (moved_on a (change 0) d) c there) (moved_on-clear ms a (change 0) d at (clear 0 d refl))
moved-clear ms a change (d ∷ cs) at clear (suc j) c there =
    moved-clear ms a (λ k. change (suc k)) cs at (λ k x h. clear (suc k) x h) j c there

-- one activity more
joined_on-kept : (ms : List Bool) (a : ℕ) (given : Bool) (c : Clock) → IsMarked ms a → length ms ≡ length c.standings
    → joined_on (rank ms a) given (clock_kept ms c) ≡ clock_kept (ms ++ true ∷ []) (joined_on a given c)
joined_on-kept ms a given c at wide = ap (λ zs. record { phase = c.phase; last = c.last; standings = zs })
    (ap (λ s. kept ms c.standings ++ cond given s standing.Apart ∷ []) (standing-kept ms a c at)
    ∙ sym (push-kept ms c.standings (cond given (standing_of c a) standing.Apart) wide))

pub joined-kept : (ms : List Bool) (a : ℕ) (given : ℕ → Bool) (cs : List Clock) → IsMarked ms a → AreClear ms cs
    → joined (rank ms a) given (map (clock_kept ms) cs) ≡ map (clock_kept (ms ++ true ∷ [])) (joined a given cs)
joined-kept ms a given [] at clear = refl
joined-kept ms a given (c ∷ cs) at clear =
    rw (joined_on-kept ms a (given 0) c at (clear 0 c refl).width, joined-kept ms a (λ j. given (suc j)) cs at (λ j x h. clear (suc j) x h))

joined_on-clear : (ms : List Bool) (a : ℕ) (given : Bool) (c : Clock) → IsClear ms c → IsClear (ms ++ true ∷ []) (joined_on a given c)
joined_on-clear ms a given c clear = record {
  width = omega (arith, clear.width, length_push ms true, length_push c.standings (cond given (standing_of c a) standing.Apart));
  apart = λ b s out there. by (same_or_not b (length ms)) out there;
}
  where
    more : List Standing
    more = c.standings ++ cond given (standing_of c a) standing.Apart ∷ []

    by : {b : ℕ} {s : Standing} → (b ≡ length ms) ⊎ (b ≡ length ms → ⊥) → slice_get (ms ++ true ∷ []) b ≡ Some false
        → slice_get more b ≡ Some s → s ≡ standing.Apart
    by {b} {s} (inl same) out there = absurd
        (true≢false (same_Some true false (sym (get_push ms true) ∙ ap (slice_get (ms ++ true ∷ [])) (sym same) ∙ out)))
    by {b} {s} (inr differs) out there = clear.apart b s (sym (get-push_other ms true b differs) ∙ out)
        (sym (get-push_other c.standings (cond given (standing_of c a) standing.Apart) b (λ e. differs (e ∙ sym clear.width))) ∙ there)

pub joined-clear : (ms : List Bool) (a : ℕ) (given : ℕ → Bool) (cs : List Clock) → AreClear ms cs
    → AreClear (ms ++ true ∷ []) (joined a given cs)
joined-clear ms a given [] clear j c there = absurd (none-some c there)
joined-clear ms a given (d ∷ cs) clear zero c there =
    subst (IsClear (ms ++ true ∷ [])) (same_Some (joined_on a (given 0) d) c there) (joined_on-clear ms a (given 0) d (clear 0 d refl))
joined-clear ms a given (d ∷ cs) clear (suc j) c there =
    joined-clear ms a (λ k. given (suc k)) cs (λ k x h. clear (suc k) x h) j c there

-- a new clock
pub new-kept : {X : Type 0} (ms : List Bool) (xs : List X) (a : ℕ) → IsMarked ms a → length ms ≡ length xs
    → new_clock (length (kept ms xs)) (rank ms a) ≡ clock_kept ms (new_clock (length xs) a)
new-kept ms xs a at wide = ap (λ zs. record { phase = 0; last = 0; standings = zs })
    (ap (λ zs. set zs (rank ms a) standing.Open) (sym (replicate-kept ms xs standing.Apart wide))
    ∙ set-kept ms (replicate (length xs) standing.Apart) a standing.Open at)

pub new-clear : (ms : List Bool) (n a : ℕ) → IsMarked ms a → length ms ≡ n → IsClear ms (new_clock n a)
new-clear ms n a at wide = record {
  width = omega (arith, wide, length-set (replicate n standing.Apart) a standing.Open, length-replicate n standing.Apart);
  apart = λ b s out there. sym (get-replicate n standing.Apart s b
      (sym (get-set_other (replicate n standing.Apart) a b standing.Open
      (λ e. true≢false (same_Some true false (sym at ∙ ap (slice_get ms) (sym e) ∙ out)))) ∙ there));
}

-- who waits
pub waits-kept : (ms : List Bool) (a : ℕ) (w : World) → IsMarked ms a → waits (with_only ms w) (rank ms a) ≡ waits w a
waits-kept ms a w at = by w.clocks
  where
    by : (cs : List Clock) → list_any (λ (c : Clock). is_signalled (standing_of c (rank ms a))) (map (clock_kept ms) cs)
        ≡ list_any (λ (c : Clock). is_signalled (standing_of c a)) cs
    by [] = refl
    by (c ∷ cs) = rw (standing-kept ms a c at, by cs)

-- ---- activities

pub act-kept : (ms : List Bool) (acts : List Activity) (a : ℕ) → IsMarked ms a
    → slice_get (acts_kept ms acts) (rank ms a) ≡ option_map (governed_ranked ms) (slice_get acts a)
act-kept ms acts a at = slice_get-map (governed_ranked ms) (kept ms acts) (rank ms a)
    ∙ ap (option_map (governed_ranked ms)) (get-kept ms acts a at)

pub set_act-kept : (ms : List Bool) (acts : List Activity) (a : ℕ) (next : Activity) → IsMarked ms a
    → set (acts_kept ms acts) (rank ms a) (governed_ranked ms next) ≡ acts_kept ms (set acts a next)
set_act-kept ms acts a next at = sym (map-set (governed_ranked ms) (kept ms acts) (rank ms a) next)
    ∙ ap (map (governed_ranked ms)) (set-kept ms acts a next at)

-- with one mark more the ranks are the same
ranked_more : (ms : List Bool) (x : Activity) → ((o : ℕ) → x.governed.owner ≡ Some o → o < length ms)
    → governed_ranked (ms ++ true ∷ []) x ≡ governed_ranked ms x
ranked_more ms x within = ap (λ o. record x { governed = record x.governed { owner = o } }) (by x.governed.owner within)
  where
    by : (o : Option ℕ) → ((n : ℕ) → o ≡ Some n → n < length ms) → option_map (rank (ms ++ true ∷ [])) o ≡ option_map (rank ms) o
    by None h = refl
    by (Some n) h = ap (λ k. Some k) (rank-push ms true n (h n refl))

pub push_act-kept : (ms : List Bool) (acts : List Activity) (x : Activity) → length ms ≡ length acts
    → Each (λ b (y : Activity). (o : ℕ) → y.governed.owner ≡ Some o → o < length ms) acts
    → ((o : ℕ) → x.governed.owner ≡ Some o → o < length ms)
    → acts_kept (ms ++ true ∷ []) (acts ++ x ∷ []) ≡ acts_kept ms acts ++ governed_ranked ms x ∷ []
push_act-kept ms acts x wide each new =
    ap (map (governed_ranked (ms ++ true ∷ []))) (push-kept ms acts x wide)
    ∙ map_push (governed_ranked (ms ++ true ∷ [])) (kept ms acts) x
    ∙ (λ i. old ms acts each i ++ ranked_more ms x new i ∷ [])
  where
    old : (ns : List Bool) (ys : List Activity) → Each (λ b (y : Activity). (o : ℕ) → y.governed.owner ≡ Some o → o < length ms) ys
        → map (governed_ranked (ms ++ true ∷ [])) (kept ns ys) ≡ map (governed_ranked ms) (kept ns ys)
    old [] ys h = refl
    old (n ∷ ns) [] h = refl
    old (true ∷ ns) (y ∷ ys) h = λ i. ranked_more ms y (h 0 y refl) i ∷ old ns ys (λ b z at. h (suc b) z at) i
    old (false ∷ ns) (y ∷ ys) h = old ns ys (λ b z at. h (suc b) z at)

pub child-ranked : (m : ModuleValue) (ms : List Bool) (a : ℕ) (act : Activity) (unit : ℕ) (values : List Value)
    → child m (rank ms a) (governed_ranked ms act) unit values ≡ governed_ranked ms (child m a act unit values)
child-ranked m ms a act unit values = ap (λ g. record (child m a act unit values) { governed = g }) (by (act.opened == 0))
  where
    by : (b : Bool) → cond b (finish_ranked ms act.governed) (finish_ranked ms (innermost a act))
        ≡ finish_ranked ms (cond b act.governed (innermost a act))
    by true = refl
    by false = refl

-- ---- finishes

-- an activity there is one that is marked here
pub record IsOne (ms : List Bool) (acts : List Activity) (r : ℕ) (y : Activity) : Type 0 where
  pub number : ℕ
  pub act : Activity
  pub marked : IsMarked ms number
  pub ranks : rank ms number ≡ r
  pub found : slice_get acts number ≡ Some act
  pub is : governed_ranked ms act ≡ y

pub one_there : (ms : List Bool) (acts : List Activity) (r : ℕ) (y : Activity) → slice_get (acts_kept ms acts) r ≡ Some y
    → IsOne ms acts r y
one_there ms acts r y at = by (slice_get (kept ms acts) r) refl
  where
    as_kept : (o : Option Activity) → slice_get (kept ms acts) r ≡ o → option_map (governed_ranked ms) o ≡ Some y
    as_kept o e = sym (slice_get-map (governed_ranked ms) (kept ms acts) r ∙ ap (option_map (governed_ranked ms)) e) ∙ at

    by : (o : Option Activity) → slice_get (kept ms acts) r ≡ o → IsOne ms acts r y
    by None e = absurd (none-some y (as_kept None e))
    by (Some x) e =
        let k : IsKept ms acts r x = of_rank ms acts r x e in
        record {
          number = k.number;
          act = x;
          marked = k.marked;
          ranks = k.ranks;
          found = k.found;
          is = same_Some (governed_ranked ms x) y (as_kept (Some x) e);
        }

-- the marked activities are governed by finishes of marked ones
abbrev pub AreMarkedOwners : List Bool → List Activity → Type 0
AreMarkedOwners ms acts = Each (λ b (x : Activity). IsMarked ms b → (o : ℕ) → x.governed.owner ≡ Some o → IsMarked ms o) acts

module _ (ms : List Bool) (acts : List Activity) (wide : length ms ≡ length acts) (owned : AreOwned acts) (owners : AreMarkedOwners ms acts)
    (out : (b : ℕ) (x : Activity) → slice_get ms b ≡ Some false → slice_get acts b ≡ Some x → is_ended x.status ≡ true) where
  abbrev there : List Activity
  there = acts_kept ms acts

  -- the owner of a finish, by its rank
  owner_back : (p : Option ℕ) (r : ℕ) → option_map (rank ms) p ≡ Some r → (o : ℕ) × (p ≡ Some o) × (rank ms o ≡ r)
  owner_back None r h = absurd (none-some r h)
  owner_back (Some o) r h = (o, refl, same_Some (rank ms o) r h)

  owned_there : AreOwned there
  owned_there r y at q own =
      let k : IsOne ms acts r y = one_there ms acts r y at in
      let o = owner_back k.act.governed.owner q (ap (λ (z : Activity). z.governed.owner) k.is ∙ own) in
      let less : o.0 < k.number = owned k.number k.act k.found o.0 o.1 in
      let inside : k.number < length acts = slice_get_within acts k.number k.act k.found in
      let ranks : rank ms o.0 < rank ms k.number =
      rank_less ms o.0 k.number (owners k.number k.act k.found k.marked o.0 o.1) less (omega (arith, inside, wide)) in
      omega (arith, ranks, o.2, k.ranks)

  -- finishes of one rank are one
  finish_one : (f g : Finish) → ((o : ℕ) → f.owner ≡ Some o → IsMarked ms o) → ((o : ℕ) → g.owner ≡ Some o → IsMarked ms o)
      → finish_ranked ms f ≡ finish_ranked ms g → f ≡ g
  finish_one f g mf mg same =
      λ i. record { owner = by f.owner g.owner mf mg (ap (λ (z : Finish). z.owner) same) i; depth = (same i).depth }
    where
      by : (p q : Option ℕ) → ((o : ℕ) → p ≡ Some o → IsMarked ms o) → ((o : ℕ) → q ≡ Some o → IsMarked ms o)
          → option_map (rank ms) p ≡ option_map (rank ms) q → p ≡ q
      by None None h k e = refl
      by None (Some b) h k e = absurd (none-some _ e)
      by (Some a) None h k e = absurd (none-some _ (sym e))
      by (Some a) (Some b) h k e = ap (λ n. Some n) (one_rank ms a b (h a refl) (k b refl) (same_Some _ _ e))

  module _ (f : Finish) (mine : (o : ℕ) → f.owner ≡ Some o → IsMarked ms o) where
    -- a marked activity is under the finish there where it is here
    abbrev GoesUnder : ℕ → Type 0
    GoesUnder n = (b : ℕ) → b < n → (x : Activity) → IsMarked ms b → slice_get acts b ≡ Some x
        → (is_under acts f b ≡ true → is_under there (finish_ranked ms f) (rank ms b) ≡ true)
        × (is_under there (finish_ranked ms f) (rank ms b) ≡ true → is_under acts f b ≡ true)

    at_there : (b : ℕ) (x : Activity) → IsMarked ms b → slice_get acts b ≡ Some x
        → slice_get there (rank ms b) ≡ Some (governed_ranked ms x)
    at_there b x at found = act-kept ms acts b at ∙ ap (option_map (governed_ranked ms)) found

    goes_under : (n : ℕ) → GoesUnder n
    goes_under zero b less x at found = absurd (omega (arith, less))
    goes_under (suc n) b less x at found = (to (goes_under n), back (goes_under n))
      where
        owner_at : (o : ℕ) → x.governed.owner ≡ Some o → (y : Activity) × (slice_get acts o ≡ Some y)
        owner_at o own = get_inside acts o
            (let l = owned b x found o own in let i = slice_get_within acts b x found in omega (arith, l, i))

        to : GoesUnder n → is_under acts f b ≡ true → is_under there (finish_ranked ms f) (rank ms b) ≡ true
        to smaller under = elim (under_cases acts owned f b x found under) [
          | inl same ↦ under_governed there owned_there (finish_ranked ms f) (rank ms b) (governed_ranked ms x) (at_there b x at found)
              (ap (finish_ranked ms) same)
          | inr p ↦
              (let l = owned b x found p.0 p.1 in
              let y = owner_at p.0 p.1 in
              under_owner there owned_there (finish_ranked ms f) (rank ms b) (rank ms p.0) (governed_ranked ms x) (at_there b x at found)
              (ap (option_map (rank ms)) p.1)
              ((smaller p.0 (omega (arith, l, less)) y.0 (owners b x found at p.0 p.1) y.1).0 p.2))
        ]

        back : GoesUnder n → is_under there (finish_ranked ms f) (rank ms b) ≡ true → is_under acts f b ≡ true
        back smaller under = elim
            (under_cases there owned_there (finish_ranked ms f) (rank ms b) (governed_ranked ms x) (at_there b x at found) under) [
              | inl same ↦ under_governed acts owned f b x found (finish_one x.governed f (owners b x found at) mine same)
              | inr p ↦
                  (let o = owner_back x.governed.owner p.0 p.1 in
                  let l = owned b x found o.0 o.1 in
                  let y = owner_at o.0 o.1 in
                  under_owner acts owned f b o.0 x found o.1
                  ((smaller o.0 (omega (arith, l, less)) y.0 (owners b x found at o.0 o.1) y.1).1
                  (subst (λ z. is_under there (finish_ranked ms f) z ≡ true) (sym o.2) p.2)))
            ]

    -- who hasn't ended is marked
    alive_marked : (b : ℕ) (x : Activity) → slice_get acts b ≡ Some x → is_ended x.status ≡ false → IsMarked ms b
    alive_marked b x found alive = by (get_inside ms b (omega (arith, wide, slice_get_within acts b x found)))
      where
        by : (t : Bool) × (slice_get ms b ≡ Some t) → IsMarked ms b
        by (true, at) = at
        by (false, at) = absurd (true≢false (sym (out b x at found) ∙ alive))

    awaited_there : IsAwaited acts f → IsAwaited there (finish_ranked ms f)
    awaited_there i =
        let at : IsMarked ms i.b = alive_marked i.b i.act i.found i.alive in
        record {
          b = rank ms i.b;
          act = governed_ranked ms i.act;
          found = at_there i.b i.act at i.found;
          under = (goes_under (suc i.b) i.b (omega arith) i.act at i.found).0 i.under;
          alive = i.alive;
        }

    awaited_here : IsAwaited there (finish_ranked ms f) → IsAwaited acts f
    awaited_here i =
        let k : IsOne ms acts i.b i.act = one_there ms acts i.b i.act i.found in
        record {
          b = k.number;
          act = k.act;
          found = k.found;
          under = (goes_under (suc k.number) k.number (omega arith) k.act k.marked k.found).1
              (subst (λ z. is_under there (finish_ranked ms f) z ≡ true) (sym k.ranks) i.under);
          alive = ap (λ (z : Activity). is_ended z.status) k.is ∙ i.alive;
        }

    pub awaits-kept : awaits there (finish_ranked ms f) ≡ awaits acts f
    awaits-kept = same_test (awaits there (finish_ranked ms f)) (awaits acts f)
        (λ h. awaits_given acts f (awaited_here (awaited there (finish_ranked ms f) h)))
        (λ h. awaits_given there (finish_ranked ms f) (awaited_there (awaited acts f h)))

-- ---- the marked ones among the marked

ranked_twice : (gs ms : List Bool) → length gs ≡ length ms → AreFewer gs ms → (x : Activity)
    → governed_ranked (kept ms gs) (governed_ranked ms x) ≡ governed_ranked gs x
ranked_twice gs ms wide fewer x = ap (λ o. record x { governed = record x.governed { owner = o } }) (by x.governed.owner)
  where
    by : (o : Option ℕ) → option_map (rank (kept ms gs)) (option_map (rank ms) o) ≡ option_map (rank gs) o
    by None = refl
    by (Some n) = ap (λ k. Some k) (rank_twice gs ms n wide fewer)

acts_twice : (gs ms : List Bool) → length gs ≡ length ms → AreFewer gs ms → (acts : List Activity)
    → acts_kept (kept ms gs) (acts_kept ms acts) ≡ acts_kept gs acts
acts_twice gs ms wide fewer acts =
    ap (map (governed_ranked (kept ms gs))) (sym (map-kept (governed_ranked ms) (kept ms gs) (kept ms acts)))
    ∙ each (kept (kept ms gs) (kept ms acts)) ∙ ap (map (governed_ranked gs)) (kept_twice gs ms acts wide fewer)
  where
    each : (xs : List Activity) → map (governed_ranked (kept ms gs)) (map (governed_ranked ms) xs) ≡ map (governed_ranked gs) xs
    each [] = refl
    each (x ∷ xs) = λ i. ranked_twice gs ms wide fewer x i ∷ each xs i

clocks_twice : (gs ms : List Bool) → length gs ≡ length ms → AreFewer gs ms → (cs : List Clock)
    → map (clock_kept (kept ms gs)) (map (clock_kept ms) cs) ≡ map (clock_kept gs) cs
clocks_twice gs ms wide fewer [] = refl
clocks_twice gs ms wide fewer (c ∷ cs) =
    λ i. record c { standings = kept_twice gs ms c.standings wide fewer i } ∷ clocks_twice gs ms wide fewer cs i

-- who hasn't ended among the marked
going-kept : (ms : List Bool) (acts : List Activity) → going (acts_kept ms acts) ≡ kept ms (going acts)
going-kept ms acts = each (kept ms acts) ∙ map-kept (λ (x : Activity). not (is_ended x.status)) ms acts
  where
    each : (xs : List Activity) → going (map (governed_ranked ms) xs) ≡ going xs
    each [] = refl
    each (x ∷ xs) = ap (λ zs. not (is_ended x.status) ∷ zs) (each xs)

-- what is left of the marked ones is what is left of all, where all that haven't ended are marked
pub remains-kept : (ms : List Bool) (w : World) → length (going w.activities) ≡ length ms → AreFewer (going w.activities) ms
    → remains (with_only ms w) ≡ remains w
remains-kept ms w wide fewer =
    ap (λ gs. with_only gs (with_only ms w)) (going-kept ms w.activities)
    ∙ (λ i. record w {
      activities = acts_twice (going w.activities) ms wide fewer w.activities i;
      clocks = clocks_twice (going w.activities) ms wide fewer w.clocks i;
    })
