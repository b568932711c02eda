-- What is left of two worlds is alike if its parts are, rank by rank.
use Rattle.std.proofs.Common.{◌≡◌, ℕ, zero, suc, ◌+◌, ◌<◌, ◌≤◌, not, Bool, true, false, true≢false, ◌⊎◌, inl, inr, List, [], ◌∷◌, map}
use Rattle.std.proofs.Common.{length, Option, Some, None, option_map, get_or, ext_get_or, refl, sym, ap, ◌∙◌, subst, arith, slice_get}
use Rattle.std.proofs.Common.{Decides}
use Rattle.std.specs.Prelude.{option_and_then}
use Rattle.std.proofs.lemmas.List.{length-map}
use Rattle.std.proofs.lemmas.List.Sums.{sum_by-cons}
use Rattle.std.proofs.lemmas.Option.{slice_get-map, slice_get-get_or, slice_get_within, get_or_from_slice_get, same_Some, none-some}
use Rattle.xk_types.specs.declared.world.Standing.{Standing}
use Rattle.xk_types.specs.declared.world.Standing.TheVariants as standing
use Rattle.xk_types.specs.declared.world.Status.{Status}
use Rattle.xk_types.specs.declared.world.Status.TheVariants as status
use Rattle.xk_types.specs.Code.{ModuleValue}
use Rattle.xk_types.specs.World.{Frame, Finish, Activity, Clock, World, is_ended, standing_of}
use Rattle.xk_types.specs.Step.{is_under, innermost}
use Rattle.xk_types.proofs.ListLemmas.{get_inside}
use Rattle.xk_law_schedules.proofs.ReachabilityLemmas.{reached_scoped, reached_sound}
use Rattle.xk_law_schedules.proofs.ScopeLemmas.Invariant.{opened_in, opened_by}
use Rattle.xk_law_schedules.proofs.ScopeLemmas.FinishOwnerLemmas.{under_governed, under_cases, under_above}
use Rattle.xk_law_commute.specs.PlainWorlds.{plain_clock}
use Rattle.xk_law_commute.proofs.AwaitIndependenceLemmas.{same_or_not}
use Rattle.xk_liveness.specs.Liveness.{SlotTable, waiting, live_activity, frame_left, callers_left}
use Rattle.xk_closed.specs.Unread.{without_cells}
use Rattle.xk_activity.specs.Activities.{act_at, nobody}
use Rattle.xk_core.specs.Core.{IsCore, governor}
use Rattle.xk_core.specs.Alikeness.{IsAlikeClock, StandsAlike}
use Rattle.xk_digests.proofs.LikenessLemmas.{acts_same, same_acts}
use Rattle.xk_ranks.specs.Ranks.{kept, rank, governed_ranked, clock_kept, going, remains, AreAlikeByRank}
use Rattle.xk_ranks.proofs.RankListLemmas.{IsMarked, rank_less, one_rank}
use Rattle.xk_ranks.proofs.RankWorldLemmas.{act-kept, standing-kept, one_there}
use Rattle.xk_ranks.proofs.RankStepLaw.{IsFit, marked_alive}
use Rattle.xk_ranks.proofs.RankLaw.{reached_fit, marked_act, alive_marked, live_by_rank}
use Rattle.xk_rank_digests.specs.Numbers.{IsOfRank}
use Rattle.xk_rank_digests.specs.RankLikeness.{IsInnermost, IsLeftAlike, AreSameByRank, AreSameAtRank, AreActsAlike, HaveAsMany}
use Rattle.xk_rank_digests.specs.RankLikeness.{AreToldAlike}
use Rattle.xk_rank_digests.proofs.RootLemmas.{reached_rooted}

-- what holds of each below a number, and of it, holds of each below the next
pub below_more : (P : ℕ → Type 0) (n : ℕ) → ((k : ℕ) → k < n → P k) → P n → (k : ℕ) → k < n + 1 → P k
below_more P n before here k less = elim (same_or_not k n) [
  | inl same ↦ subst P (sym same) here
  | inr differs ↦ before k (omega (arith, less, differs))
]

-- ---- numbers

-- as many are kept as are marked
many_kept : {X : Type 0} (ms : List Bool) (xs : List X) → length ms ≡ length xs → length (kept ms xs) ≡ rank ms (length ms)
many_kept [] xs h = refl
many_kept (b ∷ ms) [] h = absurd (omega (arith, h))
many_kept (true ∷ ms) (x ∷ xs) h = ap suc (many_kept ms xs (omega (arith, h)))
many_kept (false ∷ ms) (x ∷ xs) h = many_kept ms xs (omega (arith, h))

pub many_left : (w : World) → length (remains w).activities ≡ rank (going w.activities) (length (going w.activities))
many_left w = length-map (kept (going w.activities) w.activities) (governed_ranked (going w.activities))
    ∙ many_kept (going w.activities) w.activities (length-map w.activities (λ (x : Activity). not (is_ended x.status)))

-- who is marked is there
pub marked_there : (w : World) (a r : ℕ) → IsOfRank (going w.activities) a r → a < length w.activities
marked_there w a r of =
    let x = marked_act w.activities a true of.marked in slice_get_within w.activities a x.0 x.1

-- the activity of a rank
act_left : (w : World) (a : ℕ) → IsMarked (going w.activities) a
    → act_at (remains w).activities (rank (going w.activities) a) ≡ governed_ranked (going w.activities) (act_at w.activities a)
act_left w a at =
    let x = marked_act w.activities a true at in
    get_or_from_slice_get (remains w).activities (rank (going w.activities) a) (governed_ranked (going w.activities) x.0) nobody
    (act-kept (going w.activities) w.activities a at ∙ ap (option_map (governed_ranked (going w.activities))) x.1)
    ∙ ap (governed_ranked (going w.activities)) (sym (get_or_from_slice_get w.activities a x.0 nobody x.1))

-- ---- finishes

-- who is under the innermost finish of the owner is governed by it
pub innermost_told : (m : ModuleValue) (w : World) (a o : ℕ) → IsCore m w → a < length w.activities
    → (act_at w.activities a).governed.owner ≡ Some o
    → (b : Bool) → b ≡ is_under w.activities (innermost o (act_at w.activities o)) a
    → Decides b (IsInnermost w (act_at w.activities a))
innermost_told m w a o core inside own b is = (
  λ h k q. by k q (under_cases w.activities owned f a x there (sym is ∙ h)),
  λ h. is ∙ under_governed w.activities owned f a x there
      (λ i. record { owner = own i; depth = h o own i }),
)
  where
    x : Activity
    x = act_at w.activities a

    there : slice_get w.activities a ≡ Some x
    there = slice_get-get_or w.activities a nobody inside

    f : Finish
    f = innermost o (act_at w.activities o)

    owned : (b : ℕ) (y : Activity) → slice_get w.activities b ≡ Some y → (c : ℕ) → y.governed.owner ≡ Some c → c < b
    owned = (reached_fit m core.limits core.accepted w core.reached).owned

    by : (k : ℕ) → x.governed.owner ≡ Some k
        → (x.governed ≡ f) ⊎ ((c : ℕ) × (x.governed.owner ≡ Some c) × (is_under w.activities f c ≡ true))
        → x.governed.depth ≡ (act_at w.activities k).opened
    by k q (inl same) = ap (λ (g : Finish). g.depth) same
        ∙ ap (λ c. (act_at w.activities c).opened) (same_Some o k (sym own ∙ q))
    by k q (inr p) =
        let c : p.0 ≡ o = same_Some p.0 o (sym p.1 ∙ own) in
        let less : p.0 < a = owned a x there p.0 p.1 in
        let y = get_inside w.activities p.0 (omega (arith, less, inside)) in
        let above : o < p.0 = under_above w.activities owned f (suc p.0) p.0 o (omega arith) refl y.0 y.1 p.2 in
        absurd (omega (arith, c, above))

-- ---- one activity

-- the same at a rank
abbrev IsSameAt : SlotTable → World → World → ℕ → Type 0
IsSameAt live w v r = live_activity live (act_at (remains w).activities r) ≡ live_activity live (act_at (remains v).activities r)

waiting_opened : (m : ModuleValue) (live : SlotTable) (fs : List Frame) → opened_by m (map (waiting live) fs) ≡ opened_by m fs
waiting_opened m live [] = refl
waiting_opened m live (f ∷ fs) =
    let one = sum_by-cons (opened_in m) (waiting live f) (map (waiting live) fs) in
    let two = sum_by-cons (opened_in m) f fs in
    let rest = waiting_opened m live fs in
    let here : opened_in m (waiting live f) ≡ opened_in m f = refl in
    omega (arith, one, two, rest, here)

-- who stands at the same places has as many finishes open
opened_left : (m : ModuleValue) (live : SlotTable) (st : Status) (f g : Frame) (fs gs : List Frame) → is_ended st ≡ false
    → frame_left live st f ≡ frame_left live st g → callers_left live st fs ≡ callers_left live st gs
    → opened_by m (f ∷ fs) ≡ opened_by m (g ∷ gs)
opened_left m live st f g fs gs alive p q = by st alive p q
  where
    both : opened_in m f ≡ opened_in m g → opened_by m fs ≡ opened_by m gs → opened_by m (f ∷ fs) ≡ opened_by m (g ∷ gs)
    both h k = omega (arith, h, k, sum_by-cons (opened_in m) f fs, sum_by-cons (opened_in m) g gs)

    rest : map (waiting live) fs ≡ map (waiting live) gs → opened_by m fs ≡ opened_by m gs
    rest h = sym (waiting_opened m live fs) ∙ ap (opened_by m) h ∙ waiting_opened m live gs

    by : (s : Status) → is_ended s ≡ false → frame_left live s f ≡ frame_left live s g → callers_left live s fs ≡ callers_left live s gs
        → opened_by m (f ∷ fs) ≡ opened_by m (g ∷ gs)
    by status.Running h k l = both (ap (opened_in m) k) (rest l)
    by status.Arrived h k l = both (ap (opened_in m) k) (rest l)
    by status.Ended h k l = absurd (true≢false h)

module _ (m : ModuleValue) (live : SlotTable) (w v : World) (one : IsCore m w) (two : IsCore m v) (r a b : ℕ)
    (here : IsOfRank (going w.activities) a r) (there : IsOfRank (going v.activities) b r) where
  abbrev x : Activity
  x = act_at w.activities a

  abbrev y : Activity
  y = act_at v.activities b

  at_x : slice_get w.activities a ≡ Some x
  at_x = slice_get-get_or w.activities a nobody (marked_there w a r here)

  at_y : slice_get v.activities b ≡ Some y
  at_y = slice_get-get_or v.activities b nobody (marked_there v b r there)

  left_x : act_at (remains w).activities r ≡ governed_ranked (going w.activities) x
  left_x = ap (act_at (remains w).activities) (sym here.ranks) ∙ act_left w a here.marked

  left_y : act_at (remains v).activities r ≡ governed_ranked (going v.activities) y
  left_y = ap (act_at (remains v).activities) (sym there.ranks) ∙ act_left v b there.marked

  -- the owners are alike before these
  depths : ((k : ℕ) → k < r → IsSameAt live w v k) → AreSameByRank live w a v b → x.governed.depth ≡ y.governed.depth
  depths before s = by x.governed.owner y.governed.owner refl refl s.1.0
    where
      by : (p q : Option ℕ) → x.governed.owner ≡ p → y.governed.owner ≡ q
          → option_map (rank (going w.activities)) p ≡ option_map (rank (going v.activities)) q → x.governed.depth ≡ y.governed.depth
      by None None e f h = reached_rooted m w one.reached a x at_x e ∙ sym (reached_rooted m v two.reached b y at_y f)
      by None (Some p) e f h = absurd (none-some _ h)
      by (Some o) None e f h = absurd (none-some _ (sym h))
      by (Some o) (Some p) e f h =
          let fit : IsFit w = reached_fit m one.limits one.accepted w one.reached in
          let fit_v : IsFit v = reached_fit m two.limits two.accepted v two.reached in
          let same : rank (going w.activities) o ≡ rank (going v.activities) p = same_Some _ _ h in
          let mine : IsMarked (going w.activities) o = fit.owners a x at_x here.marked o e in
          let theirs : IsMarked (going v.activities) p = fit_v.owners b y at_y there.marked p f in
          let less : o < a = fit.owned a x at_x o e in
          let within : a < length w.activities = marked_there w a r here in
          let long : length (going w.activities) ≡ length w.activities =
          length-map w.activities (λ (z : Activity). not (is_ended z.status)) in
          let below : rank (going w.activities) o < rank (going w.activities) a =
          rank_less (going w.activities) o a mine less (omega (arith, within, long)) in
          let is : rank (going w.activities) a ≡ r = here.ranks in
          let alike : IsSameAt live w v (rank (going w.activities) o) = before (rank (going w.activities) o) (omega (arith, below, is)) in
          s.1.1 o e
          ∙ ap (λ (z : Activity). z.opened) (sym (act_left w o mine)) ∙ ap (λ (z : Activity). z.opened) alike
          ∙ ap (λ k. (act_at (remains v).activities k).opened) same ∙ ap (λ (z : Activity). z.opened) (act_left v p theirs)
          ∙ sym (s.1.2 p f)

  opens : AreSameByRank live w a v b → x.opened ≡ y.opened
  opens s =
      let alive : is_ended x.status ≡ false = alive_marked w.activities a x at_x here.marked in
      ((reached_scoped m one.limits one.accepted w one.reached).activities a x at_x).opened
      ∙ opened_left m live x.status x.frame y.frame x.callers y.callers alive s.2.0 s.2.1
      ∙ sym ((reached_scoped m two.limits two.accepted v two.reached).activities b y at_y).opened

  same_at : ((k : ℕ) → k < r → IsSameAt live w v k) → AreSameByRank live w a v b → IsSameAt live w v r
  same_at before s =
      let frames : frame_left live x.status x.frame ≡ frame_left live y.status y.frame =
      s.2.0 ∙ ap (λ st. frame_left live st y.frame) s.0 in
      let calls : callers_left live x.status x.callers ≡ callers_left live y.status y.callers =
      s.2.1 ∙ ap (λ st. callers_left live st y.callers) s.0 in
      let deep : x.governed.depth ≡ y.governed.depth = depths before s in
      let many : x.opened ≡ y.opened = opens s in
      let own : option_map (rank (going w.activities)) x.governed.owner ≡ option_map (rank (going v.activities)) y.governed.owner = s.1.0 in
      ap (live_activity live) left_x
      ∙ (λ i. record {
        frame = frames i;
        callers = calls i;
        status = s.0 i;
        since = 0;
        opened = many i;
        governed = record { owner = own i; depth = deep i };
      })
      ∙ ap (live_activity live) (sym left_y)

  at_same : IsSameAt live w v r → IsInnermost w x → IsInnermost v y → AreSameByRank live w a v b
  at_same alike p q =
      let h : live_activity live (governed_ranked (going w.activities) x) ≡ live_activity live (governed_ranked (going v.activities) y) =
      ap (live_activity live) (sym left_x) ∙ alike ∙ ap (live_activity live) left_y in
      let st : x.status ≡ y.status = ap (λ (z : Activity). z.status) h in (
        st,
        (ap (λ (z : Activity). z.governed.owner) h, p, q),
        (
          ap (λ (z : Activity). z.frame) h ∙ ap (λ s. frame_left live s y.frame) (sym st),
          ap (λ (z : Activity). z.callers) h ∙ ap (λ s. callers_left live s y.callers) (sym st),
        ),
      )

-- ---- all activities

-- there is one of each rank
of_each_rank : (w : World) (r : ℕ) → r < length (remains w).activities → (a : ℕ) × IsOfRank (going w.activities) a r
of_each_rank w r inside =
    let x = get_inside (remains w).activities r inside in
    let k = one_there (going w.activities) w.activities r x.0 x.1 in
    (k.number, record { marked = k.marked; ranks = k.ranks })

-- and each has one
rank_inside : (w : World) (a r : ℕ) → IsOfRank (going w.activities) a r → r < length (remains w).activities
rank_inside w a r of =
    let within = marked_there w a r of in
    let long = length-map w.activities (λ (x : Activity). not (is_ended x.status)) in
    let less : rank (going w.activities) a < rank (going w.activities) (length (going w.activities)) =
    rank_less (going w.activities) a (length (going w.activities)) of.marked (omega (arith, within, long)) (omega arith) in
    let many = many_left w in
    let is = of.ranks in
    omega (arith, less, many, is)

alive_at : (w : World) (a r : ℕ) → IsOfRank (going w.activities) a r
    → (slice_get w.activities a ≡ Some (act_at w.activities a)) × (is_ended (act_at w.activities a).status ≡ false)
alive_at w a r of =
    let found = slice_get-get_or w.activities a nobody (marked_there w a r of) in
    (found, alive_marked w.activities a (act_at w.activities a) found of.marked)

module _ (m : ModuleValue) (live : SlotTable) (w v : World) (one : IsCore m w) (two : IsCore m v)
    (many : length (remains v).activities ≡ length (remains w).activities) where
  same_below : ((k : ℕ) → k < length (remains w).activities → AreSameAtRank live w v k) → (n : ℕ) → n ≤ length (remains w).activities
      → (k : ℕ) → k < n → IsSameAt live w v k
  same_below each zero most k less = absurd (omega (arith, less))
  same_below each (suc n) most k less = elim (same_or_not k n) [
    | inl same ↦
        (let a = of_each_rank w n (omega (arith, most)) in
        let b = of_each_rank v n (omega (arith, most, many)) in
        subst (IsSameAt live w v) (sym same)
        (same_at m live w v one two n a.0 b.0 a.1 b.1 (same_below each n (omega (arith, most)))
        (each n (omega (arith, most)) a.0 b.0 a.1 b.1)))
    | inr differs ↦ same_below each n (omega (arith, most)) k (omega (arith, less, differs))
  ]

  pub acts_alike : ((k : ℕ) → k < length (remains w).activities → AreSameAtRank live w v k) → AreActsAlike live w v
  acts_alike each = (
    acts_same live (remains w).activities (remains v).activities many
        (same_below each (length (remains w).activities) (omega arith)),
    (λ b x found alive.
        (let of : IsOfRank (going w.activities) b (rank (going w.activities) b) =
        record { marked = marked_alive w.activities b x found alive; ranks = refl } in
        let inside = rank_inside w b (rank (going w.activities) b) of in
        let c = of_each_rank v (rank (going w.activities) b) (omega (arith, inside, many)) in
        subst (IsInnermost w) (get_or_from_slice_get w.activities b x nobody found)
        (each (rank (going w.activities) b) inside b c.0 of c.1).1.1)),
    (λ b x found alive.
        (let of : IsOfRank (going v.activities) b (rank (going v.activities) b) =
        record { marked = marked_alive v.activities b x found alive; ranks = refl } in
        let inside = rank_inside v b (rank (going v.activities) b) of in
        let c = of_each_rank w (rank (going v.activities) b) (omega (arith, inside, many)) in
        subst (IsInnermost v) (get_or_from_slice_get v.activities b x nobody found)
        (each (rank (going v.activities) b) (omega (arith, inside, many)) c.0 b c.1 of).1.2)),
  )

  pub alike_acts : AreActsAlike live w v → (k : ℕ) → AreSameAtRank live w v k
  alike_acts h k a b here there =
      let x = alive_at w a k here in
      let y = alive_at v b k there in
      at_same m live w v one two k a b here there
      (same_acts live (remains w).activities (remains v).activities k h.0 (rank_inside w a k here) (rank_inside v b k there))
      (h.1 a (act_at w.activities a) x.0 x.1) (h.2 b (act_at v.activities b) y.0 y.1)

-- those of a rank are told by the one activity that has it in each world
pub at_rank : (live : SlotTable) (w v : World) (r a b : ℕ) → IsOfRank (going w.activities) a r → IsOfRank (going v.activities) b r
    → (p : Bool) → Decides p (AreSameByRank live w a v b) → Decides p (AreSameAtRank live w v r)
at_rank live w v r a b here there p d = (
  λ yes c e hc he. (let i : a ≡ c = one_rank (going w.activities) a c here.marked hc.marked (here.ranks ∙ sym hc.ranks) in
      let j : b ≡ e = one_rank (going v.activities) b e there.marked he.marked (there.ranks ∙ sym he.ranks) in
      subst (λ n. AreSameByRank live w n v e) i (subst (λ n. AreSameByRank live w a v n) j (d.0 yes))),
  λ h. d.1 (h a b here there),
)

-- ---- clocks

-- where the activity of a rank stands
standing_left : (w : World) (k a r : ℕ) (s : Standing) → IsOfRank (going w.activities) a r
    → option_map (λ (c : Clock). standing_of c a) (slice_get w.clocks k) ≡ Some s
    → option_map (λ (c : Clock). standing_of c r) (slice_get (remains w).clocks k) ≡ Some s
standing_left w k a r s of h =
    ap (option_map (λ (c : Clock). standing_of c r)) (slice_get-map (clock_kept (going w.activities)) w.clocks k)
    ∙ by (slice_get w.clocks k) ∙ h
  where
    by : (o : Option Clock) → option_map (λ (c : Clock). standing_of c r) (option_map (clock_kept (going w.activities)) o)
        ≡ option_map (λ (c : Clock). standing_of c a) o
    by None = refl
    by (Some c) = ap (λ t. Some t)
        (ap (standing_of (clock_kept (going w.activities) c)) (sym of.ranks) ∙ standing-kept (going w.activities) a c of.marked)

-- standings at a rank are the same, or aren't
pub stand_decided : (w v : World) (k a b r : ℕ) (s t : Standing) → IsOfRank (going w.activities) a r → IsOfRank (going v.activities) b r
    → option_map (λ (c : Clock). standing_of c a) (slice_get w.clocks k) ≡ Some s
    → option_map (λ (c : Clock). standing_of c b) (slice_get v.clocks k) ≡ Some t
    → (p : Bool) → Decides p (s ≡ t) → Decides p (StandsAlike (remains w) (remains v) k r)
stand_decided w v k a b r s t here there hs ht p d = (
  λ yes. standing_left w k a r s here hs ∙ ap (λ q. Some q) (d.0 yes) ∙ sym (standing_left v k b r t there ht),
  λ h. d.1 (same_Some s t (sym (standing_left w k a r s here hs) ∙ h ∙ standing_left v k b r t there ht)),
)

abbrev no_clock : Clock
no_clock = record { phase = 0; last = 0; standings = [] }

clock_at : (w : World) (k : ℕ) → k < length w.clocks
    → slice_get (remains w).clocks k ≡ Some (clock_kept (going w.activities) (get_or w.clocks k no_clock))
clock_at w k inside = slice_get-map (clock_kept (going w.activities)) w.clocks k
    ∙ ap (option_map (clock_kept (going w.activities))) (slice_get-get_or w.clocks k no_clock inside)

standings_many : (m : ModuleValue) (w : World) (k : ℕ) → IsCore m w → k < length w.clocks
    → length (kept (going w.activities) (get_or w.clocks k no_clock).standings) ≡ length (remains w).activities
standings_many m w k core inside =
    let s = (reached_sound m core.limits core.accepted w core.reached).clocks k (get_or w.clocks k no_clock)
    (slice_get-get_or w.clocks k no_clock inside) in
    many_kept (going w.activities) (get_or w.clocks k no_clock).standings
    (length-map w.activities (λ (x : Activity). not (is_ended x.status)) ∙ sym s.width) ∙ sym (many_left w)

pub clock_left : (m n : ModuleValue) (w v : World) (k : ℕ) → IsCore m w → IsCore n v
    → length (remains v).activities ≡ length (remains w).activities → k < length w.clocks → k < length v.clocks
    → ((r : ℕ) → r < length (remains w).activities → StandsAlike (remains w) (remains v) k r) → IsAlikeClock (remains w) (remains v) k
clock_left m n w v k one two many here there each =
    let c : Clock = clock_kept (going w.activities) (get_or w.clocks k no_clock) in
    let d : Clock = clock_kept (going v.activities) (get_or v.clocks k no_clock) in
    let p : length c.standings ≡ length (remains w).activities = standings_many m w k one here in
    let q : length d.standings ≡ length (remains v).activities = standings_many n v k two there in
    ap (option_map plain_clock) (clock_at w k here)
    ∙ ap (λ l. Some (record (plain_clock c) { standings = l })) (ext_get_or standing.Apart c.standings d.standings (p ∙ sym many ∙ sym q)
    (λ r lt. same_Some (standing_of c r) (standing_of d r)
    (sym (ap (option_map (λ (z : Clock). standing_of z r)) (clock_at w k here))
    ∙ each r (omega (arith, lt, p))
    ∙ ap (option_map (λ (z : Clock). standing_of z r)) (clock_at v k there))))
    ∙ sym (ap (option_map plain_clock) (clock_at v k there))

-- on a clock that is the same each stands as there
pub stands_of_clock : (w v : World) (k r : ℕ) → IsAlikeClock (remains w) (remains v) k → StandsAlike (remains w) (remains v) k r
stands_of_clock w v k r h = by (slice_get (remains w).clocks k) (slice_get (remains v).clocks k) h
  where
    by : (o q : Option Clock) → option_map plain_clock o ≡ option_map plain_clock q
        → option_map (λ (c : Clock). standing_of c r) o ≡ option_map (λ (c : Clock). standing_of c r) q
    by None None e = refl
    by None (Some d) e = absurd (none-some _ e)
    by (Some c) None e = absurd (none-some _ (sym e))
    by (Some c) (Some d) e = ap (λ (z : Clock). Some (standing_of z r)) (same_Some (plain_clock c) (plain_clock d) e)

-- ---- the whole

pub left_alike : (live : SlotTable) (w v : World) → HaveAsMany w v
    → map plain_clock (remains w).clocks ≡ map plain_clock (remains v).clocks → AreActsAlike live w v
    → IsLeftAlike live (without_cells w) (without_cells v)
left_alike live w v many clocks acts = (
  (λ i. record { activities = acts.0 i; clocks = clocks i; cells = []; steps = 0; arguments = many.2 i }),
  acts.1,
  acts.2,
)

pub left_acts : (live : SlotTable) (w v : World) → IsLeftAlike live (without_cells w) (without_cells v) → AreActsAlike live w v
left_acts live w v h = (ap (λ (z : World). z.activities) h.0, h.1, h.2)

pub left_clocks : (live : SlotTable) (w v : World) → IsLeftAlike live (without_cells w) (without_cells v)
    → map plain_clock (remains w).clocks ≡ map plain_clock (remains v).clocks
left_clocks live w v h = ap (λ (z : World). z.clocks) h.0

pub left_many : (live : SlotTable) (w v : World) → IsLeftAlike live (without_cells w) (without_cells v) → HaveAsMany w v
left_many live w v h = (
  sym (length-map (remains w).activities (live_activity live)) ∙ ap (λ (z : World). length z.activities) h.0
      ∙ length-map (remains v).activities (live_activity live),
  sym (length-map w.clocks (clock_kept (going w.activities))) ∙ sym (length-map (remains w).clocks plain_clock)
      ∙ ap (λ (z : World). length z.clocks) h.0
      ∙ length-map (remains v).clocks plain_clock ∙ length-map v.clocks (clock_kept (going v.activities)),
  ap (λ (z : World). z.arguments) h.0,
)

-- as many clocks are there as in the world
pub clocks_left : (w : World) → length (remains w).clocks ≡ length w.clocks
clocks_left w = length-map w.clocks (clock_kept (going w.activities))

-- worlds that are told alike are so by rank
pub told_by_rank : (live : SlotTable) (w v : World) → AreToldAlike live w v → AreAlikeByRank live w v
told_by_rank live w v (inl h) = live_by_rank live w v h
told_by_rank live w v (inr h) = h.0

pub told_turned : (live : SlotTable) (w v : World) → AreToldAlike live w v → AreToldAlike live v w
told_turned live w v (inl h) = inl (sym h)
told_turned live w v (inr h) = inr (sym h.0, h.2, h.1)

-- ---- who owns

pub governor_is : (w : World) (a : ℕ) → a < length w.activities → governor w a ≡ (act_at w.activities a).governed.owner
governor_is w a inside = ap (option_and_then (λ (x : Activity). x.governed.owner)) (slice_get-get_or w.activities a nobody inside)

pub owner_inside : (m : ModuleValue) (w : World) (a o : ℕ) → IsCore m w → a < length w.activities
    → (act_at w.activities a).governed.owner ≡ Some o → o < length w.activities
owner_inside m w a o core inside own =
    let less : o < a = (reached_fit m core.limits core.accepted w core.reached).owned a (act_at w.activities a)
    (slice_get-get_or w.activities a nobody inside) o own in
    omega (arith, less, inside)
