-- Worlds that are alike by rank, but for shared numbers that nobody can read any more, go on alike.
use Rattle.std.proofs.Common.{◌≡◌, ℕ, ℤ, pos, suc, zero, ◌⊎◌, inl, inr, ◌&&◌, ◌||◌, not, Bool, true, false, true≢false, List, [], ◌∷◌}
use Rattle.std.proofs.Common.{map, length, cond, ◌+◌, Option, Some, None, refl, sym, ap, ◌∙◌, subst, arith}
use Rattle.std.specs.Prelude.{slice_get}
use Rattle.std.specs.List.{list_any}
use Rattle.std.proofs.lemmas.Option.{none-some, same_Some}
use Rattle.std.proofs.lemmas.List.{length-map}
use Rattle.xk_types.specs.declared.instr.Instr.{Instr}
use Rattle.xk_types.specs.declared.instr.Instr.TheVariants as instr
use Rattle.xk_types.specs.declared.world.Event.{Event}
use Rattle.xk_types.specs.declared.world.Status.{Status}
use Rattle.xk_types.specs.declared.world.Status.TheVariants as status
use Rattle.xk_types.specs.Acceptance.{IsAccepted}
use Rattle.xk_types.specs.Code.{ModuleValue, IsWithinLimits}
use Rattle.xk_types.specs.World.{Frame, Activity, World, is_ended}
use Rattle.xk_types.specs.Step.{Stepped, step}
use Rattle.xk_types.specs.Schedule.{IsReached, all_ended, is_enabled, is_step}
use Rattle.xk_types.proofs.ListLemmas.{any_given, any_found}
use Rattle.xk_law_schedules.proofs.ReachabilityLemmas.{reached_step}
use Rattle.xk_law_commute.specs.PlainWorlds.{AreAlike}
use Rattle.xk_law_commute.proofs.ChangeSquareLemmas.{found_of}
use Rattle.xk_law_commute.proofs.QuietStepLaw.{enabled_step}
use Rattle.xk_liveness.specs.Liveness.{SlotTable, AreAlikeWhereLive, waiting, live_activity, live_part}
use Rattle.xk_liveness.proofs.LivenessLaw.{dead_slots}
use Rattle.xk_liveness.proofs.LiveNameLaw.{names_live}
use Rattle.xk_closed.specs.Closed.{IsCarried}
use Rattle.xk_closed.specs.Footprints.{Table, RestOf, MayDo}
use Rattle.xk_closed.specs.Unread.{IsUnread, AreAlikeButUnread, without_cells}
use Rattle.xk_closed.proofs.UnreadLaw.{unread_step}
use Rattle.xk_ranks.specs.Ranks.{kept, rank, governed_ranked, going, remains, AreAlikeByRank, HaveOneRank, StandAlike}
use Rattle.xk_ranks.specs.Reads.{TellsReads, frames_read, may_read, is_read, marked, read_part}
use Rattle.xk_ranks.specs.Reads.{Counting, IsCounting, AreAlikeByReads, GoOnByReads, AreReachedByReads}
use Rattle.xk_ranks.proofs.RankListLemmas.{IsMarked, any-kept}
use Rattle.xk_ranks.proofs.RankWorldLemmas.{one_there}
use Rattle.xk_ranks.proofs.RankStepLaw.{mark_of}
use Rattle.xk_ranks.proofs.RankLaw.{there_step, back_step, step_marked, live_by_rank, rank_ends, one_number, one_turned, next_alike}

-- ---- numbers that are marked

one_marked : (p q : Bool) (n k : ℤ) → p ≡ q → (q ≡ true → n ≡ k) → cond p n (pos 0) ≡ cond q k (pos 0)
one_marked true true n k h same = same refl
one_marked true false n k h same = absurd (true≢false h)
one_marked false true n k h same = absurd (true≢false (sym h))
one_marked false false n k h same = refl

same_marked : (f g : ℕ → Bool) (xs ys : List ℤ) → length xs ≡ length ys → ((s : ℕ) → f s ≡ g s)
    → ((s : ℕ) → g s ≡ true → slice_get xs s ≡ slice_get ys s) → marked f xs ≡ marked g ys
same_marked f g [] [] many marks same = refl
same_marked f g [] (y ∷ ys) many marks same = absurd (omega (arith, many))
same_marked f g (x ∷ xs) [] many marks same = absurd (omega (arith, many))
same_marked f g (x ∷ xs) (y ∷ ys) many marks same =
    ap (λ n. n ∷ marked (λ s. f (suc s)) xs) (one_marked (f 0) (g 0) x y (marks 0) (λ h. same_Some x y (same 0 h)))
    ∙ ap (λ ns. cond (g 0) y (pos 0) ∷ ns)
    (same_marked (λ s. f (suc s)) (λ s. g (suc s)) xs ys (omega (arith, many)) (λ s. marks (suc s)) (λ s. same (suc s)))

pub marked_many : (f : ℕ → Bool) (xs : List ℤ) → length (marked f xs) ≡ length xs
marked_many f [] = refl
marked_many f (x ∷ xs) = ap suc (marked_many (λ s. f (suc s)) xs)

-- a number that is marked is as it was
marked_same : (f : ℕ → Bool) (xs : List ℤ) (s : ℕ) → f s ≡ true → slice_get (marked f xs) s ≡ slice_get xs s
marked_same f [] s h = refl
marked_same f (x ∷ xs) zero h = ap (λ p. Some (cond p x (pos 0))) h
marked_same f (x ∷ xs) (suc s) h = marked_same (λ k. f (suc k)) xs s h

-- ---- who may read a number

or_same : (p q r t : Bool) → p ≡ r → q ≡ t → (p || q) ≡ (r || t)
or_same p q r t h g = ap (λ b. b || q) h ∙ ap (λ b. r || b) g

module _ (rest : Table) (s : ℕ) where
  frames_left : (live : SlotTable) (fs : List Frame) → frames_read rest s (map (waiting live) fs) ≡ frames_read rest s fs
  frames_left live [] = refl
  frames_left live (f ∷ fs) = ap (λ b. rest f.unit (f.place + 1) (instr.Get 0 s) || b) (frames_left live fs)

  -- dead slots don't count for it
  may_left : (live : SlotTable) (x : Activity) → may_read rest s (live_activity live x) ≡ may_read rest s x
  may_left live x = by x.status
    where
      by : (st : Status) → may_read rest s (live_activity live (record x { status = st })) ≡ may_read rest s (record x { status = st })
      by status.Running = ap (λ b. rest x.frame.unit x.frame.place (instr.Get 0 s) || b) (frames_left live x.callers)
      by status.Arrived = ap (λ b. rest x.frame.unit x.frame.place (instr.Get 0 s) || b) (frames_left live x.callers)
      by status.Ended = refl

  read_left : (live : SlotTable) (xs : List Activity) → is_read rest (map (live_activity live) xs) s ≡ is_read rest xs s
  read_left live [] = refl
  read_left live (x ∷ xs) = or_same (may_read rest s (live_activity live x)) (is_read rest (map (live_activity live) xs) s)
      (may_read rest s x) (is_read rest xs s) (may_left live x) (read_left live xs)

  -- nor do those that have ended
  read_remains : (w : World) → is_read rest (remains w).activities s ≡ is_read rest w.activities s
  read_remains w = each (kept (going w.activities) w.activities)
      ∙ any-kept (may_read rest s) (going w.activities) w.activities (length-map w.activities (λ (x : Activity). not (is_ended x.status))) over
    where
      each : (xs : List Activity) → is_read rest (map (governed_ranked (going w.activities)) xs) s ≡ is_read rest xs s
      each [] = refl
      each (x ∷ xs) = ap (λ b. may_read rest s x || b) (each xs)

      over : (b : ℕ) (x : Activity) → slice_get (going w.activities) b ≡ Some false → slice_get w.activities b ≡ Some x
          → may_read rest s x ≡ false
      over b x out there = ap (λ p. p && (rest x.frame.unit x.frame.place (instr.Get 0 s) || frames_read rest s x.callers))
          (same_Some (not (is_ended x.status)) false (sym (mark_of w.activities b x there) ∙ out))

  -- who may read it does so by the table
  frames_may : (fs : List Frame) → frames_read rest s fs ≡ true → RestOf rest fs (instr.Get 0 s)
  frames_may [] h = absurd (true≢false (sym h))
  frames_may (f ∷ fs) h = by (rest f.unit (f.place + 1) (instr.Get 0 s)) refl h (λ g. frames_may fs g)
    where
      by : (p : Bool) → rest f.unit (f.place + 1) (instr.Get 0 s) ≡ p → (p || frames_read rest s fs) ≡ true
          → (frames_read rest s fs ≡ true → RestOf rest fs (instr.Get 0 s)) → RestOf rest (f ∷ fs) (instr.Get 0 s)
      by true is g behind = inl is
      by false is g behind = inr (behind g)

  may : (x : Activity) → may_read rest s x ≡ true → (is_ended x.status ≡ false) × MayDo rest x (instr.Get 0 s)
  may x h = by (is_ended x.status) (rest x.frame.unit x.frame.place (instr.Get 0 s)) refl refl h
    where
      by : (p q : Bool) → is_ended x.status ≡ p → rest x.frame.unit x.frame.place (instr.Get 0 s) ≡ q
          → (not p && (q || frames_read rest s x.callers)) ≡ true → (is_ended x.status ≡ false) × MayDo rest x (instr.Get 0 s)
      by true q over is g = absurd (true≢false (sym g))
      by false true alive is g = (alive, inl is)
      by false false alive is g = (alive, inr (frames_may x.callers g))

  -- so what is read isn't unread
  not_unread : (w : World) → is_read rest w.activities s ≡ true → IsUnread rest w s → ⊥
  not_unread w h none =
      let k = any_found (may_read rest s) w.activities h in
      let reads = may k.1 k.3 in
      none k.0 0 k.1 k.2 reads.0 reads.1

  module _ (tells : TellsReads rest) where
    or_true : (p q : Bool) → (p ≡ true) ⊎ (q ≡ true) → (p || q) ≡ true
    or_true true q h = refl
    or_true false q (inl h) = absurd (true≢false (sym h))
    or_true false q (inr h) = h

    in_frames : (d : ℕ) (fs : List Frame) → RestOf rest fs (instr.Get d s) → frames_read rest s fs ≡ true
    in_frames d [] h = absurd h
    in_frames d (f ∷ fs) (inl h) = or_true (rest f.unit (f.place + 1) (instr.Get 0 s)) (frames_read rest s fs)
        (inl (sym (tells f.unit (f.place + 1) d s) ∙ h))
    in_frames d (f ∷ fs) (inr h) = or_true (rest f.unit (f.place + 1) (instr.Get 0 s)) (frames_read rest s fs)
        (inr (in_frames d fs h))

    does : (d : ℕ) (x : Activity) → is_ended x.status ≡ false → MayDo rest x (instr.Get d s) → may_read rest s x ≡ true
    does d x alive may = ap (λ p. not p && reads) alive ∙ by may
      where
        here : Bool
        here = rest x.frame.unit x.frame.place (instr.Get 0 s)

        reads : Bool
        reads = here || frames_read rest s x.callers

        by : MayDo rest x (instr.Get d s) → reads ≡ true
        by (inl h) = or_true here (frames_read rest s x.callers) (inl (sym (tells x.frame.unit x.frame.place d s) ∙ h))
        by (inr h) = or_true here (frames_read rest s x.callers) (inr (in_frames d x.callers h))

    -- what nobody may read by the table is unread
    unread : (w : World) → is_read rest w.activities s ≡ false → IsUnread rest w s
    unread w none r d act at alive may =
        true≢false (sym (any_given (may_read rest s) w.activities r act at (does d act alive may)) ∙ none)

-- ---- worlds as they count

-- of worlds whose live parts are the same but for shared numbers, those that count are the same if those that are read are
same_read : (live : SlotTable) (rest : Table) (w v : World) → AreAlikeWhereLive live (without_cells w) (without_cells v)
    → length w.cells ≡ length v.cells
    → ((s : ℕ) → is_read rest w.activities s ≡ true → slice_get w.cells s ≡ slice_get v.cells s)
    → AreAlikeWhereLive live (read_part rest w) (read_part rest v)
same_read live rest w v same many cells =
    (λ i. record {
      activities = (same i).activities;
      clocks = (same i).clocks;
      cells = numbers i;
      steps = 0;
      arguments = (same i).arguments;
    })
  where
    reads : (s : ℕ) → is_read rest w.activities s ≡ is_read rest v.activities s
    reads s = sym (read_left rest s live w.activities) ∙ ap (λ (z : World). is_read rest z.activities s) same
        ∙ read_left rest s live v.activities

    numbers : (read_part rest w).cells ≡ (read_part rest v).cells
    numbers = same_marked (is_read rest w.activities) (is_read rest v.activities) w.cells v.cells many reads
        (λ s h. cells s (reads s ∙ h))

-- what is left counts as it did
part_remains : (rest : Table) (w : World) → remains (read_part rest w) ≡ read_part rest (remains w)
part_remains rest w = ap (λ ns. record (remains w) { cells = ns })
    (same_marked (is_read rest w.activities) (is_read rest (remains w).activities) w.cells w.cells refl
    (λ s. sym (read_remains rest s w)) (λ s h. refl))

-- worlds that are alike where slots are live are so as they count
live_reads : (live : SlotTable) (rest : Table) (w v : World) → AreAlikeWhereLive live w v
    → AreAlikeWhereLive live (read_part rest w) (read_part rest v)
live_reads live rest w v same = same_read live rest w v (ap without_cells same) (ap (λ (z : World). length z.cells) same)
    (λ s h. ap (λ (z : World). slice_get z.cells s) same)

-- so are those that are so by rank
pub rank_reads : (c : Counting) (w v : World) → AreAlikeByRank c.live w v → AreAlikeByReads c w v
rank_reads c w v same = ap (live_part c.live) (part_remains c.rest w) ∙ live_reads c.live c.rest (remains w) (remains v) same
    ∙ ap (live_part c.live) (sym (part_remains c.rest v))

module _ (rest : Table) (tells : TellsReads rest) where
  -- a world and the same as it counts
  as_counts : (w : World) → AreAlikeButUnread rest w (read_part rest w)
  as_counts w = record { others = refl; many = sym (marked_many (is_read rest w.activities) w.cells); cells = λ s. by s (is_read rest w.activities s) refl }
    where
      by : (s : ℕ) (p : Bool) → is_read rest w.activities s ≡ p
          → (slice_get w.cells s ≡ slice_get (read_part rest w).cells s) ⊎ IsUnread rest w s
      by s true h = inl (sym (marked_same (is_read rest w.activities) w.cells s h))
      by s false h = inr (unread rest s tells w h)

  counts_as : (w : World) → AreAlikeButUnread rest (read_part rest w) w
  counts_as w = record { others = refl; many = marked_many (is_read rest w.activities) w.cells; cells = λ s. by s (is_read rest w.activities s) refl }
    where
      by : (s : ℕ) (p : Bool) → is_read rest w.activities s ≡ p
          → (slice_get (read_part rest w).cells s ≡ slice_get w.cells s) ⊎ IsUnread rest (read_part rest w) s
      by s true h = inl (marked_same (is_read rest w.activities) w.cells s h)
      by s false h = inr (unread rest s tells (read_part rest w) h)

-- ---- two worlds

module _ (m : ModuleValue) (limits : IsWithinLimits m) (ok : IsAccepted m) (c : Counting) (is : IsCounting m c) where
  abbrev live : SlotTable
  live = c.live

  abbrev rest : Table
  rest = c.rest

  -- what differs in numbers that are unread counts as the same
  counts_same : (w v : World) → AreAlikeButUnread rest w v → AreAlikeWhereLive live (read_part rest (remains w)) (read_part rest (remains v))
  counts_same w v same = same_read live rest (remains w) (remains v)
      (live_by_rank live (without_cells w) (without_cells v) (names_live live [] (without_cells w) (without_cells v) (record { there = tt; alike = same.others })).alike)
      same.many
      (λ s h. by s (same.cells s) (sym (read_remains rest s w) ∙ h))
    where
      by : (s : ℕ) → (slice_get w.cells s ≡ slice_get v.cells s) ⊎ IsUnread rest w s → is_read rest w.activities s ≡ true
          → slice_get w.cells s ≡ slice_get v.cells s
      by s (inl p) h = p
      by s (inr none) h = absurd (not_unread rest s w h none)

  -- what is left of a world, as it counts
  abbrev left : World → World
  left w = read_part rest (remains w)

  -- a step of what is left, where a legal schedule leads, as it counts
  record GoesLeft (u : World) (r : ℕ) (e : Event) (w : World) : Type 0 where
    next : World
    takes : step m (left w) r ≡ Stepped next e
    same : live_part live (left u) ≡ live_part live (read_part rest (remains next))

  go_left : (w : World) → IsReached m w → (u : World) (a : ℕ) (e : Event) → step m w a ≡ Stepped u e
      → GoesLeft u (rank (going w.activities) a) e w
  go_left w here u a e h =
      let one = there_step m limits ok w here a (step_marked m limits ok w u a e h) u e h in
      let two = unread_step m rest is.rests (remains w) (left w) one.0 (rank (going w.activities) a) e (as_counts rest is.tells (remains w)) one.1 in
      record {
        next = two.0;
        takes = two.1;
        same = ap (λ (z : World). live_part live (read_part rest z)) (sym one.2) ∙ counts_same one.0 two.0 two.2;
      }

  -- and back: what is left takes it only if the world does
  record ComesBack (w : World) (r : ℕ) (e : Event) (next : World) : Type 0 where
    number : ℕ
    marked : IsMarked (going w.activities) number
    ranks : rank (going w.activities) number ≡ r
    after : World
    takes : step m w number ≡ Stepped after e
    same : live_part live (read_part rest (remains next)) ≡ live_part live (left after)

  come_back : (w : World) → IsReached m w → (r : ℕ) (e : Event) (next : World) → step m (left w) r ≡ Stepped next e
      → ComesBack w r e next
  come_back w here r e next h =
      let four = unread_step m rest is.rests (left w) (remains w) next r e (counts_as rest is.tells (remains w)) h in
      let x = found_of m (remains w) r four.0 e four.1 in
      let b = one_there (going w.activities) w.activities r x.0 x.1 in
      let five = back_step m limits ok w here b.number b.marked four.0 e (ap (step m (remains w)) b.ranks ∙ four.1) in
      record {
        number = b.number;
        marked = b.marked;
        ranks = b.ranks;
        after = five.0;
        takes = five.1;
        same = counts_same next four.0 four.2 ∙ ap (λ (z : World). live_part live (read_part rest z)) five.2;
      }

  left_alike : (w v : World) → AreAlikeByReads c w v → AreAlikeWhereLive live (left w) (left v)
  left_alike w v same = ap (live_part live) (sym (part_remains rest w)) ∙ same ∙ ap (live_part live) (part_remains rest v)

  alike_left : (w v : World) → AreAlikeWhereLive live (left w) (left v) → AreAlikeByReads c w v
  alike_left w v same = ap (live_part live) (part_remains rest w) ∙ same ∙ ap (live_part live) (sym (part_remains rest v))

  read_step : (w v : World) → IsReached m w → IsReached m v → AreAlikeByReads c w v
      → (u : World) (a : ℕ) (e : Event) → step m w a ≡ Stepped u e
      → (b : ℕ) × (z : World) × HaveOneRank w a v b × (step m v b ≡ Stepped z e) × AreAlikeByReads c u z
  read_step w v here there same u a e h =
      let g = go_left w here u a e h in
      let q = (dead_slots m live is.liveness (left w) (left v) (left_alike w v same)).steps g.next (rank (going w.activities) a) e g.takes in
      let b = come_back v there (rank (going w.activities) a) e q.0 q.1 in (
        b.number,
        b.after,
        record { first = step_marked m limits ok w u a e h; second = b.marked; same = sym b.ranks },
        b.takes,
        alike_left u b.after (g.same ∙ live_reads live rest (remains g.next) (remains q.0) (live_by_rank live g.next q.0 q.2) ∙ b.same),
      )

  without_numbers : (w v : World) → AreAlikeByReads c w v → AreAlikeByRank live (without_cells w) (without_cells v)
  without_numbers w v same = ap without_cells same

  read_ends : (w v : World) → AreAlikeByReads c w v → all_ended w ≡ all_ended v
  read_ends w v same = rank_ends live (without_cells w) (without_cells v) (without_numbers w v same)

  pub go_by_reads : (w v : World) → IsReached m w → IsReached m v → AreAlikeByReads c w v → GoOnByReads m c w v
  go_by_reads w v here there same = record { steps = read_step w v here there same; ends = read_ends w v same }

  -- ---- who stands alike

  one_way : (w v : World) → IsReached m w → IsReached m v → AreAlikeByReads c w v → (a b : ℕ) → HaveOneRank w a v b
      → is_enabled m w a ≡ true → is_enabled m v b ≡ true
  one_way w v here there same a b one enabled =
      let u = enabled_step (step m w a) enabled in
      let t = read_step w v here there same u.0 a u.1 u.2 in
      subst (λ c. is_enabled m v c ≡ true) (one_number w v a t.0 b t.2 one) (ap is_step t.3)

  pub stand_by_reads : (w v : World) → IsReached m w → IsReached m v → AreAlikeByReads c w v → (a b : ℕ) → HaveOneRank w a v b
      → StandAlike m w a v b
  stand_by_reads w v here there same a b one = record {
    enabled = by (is_enabled m w a) (is_enabled m v b) (one_way w v here there same a b one)
        (one_way v w there here (sym same) b a (one_turned w v a b one));
    instruction = next_alike m limits ok live is.liveness (without_cells w) (without_cells v) (without_numbers w v same) a b
        (record { first = one.first; second = one.second; same = one.same });
  }
    where
      by : (p q : Bool) → (p ≡ true → q ≡ true) → (q ≡ true → p ≡ true) → p ≡ q
      by true q to back = sym (to refl)
      by false true to back = back refl
      by false false to back = refl

  -- ---- exploration

  pub by_reads : IsCarried m (AreReachedByReads m c)
  by_reads = record {
    steps = λ w v u a e here same h.
        (let t = read_step w v same.first same.second same.alike u a e h in (
          t.0,
          t.1,
          t.3,
          record { first = reached_step m w u a e same.first h; second = reached_step m v t.1 t.0 e same.second t.3; alike = t.4 },
        ));
    ends = λ w v same. read_ends w v same.alike;
  }

  pub by_reads_back : IsCarried m (λ w v. AreReachedByReads m c v w)
  by_reads_back = record {
    steps = λ w v u a e here same h.
        (let t = read_step w v same.second same.first (sym same.alike) u a e h in (
          t.0,
          t.1,
          t.3,
          record { first = reached_step m v t.1 t.0 e same.first t.3; second = reached_step m w u a e same.second h; alike = sym t.4 },
        ));
    ends = λ w v same. sym (read_ends v w same.alike);
  }
