-- What is printed by one step more; and those that were found grow in number.
use Rattle.std.proofs.Common.{◌≡◌, ◌∙◌, ℕ, ℤ, zero, suc, ◌+◌, ◌<◌, ◌≤◌, ◌⊎◌, inl, inr, Bool, true, false, true≢false}
use Rattle.std.proofs.Common.{◌||◌, ◌==◌, List, [], ◌∷◌, ◌++◌, length, Option, Some, refl, sym, ap, subst, append_assoc, arith, slice_get}
use Rattle.std.specs.Option.{option_to_list}
use Rattle.std.specs.Prelude.{if◌then◌else◌, map}
use Rattle.std.proofs.lemmas.List.{append-nil, get_or_append_left, length_push, map-append}
use Rattle.std.proofs.lemmas.Option.{slice_get_within, none-some, same_Some}
use Rattle.xk_types.specs.declared.world.Event.{Event}
use Rattle.xk_types.specs.Code.{ModuleValue}
use Rattle.xk_types.specs.World.{World}
use Rattle.xk_types.specs.Step.{Stepped, step}
use Rattle.xk_types.specs.Schedule.{Through, run, all_ended, number_printed, printed}
use Rattle.xk_law_schedules.proofs.ReachabilityLemmas.{same_through, first_step}
use Rattle.xk_law_commute.proofs.ChangeSquareLemmas.{found_of}
use Rattle.xk_law_commute.proofs.QuietStepLaw.{enabled_step}
use Rattle.xk_ranks.specs.Reads.{Counting, read_part}
use Rattle.xk_digests.specs.Digest.{with_numbers}
use Rattle.xk_ranks.proofs.RankLaw.{rank_ends}
use Rattle.xk_closed_sets.specs.ClosedSets.{is_in}
use Rattle.xk_readings.specs.declared.edge.Edge.{Edge}
use Rattle.xk_rank_digests.specs.RankDigest.{rank_digest}
use Rattle.xk_rank_digests.proofs.RankDigestLemmas.{rank_digests}
use Rattle.xk_rank_digests.proofs.RankLikenessLemmas.{told_by_rank, told_turned}
use Rattle.xk_types.proofs.ListLemmas.{get-append_left as stays, get_inside as there_is, get_push as at_end}
use Rattle.xk_readings.proofs.ListLemmas.{place}
use Rattle.xk_closed.proofs.ClosedLaw.{printed_first}
use Rattle.xk_outcomes.specs.Alikeness.{Alikeness, AreAsOne, AreAsOneByRank, counted}
use Rattle.xk_core.specs.Core.{CoreValue}
use Rattle.xk_outcomes.specs.Found.{FoundValue, first_found, through}
use Rattle.xk_outcomes.specs.Ways.{IsWay, is_tried, way_of}
use Rattle.xk_outcomes.specs.Links.{AreLinked, HasLink, IsLink, LeadTo, Leads, ends}
use Rattle.xk_outcomes.specs.Rising.{key}
use Rattle.xk_outcomes.specs.Search.{AreDifferent, AreDigests, AreExpanded, Has, HasAfter, IsAdded}
use Rattle.xk_outcomes.specs.Search.{IsAt, IsExpanded, IsGrown, IsThere, found_digest}

-- ---- by a step

-- the numbers of one step more
pub printed_more : (m : ModuleValue) (list : List ℕ) (w v x : World) (a : ℕ) (e : Event) → run m list w ≡ Through v
    → step m v a ≡ Stepped x e
    → printed m (list ++ a ∷ []) w ≡ printed m list w ++ option_to_list (number_printed e)
printed_more m [] w v x a e h g =
    printed_first m [] w x a e (ap (λ z. step m z a) (same_through w v h) ∙ g) ∙ append-nil (option_to_list (number_printed e))
printed_more m (b ∷ list) w v x a e h g =
    let f = first_step w v (step m w b) (run m list) h in
    let first : List ℤ = option_to_list (number_printed f.1) in
    printed_first m (list ++ a ∷ []) w f.0 b f.1 f.2 ∙ ap (λ l. first ++ l) (printed_more m list f.0 v x a e f.3 g)
    ∙ sym (append_assoc first (printed m list f.0) (option_to_list (number_printed e)))
    ∙ sym (ap (λ l. l ++ option_to_list (number_printed e)) (printed_first m list w f.0 b f.1 f.2))

-- ---- what was found grows

pub grown_push : {X : Type 0} (old new : List X) (x : X) → new ≡ old ++ x ∷ [] → IsGrown old new
grown_push old new x e k y h = subst (λ l. slice_get l k ≡ Some y) (sym e) (stays old (x ∷ []) k y h)

grown_same : {X : Type 0} (old new : List X) → new ≡ old → IsGrown old new
grown_same old new e k y h = subst (λ l. slice_get l k ≡ Some y) (sym e) h

there_grown : (like : Alikeness) (old new : List FoundValue) (w : World) (p : List ℤ) (k : ℕ) → IsGrown old new → IsThere like old w p k
    → IsThere like new w p k
there_grown like old new w p k grown h = (h.0, grown k h.0 h.1, h.2)

link_grown : (old new : List Edge) (from : ℕ) (o : Option ℤ) (to : ℕ) → IsGrown old new → HasLink old from o to → HasLink new from o to
link_grown old new from o to grown h = (h.0, h.1, grown h.0 h.1 h.2, h.3, h.4, h.5)

leads_grown : (old new : List Edge) → IsGrown old new → (n k : ℕ) (acts : List ℕ) (numbers : List ℤ) → Leads old n k acts numbers
    → Leads new n k acts numbers
leads_grown old new grown zero k acts numbers h = h
leads_grown old new grown (suc n) k acts numbers h =
    (h.0, h.1, grown h.1 h.0 h.2, h.3, h.4, h.5, leads_grown old new grown n h.0.from h.4 h.5 h.6, h.7, h.8)

pub after_grown : (m : ModuleValue) (like : Alikeness) (old new : List FoundValue) (links more : List Edge) (number : ℕ) (x : FoundValue) (a : ℕ) → IsGrown old new
    → IsGrown links more → HasAfter m like old links number x a → HasAfter m like new more number x a
after_grown m like old new links more number x a grown longer h enabled =
    let r = h enabled in record {
      there = r.there;
      more = r.more;
      alone = r.alone;
      said = r.said;
      prints = r.prints;
      to = r.to;
      is = there_grown like old new r.there.core.world r.there.printed r.to grown r.is;
      link = link_grown links more number r.said r.to longer r.link;
    }

pub longer : (old new : List FoundValue) (n : ℕ) → IsGrown old new → n < length old → n < length new
longer old new n grown h = let y = there_is old n h in slice_get_within new n y.0 (grown n y.0 y.1)

-- ---- one is added

-- so it is there
pub added_there : (like : Alikeness) (old new : List FoundValue) (x : FoundValue) (k : ℕ) → IsAdded like old new x k
    → IsThere like new x.core.world x.printed k
added_there like old new x k (inl h) = subst (λ l. IsThere like l x.core.world x.printed k) (sym h.0) h.1
added_there like old new x k (inr h) = (
  x,
  subst (λ l. slice_get l k ≡ Some x) (sym h.0) (subst (λ j. slice_get (old ++ x ∷ []) j ≡ Some x) (sym h.1) (at_end old x)),
  (inl (inl refl), refl),
)

added_grown : (like : Alikeness) (old new : List FoundValue) (x : FoundValue) (k : ℕ) → IsAdded like old new x k → IsGrown old new
added_grown like old new x k (inl h) = grown_same old new h.0
added_grown like old new x k (inr h) = grown_push old new x h.0

-- worlds that go on as one do so the other way round, and by rank
pub as_one_turned : (counts : Counting) (w v : World) → AreAsOne counts w v → AreAsOne counts v w
as_one_turned counts w v (inl alike) = inl (told_turned counts.live (read_part counts.rest w) (read_part counts.rest v) alike)
as_one_turned counts w v (inr over) = inr (over.1, over.0)

as_one_by_rank : (counts : Counting) (w v : World) → AreAsOne counts w v → AreAsOneByRank counts w v
as_one_by_rank counts w v (inl alike) = inl (told_by_rank counts.live (read_part counts.rest w) (read_part counts.rest v) alike)
as_one_by_rank counts w v (inr over) = inr over

-- a way of a number is the same with one more behind it
pub way_wider : (ways wider : List (List ℕ)) (w : List ℕ) (k : ℕ) → wider ≡ ways ++ w ∷ [] → k < length ways
    → way_of wider k ≡ way_of ways k
way_wider ways wider w k one within = ap (λ (l : List (List ℕ)). way_of l k) one ∙ get_or_append_left ways (w ∷ []) [] k within

-- links stay such with a way more
pub linked_wider : (counts : Counting) (m : ModuleValue) (ways wider : List (List ℕ)) (w : List ℕ) (all : List FoundValue)
    → (links : List Edge)
    → wider ≡ ways ++ w ∷ [] → AreLinked counts m ways all links → AreLinked counts m wider all links
linked_wider counts m ways wider w all links one linked = record { each = λ j l there. by l (linked.each j l there); led = linked.led }
  where
    by : (l : Edge) → IsLink counts m ways all l → IsLink counts m wider all l
    by l h =
        let same : way_of ways l.act ≡ way_of wider l.act = sym (way_wider ways wider w l.act one h.known) in
        let many : length wider ≡ length ways + 1 = ap (λ (k : List (List ℕ)). length k) one ∙ length_push ways w in
        let known = h.known in
        record {
          source = h.source;
          target = h.target;
          out = h.out;
          into = h.into;
          known = omega (arith, many, known);
          is_way = subst (λ way. IsWay m h.source way l.printed) same h.is_way;
          alike = subst (λ way. AreAsOneByRank counts (through way h.source).core.world h.target.core.world) same h.alike;
        }

-- Where those that were found were linked, they are with one more, and the link to it.
pub linked_push : (m : ModuleValue) (like : Alikeness) (ways : List (List ℕ)) (old new : List FoundValue) (links more : List Edge)
    → (l : Edge)
    → (x y : FoundValue) → AreLinked (counted like) m ways old links
    → slice_get old l.from ≡ Some x → l.act < length ways → y ≡ through (way_of ways l.act) x → IsWay m x (way_of ways l.act) l.printed
    → IsAdded like old new y l.to → more ≡ links ++ l ∷ [] → AreLinked (counted like) m ways new more
linked_push m like ways old new links more l x y linked out known is is_way added one = record {
  each = λ j z there. by_link j z (place links l j z (subst (λ (e : List Edge). slice_get e j ≡ Some z) one there));
  led = λ k z there. by_one added k z there;
}
  where
    grown : IsGrown old new
    grown = added_grown like old new y l.to added

    longer_links : IsGrown links more
    longer_links = grown_push links more l one

    -- the new link
    this : IsLink (counted like) m ways new l
    this =
        let t = added_there like old new y l.to added in
        record {
          source = x;
          target = t.0;
          out = grown l.from x out;
          into = t.1;
          known = known;
          is_way = is_way;
          alike = subst (λ (z : FoundValue). AreAsOneByRank (counted like) z.core.world t.0.core.world) is
              (as_one_by_rank (counted like) y.core.world t.0.core.world t.2.0);
        }

    by_link : (j : ℕ) (z : Edge) → (slice_get links j ≡ Some z) ⊎ ((j ≡ length links) × (l ≡ z)) → IsLink (counted like) m ways new z
    by_link j z (inl a) =
        let h = linked.each j z a in
        record {
          source = h.source;
          target = h.target;
          out = grown z.from h.source h.out;
          into = grown z.to h.target h.into;
          known = h.known;
          is_way = h.is_way;
          alike = h.alike;
        }
    by_link j z (inr b) = subst (IsLink (counted like) m ways new) b.1 this

    was_led : (k : ℕ) (z : FoundValue) → slice_get old k ≡ Some z → LeadTo more k z.printed
    was_led k z there = let h = linked.led k z there in (h.0, h.1, leads_grown links more longer_links h.0 k h.1 z.printed h.2)

    led_here : LeadTo more l.to y.printed
    led_here =
        let h = was_led l.from x out in (
          suc h.0,
          h.1 ++ l.act ∷ [],
          (
            l,
            length links,
            subst (λ (e : List Edge). slice_get e (length links) ≡ Some l) (sym one) (at_end links l),
            refl,
            h.1,
            x.printed,
            h.2,
            refl,
            ap (λ (z : FoundValue). z.printed) is ∙ is_way.prints,
          ),
        )

    by_one : IsAdded like old new y l.to → (k : ℕ) (z : FoundValue) → slice_get new k ≡ Some z → LeadTo more k z.printed
    by_one (inl h) k z there = was_led k z (subst (λ (e : List FoundValue). slice_get e k ≡ Some z) h.0 there)
    by_one (inr h) k z there = of (place old y k z (subst (λ (e : List FoundValue). slice_get e k ≡ Some z) h.0 there))
      where
        of : (slice_get old k ≡ Some z) ⊎ ((k ≡ length old) × (y ≡ z)) → LeadTo more k z.printed
        of (inl a) = was_led k z a
        of (inr b) = subst (λ (q : FoundValue). LeadTo more k q.printed) b.1 (subst (λ j. LeadTo more j y.printed) (h.1 ∙ sym b.0) led_here)

-- a link that is pushed is there
pub added_link : (links more : List Edge) (l : Edge) → more ≡ links ++ l ∷ [] → HasLink more l.from l.printed l.to
added_link links more l one = (length links, l, subst (λ (e : List Edge). slice_get e (length links) ≡ Some l) (sym one) (at_end links l), refl, refl, refl)

-- the first one alone is linked, by no link
pub linked_first : (counts : Counting) (m : ModuleValue) (ways : List (List ℕ)) (start : CoreValue) (all : List FoundValue)
    → (links : List Edge)
    → all ≡ first_found start ∷ [] → links ≡ []
    → (first_found start).printed ≡ [] → AreLinked counts m ways all links
linked_first counts m ways start all links one none silent = record {
  each = λ j l there. absurd (none-some l (subst (λ (e : List Edge). slice_get e j ≡ Some l) none there));
  led = λ k x there. by k x (subst (λ (e : List FoundValue). slice_get e k ≡ Some x) one there);
}
  where
    by : (k : ℕ) (x : FoundValue) → slice_get (first_found start ∷ []) k ≡ Some x → LeadTo links k x.printed
    by zero x there = (0, [], (refl, refl, ap (λ (z : FoundValue). z.printed) (sym (same_Some (first_found start) x there)) ∙ silent))
    by (suc k) x there = absurd (none-some x there)

-- ---- one is looked at

-- who is one of these is tried
pub tried : (members : List Bool) (a : ℕ) → is_in members a ≡ true → is_tried members a ≡ true
tried members a inside = by (length members == 0)
  where
    by : (b : Bool) → (b || is_in members a) ≡ true
    by true = refl
    by false = inside

-- who isn't there takes no step
pub after_all : (m : ModuleValue) (like : Alikeness) (all : List FoundValue) (links : List Edge) (number : ℕ) (here : FoundValue) (test : ℕ → Bool) (last : ℕ)
    → ((a : ℕ) → a < last → test a ≡ true → HasAfter m like all links number here a)
    → length here.core.world.activities ≤ last → (a : ℕ) → test a ≡ true → HasAfter m like all links number here a
after_all m like all links number here test last before enough a passes = by (side a last)
  where
    side : (i n : ℕ) → (i < n) ⊎ (n ≤ i)
    side i n = grind arith

    by : (a < last) ⊎ (last ≤ a) → HasAfter m like all links number here a
    by (inl l) = before a l passes
    by (inr g) = λ enabled.
        let t = enabled_step (step m here.core.world a) enabled in
        let act = found_of m here.core.world a t.0 t.1 t.2 in
        let inside = slice_get_within here.core.world.activities a act.0 act.1 in
        absurd (omega (arith, inside, g, enough))

expanded_grown : (m : ModuleValue) (like : Alikeness) (old new : List FoundValue) (links more : List Edge) (number : ℕ) (x : FoundValue)
    → IsGrown old new
    → IsGrown links more → IsExpanded m like old links number x → IsExpanded m like new more number x
expanded_grown m like old new links more number x grown longer_links (inl s) = inl (record {
  set = s.set;
  closed = s.closed;
  free = s.free;
  inside = s.inside;
  enabled = s.enabled;
  next = λ a inside. after_grown m like old new links more number x a grown longer_links (s.next a inside);
})
expanded_grown m like old new links more number x grown longer_links (inr each) =
    inr (λ a. after_grown m like old new links more number x a grown longer_links (each a))

pub expanded_more : (m : ModuleValue) (like : Alikeness) (old new : List FoundValue) (links more : List Edge) (n : ℕ) → n < length old
    → IsGrown old new → IsGrown links more
    → AreExpanded m like old links n
    → ((x : FoundValue) → slice_get old n ≡ Some x → IsExpanded m like new more n x) → AreExpanded m like new more (n + 1)
expanded_more m like old new links more n within grown longer_links before here k x less there =
    let y = there_is old k (omega (arith, less, within)) in
    subst (λ (z : FoundValue). IsExpanded m like new more k z) (same_Some y.0 x (sym (grown k y.0 y.1)
    ∙ there)) (by y.0 y.1 (split k n less))
  where
    split : (i j : ℕ) → i < j + 1 → (i < j) ⊎ (i ≡ j)
    split i j h = grind arith

    by : (y : FoundValue) → slice_get old k ≡ Some y → (k < n) ⊎ (k ≡ n) → IsExpanded m like new more k y
    by y at (inl l) = expanded_grown m like old new links more k y grown longer_links (before k y l at)
    by y at (inr e) = subst (λ j. IsExpanded m like new more j y) (sym e) (here y (subst (λ j. slice_get old j ≡ Some y) e at))

-- ---- no two are the same

-- those that are at the same have one digest
pub same_digests : (like : Alikeness) (x new : FoundValue) → IsAt like x new.core.world new.printed
    → found_digest like x ≡ found_digest like new
same_digests like x new at = by at.0 (all_ended x.core.world) (all_ended new.core.world) refl refl
  where
    told : (b : Bool) (y : FoundValue) → ℕ
    told b y = if b then with_numbers 0 (key like.order y.printed)
        else rank_digest (counted like).live (read_part (counted like).rest y.core.world) (key like.order y.printed)

    part : World → World
    part = read_part (counted like).rest

    by : AreAsOne (counted like) new.core.world x.core.world → (b c : Bool) → all_ended x.core.world ≡ b → all_ended new.core.world ≡ c
        → told b x ≡ told c new
    by one true true e f = ap (with_numbers 0) at.1
    by (inl alike) false false e f = ap (rank_digest (counted like).live (part x.core.world)) at.1
        ∙ sym (rank_digests (counted like).live (part new.core.world) (part x.core.world) (key like.order new.printed)
        (told_by_rank (counted like).live (part new.core.world) (part x.core.world) alike))
    by (inl alike) true false e f =
        absurd (true≢false (sym e ∙ sym (rank_ends (counted like).live (part new.core.world) (part x.core.world)
        (told_by_rank (counted like).live (part new.core.world) (part x.core.world) alike)) ∙ f))
    by (inl alike) false true e f =
        absurd (true≢false (sym f ∙ rank_ends (counted like).live (part new.core.world) (part x.core.world)
        (told_by_rank (counted like).live (part new.core.world) (part x.core.world) alike) ∙ e))
    by (inr over) true false e f = absurd (true≢false (sym over.0 ∙ f))
    by (inr over) false true e f = absurd (true≢false (sym over.1 ∙ e))
    by (inr over) false false e f = absurd (true≢false (sym over.1 ∙ e))

pub different_push : (like : Alikeness) (old new : List FoundValue) (o : FoundValue) → new ≡ old ++ o ∷ []
    → (Has like old o.core.world o.printed → ⊥)
    → AreDifferent like old → AreDifferent like new
different_push like old new o e fresh before i j x y hi hj same =
    by (place old o i x (subst (λ (l : List FoundValue). slice_get l i ≡ Some x) e hi)) (place old o j y (subst (λ (l : List FoundValue). slice_get l j ≡ Some y) e hj))
  where
    by : (slice_get old i ≡ Some x) ⊎ ((i ≡ length old) × (o ≡ x)) → (slice_get old j ≡ Some y) ⊎ ((j ≡ length old) × (o ≡ y)) → i ≡ j
    by (inl a) (inl b) = before i j x y a b same
    by (inl a) (inr b) = absurd (fresh (i, (x, a, subst (λ (z : FoundValue). IsAt like x z.core.world z.printed) (sym b.1) same)))
    by (inr a) (inl b) =
        absurd (fresh (
          j,
          (
            y,
            b,
            subst (λ (z : FoundValue). IsAt like y z.core.world z.printed) (sym a.1)
                (as_one_turned (counted like) y.core.world x.core.world same.0, sym same.1),
          ),
        ))
    by (inr a) (inr b) = a.0 ∙ sym b.0

pub digests_push : (like : Alikeness) (old new : List FoundValue) (digests more : List ℕ) (x : FoundValue) → new ≡ old ++ x ∷ []
    → more ≡ digests ++ found_digest like x ∷ [] → AreDigests like old digests → AreDigests like new more
digests_push like old new digests more x e f h =
    f ∙ ap (λ (l : List ℕ). l ++ found_digest like x ∷ []) h ∙ sym (map-append (found_digest like) old (x ∷ []))
    ∙ ap (map (found_digest like)) (sym e)

pub ends_push : (old new : List FoundValue) (over more : List Bool) (x : FoundValue) → new ≡ old ++ x ∷ []
    → more ≡ over ++ all_ended x.core.world ∷ []
    → over ≡ ends old → more ≡ ends new
ends_push old new over more x e f h =
    f ∙ ap (λ (l : List Bool). l ++ all_ended x.core.world ∷ []) h
    ∙ sym (map-append (λ (y : FoundValue). all_ended y.core.world) old (x ∷ [])) ∙ ap ends (sym e)
