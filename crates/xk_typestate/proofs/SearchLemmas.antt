-- Searches: one stop more, one place more done, and what a whole search has seen.
use Rattle.std.proofs.Common.{◌≡◌, ℕ, zero, suc, ◌+◌, ◌<◌, ◌≤◌, Bool, true, false, IsTrue, List, [], ◌∷◌, ◌++◌, length, Option, Some, None, slice_get, get_or, replicate, sum_by, ◌⊎◌, inl, inr, refl, sym, ap, ◌∙◌, subst, arith, length-append}
use Rattle.std.proofs.Math.ListN.{set}
use Rattle.std.proofs.lemmas.List.{get_or-set_same, get_or-set_other, length-set, length-replicate, get_or-replicate, get_or_past}
use Rattle.std.proofs.lemmas.List.Sums.{sum_by-set}
use Rattle.std.proofs.lemmas.List.Folds.{sum_by-replicate}
use Rattle.std.proofs.lemmas.Option.{none-some, slice_get_within}
use Rattle.std.proofs.lemmas.Bool.{cases_lt, cases_order, true≢false}
use Rattle.xk_types.specs.declared.rules.Kind.{Kind}
use Rattle.xk_types.specs.declared.rules.Kind.TheVariants as kind
use Rattle.xk_types.specs.RuleNames.{kind_place}
use Rattle.xk_types.specs.declared.rules.Visit.{Visit}
use Rattle.xk_types.specs.Code.{UnitValue, ModuleValue}
use Rattle.xk_types.specs.Order.{Has}
use Rattle.xk_types.specs.Walk.{IsEdge, IsVisited, entry_kinds}
use Rattle.xk_typestate.specs.KindSet.{KindsValue, kinds_have, kinds_with, no_kinds}
use Rattle.xk_typestate.specs.Place.{visit}
use Rattle.xk_typestate.specs.Search.{IsClosed, IsFound, Came, AreSearched, IsSearched, IsComplete, IsPut, Extends, HasEntries, HasBegun, HasPut, CanCome, NotBehind, IsLatest, IsPrompt, holds, kinds_absent}
use Rattle.xk_typestate.specs.declared.fixed_point.Found.{Found}
use Rattle.xk_typestate.specs.declared.fixed_point.Search.{Search}
use Rattle.xk_typestate.proofs.KindSetLemmas.{have_added, have_kept, have_only, absent_with, none_have}
use Rattle.xk_typestate.proofs.EdgeLemmas.{same_visit, edge_inside}
use Rattle.xk_types.proofs.WalkLemmas.{visited_start, visited_closed, visited_on}
use Rattle.xk_types.proofs.ListLemmas.{get-append_left, get_push}

-- ---- lists that one element was added to

found_push : {X : Type 0} (xs : List X) (y : X) (n : ℕ) (x : X) → slice_get (xs ++ y ∷ []) n ≡ Some x → (slice_get xs n ≡ Some x) ⊎ ((n ≡ length xs) × (y ≡ x))
found_push [] y zero x h = inr (refl, cc)
found_push [] y (suc n) x h = absurd (let no : ⊥ = cc in no)
found_push (z ∷ xs) y zero x h = inl h
found_push (z ∷ xs) y (suc n) x h =
    elim (found_push xs y n x h) [ inl e ↦ inl e | inr last ↦ inr (let e = last.0 in omega arith, last.1) ]

-- ---- sets that one stop was added to

module _ (seen : List KindsValue) (q : Visit) (inside : q.at < length seen) where
  abbrev kinds_then : KindsValue
  kinds_then = kinds_with (get_or seen q.at no_kinds) q.kind

  abbrev seen_then : List KindsValue
  seen_then = set seen q.at kinds_then

  there : (p : Visit) → p.at ≡ q.at → get_or seen_then p.at no_kinds ≡ kinds_then
  there p e = ap (λ n. get_or seen_then n no_kinds) e ∙ get_or-set_same seen q.at kinds_then no_kinds inside

  elsewhere : (p : Visit) → (p.at ≡ q.at → ⊥) → get_or seen_then p.at no_kinds ≡ get_or seen p.at no_kinds
  elsewhere p h = get_or-set_other seen q.at p.at kinds_then no_kinds h

  old_there : (p : Visit) → p.at ≡ q.at → get_or seen p.at no_kinds ≡ get_or seen q.at no_kinds
  old_there p e = ap (λ n. get_or seen n no_kinds) e

  holds_added : IsTrue (holds seen_then q)
  holds_added = ap (λ x. kinds_have x q.kind) (there q refl) ∙ have_added (get_or seen q.at no_kinds) q.kind

  holds_kept : (p : Visit) → IsTrue (holds seen p) → IsTrue (holds seen_then p)
  holds_kept p h =
      elim (cases_order p.at q.at) [
        | inl e ↦ ap (λ x. kinds_have x p.kind) (there p e) ∙ have_kept (get_or seen q.at no_kinds) q.kind p.kind (sym (ap (λ x. kinds_have x p.kind) (old_there p e)) ∙ h)
        | inr apart ↦ ap (λ x. kinds_have x p.kind) (elsewhere p (λ e. elim apart [ inl lt ↦ omega arith | inr gt ↦ omega arith ])) ∙ h
      ]

  holds_only : (p : Visit) → IsTrue (holds seen_then p) → (p ≡ q) ⊎ IsTrue (holds seen p)
  holds_only p h =
      elim (cases_order p.at q.at) [
        | inl e ↦ elim (have_only (get_or seen q.at no_kinds) q.kind p.kind (sym (ap (λ x. kinds_have x p.kind) (there p e)) ∙ h)) [
          | inl same ↦ inl (same_visit p q e same)
          | inr had ↦ inr (ap (λ x. kinds_have x p.kind) (old_there p e) ∙ had)
        ]
        | inr apart ↦ inr (sym (ap (λ x. kinds_have x p.kind) (elsewhere p (λ e. elim apart [ inl lt ↦ omega arith | inr gt ↦ omega arith ]))) ∙ h)
      ]

  absent_then : holds seen q ≡ false → sum_by kinds_absent seen_then + 1 ≡ sum_by kinds_absent seen
  absent_then fresh =
      omega (arith, sum_by-set kinds_absent seen q.at kinds_then no_kinds inside, absent_with (get_or seen q.at no_kinds) q.kind fresh)

-- what was come to from a place on, or from one before it
pub not_behind : (from : Option ℕ) → NotBehind from from
not_behind None = tt
not_behind (Some j) = omega arith

later : (from : Option ℕ) (n k : ℕ) → n ≤ k → NotBehind from (Some n) → NotBehind from (Some k)
later None n k le h = tt
later (Some j) n k le h = omega arith

latest_added : (found : List Found) (q : Visit) (from : Option ℕ) → IsLatest found from → IsLatest (found ++ record { stop = q; from = from } ∷ []) from
latest_added found q from latest n f h =
    elim (found_push found (record { stop = q; from = from }) n f h) [
      | inl before ↦ latest n f before
      | inr last ↦ subst (λ (x : Found). NotBehind x.from from) last.1 (not_behind from)
    ]

pub none_latest : (found : List Found) (from : Option ℕ) → found ≡ [] → IsLatest found from
none_latest found from none n f h = absurd (none-some f (ap (λ fs. slice_get fs n) (sym none) ∙ h))

-- ---- how stops were come to

module _ (m : ModuleValue) (u : UnitValue) (s : ℕ) where
  -- what leads to a stop stays, where more is found
  came_still : (found more : List Found) (n k : ℕ) (q : Visit) (from : Option ℕ)
      → ((j : ℕ) (f : Found) → IsFound found j f → IsFound more j f) → n ≤ k → Came m u s found n q from → Came m u s more k q from
  came_still found more n k q None kept le c = c
  came_still found more n k q (Some j) kept le c = (let lt = c.0 in omega arith, (c.1.0, kept j c.1.0 c.1.1, c.1.2))

  pub came_inside : IsClosed u → (found : List Found) (n : ℕ) (q : Visit) (from : Option ℕ) → Came m u s found n q from → q.at < length u.code
  came_inside closed found n q None c = let some = closed.some in let e = c.0 in omega arith
  came_inside closed found n q (Some j) c = edge_inside m u s closed c.1.0.stop q c.1.2

  -- one stop more
  module _ (seen : List KindsValue) (found : List Found) (done : ℕ) (q : Visit) (from : Option ℕ) (inside : q.at < length seen) (fresh : holds seen q ≡ false)
      (so_far : AreSearched m u s seen found done) (leads : Came m u s found (length found) q from) (latest : IsLatest found from) (now : NotBehind from (Some done)) where
    abbrev one : Found
    one = record { stop = q; from = from }

    kept : (j : ℕ) (f : Found) → IsFound found j f → IsFound (found ++ one ∷ []) j f
    kept j f h = get-append_left found (one ∷ []) j f h

    added_came : (n : ℕ) (f : Found) → IsFound (found ++ one ∷ []) n f → Came m u s (found ++ one ∷ []) n f.stop f.from
    added_came n f h =
        elim (found_push found one n f h) [
          | inl before ↦ came_still found (found ++ one ∷ []) n n f.stop f.from kept (omega arith) (so_far.came n f before)
          | inr last ↦
              let P : Found → Type 0 = λ x. Came m u s (found ++ one ∷ []) n x.stop x.from in
              let e = last.0 in
              subst P last.1 (came_still found (found ++ one ∷ []) (length found) n q from kept (omega arith) leads)
        ]

    added_listed : (p : Visit) → IsTrue (holds (seen_then seen q inside) p) → (n : ℕ) × (f : Found) × IsFound (found ++ one ∷ []) n f × (f.stop ≡ p)
    added_listed p h =
        elim (holds_only seen q inside p h) [
          | inl same ↦ (length found, one, get_push found one, sym same)
          | inr had ↦ let at = so_far.listed p had in (at.0, at.1, kept at.0 at.1 at.2, at.3)
        ]

    added_closed : (n : ℕ) (f : Found) (p : Visit) → IsFound (found ++ one ∷ []) n f → n < done → IsEdge m u s f.stop p → IsTrue (holds (seen_then seen q inside) p)
    added_closed n f p h lt edge =
        elim (found_push found one n f h) [
          | inl before ↦ holds_kept seen q inside p (so_far.closed n f p before lt edge)
          | inr last ↦ absurd (let e = last.0 in let le = so_far.within in omega arith)
        ]

    added_prompt : (n : ℕ) (f : Found) (p : Visit) → IsFound (found ++ one ∷ []) n f → n < done → IsEdge m u s f.stop p → IsPrompt (found ++ one ∷ []) n p
    added_prompt n f p h lt edge =
        elim (found_push found one n f h) [
          | inl before ↦
              let at = so_far.prompt n f p before lt edge in
              record { place = at.place; f = at.f; found_there = kept at.place at.f at.found_there; stop = at.stop; from = at.from }
          | inr last ↦ absurd (let e = last.0 in let le = so_far.within in omega arith)
        ]

    added_rising : (n k : ℕ) (f g : Found) → n ≤ k → IsFound (found ++ one ∷ []) n f → IsFound (found ++ one ∷ []) k g → NotBehind f.from g.from
    added_rising n k f g le at_f at_g =
        elim (found_push found one k g at_g) [
          | inr last ↦ subst (λ (x : Found). NotBehind f.from x.from) last.1 (latest_added found q from latest n f at_f)
          | inl here ↦ elim (found_push found one n f at_f) [
            | inl before ↦ so_far.rising n k f g le before here
            | inr last ↦ absurd (let e = last.0 in let lt = slice_get_within found k g here in omega arith)
          ]
        ]

    added_recent : IsLatest (found ++ one ∷ []) (Some done)
    added_recent n f h =
        elim (found_push found one n f h) [
          | inl before ↦ so_far.recent n f before
          | inr last ↦ subst (λ (x : Found). NotBehind x.from (Some done)) last.1 now
        ]

    pub searched_added : AreSearched m u s (seen_then seen q inside) (found ++ one ∷ []) done
    searched_added = record {
      long = length-set seen q.at _ ∙ so_far.long;
      within = omega (arith, so_far.within, length-append found (one ∷ []));
      came = added_came;
      listed = added_listed;
      closed = added_closed;
      prompt = added_prompt;
      rising = added_rising;
      recent = added_recent;
      once = omega (arith, so_far.once, absent_then seen q inside fresh, length-append found (one ∷ []));
    }

  searched_put : (old new : Search) (done : ℕ) (q : Visit) (from : Option ℕ) → q.at < length old.seen.items → IsPut old new q from
      → IsSearched m u s old done → Came m u s old.found.items (length old.found.items) q from → IsLatest old.found.items from → NotBehind from (Some done)
      → IsSearched m u s new done
  searched_put old new done q from inside put so_far leads latest now =
      elim put [
        | inl same ↦
            let P : List KindsValue → Type 0 = λ x. AreSearched m u s x old.found.items done in
            let Q : List Found → Type 0 = λ x. AreSearched m u s new.seen.items x done in
            subst Q (sym same.2) (subst P (sym same.1) so_far)
        | inr added ↦
            let more = searched_added old.seen.items old.found.items done q from inside added.fresh so_far leads latest now in
            let P : List KindsValue → Type 0 = λ x. AreSearched m u s x (old.found.items ++ record { stop = q; from = from } ∷ []) done in
            let Q : List Found → Type 0 = λ x. AreSearched m u s new.seen.items x done in
            subst Q (sym added.found) (subst P (sym added.seen) more)
      ]

  -- one place more done
  pub searched_done : (r : Search) (done : ℕ) (f : Found) → IsSearched m u s r done → IsFound r.found.items done f → done < length r.found.items
      → ((q : Visit) → IsEdge m u s f.stop q → IsTrue (holds r.seen.items q)) → IsSearched m u s r (done + 1)
  searched_done r done f so_far found lt leads = record {
    long = so_far.long;
    within = omega arith;
    came = so_far.came;
    listed = so_far.listed;
    closed = λ n g q h below edge. elim (cases_lt n done) [
      | inl before ↦ so_far.closed n g q h before edge
      | inr here ↦
          let same : n ≡ done = omega arith in
          let P : ℕ → Type 0 = λ x. IsFound r.found.items x g in
          let both : Some f ≡ Some g = sym found ∙ subst P same h in
          let is : f ≡ g = cc in
          let Q : Found → Type 0 = λ x. IsEdge m u s x.stop q in
          leads q (subst Q (sym is) edge)
    ];
    prompt = λ n g q h below edge. elim (cases_lt n done) [
      | inl before ↦ so_far.prompt n g q h before edge
      | inr here ↦
          let same : n ≡ done = omega arith in
          let P : ℕ → Type 0 = λ x. IsFound r.found.items x g in
          let both : Some f ≡ Some g = sym found ∙ subst P same h in
          let is : f ≡ g = cc in
          let Q : Found → Type 0 = λ x. IsEdge m u s x.stop q in
          let at = so_far.listed q (leads q (subst Q (sym is) edge)) in
          record { place = at.0; f = at.1; found_there = at.2; stop = at.3; from = later at.1.from done n (omega arith) (so_far.recent at.0 at.1 at.2) }
    ];
    rising = so_far.rising;
    recent = λ n g h. later g.from done (done + 1) (omega arith) (so_far.recent n g h);
    once = so_far.once;
  }

  -- nothing seen, nothing found
  none_there : (n : ℕ) (q : Visit) → get_or (replicate n no_kinds) q.at no_kinds ≡ no_kinds
  none_there n q =
      elim (cases_lt q.at n) [
        | inl lt ↦ get_or-replicate n q.at no_kinds no_kinds lt
        | inr past ↦ get_or_past (replicate n no_kinds) q.at no_kinds (omega (arith, length-replicate n no_kinds))
      ]

  nothing : (n : ℕ) (q : Visit) → IsTrue (holds (replicate n no_kinds) q) → ⊥
  nothing n q h = true≢false (sym h ∙ ap (λ x. kinds_have x q.kind) (none_there n q) ∙ none_have q.kind)

  at_first : AreSearched m u s (replicate (length u.code) no_kinds) [] 0
  at_first = record {
    long = length-replicate (length u.code) no_kinds;
    within = omega arith;
    came = λ n f h. absurd (let no : ⊥ = cc in no);
    listed = λ q h. absurd (nothing (length u.code) q h);
    closed = λ n f q h lt edge. absurd (omega arith);
    prompt = λ n f q h lt edge. absurd (omega arith);
    rising = λ n k f g le h. absurd (let no : ⊥ = cc in no);
    recent = λ n f h. absurd (let no : ⊥ = cc in no);
    once = omega (arith, sum_by-replicate kinds_absent (length u.code) no_kinds);
  }

  pub searched_none : (r : Search) → r.seen.items ≡ replicate (length u.code) no_kinds → r.found.items ≡ [] → IsSearched m u s r 0
  searched_none r seen found =
      let P : List KindsValue → Type 0 = λ x. AreSearched m u s x [] 0 in
      let Q : List Found → Type 0 = λ x. AreSearched m u s r.seen.items x 0 in
      subst Q (sym found) (subst P (sym seen) at_first)

  -- where nothing is come to from elsewhere, each entry begins a walk
  pub begun_at_first : (r : Search) (done : ℕ) → IsSearched m u s r done → HasEntries u s r → IsLatest r.found.items None → HasBegun u s r
  begun_at_first r done so_far entries latest k has =
      let at = so_far.listed (visit 0 k) (entries k has) in
      (at.0, at.1, at.2, at.3, first at.1.from (latest at.0 at.1 at.2))
    where
      first : (from : Option ℕ) → NotBehind from None → from ≡ None
      first None h = refl
      first (Some j) h = absurd h

  -- ---- a whole search

  came_visited : (found : List Found) (n : ℕ) (q : Visit) (from : Option ℕ)
      → ((j : ℕ) (f : Found) → j < n → IsFound found j f → IsVisited m u s f.stop) → Came m u s found n q from → IsVisited m u s q
  came_visited found n q None before c = visited_start m u s q c.0 c.1
  came_visited found n q (Some j) before c = visited_on m u s c.1.0.stop q (before j c.1.0 c.0 c.1.1) c.1.2

  found_visited : (found : List Found) → ((n : ℕ) (f : Found) → IsFound found n f → Came m u s found n f.stop f.from)
      → (b n : ℕ) (f : Found) → n < b → IsFound found n f → IsVisited m u s f.stop
  found_visited found came zero n f lt h = absurd (omega arith)
  found_visited found came (suc b) n f lt h =
      came_visited found n f.stop f.from (λ j g less at. found_visited found came b j g (omega arith) at) (came n f h)

  -- what is seen is visited
  pub seen_visited : (r : Search) → IsComplete m u s r → (q : Visit) → IsTrue (holds r.seen.items q) → IsVisited m u s q
  seen_visited r whole q h =
      let at = whole.searched.listed q h in
      subst (λ x. IsVisited m u s x) at.3 (found_visited r.found.items whole.searched.came (suc at.0) at.0 at.1 (omega arith) at.2)

  -- an edge from a stop that is seen leads to one that is
  seen_closed : (r : Search) → IsComplete m u s r → (p q : Visit) → IsTrue (holds r.seen.items p) → IsEdge m u s p q → IsTrue (holds r.seen.items q)
  seen_closed r whole p q h edge =
      let at = whole.searched.listed p h in
      whole.searched.closed at.0 at.1 q at.2 (slice_get_within r.found.items at.0 at.1 at.2) (subst (λ x. IsEdge m u s x q) (sym at.3) edge)

  entry_seen : (r : Search) → IsComplete m u s r → (q : Visit) → q.at ≡ 0 → Has (entry_kinds u s) q.kind → IsTrue (holds r.seen.items q)
  entry_seen r whole q e h = subst (λ x. IsTrue (holds r.seen.items x)) (sym (same_visit q (visit 0 q.kind) e refl)) (whole.entries q.kind h)

  -- what is visited is seen
  pub visited_seen : (r : Search) → IsComplete m u s r → (q : Visit) → IsVisited m u s q → IsTrue (holds r.seen.items q)
  visited_seen r whole q v =
      visited_closed m u s (λ x. IsTrue (holds r.seen.items x)) (entry_seen r whole) (seen_closed r whole) q v

-- ---- what grows

extends_self : (r : Search) → Extends r r
extends_self r = record { long = refl; kept = λ q h. h; more = omega arith; found = λ n f h. h }

extends_on : (a b c : Search) → Extends a b → Extends b c → Extends a c
extends_on a b c first second = record {
  long = second.long ∙ first.long;
  kept = λ q h. second.kept q (first.kept q h);
  more = omega (arith, first.more, second.more);
  found = λ n f h. second.found n f (first.found n f h);
}

put_extends : (old new : Search) (q : Visit) (from : Option ℕ) → q.at < length old.seen.items → IsPut old new q from → Extends old new
put_extends old new q from inside put =
    elim put [
      | inl same ↦ record {
        long = ap length same.1;
        kept = λ p h. ap (λ x. holds x p) same.1 ∙ h;
        more = omega (arith, ap length same.2);
        found = λ n f h. ap (λ x. slice_get x n) same.2 ∙ h;
      }
      | inr added ↦ record {
        long = ap length added.seen ∙ length-set old.seen.items q.at _;
        kept = λ p h. ap (λ x. holds x p) added.seen ∙ holds_kept old.seen.items q inside p h;
        more = omega (arith, ap length added.found, length-append old.found.items (record { stop = q; from = from } ∷ []));
        found = λ n f h. ap (λ x. slice_get x n) added.found ∙ get-append_left old.found.items (record { stop = q; from = from } ∷ []) n f h;
      }
    ]

-- what was put is seen
put_seen : (old new : Search) (q : Visit) (from : Option ℕ) → q.at < length old.seen.items → IsPut old new q from → IsTrue (holds new.seen.items q)
put_seen old new q from inside put =
    elim put [
      | inl same ↦ ap (λ x. holds x q) same.1 ∙ same.0
      | inr added ↦ ap (λ x. holds x q) added.seen ∙ holds_added old.seen.items q inside
    ]

-- what leads to a place still does where more is found
pub can_come_on : (m : ModuleValue) (u : UnitValue) (s done : ℕ) (old new : Search) (to : ℕ) (kinds : KindsValue) (from : Option ℕ) → Extends old new
    → IsLatest new.found.items from → CanCome m u s done old to kinds from → CanCome m u s done new to kinds from
can_come_on m u s done old new to kinds from grown latest can = record {
  come = λ k has. came_still m u s old.found.items new.found.items (length old.found.items) (length new.found.items) (visit to k) from grown.found grown.more (can.come k has);
  latest = latest;
  now = can.now;
}

-- nothing is come to from behind the place, where the last to be put isn't
latest_put : (old new : Search) (q : Visit) (from : Option ℕ) → IsPut old new q from → IsLatest old.found.items from → IsLatest new.found.items from
latest_put old new q from put latest =
    elim put [
      | inl same ↦ subst (λ fs. IsLatest fs from) (sym same.2) latest
      | inr added ↦ subst (λ fs. IsLatest fs from) (sym added.found) (latest_added old.found.items q from latest)
    ]

pub has_put_on : (old new : Search) (to : ℕ) (kinds : KindsValue) → Extends old new → HasPut old to kinds → HasPut new to kinds
has_put_on old new to kinds grown put k has = grown.kept (visit to k) (put k has)

-- ---- kinds that are put one after another

abbrev pub five : List Kind
five = kind.Unset ∷ kind.Number ∷ kind.Live ∷ kind.Resumed ∷ kind.Out ∷ []

at_its_place : (k d : Kind) → get_or five (kind_place k) d ≡ k
at_its_place kind.Unset d = refl
at_its_place kind.Number d = refl
at_its_place kind.Live d = refl
at_its_place kind.Resumed d = refl
at_its_place kind.Out d = refl

pub kind_at : (n : ℕ) (k d : Kind) → kind_place k ≡ n → get_or five n d ≡ k
kind_at n k d e = ap (λ x. get_or five x d) (sym e) ∙ at_its_place k d

pub kind_place-lt : (k : Kind) → kind_place k < 5
kind_place-lt kind.Unset = omega arith
kind_place-lt kind.Number = omega arith
kind_place-lt kind.Live = omega arith
kind_place-lt kind.Resumed = omega arith
kind_place-lt kind.Out = omega arith

-- the first n kinds are put
pub record ArePut (old now : Search) (to : ℕ) (kinds : KindsValue) (from : Option ℕ) (n : ℕ) : Type 0 where
  pub grown : Extends old now
  pub put : (k : Kind) → kind_place k < n → IsTrue (kinds_have kinds k) → IsTrue (holds now.seen.items (visit to k))
  pub latest : IsLatest old.found.items from → IsLatest now.found.items from
  pub searched : (m : ModuleValue) (u : UnitValue) (s done : ℕ) → IsSearched m u s old done → CanCome m u s done old to kinds from → IsSearched m u s now done

module _ (old now : Search) (to : ℕ) (kinds : KindsValue) (from : Option ℕ) (n : ℕ) (d : Kind) (b : Bool) (is : b ≡ kinds_have kinds (get_or five n d))
    (so_far : ArePut old now to kinds from n) where
  -- a kind that isn't in the set
  pub are_put_skip : b ≡ false → ArePut old now to kinds from (n + 1)
  are_put_skip out = record {
    grown = so_far.grown;
    put = λ k lt has. elim (cases_lt (kind_place k) n) [
      | inl before ↦ so_far.put k before has
      | inr here ↦
          let same : kind_place k ≡ n = omega arith in
          absurd (true≢false (sym has ∙ ap (kinds_have kinds) (sym (kind_at n k d same)) ∙ sym is ∙ out))
    ];
    latest = so_far.latest;
    searched = so_far.searched;
  }

  -- a kind that is, and is put
  pub are_put_more : (next : Search) → to < length old.seen.items → b ≡ true → IsPut now next (visit to (get_or five n d)) from → ArePut old next to kinds from (n + 1)
  are_put_more next lt has_it put =
      let inside : to < length now.seen.items = omega (arith, so_far.grown.long) in
      let grown = put_extends now next (visit to (get_or five n d)) from inside put in
      record {
        grown = extends_on old now next so_far.grown grown;
        put = λ k below has. elim (cases_lt (kind_place k) n) [
          | inl before ↦ grown.kept (visit to k) (so_far.put k before has)
          | inr here ↦
              let same : kind_place k ≡ n = omega arith in
              subst (λ x. IsTrue (holds next.seen.items (visit to x))) (kind_at n k d same) (put_seen now next (visit to (get_or five n d)) from inside put)
        ];
        latest = λ h. latest_put now next (visit to (get_or five n d)) from put (so_far.latest h);
        searched = λ m u s done first can.
            let on = can_come_on m u s done old now to kinds from so_far.grown (so_far.latest can.latest) can in
            searched_put m u s now next done (visit to (get_or five n d)) from inside put (so_far.searched m u s done first can)
            (on.come (get_or five n d) (sym is ∙ has_it)) on.latest on.now;
      }

pub are_put_none : (r : Search) (to : ℕ) (kinds : KindsValue) (from : Option ℕ) → ArePut r r to kinds from 0
are_put_none r to kinds from = record {
  grown = extends_self r;
  put = λ k lt has. absurd (omega arith);
  latest = λ h. h;
  searched = λ m u s done first come. first;
}
