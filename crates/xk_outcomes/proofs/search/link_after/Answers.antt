use Rattle.std.proofs.Common.{◌≡◌, ◌∙◌, ◌++◌, ◌∷◌, [], ℕ, ◌+◌, ◌<◌, ◌≤◌, List, inl, inr, Some, ap, arith, subst, sym, length, slice_get}
use Rattle.std.proofs.lemmas.List.{get_or_push, length_push}
use Rattle.std.proofs.lemmas.Option.{slice_get_within}
use Rattle.xk_types.proofs.ListLemmas.{get_push as at_end}
use Rattle.std.specs.Option.{option_to_list}
use Rattle.xk_readings.specs.declared.edge.Edge.{Edge}
use Rattle.xk_outcomes.specs.Found.{FoundValue, through}
use Rattle.xk_outcomes.specs.Links.{AreLinked, HasLink}
use Rattle.xk_outcomes.specs.Search.{HasAfter, IsAdded}
use Rattle.xk_outcomes.specs.Ways.{IsWay, way_of}
use Rattle.xk_outcomes.specs.Alikeness.{Alikeness, counted}
use Rattle.xk_outcomes.proofs.FoundLemmas.{one_behind}
use Rattle.xk_outcomes.proofs.SearchLemmas.{added_link, added_there, grown_push, linked_push, linked_wider}
use Rattle.xk_outcomes.proofs.TripLemmas.{after_trip}
use Rattle.xk_outcomes.proofs.search.link_after.Goals as goal

-- the way that is put behind the others has their number
last_way : (ways wider : List (List ℕ)) (w : List ℕ) (k : ℕ) → k ≡ length ways → wider ≡ ways ++ w ∷ []
    → (k < length wider) × (way_of wider k ≡ w)
last_way ways wider w k at one =
    let many : length wider ≡ length ways + 1 = ap (λ (l : List (List ℕ)). length l) one ∙ length_push ways w in
    (omega (arith, at, many), ap (λ (l : List (List ℕ)). way_of l k) one ∙ get_or_push ways w [] k (sym at))

pub add-requires-clause-way : goal.add-requires-clause-way
add-requires-clause-way c =
    (last_way c.args.all.now.ways c.add_way.new.self.ways c.args.way.items c.in_ok-way.way c.in_ok-way.ensures.added.0
    c.in_ok-way.ensures.added.1).0

pub add-requires-clause-led : goal.add-requires-clause-led
add-requires-clause-led c =
    let here = c.args.here.now in
    let w = last_way c.args.all.now.ways c.add_way.new.self.ways c.args.way.items c.in_ok-way.way c.in_ok-way.ensures.added.0
    c.in_ok-way.ensures.added.1 in (
      here,
      ap (λ all. slice_get all c.args.number) c.add_way.ensures.all ∙ c.requires.there,
      c.requires.trip.to ∙ ap (λ way. through way here) (sym w.1),
    )

pub returns-clause-more : goal.returns-clause-more
returns-clause-more c =
    let old = c.args.links.now.items in
    let l : Edge = record { from = c.args.number; act = c.in_ok-way.way; printed = c.behind-printed.result; to = c.in_ok-to.to } in
    grown_push old c.push_reserved.new.self.items l (c.push_reserved.ensures.items ∙ ap (λ (e : List Edge). e ++ l ∷ []) c.reserve.ensures.items)

pub returns-clause-linked : goal.returns-clause-linked
returns-clause-linked c linked =
    let here = c.args.here.now in
    let m = here.core.module_run in
    let before : c.deref.result.now ≡ here.printed = c.deref.ensures.value ∙ ap (λ (x : FoundValue). x.printed) c.here.view_is in
    let after : c.deref-2.result.now ≡ c.args.new.now.printed = c.deref-2.ensures.value
    ∙ ap (λ (x : FoundValue). x.printed) c.new.view_is in
    let old = c.args.links.now.items in
    let ways = c.args.all.now.ways in
    let wider = c.add_way.new.self.ways in
    let l : Edge = record { from = c.args.number; act = c.in_ok-way.way; printed = c.behind-printed.result; to = c.in_ok-to.to } in
    let t = c.requires.trip in
    let w = last_way ways wider c.args.way.items c.in_ok-way.way c.in_ok-way.ensures.added.0 c.in_ok-way.ensures.added.1 in
    let is : c.args.new.now ≡ through (way_of wider l.act) here = t.to ∙ ap (λ way. through way here) (sym w.1) in
    let all_printed : c.args.new.now.printed ≡ here.printed ++ option_to_list t.said = ap (λ (x : FoundValue). x.printed) t.to
    ∙ t.is_way.prints in
    let said : c.behind-printed.result ≡ t.said =
    c.behind-printed.ensures ∙ ap (λ ns. slice_get c.deref-2.result.now (length ns)) before
    ∙ ap (λ ns. slice_get ns (length here.printed)) (after ∙ all_printed) ∙ one_behind here.printed t.said in
    let is_way : IsWay m here (way_of wider l.act) l.printed =
    subst (IsWay m here (way_of wider l.act)) (sym said) (subst (λ way. IsWay m here way t.said) (sym w.1) t.is_way) in
    let start : AreLinked (counted c.args.all.now.like) m wider c.args.all.now.all old =
    linked_wider (counted c.args.all.now.like) m ways wider c.args.way.items c.args.all.now.all old c.in_ok-way.ensures.added.1 linked in
    let same = c.add_way.ensures.all in
    let like = c.add_way.ensures.like in
    subst (λ (ws : List (List ℕ)). AreLinked (counted c.add.new.self.like) m ws c.add.new.self.all c.push_reserved.new.self.items)
    (sym c.add.ensures.ways)
    (subst (λ (o : Alikeness). AreLinked (counted o) m wider c.add.new.self.all c.push_reserved.new.self.items)
    (sym c.in_ok-to.ensures.like)
    (linked_push m c.add_way.new.self.like wider c.add_way.new.self.all c.add.new.self.all old c.push_reserved.new.self.items l here
    c.args.new.now
    (subst (λ (o : Alikeness). AreLinked (counted o) m wider c.add_way.new.self.all old) (sym like)
    (subst (λ all. AreLinked (counted c.args.all.now.like) m wider all old) (sym same) start))
    (ap (λ all. slice_get all c.args.number) same ∙ c.requires.there) w.0 is is_way c.in_ok-to.ensures.added
    (c.push_reserved.ensures.items ∙ ap (λ (e : List Edge). e ++ l ∷ []) c.reserve.ensures.items)))

pub returns-clause-after : goal.returns-clause-after
returns-clause-after c =
    let here = c.args.here.now in
    let m = here.core.module_run in
    let before : c.deref.result.now ≡ here.printed = c.deref.ensures.value ∙ ap (λ (x : FoundValue). x.printed) c.here.view_is in
    let after : c.deref-2.result.now ≡ c.args.new.now.printed = c.deref-2.ensures.value
    ∙ ap (λ (x : FoundValue). x.printed) c.new.view_is in
    let old = c.args.links.now.items in
    let like = c.add_way.new.self.like in
    let l : Edge = record { from = c.args.number; act = c.in_ok-way.way; printed = c.behind-printed.result; to = c.in_ok-to.to } in
    let one = c.push_reserved.ensures.items ∙ ap (λ (e : List Edge). e ++ l ∷ []) c.reserve.ensures.items in
    let there = added_there like c.add_way.new.self.all c.add.new.self.all c.args.new.now c.in_ok-to.to c.in_ok-to.ensures.added in
    let said = c.behind-printed.ensures ∙ ap (λ ns. slice_get c.deref-2.result.now (length ns)) before
    ∙ ap (λ ns. slice_get ns (length here.printed)) after in
    let link = subst (λ o. HasLink c.push_reserved.new.self.items c.args.number o c.in_ok-to.to) said (added_link old c.push_reserved.new.self.items l one) in
    subst (λ (o : Alikeness). HasAfter m o c.add.new.self.all c.push_reserved.new.self.items c.args.number here c.args.act) (sym c.in_ok-to.ensures.like)
    (after_trip m like c.add.new.self.all c.push_reserved.new.self.items c.args.number
    c.in_ok-to.to here c.args.new.now c.args.act c.args.way.items c.requires.trip there link)

-- what is put behind the others stands there
added_new : (like : Alikeness) (old new : List FoundValue) (x : FoundValue) (k : ℕ) → IsAdded like old new x k → length old ≤ k
    → slice_get new k ≡ Some x
added_new like old new x k (inl h) over = let inside = slice_get_within old k h.1.0 h.1.1 in absurd (omega (arith, inside, over))
added_new like old new x k (inr h) over =
    subst (λ l. slice_get l k ≡ Some x) (sym h.0) (subst (λ j. slice_get (old ++ x ∷ []) j ≡ Some x) (sym h.1) (at_end old x))

pub returns-clause-new : goal.returns-clause-new
returns-clause-new c over =
    let same = c.add_way.ensures.all in
    added_new c.add_way.new.self.like c.add_way.new.self.all c.add.new.self.all c.args.new.now c.in_ok-to.to c.in_ok-to.ensures.added
    (subst (λ (l : List FoundValue). length l ≤ c.in_ok-to.to) (sym same) over)
