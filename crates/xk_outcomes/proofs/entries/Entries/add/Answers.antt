use Rattle.std.proofs.Common.{◌≡◌, ◌∙◌, ◌<◌, ◌++◌, ◌∷◌, [], ℕ, Bool, List, length, Some, ap, inr, slice_get, subst, sym}
use Rattle.std.specs.Prelude.{IfNone}
use Rattle.xk_types.specs.Schedule.{all_ended}
use Rattle.xk_outcomes.specs.declared.entries.Edge.{Edge}
use Rattle.xk_outcomes.specs.Entries.{EntriesValue, led_by}
use Rattle.xk_outcomes.specs.Alikeness.{Alikeness}
use Rattle.xk_outcomes.specs.Found.{FoundValue, through}
use Rattle.xk_outcomes.specs.Ways.{way_of, ways_in}
use Rattle.xk_outcomes.specs.Search.{Has, IsFound}
use Rattle.xk_outcomes.proofs.EntriesLemmas.{entries_push, led_push, new_found}
use Rattle.xk_outcomes.proofs.SearchLemmas.{grown_push}
use Rattle.xk_outcomes.proofs.entries.Entries.add.Goals as goal

pub known-requires-clause-found : goal.known-requires-clause-found
known-requires-clause-found c =
    let start = c.self.inside.start in
    let edges = c.self.inside.edges.items in
    let ways : List (List ℕ) = ways_in c.self.inside.ways.items in
    let new = c.args.new.now in
    let x = c.requires.led.0 in
    let same : c.args.self.now.ways ≡ ways = ap (λ (e : EntriesValue). e.ways) (sym c.self.view_is) in
    let leads : new ≡ through (way_of ways c.args.way) x =
    c.requires.led.2 ∙ ap (λ l. through (way_of l c.args.way) x) same in
    let there : slice_get (led_by ways start edges) c.args.from ≡ Some x =
    subst (λ (e : EntriesValue). slice_get e.all c.args.from ≡ Some x) (sym c.self.view_is) c.requires.led.1 in
    subst (λ (e : EntriesValue). IsFound e.start new) c.self.view_is
    (new_found ways start edges c.args.from (way_of ways c.args.way) x new there leads)

pub invariant_of-self-2 : goal.invariant_of-self-2
invariant_of-self-2 c =
    let start = c.self.inside.start in
    let like : Alikeness = record { order = c.self.inside.order; counts = c.self.inside.counts } in
    let edges = c.self.inside.edges.items in
    let ways : List (List ℕ) = ways_in c.self.inside.ways.items in
    let digests = c.self.inside.digests in
    let over = c.self.inside.over.items in
    let new = c.args.new.now in
    let x = c.requires.led.0 in
    let same : c.args.self.now.ways ≡ ways = ap (λ (e : EntriesValue). e.ways) (sym c.self.view_is) in
    let leads : new ≡ through (way_of ways c.args.way) x =
    c.requires.led.2 ∙ ap (λ l. through (way_of l c.args.way) x) same in
    let edge : Edge = record { from = c.args.from; way = c.args.way } in
    let more = c.push_reserved.ensures.items ∙ ap (λ (l : List Edge). l ++ edge ∷ []) c.reserve.ensures.items in
    let ended : c.ended.result ≡ all_ended new.core.world = c.ended.ensures
    ∙ ap (λ (y : FoundValue). all_ended y.core.world) c.new.view_is in
    let still = c.push_reserved-2.ensures.items ∙ ap (λ (l : List Bool). l ++ c.ended.result ∷ []) c.reserve-2.ensures.items
    ∙ ap (λ (b : Bool). over ++ b ∷ []) ended in
    let there : slice_get (led_by ways start edges) c.args.from ≡ Some x =
    subst (λ (e : EntriesValue). slice_get e.all c.args.from ≡ Some x) (sym c.self.view_is) c.requires.led.1 in
    let digest = c.in_ok-push.ensures.more ∙ ap (λ (d : ℕ). digests ++ d ∷ []) c.in_ok-digest.ensures in
    entries_push start like ways edges c.push_reserved.new.self.items digests c.push.new.self over c.push_reserved-2.new.self.items
    c.self.inside.checkpoints.items edge x
    new c.self.invariant (subst (λ (l : List (List ℕ)). c.args.way < length l) same c.requires.way) more
    digest still there leads
    (λ has. subst (λ o. IfNone o (Has c.args.self.now.like c.args.self.now.all new.core.world new.printed → ⊥)) c.in-None.is
    c.in_ok-known.ensures.no (subst (λ (e : EntriesValue). Has e.like e.all new.core.world new.printed) c.self.view_is has))

pub returns-clause-grown : goal.returns-clause-grown
returns-clause-grown c k y h =
    let start = c.self.inside.start in
    let edges = c.self.inside.edges.items in
    let ways : List (List ℕ) = ways_in c.self.inside.ways.items in
    let new = c.args.new.now in
    let x = c.requires.led.0 in
    let same : c.args.self.now.ways ≡ ways = ap (λ (e : EntriesValue). e.ways) (sym c.self.view_is) in
    let leads : new ≡ through (way_of ways c.args.way) x =
    c.requires.led.2 ∙ ap (λ l. through (way_of l c.args.way) x) same in
    let edge : Edge = record { from = c.args.from; way = c.args.way } in
    let more = c.push_reserved.ensures.items ∙ ap (λ (l : List Edge). l ++ edge ∷ []) c.reserve.ensures.items in
    let there : slice_get (led_by ways start edges) c.args.from ≡ Some x =
    subst (λ (e : EntriesValue). slice_get e.all c.args.from ≡ Some x) (sym c.self.view_is) c.requires.led.1 in
    grown_push (led_by ways start edges) (led_by ways start c.push_reserved.new.self.items) new
    (led_push ways start edges c.push_reserved.new.self.items edge x new more there leads) k y
    (subst (λ (e : EntriesValue). slice_get e.all k ≡ Some y) (sym c.self.view_is) h)

pub returns-clause-added : goal.returns-clause-added
returns-clause-added c =
    let start = c.self.inside.start in
    let edges = c.self.inside.edges.items in
    let ways : List (List ℕ) = ways_in c.self.inside.ways.items in
    let new = c.args.new.now in
    let x = c.requires.led.0 in
    let same : c.args.self.now.ways ≡ ways = ap (λ (e : EntriesValue). e.ways) (sym c.self.view_is) in
    let leads : new ≡ through (way_of ways c.args.way) x =
    c.requires.led.2 ∙ ap (λ l. through (way_of l c.args.way) x) same in
    let edge : Edge = record { from = c.args.from; way = c.args.way } in
    let more = c.push_reserved.ensures.items ∙ ap (λ (l : List Edge). l ++ edge ∷ []) c.reserve.ensures.items in
    let there : slice_get (led_by ways start edges) c.args.from ≡ Some x =
    subst (λ (e : EntriesValue). slice_get e.all c.args.from ≡ Some x) (sym c.self.view_is) c.requires.led.1 in
    let one = led_push ways start edges c.push_reserved.new.self.items edge x new more there leads in
    inr (one ∙ ap (λ (e : EntriesValue). e.all ++ new ∷ []) c.self.view_is, c.len-number.ensures.count)
