use Rattle.std.proofs.Common.{◌≡◌, ◌∙◌, ◌++◌, ◌∷◌, [], ℕ, List, ap}
use Rattle.std.specs.Global.{Vec}
use Rattle.std.proofs.lemmas.List.{map-append}
use Rattle.xk_outcomes.specs.Entries.{EntriesValue}
use Rattle.xk_outcomes.specs.Alikeness.{Alikeness}
use Rattle.xk_outcomes.specs.Ways.{ranks_in, ways_in}
use Rattle.xk_outcomes.proofs.EntriesLemmas.{entries_wider, led_wider}
use Rattle.xk_outcomes.proofs.entries.Entries.add_way.Goals as goal

-- where they lie in memory there is one more
wider_by : (old new : List (Vec ℕ)) (way : Vec ℕ) → new ≡ old ++ way ∷ [] → ways_in new ≡ ways_in old ++ way.items ∷ []
wider_by old new way one = ap ways_in one ∙ map-append ranks_in old (way ∷ [])

pub invariant_of-self-2 : goal.invariant_of-self-2
invariant_of-self-2 c =
    let old = c.self.inside.ways.items in
    let more = c.push_reserved.ensures.items ∙ ap (λ (l : List (Vec ℕ)). l ++ c.args.way ∷ []) c.reserve.ensures.items in
    let like : Alikeness = record { order = c.self.inside.order; counts = c.self.inside.counts } in
    entries_wider c.self.inside.start like (ways_in old) (ways_in c.push_reserved.new.self.items) c.args.way.items c.self.inside.edges.items
    c.self.inside.digests c.self.inside.over.items c.self.inside.checkpoints.items
    (wider_by old c.push_reserved.new.self.items c.args.way more)
    c.self.invariant

pub returns-clause-all : goal.returns-clause-all
returns-clause-all c =
    let old = c.self.inside.ways.items in
    let more = c.push_reserved.ensures.items ∙ ap (λ (l : List (Vec ℕ)). l ++ c.args.way ∷ []) c.reserve.ensures.items in
    led_wider (ways_in old) (ways_in c.push_reserved.new.self.items) c.args.way.items c.self.inside.start c.self.inside.edges.items
    (wider_by old c.push_reserved.new.self.items c.args.way more) c.self.invariant.behind
    ∙ ap (λ (e : EntriesValue). e.all) c.self.view_is
