use Rattle.std.proofs.Common.{◌∙◌, ◌≤◌, ap, length, arith}
use Rattle.std.proofs.lemmas.List.{take_all}
use Rattle.xk_names.proofs.TableLemmas.{listed, listed_names, names}
use Rattle.xk_names.proofs.table.Texts.to_vec.Goals as goal

pub returns : goal.returns
returns c =
    let all : length c.deref-name-items.result.now ≤ c.loop-name.name-index = (let end = c.loop-name-test.false in grind arith) in
    c.loop-name.invariant ∙ ap listed (take_all c.loop-name.name-index c.deref-name-items.result.now all ∙ c.deref-name-items.ensures.value)
    ∙ listed_names c.self-inside.inside.0.0.entries.items ∙ ap (λ i. names i.names) c.self-inside.view_is ∙ c.self.view_is
