use Rattle.std.proofs.Common.{◌∙◌, ◌++◌, ◌∷◌, [], ap}
use Rattle.xk_outcome_lists.proofs.TextLemmas.{texts_pushed}
use Rattle.xk_outcome_lists.proofs.expected.Expected.push.Goals as goal

pub invariant_of-self-2 : goal.invariant_of-self-2
invariant_of-self-2 c =
    texts_pushed c.self.inside.told.items c.push_reserved.new.self.items c.args.text c.self.inside.texts c.insert.new.self
    (c.push_reserved.ensures.items ∙ ap (λ ts. ts ++ c.args.text ∷ []) c.reserve.ensures.items)
    c.self.invariant c.in_ok-insert.ensures.updates
