use Rattle.std.proofs.Common.{◌∙◌, ◌++◌, ◌∷◌, [], ap, sym}
use Rattle.xk_names.specs.FaultList.{put}
use Rattle.xk_names.proofs.TableLemmas.{put_placed, put_shown}
use Rattle.xk_names.proofs.table.Table.put.Goals as goal

pub invariant_of-self-2 : goal.invariant_of-self-2
invariant_of-self-2 g c =
    put_placed c.self.inside.entries.items c.push.new.self.items c.args.text c.args.a c.len.result c.self.inside.places c.insert.new.self c.self.invariant
    (sym c.contains_key.ensures ∙ c.if-contains_key.false) (c.len.ensures ∙ c.reserve.ensures.len ∙ c.self.inside.entries.ok.0) c.in_ok-insert.ensures.updates
    (c.in_ok-push.ensures.items ∙ ap (λ es. es ++ (c.args.text, c.args.a) ∷ []) c.reserve.ensures.items)

pub returns-clause-entry : goal.returns-clause-entry
returns-clause-entry g c =
    put_shown c.self.inside.entries.items c.push.new.self.items c.args.text c.args.a c.self.inside.places c.self.invariant
    (sym c.contains_key.ensures ∙ c.if-contains_key.false)
    (c.in_ok-push.ensures.items ∙ ap (λ es. es ++ (c.args.text, c.args.a) ∷ []) c.reserve.ensures.items)
    ∙ ap (λ t. put t c.args.text.now c.args.a) c.self.view_is
