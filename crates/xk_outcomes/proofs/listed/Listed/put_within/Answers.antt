use Rattle.std.proofs.Common.{◌∙◌, sym}
use Rattle.xk_outcomes.proofs.ListedLemmas.{known}
use Rattle.xk_outcomes.proofs.listed.Listed.put_within.Goals as goal

pub returns-then-contains_key-clause-listed : goal.returns-then-contains_key-clause-listed
returns-then-contains_key-clause-listed c there =
    known c.self.inside.logs.entries c.args.self.now c.args.new.numbers.items c.self.view_is (sym c.contains_key.ensures ∙ c.if-contains_key.true)
