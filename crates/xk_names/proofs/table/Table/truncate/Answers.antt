use Rattle.std.proofs.Common.{◌∙◌, ◌≤◌, length, arith}
use Rattle.xk_names.proofs.TableLemmas.{pop_placed, pop_shown}
use Rattle.xk_names.proofs.table.Table.truncate.Goals as goal

pub loop-self-preserved-in-Some : goal.loop-self-preserved-in-Some
loop-self-preserved-in-Some g c =
    let kept : c.args.len ≤ length c.pop.new.self.items =
    let test = c.loop-self-test.true in
    let was = c.len.ensures in
    let less = c.in-Some.ensures.len in
    let now = c.pop.new.self.ok.0 in
    grind arith in (
      pop_placed c.loop-self.self-inside.entries.items c.pop.new.self.items (c.in-Some.text, c.in-Some.field-0-1) c.loop-self.self-inside.places c.remove.new.self c.loop-self.invariant.0 c.in-Some.ensures.items
          c.remove.ensures.updates,
      pop_shown c.args.len c.loop-self.self-inside.entries.items c.pop.new.self.items (c.in-Some.text, c.in-Some.field-0-1) kept c.in-Some.ensures.items ∙ c.loop-self.invariant.1,
    )
