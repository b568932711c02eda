use Rattle.std.proofs.Common.{get_or, arith}
use Rattle.xk_readings.specs.declared.branches.Group.{Group}
use Rattle.xk_readings.proofs.BranchLemmas.{grouped_more, no_branch}
use Rattle.xk_readings.proofs.ListLemmas.{read}
use Rattle.xk_readings.proofs.branches.add_groups.Goals as goal

pub loop-at-preserved : goal.loop-at-preserved
loop-at-preserved c =
    let branches = c.args.branches.now in
    let place = c.in_ok-at.at in
    let less = c.in_ok-at.ensures.less in
    let most = c.loop-at.invariant.within in
    let group : Group = record { from = c.len-from.result; to = c.len-to.result } in
    record {
      within = omega (arith, less, most);
      grouped = grouped_more branches place c.loop-at.at c.args.ways.now c.loop-at.ways c.add_group.new.ways c.args.groups.now.items
          c.loop-at.groups.items c.push.new.self.items group
          (get_or branches place no_branch) (λ i b h. (c.requires i b h).0) c.loop-at.invariant.grouped c.in_ok-at.ensures
          (read branches place no_branch (omega (arith, less, most))) c.len-from.ensures c.len-to.ensures c.in_ok-push.ensures.items;
    }
