use Rattle.serde_json.specs.View.{view}
use Rattle.xk_json.proofs.ObjectLemmas.{put_in_plain}
use Rattle.xk_json.proofs.object.Object.put.Goals as goal

pub invariant_of-self : goal.invariant_of-self
invariant_of-self c = record {
  plain = put_in_plain c.put.result c.args.key.now (view c.args.value) c.args.self.now.members.entries _ c.put.ensures.ok c.put.ensures.err c.requires c.args.self.now.plain;
}
