use Rattle.std.proofs.Common.{◌≡◌, ◌∙◌, ◌++◌, ◌∷◌, [], List, Some, ap, slice_get, subst, sym}
use Rattle.xk_outcomes.specs.declared.checkpoint.Checkpoint.{Checkpoint}
use Rattle.xk_outcomes.specs.Entries.{EntriesValue, led_by}
use Rattle.xk_outcomes.specs.Ways.{ways_in}
use Rattle.xk_outcomes.proofs.CheckpointLemmas.{checkpoints_push}
use Rattle.xk_outcomes.proofs.entries.Entries.keep.Goals as goal

pub invariant_of-self-2 : goal.invariant_of-self-2
invariant_of-self-2 c =
    let start = c.self.inside.start in
    let edges = c.self.inside.edges.items in
    let kept : Checkpoint = record { number = c.args.number; found = c.args.x } in
    let more = c.push_reserved.ensures.items ∙ ap (λ (l : List Checkpoint). l ++ kept ∷ []) c.reserve.ensures.items in
    let is : slice_get (led_by (ways_in c.self.inside.ways.items) start edges) c.args.number ≡ Some c.args.x =
    subst (λ (e : EntriesValue). slice_get e.all c.args.number ≡ Some c.args.x) (sym c.self.view_is) c.requires in
    record {
      root = c.self.invariant.root;
      counting = c.self.invariant.counting;
      behind = c.self.invariant.behind;
      digests_are = c.self.invariant.digests_are;
      over_are = c.self.invariant.over_are;
      checkpoints_are = checkpoints_push (led_by (ways_in c.self.inside.ways.items) start edges) c.self.inside.checkpoints.items
          c.push_reserved.new.self.items kept more is
          c.self.invariant.checkpoints_are;
      different = c.self.invariant.different;
    }
