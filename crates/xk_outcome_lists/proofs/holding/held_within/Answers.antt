use Rattle.std.proofs.Common.{subst}
use Rattle.xk_outcome_lists.specs.Expected.{AreHeld}
use Rattle.xk_outcome_lists.proofs.holding.held_within.Goals as goal

pub returns : goal.returns
returns c bytes stands told =
    let found = c.in_ok-found.found in
    let said = c.in_ok-held.held in
    record {
      list = found.list.items;
      complete = found.complete;
      shown = c.in_ok-found.ensures.shown;
      distinct = c.in_ok-found.ensures.distinct;
      all = c.in_ok-found.ensures.all;
      lone = c.in_ok-found.ensures.lone;
      plain = c.in_ok-found.ensures.plain;
      far = λ refuted. record {
        entries = found.entries;
        kept = c.in_ok-found.ensures.kept;
        met = c.in_ok-found.ensures.limit;
        few = c.in_ok-found.ensures.most;
      };
      may_stand = stands;
      held = subst (λ texts. AreHeld texts found.list.items found.complete said.text.items said.verdict) told
          (subst (λ list. AreHeld c.args.expected.now list found.complete said.text.items said.verdict)
          c.deref.ensures.value c.in_ok-held.ensures);
    }
