use Rattle.std.proofs.Common.{◌∙◌, ◌&&◌, not, true, refl, ap}
use Rattle.xk_outcome_lists.specs.Text.{outcomes_text}
use Rattle.xk_answers.specs.Results.{kept_log, lacks_log}
use Rattle.xk_outcome_answers.proofs.outcome_page.pick_outcome.Goals as goal

pub returns : goal.returns
returns c =
    let found = c.in_ok-found.found in
    let is = c.in_ok-found.ensures in
    let list = found.list.items in
    record {
      text = outcomes_text list found.complete;
      whole = found.complete && not (lacks_log true c.args.pick list);
      found = record {
        taken = c.requires;
        list = list;
        complete = found.complete;
        shown = is.shown;
        distinct = is.distinct;
        all = is.all;
        lone = is.lone;
        plain = is.plain;
        far = record { entries = found.entries; kept = is.kept; met = is.limit; few = is.most };
        order = is.order;
        text_is = refl;
        whole_is = refl;
        log_is = c.in_ok-log.ensures ∙ ap (kept_log true c.args.pick) c.deref.ensures.value;
      };
      count_is = c.len.ensures ∙ found.list.ok.0;
      complete_is = refl;
    }
