use Rattle.std.proofs.Common.{◌∙◌, ◌&&◌, not, ap}
use Rattle.std.specs.Prelude.{is_some}
use Rattle.xk_outcome_lists.specs.Text.{outcomes_text}
use Rattle.xk_answers.specs.Results.{kept_log}
use Rattle.xk_answers.proofs.PrintedLemmas.{made_there}
use Rattle.xk_outcome_answers.proofs.outcome_search.found_out.Goals as goal

pub returns : goal.returns
returns c =
    let complete = c.in_ok-found.found.complete in
    let log = c.in_ok-log.ensures ∙ ap (kept_log c.args.keeps_log c.args.pick) c.deref-2.ensures.value in
    record {
      taken = c.requires;
      list = c.in_ok-found.found.list.items;
      complete = complete;
      shown = c.in_ok-found.ensures.shown;
      distinct = c.in_ok-found.ensures.distinct;
      all = c.in_ok-found.ensures.all;
      lone = c.in_ok-found.ensures.lone;
      plain = c.in_ok-found.ensures.plain;
      far = record { entries = c.in_ok-found.found.entries; kept = c.in_ok-found.ensures.kept; met = c.in_ok-found.ensures.limit; few = c.in_ok-found.ensures.most };
      order = c.in_ok-found.ensures.order;
      text_is = c.in_ok-text.ensures ∙ ap (λ list. outcomes_text list complete) c.deref.ensures.value;
      whole_is = c.is_whole-whole.ensures ∙ ap (λ there. complete && not (c.args.keeps_log && not there)) (c.is_some.ensures ∙ made_there (λ es. es.items) c.in_ok-log.log ∙ ap is_some log);
      log_is = log;
    }
