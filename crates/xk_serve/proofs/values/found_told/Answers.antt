use Rattle.std.proofs.Common.{◌∙◌, ◌&&◌, map, not, refl, ap}
use Rattle.std.specs.Prelude.{is_some}
use Rattle.xk_outcome_lists.specs.Text.{outcomes_text}
use Rattle.xk_json.specs.Objects.{json_line}
use Rattle.xk_show_json.specs.Outcomes.{outcomes_value}
use Rattle.xk_answers.specs.Results.{kept_log, lists_of}
use Rattle.xk_answers.proofs.PrintedLemmas.{made_there}
use Rattle.xk_serve.proofs.values.found_told.Goals as goal

pub returns : goal.returns
returns c =
    let found = c.in_ok-found.found in
    let is = c.in_ok-found.ensures in
    let list = found.list.items in
    let log = c.in_ok-log.ensures ∙ ap (kept_log c.args.keeps_log c.args.pick) c.deref-3.ensures.value in
    record {
      lines = outcomes_text list found.complete;
      found = record {
        taken = c.requires;
        list = list;
        complete = found.complete;
        shown = is.shown;
        distinct = is.distinct;
        all = is.all;
        lone = is.lone;
        plain = is.plain;
        order = is.order;
        far = record { entries = found.entries; kept = is.kept; met = is.limit; few = is.most };
        text_is = refl;
        whole_is = c.is_whole-whole.ensures
            ∙ ap (λ there. found.complete && not (c.args.keeps_log && not there))
            (c.is_some.ensures ∙ made_there (λ es. es.items) c.in_ok-log.log ∙ ap is_some log);
        log_is = log;
      };
      text_is = c.in_ok-text.ensures.text
          ∙ ap (λ xs. json_line (outcomes_value (map (λ x. x.now) xs) found.complete)) c.deref-2.ensures.value
          ∙ ap (λ l. json_line (outcomes_value l found.complete)) (c.in_ok-lists.ensures ∙ ap lists_of c.deref.ensures.value);
    }
