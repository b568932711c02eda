use Rattle.serde_json.specs.View.{view}
use Rattle.xk_module.proofs.JsonValueLemmas.{compact_of, written_text, value_named, named_alone}
use Rattle.xk_module.proofs.writing.write_module.Goals as goal

pub returns-clause-text : goal.returns-clause-text
returns-clause-text c = compact_of c.in_ok-text.text (view c.in_ok-value.value) c.args.m.now c.in_ok-value.ensures.value c.in_ok-text.ensures.text

pub returns-clause-reads_back : goal.returns-clause-reads_back
returns-clause-reads_back c =
    written_text c.in_ok-text.text (view c.in_ok-value.value) c.args.m.now c.in_ok-value.ensures.value c.in_ok-value.ensures.range c.in_ok-text.ensures.reads_back

pub returns-clause-fits : goal.returns-clause-fits
returns-clause-fits c = value_named c.args.m.now c.in_ok-value.ensures.range

pub returns-clause-alone : goal.returns-clause-alone
returns-clause-alone c = λ n h. named_alone c.args.m.now n c.in_ok-value.ensures.range h
