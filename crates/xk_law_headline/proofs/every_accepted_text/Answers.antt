-- The law over every schedule, and that a compiled program means its source.
use Rattle.xk_syntax.proofs.AsyncOffsetLemmas.{bodies_apart}
use Rattle.xk_law_headline.proofs.every_accepted_text.Goals as goal

pub returns : goal.returns
returns c = λ bytes m p accepted.
    record {
      schedules = c.every_accepted_module.ensures m p.limits accepted;
      of_the_text = c.means_its_source.ensures p.tree m p.clean (bodies_apart bytes p.tree p.spelled.1) p.limits.units p.code;
    }
