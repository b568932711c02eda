use Rattle.std.proofs.Common.{◌∙◌, ap, refl}
use Rattle.xk_outcome_answers.proofs.outcome_count.counted_out.Goals as goal

pub returns : goal.returns
returns c = record {
  taken = c.requires;
  counted = c.in_ok-counted.counted;
  least = c.in_ok-counted.ensures.least;
  exact = c.in_ok-counted.ensures.exact;
  lone = c.in_ok-counted.ensures.lone;
  far = c.in_ok-counted.ensures.far;
  cut = c.in_ok-counted.ensures.cut;
  text_is = ap (λ v. v.items) c.into_bytes.ensures.value ∙ c.in_ok-line.ensures;
  whole_is = refl;
  log_is = refl;
}
