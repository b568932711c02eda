use Rattle.std.proofs.Common.{inr, arith}
use Rattle.xk_readings.proofs.walk.list_ending.Goals as goal

pub returns-in_ok-push-in-Some-2-clause-listed : goal.returns-in_ok-push-in-Some-2-clause-listed
returns-in_ok-push-in-Some-2-clause-listed c =
    let found = c.in-Some.ensures.found in
    let less = c.if-len-limit.false in
    let count = c.len.ensures in
    let kept = c.args.walk.now.list.ok.0 in
    inr (
      omega (arith, less, count, kept),
      record {
        number = c.in-Some.field-0;
        reading = c.in_ok-reading-in-Some-2.reading;
        behind = found.0;
        within = found.1;
        ends = found.2;
        listed = c.in_ok-push-in-Some-2.ensures.items;
        acts = c.in_ok-reading-in-Some-2.ensures.acts;
        numbers = c.in_ok-reading-in-Some-2.ensures.numbers;
      },
    )
