use Rattle.std.proofs.Common.{◌≡◌, ◌∙◌, length, ap, arith}
use Rattle.std.specs.Prelude.{max}
use Rattle.xk_show_names.specs.Events.{account_words}
use Rattle.xk_show_lanes.proofs.LaneLemmas.{longest_more}
use Rattle.xk_show_lanes.proofs.named_lanes.longest_words.Goals as goal

pub loop-account-preserved : goal.loop-account-preserved
loop-account-preserved c =
    let text = c.in_ok-text.text in
    let long : c.len.result ≡ text.bytes.len = c.len.ensures in (
      longest_more (account_words c.args.names.now) c.args.steps.now c.loop-account.account-index _ c.loop-account.most
          c.greater-most.result c.loop-account-test.true c.loop-account.invariant.0
          (c.greater-most.ensures ∙ ap (max c.loop-account.most) (long ∙ text.bytes.ok.0 ∙ ap length c.in_ok-text.ensures)),
      omega (arith, c.greater-most.ensures, c.loop-account.invariant.1, long, text.bytes.ok.1, text.bytes.small),
    )
