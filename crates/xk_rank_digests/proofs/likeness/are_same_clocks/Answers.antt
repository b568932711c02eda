use Rattle.std.proofs.Common.{length, refl, sym, ap, ◌∙◌, arith}
use Rattle.std.proofs.lemmas.Bool.{false≢true}
use Rattle.xk_law_commute.specs.PlainWorlds.{plain_clock}
use Rattle.xk_core.specs.Alikeness.{IsAlikeClock}
use Rattle.xk_core.specs.Core.{CoreValue}
use Rattle.xk_core.proofs.AlikenessLemmas.{same_maps, maps_same}
use Rattle.xk_ranks.specs.Ranks.{remains}
use Rattle.xk_rank_digests.proofs.RankLikenessLemmas.{below_more, clocks_left}
use Rattle.xk_rank_digests.proofs.likeness.are_same_clocks.Goals as goal

pub returns-then-not-is_same_clock : goal.returns-then-not-is_same_clock
returns-then-not-is_same_clock c = (
  λ q. absurd (false≢true q),
  λ e.
      let yes = c.is_same_clock.ensures.1
      (maps_same plain_clock (remains c.args.one.now.world).clocks (remains c.args.other.now.world).clocks e c.loop-c.c) in
      let no = c.if-not-is_same_clock.true in
      cc,
)

pub loop-c-preserved : goal.loop-c-preserved
loop-c-preserved c = below_more (λ k. IsAlikeClock (remains c.args.one.now.world) (remains c.args.other.now.world) k) c.loop-c.c
    c.loop-c.invariant (c.is_same_clock.ensures.0 c.if-not-is_same_clock.false)

pub returns : goal.returns
returns c =
    let w = c.args.one.now.world in
    let v = c.args.other.now.world in
    let long = clocks_left w in
    let here = ap (λ (d : CoreValue). length d.world.clocks) c.core-core.ensures in (
      λ q. same_maps plain_clock (remains w).clocks (remains v).clocks (clocks_left v ∙ c.requires.clocks ∙ sym long)
          (λ k lt. c.loop-c.invariant k (omega (arith, lt, long, here, c.clocks-c-end.ensures, c.loop-c-test.false))),
      λ e. refl,
    )
