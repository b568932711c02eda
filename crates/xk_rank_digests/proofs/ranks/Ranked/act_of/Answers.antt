use Rattle.std.proofs.Common.{length, Some, sym, ap, ◌∙◌, subst, arith}
use Rattle.std.proofs.lemmas.Option.{slice_get-get_or}
use Rattle.xk_core.specs.Core.{CoreValue}
use Rattle.xk_ranks.specs.Ranks.{going, rank}
use Rattle.xk_rank_digests.specs.Numbers.{IsOfRank}
use Rattle.xk_rank_digests.proofs.RankLikenessLemmas.{many_left, marked_there}
use Rattle.xk_rank_digests.proofs.ranks.Ranked.act_of.Goals as goal

pub index-requires : goal.index-requires
index-requires c =
    let many = c.self.invariant.numbers_are.many in
    let same = ap (λ (v : CoreValue). rank (going v.world.activities) (length (going v.world.activities))) c.self.view_is in
    let left = many_left c.args.self.now.world in
    let less = c.requires in
    omega (arith, many, same, left, less)

pub returns-clause-of : goal.returns-clause-of
returns-clause-of c =
    let many = c.self.invariant.numbers_are.many in
    let same = ap (λ (v : CoreValue). rank (going v.world.activities) (length (going v.world.activities))) c.self.view_is in
    let left = many_left c.args.self.now.world in
    let less = c.requires in
    subst (λ (v : CoreValue). IsOfRank (going v.world.activities) c.index.result.now c.args.rank) c.self.view_is
    (c.self.invariant.numbers_are.each c.args.rank c.index.result.now
    (slice_get-get_or c.self.inside.numbers.items c.args.rank c.index.result.now (omega (arith, many, same, left, less))
    ∙ ap Some (sym c.index.ensures)))

pub returns-clause-there : goal.returns-clause-there
returns-clause-there c = marked_there c.args.self.now.world c.index.result.now c.args.rank (returns-clause-of c)
