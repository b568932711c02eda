use Rattle.std.proofs.Common.{inl, inr, refl, sym, ◌∙◌, subst, Decides}
use Rattle.std.proofs.lemmas.Bool.{false≢true}
use Rattle.xk_closed.specs.Unread.{without_cells}
use Rattle.xk_core.specs.Core.{CoreValue}
use Rattle.xk_live_slots.specs.LiveSlots.{live_of}
use Rattle.xk_rank_digests.specs.RankLikeness.{IsLeftAlike}
use Rattle.xk_rank_digests.proofs.likeness.are_alike_by_rank.Goals as goal

pub returns-then-branch : goal.returns-then-branch
returns-then-branch c = (λ q. inl (c.in_ok-are_alike.ensures.0 c.if-branch.true), λ h. refl)

pub returns : goal.returns
returns c =
    let live = live_of c.args.live.now in
    let w = c.args.core.now.world in
    let v = c.args.other.now.world in
    let d : Decides c.in_ok-same.same (IsLeftAlike live (without_cells w) (without_cells v)) =
    subst (λ (z : CoreValue). Decides c.in_ok-same.same (IsLeftAlike live (without_cells z.world) (without_cells v))) c.in_ok-one.ensures
    (subst (λ (z : CoreValue). Decides c.in_ok-same.same
    (IsLeftAlike live (without_cells c.in_ok-one.one.world) (without_cells z.world))) c.in_ok-two.ensures c.in_ok-same.ensures) in (
      λ q. inr (d.0 q),
      λ h. elim h [
        | inl a ↦ absurd (false≢true (sym c.if-branch.false ∙ c.in_ok-are_alike.ensures.1 a))
        | inr b ↦ d.1 b
      ],
    )
