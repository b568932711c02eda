-- place after place
use Rattle.std.proofs.Common.{◌≡◌, true, ◌&&◌, eqb, None, refl, sym, ap, ◌∙◌, subst, arith}
use Rattle.std.proofs.lemmas.Option.{slice_get_within}
use Rattle.std.proofs.lemmas.Bool.{and_from, eq-eqb, true≢false}
use denote.Enum.Bare.{sameb}
use Rattle.xk_types.specs.contracts.rules.Kind.{the_type}
use Rattle.xk_types.specs.declared.rules.Kind.{Kind}
use Rattle.xk_types.specs.declared.rules.Kind.TheVariants as kind
use Rattle.xk_types.specs.declared.rules.Visit.{Visit}
use Rattle.xk_typestate.specs.Place.{visit}
use Rattle.xk_typestate.proofs.WalkBackLemmas.{nowhere_more}
use Rattle.xk_typestate.proofs.walk.place_of.Goals as goal

kind_same : (k : Kind) → sameb the_type k k ≡ true
kind_same kind.Unset = refl
kind_same kind.Number = refl
kind_same kind.Live = refl
kind_same kind.Resumed = refl
kind_same kind.Out = refl

visit_same : (p q : Visit) → p ≡ q → (eqb p.at q.at && sameb the_type p.kind q.kind) ≡ true
visit_same p q e =
    and_from _ _ (eq-eqb p.at q.at (ap (λ (x : Visit). x.at) e)) (subst (λ k. sameb the_type p.kind k ≡ true) (ap (λ (x : Visit). x.kind) e) (kind_same p.kind))

pub loop-i-preserved : goal.loop-i-preserved
loop-i-preserved c =
    nowhere_more c.args.found.now c.args.stop c.loop-i.i (record { stop = visit 0 kind.Unset; from = None }) c.loop-i-test.true
    (λ e. true≢false (sym (visit_same _ c.args.stop e) ∙ sym c.eq.ensures ∙ c.if-eq.false)) c.loop-i.invariant

pub returns : goal.returns
returns c = λ n h. c.loop-i.invariant n (let lt = slice_get_within c.args.found.now n h.0 h.1 in omega arith) h
