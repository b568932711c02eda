use Rattle.std.proofs.Common.{◌≡◌, ◌∙◌, ◌<◌, ◌++◌, ℕ, ℤ, List, ap, length, subst, sym, arith}
use Rattle.std.specs.Prelude.{reverse}
use Rattle.std.proofs.lemmas.List.{append-nil}
use Rattle.xk_readings.specs.Stands.{standings}
use Rattle.xk_readings.specs.Ways.{Standing, WaysValue, at}
use Rattle.xk_readings.proofs.StandLemmas.{acts_back, first_way, last_edge, many_ways, numbers_back}
use Rattle.xk_readings.proofs.ways.Ways.reading.Goals as goal

pub loop-last-init : goal.loop-last-init
loop-last-init c =
    let stands = c.self.inside.stands.items in
    let many = many_ways stands in
    let inside : c.args.number < length (standings stands) = subst (λ (w : WaysValue). c.args.number < length w.all)
    (sym c.self.view_is) c.requires in
    record {
      within = omega (arith, many, inside);
      acts = ap (λ (l : List ℕ). (at (standings stands) c.args.number).acts ++ reverse l) c.new-acts.ensures.items
          ∙ append-nil (at (standings stands) c.args.number).acts;
      numbers = ap (λ (l : List ℤ). (at (standings stands) c.args.number).numbers ++ reverse l) c.new-numbers.ensures.items
          ∙ append-nil (at (standings stands) c.args.number).numbers;
    }

pub loop-last-smaller : goal.loop-last-smaller
loop-last-smaller c =
    (last_edge c.self.inside.stands.items c.loop-last.last c.index-stand.result.now c.self.invariant.behind c.loop-last.invariant.within
    c.loop-last-test.true c.index-stand.ensures).0

pub loop-last-preserved : goal.loop-last-preserved
loop-last-preserved c =
    let stands = c.self.inside.stands.items in
    let last = c.loop-last.last in
    let stand = c.index-stand.result.now in
    let is = last_edge stands last stand c.self.invariant.behind c.loop-last.invariant.within c.loop-last-test.true c.index-stand.ensures in
    let less = is.0 in
    let within = c.loop-last.invariant.within in
    record {
      within = omega (arith, less, within);
      acts = acts_back stands last stand c.loop-last.acts.items c.push.new.self.items
          (at (standings stands) c.args.number).acts is.1 c.in_ok-push.ensures.items
          c.loop-last.invariant.acts;
      numbers = numbers_back stands last stand c.loop-last.numbers.items c.keep_printed.new.numbers.items
          (at (standings stands) c.args.number).numbers is.1
          c.in_ok-keep_printed.ensures c.loop-last.invariant.numbers;
    }

pub returns-clause-acts : goal.returns-clause-acts
returns-clause-acts c =
    let stands = c.self.inside.stands.items in
    let over = c.loop-last-test.false in
    let end : c.loop-last.last ≡ 0 = omega (arith, over) in
    c.reverse.ensures.items
    ∙ sym (ap (λ (s : Standing). s.acts ++ reverse c.loop-last.acts.items) (ap (at (standings stands)) end ∙ first_way stands))
    ∙ c.loop-last.invariant.acts ∙ ap (λ (w : WaysValue). (at w.all c.args.number).acts) c.self.view_is

pub returns-clause-numbers : goal.returns-clause-numbers
returns-clause-numbers c =
    let stands = c.self.inside.stands.items in
    let over = c.loop-last-test.false in
    let end : c.loop-last.last ≡ 0 = omega (arith, over) in
    c.reverse-2.ensures.items
    ∙ sym (ap (λ (s : Standing). s.numbers ++ reverse c.loop-last.numbers.items) (ap (at (standings stands)) end ∙ first_way stands))
    ∙ c.loop-last.invariant.numbers ∙ ap (λ (w : WaysValue). (at w.all c.args.number).numbers) c.self.view_is
