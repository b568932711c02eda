-- one stop before another
use Rattle.std.proofs.Common.{◌≡◌, suc, ◌+◌, ◌<◌, [], ◌∷◌, length, Some, None, get_or, refl, sym, ap, subst, arith, length-append}
use Rattle.std.proofs.lemmas.List.{length-reverse}
use Rattle.std.proofs.lemmas.Option.{slice_get-get_or}
use Rattle.xk_types.specs.declared.rules.Kind.TheVariants as kind
use Rattle.xk_typestate.specs.Place.{visit}
use Rattle.xk_typestate.specs.SearchStops.{StopsBack}
use Rattle.xk_typestate.specs.declared.fixed_point.Found.{Found}
use Rattle.xk_typestate.proofs.WalkBackLemmas.{IsBack, back_more}
use Rattle.xk_typestate.proofs.walk.walk_back.Goals as goal

pub loop-next-preserved : goal.loop-next-preserved
loop-next-preserved c =
    let found = c.args.found.now in
    let n = c.in-Some.n in
    let none : Found = record { stop = visit 0 kind.Unset; from = None } in
    let f = get_or found n none in
    let lt : n < length found = c.loop-next.invariant.inside n c.in-Some.is in
    let here = slice_get-get_or found n none lt in
    let back = c.loop-next.walk.items in
    record {
      inside = λ k e. let before : k < n = c.requires.order n f k here e in omega arith;
      stops = λ k more.
          let longer : suc k + length back ≡ k + length c.push.new.self.items = omega (arith, ap length c.in_ok-push.ensures.items, length-append back (f.stop ∷ [])) in
          let so_far = c.loop-next.invariant.stops (suc k) (subst (λ o. StopsBack found o (suc k)) (sym c.in-Some.is) (f, here, more)) in
          subst (λ x. StopsBack found (Some c.args.place) x) longer so_far;
      back = λ m u s come. back_more m u s found c.args.place back c.push.new.self.items n f come
          (subst (λ o. IsBack m u s found c.args.place back o) c.in-Some.is (c.loop-next.invariant.back m u s come)) here c.in_ok-push.ensures.items;
    }

pub returns-clause-stops : goal.returns-clause-stops
returns-clause-stops c =
    let found = c.args.found.now in
    let back = c.loop-next.walk.items in
    let whole = c.loop-next.invariant.stops 0 (subst (λ o. StopsBack found o 0) (sym c.in_default.is) refl) in
    let as_long : 0 + length back ≡ length c.reverse.new.self.items = omega (arith, ap length c.reverse.ensures.items, length-reverse back) in
    subst (λ n. StopsBack found (Some c.args.place) n) as_long whole
