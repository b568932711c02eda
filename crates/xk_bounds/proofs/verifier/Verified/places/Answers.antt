use Rattle.std.proofs.Common.{◌≡◌, ◌<◌, ◌+◌, [], Some, length, min, slice_get, refl, sym, ap, ◌∙◌, subst, arith}
use Rattle.std.proofs.lemmas.Option.{slice_get_read}
use Rattle.std.specs.List.{count_by}
use Rattle.std.specs.Option.{option_map_or}
use Rattle.xk_types.specs.Blocks.{takes_clock}
use Rattle.xk_types.specs.Bound.{given_to, made_of}
use Rattle.xk_bounds.proofs.RoomLemmas.{made_few}
use Rattle.xk_bounds.proofs.verifier.Verified.places.Goals as goal

pub overflow_add-most : goal.overflow_add-most
overflow_add-most c =
    let few = c.clocks_given-given.ensures.few in
    let made = c.room.ensures.made in
    let small = made_few c.args.self.now c.module.ensures.limits c.args.unit in
    omega arith

pub returns : goal.returns
returns c =
    let m = c.args.self.now in
    let unit = c.args.unit in
    let us = c.units.result.now in
    let u = c.index-units-unit.result in
    let listed : us ≡ m.units = c.units.ensures.listed ∙ ap (λ n. n.units) c.module.ensures.same in
    let inside : unit < length us = subst (λ vs. unit < length vs) (sym listed) c.requires in
    let found : slice_get m.units unit ≡ Some u = subst (λ vs. slice_get vs unit ≡ Some u) listed (slice_get_read us (length us) unit u refl inside c.index-units-unit.is) in
    let given : c.clocks_given-given.result ≡ given_to m unit =
    c.clocks_given-given.ensures.given ∙ ap (λ o. count_by (λ p. takes_clock (Some p)) (option_map_or (λ v. v.params) o [])) (sym found) in
    c.min.ensures
    ∙ ap (λ n. min (n + c.room.result.made) c.clocks.result) given
    ∙ ap (λ n. min (given_to m unit + n) c.clocks.result) c.room.ensures.made
    ∙ ap (λ n. min (given_to m unit + made_of m unit) n) c.clocks.ensures
