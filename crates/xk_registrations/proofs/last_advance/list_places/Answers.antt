use Rattle.std.proofs.Common.{length, ap, ◌∙◌, arith, ℕ, Vec, Global}
use Rattle.std.specs.Vec.{vec_capacity}
use Rattle.xk_collections.proofs.RisingListLemmas.{members_few}
use Rattle.xk_registrations.proofs.LastAdvanceLemmas.{is_noted, place_found, place_passed}
use Rattle.xk_registrations.proofs.last_advance.list_places.Goals.{then-numbers-place, else-numbers-place}
use Rattle.xk_registrations.proofs.last_advance.list_places.Goals as goal

pub push_reserved-requires : goal.push_reserved-requires
push_reserved-requires c =
    omega (
      arith,
      ap length c.loop-place.invariant.so_far,
      members_few (is_noted c.args.numbers.now c.args.number) c.loop-place.place,
      c.loop-place-test.true,
      c.loop-place.invariant.room,
      c.requires.room,
    )

pub loop-place-preserved : goal.loop-place-preserved
loop-place-preserved c =
    elim c.if-numbers-place.branch [
      | then-numbers-place w ↦ record {
        so_far = place_found c.args.numbers.now c.args.number c.loop-place.place c.loop-place.list.items c.if-numbers-place.list.items c.loop-place.invariant.so_far
            w.if-numbers-place.true (ap (λ (v : Vec ℕ Global). v.items) w.list-is ∙ w.push_reserved.ensures.items);
        room = omega (arith, c.loop-place.invariant.room, ap (λ (v : Vec ℕ Global). vec_capacity v) w.list-is, w.push_reserved.ensures.capacity);
      }
      | else-numbers-place w ↦ record {
        so_far = place_passed c.args.numbers.now c.args.number c.loop-place.place c.loop-place.list.items c.if-numbers-place.list.items c.loop-place.invariant.so_far
            w.if-numbers-place.false (ap (λ (v : Vec ℕ Global). v.items) w.list-is);
        room = omega (arith, c.loop-place.invariant.room, ap (λ (v : Vec ℕ Global). vec_capacity v) w.list-is);
      }
    ]
