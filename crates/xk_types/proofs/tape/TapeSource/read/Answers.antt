use Rattle.std.proofs.Common.{◌≡◌, ℕ, ◌+◌, ◌-◌, ◌<◌, ◌≤◌, List, [], ◌++◌, length, min, take, drop, sym, ap, ◌∙◌, arith}
use Rattle.std.proofs.Math.Seq.{take-length}
use Rattle.std.proofs.lemmas.List.{take-append-le, length-take-le, take-append-drop, nil_from_length, length-append, length-drop, length-take, drop-drop}
use Rattle.std.proofs.lemmas.Grind.{common_steps}
use Rattle.xk_types.proofs.tape.TapeSource.read.Goals as goal

-- all that follows a place is the list without what is before it
rest_of : (xs : List ℕ) (at : ℕ) → take (length xs - at) (drop at xs) ≡ drop at xs
rest_of xs at = rw (← length-drop at xs) (take-length (drop at xs))

-- the n bytes that were copied, and the rest behind them, are what was there
taken_and_left : (xs : List ℕ) (at n : ℕ) (copied after : List ℕ) → copied ≡ take n (drop at xs) → n ≤ length (drop at xs)
    → drop at xs ≡ take n (copied ++ after) ++ drop (at + n) xs
taken_and_left xs at n copied after e h =
    grind (arith, common_steps, take-append-le, length-take-le n (drop at xs), take-append-drop n (drop at xs), drop-drop n at xs)

-- where no byte was given though there was room, none was left
left_at_end : (xs : List ℕ) (at n : ℕ) (buf : List ℕ) → n ≡ min (length (drop at xs)) (length buf) → n ≡ 0 → 0 < length buf → drop (at + n) xs ≡ []
left_at_end xs at n buf e z room =
    nil_from_length (drop (at + n) xs) (simp length-drop (let h : min (length xs - at) (length buf) ≡ n = simp length-drop at (sym e) in omega arith))

pub returns-clause-bytes : goal.returns-clause-bytes
returns-clause-bytes c =
    let items = c.self.inside.input.items in
    let given = c.self.inside.given in
    let n = c.min-count.result in
    let copied = c.copy_from_slice.new.self in
    let buf = c.args.buf.now in
    let rest : take (length c.deref.result.now - given) (drop given c.deref.result.now) ≡ drop given items =
    rest_of c.deref.result.now given ∙ ap (λ xs. drop given xs) c.deref.ensures.value in
    let was : drop given items ≡ c.args.self.now.rest = ap (λ t. t.rest) (c.self.view_is ∙ c.is_set_to_fail.ensures.counted) in
    let count : n ≡ min (length (drop given items)) (length buf) = rw rest at c.min-count.ensures in
    let same : copied ≡ take n (drop given items) = rw rest at c.copy_from_slice.ensures.after in
    rw (← was) (
      taken_and_left items given n copied _ same (omega arith),
      λ z room. left_at_end items given n buf count z
          (let h : length copied + (length buf - n) ≡ length (copied ++ drop n buf) = sym (simp (length-append, length-drop)) in
          let k : length copied ≡ min n (length buf) = c.copy_from_slice.ensures.len ∙ length-take n buf in omega arith),
    )
