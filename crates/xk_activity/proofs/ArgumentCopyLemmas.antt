-- Values that are put behind others, one after the other.
use Rattle.std.specs.Prelude.{slice_index_or}
use Rattle.std.proofs.Common.{◌≡◌, ℕ, suc, ◌+◌, ◌<◌, ◌≤◌, ℤ, pos, Bool, List, [], ◌∷◌, ◌++◌, length, take, get_or, Some, refl, sym, ap, ◌∙◌, arith, slice_get}
use Rattle.std.proofs.lemmas.List.{length-take, length-map}
use Rattle.std.proofs.Math.Seq.{take-suc, take-length}
use Rattle.std.proofs.lemmas.Option.{slice_get_within, slice_get_read, get_or_from_slice_get}
use Rattle.xk_types.specs.declared.world.Value.{Value}
use Rattle.xk_types.specs.declared.world.Value.TheVariants as value
use Rattle.xk_activity.specs.declared.marks.Marks.{Marks}
use Rattle.xk_activity.specs.Slots.{is_marked, value_of, values_of}
use Rattle.xk_activity.specs.FrameStack.{value_at, values_at}
use Rattle.xk_activity.proofs.SlotWordLemmas.{value_read}
use Rattle.xk_activity.proofs.LocalStepLemmas.{values_more}

-- the first of some values, and of the values of slots, are so many
pub first_many : (values : List Value) (i : ℕ) → i ≤ length values → i ≡ length (take i values)
first_many values i le = let l = length-take i values in omega arith

pub handed_many : (slots : List Value) (args : List ℕ) (i : ℕ) → i ≤ length args → i ≡ length (values_at slots (take i args))
handed_many slots args i le = let l = length-take i args in let m = length-map (take i args) (value_at slots) in omega arith

-- a value more is the one that its word and mark stand for
pub one_value_more : (values : List Value) (i : ℕ) (v x : Value) → i < length values → v ≡ get_or values i v → x ≡ v → take i values ++ x ∷ [] ≡ take (i + 1) values
one_value_more values i v x lt e h =
    let same : suc i ≡ i + 1 = omega arith in
    ap (λ y. take i values ++ y ∷ []) (h ∙ sym (get_or_from_slice_get values i v value.Unset (slice_get_read values (length values) i v refl lt e)))
    ∙ sym (take-suc values i value.Unset lt) ∙ ap (λ n. take n values) same

-- the same of a slot of the frame below, whose word and mark are handed on
pub one_slot_more : (marks : Marks) (ns : List ℤ) (args : List ℕ) (i : ℕ) (b : Bool) (n : ℤ) → i < length args → get_or args i 0 < length ns
    → b ≡ is_marked marks (get_or args i 0) → n ≡ slice_index_or ns (get_or args i 0) (pos 0)
    → values_at (values_of marks ns) (take i args) ++ value_of b n ∷ [] ≡ values_at (values_of marks ns) (take (i + 1) args)
one_slot_more marks ns args i b n lt there hb hn =
    sym (values_more (values_of marks ns) args i 0 (value_of b n) lt (value_read marks ns (get_or args i 0) b (value_of b n) there (sym hb) (ap (value_of b) (sym hn))))

-- the same for one value more, and for all
pub same_more : (vs ws : List Value) (i : ℕ) (v w : Value) → slice_get vs i ≡ Some v → slice_get ws i ≡ Some w → v ≡ w → take i vs ≡ take i ws → take (i + 1) vs ≡ take (i + 1) ws
same_more vs ws i v w h g e same =
    let more : i + 1 ≡ suc i = omega arith in
    ap (λ n. take n vs) more ∙ take-suc vs i value.Unset (slice_get_within vs i v h)
    ∙ ap (λ x. take i vs ++ x ∷ []) (get_or_from_slice_get vs i v value.Unset h ∙ e ∙ sym (get_or_from_slice_get ws i w value.Unset g))
    ∙ ap (λ l. l ++ get_or ws i value.Unset ∷ []) same ∙ sym (take-suc ws i value.Unset (slice_get_within ws i w g)) ∙ ap (λ n. take n ws) (sym more)

pub same_all : (vs ws : List Value) (i : ℕ) → take i vs ≡ take i ws → i ≡ length vs → i ≡ length ws → vs ≡ ws
same_all vs ws i same h g = sym (ap (λ n. take n vs) h ∙ take-length vs) ∙ same ∙ ap (λ n. take n ws) g ∙ take-length ws
