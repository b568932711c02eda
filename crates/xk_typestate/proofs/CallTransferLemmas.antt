-- What a call leaves of a kind: what its arguments ask of the slot, and then what the method leaves.
use Rattle.std.proofs.Common.{◌≡◌, ◌==◌, ℕ, Bool, List, Ok, sym, ap, ◌∙◌, subst}
use Rattle.std.specs.List.{list_any}
use Rattle.xk_types.specs.declared.rules.Kind.{Kind}
use Rattle.xk_types.specs.Code.{ModuleValue, params_of}
use Rattle.xk_types.specs.Walk.{After, gives, across, is_lent}
use Rattle.xk_shape.specs.Arguments.{ArgumentsValue, clocks}
use Rattle.xk_typestate.specs.KindSet.{KindsValue}
use Rattle.xk_typestate.specs.Transfer.{IsRow}

-- what it gives are the arguments of the call
pub record GivesCalled (m : ModuleValue) (t : ℕ) (args : List ℕ) (a : ArgumentsValue) : Type 0 where
  pub params : a.params ≡ params_of m t
  pub slots : a.slots ≡ args

module _ (m : ModuleValue) (t s : ℕ) (args : List ℕ) (k : Kind) (a : ArgumentsValue) (lent : Bool) (left : KindsValue) where
  pub call_row : GivesCalled m t args a → lent ≡ list_any (λ x. x == s) (clocks a) → ((go : After) → gives a.params a.slots s k go ≡ go) → IsRow (across lent k) (Ok left)
      → IsRow (gives (params_of m t) args s k (across (is_lent (params_of m t) args s) k)) (Ok left)
  call_row called lent_is given row =
      let go : After = across (list_any (λ x. x == s) (clocks a)) k in
      let path : across lent k ≡ gives (params_of m t) args s k (across (is_lent (params_of m t) args s) k) =
      ap (λ b. across b k) lent_is
      ∙ sym (given go)
      ∙ ap (λ ps. gives ps a.slots s k (across (is_lent ps a.slots s) k)) called.params
      ∙ ap (λ xs. gives (params_of m t) xs s k (across (is_lent (params_of m t) xs s) k)) called.slots
      in
      subst (λ w. IsRow w (Ok left)) path row
