-- Sets of kinds with one more.
use Rattle.std.proofs.Common.{◌≡◌, ◌+◌, false, IsTrue, ◌⊎◌, inl, inr, refl, ap, arith}
use Rattle.xk_types.specs.declared.rules.Kind.{Kind}
use Rattle.xk_types.specs.declared.rules.Kind.TheVariants as kind
use Rattle.xk_typestate.specs.KindSet.{KindsValue, kinds_have, kinds_with, no_kinds}
use Rattle.xk_typestate.specs.Search.{one_unless, kinds_absent}

pub have_added : (s : KindsValue) (k : Kind) → IsTrue (kinds_have (kinds_with s k) k)
have_added s kind.Unset = refl
have_added s kind.Number = refl
have_added s kind.Live = refl
have_added s kind.Resumed = refl
have_added s kind.Out = refl

pub have_kept : (s : KindsValue) (k x : Kind) → IsTrue (kinds_have s x) → IsTrue (kinds_have (kinds_with s k) x)
have_kept s kind.Unset kind.Unset h = refl
have_kept s kind.Number kind.Number h = refl
have_kept s kind.Live kind.Live h = refl
have_kept s kind.Resumed kind.Resumed h = refl
have_kept s kind.Out kind.Out h = refl
have_kept s k x h = h

pub have_only : (s : KindsValue) (k x : Kind) → IsTrue (kinds_have (kinds_with s k) x) → (x ≡ k) ⊎ IsTrue (kinds_have s x)
have_only s kind.Unset kind.Unset h = inl refl
have_only s kind.Number kind.Number h = inl refl
have_only s kind.Live kind.Live h = inl refl
have_only s kind.Resumed kind.Resumed h = inl refl
have_only s kind.Out kind.Out h = inl refl
have_only s k x h = inr h

pub absent_with : (s : KindsValue) (k : Kind) → kinds_have s k ≡ false → kinds_absent (kinds_with s k) + 1 ≡ kinds_absent s
absent_with s kind.Unset h = omega (arith, ap one_unless h)
absent_with s kind.Number h = omega (arith, ap one_unless h)
absent_with s kind.Live h = omega (arith, ap one_unless h)
absent_with s kind.Resumed h = omega (arith, ap one_unless h)
absent_with s kind.Out h = omega (arith, ap one_unless h)

pub none_have : (k : Kind) → kinds_have no_kinds k ≡ false
none_have kind.Unset = refl
none_have kind.Number = refl
none_have kind.Live = refl
none_have kind.Resumed = refl
none_have kind.Out = refl
