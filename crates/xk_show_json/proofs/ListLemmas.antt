-- Lists of numbers are a plain value.
use Rattle.std.proofs.Common.{◌≡◌, ℤ, List, subst, sym, arith}
use Rattle.serde_json.specs.Data.{Data}
use Rattle.xk_json.specs.Objects.{array_of, integers_value}
use Rattle.xk_json.specs.Plain.{IsPlain}
use Rattle.xk_json.proofs.ObjectLemmas.{array_plain, plain_deeper}
use Rattle.xk_json.proofs.PlainLemmas.{integers_plain}

pub lists_fit : (lists : List (List ℤ)) (d : Data) → d ≡ array_of integers_value lists → IsPlain 4 d
lists_fit lists d e =
    subst (λ v. IsPlain 4 v) (sym e)
    (plain_deeper 2 4 (array_of integers_value lists) (omega arith) (array_plain 1 integers_value integers_plain lists))
