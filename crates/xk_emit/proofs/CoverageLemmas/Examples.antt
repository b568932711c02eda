-- A small program: what its code leads to, a setting for it, and one that forgets a number.
use Rattle.std.proofs.Common.{◌≡◌, inl, inr, ℕ, pos, Bool, true, false, cond, ◌||◌, List, [], ◌∷◌, codes, Option, Some, None, refl, sym, subst}
use Rattle.std.specs.Prelude.{is_some}
use Rattle.xk_types.specs.declared.unit.ParamKind.TheVariants as param
use Rattle.xk_tree.specs.declared.tree.Binding.TheVariants as binding
use Rattle.xk_tree.specs.declared.tree.Written.TheVariants as written
use Rattle.xk_tree.specs.declared.tree.Number.{Number}
use Rattle.xk_tree.specs.declared.tree.Verb.{Verb}
use Rattle.xk_tree.specs.Tree.{Word, Clocks, Expression, Literal, Named, Make, Value, UpTo, Statement, Statements, Done, More, Block, Declare, For, Async, Call, Print, MethodValue, SharedValue, TreeValue}
use Rattle.std.specs.List.{All}
use Rattle.std.proofs.lemmas.List.Elements.{recursion_from_All}
use Rattle.xk_names.specs.Scope.{is_text}
use Rattle.xk_names.specs.Uses.{signatures}
use Rattle.xk_emit.specs.CodeOf.{Setting, body_params}
use Rattle.xk_emit.specs.NameCoverage.{IsFound, IsUnitCovered}
use Rattle.xk_emit.specs.CodeReferences.{AsyncBody, bodies_in_all, calls_in_all, IsSettled, IsSettingFor}

abbrev w : List ℕ → Word
w text = record { at = 0; text = text }

abbrev x : Expression
x = Named (w (codes "x"))

abbrev number : ℕ → Number
number n = record { minus = None; at = 0; value = pos n }

abbrev verb : Verb
verb = record { at = 0; paren = 0 }

abbrev c : Option Clocks
c = Some (record { written = written.Listed 0 0; names = w (codes "c") ∷ [] })

abbrev calls_m : Statement
calls_m = Call (w (codes "m")) 0 (x ∷ [])

-- `async println(x);`
abbrev inner : Statement
inner = Print 0 verb x

-- `async clocked(c) { async println(x); }`
abbrev outer : Statement
outer = Block 0 (More (Async 20 None inner) Done)

-- `def main() { val x = 1; val c = Clock.make(); async clocked(c) { async println(x); } m(x); for (i in 2..1) { async m(x); } }`
abbrev body : Statements
body =
    More (Declare binding.Val (w (codes "x")) None (Value (Literal (number 1)))) (More (Declare binding.Val (w (codes "c")) None (Make 0 verb))
    (More (Async 10 c outer) (More calls_m (More (For 0 (w (codes "i")) (number 2) (UpTo (number 1)) (Async 30 None calls_m)) Done))))

abbrev main : MethodValue
main = record { name = w (codes "main"); paren = 0; params = []; body = body; close = 0 }

abbrev m : MethodValue
m = record { name = w (codes "m"); paren = 0; params = record { name = w (codes "y"); takes = record { kind = param.Number; at = 0 } } ∷ []; body = Done; close = 0 }

-- `shared s = 0;`
abbrev s : SharedValue
s = record { name = w (codes "s"); start = number 0 }

abbrev program : TreeValue
program = record { shared = s ∷ []; methods = m ∷ main ∷ [] }

abbrev outer_body : AsyncBody
outer_body = record { at = 10; clocks = c; body = outer }

abbrev inner_body : AsyncBody
inner_body = record { at = 20; clocks = None; body = inner }

-- the body in the loop without a turn isn't reached
bodies : bodies_in_all body ≡ outer_body ∷ inner_body ∷ []
bodies = refl

-- nor is the call there
calls : calls_in_all body ≡ w (codes "m") ∷ []
calls = refl

-- both bodies take `x`
abbrev setting : Setting
setting = record {
  shared = (codes "s", 0) ∷ [];
  methods = (codes "m", 3) ∷ [];
  bodies = (10, record { unit = 1; captures = codes "x" ∷ [] }) ∷ (20, record { unit = 2; captures = codes "x" ∷ [] }) ∷ [];
}

is_setting : IsSettingFor setting program main
is_setting = record {
  shared = λ y. one (is_text y (codes "s"));
  methods = λ f h. elim h [ inl e ↦ named f e | inr k ↦ absurd k ];
  bodies = λ b h. elim h [
    | inl e ↦ subst (λ (z : AsyncBody). IsSettled setting (signatures (m ∷ main ∷ [])) (codes "s" ∷ []) z) (sym e)
        (record { entry = record { unit = 1; captures = codes "x" ∷ [] }; there = refl; captures = refl })
    | inr k ↦ elim k [
      | inl e ↦ subst (λ (z : AsyncBody). IsSettled setting (signatures (m ∷ main ∷ [])) (codes "s" ∷ []) z) (sym e)
          (record { entry = record { unit = 2; captures = codes "x" ∷ [] }; there = refl; captures = refl })
      | inr j ↦ absurd j
    ]
  ];
}
  where
    one : (b : Bool) → is_some {T = ℕ} (cond b (Some 0) None) ≡ (b || false)
    one true = refl
    one false = refl

    named : (f : Word) → f ≡ w (codes "m") → IsFound ((codes "m", 3) ∷ []) f.text
    named f e = subst (λ (z : Word). IsFound ((codes "m", 3) ∷ []) z.text) (sym e) refl

-- where the outer body doesn't take what the inner one takes, its code would need a name that isn't there
abbrev forgetful : Setting
forgetful = record {
  shared = (codes "s", 0) ∷ [];
  methods = (codes "m", 3) ∷ [];
  bodies = (10, record { unit = 1; captures = [] }) ∷ (20, record { unit = 2; captures = codes "x" ∷ [] }) ∷ [];
}

forgotten : IsUnitCovered forgetful (body_params forgetful 10 c) outer → ⊥
forgotten h =
    let all : All (IsFound ((codes "c", 0) ∷ [])) (codes "x" ∷ []) = h.body.0.1 in
    let never : false ≡ true = (recursion_from_All (IsFound ((codes "c", 0) ∷ [])) (codes "x" ∷ []) all).0 in
    absurd cc
