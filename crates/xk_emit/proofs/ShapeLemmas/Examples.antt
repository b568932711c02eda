-- A small program whose units are what the compiler's are shown to be: so the premises can be met.
use Rattle.std.proofs.Common.{◌≡◌, ℕ, ℤ, zero, suc, pos, Bool, true, false, List, [], ◌∷◌, codes, ◌++◌, ◌<◌, cond, Some, None, refl, subst, arith}
use Rattle.std.specs.Prelude.{slice_get}
use Rattle.std.proofs.lemmas.Option.{none-some, same_Some}
use Rattle.std.proofs.lemmas.List.Elements.{All-from_recursion}
use Rattle.xk_types.specs.declared.rules.Rule.{Rule}
use Rattle.xk_types.specs.declared.unit.UnitKind.TheVariants as unit_kind
use Rattle.xk_types.specs.declared.unit.ParamKind.TheVariants as param
use Rattle.xk_types.specs.Code.{UnitValue, ModuleValue}
use Rattle.xk_types.specs.Shape.{breaks}
use Rattle.xk_tree.specs.declared.tree.Binding.TheVariants as binding
use Rattle.xk_tree.specs.declared.tree.Number.{Number}
use Rattle.xk_tree.specs.Tree.{Word, Named, Value, UpTo, Least, Statement, Done, More, Block, Declare, Atomic, For, Async, Finish, Print}
use Rattle.xk_names.specs.Scope.{is_text}
use Rattle.xk_emit.specs.CodeOf.{Scope, Setting}
use Rattle.xk_emit.specs.Unit.{unit_of}
use Rattle.xk_emit.specs.NameCoverage.{IsFound}
use Rattle.xk_emit.proofs.ShapeLemmas.SharedNumberLemmas.{SharedBelow}
use Rattle.xk_emit.proofs.ShapeLemmas.ModuleLemmas.{IsCompiled, is_left, module_keeps}

abbrev w : List ℕ → Word
w text = record { at = 0; text = text }

abbrev number : ℤ → Number
number n = record { minus = None; at = 0; value = n }

-- shared s; .. finish for (i in 1..3) for (j in 1..Math.min(i, 2)) async { atomic s = s + i; } val r = s; println(r);
abbrev setting : Setting
setting = record { shared = (codes "s", 0) ∷ []; methods = []; bodies = (9, record { unit = 1; captures = codes "i" ∷ [] }) ∷ [] }

abbrev adds : Statement
adds = Atomic (w (codes "s")) (w (codes "s")) 0 (Named (w (codes "i")))

-- the name that the limit has, which no text has
abbrev hidden : Word
hidden = w (32 ∷ [])

abbrev inner : Statement
inner = For 0 (w (codes "j")) (number (pos 1)) (Least hidden (record { at = 0; paren = 0 }) (Named (w (codes "i"))) (number (pos 2))) (Async 9 None adds)

abbrev main : Statement
main = Block 0 (More (Finish 0 (For 0 (w (codes "i")) (number (pos 1)) (UpTo (number (pos 3))) inner))
    (More (Declare binding.Val (w (codes "r")) None (Value (Named (w (codes "s"))))) (More (Print 0 (record { at = 0; paren = 0 }) (Named (w (codes "r")))) Done)))

abbrev main_unit : UnitValue
main_unit = unit_of setting unit_kind.Main [] [] main

abbrev body_unit : UnitValue
body_unit = unit_of setting unit_kind.Body (codes "i" ∷ []) (param.Number ∷ []) adds

abbrev program : ModuleValue
program = record { shared = pos 0 ∷ []; units = main_unit ∷ body_unit ∷ [] }

one_shared : SharedBelow setting 1
one_shared x s h = go (is_text x (codes "s")) h
  where
    go : (b : Bool) → cond b (Some 0) None ≡ Some s → s < 1
    go true e = omega (arith, same_Some 0 s e)
    go false e = absurd (none-some s e)

main_compiled : IsCompiled program 0 main_unit
main_compiled = record {
  cx = setting;
  kind = unit_kind.Main;
  xs = [];
  kinds = [];
  s = main;
  is = refl;
  shared = one_shared;
  covered = record {
    params = tt;
    body = ((λ turns. (tt, refl, (λ more. (refl, (refl, refl), (refl, All-from_recursion (IsFound inside) (codes "i" ∷ []) (refl, tt)))))), ((tt, refl), (refl, tt)));
  };
  names = ((λ turns. ((λ more. tt), tt, (λ more. (tt, tt, tt)))), (tt, (tt, tt)));
  place = refl;
  runs = ((λ turns more. record { v = body_unit; found = refl; is = refl; behind = omega arith; count = refl }), (tt, (tt, tt)));
  params = refl;
  given = ((λ turns more. record { kinds = refl; apart = λ before c after h. absurd (nothing before c after h) }), (tt, (tt, tt)));
}
  where
    inside : Scope
    inside = (codes "i", 0) ∷ (codes "j", 1) ∷ (hidden.text, 2) ∷ []

    nothing : (before : List Word) (c : Word) (after : List Word) → [] ≡ before ++ c ∷ after → ⊥
    nothing [] c after h = cc
    nothing (x ∷ before) c after h = cc

body_compiled : IsCompiled program 1 body_unit
body_compiled = record {
  cx = setting;
  kind = unit_kind.Body;
  xs = codes "i" ∷ [];
  kinds = param.Number ∷ [];
  s = adds;
  is = refl;
  shared = one_shared;
  covered = record { params = (refl, tt); body = (refl, refl) };
  names = tt;
  place = refl;
  runs = tt;
  params = refl;
  given = tt;
}

each_compiled : (unit : ℕ) (u : UnitValue) → slice_get program.units unit ≡ Some u → IsCompiled program unit u
each_compiled zero u h = subst (IsCompiled program 0) (same_Some main_unit u h) main_compiled
each_compiled (suc zero) u h = subst (IsCompiled program 1) (same_Some body_unit u h) body_compiled
each_compiled (suc (suc n)) u h = absurd (none-some u h)

program_keeps : (r : Rule) → is_left r ≡ false → (unit at : ℕ) → breaks program r unit at ≡ false
program_keeps = module_keeps program each_compiled
