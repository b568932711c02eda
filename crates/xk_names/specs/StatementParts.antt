-- Parts of statements that the code goes through, and their faults. This project's own.
use Rattle.std.specs.Prelude.{List, [], ◌∷◌, ◌++◌, map, length, Option, is_some, if◌then◌else◌}
use Rattle.std.specs.List.{flat_map}
use Rattle.xk_types.specs.declared.unit.ParamKind.{ParamKind}
use Rattle.xk_tree.specs.declared.fault.FrontRule.TheVariants as rule
use Rattle.xk_tree.specs.declared.fault.FrontFault.{FrontFault}
use Rattle.xk_tree.specs.declared.tree.Binding.{Binding}
use Rattle.xk_tree.specs.declared.tree.TypeName.{TypeName}
use Rattle.xk_names.specs.declared.binding.NameKind.TheVariants as kind
use Rattle.xk_names.specs.declared.binding.Want.TheVariants as want
use Rattle.xk_tree.specs.Tree.{Word, Expression, Source, Bound, ParamValue, expression}
use Rattle.xk_names.specs.declared.arguments.Argument.{Argument}
use Rattle.xk_names.specs.Scope.{Scope, find, is_text, declared}
use Rattle.xk_names.specs.Uses.{use_as, numbers, bound_uses, bound_declares, bound_misfits, source_uses, type_misfits, make_misfits, argument_uses, argument_misfits, argument_clocks, given_to}
use Rattle.xk_names.specs.Faults.{fault}
use Rattle.xk_names.specs.FaultList.{again, use_faults, known_call_faults, repeats, when}

abbrev pub argument : Argument → ParamKind × Expression
argument a = (a.takes, expression a.value.now)

abbrev pub arguments : List Argument → List (ParamKind × Expression)
arguments = map argument

-- the faults of a call, where the method takes these parameters, if there is one
abbrev pub call_all : Scope → Word → Option (List ParamValue) → List Expression → List FrontFault
call_all sc g takes es =
    flat_map (use_faults sc) (flat_map (λ a. argument_uses a.0 a.1) (given_to takes es))
    ++ (map (fault rule.WrongKind) (flat_map (λ a. argument_misfits a.0 a.1) (given_to takes es))
    ++ (known_call_faults g es takes
    ++ repeats [] (flat_map (λ a. argument_clocks a.0 a.1) (given_to takes es))))

-- the faults of `atomic x = y + e;`
abbrev pub atomic_faults : Scope → Word → Word → Expression → List FrontFault
atomic_faults sc x y e =
    flat_map (use_faults sc) (use_as want.Shared x ∷ use_as want.Shared y ∷ numbers e)
    ++ map (fault rule.WrongKind) (if is_text x.text y.text then [] else y.at ∷ [])

-- those of a loop of this name and bound
abbrev pub loop_faults : Scope → Word → Bound → List FrontFault
loop_faults sc i b =
    flat_map (use_faults sc) (bound_uses b)
    ++ (flat_map (again sc.names) (declared i kind.Val (length sc.bodies) ∷ bound_declares (length sc.bodies) b)
    ++ (map (fault rule.WrongKind) (bound_misfits i b) ++ []))

-- those of `val x: T = r;` and `var x: T = r;`
abbrev pub declaration_faults : Scope → Binding → Word → Option TypeName → Source → List FrontFault
declaration_faults sc b x ty r =
    flat_map (use_faults sc) (source_uses r)
    ++ (when (is_some (find sc.names x.text)) rule.DuplicateName x.at
    ++ map (fault rule.WrongKind) (type_misfits ty r ++ make_misfits b r))
