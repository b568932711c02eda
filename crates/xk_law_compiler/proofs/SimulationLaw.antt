-- A module that has the code of a program's methods and bodies does what the program says.
use Rattle.std.proofs.Common.{◌≡◌, ℕ, List, [], ◌++◌, map, length, Some, refl, sym, ap, ◌∙◌, subst, inl, codes}
use Rattle.std.proofs.lemmas.List.{length-map}
use Rattle.std.specs.Prelude.{replicate, ◌-◌}
use Rattle.std.specs.Option.{option_map_or}
use Rattle.xk_types.specs.declared.world.Value.{Value as Held}
use Rattle.xk_types.specs.declared.world.Value.TheVariants as value
use Rattle.xk_types.specs.Code.{UnitValue}
use Rattle.xk_types.specs.World.{World, opening, slots_of}
use Rattle.xk_types.specs.Step.{step}
use Rattle.xk_types.specs.Schedule.{Leads}
use Rattle.xk_tree.specs.Tree.{Block, MethodValue}
use Rattle.xk_emit.specs.Unit.{scope_from, first_temporary, names_of_params}
use Rattle.xk_source_semantics.specs.Parts.{OfMethod}
use Rattle.xk_source_semantics.specs.Source.{source_opening, method_of, named, unfolded_all}
use Rattle.xk_source_semantics.specs.Meaning.{Means, moments}
use Rattle.xk_law_compiler.proofs.WorldLemmas.{AreRelated}
use Rattle.xk_law_compiler.proofs.RelationLemmas.{Whole}
use Rattle.xk_law_compiler.proofs.UnitEntryLemmas.{IsBuilt, AreBuilt, matched_known, known_named, unit_rest}
use Rattle.xk_law_compiler.proofs.StepLemmas.{step_follows}
use Rattle.xk_law_compiler.proofs.StepLemmas.ActivityLemmas.{Between, IsAs}
use Rattle.xk_law_compiler.proofs.RunLemmas.{GoesOn, run_follows}

-- the module has a unit for `main`, which is the first, and for what is called and started, and the program's shared numbers
pub record IsMade (cx : Whole) : Type 0 where
  pub built : AreBuilt cx
  pub cells : cx.m.shared ≡ map (λ s. s.start.value) cx.tree.shared
  pub main : MethodValue
  pub named : method_of cx.tree (codes "main") ≡ Some main
  pub first : IsBuilt cx 0 main

-- Each legal run is followed, up to a world in which each activity is at the same place.
pub made_follows : (cx : Whole) → IsMade cx → (list : List ℕ) (w : World) → Leads cx.m list w
    → GoesOn cx.tree (IsAs cx) (source_opening cx.tree w.arguments) (moments (step cx.m) list (opening cx.m w.arguments)) w
made_follows cx c list w h =
    run_follows cx.tree (IsAs cx) cx.m (step_follows cx c.built) (λ x y k. k.status) list (opening cx.m w.arguments) w (source_opening cx.tree w.arguments) start h.1
  where
    xs : List (List ℕ)
    xs = names_of_params c.main.params

    vals : List Held
    vals = map value.Number w.arguments

    -- as many as there are parameters
    long : length vals ≡ length c.main.params
    long =
        length-map w.arguments value.Number ∙ (h.0 ∙ (ap (λ o. length (option_map_or (λ (u : UnitValue). u.params) o [])) c.first.found
        ∙ length-map c.main.params (λ p. p.takes.kind)))

    begins : Between cx (OfMethod c.main) 0 (vals ++ replicate (slots_of cx.m 0 - length vals) value.Unset) (unfolded_all c.main.body) (named c.main.params vals)
    begins = record {
      t = first_temporary xs (Block c.main.close c.main.body);
      scope = scope_from 0 xs;
      matched = matched_known xs vals (replicate (slots_of cx.m 0 - length vals) value.Unset) (named c.main.params vals)
          (known_named [] 0 c.main.params vals long c.first.covered.params);
      rest = unit_rest cx (OfMethod c.main) xs refl c.first.covered c.first.linked;
    }

    start : AreRelated (IsAs cx) (opening cx.m w.arguments) (source_opening cx.tree w.arguments)
    start = record {
      activities = (
        record {
          status = refl;
          opened = refl;
          governed = refl;
          part = OfMethod c.main;
          placed = c.first.placed;
          found = c.first.found;
          stage = inl (subst (λ o. Between cx (OfMethod c.main) 0 (vals ++ replicate (slots_of cx.m 0 - length vals) value.Unset)
              (option_map_or (λ (m : MethodValue). unfolded_all m.body) o []) (option_map_or (λ (m : MethodValue). named m.params vals) o [])) (sym c.named) begins);
          callers = tt;
        },
        tt,
      );
      clocks = tt;
      cells = c.cells;
      quiet = tt;
    }

pub made_means : (cx : Whole) → IsMade cx → Means cx.tree cx.m
made_means cx c list w h = let r = made_follows cx c list w h in record { list = r.list; last = r.last; goes = r.goes; same = r.same; ends = r.ends }
