-- The graph of parts that is made of tables of their places.
use Rattle.std.proofs.Common.{◌≡◌, ℕ, suc, ◌<◌, List, [], ◌∷◌, ◌++◌, map, length, Some, slice_get, refl, sym, ap, ◌∙◌, arith}
use Rattle.std.specs.Prelude.{unwrap_or, codes}
use Rattle.std.proofs.lemmas.List.{length-map}
use Rattle.std.proofs.lemmas.Option.{slice_get_within}
use Rattle.xk_tree.specs.Tree.{TreeValue}
use Rattle.xk_names.specs.Scope.{find}
use Rattle.xk_names.specs.WellScoped.{IsScoped}
use Rattle.xk_numbering.specs.declared.parts.Part as declared
use Rattle.xk_source_semantics.specs.Parts.{Part, Run, Calls, Starts, opening, parts, part_runs, place_of}
use Rattle.xk_numbering.specs.Views.{part}
use Rattle.xk_numbering.specs.PartPlaces.{Places, ArePlaces, place_in}
use Rattle.xk_source_semantics.specs.PartGraph.{place_or_last, graph, graph_by, IsOrder}
use Rattle.xk_law_compiler.proofs.UnitLemmas.PartLookupLemmas.{fits_there}
use Rattle.xk_law_compiler.proofs.UnitLemmas.NestingLemmas.{main_place}
use Rattle.xk_numbering.proofs.UnitOrderLemmas.{graph_length, is_first, is_there}

same_place : (ps : List Part) (q : Places) → ArePlaces ps q → (r : Run) → place_in q r ≡ place_or_last ps r
same_place ps q h (Calls g) = ap (λ o. unwrap_or o q.other) (h.methods g.text) ∙ ap (unwrap_or (place_of ps (Calls g))) h.other
same_place ps q h (Starts at) = ap (λ o. unwrap_or o q.other) (h.bodies at) ∙ ap (unwrap_or (place_of ps (Starts at))) h.other

same_map : {A B : Type 0} (f g : A → B) → ((x : A) → f x ≡ g x) → (xs : List A) → map f xs ≡ map g xs
same_map f g h [] = refl
same_map f g h (x ∷ xs) = ap (λ y. y ∷ map f xs) (h x) ∙ ap (λ ys. g x ∷ ys) (same_map f g h xs)

same_graph : (f g : Run → ℕ) → ((r : Run) → f r ≡ g r) → (ps : List Part) → graph_by f ps ≡ graph_by g ps
same_graph f g h ps = ap (λ (adjacency : List (List ℕ)). adjacency ++ [] ∷ []) (same_map (λ p. map f (part_runs p)) (λ p. map g (part_runs p)) (λ p. same_map f g h (part_runs p)) ps)

pub is_graph : (t : TreeValue) (ps : List Part) (q : Places) (adjacency : List (List ℕ)) → ps ≡ parts t → ArePlaces ps q → adjacency ≡ graph_by (place_in q) ps
    → adjacency ≡ graph (parts t)
is_graph t ps q adjacency are places is =
    is ∙ same_graph (place_in q) (place_or_last ps) (same_place ps q places) ps ∙ ap graph are

-- the place that the table has for `main`
pub main_there : (t : TreeValue) (ps : List Part) (q : Places) (n : ℕ) → IsScoped t → ps ≡ parts t → ArePlaces ps q
    → n ≡ unwrap_or (find q.methods (codes "main")) q.other
    → place_of (parts t) opening ≡ Some n
main_there t ps q n scoped are places is =
    let m = main_place t scoped in
    let there : place_of ps opening ≡ Some m.0 = ap (λ (l : List Part). place_of l opening) are ∙ m.1 in
    let same : n ≡ m.0 = is ∙ ap (λ o. unwrap_or o q.other) (places.methods (codes "main") ∙ there) in
    m.1 ∙ ap Some (sym same)

pub main_within : (t : TreeValue) (n : ℕ) (adjacency : List (List ℕ)) → place_of (parts t) opening ≡ Some n → adjacency ≡ graph (parts t) → n < length adjacency
main_within t n adjacency e is =
    let f = fits_there (parts t) opening n e in
    let short = slice_get_within (parts t) n f.part f.stands in
    let long : length adjacency ≡ suc (length (parts t)) = ap length is ∙ graph_length (place_or_last (parts t)) (parts t) in
    omega arith

pub order_within : (t : TreeValue) (found : List declared.Part) (order : List ℕ) → IsScoped t → map part found ≡ parts t → IsOrder t order → (k i : ℕ)
    → slice_get order k ≡ Some i
    → i < length found
order_within t found order scoped are o k i e =
    let h = is_there (parts t) i (is_first t scoped o.start i o.begins (o.reached k i e)) in
    let long : length (parts t) ≡ length found = ap length (sym are) ∙ length-map found part in
    omega arith
