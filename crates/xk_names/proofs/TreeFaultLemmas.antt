-- The faults of a tree: those of the list are those that the tree has.
use Rattle.std.proofs.Common.{◌≡◌, ◌⊎◌, inl, inr, ℕ, Bool, true, false, cond, ◌||◌, List, [], ◌∷◌, ◌++◌, map, Some, refl, sym, ap, ◌∙◌, subst, append_assoc, append-nil}
use Rattle.std.specs.Prelude.{is_some}
use Rattle.std.specs.List.{flat_map}
use Rattle.xk_tree.specs.declared.fault.FrontRule.TheVariants as rule
use Rattle.xk_tree.specs.declared.fault.FrontFault.{FrontFault}
use Rattle.xk_tree.specs.Tree.{MethodValue, TreeValue}
use Rattle.xk_names.specs.declared.binding.Known.{Known}
use Rattle.xk_names.specs.Scope.{Table, find, has, is_text, Has, Declaration, entries, texts, Scope}
use Rattle.xk_names.specs.Uses.{Signatures, signature, signatures}
use Rattle.xk_names.specs.Places.{Way, declared_among, bodies_among}
use Rattle.xk_names.specs.Faults.{fault, Breaks, shared_declaration, param_declaration, declared_before, scope_in, RepeatsName, HasNameFault, InShared, InMethods, InParams, InBody}
use Rattle.xk_names.specs.WellScoped.{method_scope}
use Rattle.xk_names.specs.FaultList.{put, put_all, put_methods, when, again, among, declared_again, methods_again, method_faults, name_faults}
use Rattle.xk_names.proofs.MembershipLemmas.{has_left, has_right, has_either, from_flat, to_flat}
use Rattle.xk_names.proofs.TableAgreementLemmas.{FindsSame, Agrees, put_same, put_all_same, put_methods_same, append_step}
use Rattle.xk_names.proofs.StatementFaultLemmas.{from_when, to_when}
use Rattle.xk_names.proofs.MethodFaultLemmas.{held_among, listed_among, among_once, append_entries}

-- ---- lists of declarations

pub append_signatures : (ds es : List MethodValue) → signatures (ds ++ es) ≡ signatures ds ++ signatures es
append_signatures [] es = refl
append_signatures (d ∷ ds) es = ap (λ r. signature d ∷ r) (append_signatures ds es)

-- a name is found where it is among the names
pub names_found : (ds : List Declaration) (x : List ℕ) → is_some (find (entries ds) x) ≡ has (texts (map (λ d. d.name) ds)) x
names_found [] x = refl
names_found (d ∷ ds) x = go (is_text x d.name.text) (names_found ds x)
  where
    go : (b : Bool) → is_some (find (entries ds) x) ≡ has (texts (map (λ d. d.name) ds)) x
        → is_some (cond b (Some d.known) (find (entries ds) x)) ≡ (b || has (texts (map (λ d. d.name) ds)) x)
    go true h = refl
    go false h = h

pub methods_found : (ms : List MethodValue) (x : List ℕ) → is_some (find (signatures ms) x) ≡ has (texts (map (λ m. m.name) ms)) x
methods_found [] x = refl
methods_found (m ∷ ms) x = go (is_text x m.name.text) (methods_found ms x)
  where
    go : (b : Bool) → is_some (find (signatures ms) x) ≡ has (texts (map (λ m. m.name) ms)) x
        → is_some (cond b (Some m.params) (find (signatures ms) x)) ≡ (b || has (texts (map (λ m. m.name) ms)) x)
    go true h = refl
    go false h = h

from_again : (kept : Table Known) (seen ds : List Declaration) (f : FrontFault) → FindsSame kept (entries seen) → Has (declared_again kept ds) f
    → (before : List Declaration) × ((d : Declaration) × ((after : List Declaration) × (ds ≡ before ++ d ∷ after)
    × (has (texts (map (λ e. e.name) (seen ++ before))) d.name.text ≡ true) × (f ≡ fault rule.DuplicateName d.name.at)))
from_again kept seen [] f same h = absurd h
from_again kept seen (d ∷ ds) f same h = elim (has_either (again kept d) (declared_again (put kept d.name.text d.known) ds) f h) [
  | inl a ↦ let r = from_when (is_some (find kept d.name.text)) rule.DuplicateName d.name.at f a in (
    [],
    (
      d,
      (
        ds,
        refl,
        ap (λ (k : List Declaration). has (texts (map (λ e. e.name) k)) d.name.text) (append-nil seen) ∙ sym (names_found seen d.name.text)
            ∙ sym (ap is_some (same d.name.text)) ∙ r.0,
        r.1,
      ),
    ),
  )
  | inr b ↦
      let more : FindsSame (put kept d.name.text d.known) (entries (seen ++ d ∷ [])) =
      λ x. put_same kept (entries seen) d.name.text d.known same x ∙ ap (λ t. find t x) (sym (append_entries seen (d ∷ []))) in
      let r = from_again (put kept d.name.text d.known) (seen ++ d ∷ []) ds f more b in (
        d ∷ r.0,
        (
          r.1.0,
          (
            r.1.1.0,
            ap (λ t. d ∷ t) r.1.1.1,
            ap (λ (k : List Declaration). has (texts (map (λ e. e.name) k)) r.1.0.name.text) (append_step seen d r.0)
                ∙ r.1.1.2,
            r.1.1.3,
          ),
        ),
      )
]

to_again : (kept : Table Known) (seen before : List Declaration) (d : Declaration) (after : List Declaration) (f : FrontFault) → FindsSame kept (entries seen)
    → has (texts (map (λ e. e.name) (seen ++ before))) d.name.text ≡ true → f ≡ fault rule.DuplicateName d.name.at → Has (declared_again kept (before ++ d ∷ after)) f
to_again kept seen [] d after f same h e =
    has_left (again kept d) (declared_again (put kept d.name.text d.known) after) f
    (to_when (is_some (find kept d.name.text)) rule.DuplicateName d.name.at f
    (ap is_some (same d.name.text) ∙ names_found seen d.name.text ∙ sym (ap (λ (k : List Declaration). has (texts (map (λ e. e.name) k)) d.name.text) (append-nil seen)) ∙ h) e)
to_again kept seen (b ∷ before) d after f same h e =
    let more : FindsSame (put kept b.name.text b.known) (entries (seen ++ b ∷ [])) =
    λ x. put_same kept (entries seen) b.name.text b.known same x ∙ ap (λ t. find t x) (sym (append_entries seen (b ∷ []))) in
    has_right (again kept b) (declared_again (put kept b.name.text b.known) (before ++ d ∷ after)) f
    (to_again (put kept b.name.text b.known) (seen ++ b ∷ []) before d after f more
    (ap (λ (k : List Declaration). has (texts (map (λ e. e.name) k)) d.name.text) (sym (append_step seen b before)) ∙ h) e)

again_joined : (kept : Table Known) (ds es : List Declaration) (f : FrontFault) → Has (declared_again kept (ds ++ es)) f → Has (declared_again kept ds) f
    ⊎ Has (declared_again (put_all kept ds) es) f
again_joined kept [] es f h = inr h
again_joined kept (d ∷ ds) es f h = elim (has_either (again kept d) (declared_again (put kept d.name.text d.known) (ds ++ es)) f h) [
  | inl a ↦ inl (has_left (again kept d) (declared_again (put kept d.name.text d.known) ds) f a)
  | inr b ↦ elim (again_joined (put kept d.name.text d.known) ds es f b) [
    | inl x ↦ inl (has_right (again kept d) (declared_again (put kept d.name.text d.known) ds) f x)
    | inr y ↦ inr y
  ]
]

-- ---- lists of methods

from_methods : (kept : Signatures) (seen ms : List MethodValue) (f : FrontFault) → FindsSame kept (signatures seen) → Has (methods_again kept ms) f
    → (before : List MethodValue) × ((m : MethodValue) × ((after : List MethodValue) × (ms ≡ before ++ m ∷ after)
    × (has (texts (map (λ n. n.name) (seen ++ before))) m.name.text ≡ true) × (f ≡ fault rule.DuplicateName m.name.at)))
from_methods kept seen [] f same h = absurd h
from_methods kept seen (m ∷ ms) f same h = elim (has_either (when (is_some (find kept m.name.text)) rule.DuplicateName m.name.at)
    (methods_again (put kept m.name.text m.params) ms) f h) [
      | inl a ↦ let r = from_when (is_some (find kept m.name.text)) rule.DuplicateName m.name.at f a in (
        [],
        (
          m,
          (
            ms,
            refl,
            ap (λ (k : List MethodValue). has (texts (map (λ n. n.name) k)) m.name.text) (append-nil seen) ∙ sym (methods_found seen m.name.text)
                ∙ sym (ap is_some (same m.name.text)) ∙ r.0,
            r.1,
          ),
        ),
      )
      | inr b ↦
          let more : FindsSame (put kept m.name.text m.params) (signatures (seen ++ m ∷ [])) =
          λ x. put_same kept (signatures seen) m.name.text m.params same x ∙ ap (λ t. find t x) (sym (append_signatures seen (m ∷ []))) in
          let r = from_methods (put kept m.name.text m.params) (seen ++ m ∷ []) ms f more b in (
            m ∷ r.0,
            (
              r.1.0,
              (
                r.1.1.0,
                ap (λ t. m ∷ t) r.1.1.1,
                ap (λ (k : List MethodValue). has (texts (map (λ n. n.name) k)) r.1.0.name.text) (append_step seen m r.0)
                    ∙ r.1.1.2,
                r.1.1.3,
              ),
            ),
          )
    ]

to_methods : (kept : Signatures) (seen before : List MethodValue) (m : MethodValue) (after : List MethodValue) (f : FrontFault) → FindsSame kept (signatures seen)
    → has (texts (map (λ n. n.name) (seen ++ before))) m.name.text ≡ true → f ≡ fault rule.DuplicateName m.name.at → Has (methods_again kept (before ++ m ∷ after)) f
to_methods kept seen [] m after f same h e =
    has_left (when (is_some (find kept m.name.text)) rule.DuplicateName m.name.at) (methods_again (put kept m.name.text m.params) after) f
    (to_when (is_some (find kept m.name.text)) rule.DuplicateName m.name.at f
    (ap is_some (same m.name.text) ∙ methods_found seen m.name.text ∙ sym (ap (λ (k : List MethodValue). has (texts (map (λ n. n.name) k)) m.name.text) (append-nil seen)) ∙ h) e)
to_methods kept seen (b ∷ before) m after f same h e =
    let more : FindsSame (put kept b.name.text b.params) (signatures (seen ++ b ∷ [])) =
    λ x. put_same kept (signatures seen) b.name.text b.params same x ∙ ap (λ t. find t x) (sym (append_signatures seen (b ∷ []))) in
    has_right (when (is_some (find kept b.name.text)) rule.DuplicateName b.name.at) (methods_again (put kept b.name.text b.params) (before ++ m ∷ after)) f
    (to_methods (put kept b.name.text b.params) (seen ++ b ∷ []) before m after f more
    (ap (λ (k : List MethodValue). has (texts (map (λ n. n.name) k)) m.name.text) (sym (append_step seen b before)) ∙ h) e)

-- ---- methods

abbrev outside : TreeValue → Table Known
outside t = put_all [] (map shared_declaration t.shared)

abbrev pub called : TreeValue → Signatures
called t = put_methods [] t.methods

abbrev inside_kept : TreeValue → MethodValue → Scope
inside_kept t m = record { names = put_all (outside t) (map param_declaration m.params); bodies = [] }

pub called_same : (t : TreeValue) → FindsSame (called t) (signatures t.methods)
called_same t x = put_methods_same [] [] t.methods (λ y. refl) x

outside_same : (t : TreeValue) → FindsSame (outside t) (entries (map shared_declaration t.shared))
outside_same t x = put_all_same [] [] (map shared_declaration t.shared) (λ y. refl) x

inside_same : (t : TreeValue) (m : MethodValue) → Agrees (inside_kept t m) (method_scope t m)
inside_same t m = record {
  names = λ x. put_all_same (outside t) (entries (map shared_declaration t.shared)) (map param_declaration m.params) (outside_same t) x
      ∙ ap (λ k. find k x) (sym (append_entries (map shared_declaration t.shared) (map param_declaration m.params)));
  depth = refl;
  given = λ x. refl;
}

-- what a place sees, by its way
pub seen_at : (t : TreeValue) (m : MethodValue) (w : Way)
    → (let r : Scope = record { names = (method_scope t m).names ++ entries (declared_among 0 m.body w); bodies = bodies_among [] m.body w } in r) ≡ scope_in t m w
seen_at t m w = ap (λ k. let r : Scope = record { names = k; bodies = bodies_among [] m.body w } in r) (sym (append_entries (declared_before t m) (declared_among 0 m.body w)))

from_method : (t : TreeValue) (m : MethodValue) (f : FrontFault) → Has t.methods m → Has (method_faults (called t) (outside t) m) f → HasNameFault t f
from_method t m f there h = elim (has_either (declared_again (outside t) (map param_declaration m.params)) (among (called t) (inside_kept t m) m.body) f h) [
  | inl a ↦ let r = from_again (outside t) (map shared_declaration t.shared) (map param_declaration m.params) f (outside_same t) a in
      InParams m there (record {
        before = map shared_declaration t.shared ++ r.0;
        declaration = r.1.0;
        after = r.1.1.0;
        stands = ap (λ k. map shared_declaration t.shared ++ k) r.1.1.1 ∙ sym (append_assoc (map shared_declaration t.shared) r.0 (r.1.0 ∷ r.1.1.0));
        again = r.1.1.2;
        is = r.1.1.3;
      })
  | inr b ↦ let r = held_among (called t) (signatures t.methods) (inside_kept t m) (method_scope t m) m.body f (called_same t) (inside_same t m) b in
      InBody m there (record {
        way = r.0;
        statement = r.1.0;
        stands = r.1.1.0;
        breaks = subst (λ (k : Scope). Breaks (signatures t.methods) k r.1.0 f) (among_once (method_scope t m) m.body r.0 ∙ seen_at t m r.0) r.1.1.1;
      })
]

pub fault_there : (t : TreeValue) (f : FrontFault) → Has (name_faults t) f → HasNameFault t f
fault_there t f h =
    elim (has_either (declared_again [] (map shared_declaration t.shared)) (methods_again [] t.methods ++ flat_map (method_faults (called t) (outside t)) t.methods) f h) [
      | inl a ↦ let r = from_again [] [] (map shared_declaration t.shared) f (λ x. refl) a in
          InShared (record { before = r.0; declaration = r.1.0; after = r.1.1.0; stands = r.1.1.1; again = r.1.1.2; is = r.1.1.3 })
      | inr b ↦ elim (has_either (methods_again [] t.methods) (flat_map (method_faults (called t) (outside t)) t.methods) f b) [
        | inl a ↦ let r = from_methods [] [] t.methods f (λ x. refl) a in
            InMethods (record { before = r.0; method = r.1.0; after = r.1.1.0; stands = r.1.1.1; again = r.1.1.2; is = r.1.1.3 })
        | inr c ↦ let r = from_flat (method_faults (called t) (outside t)) t.methods f c in from_method t r.0 f r.1.0 r.1.1
      ]
    ]

-- ---- and the other way

of_method : (t : TreeValue) (m : MethodValue) (f : FrontFault) → Has t.methods m → Has (method_faults (called t) (outside t) m) f → Has (name_faults t) f
of_method t m f there h =
    has_right (declared_again [] (map shared_declaration t.shared)) (methods_again [] t.methods ++ flat_map (method_faults (called t) (outside t)) t.methods) f
    (has_right (methods_again [] t.methods) (flat_map (method_faults (called t) (outside t)) t.methods) f (to_flat (method_faults (called t) (outside t)) t.methods m f there h))

of_shared : (t : TreeValue) (f : FrontFault) → Has (declared_again [] (map shared_declaration t.shared)) f → Has (name_faults t) f
of_shared t f h = has_left (declared_again [] (map shared_declaration t.shared)) (methods_again [] t.methods ++ flat_map (method_faults (called t) (outside t)) t.methods) f h

again_of : (ds : List Declaration) (f : FrontFault) → RepeatsName ds f → Has (declared_again [] ds) f
again_of ds f r = subst (λ (k : List Declaration). Has (declared_again [] k) f) (sym r.stands) (to_again [] [] r.before r.declaration r.after f (λ x. refl) r.again r.is)

pub fault_listed : (t : TreeValue) (f : FrontFault) → HasNameFault t f → Has (name_faults t) f
fault_listed t f (InShared r) = of_shared t f (again_of (map shared_declaration t.shared) f r)
fault_listed t f (InMethods r) =
    has_right (declared_again [] (map shared_declaration t.shared)) (methods_again [] t.methods ++ flat_map (method_faults (called t) (outside t)) t.methods) f
    (has_left (methods_again [] t.methods) (flat_map (method_faults (called t) (outside t)) t.methods) f
    (subst (λ (k : List MethodValue). Has (methods_again [] k) f) (sym r.stands) (to_methods [] [] r.before r.method r.after f (λ x. refl) r.again r.is)))
fault_listed t f (InParams m there r) = elim (again_joined [] (map shared_declaration t.shared) (map param_declaration m.params) f (again_of (declared_before t m) f r)) [
  | inl a ↦ of_shared t f a
  | inr b ↦ of_method t m f there (has_left (declared_again (outside t) (map param_declaration m.params)) (among (called t) (inside_kept t m) m.body) f b)
]
fault_listed t f (InBody m there r) =
    of_method t m f there (has_right (declared_again (outside t) (map param_declaration m.params)) (among (called t) (inside_kept t m) m.body) f
    (listed_among (called t) (signatures t.methods) (inside_kept t m) (method_scope t m) m.body r.way r.statement f (called_same t) (inside_same t m) r.stands
    (subst (λ (k : Scope). Breaks (signatures t.methods) k r.statement f) (sym (among_once (method_scope t m) m.body r.way ∙ seen_at t m r.way)) r.breaks)))
