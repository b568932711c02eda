-- The faults of a statement, apart from those that it holds: those of the list are those that the rules name.
use Rattle.std.proofs.Common.{◌≡◌, ◌≢◌, ◌⊎◌, inl, inr, ℕ, nat_eq, Bool, true, false, List, [], ◌∷◌, ◌++◌, map, length, Option, Some, None, refl, sym, ap, ◌∙◌, subst, eqb-true, eq-eqb, append-nil}
use Rattle.std.specs.Prelude.{is_some}
use Rattle.std.specs.List.{flat_map}
use Rattle.xk_tree.specs.declared.fault.FrontRule.{FrontRule}
use Rattle.xk_tree.specs.declared.fault.FrontRule.TheVariants as rule
use Rattle.xk_tree.specs.declared.fault.FrontFault.{FrontFault}
use Rattle.xk_tree.specs.Tree.{Word, Expression, Statement, ParamValue}
use Rattle.xk_names.specs.declared.binding.Known.{Known}
use Rattle.xk_names.specs.Scope.{find, has, texts, Has, Scope, sees, fits}
use Rattle.xk_names.specs.Uses.{Use, Signatures, uses, declares, misfits, clocks_given, calls}
use Rattle.xk_names.specs.Faults.{fault, Breaks, NotVisible, OtherKind, NotSeen, DeclaredAgain, Misfit, NoMethod, OtherCount, ClockAgain}
use Rattle.xk_names.specs.FaultList.{unless, when, known_use_faults, use_faults, again, known_call_faults, call_faults, repeats, put_text, own}
use Rattle.xk_names.proofs.MembershipLemmas.{has_left, has_right, has_either, from_flat, to_flat, from_map, to_map}
use Rattle.xk_names.proofs.TableAgreementLemmas.{HasSame, put_text_same, append_step}

-- ---- one test

from_unless : (b : Bool) (r : FrontRule) (at : ℕ) (f : FrontFault) → Has (unless b r at) f → (b ≡ false) × (f ≡ fault r at)
from_unless true r at f h = absurd h
from_unless false r at f (inl e) = (refl, e)
from_unless false r at f (inr h) = absurd h

to_unless : (b : Bool) (r : FrontRule) (at : ℕ) (f : FrontFault) → b ≡ false → f ≡ fault r at → Has (unless b r at) f
to_unless true r at f h e = cc
to_unless false r at f h e = inl e

pub from_when : (b : Bool) (r : FrontRule) (at : ℕ) (f : FrontFault) → Has (when b r at) f → (b ≡ true) × (f ≡ fault r at)
from_when false r at f h = absurd h
from_when true r at f (inl e) = (refl, e)
from_when true r at f (inr h) = absurd h

pub to_when : (b : Bool) (r : FrontRule) (at : ℕ) (f : FrontFault) → b ≡ true → f ≡ fault r at → Has (when b r at) f
to_when false r at f h e = cc
to_when true r at f h e = inl e

some_of : {A : Type 0} (o : Option A) → is_some o ≡ true → (a : A) × (o ≡ Some a)
some_of None h = cc
some_of (Some a) h = (a, refl)

-- ---- clocks that stand a second time

abbrev Repeated : List (List ℕ) → List Word → FrontFault → Type 0
Repeated seen cs f = (before : List Word) × ((c : Word) × ((after : List Word) × (cs ≡ before ++ c ∷ after) × (has (seen ++ texts before) c.text ≡ true)
    × (f ≡ fault rule.SameClockTwice c.at)))

from_repeats : (kept seen : List (List ℕ)) (cs : List Word) (f : FrontFault) → HasSame kept seen → Has (repeats kept cs) f → Repeated seen cs f
from_repeats kept seen [] f same h = absurd h
from_repeats kept seen (c ∷ cs) f same h = elim (has_either (when (has kept c.text) rule.SameClockTwice c.at) (repeats (put_text kept c.text) cs) f h) [
  | inl a ↦ let r = from_when (has kept c.text) rule.SameClockTwice c.at f a in
      ([], (c, (cs, refl, ap (λ t. has t c.text) (append-nil seen) ∙ sym (same c.text) ∙ r.0, r.1)))
  | inr b ↦ let r = from_repeats (put_text kept c.text) (seen ++ c.text ∷ []) cs f (put_text_same kept seen c.text same) b in
      (c ∷ r.0, (r.1.0, (r.1.1.0, ap (λ t. c ∷ t) r.1.1.1, ap (λ t. has t r.1.0.text) (append_step seen c.text (texts r.0)) ∙ r.1.1.2, r.1.1.3)))
]

to_repeats : (kept seen : List (List ℕ)) (before : List Word) (c : Word) (after : List Word) (f : FrontFault) → HasSame kept seen
    → has (seen ++ texts before) c.text ≡ true → f ≡ fault rule.SameClockTwice c.at → Has (repeats kept (before ++ c ∷ after)) f
to_repeats kept seen [] c after f same h e =
    has_left (when (has kept c.text) rule.SameClockTwice c.at) (repeats (put_text kept c.text) after) f
    (to_when (has kept c.text) rule.SameClockTwice c.at f (same c.text ∙ sym (ap (λ t. has t c.text) (append-nil seen)) ∙ h) e)
to_repeats kept seen (b ∷ before) c after f same h e =
    has_right (when (has kept b.text) rule.SameClockTwice b.at) (repeats (put_text kept b.text) (before ++ c ∷ after)) f
    (to_repeats (put_text kept b.text) (seen ++ b.text ∷ []) before c after f (put_text_same kept seen b.text same)
    (ap (λ t. has t c.text) (sym (append_step seen b.text (texts before))) ∙ h) e)

-- ---- calls

from_call : (ms : Signatures) (c : Option (Word × List Expression)) (f : FrontFault) → Has (call_faults ms c) f
    → (g : Word) × ((es : List Expression) × ((c ≡ Some (g, es)) × (((find ms g.text ≡ None) × (f ≡ fault rule.UnknownName g.at))
    ⊎ ((ps : List ParamValue) × ((find ms g.text ≡ Some ps) × (length ps ≢ length es) × (f ≡ fault rule.Arity g.at))))))
from_call ms None f h = absurd h
from_call ms (Some c) f h = (c.0, (c.1, (refl, go (find ms c.0.text) refl h)))
  where
    go : (o : Option (List ParamValue)) → find ms c.0.text ≡ o → Has (known_call_faults c.0 c.1 o) f → ((find ms c.0.text ≡ None) × (f ≡ fault rule.UnknownName c.0.at))
        ⊎ ((ps : List ParamValue) × ((find ms c.0.text ≡ Some ps) × (length ps ≢ length c.1) × (f ≡ fault rule.Arity c.0.at)))
    go None e (inl g) = inl (e, g)
    go None e (inr g) = absurd g
    go (Some ps) e g = let r = from_unless (nat_eq (length ps) (length c.1)) rule.Arity c.0.at f g in
        inr (ps, (e, (λ same. let never : true ≡ false = sym (eq-eqb (length ps) (length c.1) same) ∙ r.0 in cc), r.1))

-- ---- both ways

pub own_breaks : (ms : Signatures) (sc : Scope) (t : Statement) (f : FrontFault) → Has (own ms sc t) f → Breaks ms sc t f
unfolding own
own_breaks ms sc t f h =
    elim (has_either (flat_map (use_faults sc) (uses ms sc.names t)) _ f h) [
      | inl a ↦ let r = from_flat (use_faults sc) (uses ms sc.names t) f a in of_use r.0 (find sc.names r.0.name.text) refl r.1.0 r.1.1
      | inr b ↦ elim (has_either (flat_map (again sc.names) (declares (length sc.bodies) t)) _ f b) [
        | inl a ↦ let r = from_flat (again sc.names) (declares (length sc.bodies) t) f a in
            let w = from_when (is_some (find sc.names r.0.name.text)) rule.DuplicateName r.0.name.at f r.1.1 in
            let k = some_of (find sc.names r.0.name.text) w.0 in DeclaredAgain r.0 k.0 r.1.0 k.1 w.1
        | inr c ↦ elim (has_either (map (fault rule.WrongKind) (misfits ms t)) _ f c) [
          | inl a ↦ let r = from_map (fault rule.WrongKind) (misfits ms t) f a in Misfit r.0 r.1.0 r.1.1
          | inr d ↦ elim (has_either (call_faults ms (calls t)) (repeats [] (clocks_given ms t)) f d) [
            | inl a ↦ let r = from_call ms (calls t) f a in elim r.1.1.1 [
              | inl n ↦ NoMethod r.0 r.1.0 r.1.1.0 n.0 n.1
              | inr n ↦ OtherCount r.0 r.1.0 n.0 r.1.1.0 n.1.0 n.1.1 n.1.2
            ]
            | inr e ↦ let r = from_repeats [] [] (clocks_given ms t) f (λ x. refl) e in ClockAgain r.0 r.1.0 r.1.1.0 r.1.1.1 r.1.1.2 r.1.1.3
          ]
        ]
      ]
    ]
  where
    of_use : (u : Use) (o : Option Known) → find sc.names u.name.text ≡ o → Has (uses ms sc.names t) u → Has (known_use_faults sc u o) f → Breaks ms sc t f
    of_use u None e among (inl g) = NotVisible u among e g
    of_use u None e among (inr g) = absurd g
    of_use u (Some k) e among g = elim (has_either (unless (fits u.want k.kind) rule.WrongKind u.name.at) (unless (sees sc u.name.text k) rule.NotCaptured u.name.at) f g) [
      | inl a ↦ let r = from_unless (fits u.want k.kind) rule.WrongKind u.name.at f a in OtherKind u k among e r.0 r.1
      | inr b ↦ let r = from_unless (sees sc u.name.text k) rule.NotCaptured u.name.at f b in NotSeen u k among e r.0 r.1
    ]

breaks_where : (ms : Signatures) (sc : Scope) (t : Statement) (f : FrontFault) → Breaks ms sc t f
    → Has (flat_map (use_faults sc) (uses ms sc.names t)) f ⊎ (Has (flat_map (again sc.names) (declares (length sc.bodies) t)) f
    ⊎ (Has (map (fault rule.WrongKind) (misfits ms t)) f ⊎ (Has (call_faults ms (calls t)) f ⊎ Has (repeats [] (clocks_given ms t)) f)))
breaks_where ms sc t f (NotVisible u among e is) =
    inl (to_flat (use_faults sc) (uses ms sc.names t) u f among (subst (λ o. Has (known_use_faults sc u o) f) (sym e) (inl is)))
breaks_where ms sc t f (OtherKind u k among e unfit is) =
    inl (to_flat (use_faults sc) (uses ms sc.names t) u f among (subst (λ o. Has (known_use_faults sc u o) f) (sym e)
    (has_left (unless (fits u.want k.kind) rule.WrongKind u.name.at) (unless (sees sc u.name.text k) rule.NotCaptured u.name.at) f
    (to_unless (fits u.want k.kind) rule.WrongKind u.name.at f unfit is))))
breaks_where ms sc t f (NotSeen u k among e unseen is) =
    inl (to_flat (use_faults sc) (uses ms sc.names t) u f among (subst (λ o. Has (known_use_faults sc u o) f) (sym e)
    (has_right (unless (fits u.want k.kind) rule.WrongKind u.name.at) (unless (sees sc u.name.text k) rule.NotCaptured u.name.at) f
    (to_unless (sees sc u.name.text k) rule.NotCaptured u.name.at f unseen is))))
breaks_where ms sc t f (DeclaredAgain d k among e is) =
    inr (inl (to_flat (again sc.names) (declares (length sc.bodies) t) d f among
    (to_when (is_some (find sc.names d.name.text)) rule.DuplicateName d.name.at f (ap is_some e) is)))
breaks_where ms sc t f (Misfit at among is) = inr (inr (inl (to_map (fault rule.WrongKind) (misfits ms t) at f among is)))
breaks_where ms sc t f (NoMethod g es e none is) =
    inr (inr (inr (inl (subst (λ o. Has (call_faults ms o) f) (sym e) (subst (λ o. Has (known_call_faults g es o) f) (sym none) (inl is))))))
breaks_where ms sc t f (OtherCount g es ps e there differ is) =
    inr (inr (inr (inl (subst (λ o. Has (call_faults ms o) f) (sym e) (subst (λ o. Has (known_call_faults g es o) f) (sym there)
    (to_unless (nat_eq (length ps) (length es)) rule.Arity g.at f (other (nat_eq (length ps) (length es)) refl) is))))))
  where
    other : (b : Bool) → nat_eq (length ps) (length es) ≡ b → b ≡ false
    other false same = refl
    other true same = absurd (differ (eqb-true (length ps) (length es) same))
breaks_where ms sc t f (ClockAgain before c after e there is) =
    inr (inr (inr (inr (subst (λ cs. Has (repeats [] cs) f) (sym e) (to_repeats [] [] before c after f (λ x. refl) there is)))))

pub breaks_own : (ms : Signatures) (sc : Scope) (t : Statement) (f : FrontFault) → Breaks ms sc t f → Has (own ms sc t) f
unfolding own
breaks_own ms sc t f b =
    let us = flat_map (use_faults sc) (uses ms sc.names t) in
    let ds = flat_map (again sc.names) (declares (length sc.bodies) t) in
    let ws = map (fault rule.WrongKind) (misfits ms t) in
    let cs = call_faults ms (calls t) in
    let rs = repeats [] (clocks_given ms t) in
    elim (breaks_where ms sc t f b) [
      | inl a ↦ has_left us (ds ++ (ws ++ (cs ++ rs))) f a
      | inr x ↦ has_right us (ds ++ (ws ++ (cs ++ rs))) f (elim x [
        | inl a ↦ has_left ds (ws ++ (cs ++ rs)) f a
        | inr y ↦ has_right ds (ws ++ (cs ++ rs)) f (elim y [
          | inl a ↦ has_left ws (cs ++ rs) f a
          | inr z ↦ has_right ws (cs ++ rs) f (elim z [
            | inl a ↦ has_left cs rs f a
            | inr a ↦ has_right cs rs f a
          ])
        ])
      ])
    ]
