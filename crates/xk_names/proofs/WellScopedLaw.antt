-- A tree without faults of names is scoped.
use Rattle.std.proofs.Common.{◌≡◌, inl, inr, nat_eq, Bool, true, false, List, length, Option, Some, None, refl, sym, ◌∙◌, subst, eqb-true, eq-eqb}
use Rattle.std.specs.Prelude.{codes}
use Rattle.std.specs.List.{list_any}
use Rattle.xk_tree.specs.declared.fault.FrontRule.TheVariants as rule
use Rattle.xk_tree.specs.declared.fault.FrontFault.{FrontFault}
use Rattle.xk_tree.specs.Tree.{Word, Expression, Statement, Statements, Done, More, Block, If, IfElse, For, Async, Finish, ParamValue, TreeValue}
use Rattle.xk_names.specs.declared.binding.Known.{Known}
use Rattle.xk_names.specs.Scope.{find, has, texts, Has, Declaration, Scope, sees, fits}
use Rattle.xk_names.specs.Uses.{Use, Signatures, signatures, uses, declares, clocks_listed, calls}
use Rattle.xk_names.specs.Places.{Way, Here, First, Later, Inside, Else, Stands, StandsAmong, behind}
use Rattle.xk_names.specs.Faults.{fault, invisible_rule, Breaks, NotVisible, OtherKind, NotSeen, DeclaredAgain, Misfit, NoMethod, OtherCount, ClockAgain, InMethods, InParams, InBody, HasFault, wants_clock, MayBegin, HasMain, no_main}
use Rattle.xk_names.specs.WellScoped.{IsRight, IsCallable, IsSound, IsSoundInside, AreSound, with_all, with_body, method_scope, IsScoped}
use Rattle.xk_names.proofs.MethodFaultLemmas.{scope_at, scope_among, among_once}
use Rattle.xk_names.proofs.TreeFaultLemmas.{seen_at}

is_true : (b : Bool) → (b ≡ false → ⊥) → b ≡ true
is_true true h = refl
is_true false h = absurd (h refl)

is_false : (b : Bool) → (b ≡ true → ⊥) → b ≡ false
is_false false h = refl
is_false true h = absurd (h refl)

-- no fault breaks the statement itself
abbrev pub Unbroken : Signatures → Scope → Statement → Type 0
Unbroken ms sc t = (f : FrontFault) → Breaks ms sc t f → ⊥

right_use : (ms : Signatures) (sc : Scope) (t : Statement) → Unbroken ms sc t → (u : Use) → Has (uses ms sc.names t) u → IsRight sc u
right_use ms sc t none u among = go (find sc.names u.name.text) refl
  where
    go : (o : Option Known) → find sc.names u.name.text ≡ o → IsRight sc u
    go None e = absurd (none (fault (invisible_rule u.name.text) u.name.at) (NotVisible u among e refl))
    go (Some k) e = record {
      known = k;
      found = e;
      right = is_true (fits u.want k.kind) (λ unfit. none (fault rule.WrongKind u.name.at) (OtherKind u k among e unfit refl));
      seen = is_true (sees sc u.name.text k) (λ unseen. none (fault rule.NotCaptured u.name.at) (NotSeen u k among e unseen refl));
    }

new_name : (ms : Signatures) (sc : Scope) (t : Statement) → Unbroken ms sc t → (d : Declaration) → Has (declares (length sc.bodies) t) d → find sc.names d.name.text ≡ None
new_name ms sc t none d among = go (find sc.names d.name.text) refl
  where
    go : (o : Option Known) → find sc.names d.name.text ≡ o → o ≡ None
    go None e = refl
    go (Some k) e = absurd (none (fault rule.DuplicateName d.name.at) (DeclaredAgain d k among e refl))

callable_method : (ms : Signatures) (sc : Scope) (t : Statement) → Unbroken ms sc t → (g : Word) (es : List Expression) → calls t ≡ Some (g, es) → IsCallable ms g es
callable_method ms sc t none g es made = go (find ms g.text) refl
  where
    same : (ps : List ParamValue) → find ms g.text ≡ Some ps → (b : Bool) → nat_eq (length ps) (length es) ≡ b → length ps ≡ length es
    same ps e true is = eqb-true (length ps) (length es) is
    same ps e false is = absurd (none (fault rule.Arity g.at) (OtherCount g es ps made e (λ equal. differ ps is equal) refl))
      where
        differ : (qs : List ParamValue) → nat_eq (length qs) (length es) ≡ false → length qs ≡ length es → ⊥
        differ qs no_way equal = let never : true ≡ false = sym (eq-eqb (length qs) (length es) equal) ∙ no_way in cc

    go : (o : Option (List ParamValue)) → find ms g.text ≡ o → IsCallable ms g es
    go None e = absurd (none (fault rule.UnknownName g.at) (NoMethod g es made e refl))
    go (Some ps) e = record { params = ps; found = e; count = same ps e (nat_eq (length ps) (length es)) refl }

pub sound_alone : (ms : Signatures) (sc : Scope) (t : Statement) → Unbroken ms sc t → IsSound ms sc t
sound_alone ms sc t none = record {
  used = right_use ms sc t none;
  new = new_name ms sc t none;
  fitting = λ at among. none (fault rule.WrongKind at) (Misfit at among refl);
  callable = callable_method ms sc t none;
  apart = λ before c after stands. is_false (has (texts before) c.text) (λ again. none (fault rule.SameClockTwice c.at) (ClockAgain before c after stands again refl));
}

-- nowhere in a statement
abbrev pub Clean : Signatures → Scope → Statement → Type 0
Clean ms sc s = (w : Way) (t : Statement) → Stands s w t → Unbroken ms (scope_at sc s w) t

abbrev CleanAmong : Signatures → Scope → Statements → Type 0
CleanAmong ms sc ss = (w : Way) (t : Statement) → StandsAmong ss w t → Unbroken ms (scope_among sc ss w) t

both_sound : (ms : Signatures) (sc : Scope) (s : Statement) → Clean ms sc s → (Clean ms sc s → IsSoundInside ms sc s) → IsSound ms sc s × IsSoundInside ms sc s
both_sound ms sc s clean inner = (sound_alone ms sc s (clean Here s refl), inner clean)

mutual
  pub sound_inside : (ms : Signatures) (sc : Scope) (s : Statement) → Clean ms sc s → IsSoundInside ms sc s
  sound_inside ms sc (Block close ss) clean = sound_among ms sc ss (λ w t st. clean (Inside w) t st)
  sound_inside ms sc (If at l c r s) clean = both_sound ms sc s (λ w t st. clean (Inside w) t st) (λ k. sound_inside ms sc s k)
  sound_inside ms sc (IfElse at l c r s u) clean =
      (both_sound ms sc s (λ w t st. clean (Inside w) t st) (λ k. sound_inside ms sc s k), both_sound ms sc u (λ w t st. clean (Else w) t st) (λ k. sound_inside ms sc u k))
  sound_inside ms sc (For at i lo hi s) clean =
      let there = with_all sc (declares (length sc.bodies) (For at i lo hi s)) in
      both_sound ms there s (λ w t st. clean (Inside w) t st) (λ k. sound_inside ms there s k)
  sound_inside ms sc (Async at cs s) clean =
      let there = with_body sc (clocks_listed cs) in
      both_sound ms there s (λ w t st. clean (Inside w) t st) (λ k. sound_inside ms there s k)
  sound_inside ms sc (Finish at s) clean = both_sound ms sc s (λ w t st. clean (Inside w) t st) (λ k. sound_inside ms sc s k)
  sound_inside ms sc _ clean = tt

  sound_among : (ms : Signatures) (sc : Scope) (ss : Statements) → CleanAmong ms sc ss → AreSound ms sc ss
  sound_among ms sc Done clean = tt
  sound_among ms sc (More s ss) clean = (
    both_sound ms sc s (λ w t st. clean (First w) t st) (λ k. sound_inside ms sc s k),
    sound_among ms (with_all sc (behind (length sc.bodies) s)) ss
        (λ w t st. clean (Later w) t st),
  )

main_there : (t : TreeValue) → ((HasMain t → ⊥) → ⊥) → HasMain t
main_there t h = go (find (signatures t.methods) (codes "main")) h
  where
    by : (b : Bool) → ((b ≡ false → ⊥) → ⊥) → b ≡ false
    by false lacks = refl
    by true lacks = absurd (lacks (λ e. cc))

    go : (o : Option (List ParamValue)) → ((MayBegin o → ⊥) → ⊥) → MayBegin o
    go None lacks = absurd (lacks (λ m. m))
    go (Some ps) lacks = by (list_any wants_clock ps) lacks

pub scoped_tree : (t : TreeValue) → ((f : FrontFault) → HasFault t f → ⊥) → IsScoped t
scoped_tree t clean = record {
  bodies = λ m there. sound_among (signatures t.methods) (method_scope t m) m.body (λ w s st f br.
      clean f (inl (InBody m there (record {
        way = w;
        statement = s;
        stands = st;
        breaks = subst (λ (k : Scope). Breaks (signatures t.methods) k s f) (among_once (method_scope t m) m.body w ∙ seen_at t m w) br;
      }))));
  apart = λ m there f r. clean f (inl (InParams m there r));
  methods_apart = λ f r. clean f (inl (InMethods r));
  main = main_there t (λ lacks. clean no_main (inr (lacks, refl)));
}
