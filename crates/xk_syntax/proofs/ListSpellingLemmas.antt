-- Loops read what is spelled one after another.
use Rattle.std.proofs.Common.{◌≡◌, ◌≢◌, List, [], ◌∷◌, ◌++◌, Option, Some, None, refl, sym, ap, subst, ◌∙◌, append_assoc}
use Rattle.std.proofs.lemmas.List.{append-nil}
use Rattle.std.specs.List.{AllByRecursion}
use Rattle.std.proofs.lemmas.Option.{same_Some}
use Rattle.xk_lexer.specs.declared.token.Sign.{Sign}
use Rattle.xk_lexer.specs.declared.token.Sign.TheVariants as sign
use Rattle.xk_exprs.specs.Marks.{Mark, Symbol}
use Rattle.xk_exprs.specs.ReaderCombinators.{Goes}
use Rattle.xk_exprs.proofs.LoopLemmas.{loop_goes, loop_stops, loop_keeps}
use Rattle.xk_syntax.specs.Spelling.{row, behind_comma, commas}
use Rattle.xk_syntax.specs.Readers.{bind, sign_at, pushed, one_more, next_item, more_at, commas_at, listed_or, listed_at}
use Rattle.xk_syntax.proofs.ListLoopLemmas.{Reader, Shortens, Takes, bind_some, turn_shrinks, comma_shortens}
use Rattle.xk_syntax.proofs.SoundnessLemmas.{sign_is}

row-snoc : {T : Type 0} (f : T → List Mark → List Mark) (xs : List T) (x : T) (after : List Mark) → row f (xs ++ x ∷ []) after ≡ row f xs (f x after)
row-snoc f [] x after = refl
row-snoc f (y ∷ ys) x after = ap (f y) (row-snoc f ys x after)

all-snoc : {T : Type 0} (P : T → Type 0) (xs : List T) (x : T) → AllByRecursion P xs → P x → AllByRecursion P (xs ++ x ∷ [])
all-snoc P [] x h p = (p, tt)
all-snoc P (y ∷ ys) x h p = (h.0, all-snoc P ys x h.1 p)

-- what one more thing is
turn_goes : {T : Type 0} (goes_on : List Mark → Option (List Mark)) (item : Reader T) (xs : List T) (ts : List Mark) (ys : List T) (us : List Mark)
    → next_item goes_on item xs ts ≡ Goes ys us → (after : List Mark) × (x : T × List Mark) × (goes_on ts ≡ Some after) × (item after ≡ Some x) × (ys ≡ xs ++ x.0 ∷ [])
    × (us ≡ x.1)
unfolding next_item
turn_goes {T = T} goes_on item xs ts ys us e = by (goes_on ts) refl e
  where
    inner : (after : List Mark) → goes_on ts ≡ Some after → (o : Option (T × List Mark)) → item after ≡ o → pushed xs o ≡ Goes ys us
        → (after : List Mark) × (x : T × List Mark) × (goes_on ts ≡ Some after) × (item after ≡ Some x) × (ys ≡ xs ++ x.0 ∷ []) × (us ≡ x.1)
    inner after h None k e = absurd cc
    inner after h (Some x) k e = (after, x, h, k, cc, cc)

    by : (o : Option (List Mark)) → goes_on ts ≡ o → one_more item xs o ≡ Goes ys us
        → (after : List Mark) × (x : T × List Mark) × (goes_on ts ≡ Some after) × (item after ≡ Some x) × (ys ≡ xs ++ x.0 ∷ []) × (us ≡ x.1)
    by None h e = absurd cc
    by (Some after) h e = inner after h (item after) refl e

-- each thing is spelled so, and has this property
abbrev pub EachFound : {T : Type 0} → (List Mark → Option (List Mark)) → Reader T → (T → List Mark → List Mark) → (T → Type 0) → Type 0
EachFound {T = T} goes_on item f P = (ts us : List Mark) (x : T × List Mark) → goes_on ts ≡ Some us → item us ≡ Some x → (ts ≡ f x.0 x.1) × P x.0

-- behind these things others were read, spelled one after another
pub record MoreFound (T : Type 0) (f : T → List Mark → List Mark) (P : T → Type 0) (xs : List T) (ts : List Mark) (r : List T) (rest : List Mark) : Type 0 where
  pub others : List T
  pub all : r ≡ xs ++ others
  pub spelled : ts ≡ row f others rest
  pub each : AllByRecursion P others

one_found : {T : Type 0} (f : T → List Mark → List Mark) (P : T → Type 0) (xs : List T) (ts : List Mark) (ys : List T) (us : List Mark) (x : T × List Mark) (zs : List T)
    → MoreFound T f P xs ts ys us → us ≡ f x.0 x.1 → P x.0 → zs ≡ ys ++ x.0 ∷ [] → MoreFound T f P xs ts zs x.1
one_found f P xs ts ys us x zs m e p z = record {
  others = m.others ++ x.0 ∷ [];
  all = z ∙ ap (λ (l : List _). l ++ x.0 ∷ []) m.all ∙ append_assoc xs m.others (x.0 ∷ []);
  spelled = m.spelled ∙ ap (row f m.others) e ∙ sym (row-snoc f m.others x.0 x.1);
  each = all-snoc P m.others x.0 m.each p;
}

pub more_found : {T : Type 0} (goes_on : List Mark → Option (List Mark)) (item : Reader T) (f : T → List Mark → List Mark) (P : T → Type 0) → EachFound goes_on item f P
    → (xs : List T) (ts : List Mark) (r : List T × List Mark) → more_at goes_on item xs ts ≡ Some r → MoreFound T f P xs ts r.0 r.1
unfolding more_at
more_found {T = T} goes_on item f P each xs ts r e =
    loop_keeps (next_item goes_on item) (λ ys us. MoreFound T f P xs ts ys us)
    (λ ys us zs vs m g.
    let t = turn_goes goes_on item ys us zs vs g in
    let h = each us t.0 t.1 t.2 t.3 in
    subst (λ (l : List Mark). MoreFound T f P xs ts zs l) (sym t.5) (one_found f P xs ts ys us t.1 zs m h.0 h.1 t.4))
    xs ts r (record { others = []; all = sym (append-nil xs); spelled = refl; each = tt }) e

-- each of these things is read again where what follows stands behind it
abbrev pub EachAgain : {T : Type 0} → (List Mark → Option (List Mark)) → Reader T → (T → List Mark → List Mark) → List T → List Mark → Type 0
EachAgain goes_on item f [] after = Unit {0}
EachAgain goes_on item f (x ∷ xs) after = ((us : List Mark) × (goes_on (f x (row f xs after)) ≡ Some us) × (item us ≡ Some (x, row f xs after))) × EachAgain goes_on item f xs after

pub more_again : {T : Type 0} (goes_on : List Mark → Option (List Mark)) (item : Reader T) (f : T → List Mark → List Mark) → Shortens goes_on item
    → (xs others : List T) (after : List Mark) → EachAgain goes_on item f others after → goes_on after ≡ None
    → more_at goes_on item xs (row f others after) ≡ Some (xs ++ others, after)
unfolding more_at next_item
more_again goes_on item f s xs [] after each stop = loop_stops (next_item goes_on item) xs after (ap (one_more item xs) stop)
    ∙ ap (λ (l : List _). Some (l, after)) (sym (append-nil xs))
more_again goes_on item f s xs (x ∷ others) after each stop =
    let here = each.0 in
    let turn : next_item goes_on item xs (f x (row f others after)) ≡ Goes (xs ++ x ∷ []) (row f others after) = ap (one_more item xs) here.1 ∙ ap (pushed xs) here.2 in
    loop_goes (next_item goes_on item) (turn_shrinks goes_on item s) xs (f x (row f others after)) (xs ++ x ∷ []) (row f others after) turn
    ∙ more_again goes_on item f s (xs ++ x ∷ []) others after each.1 stop
    ∙ ap (λ (l : List _). Some (l, after)) (append_assoc xs (x ∷ []) others)

-- ---- commas

-- an item is spelled so, and has this property
abbrev pub ItemFound : {T : Type 0} → Reader T → (T → List Mark → List Mark) → (T → Type 0) → Type 0
ItemFound {T = T} item f P = (ts : List Mark) (x : T × List Mark) → item ts ≡ Some x → (ts ≡ f x.0 x.1) × P x.0

pub record CommasFound (T : Type 0) (f : T → List Mark → List Mark) (P : T → Type 0) (ts : List Mark) (r : List T × List Mark) : Type 0 where
  pub spelled : ts ≡ commas f r.0 r.1
  pub each : AllByRecursion P r.0
  pub some : r.0 ≢ []

not_empty : {T : Type 0} (x : T) (xs ys : List T) → ys ≡ x ∷ xs → ys ≢ []
not_empty x xs ys e h = absurd cc

pub commas_found : {T : Type 0} (item : Reader T) (f : T → List Mark → List Mark) (P : T → Type 0) → ItemFound item f P → (ts : List Mark) (r : List T × List Mark)
    → commas_at item ts ≡ Some r → CommasFound T f P ts r
unfolding commas_at
commas_found {T = T} item f P each ts r e =
    let a = bind_some _ _ _ e in
    let first = each ts a.0 a.1 in
    let one : EachFound (sign_at sign.Comma) item (behind_comma f) P = λ us vs x h k. let c = sign_is sign.Comma refl us vs h in let i = each vs x k in (
      c
          ∙ ap (λ (z : List Mark). Symbol sign.Comma ∷ z) i.0,
      i.1,
    ) in
    let m = more_found (sign_at sign.Comma) item (behind_comma f) P one (a.0.0 ∷ []) a.0.1 r a.2 in
    let all : r.0 ≡ a.0.0 ∷ m.others = m.all in
    record {
      spelled = first.0 ∙ ap (f a.0.0) m.spelled ∙ ap (λ (l : List T). commas f l r.1) (sym all);
      each = subst (AllByRecursion P) (sym all) (first.1, m.each);
      some = not_empty a.0.0 m.others r.0 all;
    }

pub listed_found : {T : Type 0} (item : Reader T) (f : T → List Mark → List Mark) (P : T → Type 0) → ItemFound item f P → (ts : List Mark) (r : List T × List Mark)
    → listed_at item ts ≡ Some r → (ts ≡ commas f r.0 (Symbol sign.RightParen ∷ r.1)) × AllByRecursion P r.0
unfolding listed_at
listed_found {T = T} item f P each ts r e = by (sign_at sign.RightParen ts) refl e
  where
    by : (o : Option (List Mark)) → sign_at sign.RightParen ts ≡ o → listed_or item ts o ≡ Some r → (ts ≡ commas f r.0 (Symbol sign.RightParen ∷ r.1)) × AllByRecursion P r.0
    by (Some us) h e = subst (λ (z : List T × List Mark). (ts ≡ commas f z.0 (Symbol sign.RightParen ∷ z.1))
        × AllByRecursion P z.0) (same_Some _ r e) (sign_is sign.RightParen refl ts us h, tt)
    by None h e =
        let a = bind_some _ _ _ e in
        let b = bind_some _ _ _ a.2 in
        let m = commas_found item f P each ts a.0 a.1 in
        let q = sign_is sign.RightParen refl a.0.1 b.0 b.1 in
        subst (λ (z : List T × List Mark). (ts ≡ commas f z.0 (Symbol sign.RightParen ∷ z.1)) × AllByRecursion P z.0) (same_Some _ r b.2) (m.spelled ∙ ap (commas f a.0.0) q, m.each)

-- an item that has this property is read again where a sign follows
abbrev pub ItemAgain : {T : Type 0} → Reader T → (T → List Mark → List Mark) → (T → Type 0) → Type 0
ItemAgain {T = T} item f P = (x : T) (s : Sign) (after : List Mark) → P x → item (f x (Symbol s ∷ after)) ≡ Some (x, Symbol s ∷ after)

-- what begins with other items, or with a `)`, begins with a sign
row_begins : {T : Type 0} (f : T → List Mark → List Mark) (xs : List T) (after : List Mark)
    → (s : Sign) × (rest : List Mark) × (row (behind_comma f) xs (Symbol sign.RightParen ∷ after) ≡ Symbol s ∷ rest)
row_begins f [] after = (sign.RightParen, after, refl)
row_begins f (x ∷ xs) after = (sign.Comma, f x (row (behind_comma f) xs (Symbol sign.RightParen ∷ after)), refl)

item_again : {T : Type 0} (item : Reader T) (f : T → List Mark → List Mark) (P : T → Type 0) → ItemAgain item f P → (x : T) (xs : List T) (after : List Mark) → P x
    → item (f x (row (behind_comma f) xs (Symbol sign.RightParen ∷ after))) ≡ Some (x, row (behind_comma f) xs (Symbol sign.RightParen ∷ after))
item_again item f P again x xs after p =
    let b = row_begins f xs after in
    subst (λ (z : List Mark). item (f x z) ≡ Some (x, z)) (sym b.2) (again x b.0 b.1 p)

each_again : {T : Type 0} (item : Reader T) (f : T → List Mark → List Mark) (P : T → Type 0) → ItemAgain item f P → (xs : List T) (after : List Mark) → AllByRecursion P xs
    → EachAgain (sign_at sign.Comma) item (behind_comma f) xs (Symbol sign.RightParen ∷ after)
unfolding sign_at
each_again item f P again [] after h = tt
each_again item f P again (x ∷ xs) after h = (
  (f x (row (behind_comma f) xs (Symbol sign.RightParen ∷ after)), refl, item_again item f P again x xs after h.0),
  each_again item
      f P again xs after h.1,
)

comma_stops : (after : List Mark) → sign_at sign.Comma (Symbol sign.RightParen ∷ after) ≡ None
unfolding sign_at
comma_stops after = refl

pub commas_again : {T : Type 0} (item : Reader T) (f : T → List Mark → List Mark) (P : T → Type 0) → Takes item → ItemAgain item f P → (xs : List T) (after : List Mark)
    → AllByRecursion P xs → xs ≢ [] → commas_at item (commas f xs (Symbol sign.RightParen ∷ after)) ≡ Some (xs, Symbol sign.RightParen ∷ after)
unfolding commas_at bind
commas_again item f P takes again [] after h some = absurd (some refl)
commas_again item f P takes again (x ∷ xs) after h some =
    rw (item_again item f P again x xs after h.0)
    (more_again (sign_at sign.Comma) item (behind_comma f) (comma_shortens item takes) (x ∷ []) xs (Symbol sign.RightParen ∷ after) (each_again item f P again xs after h.1)
    (comma_stops after))

-- no item begins with a `)`
abbrev pub NotClosing : {T : Type 0} → (T → List Mark → List Mark) → Type 0
NotClosing {T = T} f = (x : T) (after : List Mark) → sign_at sign.RightParen (f x after) ≡ None

listed_none : {T : Type 0} (item : Reader T) (ts : List Mark) → sign_at sign.RightParen ts ≡ None → listed_at item ts ≡ listed_or item ts None
unfolding listed_at
listed_none item ts h = ap (listed_or item ts) h

listed_nil : {T : Type 0} (item : Reader T) (after : List Mark) → listed_at item (Symbol sign.RightParen ∷ after) ≡ Some ([], after)
unfolding listed_at sign_at
listed_nil item after = refl

listed_close : {T : Type 0} (item : Reader T) (ts : List Mark) (xs : List T) (after : List Mark) → commas_at item ts ≡ Some (xs, Symbol sign.RightParen ∷ after)
    → listed_or item ts None ≡ Some (xs, after)
unfolding sign_at bind
listed_close item ts xs after h = rw h refl

pub listed_again : {T : Type 0} (item : Reader T) (f : T → List Mark → List Mark) (P : T → Type 0) → Takes item → ItemAgain item f P → NotClosing f
    → (xs : List T) (after : List Mark) → AllByRecursion P xs → listed_at item (commas f xs (Symbol sign.RightParen ∷ after)) ≡ Some (xs, after)
listed_again item f P takes again closing [] after h = listed_nil item after
listed_again item f P takes again closing (x ∷ xs) after h =
    let ts = commas f (x ∷ xs) (Symbol sign.RightParen ∷ after) in
    listed_none item ts (closing x (row (behind_comma f) xs (Symbol sign.RightParen ∷ after)))
    ∙ listed_close item ts (x ∷ xs) after (commas_again item f P takes again (x ∷ xs) after h (not_empty x xs (x ∷ xs) refl))
