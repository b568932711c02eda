-- One clock, seen as where each activity stands on it: changes of where two activities stand, each with the end of its step, commute.
use Rattle.std.proofs.Common.{◌≡◌, ℕ, ◌+◌, ◌<◌, Bool, true, false, true≢false, not, ◌&&◌, cond, List, [], ◌∷◌, ◌++◌, length, map, set, get_or, ◌⊎◌, inl, inr, refl, sym, ap, ◌∙◌, arith}
use Rattle.std.specs.List.{list_any}
use Rattle.std.proofs.lemmas.Bool.{or_parts}
use Rattle.std.proofs.lemmas.List.{set-get_or, set-set, get_or-set_other, map-set}
use Rattle.std.proofs.Math.ListN.{get_or-map}
use Rattle.xk_types.specs.declared.world.Standing.{Standing}
use Rattle.xk_types.specs.declared.world.Standing.TheVariants as standing
use Rattle.xk_types.specs.World.{Clock}
use Rattle.xk_types.specs.Step.{is_signalled, is_pending, advanced, settled_clock}
use Rattle.xk_types.proofs.ListLemmas.{none_at, any_at}
use Rattle.xk_types.proofs.StandingLemmas.{advanced_twice}
use Rattle.xk_law_commute.proofs.ListLemmas.{set_other, none_set, map_push, set_push, get_or_push, any_push}

-- where all stand at the end of a step
abbrev pub settle : List Standing → List Standing
settle xs = (settled_clock 0 (record { phase = 0; last = 0; standings = xs })).standings

-- where all stand after a change of where activity a stands
abbrev pub change_of : ℕ → (Standing → Standing) → List Standing → List Standing
change_of a f xs = set xs a (f (get_or xs a standing.Apart))

-- Where the activity isn't pending, the change is nothing, before an advance and after it, or it ends the registration.
abbrev pub GoesBeside : (Standing → Standing) → Standing → Type 0
GoesBeside f s = is_pending s ≡ false → ((f s ≡ s) × (f (advanced s) ≡ advanced s)) ⊎ ((f s ≡ standing.Apart) × (f (advanced s) ≡ standing.Apart))

-- where all stand after activity b has started the next one, and given it the clock or not
abbrev pub join_of : ℕ → Bool → List Standing → List Standing
join_of b given xs = xs ++ cond given (get_or xs b standing.Apart) standing.Apart ∷ []

abbrev pub pends : List Standing → Bool
pends xs = list_any is_pending xs

-- an advance moves only who is signalled
unmoved_one : (s : Standing) → is_signalled s ≡ false → advanced s ≡ s
unmoved_one standing.Apart h = refl
unmoved_one standing.Open h = refl
unmoved_one standing.Signalled h = absurd (grind (arith, h))
unmoved_one standing.Ahead h = refl

unmoved_all : (xs : List Standing) → list_any is_signalled xs ≡ false → map advanced xs ≡ xs
unmoved_all [] h = refl
unmoved_all (x ∷ xs) h =
    let p = or_parts (is_signalled x) (list_any is_signalled xs) h in
    rw (unmoved_one x p.0, unmoved_all xs p.1)

twice_all : (xs : List Standing) → map advanced (map advanced xs) ≡ map advanced xs
twice_all [] = refl
twice_all (x ∷ xs) = rw (advanced_twice x, twice_all xs)

-- The end of a step, up to phases: all advance if nobody is pending. (Where nobody is signalled either, that moves nobody.)
pub settle_is : (xs : List Standing) → settle xs ≡ cond (pends xs) xs (map advanced xs)
settle_is xs = by (list_any is_signalled xs) (pends xs) (unmoved_all xs)
  where
    by : (s p : Bool) → (s ≡ false → map advanced xs ≡ xs)
        → (cond {A = Clock} (s && not p) (record { phase = 0 + 1; last = 0; standings = map advanced xs }) (record { phase = 0; last = 0; standings = xs })).standings
        ≡ cond p xs (map advanced xs)
    by true true h = refl
    by true false h = refl
    by false true h = refl
    by false false h = sym (h refl)

settle_free : (xs : List Standing) → pends xs ≡ false → settle xs ≡ map advanced xs
settle_free xs h = settle_is xs ∙ ap (λ p. cond p xs (map advanced xs)) h

settle_kept : (xs : List Standing) → pends xs ≡ true → settle xs ≡ xs
settle_kept xs h = settle_is xs ∙ ap (λ p. cond p xs (map advanced xs)) h

-- where an advance would move nobody
settle_still : (xs : List Standing) → map advanced xs ≡ xs → settle xs ≡ xs
settle_still xs h = settle_is xs ∙ by (pends xs)
  where
    by : (p : Bool) → cond p xs (map advanced xs) ≡ xs
    by true = refl
    by false = h

-- the end of a step that comes after one changes nothing
pub settle_twice : (xs : List Standing) → settle (settle xs) ≡ settle xs
settle_twice xs = by (pends xs) refl
  where
    by : (p : Bool) → pends xs ≡ p → settle (settle xs) ≡ settle xs
    by true h = ap settle (settle_kept xs h)
    by false h = ap settle (settle_free xs h) ∙ settle_still (map advanced xs) (twice_all xs) ∙ sym (settle_free xs h)

-- ---- where nobody is pending after a's change

module _ (a b : ℕ) (f g : Standing → Standing) (xs : List Standing) (differs : b ≡ a → ⊥)
    (beside : GoesBeside g (get_or xs b standing.Apart)) (still : settle xs ≡ xs) (free : pends (change_of a f xs) ≡ false) where
  abbrev was : Standing
  was = get_or xs b standing.Apart

  abbrev first : List Standing
  first = change_of a f xs

  abbrev moved_all : List Standing
  moved_all = map advanced first

  quiet : is_pending was ≡ false
  quiet = ap is_pending (sym (get_or-set_other xs a b (f (get_or xs a standing.Apart)) standing.Apart differs)) ∙ none_at is_pending first b standing.Apart free refl

  stands : get_or moved_all b standing.Apart ≡ advanced was
  stands = get_or-map advanced first b standing.Apart ∙ ap advanced (get_or-set_other xs a b (f (get_or xs a standing.Apart)) standing.Apart differs)

  at_once : settle (change_of b g (settle first)) ≡ settle (set moved_all b (g (advanced was)))
  at_once = ap (λ zs. settle (change_of b g zs)) (settle_free first free) ∙ ap (λ s. settle (set moved_all b (g s))) stands

  -- b's change is nothing
  nothing : g was ≡ was → g (advanced was) ≡ advanced was → settle (change_of b g (settle first)) ≡ settle (change_of a f (settle (change_of b g xs)))
  nothing p q =
      at_once ∙ ap (λ s. settle (set moved_all b s)) (q ∙ sym stands) ∙ ap settle (set-get_or moved_all b standing.Apart)
      ∙ settle_still moved_all (twice_all first) ∙ sym (settle_free first free)
      ∙ sym (ap (λ zs. settle (change_of a f zs)) (ap settle (ap (set xs b) p ∙ set-get_or xs b standing.Apart) ∙ still))

  -- b's registration ends
  abbrev without : List Standing
  without = set xs b standing.Apart

  without_still : (p : Bool) → pends without ≡ p → settle without ≡ without
  without_still true h = settle_kept without h
  without_still false h =
      let back : set without b was ≡ xs = set-set xs b standing.Apart was ∙ set-get_or xs b standing.Apart in
      let nobody : pends xs ≡ false = ap pends (sym back) ∙ none_set is_pending without b was h quiet in
      let same : map advanced xs ≡ xs = sym (settle_free xs nobody) ∙ still in
      settle_still without (map-set advanced xs b standing.Apart ∙ ap (λ zs. set zs b standing.Apart) same)

  differs_too : a ≡ b → ⊥
  differs_too e = differs (sym e)

  over : g was ≡ standing.Apart → g (advanced was) ≡ standing.Apart → settle (change_of b g (settle first)) ≡ settle (change_of a f (settle (change_of b g xs)))
  over p q =
      let here : settle (change_of b g (settle first)) ≡ set moved_all b standing.Apart =
      at_once ∙ ap (λ s. settle (set moved_all b s)) q
      ∙ settle_still (set moved_all b standing.Apart) (map-set advanced moved_all b standing.Apart ∙ ap (λ zs. set zs b standing.Apart) (twice_all first)) in
      let last : List Standing = set first b standing.Apart in
      let there : change_of a f without ≡ last =
      ap (λ s. set without a (f s)) (get_or-set_other xs b a standing.Apart standing.Apart differs_too)
      ∙ set_other xs b a standing.Apart (f (get_or xs a standing.Apart)) differs_too in
      let gone : settle last ≡ set moved_all b standing.Apart =
      settle_free last (none_set is_pending first b standing.Apart free refl) ∙ map-set advanced first b standing.Apart in
      here ∙ sym gone ∙ sym (ap settle there)
      ∙ sym (ap (λ zs. settle (change_of a f zs)) (ap (λ s. settle (set xs b s)) p ∙ without_still (pends without) refl))

  half : settle (change_of b g (settle (change_of a f xs))) ≡ settle (change_of a f (settle (change_of b g xs)))
  half = elim (beside quiet) [
    | inl n ↦ nothing n.0 n.1
    | inr n ↦ over n.0 n.1
  ]

-- ---- in any case

pub changes : (a b : ℕ) (f g : Standing → Standing) (xs : List Standing) → (b ≡ a → ⊥) → GoesBeside f (get_or xs a standing.Apart) → GoesBeside g (get_or xs b standing.Apart)
    → settle xs ≡ xs → settle (change_of b g (settle (change_of a f xs))) ≡ settle (change_of a f (settle (change_of b g xs)))
changes a b f g xs differs f_beside g_beside still = by (pends (change_of a f xs)) (pends (change_of b g xs)) refl refl
  where
    turned : a ≡ b → ⊥
    turned e = differs (sym e)

    by : (p q : Bool) → pends (change_of a f xs) ≡ p → pends (change_of b g xs) ≡ q
        → settle (change_of b g (settle (change_of a f xs))) ≡ settle (change_of a f (settle (change_of b g xs)))
    by false q h k = half a b f g xs differs g_beside still h
    by true false h k = sym (half b a g f xs turned f_beside still k)
    by true true h k =
        ap (λ zs. settle (change_of b g zs)) (settle_kept (change_of a f xs) h)
        ∙ ap settle (ap (λ s. set (change_of a f xs) b (g s)) (get_or-set_other xs a b (f (get_or xs a standing.Apart)) standing.Apart differs)
        ∙ set_other xs a b (f (get_or xs a standing.Apart)) (g (get_or xs b standing.Apart)) differs
        ∙ ap (λ s. set (change_of b g xs) a (f s)) (sym (get_or-set_other xs b a (g (get_or xs b standing.Apart)) standing.Apart turned)))
        ∙ sym (ap (λ zs. settle (change_of a f zs)) (settle_kept (change_of b g xs) k))

-- ---- a join

pends_join : (b : ℕ) (given : Bool) (xs : List Standing) → pends (join_of b given xs) ≡ pends xs
pends_join b true xs = any_push is_pending xs (get_or xs b standing.Apart) (any_at is_pending xs b standing.Apart refl)
pends_join b false xs = any_push is_pending xs standing.Apart (λ h. absurd (true≢false (sym h)))

advanced_join : (b : ℕ) (given : Bool) (xs : List Standing) → map advanced (join_of b given xs) ≡ join_of b given (map advanced xs)
advanced_join b true xs = map_push advanced xs (get_or xs b standing.Apart) ∙ ap (λ s. map advanced xs ++ s ∷ []) (sym (get_or-map advanced xs b standing.Apart))
advanced_join b false xs = map_push advanced xs standing.Apart

-- a join goes with the end of a step
pub settle_join : (b : ℕ) (given : Bool) (xs : List Standing) → settle (join_of b given xs) ≡ join_of b given (settle xs)
settle_join b given xs =
    settle_is (join_of b given xs) ∙ ap (λ p. cond p (join_of b given xs) (map advanced (join_of b given xs))) (pends_join b given xs)
    ∙ by (pends xs) ∙ ap (join_of b given) (sym (settle_is xs))
  where
    by : (p : Bool) → cond p (join_of b given xs) (map advanced (join_of b given xs)) ≡ join_of b given (cond p xs (map advanced xs))
    by true = refl
    by false = advanced_join b given xs

change_join : (a b : ℕ) (f : Standing → Standing) (given : Bool) (xs : List Standing) → (b ≡ a → ⊥) → a < length xs
    → change_of a f (join_of b given xs) ≡ join_of b given (change_of a f xs)
change_join a b f given xs differs inside =
    ap (λ s. set (join_of b given xs) a (f s)) (get_or_push xs a (cond given (get_or xs b standing.Apart) standing.Apart) standing.Apart inside)
    ∙ set_push xs a (f (get_or xs a standing.Apart)) (cond given (get_or xs b standing.Apart) standing.Apart) inside
    ∙ ap (λ s. change_of a f xs ++ cond given s standing.Apart ∷ []) (sym (get_or-set_other xs a b (f (get_or xs a standing.Apart)) standing.Apart differs))

-- whatever the change is
pub joins : (a b : ℕ) (f : Standing → Standing) (given : Bool) (xs : List Standing) → (b ≡ a → ⊥) → a < length xs → settle xs ≡ xs
    → settle (join_of b given (settle (change_of a f xs))) ≡ settle (change_of a f (settle (join_of b given xs)))
joins a b f given xs differs inside still =
    settle_join b given (settle (change_of a f xs)) ∙ ap (join_of b given) (settle_twice (change_of a f xs))
    ∙ sym (settle_join b given (change_of a f xs)) ∙ sym (ap settle (change_join a b f given xs differs inside))
    ∙ sym (ap (λ zs. settle (change_of a f zs)) (settle_join b given xs ∙ ap (join_of b given) still))
