-- A chain that is listed from its first on.
use Rattle.std.proofs.Common.{◌≡◌, ◌∙◌, ℕ, ◌<◌, List, [], ◌∷◌, ◌++◌, length, Option, Some, None, refl, sym, ap, subst, arith, append_assoc, length-append}
use Rattle.std.proofs.lemmas.List.{append-nil}
use Rattle.std.proofs.lemmas.Option.{none-some, same_Some}
use Rattle.xk_collections.specs.Chains.{at, IsChain}

-- these are listed, and the others follow from here on
pub record IsListing (next : List (Option ℕ)) (acts done : List ℕ) (start : Option ℕ) : Type 0 where
  pub rest : List ℕ
  pub split : acts ≡ done ++ rest
  pub chained : IsChain next start rest

pub begins : (next : List (Option ℕ)) (before acts : List ℕ) (start : Option ℕ) → IsChain next start acts → IsListing next (before ++ acts) before start
begins next before acts start h = record { rest = acts; split = refl; chained = h }

pub record Steps (next : List (Option ℕ)) (acts done : List ℕ) (act : ℕ) : Type 0 where
  pub inside : act < length next
  pub more : length done < length acts
  pub then : IsListing next acts (done ++ act ∷ []) (at next act)

pub goes_on : (next : List (Option ℕ)) (acts done : List ℕ) (act : ℕ) → IsListing next acts done (Some act) → Steps next acts done act
goes_on next acts done act h = of h.rest h.split h.chained
  where
    of : (rest : List ℕ) → acts ≡ done ++ rest → IsChain next (Some act) rest → Steps next acts done act
    of [] split e = absurd (none-some act (sym e))
    of (b ∷ rest) split chained =
        let same : act ≡ b = same_Some act b chained.0 in
        subst (λ (k : ℕ). Steps next acts done k) (sym same) (record {
          inside = chained.1;
          more = omega (arith, ap length split, length-append done (b ∷ rest));
          then = record { rest = rest; split = split ∙ sym (append_assoc done (b ∷ []) rest); chained = chained.2 };
        })

pub ends : (next : List (Option ℕ)) (acts done : List ℕ) → IsListing next acts done None → done ≡ acts
ends next acts done h = of h.rest h.split h.chained
  where
    of : (rest : List ℕ) → acts ≡ done ++ rest → IsChain next None rest → done ≡ acts
    of [] split e = sym (split ∙ append-nil done)
    of (b ∷ rest) split chained = absurd (none-some b chained.0)
