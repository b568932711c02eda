-- Parts of a text, put behind one another.
use Rattle.std.proofs.Common.{◌≡◌, ◌∙◌, ℕ, List, ◌++◌, ap}

pub both : (out mid new p w ph v : List ℕ) → mid ≡ out ++ p → p ≡ ph → new ≡ mid ++ w → w ≡ v → new ≡ (out ++ ph) ++ v
both out mid new p w ph v first phases second waits =
    second ∙ ap (λ x. mid ++ x) waits ∙ ap (λ x. x ++ v) (first ∙ ap (λ x. out ++ x) phases)

-- behind a head two times two parts, and then the last one
pub joined : (h o1 o2 o3 o4 p a l k ph fh w v s t : List ℕ)
    → o1 ≡ h → o2 ≡ (o1 ++ p) ++ a → p ≡ l → a ≡ k → o3 ≡ (o2 ++ ph) ++ w → ph ≡ fh → w ≡ v → o4 ≡ o3 ++ s → s ≡ t
    → o4 ≡ ((((h ++ l) ++ k) ++ fh) ++ v) ++ t
joined h o1 o2 o3 o4 p a l k ph fh w v s t first second path lines third phases waits fourth last =
    fourth
    ∙ ap (λ x. o3 ++ x) last
    ∙ ap (λ x. x ++ t) (third ∙ ap (λ x. (o2 ++ x) ++ w) phases ∙ ap (λ x. (o2 ++ fh) ++ x) waits)
    ∙ ap (λ x. ((x ++ fh) ++ v) ++ t) (second ∙ ap (λ x. (o1 ++ x) ++ a) path ∙ ap (λ x. (o1 ++ l) ++ x) lines)
    ∙ ap (λ x. ((((x ++ l) ++ k) ++ fh) ++ v) ++ t) first
