-- What is told of a program is one.
use Rattle.std.proofs.Common.{◌≡◌, ◌∙◌, ℕ, ℤ, Bool, List, [], map, Option, Some, None, sym, ap, subst}
use Rattle.xk_types.specs.Code.{ModuleValue}
use Rattle.xk_tree.specs.Tree.{TreeValue}
use Rattle.xk_names.specs.Captures.{shared_texts}
use Rattle.xk_syntax.proofs.TextLemmas.{one_tree}
use Rattle.xk_law_compiler.proofs.CompiledOnceLaw.{one_units}
use Rattle.xk_unit_origins.specs.UnitOrigins.{UnitOrigins}
use Rattle.xk_origins.specs.UnitOrigins.{unit_origins}
use Rattle.xk_origins.specs.Laws.{AreOrigins}
use Rattle.xk_hints.specs.Words.{HintValue, hints}
use Rattle.xk_listing.proofs.ListingLemmas.{one_listing}
use Rattle.xk_random.proofs.RunLemmas.{tally_once}
use Rattle.xk_jobs.specs.declared.job.Form.{Form}
use Rattle.xk_jobs.specs.declared.job.Form.TheVariants as form
use Rattle.xk_types.specs.declared.world.Entry.{Entry}
use Rattle.xk_answers.specs.declared.picture.Picture.{Picture}
use Rattle.xk_answers.specs.declared.picture.Picture.TheVariants as picture
use Rattle.xk_answers.specs.Results.{Check, Compile, Count, Doing, Draw, Expected, Explain, IsPicture, IsTelling}
use Rattle.xk_answers.specs.Results.{Json, Listing, OutcomePage, Outcomes, Races, Replay, Run, Tally, Where}
use Rattle.xk_program.specs.Origins.{HaveOrigins, HaveSharedNames, IsByNames, IsByOrigins}
use Rattle.xk_answers.specs.Explanation.{HaveHints, IsListed, Tale, acceptance_told, event_values_so_far, events_so_far, image_so_far}
use Rattle.xk_answers.specs.Explanation.{lanes_so_far, page_so_far, path_page_told, path_told, races_told, rounds_told, span_told}
use Rattle.xk_answers.specs.Explanation.{where_told}
use Rattle.xk_answers.specs.Explanation.{why_told}
use Rattle.xk_jobs.specs.declared.job.Order.TheVariants as order
use Rattle.xk_program.specs.Programs.{Gives}
use Rattle.xk_types.specs.World.{World}
use Rattle.xk_serve.specs.OneAnswer.{HasOneStatus}
use Rattle.xk_serve.proofs.LogUniquenessLemmas.{text_once}
use Rattle.xk_serve.proofs.RunUniquenessLemmas.{last_once, logged_once}
use Rattle.xk_serve.proofs.TextUniquenessLemmas.{unfit_none}

-- a tree has one list of origins
same_origins : (t : TreeValue) (o p : List UnitOrigins) → AreOrigins t o → AreOrigins t p → o ≡ p
same_origins t o p h k = h.are ∙ ap (map (unit_origins t)) (one_units t h.units k.units h.are_units k.are_units) ∙ sym k.are

-- bytes that give a module have one, if any
pub origins_once : (kind : Form) (bytes : List ℕ) (m : ModuleValue) (o p : Option (List UnitOrigins)) → Gives kind bytes m
    → HaveOrigins kind bytes o
    → HaveOrigins kind bytes p → o ≡ p
origins_once form.Module bytes m o p given h k = h ∙ sym k
origins_once form.Source bytes m None p given h k = absurd (unfit_none bytes h.0 m h.1 given)
origins_once form.Source bytes m (Some o) None given h k = absurd (unfit_none bytes k.0 m k.1 given)
origins_once form.Source bytes m (Some o) (Some p) given h k =
    let same = one_tree bytes k.0 h.0 k.1.1 h.1.1 in ap Some (same_origins h.0 o p h.2 (subst (λ (t : TreeValue). AreOrigins t p) same k.2))

-- what is told by them is one text
by_origins_once : {X : Type 0} (kind : Form) (bytes : List ℕ) (m : ModuleValue) (text : Option (List UnitOrigins) → X) (a b : X) → Gives kind bytes m
    → IsByOrigins kind bytes text a → IsByOrigins kind bytes text b → a ≡ b
by_origins_once kind bytes m text a b given h k = h.2 ∙ ap text (origins_once kind bytes m h.0 k.0 given h.1 k.1) ∙ sym k.2

-- a text has one list of hints
hints_once : (kind : Form) (bytes : List ℕ) (hs is : List HintValue) → HaveHints kind bytes hs → HaveHints kind bytes is → hs ≡ is
hints_once form.Module bytes hs is h k = h ∙ sym k
hints_once form.Source bytes hs is h k = h.2 ∙ ap hints (one_tree bytes h.0 k.0 h.1.1 k.1.1) ∙ sym k.2

-- a text has one list of names
shared_once : (kind : Form) (bytes : List ℕ) (xs ys : List (List ℕ)) → HaveSharedNames kind bytes xs → HaveSharedNames kind bytes ys
    → xs ≡ ys
shared_once form.Module bytes xs ys h k = h ∙ sym k
shared_once form.Source bytes xs ys h k = h.2 ∙ ap (λ (t : TreeValue). shared_texts t.shared) (one_tree bytes h.0 k.0 h.1.1 k.1.1) ∙ sym k.2

-- what is told by names, too, is one text
by_names_once : {X : Type 0} (kind : Form) (bytes : List ℕ) (m : ModuleValue) (text : List (List ℕ) → Option (List UnitOrigins) → X)
    (a b : X) → Gives kind bytes m
    → IsByNames kind bytes text a → IsByNames kind bytes text b → a ≡ b
by_names_once kind bytes m text a b given h k =
    let same = shared_once kind bytes k.0 h.0 k.1 h.1 in
    by_origins_once kind bytes m (text h.0) a b given h.2 (subst (λ names. IsByOrigins kind bytes (text names) b) same k.2)

listed_once : (text : List ℕ) (m : ModuleValue) (o : Option (List UnitOrigins)) (a b : List ℕ) → IsListed text m o a → IsListed text m o b → a ≡ b
listed_once text m (Some o) a b h k = one_listing text o m a b h k
listed_once text m None a b h k = one_listing [] [] m a b h k

-- a text that is whole or not is one, if both are
pub same_tale : {x y : List ℕ} {v w : Bool} → x ≡ y → v ≡ w → ◌≡◌ {A = Tale} (x, v) (y, w)
same_tale e d = cc

-- a picture of a run is one
picture_once : (p : Picture) (kind : Form) (file bytes : List ℕ) (m : ModuleValue) (args : List ℤ) (es : List Entry) (last : World) (a b : Tale)
    → Gives kind bytes m
    → IsPicture p kind file bytes m args es last a → IsPicture p kind file bytes m args es last b → a ≡ b
picture_once picture.Chart kind file bytes m args es last a b given h k = h ∙ sym k
picture_once picture.Events kind file bytes m args es last a b given h k =
    by_names_once kind bytes m (events_so_far bytes m args es last) a b given h k
picture_once picture.EventValues kind file bytes m args es last a b given h k =
    by_names_once kind bytes m (event_values_so_far bytes m args es last) a b given h k
picture_once (picture.Lanes window) kind file bytes m args es last a b given h k =
    by_names_once kind bytes m (lanes_so_far bytes window m es last) a b given h k
picture_once (picture.Image window) kind file bytes m args es last a b given h k =
    by_names_once kind bytes m (image_so_far bytes window m es last) a b given h k
picture_once (picture.Path form window) kind file bytes m args es last a b given h k =
    by_names_once kind bytes m (path_told form bytes window m es last) a b given h k
picture_once picture.Rounds kind file bytes m args es last a b given h k =
    by_names_once kind bytes m (rounds_told bytes m es last) a b given h k
picture_once (picture.Page window) kind file bytes m args es last a b given h k =
    by_names_once kind bytes m (page_so_far file bytes window m es last) a b given h k
picture_once (picture.PathPage window) kind file bytes m args es last a b given h k =
    by_names_once kind bytes m (path_page_told file bytes window m es last) a b given h k
picture_once (picture.Span json) kind file bytes m args es last a b given h k =
    by_origins_once kind bytes m (span_told json bytes m args es) a b given h k
picture_once (picture.Why step) kind file bytes m args es last a b given h k =
    by_names_once kind bytes m (why_told bytes step m args es) a b given h k
picture_once (picture.Races json) kind file bytes m args es last a b given h k =
    by_names_once kind bytes m (races_told json bytes m args es) a b given h k

-- what has one status is told as one text
pub telling_once : (what : Doing) (kind : Form) (file bytes : List ℕ) (m : ModuleValue) (args : List ℤ) (logged : List ℕ) (a b : Tale)
    → HasOneStatus what → Gives kind bytes m → IsTelling what kind file bytes m args logged a → IsTelling what kind file bytes m args logged b → a ≡ b
telling_once (Explain json) kind file bytes m args logged a b one given h k =
    let same = hints_once kind bytes k.1.0 h.1.0 k.1.1 h.1.1 in
    by_origins_once kind bytes m (acceptance_told json file bytes m h.1.0) a b given h.1.2
    (subst (λ hs. IsByOrigins kind bytes (acceptance_told json file bytes m hs) b) same k.1.2)
telling_once Listing kind file bytes m args logged a b one given h k =
    let same = origins_once kind bytes m h.0.0 k.0.0 given h.0.1 k.0.1 in
    same_tale (listed_once bytes m h.0.0 a.0 b.0 h.0.2 (subst (λ o. IsListed bytes m o b.0) (sym same) k.0.2)) (h.1 ∙ sym k.1)
telling_once (Draw picture) kind file bytes m args logged a b one given h k =
    let same = text_once logged k.1.0 h.1.0 k.1.1 h.1.1 in
    let last = last_once m args k.1.0 h.1.0 same k.1.2 h.1.2 in
    picture_once picture kind file bytes m args h.1.0 h.1.2.last a b given h.1.4
    (subst (λ w. IsPicture picture kind file bytes m args h.1.0 w b) last (subst (λ es. IsPicture picture kind file bytes m args es k.1.2.last b) same k.1.4))
telling_once (Where json at) kind file bytes m args logged a b one given h k =
    let here = h.1.1 in
    let there = k.1.1 in
    let same = text_once logged there.0 here.0 there.1 here.1 in
    by_names_once kind bytes m (where_told json bytes m args at here.0) a b given here.2
    (subst (λ es. IsByNames kind bytes (where_told json bytes m args at es) b) same there.2)
telling_once (Races json) kind file bytes m args logged a b one given h k =
    let here = h.1 in
    let there = k.1 in
    let same = logged_once order.First m args there.0 here.0 there.1 here.1 there.2 here.2 there.3 here.3 in
    by_names_once kind bytes m (races_told json bytes m args here.2) a b given here.4
    (subst (λ es. IsByNames kind bytes (races_told json bytes m args es) b) same.2 there.4)
telling_once (Tally seed runs) kind file bytes m args logged a b one given h k = same_tale (tally_once m args seed runs a.0 b.0 h.2.0 k.2.0) (h.2.1 ∙ sym k.2.1)
telling_once Check kind file bytes m args logged a b one given h k = absurd h
telling_once Compile kind file bytes m args logged a b one given h k = absurd h
telling_once (Run way kept) kind file bytes m args logged a b one given h k = absurd h
telling_once Replay kind file bytes m args logged a b one given h k = absurd h
telling_once (Outcomes sets limit pick kept) kind file bytes m args logged a b one given h k = absurd h
telling_once (Count sets limit) kind file bytes m args logged a b one given h k = absurd h
telling_once (Expected sets limit) kind file bytes m args logged a b one given h k = absurd h
telling_once (Json s) kind file bytes m args logged a b one given h k = absurd h
telling_once (OutcomePage window limit pick) kind file bytes m args logged a b one given h k = absurd one
