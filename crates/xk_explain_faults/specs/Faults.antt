-- What `explain` says of a source text whose names are at fault: of the first fault, and of each of those behind it. This project's own.
use Rattle.std.specs.Prelude.{ℕ, zero, suc, nat_lt, Bool, true, false, List, [], ◌∷◌, ◌++◌, length, map, take, codes}
use Rattle.std.specs.List.{flat_map}
use Rattle.std.specs.Option.{option_map_or}
use Rattle.serde_json.specs.Data.{Data}
use Rattle.xk_tree.specs.Tree.{TreeValue}
use Rattle.xk_tree.specs.declared.fault.FrontFault.{FrontFault}
use Rattle.xk_names.specs.FaultList.{next_name_fault}
use Rattle.xk_explain.specs.Explanations.{front_explanation}
use Rattle.xk_explain_json.specs.Explanations.{FindingValue, fronts_value}
use Rattle.xk_explain_names.specs.Notes.{front_notes}

-- the faults of names behind this one, each the next behind the one before, and no more than so many
unfoldable pub further_faults : ℕ → TreeValue → FrontFault → List FrontFault
further_faults zero t f = []
further_faults (suc n) t f = option_map_or (λ g. g ∷ further_faults n t g) (next_name_fault t f) []

-- with the first no more than ten are shown
abbrev pub most_further : ℕ
most_further = 9

abbrev pub shown_further : TreeValue → FrontFault → List FrontFault
shown_further t f = take most_further (further_faults (suc most_further) t f)

abbrev pub has_more : TreeValue → FrontFault → Bool
has_more t f = nat_lt most_further (length (further_faults (suc most_further) t f))

-- a fault of the text that spells the tree, with what is told beside it
abbrev pub found : TreeValue → List ℕ → FrontFault → FindingValue
found t text f = (f, front_notes t text f)

-- ---- as a text

-- all that is said of one, below an empty line
abbrev pub finding_text : List ℕ → List ℕ → FindingValue → List ℕ
finding_text file text x = codes "\n" ++ front_explanation file text x.0 x.1

abbrev pub more_text : Bool → List ℕ
more_text true = codes "\n   = there are more faults of names: these are the first 10\n"
more_text false = []

abbrev pub faults_explanation : List ℕ → List ℕ → TreeValue → FrontFault → List ℕ
faults_explanation file text t f =
    (front_explanation file text f (front_notes t text f) ++ flat_map (finding_text file text) (map (found t text) (shown_further t f)))
    ++ more_text (has_more t f)

-- ---- as a JSON value

abbrev pub faults_value : List ℕ → List ℕ → TreeValue → FrontFault → Data
faults_value file text t f =
    fronts_value file text f (front_notes t text f) (map (found t text) (shown_further t f)) (has_more t f)
