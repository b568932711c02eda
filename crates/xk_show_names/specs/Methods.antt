-- Which method of a source text a unit belongs to, and what is put before the names of one. This project's own.
use Rattle.std.specs.Prelude.{ℕ, nat_le, nat_lt, Bool, true, ◌&&◌, is_some, List, [], ◌++◌, Option, Some, None, slice_get, codes}
use Rattle.std.specs.Prelude.{if◌then◌else◌}
use Rattle.std.specs.List.{fold}
use Rattle.std.specs.Option.{option_map_or}
use Rattle.xk_types.specs.declared.unit.UnitKind.{UnitKind}
use Rattle.xk_types.specs.declared.unit.UnitKind.TheVariants as unit_kind
use Rattle.xk_unit_origins.specs.UnitOrigins.{Head, UnitOrigins}
use Rattle.xk_show_names.specs.Letters.{cut_name}

-- the name of a method stands there, or before it, and behind that of the one found so far
abbrev pub is_nearer : ℕ → Option Head → Head → Bool
is_nearer at found h = is_some h.name && (nat_le h.at at && option_map_or (λ f. nat_lt f.at h.at) found true)

abbrev pub nearer : ℕ → Option Head → Head → Option Head
nearer at found h = if is_nearer at found h then Some h else found

-- the method that a place of the text is in: of those whose names stand there, or before it, the last one
abbrev pub method_at : List UnitOrigins → ℕ → Option Head
method_at origins at = fold (λ found o. nearer at found o.head) None origins

-- the method of a unit: of the body of an `async` the one that it stands in
abbrev pub method_of : List UnitOrigins → ℕ → Option Head
method_of origins unit = option_map_or (λ o. method_at origins o.head.at) (slice_get origins unit) None

-- `work.`; nothing for main
abbrev pub prefix_by : UnitKind → Option (List ℕ) → List ℕ
prefix_by unit_kind.Method (Some name) = cut_name name ++ codes "."
prefix_by _ _ = []

-- what stands before a name of this unit
abbrev pub prefix_at : List UnitOrigins → ℕ → List ℕ
prefix_at origins unit = option_map_or (λ h. prefix_by h.kind h.name) (method_of origins unit) []
