-- JSON objects that are put together from groups of members, and the line that each is written in. This project's own.
use Rattle.std.specs.Prelude.{◌≡◌, ℕ, ℤ, List, [], ◌∷◌, ◌++◌, map, codes, Option, Some, None}
use Rattle.std.specs.Str.Lossy.{utf8_lossy}
use Rattle.serde_json.specs.Data.{Data, number, string, array, object, unsigned, Members, no_members, put}
use Rattle.serde_json.specs.Find.{of_integer}
use Rattle.serde_json.specs.Read.{read}
use Rattle.serde_json.specs.View.{items_of, members_view}
use Rattle.serde_json.specs.Written.{compact_text}
use Rattle.xk_json.specs.declared.object.Object.{Object}

-- ---- values

abbrev pub number_value : ℕ → Data
number_value n = number (unsigned n)

-- a number that may be less than 0
abbrev pub integer_value : ℤ → Data
integer_value z = number (of_integer z)

-- bytes as a text: what is no UTF-8 among them is told by the sign U+FFFD
abbrev pub bytes_value : List ℕ → Data
bytes_value bytes = string (utf8_lossy bytes)

-- the values of a list's elements, in its order
abbrev pub array_of : {A : Type 0} → (A → Data) → List A → Data
array_of value xs = array (items_of (map value xs))

-- a list of numbers
abbrev pub integers_value : List ℤ → Data
integers_value ns = array_of integer_value ns

-- ---- objects

-- members that are told together: keys, and their values
abbrev pub Group : Type 0
Group = List (List ℕ × Data)

-- these members put into others: each stands where its key belongs by the alphabet
abbrev pub with_members : Group → Members → Members
with_members [] ms = ms
with_members (m ∷ more) ms = with_members more (put m.0 m.1 ms)

-- these groups put into others, one after another
abbrev pub with_groups : List Group → Members → Members
with_groups [] ms = ms
with_groups (g ∷ gs) ms = with_groups gs (with_members g ms)

-- the members of an object in the making
abbrev pub members_of : Object → Members
members_of o = members_view o.members.entries

-- what an object in the making has got besides are these members
abbrev pub Gains : Group → Object → Object → Type 0
Gains g old new = members_of new ≡ with_members g (members_of old)

-- the members of these groups
abbrev pub GainsAll : List Group → Object → Object → Type 0
GainsAll gs old new = members_of new ≡ with_groups gs (members_of old)

-- the object of these groups
abbrev pub object_of : List Group → Data
object_of groups = object (with_groups groups no_members)

-- ---- lines

-- the text of a value, which has no white space between its parts, and a line feed
abbrev pub json_line : Data → List ℕ
json_line d = compact_text d ++ codes "\n"

-- what is written of a value, if there is one
abbrev pub text_of : Option Data → List ℕ
text_of None = []
text_of (Some d) = json_line d

-- the text of a value is read as this value, and no other
abbrev pub IsReadBack : Data → Type 0
IsReadBack d = read (compact_text d) ≡ Some d
