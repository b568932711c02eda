-- Signs that aren't of ASCII, by their numbers in Unicode, as a text goes on with them. This project's own.
use Rattle.std.specs.Prelude.{ℕ, ◌==◌, nat_le, Bool, false, ◌&&◌, ◌||◌, List, [], ◌∷◌}
use Rattle.xk_explain_words.specs.Words.{begins}

-- a typographic quote: U+2018 to U+201F, U+00AB or U+00BB
abbrev pub is_quote_mark : List ℕ → Bool
is_quote_mark (a ∷ b ∷ c ∷ bs) = a == 226 && (b == 128 && (nat_le 152 c && nat_le c 159))
is_quote_mark _ = false

unfoldable pub is_quote : List ℕ → Bool
is_quote rest = is_quote_mark rest || (begins rest (194 ∷ 171 ∷ []) || begins rest (194 ∷ 187 ∷ []))

-- a blank of another width: U+2000 to U+200A, U+202F, U+205F or U+3000
abbrev pub is_space_mark : List ℕ → Bool
is_space_mark (a ∷ b ∷ c ∷ bs) = a == 226 && (b == 128 && (nat_le 128 c && nat_le c 138))
is_space_mark _ = false

unfoldable pub is_other_blank : List ℕ → Bool
is_other_blank rest =
    is_space_mark rest || (begins rest (226 ∷ 128 ∷ 175 ∷ []) || (begins rest (226 ∷ 129 ∷ 159 ∷ [])
    || begins rest (227 ∷ 128 ∷ 128 ∷ [])))

-- a sign without any width: U+00AD, U+200B to U+200F, U+2060 or U+FEFF
abbrev pub is_joining_mark : List ℕ → Bool
is_joining_mark (a ∷ b ∷ c ∷ bs) = a == 226 && (b == 128 && (nat_le 139 c && nat_le c 143))
is_joining_mark _ = false

unfoldable pub is_without_width : List ℕ → Bool
is_without_width rest =
    is_joining_mark rest || (begins rest (194 ∷ 173 ∷ []) || (begins rest (226 ∷ 129 ∷ 160 ∷ [])
    || begins rest (239 ∷ 187 ∷ 191 ∷ [])))

-- nothing can be seen there
unfoldable pub is_unseen : List ℕ → Bool
is_unseen rest = begins rest (194 ∷ 160 ∷ []) || (is_other_blank rest || is_without_width rest)

-- a sign for a comparison: U+2260, U+2264 or U+2265
unfoldable pub is_comparison_sign : List ℕ → Bool
is_comparison_sign rest =
    begins rest (226 ∷ 137 ∷ 160 ∷ []) || (begins rest (226 ∷ 137 ∷ 164 ∷ []) || begins rest (226 ∷ 137 ∷ 165 ∷ []))

-- a dash: U+2013, U+2014 or the minus sign U+2212
unfoldable pub is_dash : List ℕ → Bool
is_dash rest =
    begins rest (226 ∷ 128 ∷ 147 ∷ []) || (begins rest (226 ∷ 128 ∷ 148 ∷ []) || begins rest (226 ∷ 136 ∷ 146 ∷ []))

-- a sign of full width or its like, U+FF00 to U+FF7F
unfoldable pub is_wide : List ℕ → Bool
is_wide rest = begins rest (239 ∷ 188 ∷ []) || begins rest (239 ∷ 189 ∷ [])
