-- What stands before and behind a place of a text: names alone, declarations, heads of methods, words of the language and of others. This project's own.
use Rattle.std.specs.Prelude.{ℕ, ◌-◌, ◌==◌, nat_eq, nat_lt, Bool, true, false, not, ◌&&◌, ◌||◌, List, [], ◌∷◌, length, take, drop, codes}
use Rattle.std.specs.List.{list_any, ends_with, prefix_len}
use Rattle.std.specs.Str.{bytes_eq}
use Rattle.xk_explain_words.specs.Words.{begins, first_word, is_digit, is_word_byte, last_word}
use Rattle.xk_explain_words.specs.Comments.{from_sign, to_sign}

-- a declaration of other languages begins so
unfoldable pub is_binder : List ℕ → Bool
is_binder word =
    bytes_eq word (codes "let") || (bytes_eq word (codes "const") || (bytes_eq word (codes "final") || (bytes_eq word (codes "mut") || bytes_eq word (codes "auto"))))

-- a type of numbers elsewhere
unfoldable pub is_number_type : List ℕ → Bool
is_number_type word =
    bytes_eq word (codes "int") || (bytes_eq word (codes "long") || (bytes_eq word (codes "Int")
    || (bytes_eq word (codes "bool") || (bytes_eq word (codes "boolean") || (bytes_eq word (codes "float")
    || (bytes_eq word (codes "double") || (bytes_eq word (codes "unsigned") || bytes_eq word (codes "short"))))))))

-- one of both
abbrev pub is_type : List ℕ → Bool
is_type word = is_binder word || is_number_type word

-- a word of the language
unfoldable pub is_reserved : List ℕ → Bool
is_reserved word =
    bytes_eq word (codes "shared") || (bytes_eq word (codes "def") || (bytes_eq word (codes "val") || (bytes_eq word (codes "var") || (bytes_eq word (codes "if") || (bytes_eq word (codes "else") || (bytes_eq word (codes "for") || (bytes_eq word (codes "in") || (bytes_eq word (codes "async") || (bytes_eq word (codes "clocked") || (bytes_eq word (codes "finish") || (bytes_eq word (codes "atomic") || (bytes_eq word (codes "Clock") || (bytes_eq word (codes "Long") || bytes_eq word (codes "Console"))))))))))))))

-- a name is wanted behind it
unfoldable pub wants_name : List ℕ → Bool
wants_name word =
    bytes_eq word (codes "def") || (bytes_eq word (codes "val") || bytes_eq word (codes "var"))

-- there is a word
abbrev pub is_word : List ℕ → Bool
is_word [] = false
is_word (b ∷ bs) = true

-- it begins with a digit
abbrev pub is_number : List ℕ → Bool
is_number [] = false
is_number (b ∷ bs) = is_digit b

-- a letter, a digit or a point stands there
abbrev pub goes_on : List ℕ → Bool
goes_on [] = false
goes_on (b ∷ bs) = is_word_byte b || b == 46

-- a value is wanted behind it
unfoldable pub wants_value : List ℕ → Bool
wants_value before =
    ends_with nat_eq before (codes "+") || (ends_with nat_eq before (codes "-") || (ends_with nat_eq before (codes "*")
    || (ends_with nat_eq before (codes "=") || ends_with nat_eq before (codes ","))))

-- a value ends before it
unfoldable pub ends_value : List ℕ → Bool
ends_value rest = begins rest (codes ";") || (begins rest (codes ")") || begins rest (codes ","))

-- it stands between these two signs
abbrev pub is_pair : List ℕ → List ℕ → List ℕ → List ℕ → Bool
is_pair before rest first second = ends_with nat_eq before first && begins rest second

-- a statement may begin behind it
abbrev pub is_begun : List ℕ → Bool
is_begun before =
    ends_with nat_eq before (codes ";") || (ends_with nat_eq before (codes "{")
    || (ends_with nat_eq before (codes "}") || ends_with nat_eq before (codes ")")))

-- what stands before the word that a text ends with
abbrev pub before_word : List ℕ → List ℕ
before_word before = to_sign (take (length before - length (last_word before)) before)

-- a name alone stands between the end of a statement and the end of the text: no word of the language, and no number
abbrev pub is_alone : List ℕ → Bool
is_alone before =
    (is_word (last_word before) && not (is_reserved (last_word before) || is_number (last_word before))) && is_begun (before_word before)

-- a declaration begins so
abbrev pub is_binding : List ℕ → Bool
is_binding word = bytes_eq word (codes "val") || bytes_eq word (codes "var")

-- a `val` or a `var` of the name that it ends with
abbrev pub is_declared : List ℕ → Bool
is_declared before = is_word (last_word before) && is_binding (last_word (before_word before))

-- a `==` stands there
abbrev pub is_equality : List ℕ → Bool
is_equality rest = begins rest (codes "==")

-- two things are compared there
unfoldable pub is_comparison : List ℕ → Bool
is_comparison rest =
    is_equality rest || (begins rest (codes "!=") || (begins rest (codes "<") || begins rest (codes ">")))

-- a type stands at the end
abbrev pub is_typed : List ℕ → Bool
is_typed before = ends_with nat_eq (before_word before) (codes ":")

-- a name stands at the end, as a parameter's without a type
abbrev pub is_listed : List ℕ → Bool
is_listed before =
    is_word (last_word before) && (ends_with nat_eq (before_word before) (codes "(") || ends_with nat_eq (before_word before) (codes ","))

-- `Clock`, or what is written for it
abbrev pub is_clock_word : List ℕ → Bool
is_clock_word word = bytes_eq word (codes "Clock") || bytes_eq word (codes "clock")

-- a statement, or a part of one, may end so
abbrev pub ends_part : List ℕ → Bool
ends_part before = is_word (last_word before) || ends_with nat_eq before (codes ")")

-- a line ends in it
abbrev pub has_line_feed : List ℕ → Bool
has_line_feed text = list_any (λ b. b == 10) text

-- the head of a method, or what stands before a value, ends there
unfoldable pub ends_head : ℕ → Bool
ends_head b = b == 123 || (b == 59 || b == 61)

-- what stands before that
abbrev pub head_text : List ℕ → List ℕ
head_text rest = take (prefix_len (λ b. not (ends_head b)) rest) rest

-- what the text goes on with there
abbrev pub behind_head : List ℕ → List ℕ
behind_head rest = drop (prefix_len (λ b. not (ends_head b)) rest) rest

-- a `(` stands in it
abbrev pub has_paren : List ℕ → Bool
has_paren text = list_any (λ b. b == 40) text

-- a statement begins so
unfoldable pub is_statement : List ℕ → Bool
is_statement word =
    bytes_eq word (codes "if") || (bytes_eq word (codes "for") || (bytes_eq word (codes "while") || (bytes_eq word (codes "finish") || (bytes_eq word (codes "async") || (bytes_eq word (codes "clocked") || (bytes_eq word (codes "atomic") || (bytes_eq word (codes "Console") || (bytes_eq word (codes "System") || bytes_eq word (codes "Clock")))))))))

-- the head of a method without a `def`
unfoldable pub is_method_head : List ℕ → Bool
is_method_head rest =
    has_paren (head_text rest) && (begins (behind_head rest) (codes "{") && not (is_statement (first_word rest)))

-- what stands before the value of a number
unfoldable pub is_number_head : List ℕ → Bool
is_number_head rest =
    is_word (first_word rest) && (not (has_paren (head_text rest)) && begins (behind_head rest) (codes "="))

-- what stands behind the first word
abbrev pub behind_first : List ℕ → List ℕ
behind_first rest = from_sign (drop (length (first_word rest)) rest)

-- a word stands before a `def`
unfoldable pub is_before_def : List ℕ → Bool
is_before_def rest = is_word (first_word rest) && bytes_eq (first_word (behind_first rest)) (codes "def")

-- nothing stands before, or what may be a shared number
abbrev pub is_outside : List ℕ → Bool
is_outside [] = true
is_outside (b ∷ bs) = ends_with nat_eq (b ∷ bs) (codes ";")

-- a barrier of other languages
unfoldable pub is_barrier : List ℕ → Bool
is_barrier word = bytes_eq word (codes "next") || (bytes_eq word (codes "advance") || bytes_eq word (codes "barrier"))

-- the second name of an `atomic` stands behind its `=`
abbrev pub is_second : List ℕ → Bool
is_second before =
    ends_with nat_eq before (codes "=") && bytes_eq (last_word (before_word (to_sign (take (length before - 1) before)))) (codes "atomic")

-- it goes on with a sign that isn't of ASCII
abbrev pub is_foreign : List ℕ → Bool
is_foreign [] = false
is_foreign (b ∷ bs) = not (nat_lt b 128)
