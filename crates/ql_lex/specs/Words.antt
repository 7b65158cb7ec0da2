-- The keywords and signs of the query language, and how they are written.
use Rattle.std.specs.Prelude.{ℕ, Bool, ◌||◌, List, [], ◌∷◌, find, Option, codes}
use Rattle.core.specs.Str.{str_eq_ignore_ascii_case}
use Rattle.ql_lex.specs.declared.word.Word.{Word}
use Rattle.ql_lex.specs.declared.word.Word.TheVariants as words

-- Keywords are written in capitals, signs as they are.
abbrev pub word_text : Word → List ℕ
word_text words.Select = codes "SELECT"
word_text words.From = codes "FROM"
word_text words.As = codes "AS"
word_text words.Where = codes "WHERE"
word_text words.Order = codes "ORDER"
word_text words.By = codes "BY"
word_text words.Asc = codes "ASC"
word_text words.Desc = codes "DESC"
word_text words.Or = codes "OR"
word_text words.And = codes "AND"
word_text words.Not = codes "NOT"
word_text words.Any = codes "ANY"
word_text words.In = codes "IN"
word_text words.Like = codes "LIKE"
word_text words.Is = codes "IS"
word_text words.Null = codes "NULL"
word_text words.InFolder = codes "IN_FOLDER"
word_text words.InTree = codes "IN_TREE"
word_text words.True = codes "TRUE"
word_text words.False = codes "FALSE"
word_text words.Timestamp = codes "TIMESTAMP"
word_text words.Star = codes "*"
word_text words.Dot = codes "."
word_text words.Comma = codes ","
word_text words.Open = codes "("
word_text words.Close = codes ")"
word_text words.Equal = codes "="
word_text words.NotEqual = codes "<>"
word_text words.Less = codes "<"
word_text words.Greater = codes ">"
word_text words.LessEqual = codes "<="
word_text words.GreaterEqual = codes ">="

-- The words that are keywords and no signs.
abbrev pub keywords : List Word
keywords =
    words.Select
    ∷ words.From
    ∷ words.As
    ∷ words.Where
    ∷ words.Order
    ∷ words.By
    ∷ words.Asc
    ∷ words.Desc
    ∷ words.Or
    ∷ words.And
    ∷ words.Not
    ∷ words.Any
    ∷ words.In
    ∷ words.Like
    ∷ words.Is
    ∷ words.Null
    ∷ words.InFolder
    ∷ words.InTree
    ∷ words.True
    ∷ words.False
    ∷ words.Timestamp
    ∷ []

-- In any case of its letters.
abbrev pub is_written : List ℕ → List ℕ → Bool
is_written bytes word = str_eq_ignore_ascii_case bytes word

-- The keyword that these bytes are, in any case.
unfoldable pub keyword_of : List ℕ → Option Word
keyword_of bytes = find (λ word. is_written bytes (word_text word)) keywords

-- The functions and joins that the language leaves out: CONTAINS, SCORE and JOIN, in any case. They are no keywords.
unfoldable pub is_left_out : List ℕ → Bool
is_left_out name = is_written name (codes "CONTAINS") || is_written name (codes "SCORE") || is_written name (codes "JOIN")
