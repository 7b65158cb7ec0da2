-- Files of users and of groups: one of them on each line.
use Rattle.std.specs.Prelude.{ℕ, suc, ◌==◌, Bool, false, ◌&&◌, ◌||◌, not, List, [], ◌∷◌, ◌++◌, fold, map, Option, None, Some, option_map, Result, Ok, Err, if◌then◌else◌}
use Rattle.std.specs.List.{list_all, list_any, slice_split, position}
use Rattle.cm_base.specs.UserLists.{is_comma, is_user_list}
use Rattle.cm_base.specs.declared.user.User.{User}
use Rattle.cmis_words.specs.GroupLists.{is_group_list}
use Rattle.word_files.specs.declared.listed.Kind.{Kind}
use Rattle.word_files.specs.declared.listed.Kind.TheVariants as kinds
use Rattle.word_files.specs.declared.listed.Listed.{Listed}
use Rattle.word_files.specs.declared.listed.Listed.TheVariants.{Users, Groups}
use Rattle.word_files.specs.declared.listed.FileStop.{FileStop}
use Rattle.word_files.specs.declared.listed.FileStop.TheVariants as stops

abbrev pub is_line_feed : ℕ → Bool
is_line_feed b = b == 10

-- a space or a tab
abbrev pub is_blank : ℕ → Bool
is_blank b = b == 32 || b == 9

-- the lines of a text, without their line feeds
abbrev pub lines : List ℕ → List (List ℕ)
lines text = slice_split is_line_feed text

-- it begins with #
abbrev pub is_comment : List ℕ → Bool
is_comment [] = false
is_comment (b ∷ bs) = b == 35

-- a line that is neither blanks alone nor a comment
abbrev pub says : List ℕ → Bool
says line = not (list_all is_blank line || is_comment line)

-- one user, as he stands between the commas of a list
abbrev pub is_user_line : List ℕ → Bool
is_user_line line = not (list_any is_comma line) && is_user_list line

-- one group of users of these names, as it stands between the commas of a list
abbrev pub is_group_line : List (List ℕ) → List ℕ → Bool
is_group_line users line = not (list_any is_comma line) && is_group_list users line

-- a user; a group of these users
abbrev pub is_line : Kind → List ℕ → Bool
is_line kinds.Users line = is_user_line line
is_line (kinds.Groups users) line = is_group_line (map (λ u. u.name) users) line

abbrev pub listed : Kind → Listed
listed kinds.Users = Users
listed (kinds.Groups users) = Groups

-- a line that says something else
abbrev pub is_bad : Kind → List ℕ → Bool
is_bad kind line = says line && not (is_line kind line)

-- the number of the first of them, counted from 1
abbrev pub bad_line : Kind → List ℕ → Option ℕ
bad_line kind text = option_map suc (position (is_bad kind) (lines text))

-- ---- the list

-- a list with one more item, behind a comma
abbrev pub with_item : List ℕ → List ℕ → List ℕ
with_item [] item = item
with_item (b ∷ bs) item = (b ∷ bs) ++ 44 ∷ item

abbrev pub with_line : List ℕ → List ℕ → List ℕ
with_line list line = if says line then with_item list line else list

-- the lines that say something, as a list between commas
abbrev pub list_of : List ℕ → List ℕ
list_of text = fold with_line [] (lines text)

abbrev pub list_by : Kind → List ℕ → Option ℕ → Result (List ℕ) FileStop
list_by kind text None = Ok (list_of text)
list_by kind text (Some n) = Err (stops.Line (listed kind) n)

-- the list of a file with this text, or its first bad line
abbrev pub list_in : Kind → List ℕ → Result (List ℕ) FileStop
list_in kind text = list_by kind text (bad_line kind text)
