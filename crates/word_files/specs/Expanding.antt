-- Words that name files: @FILE where USERS stands, and groups=@FILE.
use Rattle.std.specs.Prelude.{◌≡◌, ℕ, ◌==◌, Bool, ◌&&◌, ◌||◌, List, [], ◌∷◌, ◌++◌, codes, bytes_eq, Option, Some, None, is_some, Result, Ok, Err, if◌then◌else◌}
use Rattle.std.specs.List.{list_any, before_first, after_first, flat_map}
use Rattle.cm_base.specs.declared.user.User.{User}
use Rattle.cm_base.specs.UserLists.{users_of}
use Rattle.word_files.specs.declared.listed.Kind.TheVariants as kinds
use Rattle.word_files.specs.declared.listed.FileStop.{FileStop}
use Rattle.word_files.specs.declared.listed.FileStop.TheVariants as stops
use Rattle.word_files.specs.Lines.{list_in}

abbrev pub is_at : ℕ → Bool
is_at b = b == 64

-- the file that a word names: what stands behind an at sign, where this stands before it
abbrev pub file_behind : List ℕ → List ℕ → Option (List ℕ)
file_behind front word = if list_any is_at word && bytes_eq (before_first is_at word) front then Some (after_first is_at word) else None

-- @FILE in place of USERS, and the option groups=@FILE
abbrev pub file_of : List ℕ → Option (List ℕ)
file_of list = file_behind (codes "") list

abbrev pub file_of_option : List ℕ → Option (List ℕ)
file_of_option option = file_behind (codes "groups=") option

-- the words of a command that takes users
abbrev pub takes_users : List ℕ → Bool
takes_users command = bytes_eq command (codes "pipe") || bytes_eq command (codes "serve")

abbrev pub first_file : List (List ℕ) → Option (List ℕ)
first_file [] = None
first_file (option ∷ options) = if is_some (file_of_option option) then file_of_option option else first_file options

-- the files of users and of groups that words name
abbrev pub users_file : List (List ℕ) → Option (List ℕ)
users_file [] = None
users_file (command ∷ []) = None
users_file (command ∷ list ∷ options) = if takes_users command then file_of list else None

abbrev pub groups_file : List (List ℕ) → Option (List ℕ)
groups_file [] = None
groups_file (command ∷ []) = None
groups_file (command ∷ list ∷ options) = if takes_users command then first_file options else None

-- ---- the words with the texts of these files

-- USERS: what the file's text lists
abbrev pub users_by : Option (List ℕ) → List ℕ → Result (List ℕ) FileStop
users_by None list = Ok list
users_by (Some text) list = list_in kinds.Users text

-- what stands for an option: where it names a file, the list of the file's groups, and nothing where there is none
abbrev pub group_options : List ℕ → List (List ℕ)
group_options [] = []
group_options (b ∷ bs) = (codes "groups=" ++ b ∷ bs) ∷ []

abbrev pub options_for : List ℕ → List ℕ → List (List ℕ)
options_for list option = if is_some (file_of_option option) then group_options list else option ∷ []

abbrev pub options_with : Result (List ℕ) FileStop → List (List ℕ) → Result (List (List ℕ)) FileStop
options_with (Err stop) options = Err stop
options_with (Ok list) options = Ok (flat_map (options_for list) options)

-- each option groups=@FILE: what the file's text lists, the members being these users; where there are no users, the words stay as they are
abbrev pub options_by : Option (List ℕ) → Option (List User) → List (List ℕ) → Result (List (List ℕ)) FileStop
options_by None users options = Ok options
options_by (Some text) None options = Ok options
options_by (Some text) (Some users) options = options_with (list_in (kinds.Groups users) text) options

abbrev pub joined : List ℕ → List ℕ → Result (List (List ℕ)) FileStop → Result (List (List ℕ)) FileStop
joined command list (Err stop) = Err stop
joined command list (Ok options) = Ok (command ∷ list ∷ options)

abbrev pub with_users : List ℕ → Result (List ℕ) FileStop → Option (List ℕ) → List (List ℕ) → Result (List (List ℕ)) FileStop
with_users command (Err stop) groups options = Err stop
with_users command (Ok list) groups options = joined command list (options_by groups (users_of list) options)

-- the words with the texts of the files of users and of groups, where they name them; or why not
abbrev pub expanded : Option (List ℕ) → Option (List ℕ) → List (List ℕ) → Result (List (List ℕ)) FileStop
expanded users groups [] = Ok []
expanded users groups (command ∷ []) = Ok (command ∷ [])
expanded users groups (command ∷ list ∷ options) = with_users command (users_by users list) groups options

-- it stops exactly for this reason; want of memory is free
abbrev pub Stops : {A : Type 0} → FileStop → Result A FileStop → Type 0
Stops stops.Memory due = Unit {0}
Stops (stops.NotRead kind) due = due ≡ Err (stops.NotRead kind)
Stops (stops.Shared kind) due = due ≡ Err (stops.Shared kind)
Stops (stops.Line kind n) due = due ≡ Err (stops.Line kind n)
