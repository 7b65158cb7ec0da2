-- The list of users that the program is given: NAME:SECRET at each place between commas.
use Rattle.std.specs.Prelude.{ℕ, ◌==◌, nat_lt, nat_le, Bool, true, ◌&&◌, ◌||◌, not, List, [], ◌∷◌, length, map, codes, bytes_eq, Option, Some, None, Result, Ok, Err, ◌≡◌, if◌then◌else◌}
use Rattle.std.specs.Borrow.{Bor}
use Rattle.std.specs.Int.{is_in_range}
use Rattle.std.specs.List.{list_all, list_any, slice_split, before_first, after_first}
use Rattle.cm_base.specs.declared.user.User.{User}
use Rattle.cm_base.specs.declared.users.UsersStop.{UsersStop}
use Rattle.cm_base.specs.declared.users.UsersStop.TheVariants as stops

abbrev pub is_comma : ℕ → Bool
is_comma b = b == 44

abbrev pub is_colon : ℕ → Bool
is_colon b = b == 58

-- a letter, a digit, a dot, a dash or an underscore
abbrev pub is_user_byte : ℕ → Bool
is_user_byte b = is_in_range 97 122 b || is_in_range 65 90 b || is_in_range 48 57 b || b == 46 || b == 45 || b == 95

-- a printed character that is no blank
abbrev pub is_secret_byte : ℕ → Bool
is_secret_byte b = is_in_range 33 126 b

-- 1 to 64 bytes
abbrev pub has_user_length : List ℕ → Bool
has_user_length bytes = nat_lt 0 (length bytes) && nat_le (length bytes) 64

-- the principals that stand for a caller without credentials, and for every caller
abbrev pub is_reserved_name : List ℕ → Bool
is_reserved_name name = bytes_eq name (codes "anonymous") || bytes_eq name (codes "anyone")

abbrev pub is_user_name : List ℕ → Bool
is_user_name name = has_user_length name && list_all is_user_byte name && not (is_reserved_name name)

abbrev pub is_secret : List ℕ → Bool
is_secret secret = has_user_length secret && list_all is_secret_byte secret

-- what stands between commas, cut at its first colon
abbrev pub pieces : List ℕ → List (List ℕ)
pieces list = slice_split is_comma list

abbrev pub texts_of : List (Bor (List ℕ)) → List (List ℕ)
texts_of texts = map (λ t. t.now) texts

abbrev pub name_part : List ℕ → List ℕ
name_part piece = before_first is_colon piece

abbrev pub secret_part : List ℕ → List ℕ
secret_part piece = after_first is_colon piece

abbrev pub is_user : List ℕ → Bool
is_user piece = list_any is_colon piece && is_user_name (name_part piece) && is_secret (secret_part piece)

abbrev pub user_of : List ℕ → User
user_of piece = record { name = name_part piece; secret = secret_part piece }

-- no two of them are the same
abbrev pub all_differ : List (List ℕ) → Bool
all_differ [] = true
all_differ (x ∷ xs) = not (list_any (bytes_eq x) xs) && all_differ xs

-- at most 1000 users, whose names differ
abbrev pub is_user_list : List ℕ → Bool
is_user_list list = nat_le (length (pieces list)) 1000 && list_all is_user (pieces list) && all_differ (map name_part (pieces list))

-- the users in their order, or none where the list is not of its form
abbrev pub users_of : List ℕ → Option (List User)
users_of list = if is_user_list list then Some (map user_of (pieces list)) else None

-- the users of the list; words that are not valid exactly where it has none; want of memory is free
abbrev pub ReadsUsers : Result (List User) UsersStop → List ℕ → Type 0
ReadsUsers (Ok users) list = users_of list ≡ Some users
ReadsUsers (Err stops.Words) list = users_of list ≡ None
ReadsUsers (Err stops.Memory) list = Unit {0}
