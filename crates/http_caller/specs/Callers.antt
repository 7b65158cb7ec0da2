-- Who calls (RFC 7617).
use Rattle.std.specs.Prelude.{ℕ, ◌+◌, ◌||◌, ◌&&◌, ◌==◌, Bool, List, [], ◌∷◌, take, drop, codes, bytes_eq, find, Option, Some, None, Result, Ok, Err, if◌then◌else◌}
use Rattle.std.specs.List.{list_any, position_or_len}
use Rattle.base64.specs.Engines.{standard}
use Rattle.base64.specs.GeneralPurpose.{decode_of}
use Rattle.base64.specs.declared.decode.DecodeError.{DecodeError}
use Rattle.cm_base.specs.Judged.{Judged}
use Rattle.cm_base.specs.declared.cause.Cause.TheVariants.{WrongSecret}
use Rattle.cm_base.specs.declared.user.User.{User}
use Rattle.http_grammar.specs.Request.{Head}
use Rattle.http_grammar.specs.Fields.{same_word, values_named}

-- what follows one space or tab
abbrev pub after_blank : List ℕ → Option (List ℕ)
after_blank [] = None
after_blank (b ∷ rest) = if b == 32 || b == 9 then Some rest else None

-- what follows `Basic`, in any case, and a blank
abbrev pub after_scheme : List ℕ → Option (List ℕ)
after_scheme value = if same_word (take 5 value) (codes "basic") then after_blank (drop 5 value) else None

abbrev pub is_colon : ℕ → Bool
is_colon b = b == 58

-- the user and his secret stand before and after the first colon
abbrev pub is_caller : List ℕ → User → Bool
is_caller text user =
    bytes_eq user.name (take (position_or_len is_colon text) text) && bytes_eq user.secret (drop (position_or_len is_colon text + 1) text)

-- the user of the list whose name and secret these are
abbrev pub user_of : List User → List ℕ → Option User
user_of users text = if list_any is_colon text then find (is_caller text) users else None

-- the name of a user, where there is one
abbrev pub name_of : Option User → Judged (List ℕ)
name_of None = Err WrongSecret
name_of (Some user) = Ok user.name

-- by what the base64 decodes to
abbrev pub by_decoded : List User → Result (List ℕ) DecodeError → Judged (List ℕ)
by_decoded users (Ok text) = name_of (user_of users text)
by_decoded users (Err e) = Err WrongSecret

-- by what follows the scheme
abbrev pub by_rest : List User → Option (List ℕ) → Judged (List ℕ)
by_rest users None = Err WrongSecret
by_rest users (Some rest) = by_decoded users (decode_of standard rest)

-- by the values of Authorization: without one the caller is anonymous, and else there is one, which is that of a user
abbrev pub by_values : List User → List (List ℕ) → Judged (List ℕ)
by_values users [] = Ok (codes "anonymous")
by_values users (value ∷ []) = by_rest users (after_scheme value)
by_values users (value ∷ other ∷ values) = Err WrongSecret

-- the caller of a request with this head
abbrev pub caller_of : Head → List User → Judged (List ℕ)
caller_of head users = by_values users (values_named (codes "authorization") head.fields)
