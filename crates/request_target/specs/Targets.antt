-- The addresses of the Browser Binding (CMIS 1.1, section 5.3): the service /cmis, the repository /cmis/main, and objects by
-- their paths below /cmis/main/root.
use Rattle.std.specs.Prelude.{ℕ, List, [], ◌∷◌, codes, bytes_eq, not, Option, Some, None, Ok, Err, if◌then◌else◌}
use Rattle.std.specs.List.{list_all}
use Rattle.std.specs.Str.{is_utf8}
use Rattle.cm_base.specs.declared.cause.Cause.TheVariants as causes
use Rattle.cm_base.specs.Judged.{Judged, ◌>>◌, ◌>>=◌, refuse, find_or}
use Rattle.request_target.specs.declared.target.Target.{Target}
use Rattle.request_target.specs.declared.target.Target.TheVariants as targets
use Rattle.request_target.specs.Path.{names_of}
use Rattle.request_target.specs.Form.{locator, path_in, query_in}

-- below /cmis/main: /root and a path
abbrev pub below_main : List (List ℕ) → Judged Target
below_main [] = Ok targets.Repository
below_main (n ∷ names) = if bytes_eq n (codes "root") then Ok (targets.Object names) else Err causes.NoUrl

-- below /cmis: /main and what is below it
abbrev pub below_cmis : List (List ℕ) → Judged Target
below_cmis [] = Ok targets.Service
below_cmis (n ∷ names) = if bytes_eq n (codes "main") then below_main names else Err causes.NoUrl

abbrev pub address_of : List (List ℕ) → Judged Target
address_of [] = Err causes.NoUrl
address_of (n ∷ names) = if bytes_eq n (codes "cmis") then below_cmis names else Err causes.NoUrl

-- each segment is UTF-8, and then the path is one of the three
abbrev pub target_at : List ℕ → Judged Target
target_at path = do
  refuse (causes.BadArgument (codes "path")) (not (list_all is_utf8 (names_of path)))
  address_of (names_of path)

-- the address that a target names
abbrev pub target_of : List ℕ → Judged Target
target_of target = do
  text ← find_or causes.NoUrl (locator target)
  target_at (path_in text)

abbrev pub query_by : Option (List ℕ) → List ℕ
query_by None = []
query_by (Some text) = query_in text

-- the query of a target
abbrev pub query_of : List ℕ → List ℕ
query_of target = query_by (locator target)
