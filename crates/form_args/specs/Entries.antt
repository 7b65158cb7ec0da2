-- The access control entries that a form gives (CMIS 1.1, section 5.4.4.3.5).
use Rattle.std.specs.Prelude.{ℕ, ◌+◌, List, [], ◌∷◌, Bool, true, false, Ok}
use Rattle.std.specs.List.{list_any}
use Rattle.cm_base.specs.declared.cause.Cause.TheVariants as causes
use Rattle.cm_base.specs.Judged.{Judged, ◌>>◌, refuse}
use Rattle.call_parts.specs.declared.writes.AceRequest.{AceRequest}
use Rattle.form_args.specs.declared.pairs.Pair.{Pair}
use Rattle.form_args.specs.Pairs.{indexed, texts_of}

-- the i-th principal, with the permissions PERMISSION[i][0], PERMISSION[i][1], ..
abbrev pub ace_at : List Pair → List ℕ → ℕ → List ℕ → AceRequest
ace_at pairs permission i who = record { principal = who; permissions = texts_of pairs (indexed permission i) }

-- one for each principal
abbrev pub aces_from : List Pair → List ℕ → ℕ → List (List ℕ) → List AceRequest
aces_from pairs permission i [] = []
aces_from pairs permission i (who ∷ others) = ace_at pairs permission i who ∷ aces_from pairs permission (i + 1) others

abbrev pub is_empty : List ℕ → Bool
is_empty [] = true
is_empty (b ∷ bs) = false

-- the entries that a form gives under these two names: no principal is empty
abbrev pub aces_of : List Pair → List ℕ → List ℕ → Judged (List AceRequest)
aces_of pairs principal permission = do
  refuse (causes.BadArgument principal) (list_any is_empty (texts_of pairs principal))
  Ok (aces_from pairs permission 0 (texts_of pairs principal))
