-- The access control list of an object (CMIS 1.1, section 2.2.10.2).
use Rattle.std.specs.Prelude.{ℕ, not, List, [], ◌∷◌, map, filter, bytes_eq, codes, Ok}
use Rattle.cm_base.specs.declared.access.Ace.{Ace}
use Rattle.cm_base.specs.declared.access.Level.{Level}
use Rattle.cm_base.specs.declared.access.Level.TheVariants as levels
use Rattle.cm_base.specs.declared.object.Object.{Object}
use Rattle.cm_base.specs.declared.cause.Cause.TheVariants as causes
use Rattle.cm_base.specs.Judged.{Judged, ◌>>=◌, find_or}
use Rattle.call_parts.specs.declared.readings.ReadAcl.{ReadAcl}
use Rattle.call_parts.specs.declared.replies.ShownAce.{ShownAce}
use Rattle.call_parts.specs.declared.replies.AclReply.{AclReply}
use Rattle.cm_see.specs.Addressed.{addressed}
use Rattle.cmis_spec.specs.Repository.{Repository, entry_of}
use Rattle.cmis_spec.specs.Access.{aces_at}

-- the word of a permission (section 2.1.12.3.1); no entry of a list permits nothing
abbrev pub permission_word : Level → List ℕ
permission_word levels.None = []
permission_word levels.Read = codes "cmis:read"
permission_word levels.Write = codes "cmis:write"
permission_word levels.All = codes "cmis:all"

-- the permissions that the entries give a principal
abbrev pub permissions_of : List Ace → List ℕ → List (List ℕ)
permissions_of aces principal = map (λ a. permission_word a.level) (filter (λ a. bytes_eq a.principal principal) aces)

-- the principals of the entries, each once
abbrev pub principals : List Ace → List (List ℕ)
principals [] = []
principals (a ∷ aces) = a.principal ∷ filter (λ p. not (bytes_eq p a.principal)) (principals aces)

abbrev pub shown_ace : List Ace → List ℕ → ShownAce
shown_ace aces principal = record { principal = principal; permissions = permissions_of aces principal }

-- each principal with his permissions
abbrev pub shown_aces : List Ace → List ShownAce
shown_aces aces = map (shown_ace aces) (principals aces)

-- the list of an object, and of a document that of its series
abbrev pub acl_reply : Repository → Object → AclReply
acl_reply r x = record { aces = shown_aces (aces_at r (entry_of x)) }

abbrev pub answer_acl : Repository → List ℕ → ReadAcl → Judged AclReply
answer_acl r u q = do
  x ← find_or causes.NotFound (addressed r u q.place)
  Ok (acl_reply r x)
