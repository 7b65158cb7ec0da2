-- The JSON of access control lists (CMIS 1.1, sections 2.1.12.2 and 5.2.11).
use Rattle.std.specs.Prelude.{ℕ, true, List, [], ◌∷◌, codes, map}
use Rattle.serde_json.specs.Data.{Data, boolean, string}
use Rattle.json_text.specs.Build.{object_data, list_data}
use Rattle.call_parts.specs.declared.replies.ShownAce.{ShownAce}
use Rattle.call_parts.specs.declared.replies.AclReply.{AclReply}

abbrev pub principal_data : List ℕ → Data
principal_data name = object_data ((codes "principalId", string name) ∷ [])

abbrev pub permissions_data : List (List ℕ) → Data
permissions_data words = list_data (map string words)

-- a principal with his permissions, which are given at the object itself
unfoldable pub ace_data : ShownAce → Data
ace_data a = object_data
    ((codes "isDirect", boolean true)
    ∷ (codes "permissions", permissions_data a.permissions)
    ∷ (codes "principal", principal_data a.principal)
    ∷ [])

-- the whole list: nothing else permits anything
unfoldable pub acl_data : AclReply → Data
acl_data r = object_data
    ((codes "aces", list_data (map ace_data r.aces))
    ∷ (codes "isExact", boolean true)
    ∷ [])
