-- The JSON of lists and pages of objects that are shown with more than their properties (CMIS 1.1, section 5.2.11).
use Rattle.std.specs.Prelude.{ℕ, List, [], ◌∷◌, codes, map, Option, Some, None}
use Rattle.serde_json.specs.Data.{Data, boolean, number, unsigned, string}
use Rattle.json_text.specs.Build.{object_data, list_data}
use Rattle.include_parts.specs.declared.replies.IncludedMember.{IncludedMember}
use Rattle.include_parts.specs.declared.replies.IncludedReply.{IncludedReply}
use Rattle.include_parts.specs.declared.replies.IncludedChildrenReply.{IncludedChildrenReply}
use Rattle.include_parts.specs.declared.replies.IncludedParentsReply.{IncludedParentsReply}
use Rattle.include_parts.specs.declared.replies.IncludedObjectsReply.{IncludedObjectsReply}
use Rattle.include_parts.specs.declared.replies.IncludedPageReply.{IncludedPageReply}
use Rattle.include_json.specs.Included.{included_data}

-- one object
abbrev pub reply_data : IncludedReply → Data
reply_data r = included_data r.object

-- the name that an object has in a folder, under this key, where it is shown
abbrev pub named_fields : List ℕ → Option (List ℕ) → List (List ℕ × Data)
named_fields key None = []
named_fields key (Some name) = (key, string name) ∷ []

-- an object with its name in a folder
unfoldable pub member_data : List ℕ → IncludedMember → Data
member_data key m = object_data ((codes "object", included_data m.object) ∷ named_fields key m.segment)

-- a page of children
unfoldable pub children_data : IncludedChildrenReply → Data
children_data r = object_data
    ((codes "objects", list_data (map (member_data (codes "pathSegment")) r.children))
    ∷ (codes "hasMoreItems", boolean r.has_more_items)
    ∷ (codes "numItems", number (unsigned r.num_items))
    ∷ [])

-- a page of objects
unfoldable pub page_data : IncludedPageReply → Data
page_data r = object_data
    ((codes "objects", list_data (map included_data r.objects))
    ∷ (codes "hasMoreItems", boolean r.has_more_items)
    ∷ (codes "numItems", number (unsigned r.num_items))
    ∷ [])

-- a list of objects
abbrev pub objects_data : IncludedObjectsReply → Data
objects_data r = list_data (map included_data r.objects)

-- the folders of an object
abbrev pub parents_data : IncludedParentsReply → Data
parents_data r = list_data (map (member_data (codes "relativePathSegment")) r.parents)
