-- JSON as replies have it: no floats, and the names of each object in byte order, each once.
use Rattle.std.specs.Prelude.{ℕ, List, Bool, true, ◌&&◌, fold}
use Rattle.std.specs.Ordering.{nat_cmp, is_lt}
use Rattle.std.specs.Cmp.Lexicographic.{slice_cmp}
use Rattle.serde_json.specs.Data.{Data, null, boolean, number, string, array, object, Items, no_items, item, Members, no_members, member, put}
use Rattle.serde_json.specs.View.{items_of}

-- an array of these
abbrev pub list_data : List Data → Data
list_data ds = array (items_of ds)

-- the members with one more, by byte order of the names; of one name the last
abbrev pub with_field : Members → List ℕ × Data → Members
with_field ms f = put f.0 f.1 ms

-- an object of these fields, whatever their order
abbrev pub object_data : List (List ℕ × Data) → Data
object_data fs = object (fold with_field no_members fs)

-- the name stands before each name of these
abbrev pub is_before : List ℕ → Members → Bool
is_before k no_members = true
is_before k (member l e ms) = is_lt (slice_cmp nat_cmp k l) && is_before k ms

-- in each object the names ascend
abbrev mutual
  pub in_order : Data → Bool
  in_order null = true
  in_order (boolean b) = true
  in_order (number n) = true
  in_order (string s) = true
  in_order (array ds) = items_in_order ds
  in_order (object ms) = members_in_order ms

  pub items_in_order : Items → Bool
  items_in_order no_items = true
  items_in_order (item d ds) = in_order d && items_in_order ds

  pub members_in_order : Members → Bool
  members_in_order no_members = true
  members_in_order (member k d ms) = is_before k ms && in_order d && members_in_order ms
