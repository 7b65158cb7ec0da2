-- One fact reads the users and the groups, and none reads the log.
use Rattle.std.specs.Prelude.{◌≡◌, ℕ, true, List, All, map}
use Rattle.std.proofs.lemmas.List.Elements.{All-weaker}
use Rattle.cm_base.specs.declared.log.Change.{Change}
use Rattle.cm_base.specs.declared.user.Group.{Group}
use Rattle.cm_base.specs.UserLists.{all_differ}
use Rattle.cmis_spec.specs.Repository.{Repository}
use Rattle.cmis_spec.specs.Well.{HasGroups, IsGroup, IsWellFormed}
use Rattle.journal_people.specs.Told.{PeopleTold}
use Rattle.cm_people.specs.Adopted.{adopted, event_for}

-- no member of a group is one twice
pub members_differ : (users : List (List ℕ)) (groups : List Group) → HasGroups users groups → All (λ g. all_differ g.members ≡ true) groups
members_differ users groups has = All-weaker (IsGroup users) (λ g. all_differ g.members ≡ true) (λ g is. is.2) groups has.1

pub others_keep : (r : Repository) (users : List (List ℕ)) (groups : List Group) (log : List Change) → IsWellFormed r → HasGroups users groups
    → IsWellFormed (record r { users = users; groups = groups; log = log })
others_keep r users groups log w has = record {
  numbers = w.numbers;
  series_numbers = w.series_numbers;
  firsts = w.firsts;
  renditions = w.renditions;
  root = w.root;
  ways = w.ways;
  one_parent = w.one_parent;
  pairs = w.pairs;
  names = w.names;
  documents = w.documents;
  series = w.series;
  plain = w.plain;
  own_names = w.own_names;
  relationships = w.relationships;
  policies = w.policies;
  access = w.access;
  listed = w.listed;
  contents = w.contents;
  sizes = w.sizes;
  typed = w.typed;
  types = w.types;
  defs = w.defs;
  kept = w.kept;
  own_values = w.own_values;
  groups = has;
  bounds = w.bounds;
  tokens = w.tokens;
  labels = w.labels;
}

pub adopted_keeps : (r : Repository) (people : PeopleTold) → IsWellFormed r → HasGroups people.names people.groups → IsWellFormed (adopted r people)
adopted_keeps r people w has = others_keep r people.names people.groups (map (event_for r.users people.names) r.log) w has
