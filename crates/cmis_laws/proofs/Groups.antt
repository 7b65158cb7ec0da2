-- The facts of a repository that is well formed, in groups: a group that a change leaves alone is one field.
use Rattle.std.specs.Prelude.{ℕ, Bool, List}
use Rattle.std.proofs.Common.{arith}
use Rattle.cm_base.specs.declared.number.Oid.{Oid}
use Rattle.cm_base.specs.declared.number.Moment.{Moment}
use Rattle.cm_base.specs.declared.log.ChangeKind.{ChangeKind}
use Rattle.cmis_spec.specs.Repository.{Repository}
use Rattle.cmis_spec.specs.Changes.{stepped, noted}
use Rattle.cmis_spec.specs.Well.{HasNumbers, HasSeriesNumbers, HasFirsts, HasRenditions, HasRoot, HasWays, HasOneParent, HasPairs, HasNames, HasDocuments, HasSeries, HasPlain, HasOwnNames, HasRelationships, HasPolicies, HasAccess, HasLists, HasContents, HasSizes, HasTyped, HasTypes, HasDefs, HasKept, HasOwnValues, HasGroups, HasBounds, HasTokens, HasLabels, IsWellFormed}
use Rattle.cmis_laws.proofs.Steps.{HasRoom, labels_stepped, tokens_stepped, contents_stepped}

abbrev pub NumbersOf : Repository → Type 0
NumbersOf r = HasNumbers r × HasSeriesNumbers r × HasFirsts r × HasRenditions r

abbrev pub TreeOf : Repository → Type 0
TreeOf r = HasRoot r × HasWays r × HasOneParent r × HasPairs r × HasNames r

abbrev pub VersionsOf : Repository → Type 0
VersionsOf r = HasDocuments r × HasSeries r × HasPlain r × HasOwnNames r

abbrev pub LinksOf : Repository → Type 0
LinksOf r = HasRelationships r × HasPolicies r

abbrev pub ListsOf : Repository → Type 0
ListsOf r = HasAccess r × HasLists r × HasContents r × HasSizes r

abbrev pub ValuesOf : Repository → Type 0
ValuesOf r = HasTyped r × HasTypes r.types × HasDefs r.types × HasKept r × HasOwnValues r

abbrev pub UsersOf : Repository → Type 0
UsersOf r = HasGroups r.users r.groups

abbrev pub BoundsOf : Repository → Type 0
BoundsOf r = HasBounds r × HasTokens r × HasLabels r

pub record Groups (r : Repository) : Type 0 where
  pub numbers : NumbersOf r
  pub tree : TreeOf r
  pub versions : VersionsOf r
  pub links : LinksOf r
  pub lists : ListsOf r
  pub values : ValuesOf r
  pub users : UsersOf r
  pub bounds : BoundsOf r

pub groups : (r : Repository) → IsWellFormed r → Groups r
groups r w = record {
  numbers = (w.numbers, w.series_numbers, w.firsts, w.renditions);
  tree = (w.root, w.ways, w.one_parent, w.pairs, w.names);
  versions = (w.documents, w.series, w.plain, w.own_names);
  links = (w.relationships, w.policies);
  lists = (w.access, w.listed, w.contents, w.sizes);
  values = (w.typed, w.types, w.defs, w.kept, w.own_values);
  users = w.groups;
  bounds = (w.bounds, w.tokens, w.labels);
}

pub well : (r : Repository) → Groups r → IsWellFormed r
well r g = record {
  numbers = g.numbers.0;
  series_numbers = g.numbers.1;
  firsts = g.numbers.2;
  renditions = g.numbers.3;
  root = g.tree.0;
  ways = g.tree.1;
  one_parent = g.tree.2;
  pairs = g.tree.3;
  names = g.tree.4;
  documents = g.versions.0;
  series = g.versions.1;
  plain = g.versions.2;
  own_names = g.versions.3;
  relationships = g.links.0;
  policies = g.links.1;
  access = g.lists.0;
  listed = g.lists.1;
  contents = g.lists.2;
  sizes = g.lists.3;
  typed = g.values.0;
  types = g.values.1;
  defs = g.values.2;
  kept = g.values.3;
  own_values = g.values.4;
  groups = g.users;
  bounds = g.bounds.0;
  tokens = g.bounds.1;
  labels = g.bounds.2;
}

-- an event changes no group
pub note_groups : (r : Repository) (kind : ChangeKind) (n : Oid) (m : Moment) (readers : List Bool) → Groups r → Groups (noted r kind n m readers)
note_groups r kind n m readers g = record { numbers = g.numbers; tree = g.tree; versions = g.versions; links = g.links; lists = g.lists; values = g.values; users = g.users; bounds = g.bounds }

-- a step changes the bounds, and those of contents
pub step_groups : (r : Repository) (cost : ℕ) → HasRoom r cost → Groups r → Groups (stepped r cost)
step_groups r cost room g = record {
  numbers = g.numbers;
  tree = g.tree;
  versions = g.versions;
  links = g.links;
  lists = (g.lists.0, g.lists.1, contents_stepped r cost g.lists.2, g.lists.3);
  values = g.values;
  users = g.users;
  bounds = ((omega (arith, room.steps, g.bounds.0.3.0), omega (arith, room.bytes, g.bounds.0.3.1), omega (arith, g.bounds.0.2), g.bounds.0.3), tokens_stepped r cost g.bounds.1, labels_stepped r cost g.bounds.2);
}
