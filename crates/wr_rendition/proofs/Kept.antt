-- A rendition more keeps what is well formed.
use Rattle.std.specs.Prelude.{◌≡◌, ◌+◌, ◌≤◌, ◌<◌, false, All, None}
use Rattle.std.proofs.Common.{arith}
use Rattle.std.proofs.lemmas.List.Elements.{All-weaker, All-push}
use Rattle.cm_base.specs.declared.content.Rendition.{Rendition}
use Rattle.cmis_spec.specs.Repository.{Repository, same, object_at}
use Rattle.cmis_spec.specs.Well.{IsThere, IsRendition, HasNumbers, HasRenditions, IsWellFormed}
use Rattle.cmis_laws.proofs.Lists.{apart_push, find_none}
use Rattle.cmis_laws.proofs.Entries.{is_other}
use Rattle.wr_rendition.specs.AddRendition.{with_rendition}

-- no object has the next number
pub none_next : (r : Repository) (d : Rendition) → HasNumbers r → d.id.0 ≡ r.next → object_at r d.id ≡ None
none_next r d w next = find_none (λ y. same y.id d.id) r.objects
    (All-weaker (λ y. y.id.0 < r.next) (λ y. same y.id d.id ≡ false) (λ y l. is_other y.id d.id (omega (arith, l, next))) r.objects w.1)

-- all others have lesser numbers
pub above_all : (r : Repository) (d : Rendition) → HasRenditions r → d.id.0 ≡ r.next → All (λ c. c.id.0 < d.id.0) r.renditions
above_all r d h next = All-weaker (IsRendition r) (λ c. c.id.0 < d.id.0) (λ c k. let l : c.id.0 < r.next = k.0 in omega (arith, l, next)) r.renditions h.1

renditions_with : (r : Repository) (d : Rendition) → HasNumbers r → HasRenditions r → d.id.0 ≡ r.next → IsThere r d.of → HasRenditions (with_rendition r d)
renditions_with r d w h next there = (
  apart_push (λ c e. c.id.0 < e.id.0) r.renditions d h.0 (above_all r d h next),
  All-push (IsRendition (with_rendition r d)) r.renditions d
      (All-weaker (IsRendition r) (IsRendition (with_rendition r d)) (λ c k. let l : c.id.0 < r.next = k.0 in (omega (arith, l), k.1, k.2)) r.renditions h.1)
      (omega (arith, next), none_next r d w next, there),
)

-- the next number stays within its bound where a step is left for it
pub rendition_keeps : (r : Repository) (d : Rendition) → IsWellFormed r → d.id.0 ≡ r.next → IsThere r d.of → r.next ≤ r.step + 1 → IsWellFormed (with_rendition r d)
rendition_keeps r d w next there room = record {
  numbers = (w.numbers.0, All-weaker (λ x. x.id.0 < r.next) (λ x. x.id.0 < r.next + 1) (λ x l. omega (arith, l)) r.objects w.numbers.1);
  series_numbers = (w.series_numbers.0, All-weaker (λ s. s.id.0 < r.next) (λ s. s.id.0 < r.next + 1) (λ s l. omega (arith, l)) r.series w.series_numbers.1);
  firsts = w.firsts;
  renditions = renditions_with r d w.numbers w.renditions next there;
  root = w.root;
  ways = w.ways;
  one_parent = w.one_parent;
  pairs = w.pairs;
  names = w.names;
  documents = w.documents;
  series = w.series;
  plain = w.plain;
  own_names = w.own_names;
  relationships = w.relationships;
  policies = w.policies;
  access = w.access;
  listed = w.listed;
  contents = w.contents;
  sizes = w.sizes;
  typed = w.typed;
  types = w.types;
  defs = w.defs;
  kept = w.kept;
  own_values = w.own_values;
  groups = w.groups;
  bounds = (w.bounds.0, w.bounds.1, omega (arith, room), w.bounds.3);
  tokens = w.tokens;
  labels = w.labels;
}
