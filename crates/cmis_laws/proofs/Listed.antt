-- Another access list, policies and a content more keep what is well formed.
use Rattle.std.specs.Prelude.{◌≡◌, ◌<◌, ◌≤◌, nat_lt, true, if◌then◌else◌, ◌⊎◌, List, ◌∷◌, map, filter, length, All}
use Rattle.std.proofs.Common.{refl, sym, ap, subst, ◌∙◌, arith}
use Rattle.std.proofs.lemmas.Bool.{ltb-true}
use Rattle.std.proofs.lemmas.List.Elements.{All-cons, All-append, All-map, All-weaker, All-filter, filter_passes}
use Rattle.cm_base.specs.declared.number.Oid.{Oid}
use Rattle.cm_base.specs.declared.access.AccessList.{AccessList}
use Rattle.cm_base.specs.declared.content.Content.{Content}
use Rattle.cm_types.specs.declared.definition.BaseType.TheVariants as bases
use Rattle.cmis_spec.specs.Repository.{Repository, same, longest_stream, entry_of}
use Rattle.cmis_spec.specs.Changes.{with_aces}
use Rattle.cmis_spec.specs.Documents.{with_policies, with_content}
use Rattle.cmis_spec.specs.Well.{IsThere, IsBaseAt, IsAloneAt, IsSeriesAt, IsAceList, IsAccess, is_listed, HasContents, HasSizes, IsWellFormed}
use Rattle.cmis_laws.proofs.Lists.{by_test, same_eq, any_mapped, apart_map, apart_weaker}
use Rattle.cmis_laws.proofs.Left.{apart_filter, apart_append}

abbrev put : AccessList → AccessList → AccessList
put l k = if same k.at l.at then l else k

put_at : (l k : AccessList) → (put l k).at ≡ k.at
put_at l k = by_test (same k.at l.at) (λ e. rw e (sym (same_eq k.at l.at e))) (λ e. rw e refl)

put_is : (r : Repository) (l : AccessList) → IsAceList l.aces → (k : AccessList) → IsAccess r k → IsAccess r (put l k)
put_is r l ordered k a = by_test (same k.at l.at)
    (λ e. rw e (subst (λ n. IsAloneAt r n ⊎ IsSeriesAt r n) (same_eq k.at l.at e) a.0, ordered))
    (λ e. rw e a)

-- another list in place of one
pub aces_keep : (r : Repository) (l : AccessList) → IsWellFormed r → IsAceList l.aces → IsWellFormed (with_aces r l)
aces_keep r l w ordered = record {
  numbers = w.numbers;
  series_numbers = w.series_numbers;
  firsts = w.firsts;
  renditions = w.renditions;
  root = w.root;
  ways = w.ways;
  one_parent = w.one_parent;
  pairs = w.pairs;
  names = w.names;
  documents = w.documents;
  series = w.series;
  plain = w.plain;
  own_names = w.own_names;
  relationships = w.relationships;
  policies = w.policies;
  access = (
    apart_map (λ k m. k.at.0 < m.at.0) (put l) r.access
        (apart_weaker (IsAccess r) (λ k m. k.at.0 < m.at.0) (λ k m. (put l k).at.0 < (put l m).at.0) r.access
        (λ k m a b h. subst (λ n. n.0 < (put l m).at.0) (sym (put_at l k)) (subst (λ n. k.at.0 < n.0) (sym (put_at l m)) h)) w.access.1 w.access.0),
    All-map (IsAccess r) (put l) r.access (All-weaker (IsAccess r) (λ k. IsAccess r (put l k)) (put_is r l ordered) r.access w.access.1),
  );
  listed = All-weaker (λ y. is_listed r.access (entry_of y) ≡ true) (λ y. is_listed (map (put l) r.access) (entry_of y) ≡ true)
      (λ y h. any_mapped (λ k. same k.at (entry_of y)) (put l) r.access (λ k. ap (λ n. same n (entry_of y)) (put_at l k)) ∙ h) r.objects w.listed;
  contents = w.contents;
  sizes = w.sizes;
  typed = w.typed;
  types = w.types;
  defs = w.defs;
  kept = w.kept;
  own_values = w.own_values;
  groups = w.groups;
  bounds = w.bounds;
  tokens = w.tokens;
  labels = w.labels;
}

pub policies_keep : (r : Repository) (n : Oid) (policies : List Oid) → IsWellFormed r → IsThere r n → All (IsBaseAt r bases.Policy) policies → IsWellFormed (with_policies r n policies)
policies_keep r n policies w there all = record {
  numbers = w.numbers;
  series_numbers = w.series_numbers;
  firsts = w.firsts;
  renditions = w.renditions;
  root = w.root;
  ways = w.ways;
  one_parent = w.one_parent;
  pairs = w.pairs;
  names = w.names;
  documents = w.documents;
  series = w.series;
  plain = w.plain;
  own_names = w.own_names;
  relationships = w.relationships;
  policies = All-append (λ p. IsBaseAt r bases.Policy p.policy × IsThere r p.object) r.applied (map (λ p. record { policy = p; object = n }) policies) w.policies
      (All-map (λ p. IsBaseAt r bases.Policy p.policy × IsThere r p.object) (λ p. record { policy = p; object = n }) policies
      (All-weaker (IsBaseAt r bases.Policy) (λ p. IsBaseAt r bases.Policy p × IsThere r n) (λ p h. (h, there)) policies all));
  access = w.access;
  listed = w.listed;
  contents = w.contents;
  sizes = w.sizes;
  typed = w.typed;
  types = w.types;
  defs = w.defs;
  kept = w.kept;
  own_values = w.own_values;
  groups = w.groups;
  bounds = w.bounds;
  tokens = w.tokens;
  labels = w.labels;
}

-- the contents below, this one, and those above
contents_with : (r : Repository) (c : Content) → HasContents r → IsBaseAt r bases.Document c.of → c.step ≤ r.step → HasContents (with_content r c)
contents_with r c h there step =
    let low = filter (λ (d : Content). nat_lt d.of.0 c.of.0) r.contents in
    let high = filter (λ (d : Content). nat_lt c.of.0 d.of.0) r.contents in
    let is_low : All (λ (d : Content). d.of.0 < c.of.0) low = All-weaker (λ (d : Content). nat_lt d.of.0 c.of.0 ≡ true) (λ (d : Content). d.of.0 < c.of.0) (λ d e. ltb-true d.of.0 c.of.0 e) low (filter_passes (λ (d : Content). nat_lt d.of.0 c.of.0) r.contents) in
    let is_high : All (λ (d : Content). c.of.0 < d.of.0) high = All-weaker (λ (d : Content). nat_lt c.of.0 d.of.0 ≡ true) (λ (d : Content). c.of.0 < d.of.0) (λ d e. ltb-true c.of.0 d.of.0 e) high (filter_passes (λ (d : Content). nat_lt c.of.0 d.of.0) r.contents) in (
      apart_append (λ (a b : Content). a.of.0 < b.of.0) low (c ∷ high)
          (apart_filter (λ (a b : Content). a.of.0 < b.of.0) (λ d. nat_lt d.of.0 c.of.0) r.contents h.0)
          (is_high, apart_filter (λ (a b : Content). a.of.0 < b.of.0) (λ d. nat_lt c.of.0 d.of.0) r.contents h.0)
          (All-weaker (λ (a : Content). a.of.0 < c.of.0) (λ (a : Content). All (λ (b : Content). a.of.0 < b.of.0) (c ∷ high))
          (λ a l. All-cons (λ (b : Content). a.of.0 < b.of.0) c high l (All-weaker (λ (b : Content). c.of.0 < b.of.0) (λ (b : Content). a.of.0 < b.of.0) (λ b m. omega (arith, l, m)) high is_high)) low is_low),
      All-append (λ d. IsBaseAt r bases.Document d.of × (d.step ≤ r.step)) low (c ∷ high)
          (All-filter (λ d. nat_lt d.of.0 c.of.0) (λ d. IsBaseAt r bases.Document d.of × (d.step ≤ r.step)) r.contents h.1)
          (All-cons (λ d. IsBaseAt r bases.Document d.of × (d.step ≤ r.step)) c high (there, step) (All-filter (λ d. nat_lt c.of.0 d.of.0) (λ d. IsBaseAt r bases.Document d.of × (d.step ≤ r.step)) r.contents h.1)),
    )

sizes_with : (r : Repository) (c : Content) → HasSizes r → length c.stream.pieces ≤ longest_stream → HasSizes (with_content r c)
sizes_with r c h size = All-append (λ d. length d.stream.pieces ≤ longest_stream) (filter (λ (d : Content). nat_lt d.of.0 c.of.0) r.contents) (c ∷ filter (λ (d : Content). nat_lt c.of.0 d.of.0) r.contents)
    (All-filter (λ d. nat_lt d.of.0 c.of.0) (λ d. length d.stream.pieces ≤ longest_stream) r.contents h)
    (All-cons (λ d. length d.stream.pieces ≤ longest_stream) c (filter (λ (d : Content). nat_lt c.of.0 d.of.0) r.contents) size
    (All-filter (λ d. nat_lt c.of.0 d.of.0) (λ d. length d.stream.pieces ≤ longest_stream) r.contents h))

pub content_keeps : (r : Repository) (c : Content) → IsWellFormed r → IsBaseAt r bases.Document c.of → c.step ≤ r.step → length c.stream.pieces ≤ longest_stream → IsWellFormed (with_content r c)
content_keeps r c w there step size = record {
  numbers = w.numbers;
  series_numbers = w.series_numbers;
  firsts = w.firsts;
  renditions = w.renditions;
  root = w.root;
  ways = w.ways;
  one_parent = w.one_parent;
  pairs = w.pairs;
  names = w.names;
  documents = w.documents;
  series = w.series;
  plain = w.plain;
  own_names = w.own_names;
  relationships = w.relationships;
  policies = w.policies;
  access = w.access;
  listed = w.listed;
  contents = contents_with r c w.contents there step;
  sizes = sizes_with r c w.sizes size;
  typed = w.typed;
  types = w.types;
  defs = w.defs;
  kept = w.kept;
  own_values = w.own_values;
  groups = w.groups;
  bounds = w.bounds;
  tokens = w.tokens;
  labels = w.labels;
}
