-- A working copy that is made by the changes of drafts: its series is changed in its place, and its content put in.
use Rattle.std.specs.Prelude.{◌≡◌, ℕ, ◌+◌, ◌^◌, ◌<◌, if◌then◌else◌, List, [], ◌∷◌, map, All, Option, Some, None}
use Rattle.std.proofs.Common.{refl, sym, ap, ◌∙◌}
use Rattle.std.proofs.lemmas.List.Elements.{All-head, All-tail, All-weaker}
use Rattle.cm_base.specs.declared.object.Object.{Object}
use Rattle.cm_base.specs.declared.content.Content.{Content}
use Rattle.cm_base.specs.declared.series.Series.{Series}
use Rattle.cmis_spec.specs.Repository.{Repository, same, series_at}
use Rattle.cm_base.specs.declared.number.Moment.{Moment}
use Rattle.cm_base.specs.declared.log.ChangeKind.TheVariants as changes
use Rattle.cmis_spec.specs.Changes.{stepped, noted, edited_series}
use Rattle.cmis_spec.specs.Documents.{with_member, with_copy, with_contents, checked_out}
use Rattle.cmis_spec.specs.Well.{HasSeriesNumbers}
use Rattle.cmis_laws.proofs.Lists.{by_test, some_eq, same_eq, all_found}

map_all : {A B : Type 0} (f g : A → B) (xs : List A) → All (λ x. f x ≡ g x) xs → map f xs ≡ map g xs
map_all f g [] all = refl
map_all f g (x ∷ xs) all = rw (All-head (λ x. f x ≡ g x) x xs all, map_all f g xs (All-tail (λ x. f x ≡ g x) x xs all)) refl

-- the series with this number is this one, so what is made of it may be put in its place
pub series_edits : (r : Repository) (s : Series) (f : Series → Series) → HasSeriesNumbers r → series_at r s.id ≡ Some s
    → map (λ t. if same t.id s.id then f s else t) r.series ≡ map (λ t. if same t.id s.id then f t else t) r.series
series_edits r s f numbers there = map_all (λ t. if same t.id s.id then f s else t) (λ t. if same t.id s.id then f t else t) r.series
    (All-weaker (λ t. series_at r t.id ≡ Some t) (λ t. (if same t.id s.id then f s else t) ≡ (if same t.id s.id then f t else t))
    (λ t k. by_test (same t.id s.id)
    (λ e. let it : s ≡ t = some_eq s t (sym there ∙ (ap (series_at r) (sym (same_eq t.id s.id e)) ∙ k)) in rw e (ap f it))
    (λ e. rw e refl)) r.series (all_found (λ t. t.id) r.series numbers.0))

pub copy_edits : (r : Repository) (s : Series) (x : Object) (owner : List ℕ) → HasSeriesNumbers r → series_at r s.id ≡ Some s → edited_series (with_member r x) (checked_out x.id owner s) ≡ with_copy r s.id x owner
copy_edits r s x owner numbers there = ap (λ ss. record (with_member r x) { series = ss }) (series_edits r s (checked_out x.id owner) numbers there)

-- a content changes neither step nor cost
pub kept_step : (r : Repository) (o : Option Content) → r.step + 1 < 2 ^ 64 → (with_contents r o).step + 1 < 2 ^ 64
kept_step r None h = h
kept_step r (Some c) h = h

pub kept_cost : (r : Repository) (o : Option Content) (cost : ℕ) → r.cost + cost < 2 ^ 64 → (with_contents r o).cost + cost < 2 ^ 64
kept_cost r None cost h = h
kept_cost r (Some c) cost h = h

pub made_so : (r : Repository) (m : Moment) (cost : ℕ) (s out : Series) (copy : Object) (owner : List ℕ) (o : Option Content) → HasSeriesNumbers r → series_at r s.id ≡ Some s → out ≡ checked_out copy.id owner s
    → noted (stepped (with_contents (edited_series (with_member r copy) out) o) cost) changes.Created copy.id m [] ≡ noted (stepped (with_contents (with_copy r s.id copy owner) o) cost) changes.Created copy.id m []
made_so r m cost s out copy owner o numbers there e =
    let q = ap (edited_series (with_member r copy)) e ∙ copy_edits r s copy owner numbers there in
    λ i. noted (stepped (with_contents (q i) o) cost) changes.Created copy.id m []
