-- What is shown beside the rows that a query finds, in two repositories in which a caller sees the same.
use Rattle.std.specs.Prelude.{◌≡◌, ℕ, Bool, true, ◌&&◌, List, map, filter, All, Some, option_map, unwrap_or}
use Rattle.std.proofs.Common.{refl, sym, ap, ◌∙◌}
use Rattle.std.proofs.lemmas.Bool.{and_parts}
use Rattle.std.proofs.lemmas.List.Elements.{All-filter, All-map, All-weaker, filter_passes}
use Rattle.cm_base.specs.declared.object.Object.{Object}
use Rattle.cmis_spec.specs.Repository.{Repository, object_at}
use Rattle.cmis_spec.specs.Access.{reads}
use Rattle.cmis_laws.proofs.Entries.{all_there}
use Rattle.cmis_laws.proofs.Lists.{all_zip}
use Rattle.cm_include.specs.Included.{shown_beside}
use Rattle.cm_include.proofs.Alike.{beside_alike}
use Rattle.cm_see.proofs.SeenLists.{map_same}
use Rattle.cm_see.proofs.Objects.{IsHere, here_read}
use Rattle.cm_see.proofs.Worlds.{AreAlike, IsAlike, read_at_alike}
use Rattle.ql_bind.specs.declared.bound.Bound.{Bound}
use Rattle.ql_bind.specs.declared.bound.ShownColumn.{ShownColumn}
use Rattle.ql_eval.specs.declared.row.Row.{Row}
use Rattle.ql_eval.specs.Conditions.{keeps}
use Rattle.ql_eval.proofs.Orders.{ordered_all}
use Rattle.row_store.specs.Rows.{is_listed, is_of_types, is_row, row_of}
use Rattle.ql_plan.specs.Found.{found, rows_of}
use Rattle.query_parts.specs.declared.readings.ReadQuery.{ReadQuery}
use Rattle.rd_nav.specs.ReadChildren.{page}
use Rattle.rd_query.specs.ReadQuery.{nothing_beside, query_reply, query_row, row_beside, shown_row}
use Rattle.rd_query.proofs.Pages.{page_shown}

module _ (r other : Repository) (u : List ℕ) (a : AreAlike r other u) (q : ReadQuery) where
  -- a row beside which the same is shown
  abbrev IsSame : Row → Type 0
  IsSame row = row_beside r u q row ≡ row_beside other u q row

  same_row : (x : Object) → IsAlike r other u x → IsSame (row_of r u x)
  same_row x h =
      ap (λ o. unwrap_or (option_map (shown_beside r u q.succinct q.includes) o) nothing_beside) h.here.0
      ∙ (beside_alike r other u a x h q.succinct q.includes
      ∙ sym (ap (λ o. unwrap_or (option_map (shown_beside other u q.succinct q.includes) o) nothing_beside) h.there.0))

  also_alike : (x : Object) → IsHere r u x → IsAlike r other u x
  also_alike x here = (read_at_alike r other u x.id a).each x (here_read r u x here)

  module _ (kinds : List (List ℕ)) (versions : Bool) where
    abbrev is_found : Object → Bool
    is_found x = is_of_types kinds x && is_row r u versions x

    is_here : (x : Object) → object_at r x.id ≡ Some x → is_found x ≡ true → IsHere r u x
    is_here x there p = (there, (and_parts (reads r u x) (is_listed r versions x) (and_parts (is_of_types kinds x) (is_row r u versions x) p).1).0)

    same_rows : All IsSame (rows_of r u kinds versions)
    same_rows =
        All-map IsSame (row_of r u) (filter is_found r.objects)
        (all_zip (λ x. object_at r x.id ≡ Some x) (λ x. is_found x ≡ true) (λ x. IsSame (row_of r u x)) (filter is_found r.objects)
        (λ x there p. same_row x (also_alike x (is_here x there p)))
        (All-filter is_found (λ x. object_at r x.id ≡ Some x) r.objects (all_there r.objects a.well.numbers.0))
        (filter_passes is_found r.objects))

  same_found : (bound : Bound) (versions : Bool) → All IsSame (found r u bound versions)
  same_found bound versions =
      ordered_all bound.keys IsSame (filter (keeps bound) (rows_of r u bound.kinds versions))
      (All-filter (keeps bound) IsSame (rows_of r u bound.kinds versions) (same_rows bound.kinds versions))

  -- the reply over the same rows
  pub reply_alike : (columns : List ShownColumn) (bound : Bound) (versions : Bool)
      → query_reply r u q columns (found r u bound versions) ≡ query_reply other u q columns (found r u bound versions)
  reply_alike columns bound versions =
      let rows = found r u bound versions in
      let each : All (λ row. query_row r u q columns row ≡ query_row other u q columns row) rows =
      All-weaker IsSame (λ row. query_row r u q columns row ≡ query_row other u q columns row) (λ row e. ap (λ b. record { columns = shown_row q.succinct columns row; beside = b }) e) rows (same_found bound versions) in
      let shown : map (query_row r u q columns) (page q.skip_count q.max_items rows) ≡ map (query_row other u q columns) (page q.skip_count q.max_items rows) =
      page_shown (query_row r u q columns) q.skip_count q.max_items rows
      ∙ (ap (page q.skip_count q.max_items) (map_same (query_row r u q columns) (query_row other u q columns) rows each)
      ∙ sym (page_shown (query_row other u q columns) q.skip_count q.max_items rows)) in
      rw shown refl
