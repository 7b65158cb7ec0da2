-- What a query finds, in two repositories in which a caller sees the same.
use Rattle.std.specs.Prelude.{◌≡◌, ℕ, Bool, ◌&&◌, ◌||◌, not, List, map, filter, is_some}
use Rattle.std.proofs.Common.{refl, sym, ap, ◌∙◌}
use Rattle.std.proofs.lemmas.List.Elements.{All-weaker}
use Rattle.cm_base.specs.declared.object.Object.{Object}
use Rattle.cmis_spec.specs.Repository.{Repository, owner_of}
use Rattle.cmis_spec.specs.Access.{reads, stands}
use Rattle.ql_bind.specs.declared.bound.Bound.{Bound}
use Rattle.ql_eval.specs.Conditions.{keeps}
use Rattle.ql_eval.specs.Order.{ordered}
use Rattle.row_store.specs.Rows.{is_listed, is_of_types, is_row, row_of}
use Rattle.ql_plan.specs.Found.{found, rows_of}
use Rattle.cm_see.proofs.Worlds.{AreAlike, IsAlike, AreFound}
use Rattle.rd_query.proofs.Alike.{read_alike, owner_alike, stands_alike, values_alike, folders_alike, all_above_alike, shifted, rows_same}

module _ (r other : Repository) (u : List ℕ) (a : AreAlike r other u) where
  listed_alike : (versions : Bool) (x : Object) → IsAlike r other u x → is_listed r versions x ≡ is_listed other versions x
  listed_alike versions x h =
      ap (λ o. not (is_some o) && (versions || stands r x)) (owner_alike r other u a x h)
      ∙ ap (λ b. not (is_some (owner_of other x)) && (versions || b)) (stands_alike r other u a x h)

  row_alike : (x : Object) → IsAlike r other u x → row_of r u x ≡ row_of other u x
  row_alike x h = λ i. record {
    id = x.id;
    values = values_alike r other u a x h (λ d. d.queryable) i;
    folders = folders_alike r other u a x h i;
    above = all_above_alike r other u a x h i;
  }

  -- the rows of some types
  rows_alike : (kinds : List (List ℕ)) (versions : Bool) → rows_of r u kinds versions ≡ rows_of other u kinds versions
  rows_alike kinds versions =
      let both : AreFound r other u (filter (reads r u) r.objects) (filter (reads other u) other.objects) = read_alike r other u a in
      let here : Object → Bool = λ x. is_of_types kinds x && is_listed r versions x in
      let there : Object → Bool = λ x. is_of_types kinds x && is_listed other versions x in
      ap (map (row_of r u)) (shifted (is_of_types kinds) (is_row r u versions) (reads r u) (is_listed r versions) (λ x. refl) r.objects)
      ∙ (rows_same (row_of r u) (row_of other u) here there (filter (reads r u) r.objects)
      (All-weaker (IsAlike r other u) (λ x. (row_of r u x ≡ row_of other u x) × (here x ≡ there x)) (λ x h. (row_alike x h, ap (λ b. is_of_types kinds x && b) (listed_alike versions x h))) (filter (reads r u) r.objects) both.each)
      ∙ (ap (λ xs. map (row_of other u) (filter there xs)) both.same
      ∙ sym (ap (map (row_of other u)) (shifted (is_of_types kinds) (is_row other u versions) (reads other u) (is_listed other versions) (λ x. refl) other.objects))))

  pub found_alike : (bound : Bound) (versions : Bool) → found r u bound versions ≡ found other u bound versions
  found_alike bound versions = ap (λ rows. ordered bound.keys (filter (keeps bound) rows)) (rows_alike bound.kinds versions)
