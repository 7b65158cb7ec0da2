-- The objects of several types, by those of each.
use Rattle.std.specs.Prelude.{◌≡◌, ℕ, Bool, true, false, ◌||◌, List, Option, Some, None, option_map, unwrap_or, bytes_eq}
use Rattle.std.specs.List.{list_any, flat_map}
use Rattle.std.proofs.Common.{refl, ap, sym, ◌∙◌}
use Rattle.cm_base.specs.declared.number.Oid.{Oid}
use Rattle.cm_base.specs.declared.object.Object.{Object}
use Rattle.cm_map.specs.Keyed.{Rises}
use Rattle.cmis_spec.specs.Repository.{Repository, same, object_at, is_of_type}
use Rattle.cmis_spec.specs.Well.{IsWellFormed}
use Rattle.cmis_laws.proofs.Lists.{by_test, bytes_turned}
use Rattle.cm_state.specs.Looks.{numbers_of_type}
use Rattle.row_store.specs.Rows.{is_of_types, of_types}
use Rattle.state_rows.proofs.Membership.{any_flat, any_by, any_never, any_or, any_turned}
use Rattle.state_rows.proofs.RisingLists.{any_filter, rising_filter}

same_turned : (a b : List ℕ) → bytes_eq a b ≡ bytes_eq b a
same_turned a b = by_test (bytes_eq a b)
    (λ e. e ∙ sym (no_other (bytes_eq b a) (λ h. bytes_turned b a h) e))
    (λ e. e ∙ sym (bytes_turned a b e))
  where
    no_other : (c : Bool) → (c ≡ false → bytes_eq a b ≡ false) → bytes_eq a b ≡ true → c ≡ true
    no_other true h e = refl
    no_other false h e = sym (h refl) ∙ e

-- an object is of one of the types
kinds_turned : (kinds : List (List ℕ)) (x : Object) → list_any (λ k. is_of_type k x) kinds ≡ is_of_types kinds x
kinds_turned kinds x =
    any_or (λ k. bytes_eq k x.kind) (λ k. list_any (bytes_eq k) x.secondary) kinds
    ∙ (λ i. any_by (λ k. bytes_eq k x.kind) (bytes_eq x.kind) (λ k. same_turned k x.kind) kinds i || secondary i)
  where
    secondary : list_any (λ k. list_any (bytes_eq k) x.secondary) kinds ≡ list_any (λ s. list_any (bytes_eq s) kinds) x.secondary
    secondary = any_turned bytes_eq kinds x.secondary
        ∙ any_by (λ s. list_any (λ k. bytes_eq k s) kinds) (λ s. list_any (bytes_eq s) kinds) (λ s. any_by (λ k. bytes_eq k s) (bytes_eq s) (λ k. same_turned k s) kinds) x.secondary

module _ (r : Repository) (w : IsWellFormed r) (kinds : List (List ℕ)) where
  typed_any : (m : Oid) → list_any (same m) (flat_map (numbers_of_type r) kinds) ≡ unwrap_or (option_map (is_of_types kinds) (object_at r m)) false
  typed_any m =
      any_flat (same m) (numbers_of_type r) kinds
      ∙ (any_by (λ k. list_any (same m) (numbers_of_type r k)) (λ k. unwrap_or (option_map (is_of_type k) (object_at r m)) false) (λ k. any_filter (is_of_type k) m r.objects w.numbers.0) kinds
      ∙ by (object_at r m))
    where
      by : (o : Option Object) → list_any (λ k. unwrap_or (option_map (is_of_type k) o) false) kinds ≡ unwrap_or (option_map (is_of_types kinds) o) false
      by None = any_never (λ k. false) kinds (λ k. refl)
      by (Some x) = kinds_turned kinds x

  -- those of all the types, in the order of the numbers
  pub typed_numbers : (ns : List Oid) → Rises (λ n. n.0) ns → ((m : Oid) → list_any (same m) ns ≡ list_any (same m) (flat_map (numbers_of_type r) kinds)) → ns ≡ of_types r kinds
  typed_numbers ns rises same_members = rising_filter (is_of_types kinds) r.objects ns w.numbers.0 rises (λ m. same_members m ∙ typed_any m)
