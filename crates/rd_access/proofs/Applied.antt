-- The policies of an object, by the pairs and by the objects that are applied to it.
use Rattle.std.specs.Prelude.{◌≡◌, ℕ, Bool, true, false, ◌&&◌, ◌||◌, List, [], ◌∷◌, map, filter, All, None}
use Rattle.std.specs.List.{list_any, filter_map}
use Rattle.std.proofs.Common.{refl, sym, ap, ◌∙◌}
use Rattle.std.proofs.lemmas.List.Elements.{All-head, All-tail}
use Rattle.cm_base.specs.declared.number.Oid.{Oid}
use Rattle.cm_base.specs.declared.filing.Applied.{Applied}
use Rattle.cm_map.specs.Keyed.{Rises}
use Rattle.cm_types.specs.declared.definition.BaseType.TheVariants as bases
use Rattle.cmis_spec.specs.Repository.{Repository, same, object_at}
use Rattle.cmis_spec.specs.Access.{read_at, policies_of}
use Rattle.cmis_spec.specs.Well.{IsBaseAt, IsThere, IsWellFormed}
use Rattle.cmis_laws.proofs.Lists.{by_test, none_some, same_eq}
use Rattle.cm_state.proofs.Numbers.{flip}
use Rattle.rd_lists.proofs.Rising.{read_passing}

any_policy : (m n : Oid) (ps : List Applied) → list_any (same m) (map (λ a. a.policy) (filter (λ a. same a.object n) ps)) ≡ list_any (λ a. same a.policy m && same a.object n) ps
any_policy m n [] = refl
any_policy m n (a ∷ ps) = by_test (same a.object n)
    (λ e. rw e (ap (λ b. same m a.policy || b) (any_policy m n ps) ∙ ap (λ b. b || list_any (λ a. same a.policy m && same a.object n) ps) (flip a.policy.0 m.0 ∙ sym (yes (same a.policy m)))))
    (λ e. rw e (any_policy m n ps ∙ sym (ap (λ b. b || list_any (λ a. same a.policy m && same a.object n) ps) (no (same a.policy m)))))
  where
    yes : (b : Bool) → (b && true) ≡ b
    yes true = refl
    yes false = refl

    no : (b : Bool) → (b && false) ≡ false
    no true = refl
    no false = refl

-- what is not there is applied to nothing
none_applied : (r : Repository) (m n : Oid) (ps : List Applied) → object_at r m ≡ None → All (λ a. IsBaseAt r bases.Policy a.policy × IsThere r a.object) ps → list_any (λ a. same a.policy m && same a.object n) ps ≡ false
none_applied r m n [] e h = refl
none_applied r m n (a ∷ ps) e h = by_test (same a.policy m)
    (λ k. let there = (All-head (λ a. IsBaseAt r bases.Policy a.policy × IsThere r a.object) a ps h).0 in
    absurd (none_some there.0 (sym (ap (object_at r) (same_eq a.policy m k) ∙ e) ∙ there.1)))
    (λ k. rw k (none_applied r m n ps e (All-tail (λ a. IsBaseAt r bases.Policy a.policy × IsThere r a.object) a ps h)))

-- numbers that rise and are those of the object's policies: of these, what the caller reads
pub policies_read : (r : Repository) (u : List ℕ) (n : Oid) (ns : List Oid) → IsWellFormed r → Rises (λ n. n.0) ns
    → ((m : Oid) → list_any (same m) ns ≡ list_any (same m) (map (λ a. a.policy) (filter (λ a. same a.object n) r.applied))) → filter_map (read_at r u) ns ≡ policies_of r u n
policies_read r u n ns w rise members = read_passing (λ m. list_any (λ a. same a.policy m && same a.object n) r.applied) ns r u w.numbers rise
    (λ m. members m ∙ any_policy m n r.applied)
    (λ m e. none_applied r m n r.applied e w.policies)
