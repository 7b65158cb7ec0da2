-- What is looked up in the filing is what is looked up in the pairs.
use Rattle.std.specs.Prelude.{◌≡◌, ◌&&◌, ◌||◌, not, Bool, List, [], ◌∷◌, map, filter, find, option_map, bytes_eq, ℕ}
use Rattle.std.specs.List.{list_any}
use Rattle.std.proofs.Common.{refl, sym, ap, ◌∙◌}
use Rattle.cm_base.specs.declared.number.Oid.{Oid}
use Rattle.cm_base.specs.declared.filing.Filed.{Filed}
use Rattle.cm_folder.specs.declared.entry.FilingEntry.{FilingEntry}
use Rattle.cm_folder.specs.Filings.{pair_of, pairs_of, is_filed_in, is_name_taken, child_named, children_in, folders_in as folders_of}
use Rattle.cmis_spec.specs.Repository.{Repository, same, is_taken}
use Rattle.cmis_laws.proofs.Lists.{by_test}
use Rattle.cm_state.specs.Told.{name_by, entry_by, entries_of}
use Rattle.cm_state.specs.Looks.{child_in}

any_map : {A B : Type 0} (q : B → Bool) (f : A → B) (xs : List A) → list_any q (map f xs) ≡ list_any (λ x. q (f x)) xs
any_map q f [] = refl
any_map q f (x ∷ xs) = ap (λ b. q (f x) || b) (any_map q f xs)

pub filed_same : (es : List FilingEntry) (f n : Oid) → is_filed_in es f n ≡ list_any (λ p. same p.folder f && same p.child n) (pairs_of es)
filed_same es f n = sym (any_map (λ (p : Filed). same p.folder f && same p.child n) pair_of es)

pub entries_same : (es : List FilingEntry) (f : Oid) → children_in es f ≡ map (λ p. p.child) (filter (λ p. same p.folder f) (pairs_of es))
entries_same [] f = refl
entries_same (e ∷ es) f = by_test (same e.folder f) (λ t. rw t (ap (λ l. e.child ∷ l) (entries_same es f))) (λ t. rw t (entries_same es f))

pub folders_same : (es : List FilingEntry) (n : Oid) → folders_of es n ≡ map (λ p. p.folder) (filter (λ p. same p.child n) (pairs_of es))
folders_same [] n = refl
folders_same (e ∷ es) n = by_test (same e.child n) (λ t. rw t (ap (λ l. e.folder ∷ l) (folders_same es n))) (λ t. rw t (folders_same es n))

pub taken_same : (r : Repository) (es : List FilingEntry) (f but : Oid) (name : List ℕ) → es ≡ entries_of r → is_name_taken es f but name ≡ is_taken r f but name
taken_same r es f but name e = ap (λ es. is_name_taken es f but name) e
    ∙ any_map (λ (e : FilingEntry). same e.folder f && not (same e.child but) && bytes_eq e.name name) (entry_by r.types r.series r.objects) r.filed

pub named_same : (r : Repository) (es : List FilingEntry) (f : Oid) (name : List ℕ) → es ≡ entries_of r → child_named es f name ≡ child_in r f name
named_same r es f name e = ap (λ es. child_named es f name) e ∙ by r.filed
  where
    by : (ps : List Filed) → option_map (λ e. e.child) (find (λ e. same e.folder f && bytes_eq e.name name) (map (entry_by r.types r.series r.objects) ps)) ≡ option_map (λ p. p.child) (find (λ p. same p.folder f && bytes_eq (name_by r.series r.objects p.child) name) ps)
    by [] = refl
    by (p ∷ ps) = by_test (same p.folder f && bytes_eq (name_by r.series r.objects p.child) name) (λ t. rw t refl) (λ t. rw t (by ps))
