-- Changes that leave the users and the groups as they are.
use Rattle.std.specs.Prelude.{◌≡◌, ℕ, Bool, true, false, if◌then◌else◌, List, [], ◌∷◌, fold, Option, Some, None, option_map, unwrap_or}
use Rattle.std.proofs.Common.{refl, ◌∙◌}
use Rattle.cm_base.specs.declared.content.Content.{Content}
use Rattle.cm_base.specs.declared.number.Oid.{Oid}
use Rattle.cmis_spec.specs.Repository.{Repository}
use Rattle.cmis_spec.specs.Documents.{with_contents}
use Rattle.wr_object.specs.CreateDocument.{filed_at}
use Rattle.wr_change.specs.Update.{renamed}

abbrev pub SamePeople : Repository → Repository → Type 0
SamePeople r s = (s.users ≡ r.users) × (s.groups ≡ r.groups)

pub joined : (r s t : Repository) → SamePeople r s → SamePeople s t → SamePeople r t
joined r s t h k = (k.0 ∙ h.0, k.1 ∙ h.1)

pub either : (r s t : Repository) (b : Bool) → SamePeople r s → SamePeople r t → SamePeople r (if b then s else t)
either r s t true h k = h
either r s t false h k = k

pub where_found : {A : Type 0} (r : Repository) (f : A → Repository) (o : Option A) → ((x : A) → SamePeople r (f x)) → SamePeople r (unwrap_or (option_map f o) r)
where_found r f None each = (refl, refl)
where_found r f (Some x) each = each x

pub folded : {A B : Type 0} (R : B → Type 0) (f : B → A → B) → ((b : B) (x : A) → R b → R (f b x)) → (b : B) (xs : List A) → R b → R (fold f b xs)
folded R f each b [] h = h
folded R f each b (x ∷ xs) h = folded R f each (f b x) xs (each b x h)

pub contents_stay : (r : Repository) (c : Option Content) → SamePeople r (with_contents r c)
contents_stay r None = (refl, refl)
contents_stay r (Some c) = (refl, refl)

pub filing_stays : (r : Repository) (folder : Option Oid) (n : Oid) → SamePeople r (filed_at r folder n)
filing_stays r None n = (refl, refl)
filing_stays r (Some folder) n = (refl, refl)

pub name_stays : (r : Repository) (name : List ℕ) (working : Bool) (n : Option Oid) → SamePeople r (renamed r name working n)
name_stays r name working None = (refl, refl)
name_stays r name true (Some n) = (refl, refl)
name_stays r name false (Some n) = (refl, refl)
