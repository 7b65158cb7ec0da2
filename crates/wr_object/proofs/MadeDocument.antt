-- What createDocument makes: the room for it, the repository after it, and the document in it.
use Rattle.std.specs.Prelude.{◌≡◌, ℕ, ◌<◌, false, List, find, Ok, Option, Some, None}
use Rattle.std.proofs.Common.{refl, ap, ◌∙◌}
use Rattle.std.proofs.lemmas.List.Elements.{All-weaker}
use Rattle.cm_base.specs.declared.number.Oid.{Oid}
use Rattle.cm_base.specs.declared.number.Moment.{Moment}
use Rattle.cm_base.specs.declared.access.Ace.{Ace}
use Rattle.cm_base.specs.declared.content.Content.{Content}
use Rattle.call_parts.specs.declared.versions.CreateDocument.{CreateDocument}
use Rattle.cmis_spec.specs.Repository.{Repository, same, object_at, new_number}
use Rattle.cmis_spec.specs.Documents.{with_document, with_policies, with_contents}
use Rattle.cmis_spec.specs.Well.{HasNumbers, IsWellFormed}
use Rattle.cmis_laws.proofs.Lists.{find_last, same_refl}
use Rattle.cmis_laws.proofs.Entries.{is_other}
use Rattle.wr_rules.specs.Rules.{policies_in, new_aces}
use Rattle.wr_rules.specs.Wanted.{Wanted, wanted_in}
use Rattle.wr_rules.proofs.Room.{fits_of, next_fits_of}
use Rattle.wr_object.specs.declared.new_document.Allowed.{Allowed}
use Rattle.wr_object.specs.declared.new_document.NewDocument.{NewDocument}
use Rattle.wr_object.specs.CreateDocument.{refusal_create_document, allowed_in, new_parts, parts_made, filed_at, made_of_parts, after_create_document}
use Rattle.wr_object.proofs.CreatedDocument.{passes}
use Rattle.wr_object.proofs.Made.{HasRoom}

pub room_of : (r : Repository) (u : List ℕ) (cost : ℕ) (call : CreateDocument) → IsWellFormed r → refusal_create_document r u cost call ≡ Ok tt → HasRoom r cost
room_of r u cost call w h =
    let fits = fits_of r cost w (passes r u cost call h).room in
    record { next = next_fits_of r w; step = fits.0; paid = fits.1 }

-- ---- the repository after it

-- what is made of what is found is told by the call alone
pub parts_are : (r : Repository) (u : List ℕ) (m : Moment) (call : CreateDocument) (wanted : Wanted) (allowed : Allowed) → wanted ≡ wanted_in r.types call.properties → allowed ≡ allowed_in r u call wanted
    → new_parts r u m call wanted allowed ≡ parts_made r u m call
parts_are r u m call wanted allowed e f = let all = f ∙ ap (allowed_in r u call) e in λ i. new_parts r u m call (e i) (all i)

-- ---- the new document is found under its number

-- neither a content nor a place changes an object
same_objects : (q : Repository) (content : Option Content) (folder : Option Oid) (n : Oid) → (filed_at (with_contents q content) folder n).objects ≡ q.objects
same_objects q None None n = refl
same_objects q None (Some folder) n = refl
same_objects q (Some c) None n = refl
same_objects q (Some c) (Some folder) n = refl

pub new_is_there : (r : Repository) (new : NewDocument) (aces : List Ace) (policies : List Oid) (cost : ℕ) (m : Moment) → HasNumbers r → new.object.id ≡ new_number r
    → object_at (made_of_parts r new aces policies cost m) (new_number r) ≡ Some new.object
new_is_there r new aces policies cost m w e =
    let n = new_number r in
    ap (λ xs. find (λ x. same x.id n) xs) (same_objects (with_policies (with_document r new.object new.series aces) new.object.id policies) new.content new.folder new.object.id)
    ∙ find_last (λ x. same x.id n) r.objects new.object
    (All-weaker (λ x. x.id.0 < r.next) (λ x. same x.id n ≡ false) (λ x lt. is_other x.id n lt) r.objects w.1)
    (ap (λ k. same k n) e ∙ same_refl n)

pub made_is_found : (r : Repository) (u : List ℕ) (m : Moment) (cost : ℕ) (call : CreateDocument) (made : Repository) (n : ℕ) → HasNumbers r
    → made ≡ after_create_document r u m cost call → n ≡ r.next → object_at made (record { 0 = n }) ≡ Some (parts_made r u m call).object
made_is_found r u m cost call made n w e f =
    (λ i. object_at (e i) (record { 0 = f i }))
    ∙ new_is_there r (parts_made r u m call) (new_aces u call.remove call.add) (policies_in r u call.policies) cost m w refl

-- ---- what is filed, or has a content, takes as many steps at the same cost

pub same_step : (q : Repository) (content : Option Content) (folder : Option Oid) (n : Oid) → (filed_at (with_contents q content) folder n).step ≡ q.step
same_step q None None n = refl
same_step q None (Some folder) n = refl
same_step q (Some c) None n = refl
same_step q (Some c) (Some folder) n = refl

pub same_cost : (q : Repository) (content : Option Content) (folder : Option Oid) (n : Oid) → (filed_at (with_contents q content) folder n).cost ≡ q.cost
same_cost q None None n = refl
same_cost q None (Some folder) n = refl
same_cost q (Some c) None n = refl
same_cost q (Some c) (Some folder) n = refl
