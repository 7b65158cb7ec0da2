-- What createDocumentFromSource makes: the room for the document, and the document in the repository after it.
use Rattle.std.specs.Prelude.{◌≡◌, ℕ, List, Some, Ok}
use Rattle.std.proofs.Common.{refl, sym, subst, ◌∙◌}
use Rattle.cm_base.specs.declared.number.Moment.{Moment}
use Rattle.cm_base.specs.declared.object.Object.{Object}
use Rattle.source_parts.specs.declared.writes.CreateDocumentFromSource.{CreateDocumentFromSource}
use Rattle.cmis_spec.specs.Repository.{Repository, object_at}
use Rattle.cmis_spec.specs.Access.{read_named}
use Rattle.cmis_spec.specs.Well.{HasNumbers, IsWellFormed}
use Rattle.wr_rules.specs.Rules.{policies_in, new_aces}
use Rattle.wr_rules.proofs.Room.{fits_of, next_fits_of}
use Rattle.wr_object.proofs.Made.{HasRoom}
use Rattle.wr_object.proofs.MadeDocument.{new_is_there}
use Rattle.wr_source.specs.CreateDocumentFromSource.{refusal_of_source, refusal_create_document_from_source, parts_made, after_create_document_from_source}
use Rattle.wr_source.proofs.Created.{passes}

-- ---- the refusal

-- a call that this source lets through is not refused
pub passed_by_source : (r : Repository) (u : List ℕ) (cost : ℕ) (call : CreateDocumentFromSource) (x : Object) → read_named r u call.source ≡ Some x
    → refusal_of_source r u cost call.document (Some x) ≡ Ok tt → refusal_create_document_from_source r u cost call ≡ Ok tt
passed_by_source r u cost call x found h = subst (λ o. refusal_of_source r u cost call.document o ≡ Ok tt) (sym found) h

-- ---- room

-- one more number, step and cost stay numbers of 64 bits
pub room_for : (r : Repository) (u : List ℕ) (cost : ℕ) (call : CreateDocumentFromSource) → IsWellFormed r → refusal_create_document_from_source r u cost call ≡ Ok tt → HasRoom r cost
room_for r u cost call w h =
    let fits = fits_of r cost w (passes r u cost call h).room in
    record { next = next_fits_of r w; step = fits.0; paid = fits.1 }

-- ---- the new document is found under its number

pub made_is_found : (r : Repository) (u : List ℕ) (m : Moment) (cost : ℕ) (call : CreateDocumentFromSource) (made : Repository) (n : ℕ) → HasNumbers r
    → made ≡ after_create_document_from_source r u m cost call → n ≡ r.next → object_at made (record { 0 = n }) ≡ Some (parts_made r u m call).object
made_is_found r u m cost call made n w e f =
    (λ i. object_at (e i) (record { 0 = f i }))
    ∙ new_is_there r (parts_made r u m call) (new_aces u call.document.remove call.document.add) (policies_in r u call.document.policies) cost m w refl
