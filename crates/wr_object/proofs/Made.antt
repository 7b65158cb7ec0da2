-- What createFolder makes: the room for it, the repository after it, and the folder in it.
use Rattle.std.specs.Prelude.{◌≡◌, ℕ, ◌+◌, ◌<◌, ◌^◌, false, List, [], Ok, Some}
use Rattle.std.proofs.lemmas.List.Elements.{All-weaker}
use Rattle.cm_base.specs.declared.number.Oid.{Oid}
use Rattle.cm_base.specs.declared.number.Moment.{Moment}
use Rattle.cm_base.specs.declared.object.Object.{Object}
use Rattle.cm_base.specs.declared.access.Ace.{Ace}
use Rattle.cm_base.specs.declared.log.ChangeKind.TheVariants as changes
use Rattle.call_parts.specs.declared.writes.CreateFolder.{CreateFolder}
use Rattle.cmis_spec.specs.Repository.{Repository, same, object_at, new_number}
use Rattle.cmis_spec.specs.Changes.{stepped, noted, with_object, with_pair}
use Rattle.cmis_spec.specs.Well.{HasNumbers, IsWellFormed}
use Rattle.cmis_laws.proofs.Lists.{find_last, same_refl}
use Rattle.cmis_laws.proofs.Entries.{is_other}
use Rattle.wr_rules.specs.Rules.{policies_in, new_aces}
use Rattle.wr_rules.proofs.Room.{fits_of, next_fits_of}
use Rattle.wr_object.specs.CreateFolder.{refusal_create_folder, folder_made, parent_of, after_create_folder}
use Rattle.wr_object.proofs.CreateFolder.{passes}

-- one more number, step and cost stay numbers of 64 bits
pub record HasRoom (r : Repository) (cost : ℕ) : Type 0 where
  pub next : r.next + 1 < 2 ^ 64
  pub step : r.step + 1 < 2 ^ 64
  pub paid : r.cost + cost < 2 ^ 64

pub room_of : (r : Repository) (u : List ℕ) (m : Moment) (cost : ℕ) (call : CreateFolder) → IsWellFormed r → refusal_create_folder r u m cost call ≡ Ok tt → HasRoom r cost
room_of r u m cost call w h =
    let fits = fits_of r cost w (passes r u m cost call h).room in
    record { next = next_fits_of r w; step = fits.0; paid = fits.1 }

-- the change that is made is the repository after the call
pub made_is : (r : Repository) (u : List ℕ) (m : Moment) (cost : ℕ) (call : CreateFolder) (x : Object) (aces : List Ace) (policies : List Oid) (parent : Oid)
    → x ≡ folder_made r u m call → aces ≡ new_aces u call.remove call.add → policies ≡ policies_in r u call.policies → parent ≡ parent_of r u call
    → noted (stepped (with_pair (with_object r x aces policies) parent x.id) cost) changes.Created x.id m [] ≡ after_create_folder r u m cost call
made_is r u m cost call x aces policies parent e f g h =
    λ i. noted (stepped (with_pair (with_object r (e i) (f i) (g i)) (h i) (e i).id) cost) changes.Created (e i).id m []

-- the new folder is found under its number
pub new_is_there : (r : Repository) (u : List ℕ) (m : Moment) (cost : ℕ) (call : CreateFolder) → HasNumbers r → object_at (after_create_folder r u m cost call) (new_number r) ≡ Some (folder_made r u m call)
new_is_there r u m cost call w =
    find_last (λ x. same x.id (new_number r)) r.objects (folder_made r u m call)
    (All-weaker (λ x. x.id.0 < r.next) (λ x. same x.id (new_number r) ≡ false) (λ x lt. is_other x.id (new_number r) lt) r.objects w.1)
    (same_refl (new_number r))
