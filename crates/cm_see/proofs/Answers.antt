-- What is answered about what is addressed.
use Rattle.std.specs.Prelude.{◌≡◌, ℕ, List, Option, Some, None}
use Rattle.std.proofs.Common.{refl, ap, ◌∙◌}
use Rattle.cm_base.specs.declared.object.Object.{Object}
use Rattle.cm_base.specs.declared.cause.Cause.{Cause}
use Rattle.cm_base.specs.Judged.{Judged, ◌>>=◌, find_or}
use Rattle.call_parts.specs.declared.place.Place.{Place}
use Rattle.call_parts.specs.declared.place.Place.TheVariants.{Id, Path}
use Rattle.cmis_spec.specs.Repository.{Repository}
use Rattle.cm_see.specs.Addressed.{addressed}
use Rattle.cm_see.proofs.Worlds.{AreAlike, IsAlike, IsFound, read_named_alike, at_path_alike}

pub addressed_alike : (r other : Repository) (u : List ℕ) (place : Place) → AreAlike r other u → IsFound r other u (addressed r u place) (addressed other u place)
addressed_alike r other u (Id id) a = read_named_alike r other u id a
addressed_alike r other u (Path names) a = at_path_alike r other u names a

-- a reading that answers alike about what is alike answers alike
pub answer_alike : {Y : Type 0} (r other : Repository) (u : List ℕ) (c : Cause) (o p : Option Object) (f g : Object → Judged Y) → IsFound r other u o p → ((x : Object) → IsAlike r other u x → f x ≡ g x)
    → find_or c o >>= f ≡ find_or c p >>= g
answer_alike {Y} r other u c o p f g found each = by o found.each ∙ ap (λ q. find_or c q >>= g) found.same
  where
    by : (q : Option Object) → ((x : Object) → q ≡ Some x → IsAlike r other u x) → find_or c q >>= f ≡ find_or c q >>= g
    by None e = refl
    by (Some x) e = each x (e x refl)
