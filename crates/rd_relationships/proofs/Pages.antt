-- The page of the relationships of an object that is seen alike in two repositories is the same.
use Rattle.std.specs.Prelude.{◌≡◌, ℕ, List, filter, Ok}
use Rattle.std.proofs.Common.{sym, ap, ◌∙◌}
use Rattle.std.proofs.lemmas.List.Elements.{All-filter}
use Rattle.cm_base.specs.declared.object.Object.{Object}
use Rattle.cm_base.specs.declared.cause.Cause.TheVariants as causes
use Rattle.cm_base.specs.Judged.{◌>>◌, refuse}
use Rattle.relationship_parts.specs.declared.readings.ReadRelationships.{ReadRelationships}
use Rattle.include_parts.specs.declared.readings.ShowRelationships.{ShowRelationships}
use Rattle.cmis_spec.specs.Repository.{Repository}
use Rattle.cm_see.proofs.Worlds.{AreAlike, AreFound, IsAlike}
use Rattle.cm_relationships.specs.Found.{relationships_of}
use Rattle.cm_include.proofs.Related.{relationships_alike}
use Rattle.rd_include.proofs.Pages.{included_page_alike}
use Rattle.rd_relationships.specs.ReadRelationships.{answer_relationships_of, asked_of, is_of_type, is_unknown, page_reply}

-- those of a type are seen alike where all are
asked_alike : (r other : Repository) (u : List ℕ) → AreAlike r other u → (q : ReadRelationships) (x : Object) → AreFound r other u (asked_of r u q x) (asked_of other u q x)
asked_alike r other u a q x =
    let found = relationships_alike r other u a q.direction x.id in
    record {
      same = (λ i. filter (is_of_type (ap (λ s. s.types) (sym a.alike) i) q.kind q.with_subtypes) (found.same i));
      each = All-filter (is_of_type r.types q.kind q.with_subtypes) (IsAlike r other u) (relationships_of r u q.direction x.id) found.each;
    }

page_alike : (r other : Repository) (u : List ℕ) → AreAlike r other u → (q : ShowRelationships) (x : Object)
    → page_reply r u q (asked_of r u q.relationships x) ≡ page_reply other u q (asked_of other u q.relationships x)
page_alike r other u a q x =
    let asked = q.relationships in
    included_page_alike r other u a asked.filter asked.succinct q.includes asked.skip_count asked.max_items (asked_of r u asked x) (asked_of other u asked x) (asked_alike r other u a asked x)

pub relationships_of_alike : (r other : Repository) (u : List ℕ) → AreAlike r other u → (q : ShowRelationships) (x : Object) → answer_relationships_of r u q x ≡ answer_relationships_of other u q x
relationships_of_alike r other u a q x =
    ap (λ ts. refuse causes.TypeNotFound (is_unknown ts q.relationships.kind) >> Ok (page_reply r u q (asked_of r u q.relationships x))) (sym (ap (λ s. s.types) a.alike))
    ∙ ap (λ y. refuse causes.TypeNotFound (is_unknown other.types q.relationships.kind) >> Ok y) (page_alike r other u a q x)
