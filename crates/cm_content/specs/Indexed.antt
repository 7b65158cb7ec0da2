-- Renditions, and which of them are a document's.
use Rattle.std.specs.Prelude.{ℕ, ◌==◌, List, Option, find}
use Rattle.cm_base.specs.declared.content.Rendition.{Rendition}
use Rattle.place_laws.specs.Places.{Tells}

abbrev pub number_of : Rendition → ℕ
number_of d = d.id.0

abbrev pub document_key : Rendition → ℕ
document_key d = d.of.0

-- the rendition of a number
abbrev pub member_at : List Rendition → ℕ → Option Rendition
member_at renditions p = find (λ d. number_of d == p) renditions

-- the index tells of each document which renditions are its own
abbrev pub IsIndexOf : List Rendition → List (ℕ × List (ℕ × Unit {0})) → Type 0
IsIndexOf renditions by_document = Tells document_key (λ d. tt) (member_at renditions) by_document
