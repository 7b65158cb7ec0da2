-- The weight of createDocumentFromSource.
use Rattle.std.specs.Prelude.{ℕ, ◌+◌}
use Rattle.call_parts.specs.Weight.{bounded, text_weight}
use Rattle.call_parts.specs.Versions.{weight_of_create_document}
use Rattle.source_parts.specs.declared.writes.CreateDocumentFromSource.{CreateDocumentFromSource}

-- that of what is given of the document, and of the id of the source
abbrev pub weight_of_create_document_from_source : CreateDocumentFromSource → ℕ
weight_of_create_document_from_source call = bounded (weight_of_create_document call.document + text_weight call.source)
