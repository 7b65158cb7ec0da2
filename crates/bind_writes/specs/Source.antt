-- The arguments of createDocumentFromSource, judged in their order (CMIS 1.1, section 5.4).
use Rattle.std.specs.Prelude.{false, Ok, codes}
use Rattle.cm_base.specs.Judged.{Judged, ◌>>=◌}
use Rattle.form_args.specs.Pairs.{texts_of}
use Rattle.form_args.specs.Single.{flag_of, needed}
use Rattle.form_args.specs.Properties.{properties_of}
use Rattle.form_args.specs.Entries.{aces_of}
use Rattle.bind_parts.specs.declared.asking.Asking.{Asking}
use Rattle.bind_writes.specs.Documents.{state_of, folder_of}
use Rattle.source_parts.specs.declared.writes.CreateDocumentFromSource.{CreateDocumentFromSource}

-- as createDocument, but the properties need not name a type, and the source must be named
abbrev pub create_document_from_source_of : Asking → Judged CreateDocumentFromSource
create_document_from_source_of asking = do
  succinct ← flag_of asking.form.pairs (codes "succinct") false
  properties ← properties_of asking.form.pairs
  add ← aces_of asking.form.pairs (codes "addACEPrincipal") (codes "addACEPermission")
  remove ← aces_of asking.form.pairs (codes "removeACEPrincipal") (codes "removeACEPermission")
  state ← state_of asking.form.pairs
  source ← needed asking.form.pairs (codes "sourceId")
  Ok (record {
    source = source;
    document = record { place = folder_of asking; properties = properties; policies = texts_of asking.form.pairs (codes "policy"); remove = remove; add = add; state = state; stream = asking.form.content; succinct = succinct };
  })
