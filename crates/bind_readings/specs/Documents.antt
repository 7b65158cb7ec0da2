-- The arguments of content (CMIS 1.1, section 5.4.2).
use Rattle.std.specs.Prelude.{Ok, codes}
use Rattle.cm_base.specs.Judged.{Judged}
use Rattle.call_parts.specs.declared.readings.ReadContent.{ReadContent}
use Rattle.form_args.specs.Pairs.{first_of}
use Rattle.bind_parts.specs.declared.asking.Asking.{Asking}
use Rattle.bind_parts.specs.Parts.{place_of}

-- any text may be given as the stream's id
abbrev pub content_of : Asking → Judged ReadContent
content_of asking = Ok (record { place = place_of asking; stream = first_of asking.form.pairs (codes "streamId") })
