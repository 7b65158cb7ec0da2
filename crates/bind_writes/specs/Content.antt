-- The arguments of setContent, appendContent and deleteContent, judged in their order (CMIS 1.1, section 5.4).
use Rattle.std.specs.Prelude.{true, false, Ok, codes}
use Rattle.cm_base.specs.declared.cause.Cause.TheVariants as causes
use Rattle.cm_base.specs.Judged.{Judged, ◌>>=◌, find_or}
use Rattle.call_parts.specs.declared.stream.GivenStream.{GivenStream}
use Rattle.call_parts.specs.declared.changes.SetContent.{SetContent}
use Rattle.call_parts.specs.declared.changes.AppendContent.{AppendContent}
use Rattle.call_parts.specs.declared.changes.DeleteContent.{DeleteContent}
use Rattle.form_args.specs.Pairs.{first_of}
use Rattle.form_args.specs.Single.{flag_of}
use Rattle.bind_parts.specs.declared.asking.Asking.{Asking}
use Rattle.bind_parts.specs.Parts.{place_of}

-- the content stream, which must be given
abbrev pub stream_of : Asking → Judged GivenStream
stream_of asking = find_or (causes.MissingArgument (codes "content")) asking.form.content

-- a content that is there is replaced where nothing is said
abbrev pub set_content_of : Asking → Judged SetContent
set_content_of asking = do
  succinct ← flag_of asking.form.pairs (codes "succinct") false
  overwrite ← flag_of asking.form.pairs (codes "overwriteFlag") true
  stream ← stream_of asking
  Ok (record { place = place_of asking; overwrite = overwrite; token = first_of asking.form.pairs (codes "changeToken"); stream = stream; succinct = succinct })

-- overwriteFlag, which means something in setContent, is judged alone
abbrev pub append_content_of : Asking → Judged AppendContent
append_content_of asking = do
  succinct ← flag_of asking.form.pairs (codes "succinct") false
  overwrite ← flag_of asking.form.pairs (codes "overwriteFlag") true
  stream ← stream_of asking
  Ok (record { place = place_of asking; token = first_of asking.form.pairs (codes "changeToken"); stream = stream; succinct = succinct })

-- here too; a stream that is given means nothing
abbrev pub delete_content_of : Asking → Judged DeleteContent
delete_content_of asking = do
  succinct ← flag_of asking.form.pairs (codes "succinct") false
  overwrite ← flag_of asking.form.pairs (codes "overwriteFlag") true
  Ok (record { place = place_of asking; token = first_of asking.form.pairs (codes "changeToken"); succinct = succinct })
