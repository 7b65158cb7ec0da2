-- The parts of a form (RFC 7578, section 4).
use Rattle.std.specs.Prelude.{ℕ, List, [], ◌∷◌, Bool, ◌||◌, not, Option, Some, None, Ok, Err, codes, bytes_eq, if◌then◌else◌}
use Rattle.std.specs.List.{list_all}
use Rattle.std.specs.Str.{is_utf8}
use Rattle.cm_base.specs.declared.cause.Cause.TheVariants as causes
use Rattle.cm_base.specs.Judged.{Judged, ◌>>=◌, ◌>>◌, find_or, refuse}
use Rattle.call_parts.specs.declared.stream.GivenStream.{GivenStream}
use Rattle.http_grammar.specs.Request.{FieldParts}
use Rattle.http_grammar.specs.Fields.{same_word, values_named}
use Rattle.field_params.specs.declared.one.Param.{Param}
use Rattle.field_params.specs.Params.{token, params_of, value_of}
use Rattle.form_args.specs.declared.pairs.Pair.{Pair}
use Rattle.form_parts.specs.declared.part.Part.{Part}
use Rattle.form_parts.specs.declared.part.Part.TheVariants.{Argument, Content}
use Rattle.form_parts.specs.Heads.{Head, head_of}
use Rattle.form_parts.specs.Kinds.{kind_of}
use Rattle.form_parts.specs.Reading.{split_of}
use Rattle.form_args.specs.Filter.{each_onto}
use Rattle.form_parts.specs.declared.gathered.Parts.{Parts}

-- `form-data`, in any case, and its parameters
abbrev pub form_data : List ℕ → Option (List Param)
form_data value = elim (token value) [
  | None ↦ None
  | Some t ↦ if same_word t.0 (codes "form-data") then params_of t.1 else None
]

-- a part has one Content-Disposition
abbrev pub disposition : List (List ℕ) → Option (List Param)
disposition [] = None
disposition (value ∷ []) = form_data value
disposition (value ∷ other ∷ values) = None

abbrev pub params_in : List FieldParts → Judged (List Param)
params_in fields = find_or causes.BadBody (disposition (values_named (codes "content-disposition") fields))

-- a content transfer encoding that changes no byte (RFC 2045, section 6.2)
abbrev pub is_coding : List ℕ → Bool
is_coding value = same_word value (codes "7bit") || (same_word value (codes "8bit") || same_word value (codes "binary"))

abbrev pub is_uncoded : List FieldParts → Bool
is_uncoded fields = list_all is_coding (values_named (codes "content-transfer-encoding") fields)

-- bytes that are UTF-8
abbrev pub text_in : List ℕ → Judged (List ℕ)
text_in bytes = if is_utf8 bytes then Ok bytes else Err causes.BadBody

abbrev pub name_in : List Param → Judged (List ℕ)
name_in params = find_or causes.BadBody (value_of (codes "name") params) >>= text_in

abbrev pub file_by : Option (List ℕ) → Judged (Option (List ℕ))
file_by None = Ok None
file_by (Some bytes) = text_in bytes >>= λ file. Ok (Some file)

-- the file name, where one is given
abbrev pub file_in : List Param → Judged (Option (List ℕ))
file_in params = file_by (value_of (codes "filename") params)

-- the content stream of a request
abbrev pub content_of : List ℕ → Option (List ℕ) → List FieldParts → Judged GivenStream
content_of bytes file fields = do
  kind ← kind_of fields
  Ok (record { kind = kind; file = file; pieces = bytes })

-- the part named `content` is a content stream; any other is an argument, which is UTF-8
abbrev pub part_by : List ℕ → Option (List ℕ) → Head → Judged Part
part_by name file head =
    if bytes_eq name (codes "content") then (content_of head.1 file head.0 >>= λ stream. Ok (Content stream))
    else (text_in head.1 >>= λ text. Ok (Argument (record { name = name; value = text })))

-- what a part is, by its fields and its content
abbrev pub part_in : Head → Judged Part
part_in head = do
  params ← params_in head.0
  refuse causes.BadBody (not (is_uncoded head.0))
  name ← name_in params
  file ← file_in params
  part_by name file head

abbrev pub part_of : List ℕ → Judged Part
part_of text = find_or causes.BadBody (head_of text) >>= part_in

-- the arguments, in their order
abbrev pub arguments : List Part → List Pair
arguments [] = []
arguments (Argument pair ∷ parts) = pair ∷ arguments parts
arguments (Content stream ∷ parts) = arguments parts

-- the first content stream
abbrev pub first_content : List Part → Option GivenStream
first_content [] = None
first_content (Argument pair ∷ parts) = first_content parts
first_content (Content stream ∷ parts) = Some stream

-- the arguments and the content of a form
abbrev pub gathered : List Part → Parts
gathered parts = record { pairs = arguments parts; content = first_content parts }

-- what a body in parts gives, with this boundary
abbrev pub parts_of : List ℕ → List ℕ → Judged Parts
parts_of boundary body = do
  texts ← find_or causes.BadBody (split_of boundary body)
  parts ← each_onto part_of [] texts
  Ok (gathered parts)
