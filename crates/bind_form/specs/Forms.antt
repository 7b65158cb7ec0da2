-- The method and the form of a request (CMIS 1.1, sections 5.2.9 and 5.4.4).
use Rattle.std.specs.Prelude.{ℕ, List, [], ◌∷◌, Bool, ◌&&◌, nat_le, length, drop, codes, bytes_eq, Option, Some, None, Ok, Err, if◌then◌else◌}
use Rattle.cm_base.specs.declared.cause.Cause.TheVariants as causes
use Rattle.cm_base.specs.Judged.{Judged, ◌>>=◌}
use Rattle.http_grammar.specs.Request.{Head, Request}
use Rattle.http_grammar.specs.Fields.{values_named}
use Rattle.form_args.specs.declared.pairs.Pair.{Pair}
use Rattle.form_args.specs.Read.{form_pairs}
use Rattle.field_params.specs.Params.{front_params, value_of}
use Rattle.form_parts.specs.declared.gathered.Parts.{Parts}
use Rattle.form_parts.specs.Parts.{parts_of}
use Rattle.bind_form.specs.declared.form.Method.{Method}
use Rattle.bind_form.specs.declared.form.Method.TheVariants as methods
use Rattle.bind_form.specs.Media.{is_of_type}

abbrev pub method_of : List ℕ → Judged Method
method_of w =
    if bytes_eq w (codes "GET") then Ok methods.Get
    else if bytes_eq w (codes "POST") then Ok methods.Post
    else Err causes.BadMethod

abbrev pub first_item : {A : Type 0} → List A → Option A
first_item [] = None
first_item (x ∷ xs) = Some x

-- the value of the first Content-Type field
abbrev pub content_type : Head → Option (List ℕ)
content_type head = first_item (values_named (codes "content-type") head.fields)

-- the boundary among the parameters of a media type has 1 to 70 bytes (RFC 2046, section 5.1.1)
abbrev pub is_boundary : List ℕ → Bool
is_boundary boundary = nat_le 1 (length boundary) && nat_le (length boundary) 70

abbrev pub boundary_by : Option (List ℕ) → Judged (List ℕ)
boundary_by None = Err causes.BadBody
boundary_by (Some boundary) = if is_boundary boundary then Ok boundary else Err causes.BadBody

-- the boundary that a value of the type multipart/form-data names
abbrev pub boundary_of : List ℕ → Judged (List ℕ)
boundary_of kind = boundary_by (value_of (codes "boundary") (front_params (drop (length (codes "multipart/form-data")) kind)))

-- a body in parts, with the boundary that its media type names
abbrev pub form_in_parts : List ℕ → List ℕ → Judged Parts
form_in_parts kind body = boundary_of kind >>= λ boundary. parts_of boundary body

-- a form of these pairs alone
abbrev pub only_pairs : List Pair → Parts
only_pairs pairs = record { pairs = pairs; content = None }

-- a body by its media type
abbrev pub form_by : Option (List ℕ) → List ℕ → Judged Parts
form_by None body = Err causes.BadBody
form_by (Some kind) body =
    if is_of_type (codes "application/x-www-form-urlencoded") kind then Ok (only_pairs (form_pairs body))
    else if is_of_type (codes "multipart/form-data") kind then form_in_parts kind body
    else Err causes.BadBody

-- an empty body of any type is an empty form
abbrev pub form_in : Head → List ℕ → Judged Parts
form_in head [] = Ok (only_pairs [])
form_in head (b ∷ body) = form_by (content_type head) (b ∷ body)

-- the body of a POST is its form; that of a GET is dropped
abbrev pub form_of : Method → Request → Judged Parts
form_of methods.Get q = Ok (only_pairs [])
form_of methods.Post q = form_in q.head q.body
