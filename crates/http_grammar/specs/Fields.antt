-- What the fields of a head say of its body (RFC 9112, sections 3.2 and 6; RFC 9110, section 10.1.1).
use Rattle.std.specs.Prelude.{ℕ, ◌^◌, Bool, true, false, not, ◌&&◌, ◌==◌, List, [], ◌∷◌, map, filter, length, Option, Some, None, Result, Ok, Err, if◌then◌else◌, nat_lt, nat_le, codes}
use Rattle.std.specs.List.{list_all, list_any}
use Rattle.std.specs.Char.{is_ascii_digit}
use Rattle.std.specs.Str.{str_eq_ignore_ascii_case}
use Rattle.std.specs.Str.Parse.{digits_value}
use Rattle.http_grammar.specs.Limits.{body_limit}
use Rattle.http_grammar.specs.Request.{Head, FieldParts}
use Rattle.http_grammar.specs.declared.fault.HttpFault.{HttpFault}
use Rattle.http_grammar.specs.declared.fault.HttpFault.TheVariants.{BadHead, LongBody, BadLength, Coding}
use Rattle.http_grammar.specs.declared.framing.Framing.{Framing}
use Rattle.http_grammar.specs.declared.framing.Framing.TheVariants.{Sized, Chunked}

-- two texts are one in any case
abbrev pub same_word : List ℕ → List ℕ → Bool
same_word a b = str_eq_ignore_ascii_case a b

-- the values of the fields with this name, in their order
unfoldable pub values_named : List ℕ → List FieldParts → List (List ℕ)
values_named name fields = map (λ f. f.1) (filter (λ f. same_word f.0 name) fields)

-- a visible byte of ASCII
abbrev pub is_visible : ℕ → Bool
is_visible b = nat_lt 32 b && nat_lt b 127

-- the value of a good Host field: 1 to 255 visible bytes
unfoldable pub is_host : List ℕ → Bool
is_host value = nat_le 1 (length value) && (nat_le (length value) 255 && list_all is_visible value)

-- there is one value, and it is a good one
abbrev pub is_one_host : List (List ℕ) → Bool
is_one_host [] = false
is_one_host (value ∷ []) = is_host value
is_one_host (value ∷ other ∷ values) = false

-- HTTP/1.1 has one good Host field
abbrev pub has_good_host : ℕ → List (List ℕ) → Bool
has_good_host minor hosts = if minor == 0 then true else is_one_host hosts

-- 1*DIGIT
abbrev pub is_decimal : List ℕ → Bool
is_decimal value = nat_lt 0 (length value) && list_all is_ascii_digit value

-- the decimal number below 2^63 that a value is
unfoldable pub length_of_value : List ℕ → Option ℕ
length_of_value value =
    if is_decimal value && nat_lt (digits_value 10 value) (2 ^ 63) then Some (digits_value 10 value) else None

-- a body of this length
unfoldable pub sized : Option ℕ → Result Framing HttpFault
sized None = Err BadLength
sized (Some n) = if nat_lt body_limit n then Err LongBody else Ok (Sized n)

-- by the values of Content-Length: without one there is no body, and else there is one number
abbrev pub by_length : List (List ℕ) → Result Framing HttpFault
by_length [] = Ok (Sized 0)
by_length (value ∷ []) = sized (length_of_value value)
by_length (value ∷ other ∷ values) = Err BadLength

-- by the values of Transfer-Encoding, of which there are some
abbrev pub by_coding : List (List ℕ) → Result Framing HttpFault
by_coding [] = Err Coding
by_coding (value ∷ []) = if same_word value (codes "chunked") then Ok Chunked else Err Coding
by_coding (value ∷ other ∷ values) = Err Coding

-- by the values of both: never both, and no coding in HTTP/1.0
abbrev pub framing : ℕ → List (List ℕ) → List (List ℕ) → Result Framing HttpFault
framing minor [] lengths = by_length lengths
framing minor (coding ∷ codings) [] = if minor == 0 then Err BadLength else by_coding (coding ∷ codings)
framing minor (coding ∷ codings) (n ∷ lengths) = Err BadLength

-- how the body of a whole head is framed, or the fault of this head
unfoldable pub head_framing : Head → Result Framing HttpFault
head_framing h =
    if has_good_host h.minor (values_named (codes "host") h.fields)
    then framing h.minor (values_named (codes "transfer-encoding") h.fields) (values_named (codes "content-length") h.fields)
    else Err BadHead

-- a body is promised: a length above 0, or chunks
abbrev pub promises_body : Result Framing HttpFault → Bool
promises_body (Ok (Sized n)) = nat_lt 0 n
promises_body (Ok Chunked) = true
promises_body (Err fault) = false

-- the interim reply belongs to a request with this head: HTTP/1.1, `Expect: 100-continue`, and a body
unfoldable pub expects_continue : Head → Bool
expects_continue h =
    not (h.minor == 0)
    && (promises_body (head_framing h) && list_any (λ v. same_word v (codes "100-continue")) (values_named (codes "expect") h.fields))
