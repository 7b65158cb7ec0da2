-- The bytes of replies (RFC 9112, sections 4 to 6).
use Rattle.std.specs.Prelude.{ℕ, Bool, true, false, ◌&&◌, ◌==◌, List, [], ◌∷◌, ◌++◌, length, codes, decimal, nat_le, Option, Some, None, if◌then◌else◌}
use Rattle.std.specs.Option.{unwrap_or}
use Rattle.http.specs.StatusCode.{reason_phrase}
use Rattle.cm_base.specs.declared.cause.Cause.{Cause}
use Rattle.cm_base.specs.declared.cause.Cause.TheVariants as causes
use Rattle.cm_base.specs.declared.shown.Shown.{Shown}
use Rattle.cm_base.specs.Causes.{cause_status}
use Rattle.json_text.specs.Bodies.{cause_text}
use Rattle.http_grammar.specs.declared.fault.HttpFault.{HttpFault}
use Rattle.http_grammar.specs.declared.fault.HttpFault.TheVariants as faults

-- a field line: its name with the colon and a space, and its value
abbrev pub line : List ℕ → List ℕ → List ℕ
line name value = name ++ value ++ codes "\r\n"

-- the phrase of a status of three digits, or nothing
unfoldable pub phrase : ℕ → List ℕ
phrase status = if nat_le 100 status && nat_le status 999 then unwrap_or (reason_phrase status) [] else []

abbrev pub status_line : ℕ → List ℕ
status_line status = codes "HTTP/1.1 " ++ decimal status ++ codes " " ++ phrase status ++ codes "\r\n"

-- an empty media type has no field
abbrev pub media_line : List ℕ → List ℕ
media_line [] = []
media_line (b ∷ kind) = line (codes "Content-Type: ") (b ∷ kind)

-- the methods that are supported, where another was asked (RFC 9110, section 15.5.6)
abbrev pub allow_line : ℕ → List ℕ
allow_line status = if status == 405 then codes "Allow: GET, POST\r\n" else []

-- the challenge, where credentials are wrong (RFC 7617, section 2)
abbrev pub challenge_line : ℕ → List ℕ
challenge_line status = if status == 401 then codes "WWW-Authenticate: Basic realm=\"cmis\", charset=\"UTF-8\"\r\n" else []

-- the step number of the repository that the reply was made from
abbrev pub step_line : Option ℕ → List ℕ
step_line None = []
step_line (Some n) = line (codes "CMIS-Step: ") (decimal n)

-- the last reply closes
abbrev pub close_line : Bool → List ℕ
close_line true = codes "Connection: close\r\n"
close_line false = []

unfoldable pub head_text : Shown → Bool → List ℕ
head_text shown last =
    status_line shown.status ++ media_line shown.kind ++ line (codes "Content-Length: ") (decimal (length shown.body))
    ++ allow_line shown.status ++ challenge_line shown.status ++ step_line shown.number ++ close_line last ++ codes "\r\n"

-- the head and the body of what is shown; the last reply of a session says that it closes
abbrev pub reply_text : Shown → Bool → List ℕ
reply_text shown last = head_text shown last ++ shown.body

-- the interim reply (RFC 9110, section 15.2.1)
unfoldable pub interim_text : List ℕ
interim_text = codes "HTTP/1.1 100 Continue\r\n\r\n"

-- the reply to want of memory
unfoldable pub runtime_text : List ℕ
runtime_text = codes "HTTP/1.1 500 Internal Server Error\r\nContent-Type: application/json\r\nContent-Length: 52\r\nConnection: close\r\n\r\n{\"exception\":\"runtime\",\"message\":\"memory is wanted\"}"

-- what is shown of a cause, at this step number
abbrev pub cause_shown : Cause → Option ℕ → Shown
cause_shown cause number = record { status = cause_status cause; kind = codes "application/json"; body = cause_text cause; number = number }

-- what is shown without its body and its media type, as to HEAD
abbrev pub without_body : Shown → Shown
without_body shown = record { status = shown.status; kind = []; body = []; number = shown.number }

-- the cause of a fault of the bytes; a cut has none, since nothing is sent
abbrev pub fault_cause : HttpFault → Option Cause
fault_cause faults.BadHead = Some causes.BadHead
fault_cause faults.LongHead = Some causes.LongHead
fault_cause faults.LongBody = Some causes.LongBody
fault_cause faults.BadLength = Some causes.BadLength
fault_cause faults.Coding = Some causes.Coding
fault_cause faults.Cut = None
