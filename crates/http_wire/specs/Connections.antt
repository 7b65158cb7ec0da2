-- Which requests are the last of their connection (RFC 9112, section 9.6; RFC 9110, section 7.6.1).
use Rattle.std.specs.Prelude.{Bool, ◌||◌, ◌==◌, List, codes}
use Rattle.http1.specs.Fields.{has_option, elements_named}
use Rattle.http_grammar.specs.Request.{Head, FieldParts}

-- a Connection field lists `close`, in any case
abbrev pub lists_close : List FieldParts → Bool
lists_close fields = has_option (codes "close") (elements_named (codes "connection") fields)

-- the reply to a request with this head is the last: in HTTP/1.0, or where a Connection field lists `close`
abbrev pub closes : Head → Bool
closes head = (head.minor == 0) || lists_close head.fields
