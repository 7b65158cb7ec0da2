-- The bodies of replies to refused requests (CMIS 1.1, section 5.2.10).
use Rattle.std.specs.Prelude.{ℕ, List, [], ◌∷◌, codes}
use Rattle.serde_json.specs.Data.{Data, string}
use Rattle.serde_json.specs.Written.{compact_text}
use Rattle.cm_base.specs.declared.cause.Cause.{Cause}
use Rattle.cm_base.specs.Causes.{exception_of, message_of}
use Rattle.cm_base.specs.Exceptions.{name_of}
use Rattle.json_text.specs.Build.{object_data}

-- {"exception":..,"message":..}
abbrev pub cause_data : Cause → Data
cause_data c = object_data
    ((codes "exception", string (name_of (exception_of c)))
    ∷ (codes "message", string (message_of c))
    ∷ [])

abbrev pub cause_text : Cause → List ℕ
cause_text c = compact_text (cause_data c)
