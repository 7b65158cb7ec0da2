-- The causes of refusals: the exception, the fixed text of the message, and the kept values as texts.
use Rattle.std.specs.Prelude.{ℕ, List, [], ◌∷◌, ◌++◌, codes, decimal}
use Rattle.std.specs.List.{flat_map}
use Rattle.std.specs.Fmt.{signed_decimal}
use Rattle.cm_base.specs.declared.exception.Exception.{Exception}
use Rattle.cm_base.specs.declared.exception.Exception.TheVariants as exceptions
use Rattle.cm_base.specs.declared.cause.PropertyFault.{PropertyFault}
use Rattle.cm_base.specs.declared.cause.PropertyFault.TheVariants as faults
use Rattle.cm_base.specs.declared.cause.Cause.{Cause}
use Rattle.cm_base.specs.declared.cause.Cause.TheVariants as causes
use Rattle.cm_base.specs.Exceptions.{status_of}

abbrev pub fault_word : PropertyFault → List ℕ
fault_word faults.Unknown = codes "unknown"
fault_word faults.Readonly = codes "readonly"
fault_word faults.Cardinality = codes "cardinality"
fault_word faults.Form = codes "form"
fault_word faults.Length = codes "length"
fault_word faults.Range = codes "range"
fault_word faults.Choice = codes "choice"
fault_word faults.Required = codes "required"

-- a value of another form is an argument that is not valid; every other fault breaks a constraint
abbrev pub property_exception_of : PropertyFault → Exception
property_exception_of faults.Form = exceptions.InvalidArgument
property_exception_of _ = exceptions.Constraint

-- exception, fixed text, kept values
abbrev pub cause_row : Cause → Exception × (List ℕ × List (List ℕ))
cause_row causes.NoUrl = (exceptions.ObjectNotFound, (codes "address is not found", []))
cause_row causes.BadMethod = (exceptions.NotSupported, (codes "method is not supported", []))
cause_row (causes.NotServed word) = (exceptions.NotSupported, (codes "call is not supported", word ∷ []))
cause_row (causes.BadArgument name) = (exceptions.InvalidArgument, (codes "argument is not valid", name ∷ []))
cause_row (causes.MissingArgument name) = (exceptions.InvalidArgument, (codes "argument is missing", name ∷ []))
cause_row causes.BadFilter = (exceptions.FilterNotValid, (codes "filter is not valid", []))
cause_row causes.BadBody = (exceptions.InvalidArgument, (codes "form is not valid", []))
cause_row causes.BadTypeText = (exceptions.InvalidArgument, (codes "type is not valid", []))
cause_row (causes.StepAhead asked number) = (exceptions.InvalidArgument, (codes "step is ahead", decimal asked ∷ decimal number ∷ []))
cause_row causes.WrongSecret = (exceptions.PermissionDenied, (codes "credentials are not valid", []))
cause_row (causes.Storage used asked limit) = (exceptions.Storage, (codes "limit is reached", decimal used ∷ decimal asked ∷ decimal limit ∷ []))
cause_row causes.NotFound = (exceptions.ObjectNotFound, (codes "object is not found", []))
cause_row causes.TypeNotFound = (exceptions.ObjectNotFound, (codes "type is not found", []))
cause_row causes.Denied = (exceptions.PermissionDenied, (codes "permission is missing", []))
cause_row (causes.Token given kept) = (exceptions.UpdateConflict, (codes "change token differs", given ∷ decimal kept ∷ []))
cause_row causes.WrongKind = (exceptions.InvalidArgument, (codes "object has another kind", []))
cause_row causes.RootParent = (exceptions.InvalidArgument, (codes "root has no parent", []))
cause_row causes.TypeKind = (exceptions.Constraint, (codes "type does not fit the call", []))
cause_row causes.NotCreatable = (exceptions.Constraint, (codes "type is not creatable", []))
cause_row causes.VersionState = (exceptions.Constraint, (codes "versioning state does not fit", []))
cause_row causes.NotVersionable = (exceptions.Constraint, (codes "type is not versionable", []))
cause_row causes.CheckedOut = (exceptions.Versioning, (codes "series is checked out", []))
cause_row causes.NotLatest = (exceptions.Versioning, (codes "version is not the latest", []))
cause_row causes.NotWorking = (exceptions.Versioning, (codes "object is not a working copy", []))
cause_row causes.RootFixed = (exceptions.Constraint, (codes "root folder stays", []))
cause_row causes.NotEmpty = (exceptions.Constraint, (codes "folder is not empty", []))
cause_row causes.Below = (exceptions.Constraint, (codes "folder would stand below itself", []))
cause_row causes.Deep = (exceptions.Constraint, (codes "folder would stand too deep", []))
cause_row causes.NotFileable = (exceptions.Constraint, (codes "object is not fileable", []))
cause_row causes.OneParent = (exceptions.Constraint, (codes "folder has one parent", []))
cause_row causes.NotFiled = (exceptions.InvalidArgument, (codes "object is not in the folder", []))
cause_row causes.AlreadyFiled = (exceptions.Constraint, (codes "object is in the folder", []))
cause_row causes.ChildType = (exceptions.Constraint, (codes "type is not allowed in the folder", []))
cause_row causes.EndKind = (exceptions.Constraint, (codes "relationship end has another kind", []))
cause_row causes.EndType = (exceptions.Constraint, (codes "relationship end has another type", []))
cause_row causes.PolicyInUse = (exceptions.Constraint, (codes "policy is applied", []))
cause_row causes.NotControllable = (exceptions.Constraint, (codes "type is not controllable", []))
cause_row causes.Permission = (exceptions.Constraint, (codes "permission is not known", []))
cause_row causes.Propagation = (exceptions.Constraint, (codes "propagation is not offered", []))
cause_row causes.TypeTaken = (exceptions.Constraint, (codes "type id or query name is taken", []))
cause_row causes.TypeFixed = (exceptions.Constraint, (codes "type can not be changed", []))
cause_row causes.TypeInUse = (exceptions.Constraint, (codes "type is in use", []))
cause_row causes.TypeRule = (exceptions.Constraint, (codes "type breaks a rule", []))
cause_row (causes.Property id fault) = (property_exception_of fault, (codes "property is not valid", id ∷ fault_word fault ∷ []))
cause_row causes.BadName = (exceptions.NameConstraintViolation, (codes "name is not valid", []))
cause_row causes.NameTaken = (exceptions.NameConstraintViolation, (codes "name is taken", []))
cause_row causes.StreamNot = (exceptions.StreamNotSupported, (codes "content is not allowed", []))
cause_row causes.ContentExists = (exceptions.ContentAlreadyExists, (codes "content is there", []))
cause_row causes.ContentRequired = (exceptions.Constraint, (codes "content is required", []))
cause_row causes.StreamLong = (exceptions.Constraint, (codes "content is too long", []))
cause_row causes.NoContent = (exceptions.Constraint, (codes "content is not there", []))
cause_row causes.Held = (exceptions.Constraint, (codes "object is under hold", []))
cause_row (causes.Retained moment expiration) = (exceptions.Constraint, (codes "object is under retention", signed_decimal moment.0 ∷ signed_decimal expiration.0 ∷ []))
cause_row (causes.Shortened moment expiration) = (exceptions.Constraint, (codes "retention is shortened", signed_decimal moment.0 ∷ signed_decimal expiration.0 ∷ []))
cause_row (causes.TooMany count) = (exceptions.Constraint, (codes "answer is too long", decimal count ∷ []))
cause_row (causes.QueryText place) = (exceptions.InvalidArgument, (codes "query is not valid", decimal place ∷ []))
cause_row (causes.QueryName name) = (exceptions.InvalidArgument, (codes "query name is not known", name ∷ []))
cause_row (causes.QueryUse name) = (exceptions.InvalidArgument, (codes "column is not used rightly", name ∷ []))
cause_row (causes.QueryLeft word) = (exceptions.NotSupported, (codes "query part is not supported", word ∷ []))
cause_row causes.BadHead = (exceptions.InvalidArgument, (codes "head is not valid", []))
cause_row causes.LongHead = (exceptions.InvalidArgument, (codes "head is too long", []))
cause_row causes.LongBody = (exceptions.InvalidArgument, (codes "body is too long", []))
cause_row causes.BadLength = (exceptions.InvalidArgument, (codes "length is not valid", []))
cause_row causes.Coding = (exceptions.InvalidArgument, (codes "coding is not known", []))

abbrev pub exception_of : Cause → Exception
exception_of c = (cause_row c).0

abbrev pub fixed_text : Cause → List ℕ
fixed_text c = (cause_row c).1.0

-- the fixed text, then for each kept value a space and the value
abbrev pub message_of : Cause → List ℕ
message_of c = fixed_text c ++ flat_map (λ v. codes " " ++ v) (cause_row c).1.1

-- wrong credentials and faults of the bytes have statuses of their own (RFC 9110, section 15); every other cause has its exception's
abbrev pub cause_status : Cause → ℕ
cause_status causes.WrongSecret = 401
cause_status causes.BadHead = 400
cause_status causes.LongHead = 431
cause_status causes.LongBody = 413
cause_status causes.BadLength = 400
cause_status causes.Coding = 501
cause_status c = status_of (exception_of c)
