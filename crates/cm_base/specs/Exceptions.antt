-- The exceptions of the standard, with their numbers, names and statuses (CMIS 1.1, sections 2.2.1.4 and 5.2.10).
use Rattle.std.specs.Prelude.{ℕ, List, codes}
use Rattle.cm_base.specs.declared.exception.Exception.{Exception}
use Rattle.cm_base.specs.declared.exception.Exception.TheVariants as exceptions

-- number, name, status
abbrev pub exception_row : Exception → ℕ × (List ℕ × ℕ)
exception_row exceptions.InvalidArgument = (1, (codes "invalidArgument", 400))
exception_row exceptions.NotSupported = (2, (codes "notSupported", 405))
exception_row exceptions.ObjectNotFound = (3, (codes "objectNotFound", 404))
exception_row exceptions.PermissionDenied = (4, (codes "permissionDenied", 403))
exception_row exceptions.Runtime = (5, (codes "runtime", 500))
exception_row exceptions.Constraint = (6, (codes "constraint", 409))
exception_row exceptions.ContentAlreadyExists = (7, (codes "contentAlreadyExists", 409))
exception_row exceptions.FilterNotValid = (8, (codes "filterNotValid", 400))
exception_row exceptions.NameConstraintViolation = (9, (codes "nameConstraintViolation", 409))
exception_row exceptions.Storage = (10, (codes "storage", 500))
exception_row exceptions.StreamNotSupported = (11, (codes "streamNotSupported", 403))
exception_row exceptions.UpdateConflict = (12, (codes "updateConflict", 409))
exception_row exceptions.Versioning = (13, (codes "versioning", 409))

abbrev pub number_of : Exception → ℕ
number_of e = (exception_row e).0

abbrev pub name_of : Exception → List ℕ
name_of e = (exception_row e).1.0

abbrev pub status_of : Exception → ℕ
status_of e = (exception_row e).1.1
