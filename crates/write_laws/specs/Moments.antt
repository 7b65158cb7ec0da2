-- Causes that a moment decides.
use Rattle.std.specs.Prelude.{Bool, true, false}
use Rattle.cm_base.specs.declared.cause.Cause.{Cause}
use Rattle.cm_base.specs.declared.cause.Cause.TheVariants as causes

-- A retention that is not over refuses, or one that would end sooner than it does (CMIS 1.1, section 2.1.16.1). Every other cause comes at each moment or at none.
abbrev pub is_of_retention : Cause → Bool
is_of_retention (causes.Retained moment expiration) = true
is_of_retention (causes.Shortened moment expiration) = true
is_of_retention _ = false
