-- Truth of three values (CMIS 1.1, section 2.1.14.2.3).
use Rattle.std.specs.Prelude.{Bool, true, false}
use Rattle.ql_eval.specs.declared.truth.Truth.{Truth}
use Rattle.ql_eval.specs.declared.truth.Truth.TheVariants.{Holds, Fails, Unknown}

abbrev pub truth_of : Bool → Truth
truth_of true = Holds
truth_of false = Fails

abbrev pub opposite : Truth → Truth
opposite Holds = Fails
opposite Fails = Holds
opposite Unknown = Unknown

abbrev pub opposite_if : Bool → Truth → Truth
opposite_if true t = opposite t
opposite_if false t = t

-- AND: one that fails decides, else one that is unknown
abbrev pub both : Truth → Truth → Truth
both Fails t = Fails
both Holds t = t
both Unknown Fails = Fails
both Unknown Holds = Unknown
both Unknown Unknown = Unknown

-- OR: one that holds decides, else one that is unknown
abbrev pub either : Truth → Truth → Truth
either Holds t = Holds
either Fails t = t
either Unknown Holds = Holds
either Unknown Fails = Unknown
either Unknown Unknown = Unknown

abbrev pub holds : Truth → Bool
holds Holds = true
holds Fails = false
holds Unknown = false
