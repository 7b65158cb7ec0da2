-- The JSON of values (CMIS 1.1, section 5.2.11).
use Rattle.std.specs.Prelude.{map}
use Rattle.serde_json.specs.Data.{Data, null, boolean, number, string}
use Rattle.serde_json.specs.Find.{of_integer}
use Rattle.cm_base.specs.declared.value.Scalar.{Scalar}
use Rattle.cm_base.specs.declared.value.Scalar.TheVariants.{Flag, Whole, Time, Words}
use Rattle.cm_base.specs.declared.value.Value.{Value}
use Rattle.cm_base.specs.declared.value.Value.TheVariants.{Unset, One, Many}
use Rattle.json_text.specs.Build.{list_data}

-- a moment is its milliseconds since 1970
abbrev pub scalar_data : Scalar → Data
scalar_data (Flag b) = boolean b
scalar_data (Whole n) = number (of_integer n)
scalar_data (Time n) = number (of_integer n)
scalar_data (Words t) = string t

-- an unset value is null, several are an array
abbrev pub value_data : Value → Data
value_data Unset = null
value_data (One s) = scalar_data s
value_data (Many ss) = list_data (map scalar_data ss)
