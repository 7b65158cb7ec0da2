-- What given properties say of an object that is to be made.
use Rattle.std.specs.Prelude.{ℕ, List}
use Rattle.cm_types.specs.declared.definition.TypeDef.{TypeDef}
use Rattle.cm_types.specs.declared.given.Given.{Given}
use Rattle.cm_types.specs.declared.property.PropDef.{PropDef}
use Rattle.cm_types.specs.Types.{props_of}
use Rattle.wr_rules.specs.Rules.{name_in, type_id_in, secondary_in}

-- its name, type and secondary types, empty where they are not given, and the definitions of the properties that it has
pub record Wanted : Type 0 where
  pub name : List ℕ
  pub kind : List ℕ
  pub secondary : List (List ℕ)
  pub defs : List PropDef

abbrev pub wanted_in : List TypeDef → List Given → Wanted
wanted_in types given = record {
  name = name_in given;
  kind = type_id_in given;
  secondary = secondary_in given;
  defs = props_of types (type_id_in given) (secondary_in given);
}
