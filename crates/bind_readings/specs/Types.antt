-- The arguments of the readings of types and of the repository's information, judged in their order (CMIS 1.1, section 5.4).
use Rattle.std.specs.Prelude.{ℕ, zero, suc, List, codes, bytes_eq, Bool, true, false, Option, Some, None, option_and_then, Ok, if◌then◌else◌}
use Rattle.cm_base.specs.Decimals.{decimal_u64}
use Rattle.cm_base.specs.Judged.{Judged, ◌>>=◌}
use Rattle.form_args.specs.declared.pairs.Pair.{Pair}
use Rattle.form_args.specs.Pairs.{first_of}
use Rattle.form_args.specs.Single.{chosen, flag_of, number_of, needed}
use Rattle.request_target.specs.declared.target.Target.{Target}
use Rattle.request_target.specs.declared.target.Target.TheVariants as targets
use Rattle.type_parts.specs.declared.readings.Depth.{Depth}
use Rattle.type_parts.specs.declared.readings.Depth.TheVariants as depths
use Rattle.type_parts.specs.declared.readings.ReadInfo.{ReadInfo}
use Rattle.type_parts.specs.declared.readings.ReadTypeChildren.{ReadTypeChildren}
use Rattle.type_parts.specs.declared.readings.ReadTypeDefinition.{ReadTypeDefinition}
use Rattle.type_parts.specs.declared.readings.ReadTypeDescendants.{ReadTypeDescendants}
use Rattle.bind_parts.specs.declared.asking.Asking.{Asking}
use Rattle.bind_readings.specs.declared.options.TypeOptions.{TypeOptions}

-- ---- what the readings of types have in common

abbrev pub levels : ℕ → Option Depth
levels zero = None
levels (suc n) = Some (depths.Levels (suc n))

-- -1 is all levels; else at least one
abbrev pub depth_of_word : List ℕ → Option Depth
depth_of_word word = if bytes_eq word (codes "-1") then Some depths.All else option_and_then levels (decimal_u64 word)

abbrev pub depth_of : List Pair → Judged Depth
depth_of pairs = chosen depth_of_word pairs (codes "depth") depths.All

-- what stands beside the type's id: each is judged in each of the readings of types, also where it means nothing
abbrev pub options_of : List Pair → Judged TypeOptions
options_of pairs = do
  definitions ← flag_of pairs (codes "includePropertyDefinitions") false
  most ← number_of pairs (codes "maxItems") 100
  skip ← number_of pairs (codes "skipCount") 0
  depth ← depth_of pairs
  Ok (record { property_definitions = definitions; max_items = most; skip_count = skip; depth = depth })

-- ---- the readings

abbrev pub type_children_of : Asking → Judged ReadTypeChildren
type_children_of asking = do
  options ← options_of asking.form.pairs
  Ok (record { type_id = first_of asking.form.pairs (codes "typeId"); property_definitions = options.property_definitions; max_items = options.max_items; skip_count = options.skip_count })

abbrev pub type_descendants_of : Asking → Judged ReadTypeDescendants
type_descendants_of asking = do
  options ← options_of asking.form.pairs
  Ok (record { type_id = first_of asking.form.pairs (codes "typeId"); depth = options.depth; property_definitions = options.property_definitions })

-- the type's id must be given
abbrev pub type_definition_of : Asking → Judged ReadTypeDefinition
type_definition_of asking = do
  id ← needed asking.form.pairs (codes "typeId")
  options ← options_of asking.form.pairs
  Ok (record { type_id = id })

-- all repositories are asked for at the address of the service
abbrev pub is_service : Target → Bool
is_service targets.Service = true
is_service targets.Repository = false
is_service (targets.Object names) = false

abbrev pub info_of : Asking → Judged ReadInfo
info_of asking = Ok (record { host = asking.host; all = is_service asking.address })
