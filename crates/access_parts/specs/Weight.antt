-- The weights of the writes on access control lists.
use Rattle.std.specs.Prelude.{ℕ, ◌++◌}
use Rattle.std.specs.List.{flat_map}
use Rattle.call_parts.specs.Versions.{weight_with}
use Rattle.call_parts.specs.Weight.{texts_of_ace, texts_of_place}
use Rattle.access_parts.specs.declared.writes.ApplyAcl.{ApplyAcl}

abbrev pub weight_of_apply_acl : ApplyAcl → ℕ
weight_of_apply_acl call = weight_with (texts_of_place call.place ++ flat_map texts_of_ace call.remove ++ flat_map texts_of_ace call.add) 0
