-- Values that are seen where they stand.
use Rattle.std.specs.Prelude.{decimal}
use Rattle.cm_base.specs.declared.value.Value.{Value}
use Rattle.cm_see.specs.declared.seen.PropertyValue.{PropertyValue}
use Rattle.cm_see.specs.declared.seen.PropertyValue.TheVariants as seen
use Rattle.cmis_spec.specs.Values.{words}

-- the value that is seen
abbrev pub value_seen : PropertyValue → Value
value_seen (seen.Text t) = words t.now
value_seen (seen.Digits n) = words (decimal n)
value_seen (seen.Kept v) = v.now
value_seen (seen.Made v) = v
