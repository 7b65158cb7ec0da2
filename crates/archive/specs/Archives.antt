-- What an archive tells.
use Rattle.std.specs.Prelude.{ℕ, List, Some, None, replicate, slice_range}
use Rattle.std.specs.Arc.{arc_value}
use Rattle.std.specs.declared.option.Option.{Option}
use Rattle.archive.specs.declared.archive.Place.{Place}
use Rattle.archive.specs.declared.archive.Place.TheVariants as places
use Rattle.archive.specs.declared.shape.Shape.{Shape}
use Rattle.archive.specs.declared.shape.Shape.TheVariants as shapes

-- the bytes in memory are told, those of a file are not
abbrev pub told_of : Place → Option (List ℕ)
told_of (places.Memory bytes) = Some (arc_value bytes).items
told_of (places.File _) = None

-- bytes that are known, or so many zeros in place of those that nobody knows
abbrev pub shaped : Shape → List ℕ
shaped (shapes.Known bytes) = (arc_value bytes).items
shaped (shapes.Part all from to) = slice_range (arc_value all).items from to
shaped (shapes.Unknown n) = replicate n 0
