use Rattle.std.proofs.Common.{◌≡◌, [], map, drop}
use Rattle.form_args.specs.Filter.{each_onto}
use Rattle.form_parts.specs.Spans.{bytes_of}
use Rattle.form_parts.specs.Parts.{part_of}
use Rattle.form_parts.proofs.parts.each_part.Given as goal

abbrev pub invariant-loop-span : goal.invariant-loop-span
invariant-loop-span l = each_onto part_of [] (map (bytes_of l.body) l.spans) ≡ each_onto part_of l.parts.items (map (bytes_of l.body) (drop l.span-index l.spans))
