use Rattle.std.proofs.Common.{◌≡◌, ◌++◌}
use Rattle.form_parts.specs.Parts.{arguments, first_content}
use Rattle.form_parts.proofs.gathered.gathered.Given as goal

abbrev pub invariant-loop-part : goal.invariant-loop-part
invariant-loop-part l = record {
  pairs : l.pairs.items ≡ arguments l.yielded;
  content : l.content ≡ first_content l.yielded;
  parts : l.yielded ++ l.part-iterator.rest.items ≡ l.fn.parts.items;
}
