use Rattle.std.proofs.Common.{◌≡◌, ◌++◌, length, string_bytes}
use denote.Text.{Utf8}
use denote.Shadow.{shadow}
use Rattle.ql_tree.specs.Texts as texts
use Rattle.ql_tree.proofs.printer.push_escaped.Given as goal

abbrev pub invariant-runs : goal.invariant-runs
invariant-runs l = record {
  same : string_bytes l.out ++ texts.escaped l.rest ≡ string_bytes l.fn.out ++ texts.escaped l.text;
  characters : shadow (Utf8 l.rest);
}

abbrev pub decreases-runs : goal.decreases-runs
decreases-runs l = length l.rest
