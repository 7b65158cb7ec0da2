use Rattle.std.proofs.Common.{◌≡◌, ◌++◌, length, string_bytes, false}
use denote.Text.{Utf8}
use denote.Shadow.{shadow}
use Rattle.ql_tree.specs.Texts.{unescaped}
use Rattle.ql_grammar.proofs.plain.push_plain.Given as goal

abbrev pub invariant-runs : goal.invariant-runs
invariant-runs l = record {
  same : string_bytes l.out ++ unescaped false l.rest ≡ string_bytes l.fn.out ++ unescaped false l.text;
  characters : shadow (Utf8 l.rest);
}

abbrev pub decreases-runs : goal.decreases-runs
decreases-runs l = length l.rest
