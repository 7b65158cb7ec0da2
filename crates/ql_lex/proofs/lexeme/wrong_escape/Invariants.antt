use Rattle.std.proofs.Common.{◌≡◌, ◌+◌, ◌≤◌, ◌<◌, length, false, true}
use Rattle.ql_lex.specs.Lexes as spec
use Rattle.ql_lex.proofs.lexeme.wrong_escape.Given as goal

abbrev pub invariant-bytes : goal.invariant-bytes
invariant-bytes l = record {
  same : spec.wrong_escape l.n l.escaped l.left ≡ spec.wrong_escape l.at false l.text;
  place : l.n + length l.left ≡ l.at + length l.text;
  least : l.at ≤ l.n;
  behind : l.escaped ≡ true → l.at < l.n;
}

abbrev pub decreases-bytes : goal.decreases-bytes
decreases-bytes l = length l.left
