use Rattle.std.proofs.Common.{◌≡◌, ◌+◌, length, false}
use Rattle.std.specs.Option.{option_map}
use Rattle.ql_lex.specs.Lexes as spec
use Rattle.ql_lex.proofs.lexeme.closing.Given as goal

abbrev pub invariant-bytes : goal.invariant-bytes
invariant-bytes l = record {
  same : option_map (λ k. k + l.n) (spec.closing l.escaped l.left) ≡ spec.closing false l.text;
  place : l.n + length l.left ≡ length l.text;
}

abbrev pub decreases-bytes : goal.decreases-bytes
decreases-bytes l = length l.left
