use Rattle.std.proofs.Common.{◌≡◌, ◌+◌, length}
use denote.Shadow.{shadow}
use denote.Text.{Utf8}
use Rattle.ql_lex.proofs.Reading.{Reading}
use Rattle.ql_lex.proofs.tokens.tokens.Given as goal

abbrev pub invariant-tokens : goal.invariant-tokens
invariant-tokens l = record {
  reading : Reading l.limit l.text l.all.items l.at l.rest;
  place : l.at + length l.rest ≡ length l.text;
  characters : shadow (Utf8 l.rest);
}

abbrev pub decreases-tokens : goal.decreases-tokens
decreases-tokens l = length l.rest
