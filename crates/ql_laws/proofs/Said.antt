-- A text says one thing.
use Rattle.std.proofs.Common.{◌≡◌, ◌≤◌, ℕ, List, ◌∷◌, length, Ok, Err, inl, inr, sym, ◌∙◌, ap, arith}
use Rattle.cm_base.specs.Judged.{Judged}
use Rattle.cm_base.specs.declared.cause.Cause.TheVariants as causes
use Rattle.ql_lex.specs.Lexes.{Lexes}
use Rattle.ql_tree.specs.declared.tree.Query.{Query}
use Rattle.ql_parse.specs.Texts.{Spells, Says, longest, deepest}
use Rattle.ql_parse.proofs.Saying.{relimited, only_query, only_over, only_fault, only_left}
use Rattle.ql_laws.proofs.Tellings.{one_query}

read_short : (text : List ℕ) (q : Query) (w : Spells text q) → length text ≤ longest → Lexes longest 0 text w.tokens
read_short text q w h = relimited (length text) longest 0 text w.tokens (λ _. omega arith) (λ _. omega arith) w.lexed

pub says_one : (text : List ℕ) (a b : Judged Query) → Says text a → Says text b → a ≡ b
says_one text (Ok q) b (w, h) says = sym (only_query text w.tokens (read_short text q w h) q w.spelled (λ other v. one_query deepest w.tokens q other w.spelled v) h b says)
says_one text (Err cause) b (inl (place, inl (rest, wrong, e), f)) says = ap Err (f ∙ ap causes.QueryText e) ∙ sym (only_fault text wrong.tokens wrong.lexed rest wrong.fault b says)
says_one text (Err cause) b (inl (place, inr (over, e), f)) says = ap Err (f ∙ ap causes.QueryText e) ∙ sym (only_over text over.tokens over.lexed over.tree over.spelled over.long b says)
says_one text (Err cause) b (inr (word, (t, rest, wrong, e), f)) says = ap Err f ∙ sym (only_left text wrong.tokens wrong.lexed (t ∷ rest) wrong.fault word e b says)
