-- The printed form of a query that a text spells is a text that spells it.
use Rattle.std.proofs.Common.{◌≡◌, ℕ, ◌+◌, ◌<◌, ◌≤◌, false, List, [], ◌∷◌, ◌++◌, map, length, drop, slice_index, inl, refl, sym, ◌∙◌, ap, subst, arith, if◌then◌else◌}
use Rattle.std.specs.List.{prefix_len}
use Rattle.std.proofs.lemmas.List.{length-append}
use Rattle.ql_lex.specs.Words.{word_text}
use Rattle.ql_lex.specs.Lexes.{Lexes, Follow, lexeme, blanks, is_blank, ends_with}
use Rattle.ql_lex.proofs.Laws.{lexes_one}
use Rattle.ql_lex.specs.declared.word.Word.TheVariants as words
use Rattle.ql_lex.specs.declared.token.Kind.{Kind}
use Rattle.ql_lex.specs.declared.token.Kind.TheVariants as kinds
use Rattle.ql_lex.specs.declared.token.Token.{Token}
use Rattle.grammar_rules.proofs.Carried.{Each}
use Rattle.ql_tree.specs.Stripped.{stripped}
use Rattle.ql_tree.specs.Printed.{kind_text, spaced, printed, rest_tokens, query_tokens}
use Rattle.ql_tree.specs.declared.tree.Query.{Query}
use Rattle.ql_grammar.specs.Grammar as g
use Rattle.ql_parse.specs.Texts.{Spells, deepest}
use Rattle.ql_laws.proofs.Written.{IsWritten, Ends, word_written}
use Rattle.ql_laws.proofs.Sources.{tokens_written}
use Rattle.ql_laws.proofs.Parts.{kind, Alike, Printed, Reprint}
use Rattle.ql_laws.proofs.Queries.{query_prints}
use Rattle.ql_laws.proofs.Tellings.{one_query}

-- no blank stands before a token
no_blanks : (k : Kind) (rest : List ℕ) → IsWritten k → blanks (kind_text k ++ rest) ≡ 0
no_blanks k rest w = at_front (kind_text k) w.some w.starts
  where
    at_front : (text : List ℕ) → 0 < length text → is_blank (slice_index text 0) ≡ false → blanks (text ++ rest) ≡ 0
    at_front [] some h = absurd (omega arith)
    at_front (b ∷ bs) some h = ap (λ v. if v then 1 + prefix_len is_blank (bs ++ rest) else 0) h

one_blank : (k : Kind) (rest : List ℕ) → IsWritten k → blanks (32 ∷ (kind_text k ++ rest)) ≡ 1
one_blank k rest w = ap (λ n. 1 + n) (no_blanks k rest w)

drop_front : (us rest : List ℕ) → drop (length us) (us ++ rest) ≡ rest
drop_front [] rest = refl
drop_front (u ∷ us) rest = drop_front us rest

-- the tokens of a text, whatever their offsets
record Lexed (limit n : ℕ) (text : List ℕ) (ks : List Kind) : Type 0 where
  pub tokens : List Token
  pub lexed : Lexes limit n text tokens
  pub kinds : map kind tokens ≡ ks

lexed_step : (limit n m : ℕ) (text rest : List ℕ) (k : Kind) (ks : List Kind) → IsWritten k → Ends rest → blanks text ≡ m → drop m text ≡ kind_text k ++ rest → n + m < limit
    → Lexed limit (n + m + length (kind_text k)) rest ks → Lexed limit n text (k ∷ ks)
lexed_step limit n m text rest k ks w e before behind room l = record {
  tokens = record { kind = k; at = n + blanks text } ∷ l.tokens;
  lexed = (
    subst (λ s. 0 < length s) (sym same) (omega (arith, w.some, length-append (kind_text k) rest)),
    subst (λ b. n + b < limit) (sym before) room,
    ap (λ x. record { kind = x; at = n + blanks text }) (sym (ap (λ x. x.0) read)),
    subst (λ x. Follow (ends_with x.0 (n + blanks text)) l.tokens (Lexes limit (n + blanks text + x.1) (drop x.1 (drop (blanks text) text)) l.tokens)) (sym read)
        (subst (λ o. Follow o l.tokens (Lexes limit (n + blanks text + length (kind_text k)) (drop (length (kind_text k)) (drop (blanks text) text)) l.tokens)) (sym (w.whole (n + blanks text)))
        (subst (λ b. Lexes limit (n + b + length (kind_text k)) (drop (length (kind_text k)) (drop (blanks text) text)) l.tokens) (sym before)
        (subst (λ s. Lexes limit (n + m + length (kind_text k)) s l.tokens) (sym left) l.lexed))),
  );
  kinds = ap (λ xs. k ∷ xs) l.kinds;
}
  where
    same : drop (blanks text) text ≡ kind_text k ++ rest
    same = ap (λ b. drop b text) before ∙ behind

    read : lexeme (drop (blanks text) text) ≡ (k, length (kind_text k))
    read = ap lexeme same ∙ w.reads rest e

    left : drop (length (kind_text k)) (drop (blanks text) text) ≡ rest
    left = ap (drop (length (kind_text k))) same ∙ drop_front (kind_text k) rest

ends_spaced : (ks : List Kind) → Ends (spaced ks)
ends_spaced [] = tt
ends_spaced (k ∷ ks) = refl

-- tokens with a blank before each
spaced_lexed : (limit n : ℕ) (ks : List Kind) → Each IsWritten ks → n + length (spaced ks) ≤ limit → Lexed limit n (spaced ks) ks
spaced_lexed limit n [] each room = record { tokens = []; lexed = inl refl; kinds = refl }
spaced_lexed limit n (k ∷ ks) each room =
    let size : length (kind_text k ++ spaced ks) ≡ length (kind_text k) + length (spaced ks) = length-append (kind_text k) (spaced ks) in
    let some : 0 < length (kind_text k) = each.0.some in
    lexed_step limit n 1 (32 ∷ (kind_text k ++ spaced ks)) (spaced ks) k ks each.0 (ends_spaced ks) (one_blank k (spaced ks) each.0) refl (omega (arith, size, some))
    (spaced_lexed limit (n + 1 + length (kind_text k)) ks each.1 (omega (arith, size)))

printed_lexed : (q : Query) → Each IsWritten (query_tokens q) → Lexed (length (printed q)) 0 (printed q) (query_tokens q)
printed_lexed q each =
    let k : Kind = kinds.Word words.Select in
    let size : length (printed q) ≡ length (word_text words.Select) + length (spaced (rest_tokens q)) = length-append (word_text words.Select) (spaced (rest_tokens q)) in
    lexed_step (length (printed q)) 0 0 (printed q) (spaced (rest_tokens q)) k (rest_tokens q) (word_written words.Select) (ends_spaced (rest_tokens q))
    (no_blanks k (spaced (rest_tokens q)) (word_written words.Select)) refl (omega (arith, size))
    (spaced_lexed (length (printed q)) (0 + 0 + length (word_text words.Select)) (rest_tokens q) each.1 (omega (arith, size)))

module _ (text : List ℕ) (q : Query) (w : Spells text q) where
  reprint : Reprint (g.query deepest) (query_tokens q) (Alike stripped) w.tokens q
  reprint = query_prints deepest w.tokens q w.spelled

  whole : Printed (g.query deepest) (query_tokens q) (Alike stripped) q
  whole = reprint.1 (tokens_written (length text) 0 text w.tokens w.lexed reprint.0)

  reread : Lexed (length (printed q)) 0 (printed q) (query_tokens q)
  reread = printed_lexed q whole.writable

  respelled : (r : Query) × (g.query deepest).is reread.tokens r × (stripped r ≡ stripped q)
  respelled = whole.again reread.tokens reread.kinds

  -- The printed form spells the query, but for the offsets of its timestamps.
  pub spelled_again : (r : Query) × Spells (printed q) r × (stripped r ≡ stripped q)
  spelled_again = (respelled.0, record { tokens = reread.tokens; lexed = reread.lexed; spelled = respelled.1 }, respelled.2)

  -- And it spells no other.
  pub spelled_alone : (r : Query) → Spells (printed q) r → stripped r ≡ stripped q
  spelled_alone r v =
      let same : v.tokens ≡ reread.tokens = lexes_one (length (printed q)) 0 (printed q) v.tokens reread.tokens v.lexed reread.lexed in
      let spelled : (g.query deepest).is reread.tokens r = subst (λ s. (g.query deepest).is s r) same v.spelled in
      ap stripped (one_query deepest reread.tokens respelled.0 r respelled.1 spelled) ∙ respelled.2
