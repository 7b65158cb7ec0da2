-- A text with its offset is read where a text is.
use Rattle.std.proofs.Common.{◌≡◌, ℕ, false, List, [], ◌∷◌, Some, None, is_some, refl, sym, ap, subst}
use Rattle.grammar_rules.specs.Rules.{Took, Stuck}
use Rattle.grammar_rules.proofs.Laws.{stuck_at}
use Rattle.ql_lex.specs.declared.token.Kind.{Kind}
use Rattle.ql_lex.specs.declared.token.Kind.TheVariants as kinds
use Rattle.ql_lex.specs.declared.token.Token.{Token}
use Rattle.ql_tree.specs.Texts.{unescaped}
use Rattle.ql_grammar.specs.Grammar as g
use Rattle.ql_grammar.proofs.Exits.{took_token, stops_token, stops_end}
use Rattle.ql_grammar.proofs.Facts.{moment_sane}

found : (k : Kind) (at : ℕ) (raw : List ℕ) → Some raw ≡ g.quoted_in k → g.moment_in k at ≡ Some (record { text = unescaped false raw; at = at })
found (kinds.Word w) at raw h = absurd cc
found (kinds.Name text) at raw h = absurd cc
found (kinds.Quoted text) at raw h = let e : raw ≡ text = cc in ap (λ s. Some (record { text = unescaped false s; at = at })) (sym e)
found (kinds.Number text) at raw h = absurd cc
found (kinds.Decimal text) at raw h = absurd cc
found kinds.Wrong at raw h = absurd cc

none : (k : Kind) (at : ℕ) → None ≡ g.quoted_in k → is_some (g.moment_in k at) ≡ false
none (kinds.Word w) at h = refl
none (kinds.Name text) at h = refl
none (kinds.Quoted text) at h = absurd cc
none (kinds.Number text) at h = refl
none (kinds.Decimal text) at h = refl
none kinds.Wrong at h = refl

module _ (ts : List Token) where
  pub took_moment : (t : Token) (rest : List Token) (raw text : List ℕ) → ts ≡ t ∷ rest → Some raw ≡ g.quoted_in t.kind → text ≡ unescaped false raw → Took g.moment ts (record { text = text; at = t.at }) rest
  took_moment t rest raw text e h v =
      let P : List ℕ → Type 0 = λ s. Took g.moment ts (record { text = s; at = t.at }) rest in
      subst P (sym v) (took_token (λ u. g.moment_in u.kind u.at) ts t rest (record { text = unescaped false raw; at = t.at }) e (found t.kind t.at raw h))

  pub stuck_moment : (t : Token) (rest : List Token) → ts ≡ t ∷ rest → None ≡ g.quoted_in t.kind → Stuck false g.moment ts ts
  stuck_moment t rest e h = stuck_at g.moment moment_sane ts (stops_token g.moment.first ts t rest e (none t.kind t.at h))

  pub stuck_moment_end : ts ≡ [] → Stuck false g.moment ts ts
  stuck_moment_end e = stuck_at g.moment moment_sane ts (stops_end g.moment.first ts e)
