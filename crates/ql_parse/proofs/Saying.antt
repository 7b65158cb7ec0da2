-- What a text says, by what its tokens are.
use Rattle.std.proofs.Common.{◌≡◌, ℕ, ◌+◌, ◌-◌, ◌<◌, ◌≤◌, Bool, true, false, min, List, [], ◌∷◌, length, drop, Option, Some, None, Ok, Err, inl, inr, refl, sym, ◌∙◌, ap, subst, arith}
use Rattle.std.proofs.lemmas.List.{length-drop}
use Rattle.grammar_rules.specs.Rules.{Fault}
use Rattle.grammar_rules.proofs.Wholes.{fault_refuses, fault_is_one}
use Rattle.cm_base.specs.Judged.{Judged, Fails, Meets}
use Rattle.cm_base.specs.declared.fail.Fail.{Fail}
use Rattle.cm_base.specs.declared.fail.Fail.TheVariants as fails
use Rattle.cm_base.specs.declared.cause.Cause.TheVariants as causes
use Rattle.ql_lex.specs.Lexes.{Lexes, Follow, blanks, lexeme, ends_with}
use Rattle.ql_lex.proofs.Laws.{lexes_one}
use Rattle.ql_lex.specs.declared.token.Token.{Token}
use Rattle.ql_tree.specs.declared.tree.Query.{Query}
use Rattle.ql_grammar.specs.Grammar as g
use Rattle.ql_parse.specs.Wholes.{IsLeftWord, IsWhole, IsRefusal}
use Rattle.ql_grammar.specs.declared.stop.Halt.TheVariants as halts
use Rattle.ql_grammar.specs.declared.stop.Stop.{Stop}
use Rattle.ql_grammar.specs.declared.stop.Stop.TheVariants as stops
use Rattle.ql_parse.specs.Texts.{longest, deepest, Spells, GoesWrong, RunsOver, LeftOut, Says, Refuses, offset, left_word}
use Rattle.ql_grammar.proofs.Levels.{query_sane}

-- no byte of the text stands at the limit or behind it
abbrev Room : ℕ → ℕ → List ℕ → Type 0
Room limit n text = 0 < length text → n + length text ≤ limit

following : (o : Option (List Token)) (ts : List Token) (R S : Type 0) → (R → S) → Follow o ts R → Follow o ts S
following None ts R S f h = f h
following (Some last) ts R S f h = h

nothing_behind : (limit n : ℕ) (text : List ℕ) → Room limit n text → limit ≤ n + blanks text → length (drop (blanks text) text) ≡ 0
nothing_behind limit n [] r h = refl
nothing_behind limit n (b ∷ bs) r h = let k : n + length (b ∷ bs) ≤ limit = r (omega arith) in omega (arith, length-drop (blanks (b ∷ bs)) (b ∷ bs))

below : (limit n : ℕ) (text : List ℕ) → Room limit n text → 0 < length (drop (blanks text) text) → n + blanks text < limit
below limit n text r h =
    let some : 0 < length text = omega (arith, length-drop (blanks text) text) in
    let k : n + length text ≤ limit = r some in
    omega (arith, length-drop (blanks text) text)

-- behind blanks and a token
room_behind : (limit n size : ℕ) (text : List ℕ) → Room limit n text → Room limit (n + blanks text + size) (drop size (drop (blanks text) text))
room_behind limit n size text r h =
    let e : length (drop size (drop (blanks text) text)) ≡ length (drop (blanks text) text) - size = length-drop size (drop (blanks text) text) in
    let some : 0 < length text = omega (arith, length-drop (blanks text) text, e) in
    let k : n + length text ≤ limit = r some in
    omega (arith, length-drop (blanks text) text, e)

-- Tokens are the same for two limits that no byte reaches.
pub relimited : (limit other n : ℕ) (text : List ℕ) (ts : List Token) → Room limit n text → Room other n text → Lexes limit n text ts → Lexes other n text ts
relimited limit other n text [] r s (inl h) = inl h
relimited limit other n text [] r s (inr h) = inl (nothing_behind limit n text r h)
relimited limit other n text (t ∷ ts) r s h =
    let size : ℕ = (lexeme (drop (blanks text) text)).1 in
    let next : ℕ = n + blanks text + size in
    let left : List ℕ = drop size (drop (blanks text) text) in (
      h.0,
      below other n text s h.0,
      h.2,
      following (ends_with (lexeme (drop (blanks text) text)).0 (n + blanks text)) ts (Lexes limit next left ts) (Lexes other next left ts)
          (λ k. relimited limit other next left ts (room_behind limit n size text r) (room_behind other n size text s) k) h.3,
    )

module _ (text : List ℕ) (ts : List Token) (lexed : Lexes longest 0 text ts) where
  pub spells : (q : Query) → (g.query deepest).is ts q → length text ≤ longest → Spells text q
  spells q w h = record { tokens = ts; lexed = relimited longest (length text) 0 text ts (λ _. omega arith) (λ _. omega arith) lexed; spelled = w }

  by_spells : (q : Query) → Spells text q → length text ≤ longest → (g.query deepest).is ts q
  by_spells q w h =
      let same : Lexes longest 0 text w.tokens = relimited (length text) longest 0 text w.tokens (λ _. omega arith) (λ _. omega arith) w.lexed in
      let P : List Token → Type 0 = λ s. (g.query deepest).is s q in
      subst P (lexes_one longest 0 text w.tokens ts same lexed) w.spelled

  by_wrong : (wider : Bool) (rest : List Token) → GoesWrong text wider rest → Fault wider (g.query deepest) ts rest
  by_wrong wider rest w = let P : List Token → Type 0 = λ s. Fault wider (g.query deepest) s rest in subst P (lexes_one longest 0 text w.tokens ts w.lexed lexed) w.fault

  by_over : (w : RunsOver text) → (g.query deepest).is ts w.tree
  by_over w = let P : List Token → Type 0 = λ s. (g.query deepest).is s w.tree in subst P (lexes_one longest 0 text w.tokens ts w.lexed lexed) w.spelled

  -- the tokens are a query
  module _ (q : Query) (w : (g.query deepest).is ts q) where
    pub runs_over : longest < length text → RunsOver text
    runs_over h = record { tokens = ts; tree = q; lexed = lexed; spelled = w; long = h }

    not_wrong : (wider : Bool) (rest : List Token) → GoesWrong text wider rest → ⊥
    not_wrong wider rest v = fault_refuses (g.query deepest) (query_sane deepest) wider ts rest q (by_wrong wider rest v) w

    pub only_query : ((other : Query) → (g.query deepest).is ts other → other ≡ q) → length text ≤ longest → (judged : Judged Query) → Says text judged → judged ≡ Ok q
    only_query one h (Ok x) (spelled, short) = ap Ok (one x (by_spells x spelled short))
    only_query one h (Err cause) (inl (place, inl (rest, wrong, e), f)) = absurd (not_wrong false rest wrong)
    only_query one h (Err cause) (inl (place, inr (over, e), f)) = absurd (let long : longest < length text = over.long in omega arith)
    only_query one h (Err cause) (inr (word, (t, rest, wrong, e), f)) = absurd (not_wrong true (t ∷ rest) wrong)

    pub only_over : longest < length text → (judged : Judged Query) → Says text judged → judged ≡ Err (causes.QueryText longest)
    only_over h (Ok x) (spelled, short) = absurd (omega arith)
    only_over h (Err cause) (inl (place, inl (rest, wrong, e), f)) = absurd (not_wrong false rest wrong)
    only_over h (Err cause) (inl (place, inr (over, e), f)) = ap Err (f ∙ ap causes.QueryText e)
    only_over h (Err cause) (inr (word, (t, rest, wrong, e), f)) = absurd (not_wrong true (t ∷ rest) wrong)

  -- they go wrong
  module _ (wider : Bool) (rest : List Token) (fault : Fault wider (g.query deepest) ts rest) where
    pub goes_wrong : GoesWrong text wider rest
    goes_wrong = record { tokens = ts; lexed = lexed; fault = fault }

    not_query : (q : Query) → (g.query deepest).is ts q → ⊥
    not_query q w = fault_refuses (g.query deepest) (query_sane deepest) wider ts rest q fault w

    one_wrong : (v : Bool) (left : List Token) → GoesWrong text v left → (left ≡ rest) × (v ≡ wider)
    one_wrong v left w = fault_is_one (g.query deepest) v wider ts left rest (by_wrong v left w) fault

  pub only_fault : (rest : List Token) → Fault false (g.query deepest) ts rest → (judged : Judged Query) → Says text judged → judged ≡ Err (causes.QueryText (min (offset (length text) rest) longest))
  only_fault rest fault (Ok x) (spelled, short) = absurd (not_query false rest fault x (by_spells x spelled short))
  only_fault rest fault (Err cause) (inl (place, inl (left, wrong, e), f)) =
      ap Err (f ∙ ap causes.QueryText (e ∙ ap (λ s. min (offset (length text) s) longest) (one_wrong false rest fault false left wrong).0))
  only_fault rest fault (Err cause) (inl (place, inr (over, e), f)) = absurd (not_query false rest fault over.tree (by_over over))
  only_fault rest fault (Err cause) (inr (word, (t, left, wrong, e), f)) = absurd (let same : true ≡ false = (one_wrong false rest fault true (t ∷ left) wrong).1 in cc)

  left_as : (word : List ℕ) (rest : List Token) (t : Token) (left : List Token) → t ∷ left ≡ rest → IsLeftWord word rest → word ≡ left_word t.kind
  left_as word rest t left e h = let P : List Token → Type 0 = IsLeftWord word in subst P (sym e) h

  pub only_left : (rest : List Token) → Fault true (g.query deepest) ts rest → (word : List ℕ) → IsLeftWord word rest → (judged : Judged Query) → Says text judged → judged ≡ Err (causes.QueryLeft word)
  only_left rest fault word h (Ok x) (spelled, short) = absurd (not_query true rest fault x (by_spells x spelled short))
  only_left rest fault word h (Err cause) (inl (place, inl (left, wrong, e), f)) = absurd (let same : false ≡ true = (one_wrong true rest fault false left wrong).1 in cc)
  only_left rest fault word h (Err cause) (inl (place, inr (over, e), f)) = absurd (not_query true rest fault over.tree (by_over over))
  only_left rest fault word h (Err cause) (inr (other, (t, left, wrong, e), f)) =
      ap Err (f ∙ ap causes.QueryLeft (e ∙ sym (left_as word rest t left (one_wrong true rest fault true (t ∷ left) wrong).0 h)))

  pub left_out : (rest : List Token) → Fault true (g.query deepest) ts rest → (word : List ℕ) → IsLeftWord word rest → LeftOut text word
  left_out [] fault word h = absurd fault.beyond
  left_out (t ∷ rest) fault word h = (t, rest, goes_wrong true (t ∷ rest) fault, h)

  -- what is answered where reading stopped
  pub stopped_refuses : (stop : Stop) (e : Fail) → IsWhole (g.query deepest) ts (Err stop) → IsRefusal (length text) stop e → Refuses text e
  stopped_refuses stops.Memory e fault h = let P : Fail → Type 0 = Refuses text in subst P (sym h) tt
  stopped_refuses (stops.At (halts.Here rest)) e fault h =
      let P : Fail → Type 0 = Refuses text in
      subst P (sym h) (inl (min (offset (length text) rest.now) longest, inl (rest.now, goes_wrong false rest.now fault, refl), refl))
  stopped_refuses (stops.At (halts.LeftOut rest)) e fault (inl h) = let P : Fail → Type 0 = Refuses text in subst P (sym h) tt
  stopped_refuses (stops.At (halts.LeftOut rest)) e fault (inr (word, left, h)) = let P : Fail → Type 0 = Refuses text in subst P (sym h) (inr (word, left_out rest.now fault word left, refl))

  pub stopped_meets : (stop : Stop) (e : Fail) → IsWhole (g.query deepest) ts (Err stop) → IsRefusal (length text) stop e → (judged : Judged Query) → Says text judged → Meets {X = Query} (λ q. q) (Err e) judged
  stopped_meets stops.Memory e fault h judged says = let P : Fail → Type 0 = λ f. Fails f judged in subst P (sym h) tt
  stopped_meets (stops.At (halts.Here rest)) e fault h judged says = let P : Fail → Type 0 = λ f. Fails f judged in subst P (sym h) (only_fault rest.now fault judged says)
  stopped_meets (stops.At (halts.LeftOut rest)) e fault (inl h) judged says = let P : Fail → Type 0 = λ f. Fails f judged in subst P (sym h) tt
  stopped_meets (stops.At (halts.LeftOut rest)) e fault (inr (word, left, h)) judged says = let P : Fail → Type 0 = λ f. Fails f judged in subst P (sym h) (only_left rest.now fault word left judged says)

  -- and where a query was read
  module _ (q : Query) (w : (g.query deepest).is ts q × ((other : Query) → (g.query deepest).is ts other → other ≡ q)) where
    pub long_refuses : longest < length text → (e : Fail) → e ≡ fails.Refused (causes.QueryText longest) → Refuses text e
    long_refuses h e f = let P : Fail → Type 0 = Refuses text in subst P (sym f) (inl (longest, inr (runs_over q w.0 h, refl), refl))

    pub long_meets : longest < length text → (e : Fail) → e ≡ fails.Refused (causes.QueryText longest) → (judged : Judged Query) → Says text judged → Meets {X = Query} (λ x. x) (Err e) judged
    long_meets h e f judged says = let P : Fail → Type 0 = λ z. Fails z judged in subst P (sym f) (only_over q w.0 h judged says)

    pub short_says : length text ≤ longest → Says text (Ok q)
    short_says h = (spells q w.0 h, h)

    pub short_meets : length text ≤ longest → (judged : Judged Query) → Says text judged → judged ≡ Ok q
    short_meets h judged says = only_query q w.0 w.1 h judged says
