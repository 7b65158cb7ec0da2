-- The relation and the reader's function are one.
use Rattle.std.proofs.Common.{◌≡◌, ℕ, ◌-◌, List, [], ◌∷◌, ◌++◌, length, take, refl, sym, ap, ◌∙◌, subst, arith, append_assoc, append-nil, length-append}
use Rattle.std.specs.Prelude.{All, Option, Some, None, option_map, unwrap_or}
use Rattle.std.proofs.lemmas.List.Elements.{All-nil, All-cons, All-head, All-tail}
use Rattle.std.proofs.Math.Seq.{take-append_seam}
use Rattle.form_parts.specs.declared.mark.Mark.TheVariants.{Plain, Open, Last}
use Rattle.form_parts.specs.Lines.{crlf, ended}
use Rattle.form_parts.specs.Marks.{mark_of}
use Rattle.form_parts.specs.Split.{Cut, Piece, Follow, IsSplit}
use Rattle.form_parts.specs.Reading.{lines_of, closed, inside, outside}
use Rattle.form_parts.proofs.Walks.{outside-plain, inside-plain}
use Rattle.form_parts.proofs.Texts.{lines-are, lines-only}

-- the text of lines, without the last line end
closed-text : (held : List (List ℕ)) (part : List ℕ) (parts : Option (List (List ℕ))) → ended held ≡ part ++ crlf → closed held parts ≡ option_map (λ ps. part ∷ ps) parts
closed-text [] [] parts e = absurd cc
closed-text [] (x ∷ part) parts e = absurd cc
closed-text (l ∷ ls) part parts e =
    let n : length (ended (l ∷ ls)) - 2 ≡ length part = (let k = length-append part crlf in let m : length (ended (l ∷ ls)) ≡ length (part ++ crlf) = ap length e in omega (arith, k, m)) in
    let same : take (length (ended (l ∷ ls)) - 2) (ended (l ∷ ls)) ≡ part = ap (λ k. take k (ended (l ∷ ls))) n ∙ ap (take (length part)) e ∙ take-append_seam part crlf in
    ap (λ p. option_map (λ ps. p ∷ ps) parts) same

-- lines of content before a delimiter
walk_in : (b : List ℕ) (held group rest : List (List ℕ)) → All (λ l. mark_of b l ≡ Plain) group → inside b held (group ++ rest) ≡ inside b (held ++ group) rest
walk_in b held [] rest plain = ap (λ h. inside b h rest) (sym (append-nil held))
walk_in b held (l ∷ group) rest plain =
    inside-plain b l held (group ++ rest) (All-head (λ l. mark_of b l ≡ Plain) l group plain)
    ∙ walk_in b (held ++ l ∷ []) group rest (All-tail (λ l. mark_of b l ≡ Plain) l group plain)
    ∙ ap (λ h. inside b h rest) (append_assoc held (l ∷ []) group)

walk_out : (b : List ℕ) (group rest : List (List ℕ)) → All (λ l. mark_of b l ≡ Plain) group → outside b (group ++ rest) ≡ outside b rest
walk_out b [] rest plain = refl
walk_out b (l ∷ group) rest plain =
    outside-plain b l (group ++ rest) (All-head (λ l. mark_of b l ≡ Plain) l group plain)
    ∙ walk_out b group rest (All-tail (λ l. mark_of b l ≡ Plain) l group plain)

inside-last : (b l : List ℕ) (held ls : List (List ℕ)) → mark_of b l ≡ Last → inside b held (l ∷ ls) ≡ closed held (Some [])
unfolding inside
inside-last b l held ls e = rw (e, inside) refl

inside-open : (b l : List ℕ) (held ls : List (List ℕ)) → mark_of b l ≡ Open → inside b held (l ∷ ls) ≡ closed held (inside b [] ls)
unfolding inside
inside-open b l held ls e = rw (e, inside) refl

outside-last : (b l : List ℕ) (ls : List (List ℕ)) → mark_of b l ≡ Last → outside b (l ∷ ls) ≡ Some []
unfolding outside
outside-last b l ls e = rw (e, outside) refl

outside-open : (b l : List ℕ) (ls : List (List ℕ)) → mark_of b l ≡ Open → outside b (l ∷ ls) ≡ inside b [] ls
unfolding outside
outside-open b l ls e = rw (e, outside) refl

-- what follows a delimiter is read
inside-reads : (b : List ℕ) (lines : List (List ℕ)) (part : List ℕ) (parts : List (List ℕ)) → Piece b lines part (λ next later. Follow b next later parts) → inside b [] lines ≡ Some (part ∷ parts)
inside-reads b lines part [] p =
    ap (inside b []) p.cut.same ∙ walk_in b [] p.group (p.line ∷ p.later) p.cut.content ∙ inside-last b p.line p.group p.later p.rest
    ∙ closed-text p.group part (Some []) p.text
inside-reads b lines part (next ∷ parts) p =
    ap (inside b []) p.cut.same ∙ walk_in b [] p.group (p.line ∷ p.later) p.cut.content ∙ inside-open b p.line p.group p.later p.rest.0
    ∙ closed-text p.group part (inside b [] p.later) p.text
    ∙ ap (option_map (λ ps. part ∷ ps)) (inside-reads b p.later next parts p.rest.1)

outside-reads : (b : List ℕ) (front : List (List ℕ)) (line : List ℕ) (later parts : List (List ℕ)) → All (λ l. mark_of b l ≡ Plain) front → Follow b (mark_of b line) later parts → outside b (front ++ (line ∷ later)) ≡ Some parts
outside-reads b front line later [] plain follow = walk_out b front (line ∷ later) plain ∙ outside-last b line later follow
outside-reads b front line later (part ∷ parts) plain follow =
    walk_out b front (line ∷ later) plain ∙ outside-open b line later follow.0 ∙ inside-reads b later part parts follow.1

-- the parts of a body are those that the reader's function gives
pub split-reads : (b body : List ℕ) (parts : List (List ℕ)) → IsSplit b body parts → outside b (lines_of body) ≡ Some parts
split-reads b body parts s =
    ap (outside b) (sym (lines-only body s.lines s.are.whole s.are.each) ∙ s.cut.same) ∙ outside-reads b s.front s.line s.later parts s.cut.content s.follow

some_same : {A : Type 0} {x y : A} → Some x ≡ Some y → x ≡ y
some_same {x = x} e = ap (λ o. unwrap_or o x) e

-- a body has one list of parts
pub split-one : (b body : List ℕ) (ps qs : List (List ℕ)) → IsSplit b body ps → IsSplit b body qs → ps ≡ qs
split-one b body ps qs p q = some_same (sym (split-reads b body ps p) ∙ split-reads b body qs q)

-- lines of which some are held: the next part, and what follows
pub record Held (b : List ℕ) (held lines : List (List ℕ)) (part : List ℕ) (parts : List (List ℕ)) : Type 0 where
  pub group : List (List ℕ)
  pub line : List ℕ
  pub later : List (List ℕ)
  pub cut : Cut b lines group line later
  pub text : ended (held ++ group) ≡ part ++ crlf
  pub rest : Follow b (mark_of b line) later parts

abbrev Holds : List ℕ → List (List ℕ) → List (List ℕ) → List (List ℕ) → Type 0
Holds b held lines [] = ⊥
Holds b held lines (part ∷ parts) = Held b held lines part parts

held_more : (b : List ℕ) (held : List (List ℕ)) (l : List ℕ) (lines parts : List (List ℕ)) → mark_of b l ≡ Plain → Holds b (held ++ l ∷ []) lines parts → Holds b held (l ∷ lines) parts
held_more b held l lines [] e h = h
held_more b held l lines (part ∷ parts) e h = record {
  group = l ∷ h.group;
  line = h.line;
  later = h.later;
  cut = record { same = ap (λ x. l ∷ x) h.cut.same; content = All-cons (λ l. mark_of b l ≡ Plain) l h.group e h.cut.content };
  text = ap ended (sym (append_assoc held (l ∷ []) h.group)) ∙ h.text;
  rest = h.rest;
}

follow_open : (b : List ℕ) (lines parts : List (List ℕ)) → Holds b [] lines parts → Follow b Open lines parts
follow_open b lines [] h = absurd h
follow_open b lines (part ∷ parts) h = (refl, record { group = h.group; line = h.line; later = h.later; cut = h.cut; text = h.text; rest = h.rest })

-- the text of held lines
record Text (held : List (List ℕ)) : Type 0 where
  pub text : List ℕ
  pub same : ended held ≡ text ++ crlf

held_text : (l : List ℕ) (ls : List (List ℕ)) → Text (l ∷ ls)
held_text l [] = record { text = l; same = refl }
held_text l (m ∷ ms) = let t = held_text m ms in record { text = l ++ (13 ∷ (10 ∷ t.text)); same = ap (λ x. l ++ (13 ∷ (10 ∷ x))) t.same ∙ sym (append_assoc l (13 ∷ (10 ∷ t.text)) crlf) }

-- a delimiter after held lines
held_end : (b : List ℕ) (held : List (List ℕ)) (line : List ℕ) (later parts : List (List ℕ)) (rest : Option (List (List ℕ))) → closed held rest ≡ Some parts
    → ((tail : List (List ℕ)) → rest ≡ Some tail → Follow b (mark_of b line) later tail) → Holds b held (line ∷ later) parts
held_end b [] line later parts rest e follow = absurd cc
held_end b (l ∷ ls) line later parts None e follow = absurd cc
held_end b (l ∷ ls) line later parts (Some tail) e follow =
    let t = held_text l ls in
    let is : parts ≡ t.text ∷ tail = some_same (sym e ∙ closed-text (l ∷ ls) t.text (Some tail) t.same) in
    subst (Holds b (l ∷ ls) (line ∷ later)) (sym is) (record {
      group = [];
      line = line;
      later = later;
      cut = record { same = refl; content = All-nil (λ l. mark_of b l ≡ Plain) };
      text = ap ended (append-nil (l ∷ ls)) ∙ t.same;
      rest = follow tail refl;
    })

inside-given : (b : List ℕ) (held lines parts : List (List ℕ)) → inside b held lines ≡ Some parts → Holds b held lines parts
unfolding inside
inside-given b held [] parts e = absurd cc
inside-given b held (l ∷ ls) parts e = elim (mark_of b l) as (λ m. (mark_of b l ≡ m) → Holds b held (l ∷ ls) parts) [
  | Plain ↦ λ is. held_more b held l ls parts is (inside-given b (held ++ l ∷ []) ls parts (sym (inside-plain b l held ls is) ∙ e))
  | Open ↦ λ is. held_end b held l ls parts (inside b [] ls) (sym (inside-open b l held ls is) ∙ e)
      (λ tail given. subst (λ m. Follow b m ls tail) (sym is) (follow_open b ls tail (inside-given b [] ls tail given)))
  | Last ↦ λ is. held_end b held l ls parts (Some []) (sym (inside-last b l held ls is) ∙ e)
      (λ tail given. subst (λ t. Follow b (mark_of b l) ls t) (some_same given) is)
] refl

-- a delimiter before the parts
pub record Fronted (b : List ℕ) (lines parts : List (List ℕ)) : Type 0 where
  pub front : List (List ℕ)
  pub line : List ℕ
  pub later : List (List ℕ)
  pub cut : Cut b lines front line later
  pub follow : Follow b (mark_of b line) later parts

outside-given : (b : List ℕ) (lines parts : List (List ℕ)) → outside b lines ≡ Some parts → Fronted b lines parts
unfolding outside
outside-given b [] parts e = absurd cc
outside-given b (l ∷ ls) parts e = elim (mark_of b l) as (λ m. (mark_of b l ≡ m) → Fronted b (l ∷ ls) parts) [
  | Plain ↦ λ is. let h = outside-given b ls parts (sym (outside-plain b l ls is) ∙ e) in record {
    front = l ∷ h.front;
    line = h.line;
    later = h.later;
    cut = record { same = ap (λ x. l ∷ x) h.cut.same; content = All-cons (λ l. mark_of b l ≡ Plain) l h.front is h.cut.content };
    follow = h.follow;
  }
  | Open ↦ λ is. record {
    front = [];
    line = l;
    later = ls;
    cut = record { same = refl; content = All-nil (λ l. mark_of b l ≡ Plain) };
    follow = subst (λ m. Follow b m ls parts) (sym is) (follow_open b ls parts (inside-given b [] ls parts (sym (outside-open b l ls is) ∙ e)));
  }
  | Last ↦ λ is. record {
    front = [];
    line = l;
    later = ls;
    cut = record { same = refl; content = All-nil (λ l. mark_of b l ≡ Plain) };
    follow = subst (λ t. Follow b (mark_of b l) ls t) (some_same (sym (outside-last b l ls is) ∙ e)) is;
  }
] refl

pub reads-split : (b body : List ℕ) (parts : List (List ℕ)) → outside b (lines_of body) ≡ Some parts → IsSplit b body parts
reads-split b body parts e = let h = outside-given b (lines_of body) parts e in record {
  lines = lines_of body;
  are = lines-are body;
  front = h.front;
  line = h.line;
  later = h.later;
  cut = h.cut;
  follow = h.follow;
}
