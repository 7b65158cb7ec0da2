-- Each rule of the grammar but those of conditions, printed again.
use Rattle.std.proofs.Common.{◌≡◌, ℕ, Bool, true, false, List, [], ◌∷◌, ◌++◌, map, Option, Some, None, refl, sym, ◌∙◌, ap, subst, if◌then◌else◌}
use Rattle.std.specs.List.{flat_map}
use Rattle.std.proofs.lemmas.Grind.{flat_map-append}
use Rattle.std.proofs.lemmas.List.{map-append, append-nil, append_assoc}
use Rattle.grammar_rules.specs.Rules.{Rule, Both, one, both, mapped}
use Rattle.ql_lex.specs.Words.{is_left_out}
use Rattle.ql_lex.specs.declared.word.Word.{Word}
use Rattle.ql_lex.specs.declared.word.Word.TheVariants as words
use Rattle.ql_lex.specs.declared.token.Kind.{Kind}
use Rattle.ql_lex.specs.declared.token.Kind.TheVariants as kinds
use Rattle.ql_lex.specs.declared.token.Token.{Token}
use Rattle.ql_tree.specs.Texts.{unescaped, escaped}
use Rattle.ql_tree.specs.Stripped.{without_place}
use Rattle.ql_tree.specs.Printed as p
use Rattle.ql_tree.specs.declared.tree.Timestamp.{Timestamp}
use Rattle.ql_grammar.specs.declared.parts.ItemRest.{ItemRest}
use Rattle.ql_grammar.specs.declared.parts.ItemRest.TheVariants as item_rests
use Rattle.ql_grammar.specs.declared.parts.TestRest.{TestRest}
use Rattle.ql_grammar.specs.declared.parts.TestRest.TheVariants as test_rests
use Rattle.ql_grammar.specs.declared.parts.Among.{Among}
use Rattle.ql_grammar.specs.declared.parts.Placed.{Placed}
use Rattle.ql_grammar.specs.Grammar as g
use Rattle.ql_grammar.proofs.Facts.{keyword_of}
use Rattle.ql_laws.proofs.Reprints as again
use Rattle.ql_laws.proofs.Escaping.{unescaped_escaped}
use Rattle.ql_laws.proofs.Written.{IsServed, IsWritten, word_written, escaped_written}

abbrev pub kind : Token → Kind
kind t = t.kind

-- the same tree
abbrev pub Same : {A : Type 0} → A → A → Type 0
Same y x = y ≡ x

-- the same but for what s takes away
abbrev pub Alike : {A B : Type 0} → (A → B) → A → A → Type 0
Alike s y x = s y ≡ s x

abbrev pub place_free : Timestamp → List ℕ
place_free time = time.text

-- what stands behind a column, but for offsets
abbrev pub stripped_rest : TestRest → TestRest
stripped_rest (test_rests.Compare by x) = test_rests.Compare by (without_place x)
stripped_rest (test_rests.In negated xs) = test_rests.In negated (map without_place xs)
stripped_rest (test_rests.Like negated text) = test_rests.Like negated text
stripped_rest (test_rests.Null negated) = test_rests.Null negated

abbrev pub stripped_among : Among → Among
stripped_among x = record { negated = x.negated; literals = map without_place x.literals }

abbrev pub rest_tokens : TestRest → List Kind
rest_tokens (test_rests.Compare by x) = p.word (p.comparison_word by) ++ p.literal_tokens x
rest_tokens (test_rests.In negated xs) = p.in_tokens negated xs
rest_tokens (test_rests.Like negated text) = p.negation negated ++ (p.word words.Like ++ (kinds.Quoted text ∷ []))
rest_tokens (test_rests.Null negated) = p.word words.Is ++ (p.negation negated ++ p.word words.Null)

abbrev pub item_rest_tokens : ItemRest → List Kind
item_rest_tokens item_rests.Star = p.word words.Dot ++ p.word words.Star
item_rest_tokens (item_rests.Dotted text alias) = p.word words.Dot ++ (p.name text ++ p.alias_tokens alias)
item_rest_tokens (item_rests.Alias alias) = p.word words.As ++ p.name alias

abbrev pub among_tokens : Among → List Kind
among_tokens x = p.in_tokens x.negated x.literals

abbrev pub placed_tokens : Placed → List Kind
placed_tokens x = p.place_tokens x.table x.text

pub two : {A B C : Type 0} (f : A → B → C) (x u : A) (y v : B) → u ≡ x → v ≡ y → f u v ≡ f x y
two f x u y v e d = ap (λ z. f z v) e ∙ ap (f x) d

name_kind : (k : Kind) (x : List ℕ) → g.name_in k ≡ Some x → k ≡ kinds.Name x
name_kind (kinds.Word w) x h = absurd cc
name_kind (kinds.Name text) x h = cc
name_kind (kinds.Quoted text) x h = absurd cc
name_kind (kinds.Number text) x h = absurd cc
name_kind (kinds.Decimal text) x h = absurd cc
name_kind kinds.Wrong x h = absurd cc

plain_name : (text x : List ℕ) (v : Bool) → is_left_out text ≡ v → (if is_left_out text then None else Some text) ≡ Some x → text ≡ x
plain_name text x true e h = absurd (let k : (if is_left_out text then None else Some text) ≡ None = rw e refl in cc)
plain_name text x false e h = let k : (if is_left_out text then None else Some text) ≡ Some text = rw e refl in cc

plain_kind : (k : Kind) (x : List ℕ) → g.plain_in k ≡ Some x → k ≡ kinds.Name x
plain_kind (kinds.Word w) x h = absurd cc
plain_kind (kinds.Name text) x h = ap kinds.Name (plain_name text x (is_left_out text) refl h)
plain_kind (kinds.Quoted text) x h = absurd cc
plain_kind (kinds.Number text) x h = absurd cc
plain_kind (kinds.Decimal text) x h = absurd cc
plain_kind kinds.Wrong x h = absurd cc

quoted_kind : (k : Kind) (x : List ℕ) → g.quoted_in k ≡ Some x → k ≡ kinds.Quoted x
quoted_kind (kinds.Word w) x h = absurd cc
quoted_kind (kinds.Name text) x h = absurd cc
quoted_kind (kinds.Quoted text) x h = cc
quoted_kind (kinds.Number text) x h = absurd cc
quoted_kind (kinds.Decimal text) x h = absurd cc
quoted_kind kinds.Wrong x h = absurd cc

number_kind : (k : Kind) (x : List ℕ) → g.number_in k ≡ Some x → k ≡ kinds.Number x
number_kind (kinds.Word w) x h = absurd cc
number_kind (kinds.Name text) x h = absurd cc
number_kind (kinds.Quoted text) x h = absurd cc
number_kind (kinds.Number text) x h = cc
number_kind (kinds.Decimal text) x h = absurd cc
number_kind kinds.Wrong x h = absurd cc

-- where a text with its offset is read
record Moment (k : Kind) (at : ℕ) (x : Timestamp) : Type 0 where
  pub raw : List ℕ
  pub is : k ≡ kinds.Quoted raw
  pub value : x ≡ record { text = unescaped false raw; at = at }

moment_kind : (k : Kind) (at : ℕ) (x : Timestamp) → g.moment_in k at ≡ Some x → Moment k at x
moment_kind (kinds.Word w) at x h = absurd cc
moment_kind (kinds.Name text) at x h = absurd cc
moment_kind (kinds.Quoted text) at x h = record { raw = text; is = refl; value = cc }
moment_kind (kinds.Number text) at x h = absurd cc
moment_kind (kinds.Decimal text) at x h = absurd cc
moment_kind kinds.Wrong at x h = absurd cc

abbrev pub Printed : {A : Type 0} → Rule Token A → List Kind → (A → A → Type 0) → A → Type 0
Printed = again.Printed kind IsServed IsWritten

abbrev pub Reprint : {A : Type 0} → Rule Token A → List Kind → (A → A → Type 0) → List Token → A → Type 0
Reprint = again.Reprint kind IsServed IsWritten

abbrev pub Prints : {A : Type 0} → Rule Token A → (A → List Kind) → (A → A → Type 0) → Type 0
Prints r f E = again.Prints kind IsServed IsWritten r r f E

abbrev pub Writable : List Token → Type 0
Writable = again.Written kind IsServed IsWritten

abbrev pub Sound : List Token → Type 0
Sound = again.Sound kind IsServed IsWritten

-- a keyword, whatever it stands for
pub printed_word : (w : Word) → Printed (g.keyword w) (p.word w) Same (tt {0})
printed_word w = again.printed_one kind IsServed IsWritten (λ t. g.word_in w t.kind) (kinds.Word w) Same (tt {0}) (word_written w) (λ u e. (tt {0}, ap (g.word_in w) e ∙ keyword_of w, refl))

word_served : (w : Word) (k : Kind) (x : Unit {0}) → g.word_in w k ≡ Some x → IsServed k
word_served w (kinds.Word v) x h = refl
word_served w (kinds.Name text) x h = absurd cc
word_served w (kinds.Quoted text) x h = absurd cc
word_served w (kinds.Number text) x h = absurd cc
word_served w (kinds.Decimal text) x h = absurd cc
word_served w kinds.Wrong x h = absurd cc

pub word_sound : (w : Word) (ts : List Token) (x : Unit {0}) → (g.keyword w).is ts x → Sound ts
word_sound w ts x h = subst Sound (sym h.text) (word_served w h.token.kind x h.value, tt)

pub printed_meaning : {A : Type 0} (w : Word) (x : A) (E : A → A → Type 0) → E x x → Printed (g.meaning w x) (p.word w) E x
printed_meaning w x E r = again.printed_mapped kind IsServed IsWritten (g.keyword w) (λ _. x) (p.word w) Same E (tt {0}) (λ y e. r) (printed_word w)

pub meaning_prints : {A : Type 0} (w : Word) (x : A) (f : A → List Kind) (E : A → A → Type 0) → f x ≡ p.word w → E x x → Prints (g.meaning w x) f E
meaning_prints w x f E same r ts z m = (
  word_sound w ts m.x m.inside,
  λ each. subst (λ v. Printed (g.meaning w x) (f v) E v) (sym m.value) (again.printed_as kind IsServed IsWritten (g.meaning w x) (p.word w) (f x) E x same (printed_meaning w x E r)),
)

-- a token by its kind
kind_prints : {A : Type 0} (test : Kind → Option A) (f : A → Kind) → ((x : A) → IsServed (f x)) → ((k : Kind) (x : A) → test k ≡ Some x → k ≡ f x) → Prints (one (λ (t : Token). test t.kind)) (λ x. f x ∷ []) Same
kind_prints test f served h ts x w =
    let is : w.token.kind ≡ f x = h w.token.kind x w.value in (
      subst Sound (sym w.text) (subst IsServed (sym is) (served x), tt),
      λ each. again.printed_one kind IsServed IsWritten (λ t. test t.kind) (f x) Same x (subst IsWritten is (subst Writable w.text each).0) (λ u e. (x, ap test (e ∙ sym is) ∙ w.value, refl)),
    )

pub name_prints : Prints g.name p.name Same
name_prints = kind_prints g.name_in kinds.Name (λ x. refl) name_kind

pub plain_prints : Prints g.plain_name p.name Same
plain_prints = kind_prints g.plain_in kinds.Name (λ x. refl) plain_kind

pub pattern_prints : Prints g.pattern (λ x. kinds.Quoted x ∷ []) Same
pattern_prints = kind_prints g.quoted_in kinds.Quoted (λ x. refl) quoted_kind

pub number_prints : Prints g.number (λ x. kinds.Number x ∷ []) Same
number_prints = kind_prints g.number_in kinds.Number (λ x. refl) number_kind

-- a text as it is written
printed_quoted : (text : List ℕ) → Printed g.quoted (p.quoted text) Same text
printed_quoted text =
    let below : Printed g.pattern (kinds.Quoted (escaped text) ∷ []) Same (escaped text) =
    again.printed_one kind IsServed IsWritten (λ t. g.quoted_in t.kind) (kinds.Quoted (escaped text)) Same (escaped text) (escaped_written text) (λ u e. (escaped text, ap g.quoted_in e, refl)) in
    subst (λ v. Printed g.quoted (kinds.Quoted (escaped text) ∷ []) Same v) (unescaped_escaped text)
    (again.printed_mapped kind IsServed IsWritten g.pattern (unescaped false) (kinds.Quoted (escaped text) ∷ []) Same Same (escaped text) (λ y e. ap (unescaped false) e) below)

pub quoted_prints : Prints g.quoted p.quoted Same
quoted_prints ts x w = ((pattern_prints ts w.x w.inside).0, λ each. printed_quoted x)

-- a text with its offset
pub moment_prints : Prints g.moment (λ x. p.quoted x.text) (Alike place_free)
moment_prints ts x w =
    let m : Moment w.token.kind w.token.at x = moment_kind w.token.kind w.token.at x w.value in (
      subst Sound (sym w.text) (subst IsServed (sym m.is) refl, tt),
      λ each. again.printed_one kind IsServed IsWritten (λ t. g.moment_in t.kind t.at) (kinds.Quoted (escaped x.text)) (Alike place_free) x (escaped_written x.text)
          (λ u e. (record { text = unescaped false (escaped x.text); at = u.at }, ap (λ k. g.moment_in k u.at) e, unescaped_escaped x.text)),
    )

-- a keyword before a part
pub after_word : {A : Type 0} (w : Word) (b : Rule Token A) (pb pc : A → List Kind) (E : A → A → Type 0) → ((x : A) → pc x ≡ p.word w ++ pb x) → Prints b pb E → Prints (both (g.keyword w) b g.second) pc E
after_word w b pb pc E same q ts z h = (
  again.sound_append kind IsServed IsWritten ts h.us h.vs h.text (word_sound w h.us h.x h.left) (q h.vs h.y h.right).0,
  λ each. subst (λ v. Printed (both (g.keyword w) b g.second) (pc v) E v) (sym h.value)
      (again.printed_as kind IsServed IsWritten (both (g.keyword w) b g.second) (p.word w ++ pb h.y) (pc h.y) E h.y (same h.y)
      (again.printed_both kind IsServed IsWritten (g.keyword w) b g.second (p.word w) (pb h.y) Same E E (tt {0}) h.y (λ u v e d. d) (printed_word w)
      ((q h.vs h.y h.right).1 (again.written_rest kind IsServed IsWritten ts h.us h.vs h.text each)))),
)

pub printed_group : {A : Type 0} (part : Rule Token A) (ks : List Kind) (E : A → A → Type 0) (x : A) → Printed part ks E x → Printed (g.group part) (p.group ks) E x
printed_group part ks E x q =
    again.printed_both kind IsServed IsWritten (g.keyword words.Open) (g.closed part) g.second (p.word words.Open) (ks ++ p.word words.Close) Same E E (tt {0}) x (λ u v e d. d) (printed_word words.Open)
    (again.printed_both kind IsServed IsWritten part (g.keyword words.Close) g.first ks (p.word words.Close) E Same E x (tt {0}) (λ u v e d. e) q (printed_word words.Close))

-- the tokens of a part in parentheses, and those inside
pub group_keeps : {A : Type 0} (part : Rule Token A) (Q : A → Type 0)
    → ((ts : List Token) (x : A) → part.is ts x → Sound ts × (Writable ts → Q x)) → (ts : List Token) (x : A) → (g.group part).is ts x → Sound ts × (Writable ts → Q x)
group_keeps part Q q ts z h =
    let inner : Both part.is (g.keyword words.Close).is g.first h.vs h.y = h.right in (
      again.sound_append kind IsServed IsWritten ts h.us h.vs h.text (word_sound words.Open h.us h.x h.left)
          (again.sound_append kind IsServed IsWritten h.vs inner.us inner.vs inner.text (q inner.us inner.x inner.left).0 (word_sound words.Close inner.vs inner.y inner.right)),
      λ each. subst Q (sym (h.value ∙ inner.value))
          ((q inner.us inner.x inner.left).1 (again.written_front kind IsServed IsWritten h.vs inner.us inner.vs inner.text (again.written_rest kind IsServed IsWritten ts h.us h.vs h.text each))),
    )

pub group_prints : {A : Type 0} (part : Rule Token A) (f : A → List Kind) (E : A → A → Type 0) → Prints part f E → Prints (g.group part) (λ x. p.group (f x)) E
group_prints part f E q = group_keeps part (λ x. Printed (g.group part) (p.group (f x)) E x) (λ ts x w. ((q ts x w).0, λ each. printed_group part (f x) E x ((q ts x w).1 each)))

-- part {, part}
module _ {A B : Type 0} (part : Rule Token A) (f : A → List Kind) (s : A → B) (q : Prints part f (Alike s)) where
  -- the list is printed, and isn't empty
  record Listed (xs : List A) : Type 0 where
    pub printed : Printed (g.list_of part) (p.separated f xs) (Alike (map s)) xs
    pub head : A
    pub tail : List A
    pub some : xs ≡ head ∷ tail

  listed_one : (us : List Token) (xs : List A) → (mapped part g.alone).is us xs → Sound us × (Writable us → Listed xs)
  listed_one us xs w = (
    (q us w.x w.inside).0,
    λ each.
        let alone : Printed (mapped part g.alone) (f w.x) (Alike (map s)) (w.x ∷ []) =
        again.printed_mapped kind IsServed IsWritten part g.alone (f w.x) (Alike s) (Alike (map s)) w.x (λ y e. ap g.alone e) ((q us w.x w.inside).1 each) in
        let first : Printed (g.list_of part) (f w.x) (Alike (map s)) (w.x ∷ []) =
        again.printed_first kind IsServed IsWritten (mapped part g.alone) (g.comma_then part) g.append (f w.x) (Alike (map s)) (w.x ∷ []) alone in
        record {
          printed = subst (λ v. Printed (g.list_of part) (p.separated f v) (Alike (map s)) v) (sym w.value)
              (again.printed_as kind IsServed IsWritten (g.list_of part) (f w.x) (f w.x ++ []) (Alike (map s)) (w.x ∷ []) (append-nil (f w.x)) first);
          head = w.x;
          tail = [];
          some = w.value;
        },
  )

  separated_more : (x : A) (xs : List A) (y : A) → p.separated f ((x ∷ xs) ++ y ∷ []) ≡ p.separated f (x ∷ xs) ++ (p.word words.Comma ++ f y)
  separated_more x xs y =
      ap (λ r. f x ++ r) (flat_map-append (λ z. p.word words.Comma ++ f z) xs (y ∷ []) ∙ ap (λ r. flat_map (λ z. p.word words.Comma ++ f z) xs ++ r) (append-nil (p.word words.Comma ++ f y)))
      ∙ sym (append_assoc (f x) (flat_map (λ z. p.word words.Comma ++ f z) xs) (p.word words.Comma ++ f y))

  longer : (xs : List A) (head : A) (tail : List A) (y : A) → xs ≡ head ∷ tail → p.separated f (xs ++ y ∷ []) ≡ p.separated f xs ++ (p.word words.Comma ++ f y)
  longer xs head tail y e = subst (λ v. p.separated f (v ++ y ∷ []) ≡ p.separated f v ++ (p.word words.Comma ++ f y)) (sym e) (separated_more head tail y)

  listed_more : (us : List Token) (y : A) → (g.comma_then part).is us y → Sound us × (Writable us → (xs : List A) → Listed xs → Listed (g.append xs y))
  listed_more us y w =
      let right : Reprint (g.comma_then part) (p.word words.Comma ++ f y) (Alike s) us y = after_word words.Comma part f (λ x. p.word words.Comma ++ f x) (Alike s) (λ x. refl) q us y w in (
        right.0,
        λ each xs l. record {
          printed = again.printed_as kind IsServed IsWritten (g.list_of part) (p.separated f xs ++ (p.word words.Comma ++ f y)) (p.separated f (g.append xs y)) (Alike (map s)) (g.append xs y)
              (longer xs l.head l.tail y l.some)
              (again.printed_longer kind IsServed IsWritten (mapped part g.alone) (g.comma_then part) g.append (p.separated f xs) (p.word words.Comma ++ f y) (Alike (map s)) (Alike s) xs y
              (λ us v e d. map-append s us (v ∷ []) ∙ two (λ c r. c ++ r ∷ []) (map s xs) (map s us) (s y) (s v) e d ∙ sym (map-append s xs (y ∷ []))) l.printed (right.1 each));
          head = l.head;
          tail = l.tail ++ y ∷ [];
          some = ap (λ v. v ++ y ∷ []) l.some;
        },
      )

  listed : (ts : List Token) (xs : List A) → (g.list_of part).is ts xs → Sound ts × (Writable ts → Listed xs)
  listed = again.chain_keeps kind IsServed IsWritten (mapped part g.alone).is (g.comma_then part).is g.append Listed listed_one listed_more

  pub list_prints : Prints (g.list_of part) (p.separated f) (Alike (map s))
  list_prints ts xs w = ((listed ts xs w).0, λ each. ((listed ts xs w).1 each).printed)
