-- Queries, printed again.
use Rattle.std.proofs.Common.{◌≡◌, ℕ, zero, suc, Bool, true, false, List, [], ◌∷◌, ◌++◌, map, None, inl, inr, refl, sym, ◌∙◌, ap, subst}
use Rattle.std.proofs.lemmas.List.{append-nil, append_assoc}
use Rattle.grammar_rules.specs.Rules.{Rule, More, mapped}
use Rattle.ql_lex.specs.declared.word.Word.TheVariants as words
use Rattle.ql_lex.specs.declared.token.Kind.{Kind}
use Rattle.ql_lex.specs.declared.token.Token.{Token}
use Rattle.ql_tree.specs.Stripped.{stripped, stripped_cond}
use Rattle.ql_tree.specs.Printed as p
use Rattle.ql_tree.specs.Printed.{shape, placed}
use Rattle.ql_tree.specs.declared.tree.Cond.{Cond}
use Rattle.ql_tree.specs.declared.tree.Item.{Item}
use Rattle.ql_tree.specs.declared.tree.Selection.TheVariants as selections
use Rattle.ql_tree.specs.declared.tree.Table.{Table}
use Rattle.ql_tree.specs.declared.tree.Key.{Key}
use Rattle.ql_tree.specs.declared.tree.Query.{Query}
use Rattle.ql_grammar.specs.declared.parts.ItemRest.{ItemRest}
use Rattle.ql_grammar.specs.declared.parts.ItemRest.TheVariants as item_rests
use Rattle.ql_grammar.specs.Grammar as g
use Rattle.ql_laws.proofs.Reprints as again
use Rattle.ql_laws.proofs.Written.{IsServed, IsWritten}
use Rattle.ql_laws.proofs.Parts.{kind, Same, Alike, two, item_rest_tokens, Printed, Reprint, Prints, Writable, Sound, printed_word, word_sound, meaning_prints, name_prints, plain_prints, after_word, list_prints}
use Rattle.ql_laws.proofs.Rules.{column_prints}
use Rattle.ql_laws.proofs.Conditions.{condition_prints}

-- an alias is printed with AS
abbrev as_tokens : List ℕ → List Kind
as_tokens text = p.word words.As ++ p.name text

as_name_prints : Prints g.as_name as_tokens Same
as_name_prints = after_word words.As g.name p.name as_tokens Same (λ x. refl) name_prints

printed_as_name : (text : List ℕ) → Printed g.name (p.name text) Same text → Printed g.as_name (as_tokens text) Same text
printed_as_name text q = again.printed_both kind IsServed IsWritten (g.keyword words.As) g.name g.second (p.word words.As) (p.name text) Same Same Same (tt {0}) text (λ u v e d. d) (printed_word words.As) q

alias_prints : Prints g.alias as_tokens Same
alias_prints ts x w = elim w [
  | inl h ↦ ((as_name_prints ts x h).0, λ each. again.printed_left kind IsServed IsWritten g.as_name g.name (as_tokens x) Same x ((as_name_prints ts x h).1 each))
  | inr h ↦ ((name_prints ts x h).0, λ each. again.printed_left kind IsServed IsWritten g.as_name g.name (as_tokens x) Same x (printed_as_name x ((name_prints ts x h).1 each)))
]

-- what stands behind the point of an item
abbrev behind_tokens : ItemRest → List Kind
behind_tokens item_rests.Star = p.word words.Star
behind_tokens (item_rests.Dotted text alias) = p.name text ++ p.alias_tokens alias
behind_tokens (item_rests.Alias alias) = []

abbrev Unaliased : ItemRest → Type 0
Unaliased x = (text : List ℕ) × (x ≡ g.unaliased text)

dotted_more : (x : ItemRest) (alias : List ℕ) → Unaliased x → behind_tokens (g.aliased x alias) ≡ behind_tokens x ++ as_tokens alias
dotted_more x alias b = subst (λ v. behind_tokens (g.aliased v alias) ≡ behind_tokens v ++ as_tokens alias) (sym b.1) refl

dotted_prints : Prints g.dotted behind_tokens Same
dotted_prints = again.perhaps_prints kind IsServed IsWritten (mapped g.name g.unaliased) g.alias g.aliased behind_tokens as_tokens Same Same Unaliased
    (λ ts x w. (w.x, w.value)) dotted_more (λ x y u v e d. two g.aliased x u y v e d)
    (again.mapped_prints kind IsServed IsWritten g.name g.unaliased p.name behind_tokens Same Same (λ x. refl) (λ x y e. ap g.unaliased e) name_prints)
    alias_prints

behind_dot_prints : Prints g.behind_dot behind_tokens Same
behind_dot_prints = again.choice_prints kind IsServed IsWritten (g.meaning words.Star item_rests.Star) g.dotted behind_tokens Same (meaning_prints words.Star item_rests.Star behind_tokens Same refl refl) dotted_prints

-- a point and what stands behind it
behind_point : (ts : List Token) (x : ItemRest) → g.behind_dot.is ts x → item_rest_tokens x ≡ p.word words.Dot ++ behind_tokens x
behind_point ts x (inl w) = subst (λ v. item_rest_tokens v ≡ p.word words.Dot ++ behind_tokens v) (sym w.value) refl
behind_point ts x (inr (inl w)) = subst (λ v. item_rest_tokens v ≡ p.word words.Dot ++ behind_tokens v) (sym w.value) refl
behind_point ts x (inr (inr w)) =
    subst (λ v. item_rest_tokens v ≡ p.word words.Dot ++ behind_tokens v) (sym (w.value ∙ ap (λ z. g.aliased z w.y) w.left.value)) refl

dot_rest_prints : Prints g.dot_rest item_rest_tokens Same
dot_rest_prints ts z w =
    let below : Reprint g.dot_rest (p.word words.Dot ++ behind_tokens z) Same ts z = after_word words.Dot g.behind_dot behind_tokens (λ x. p.word words.Dot ++ behind_tokens x) Same (λ x. refl) behind_dot_prints ts z w in
    let same : item_rest_tokens z ≡ p.word words.Dot ++ behind_tokens z = subst (λ v. item_rest_tokens v ≡ p.word words.Dot ++ behind_tokens v) (sym w.value) (behind_point w.vs w.y w.right) in
    (below.0, λ each. again.printed_as kind IsServed IsWritten g.dot_rest (p.word words.Dot ++ behind_tokens z) (item_rest_tokens z) Same z same (below.1 each))

item_rest_prints : Prints g.item_rest item_rest_tokens Same
item_rest_prints = again.choice_prints kind IsServed IsWritten g.dot_rest (mapped g.alias item_rests.Alias) item_rest_tokens Same dot_rest_prints
    (again.mapped_prints kind IsServed IsWritten g.alias item_rests.Alias as_tokens item_rest_tokens Same Same (λ x. refl) (λ x y e. ap item_rests.Alias e) alias_prints)

abbrev BareItem : Item → Type 0
BareItem x = (text : List ℕ) × (x ≡ g.bare_item text)

rest_more : (text : List ℕ) (rest : ItemRest) → p.item_tokens (g.item_by text rest) ≡ p.name text ++ item_rest_tokens rest
rest_more text item_rests.Star = refl
rest_more text (item_rests.Dotted column alias) = refl
rest_more text (item_rests.Alias alias) = refl

item_more : (x : Item) (rest : ItemRest) → BareItem x → p.item_tokens (g.with_rest x rest) ≡ p.item_tokens x ++ item_rest_tokens rest
item_more x rest b = subst (λ v. p.item_tokens (g.with_rest v rest) ≡ p.item_tokens v ++ item_rest_tokens rest) (sym b.1) (rest_more b.0 rest)

item_prints : Prints g.item p.item_tokens Same
item_prints = again.stands_prints kind IsServed IsWritten g.served_item g.left_out p.item_tokens Same
    (again.perhaps_prints kind IsServed IsWritten (mapped g.plain_name g.bare_item) g.item_rest g.with_rest p.item_tokens item_rest_tokens Same Same BareItem
    (λ ts x w. (w.x, w.value)) item_more (λ x y u v e d. two g.with_rest x u y v e d)
    (again.mapped_prints kind IsServed IsWritten g.plain_name g.bare_item p.name p.item_tokens Same Same (λ x. refl) (λ x y e. ap g.bare_item e) plain_prints)
    item_rest_prints)

-- equal lists, one by one
same_map : {A : Type 0} (ys xs : List A) → map (λ x. x) ys ≡ map (λ x. x) xs → ys ≡ xs
same_map ys xs e = sym (identity ys) ∙ e ∙ identity xs
  where
    identity : {A : Type 0} (zs : List A) → map (λ x. x) zs ≡ zs
    identity [] = refl
    identity (z ∷ zs) = ap (λ r. z ∷ r) (identity zs)

selection_prints : Prints g.selection p.selection_tokens Same
selection_prints = again.choice_prints kind IsServed IsWritten (g.meaning words.Star selections.All) (mapped (g.list_of g.item) selections.Columns) p.selection_tokens Same
    (meaning_prints words.Star selections.All p.selection_tokens Same refl refl)
    (again.mapped_prints kind IsServed IsWritten (g.list_of g.item) selections.Columns (p.separated p.item_tokens) p.selection_tokens (Alike (map (λ x. x))) Same (λ x. refl) (λ x y e. ap selections.Columns (same_map y x e))
    (list_prints g.item p.item_tokens (λ x. x) item_prints))

abbrev BareTable : Table → Type 0
BareTable x = (text : List ℕ) × (x ≡ g.bare_table text)

table_more : (x : Table) (alias : List ℕ) → BareTable x → p.table_tokens (g.with_alias x alias) ≡ p.table_tokens x ++ as_tokens alias
table_more x alias b = subst (λ v. p.table_tokens (g.with_alias v alias) ≡ p.table_tokens v ++ as_tokens alias) (sym b.1) refl

table_prints : Prints g.table p.table_tokens Same
table_prints = again.stands_prints kind IsServed IsWritten g.served_table g.left_out p.table_tokens Same
    (again.perhaps_prints kind IsServed IsWritten (mapped g.plain_name g.bare_table) g.alias g.with_alias p.table_tokens as_tokens Same Same BareTable
    (λ ts x w. (w.x, w.value)) table_more (λ x y u v e d. two g.with_alias x u y v e d)
    (again.mapped_prints kind IsServed IsWritten g.plain_name g.bare_table p.name p.table_tokens Same Same (λ x. refl) (λ x y e. ap g.bare_table e) plain_prints)
    alias_prints)

-- ASC isn't printed
abbrev direction_tokens : Bool → List Kind
direction_tokens true = p.word words.Desc
direction_tokens false = []

column_key : (ts : List Token) (x : Key) → (mapped g.column g.ascending).is ts x → Reprint (mapped g.column g.ascending) (p.column_tokens x.column) Same ts x
column_key ts x w = again.mapped_prints kind IsServed IsWritten g.column g.ascending p.column_tokens (λ k. p.column_tokens k.column) Same Same (λ c. refl) (λ c d e. ap g.ascending e) column_prints ts x w

key_alone : (ts : List Token) (x : Key) → (mapped g.column g.ascending).is ts x → Writable ts → Printed g.key (p.key_tokens x) Same x
key_alone ts x w each =
    let same : p.key_tokens x ≡ p.column_tokens x.column = subst (λ v. p.key_tokens v ≡ p.column_tokens v.column) (sym w.value) (append-nil (p.column_tokens w.x)) in
    again.printed_as kind IsServed IsWritten g.key (p.column_tokens x.column) (p.key_tokens x) Same x same
    (again.printed_none kind IsServed IsWritten (mapped g.column g.ascending) g.direction g.ordered (p.column_tokens x.column) Same x ((column_key ts x w).1 each))

key_ordered : (ts : List Token) (x : Key) (descending : Bool) → (mapped g.column g.ascending).is ts x → Writable ts → Printed g.key (p.key_tokens (g.ordered x descending)) Same (g.ordered x descending)
key_ordered ts x true w each =
    again.printed_some kind IsServed IsWritten (mapped g.column g.ascending) g.direction g.ordered (p.key_tokens (g.ordered x true)) Same (g.ordered x true)
    (again.printed_both kind IsServed IsWritten (mapped g.column g.ascending) g.direction g.ordered (p.column_tokens x.column) (p.word words.Desc) Same Same Same x true (λ u v e d. two g.ordered x u true v e d)
    ((column_key ts x w).1 each) desc)
  where
    desc : Printed g.direction (p.word words.Desc) Same true
    desc = again.printed_right kind IsServed IsWritten (g.meaning words.Asc false) (g.meaning words.Desc true) (p.word words.Desc) Same true
        (again.printed_mapped kind IsServed IsWritten (g.keyword words.Desc) (λ _. true) (p.word words.Desc) Same Same (tt {0}) (λ y e. refl) (printed_word words.Desc))
key_ordered ts x false w each =
    let same : g.ordered x false ≡ x = subst (λ v. g.ordered v false ≡ v) (sym w.value) refl in
    subst (λ v. Printed g.key (p.key_tokens v) Same v) (sym same) (key_alone ts x w each)

direction_sound : (ts : List Token) (x : Bool) → g.direction.is ts x → Sound ts
direction_sound ts x (inl w) = word_sound words.Asc ts w.x w.inside
direction_sound ts x (inr w) = word_sound words.Desc ts w.x w.inside

key_prints : Prints g.key p.key_tokens Same
key_prints ts z w = elim w [
  | inl h ↦ ((column_key ts z h).0, λ each. key_alone ts z h each)
  | inr h ↦ (
    again.sound_append kind IsServed IsWritten ts h.us h.vs h.text (column_key h.us h.x h.left).0 (direction_sound h.vs h.y h.right),
    λ each. subst (λ v. Printed g.key (p.key_tokens v) Same v) (sym h.value) (key_ordered h.us h.x h.y h.left (again.written_front kind IsServed IsWritten ts h.us h.vs h.text each)),
  )
]

-- a list has a first item
abbrev Some_of : {A : Type 0} → List A → Type 0
Some_of {A} xs = (x : A) × (rest : List A) × (xs ≡ x ∷ rest)

module _ {A : Type 0} (part : Rule Token A) where
  more_some : (n : ℕ) (xs zs : List A) (ts : List Token) → More (g.comma_then part).is g.append n xs ts zs → Some_of xs → Some_of zs
  more_some zero xs zs ts w s = subst Some_of (sym w.1) s
  more_some (suc n) xs zs ts (us, vs, y, first, more, e) s = more_some n (g.append xs y) zs vs more (s.0, s.1 ++ y ∷ [], ap (λ r. r ++ y ∷ []) s.2)

  list_some : (ts : List Token) (xs : List A) → (g.list_of part).is ts xs → Some_of xs
  list_some ts xs w = more_some w.count w.x xs w.vs w.more (w.left.x, [], w.left.value)

abbrev keys_tokens : List Key → List Kind
keys_tokens keys = p.word words.Order ++ (p.word words.By ++ p.separated p.key_tokens keys)

keys_prints : Prints (g.list_of g.key) (p.separated p.key_tokens) Same
keys_prints ts x w =
    let below : Reprint (g.list_of g.key) (p.separated p.key_tokens x) (Alike (map (λ z. z))) ts x = list_prints g.key p.key_tokens (λ z. z) key_prints ts x w in (
      below.0,
      λ each. record {
        writable = (below.1 each).writable;
        again = λ us e. let found : (y : List Key) × (g.list_of g.key).is us y × (map (λ z. z) y ≡ map (λ z. z) x) = (below.1 each).again us e in (found.0, found.1, same_map found.0 x found.2);
      },
    )

by_keys_prints : Prints g.by_keys (λ keys. p.word words.By ++ p.separated p.key_tokens keys) Same
by_keys_prints = after_word words.By (g.list_of g.key) (p.separated p.key_tokens) (λ keys. p.word words.By ++ p.separated p.key_tokens keys) Same (λ x. refl) keys_prints

ordered_by : (xs : List Key) → Some_of xs → p.order_tokens xs ≡ keys_tokens xs
ordered_by xs s = subst (λ v. p.order_tokens v ≡ keys_tokens v) (sym s.2) refl

order_prints : Prints g.order p.order_tokens Same
order_prints ts z w =
    let below : Reprint g.order (keys_tokens z) Same ts z = after_word words.Order g.by_keys (λ keys. p.word words.By ++ p.separated p.key_tokens keys) keys_tokens Same (λ x. refl) by_keys_prints ts z w in
    let some : Some_of z = subst Some_of (sym (w.value ∙ w.right.value)) (list_some g.key w.right.vs w.right.y w.right.right) in
    (below.0, λ each. again.printed_as kind IsServed IsWritten g.order (keys_tokens z) (p.order_tokens z) Same z (ordered_by z some) (below.1 each))

-- SELECT list FROM table
abbrev columns_tokens : Query → List Kind
columns_tokens q = p.selection_tokens q.list ++ (p.word words.From ++ p.table_tokens q.table)

abbrev base_tokens : Query → List Kind
base_tokens q = p.word words.Select ++ columns_tokens q

columns_of_prints : Prints g.columns_of columns_tokens Same
columns_of_prints = again.both_prints kind IsServed IsWritten g.selection g.source g.all_rows p.selection_tokens (λ table. p.word words.From ++ p.table_tokens table) columns_tokens Same Same Same
    (λ x y. refl) (λ x y u v e d. two g.all_rows x u y v e d) selection_prints (after_word words.From g.table p.table_tokens (λ table. p.word words.From ++ p.table_tokens table) Same (λ x. refl) table_prints)

select_prints : Prints g.select base_tokens Same
select_prints = after_word words.Select g.columns_of columns_tokens base_tokens Same (λ x. refl) columns_of_prints

-- nothing is said of a filter or an order
record IsPlain (q : Query) : Type 0 where
  pub no_filter : q.filter ≡ None
  pub no_keys : q.keys ≡ []

select_plain : (ts : List Token) (q : Query) → g.select.is ts q → IsPlain q
select_plain ts q w = subst IsPlain (sym (w.value ∙ w.right.value)) (record { no_filter = refl; no_keys = refl })

abbrev chosen_tokens : Query → List Kind
chosen_tokens q = base_tokens q ++ p.filter_tokens q.filter

plain_chosen : (q : Query) → IsPlain q → chosen_tokens q ≡ base_tokens q
plain_chosen q h = ap (λ f. base_tokens q ++ p.filter_tokens f) h.no_filter ∙ append-nil (base_tokens q)

select_chosen : Prints g.select chosen_tokens (Alike stripped)
select_chosen ts x w =
    let below : Reprint g.select (base_tokens x) Same ts x = select_prints ts x w in (
      below.0,
      λ each. again.printed_as kind IsServed IsWritten g.select (base_tokens x) (chosen_tokens x) (Alike stripped) x (plain_chosen x (select_plain ts x w)) (record {
        writable = (below.1 each).writable;
        again = λ us e. let found : (y : Query) × g.select.is us y × (y ≡ x) = (below.1 each).again us e in (found.0, found.1, ap stripped found.2);
      }),
    )

abbrev where_tokens : Cond → List Kind
where_tokens x = p.word words.Where ++ placed 0 (shape x)

filtered_more : (q : Query) (x : Cond) → IsPlain q → chosen_tokens (g.filtered q x) ≡ chosen_tokens q ++ where_tokens x
filtered_more q x h = ap (λ s. s ++ where_tokens x) (sym (plain_chosen q h))

filtered_alike : (q : Query) (x : Cond) (r : Query) (y : Cond) → stripped r ≡ stripped q → stripped_cond y ≡ stripped_cond x → stripped (g.filtered r y) ≡ stripped (g.filtered q x)
filtered_alike q x r y e d = two g.filtered (stripped q) (stripped r) (stripped_cond x) (stripped_cond y) e d

filter_prints : (d : ℕ) → Prints (g.filter d) where_tokens (Alike stripped_cond)
filter_prints d = after_word words.Where (g.cond d) (λ x. placed 0 (shape x)) where_tokens (Alike stripped_cond) (λ x. refl) (condition_prints d)

chosen_prints : (d : ℕ) → Prints (g.chosen d) chosen_tokens (Alike stripped)
chosen_prints d = again.perhaps_prints kind IsServed IsWritten g.select (g.filter d) g.filtered chosen_tokens where_tokens (Alike stripped) (Alike stripped_cond) IsPlain
    select_plain filtered_more filtered_alike select_chosen (filter_prints d)

chosen_no_keys : (d : ℕ) (ts : List Token) (q : Query) → (g.chosen d).is ts q → q.keys ≡ []
chosen_no_keys d ts q (inl w) = (select_plain ts q w).no_keys
chosen_no_keys d ts q (inr w) = ap (λ z. z.keys) w.value ∙ (select_plain w.us w.x w.left).no_keys

abbrev all_tokens : Query → List Kind
all_tokens q = chosen_tokens q ++ p.order_tokens q.keys

no_order : (q : Query) → q.keys ≡ [] → all_tokens q ≡ chosen_tokens q
no_order q h = ap (λ keys. chosen_tokens q ++ p.order_tokens keys) h ∙ append-nil (chosen_tokens q)

chosen_all : (d : ℕ) → Prints (g.chosen d) all_tokens (Alike stripped)
chosen_all d ts x w = (
  (chosen_prints d ts x w).0,
  λ each. again.printed_as kind IsServed IsWritten (g.chosen d) (chosen_tokens x) (all_tokens x) (Alike stripped) x (no_order x (chosen_no_keys d ts x w)) ((chosen_prints d ts x w).1 each),
)

sorted_more : (q : Query) (keys : List Key) → q.keys ≡ [] → all_tokens (g.sorted q keys) ≡ all_tokens q ++ p.order_tokens keys
sorted_more q keys h = ap (λ s. s ++ p.order_tokens keys) (sym (no_order q h))

sorted_alike : (q : Query) (xs : List Key) (r : Query) (ys : List Key) → stripped r ≡ stripped q → ys ≡ xs → stripped (g.sorted r ys) ≡ stripped (g.sorted q xs)
sorted_alike q xs r ys e d = two g.sorted (stripped q) (stripped r) xs ys e d

all_prints : (d : ℕ) → Prints (g.query d) all_tokens (Alike stripped)
all_prints d = again.perhaps_prints kind IsServed IsWritten (g.chosen d) g.order g.sorted all_tokens p.order_tokens (Alike stripped) Same (λ q. q.keys ≡ [])
    (chosen_no_keys d) sorted_more sorted_alike (chosen_all d) order_prints

regrouped : (q : Query) → p.query_tokens q ≡ all_tokens q
regrouped q =
    let select : List Kind = p.word words.Select in
    let list : List Kind = p.selection_tokens q.list in
    let from : List Kind = p.word words.From in
    let table : List Kind = p.table_tokens q.table in
    let filter : List Kind = p.filter_tokens q.filter in
    let order : List Kind = p.order_tokens q.keys in
    ap (λ s. select ++ (list ++ (from ++ s))) (sym (append_assoc table filter order))
    ∙ ap (λ s. select ++ (list ++ s)) (sym (append_assoc from (table ++ filter) order))
    ∙ ap (λ s. select ++ s) (sym (append_assoc list (from ++ (table ++ filter)) order))
    ∙ ap (λ s. s ++ order) (ap (λ s. select ++ (list ++ s)) (sym (append_assoc from table filter)) ∙ ap (λ s. select ++ s) (sym (append_assoc list (from ++ table) filter)))

pub query_prints : (d : ℕ) → Prints (g.query d) p.query_tokens (Alike stripped)
query_prints d ts x w = (
  (all_prints d ts x w).0,
  λ each. again.printed_as kind IsServed IsWritten (g.query d) (all_tokens x) (p.query_tokens x) (Alike stripped) x (regrouped x) ((all_prints d ts x w).1 each),
)
