-- The walk from field to field.
use Rattle.std.proofs.Common.{◌≡◌, ℕ, zero, suc, ◌+◌, ◌-◌, ◌≤◌, ◌<◌, List, [], ◌∷◌, ◌++◌, length, take, drop, eqb, ◌==◌, true, false, refl, sym, ap, ◌∙◌, append_assoc, append-nil, length-append, arith}
use Rattle.std.proofs.lemmas.List.{drop-drop, length-drop}
use Rattle.std.proofs.lemmas.Bool.{eqb-true}
use Rattle.std.specs.Prelude.{Option, Some, None, option_map, unwrap_or}
use Rattle.std.specs.List.{position_or_len}
use Rattle.http_grammar.specs.Request.{FieldParts}
use Rattle.field_params.specs.Params.{after_byte}
use Rattle.form_parts.specs.Heads.{Head, line_at, field_of, head_within, head_of}

-- fields before those of a head
abbrev pub behind : List FieldParts → Option Head → Option Head
behind done later = option_map (λ h. (done ++ h.0, h.1)) later

-- the rest is the end of the text
pub record IsEnd (text rest : List ℕ) : Type 0 where
  pub short : length rest ≤ length text
  pub same : rest ≡ drop (length text - length rest) text

-- the fields so far, and those of the rest, are those of the text
pub record Walk (text : List ℕ) (done : List FieldParts) (rest : List ℕ) : Type 0 where
  pub few : length done + length rest ≤ length text
  pub end : IsEnd text rest
  pub same : head_of text ≡ behind done (head_within (length text - length done) rest)

none_less : (text : List ℕ) → length text - 0 ≡ length text
none_less text = omega arith

all_less : (text : List ℕ) → length text - length text ≡ 0
all_less text = omega arith

pub Walk-start : (text : List ℕ) → Walk text [] text
Walk-start text = record {
  few = omega arith;
  end = record { short = omega arith; same = ap (λ n. drop n text) (sym (all_less text)) };
  same = start (head_of text) ∙ ap (λ n. behind [] (head_within n text)) (sym (none_less text));
}
  where
    start : (o : Option Head) → o ≡ behind [] o
    start None = refl
    start (Some h) = refl

-- a part of the end of a text is its end
end_by : (text rest : List ℕ) (k : ℕ) → k ≤ length text → rest ≡ drop k text → IsEnd text rest
end_by text rest k le e =
    let len : length rest ≡ length text - k = ap length e ∙ length-drop k text in
    let back : length text - length rest ≡ k = omega (arith, len, le) in
    record { short = omega (arith, len); same = e ∙ ap (λ n. drop n text) (sym back) }

end_more : (text rest later : List ℕ) → IsEnd text rest → IsEnd rest later → IsEnd text later
end_more text rest later a b =
    let short = a.short in
    let shorter = b.short in
    let sum : (length text - length rest) + (length rest - length later) ≡ length text - length later = omega (arith, short, shorter) in
    end_by text later (length text - length later) (omega (arith, short, shorter))
    (b.same ∙ ap (drop (length rest - length later)) a.same ∙ drop-drop (length rest - length later) (length text - length rest) text ∙ ap (λ n. drop n text) sum)

none_some : {A : Type 0} {x : A} → None ≡ Some x → ⊥
none_some e = cc

after_end : (c : ℕ) (text rest : List ℕ) → after_byte c text ≡ Some rest → IsEnd text rest
after_end c [] rest e = absurd cc
after_end c (b ∷ bs) rest e = elim (eqb b c) as (λ t. (eqb b c ≡ t) → IsEnd (b ∷ bs) rest) [
  | true ↦ λ is. let h : Some bs ≡ Some rest = rw is at e in end_by (b ∷ bs) rest 1 (omega arith) (ap (λ o. unwrap_or o rest) (sym h))
  | false ↦ λ is. let h : None ≡ Some rest = rw is at e in absurd (none_some h)
] refl

whole_end : (text : List ℕ) → IsEnd text text
whole_end text = record { short = omega arith; same = ap (λ n. drop n text) (sym (all_less text)) }

drop_end : (k : ℕ) (text : List ℕ) → IsEnd text (drop k text)
drop_end zero text = whole_end text
drop_end (suc k) [] = whole_end []
drop_end (suc k) (x ∷ xs) = end_more (x ∷ xs) xs (drop k xs) (end_by (x ∷ xs) xs 1 (omega arith) refl) (drop_end k xs)

line_end : (text line rest : List ℕ) → line_at text ≡ Some (line, rest) → IsEnd text rest
line_end text line rest e = by_after (after_byte 10 more) refl e
  where
    more : List ℕ
    more = drop (position_or_len (λ b. b == 13) text + 1) text

    by_after : (o : Option (List ℕ)) → after_byte 10 more ≡ o → option_map {U = List ℕ × List ℕ} (λ r. (take (position_or_len (λ b. b == 13) text) text, r)) o ≡ Some (line, rest) → IsEnd text rest
    by_after None is h = absurd cc
    by_after (Some r) is h =
        let same : r ≡ rest = ap (λ (o : Option (List ℕ × List ℕ)). elim o [ None ↦ rest | Some l ↦ l.1 ]) h in
        end_more text more rest (drop_end (position_or_len (λ b. b == 13) text + 1) text) (after_end 10 more rest (is ∙ ap Some same))

behind-more : (done : List FieldParts) (f : FieldParts) (o : Option Head) → behind done (option_map (λ h. (f ∷ h.0, h.1)) o) ≡ behind (done ++ f ∷ []) o
behind-more done f None = refl
behind-more done f (Some h) = ap (λ fs. Some (fs, h.1)) (sym (append_assoc done (f ∷ []) h.0))

nil_cons : (b : ℕ) (bs : List ℕ) → (b ∷ bs ≡ [] → ⊥)
nil_cons b bs e = cc

behind-step : (done : List FieldParts) (n m : ℕ) (rest line later : List ℕ) (f : FieldParts) → n ≡ suc m → (rest ≡ [] → ⊥) → (line ≡ [] → ⊥) → line_at rest ≡ Some (line, later) → field_of line ≡ Some f
    → behind done (head_within n rest) ≡ behind (done ++ f ∷ []) (head_within m later)
behind-step done n m [] line later f e some ne is given = absurd (some refl)
behind-step done n m (b ∷ bs) [] later f e some ne is given = absurd (ne refl)
behind-step done n m (b ∷ bs) (c ∷ cs) later f e some ne is given = rw (e, is, given) (behind-more done f (head_within m later))

-- one more field
pub Walk-step : (text rest line later : List ℕ) (done : List FieldParts) (f : FieldParts) → Walk text done rest → line_at rest ≡ Some (line, later) → length later < length rest
    → (line ≡ [] → ⊥) → (rest ≡ [] → ⊥) → field_of line ≡ Some f → Walk text (done ++ f ∷ []) later
Walk-step text rest line later done f w is shorter ne some given =
    let more = length-append done (f ∷ []) in
    let few = w.few in
    record {
      few = omega (arith, more, few, shorter);
      end = end_more text rest later w.end (line_end rest line later is);
      same = w.same ∙ behind-step done (length text - length done) (length text - length (done ++ f ∷ [])) rest line later f (omega (arith, more, few, shorter)) some ne is given;
    }

behind-content : (done : List FieldParts) (n m : ℕ) (rest later : List ℕ) → n ≡ suc m → (rest ≡ [] → ⊥) → line_at rest ≡ Some ([], later) → behind done (head_within n rest) ≡ Some (done, later)
behind-content done n m [] later e some is = absurd (some refl)
behind-content done n m (b ∷ bs) later e some is = rw (e, is) (ap (λ fs. Some (fs, later)) (append-nil done))

-- an empty line ends the fields
pub Walk-empty : (text rest line later : List ℕ) (done : List FieldParts) → Walk text done rest → line_at rest ≡ Some (line, later) → length later < length rest → line ≡ [] → (rest ≡ [] → ⊥)
    → (head_of text ≡ Some (done, later)) × IsEnd text later
Walk-empty text rest line later done w is shorter nil some =
    let few = w.few in
    let empty : line_at rest ≡ Some ([], later) = is ∙ ap (λ l. Some (l, later)) nil in
    (w.same ∙ behind-content done (length text - length done) (length text - length done - 1) rest later (omega (arith, few, shorter)) some empty, end_more text rest later w.end (line_end rest [] later empty))

-- the part ends with its fields
pub Walk-end : (text rest : List ℕ) (done : List FieldParts) → Walk text done rest → rest ≡ [] → head_of text ≡ Some (done, rest)
Walk-end text rest done w nil = w.same ∙ rw nil (at_end (length text - length done))
  where
    at_end : (n : ℕ) → behind done (head_within n []) ≡ Some (done, [])
    at_end zero = ap (λ fs. Some (fs, [])) (append-nil done)
    at_end (suc n) = ap (λ fs. Some (fs, [])) (append-nil done)

behind-fails : (done : List FieldParts) (n : ℕ) (rest : List ℕ) → (rest ≡ [] → ⊥) → line_at rest ≡ None → behind done (head_within n rest) ≡ None
behind-fails done n [] some is = absurd (some refl)
behind-fails done zero (b ∷ bs) some is = refl
behind-fails done (suc n) (b ∷ bs) some is = rw is refl

-- no line stands there
pub Walk-unended : (text rest : List ℕ) (done : List FieldParts) → Walk text done rest → (rest ≡ [] → ⊥) → line_at rest ≡ None → head_of text ≡ None
Walk-unended text rest done w some is = w.same ∙ behind-fails done (length text - length done) rest some is

behind-bad : (done : List FieldParts) (n : ℕ) (rest line later : List ℕ) → (rest ≡ [] → ⊥) → (line ≡ [] → ⊥) → line_at rest ≡ Some (line, later) → field_of line ≡ None → behind done (head_within n rest) ≡ None
behind-bad done n [] line later some ne is none = absurd (some refl)
behind-bad done zero (b ∷ bs) line later some ne is none = refl
behind-bad done (suc n) (b ∷ bs) [] later some ne is none = absurd (ne refl)
behind-bad done (suc n) (b ∷ bs) (c ∷ cs) later some ne is none = rw (is, none) refl

-- a line is no field
pub Walk-fails : (text rest line later : List ℕ) (done : List FieldParts) → Walk text done rest → (rest ≡ [] → ⊥) → line_at rest ≡ Some (line, later) → (line ≡ [] → ⊥) → field_of line ≡ None → head_of text ≡ None
Walk-fails text rest line later done w some is ne none = w.same ∙ behind-bad done (length text - length done) rest line later some ne is none

pub not_empty : (xs : List ℕ) → eqb (length xs) 0 ≡ false → xs ≡ [] → ⊥
not_empty [] e is = let h : true ≡ false = e in cc
not_empty (x ∷ xs) e is = nil_cons x xs is

pub is_empty_is : (xs : List ℕ) → eqb (length xs) 0 ≡ true → xs ≡ []
is_empty_is [] e = refl
is_empty_is (x ∷ xs) e = absurd (let n = eqb-true (length (x ∷ xs)) 0 e in omega (arith, n))
