-- The lines of a text are one list.
use Rattle.std.proofs.Common.{◌≡◌, ℕ, List, [], ◌∷◌, ◌++◌, get_or, Bool, true, false, refl, sym, ap, ◌∙◌, subst, append_assoc}
use Rattle.std.specs.Prelude.{All, drop}
use Rattle.std.proofs.lemmas.List.{append_cancel_right}
use Rattle.std.proofs.lemmas.List.Elements.{All-nil, All-cons, All-head, All-tail}
use Rattle.form_parts.specs.Lines.{crlf, IsLine, ended, AreLines}
use Rattle.form_parts.specs.Reading.{begins_crlf, onto_first, lines_of}
use Rattle.form_parts.proofs.Ends.{lines_begin, lines-other, lines-crlf, begins_is}

ended_onto : (x : ℕ) (ls : List (List ℕ)) (f : List ℕ) (more : List (List ℕ)) → ls ≡ f ∷ more → ended (onto_first x ls) ≡ x ∷ ended ls
ended_onto x ls f more e = rw e refl

tail_of : (x y : ℕ) (xs ys : List ℕ) → x ∷ xs ≡ y ∷ ys → xs ≡ ys
tail_of x y xs ys e = ap (drop 1) e

lf_second : (ys : List ℕ) → begins_crlf (10 ∷ ys) ≡ false
lf_second [] = refl
lf_second (y ∷ ys) = refl

whole_crlf : (x : ℕ) (xs ys : List ℕ) → x ∷ xs ≡ 13 ∷ (10 ∷ ys) → xs ++ crlf ≡ ended (lines_of xs) → (x ∷ xs) ++ crlf ≡ ended (lines_of (x ∷ xs))
whole_crlf x xs ys is h =
    let rest : xs ≡ 10 ∷ ys = tail_of x 13 xs (10 ∷ ys) is in
    let b = lines_begin ys in
    let parted : lines_of (10 ∷ ys) ≡ onto_first 10 (lines_of ys) = lines-other 10 ys (lf_second ys) in
    let one : (10 ∷ ys) ++ crlf ≡ 10 ∷ ended (lines_of ys) = subst (λ (t : List ℕ). t ++ crlf ≡ ended (lines_of t)) rest h ∙ ap ended parted ∙ ended_onto 10 (lines_of ys) b.first b.more b.same in
    ap (λ l. l ++ crlf) is ∙ ap (λ l. 13 ∷ l) one ∙ sym (ap ended (ap lines_of is ∙ lines-crlf ys))

pub lines-whole : (xs : List ℕ) → xs ++ crlf ≡ ended (lines_of xs)
unfolding lines_of
lines-whole [] = refl
lines-whole (x ∷ xs) = elim (begins_crlf (x ∷ xs)) as (λ t. (begins_crlf (x ∷ xs) ≡ t) → (x ∷ xs) ++ crlf ≡ ended (lines_of (x ∷ xs))) [
  | true ↦ λ e. let b = begins_is (x ∷ xs) e in whole_crlf x xs b.0 b.1 (lines-whole xs)
  | false ↦ λ e. let b = lines_begin xs in ap (λ l. x ∷ l) (lines-whole xs) ∙ sym (ended_onto x (lines_of xs) b.first b.more b.same) ∙ ap ended (sym (lines-other x xs e))
] refl

true_false : true ≡ false → ⊥
true_false e = cc

IsLine-nil : IsLine []
IsLine-nil [] after e = cc
IsLine-nil (x ∷ before) after e = cc

begins_of : (xs : List ℕ) (after : List ℕ) → xs ++ crlf ≡ 10 ∷ after → begins_crlf (13 ∷ xs) ≡ true
begins_of [] after e = absurd (let h : 13 ≡ 10 = ap (λ l. get_or l 0 0) e in cc)
begins_of (x ∷ xs) after e = let h : x ≡ 10 = ap (λ l. get_or l 0 0) e in rw h refl

IsLine-cons : (x : ℕ) (xs f : List ℕ) (more : List (List ℕ)) → IsLine f → xs ++ crlf ≡ f ++ (13 ∷ (10 ∷ ended more)) → begins_crlf (x ∷ xs) ≡ false → IsLine (x ∷ f)
IsLine-cons x xs f more line whole plain [] after e =
    let first : x ≡ 13 = ap (λ l. get_or l 0 0) e in
    let rest : f ≡ 10 ∷ after = ap (drop 1) e in
    let yes : begins_crlf (13 ∷ xs) ≡ true = begins_of xs (after ++ (13 ∷ (10 ∷ ended more))) (whole ∙ ap (λ l. l ++ (13 ∷ (10 ∷ ended more))) rest) in
    let same : begins_crlf (13 ∷ xs) ≡ false = ap (λ y. begins_crlf (y ∷ xs)) (sym first) ∙ plain in
    true_false (sym yes ∙ same)
IsLine-cons x xs f more line whole plain (y ∷ before) after e = line before after (ap (drop 1) e)

shorter : (y : ℕ) (f : List ℕ) → IsLine (y ∷ f) → IsLine f
shorter y f line before after e = line (y ∷ before) after (ap (λ l. y ∷ l) e)

each_crlf : (x : ℕ) (xs ys : List ℕ) → x ∷ xs ≡ 13 ∷ (10 ∷ ys) → All IsLine (lines_of xs) → All IsLine (lines_of (x ∷ xs))
each_crlf x xs ys is h =
    let rest : xs ≡ 10 ∷ ys = tail_of x 13 xs (10 ∷ ys) is in
    let b = lines_begin ys in
    let parted : lines_of xs ≡ (10 ∷ b.first) ∷ b.more = ap lines_of rest ∙ lines-other 10 ys (lf_second ys) ∙ ap (onto_first 10) b.same in
    let g : All IsLine ((10 ∷ b.first) ∷ b.more) = subst (All IsLine) parted h in
    let all : lines_of (x ∷ xs) ≡ [] ∷ (b.first ∷ b.more) = ap lines_of is ∙ lines-crlf ys ∙ ap (λ l. [] ∷ l) b.same in
    subst (All IsLine) (sym all) (All-cons IsLine [] (b.first ∷ b.more) IsLine-nil
    (All-cons IsLine b.first b.more (shorter 10 b.first (All-head IsLine (10 ∷ b.first) b.more g)) (All-tail IsLine (10 ∷ b.first) b.more g)))

pub lines-each : (xs : List ℕ) → All IsLine (lines_of xs)
unfolding lines_of
lines-each [] = All-cons IsLine [] [] IsLine-nil (All-nil IsLine)
lines-each (x ∷ xs) = elim (begins_crlf (x ∷ xs)) as (λ t. (begins_crlf (x ∷ xs) ≡ t) → All IsLine (lines_of (x ∷ xs))) [
  | true ↦ λ e. let b = begins_is (x ∷ xs) e in each_crlf x xs b.0 b.1 (lines-each xs)
  | false ↦ λ e. let b = lines_begin xs in
      let h : All IsLine (b.first ∷ b.more) = subst (All IsLine) b.same (lines-each xs) in
      let whole : xs ++ crlf ≡ b.first ++ (13 ∷ (10 ∷ ended b.more)) = lines-whole xs ∙ ap ended b.same in
      subst (All IsLine) (sym (lines-other x xs e ∙ ap (onto_first x) b.same))
      (All-cons IsLine (x ∷ b.first) b.more (IsLine-cons x xs b.first b.more (All-head IsLine b.first b.more h) whole e) (All-tail IsLine b.first b.more h))
] refl

-- the lines of a text, as the reader finds them, are its lines
pub lines-are : (xs : List ℕ) → AreLines xs (lines_of xs)
lines-are xs = record { whole = lines-whole xs; each = lines-each xs }

-- what stands before the last line end
record HasText (ls : List (List ℕ)) : Type 0 where
  pub text : List ℕ
  pub same : ended ls ≡ text ++ crlf

ended_text : (l : List ℕ) (ls : List (List ℕ)) → HasText (l ∷ ls)
ended_text l [] = record { text = l; same = refl }
ended_text l (m ∷ ms) =
    let later = ended_text m ms in
    record { text = l ++ (13 ∷ (10 ∷ later.text)); same = ap (λ t. l ++ (13 ∷ (10 ∷ t))) later.same ∙ sym (append_assoc l (13 ∷ (10 ∷ later.text)) crlf) }

not_true : (t : Bool) → (t ≡ true → ⊥) → t ≡ false
not_true true h = absurd (h refl)
not_true false h = refl

-- a line with no line end in it goes on
goes_on : (x : ℕ) (l rest : List ℕ) → IsLine (x ∷ l) → begins_crlf (x ∷ (l ++ (13 ∷ rest))) ≡ false
goes_on x [] rest line = not_true (begins_crlf (x ∷ (13 ∷ rest))) (λ e. let b = begins_is (x ∷ (13 ∷ rest)) e in let h : 13 ≡ 10 = ap (λ l. get_or l 1 0) b.1 in cc)
goes_on x (y ∷ l) rest line = not_true (begins_crlf (x ∷ (y ∷ (l ++ (13 ∷ rest))))) (λ e.
    let b = begins_is (x ∷ (y ∷ (l ++ (13 ∷ rest)))) e in
    let p : x ≡ 13 = ap (λ l. get_or l 0 0) b.1 in
    let q : y ≡ 10 = ap (λ l. get_or l 1 0) b.1 in
    line [] l (rw (p, q) refl))

lines-line : (l rest : List ℕ) → IsLine l → lines_of (l ++ (13 ∷ (10 ∷ rest))) ≡ l ∷ lines_of rest
lines-line [] rest line = lines-crlf rest
lines-line (x ∷ l) rest line = lines-other x (l ++ (13 ∷ (10 ∷ rest))) (goes_on x l (10 ∷ rest) line) ∙ ap (onto_first x) (lines-line l rest (shorter x l line))

stays : (x : ℕ) (l : List ℕ) → IsLine (x ∷ l) → begins_crlf (x ∷ l) ≡ false
stays x l line = not_true (begins_crlf (x ∷ l)) (λ e. let b = begins_is (x ∷ l) e in line [] b.0 b.1)

lines-alone : (l : List ℕ) → IsLine l → lines_of l ≡ l ∷ []
unfolding lines_of
lines-alone [] line = refl
lines-alone (x ∷ l) line = lines-other x l (stays x l line) ∙ ap (onto_first x) (lines-alone l (shorter x l line))

-- and no other lines are
pub lines-only : (text : List ℕ) (ls : List (List ℕ)) → text ++ crlf ≡ ended ls → All IsLine ls → ls ≡ lines_of text
lines-only [] [] whole each = absurd cc
lines-only (x ∷ text) [] whole each = absurd cc
lines-only text (l ∷ []) whole each =
    let same : text ≡ l = append_cancel_right text l crlf whole in
    sym (ap lines_of same ∙ lines-alone l (All-head IsLine l [] each))
lines-only text (l ∷ (m ∷ ms)) whole each =
    let later = ended_text m ms in
    let same : text ≡ l ++ (13 ∷ (10 ∷ later.text)) = append_cancel_right text (l ++ (13 ∷ (10 ∷ later.text))) crlf
    (whole ∙ ap (λ t. l ++ (13 ∷ (10 ∷ t))) later.same ∙ sym (append_assoc l (13 ∷ (10 ∷ later.text)) crlf)) in
    let rest : (m ∷ ms) ≡ lines_of later.text = lines-only later.text (m ∷ ms) (sym later.same) (All-tail IsLine l (m ∷ ms) each) in
    ap (λ t. l ∷ t) rest ∙ sym (ap lines_of same ∙ lines-line l later.text (All-head IsLine l (m ∷ ms) each))
