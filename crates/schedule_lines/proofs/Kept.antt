-- A line that is not valid stays so, whatever comes behind it.
use Rattle.std.proofs.Common.{◌≡◌, ◌∙◌, ◌++◌, ◌+◌, ◌||◌, ℕ, Bool, true, false, List, [], ◌∷◌, length, Option, Some, None, refl, ap, sym, arith, length-append}
use Rattle.std.specs.Prelude.{nat_lt, if◌then◌else◌}
use Rattle.std.proofs.lemmas.Bool.{ltb-true, lt-ltb}
use Rattle.schedule_lines.specs.Limits.{longest_line}
use Rattle.schedule_lines.specs.Lines.{asked_by}
use Rattle.schedule_lines.specs.Scripts.{is_line_feed, last_line, lines_in, Script, behind, with_line, script_from, script_of}
use Rattle.schedule_lines.specs.declared.step.Step.{Step}
use Rattle.schedule_lines.proofs.Pieces.{first_piece, glued, pieces_together}
use Rattle.schedule_lines.proofs.Fronts.{stopped, line_before, too_long}

glued_first : (p : List ℕ) (ps : List (List ℕ)) (q : List ℕ) (qs : List (List ℕ)) → (r : List ℕ) × (rs : List (List ℕ)) × (glued (p ∷ ps) (q ∷ qs) ≡ r ∷ rs)
glued_first p [] q qs = (p ++ q, qs, refl)
glued_first p (r ∷ ps) q qs = (p, glued (r ∷ ps) (q ∷ qs), refl)

longer : (p q : List ℕ) → nat_lt longest_line (length p) ≡ true → nat_lt longest_line (length (p ++ q)) ≡ true
longer p q h = lt-ltb longest_line (length (p ++ q)) (omega (arith, ltb-true longest_line (length p) h, length-append p q))

-- a line that is too long is the bad one, whatever the lines behind it are
long_first : (k : ℕ) (over : Bool) (line : List ℕ) (rest : List (List ℕ)) → nat_lt longest_line (length line) ≡ true → script_from k (lines_in over (line ∷ rest)) ≡ stopped k
long_first k over [] [] h = absurd (omega (arith, ltb-true longest_line 0 h))
long_first k over (b ∷ bs) [] h = by_test over (nat_lt longest_line (length (b ∷ bs))) h (too_long k (b ∷ bs) h)
  where
    by_test : (over long : Bool) → long ≡ true → asked_by k (b ∷ bs) ≡ None → script_from k (if over || long then (b ∷ bs) ∷ [] else []) ≡ stopped k
    by_test true long e bad = rw bad refl
    by_test false true e bad = rw bad refl
    by_test false false e bad = cc e
long_first k over line (q ∷ rest) h = rw (too_long k line h) refl

last_kept : (k n : ℕ) (p : List ℕ) (b : List ℕ) (bs : List (List ℕ)) (over : Bool) → (script_from k (last_line false p)).bad ≡ Some n → script_from k (lines_in over (glued (p ∷ []) (b ∷ bs))) ≡ script_from k (last_line false p)
last_kept k n [] b bs over h = cc h
last_kept k n (c ∷ cs) b bs over h = by_test (nat_lt longest_line (length (c ∷ cs))) refl h
  where
    by_test : (long : Bool) → nat_lt longest_line (length (c ∷ cs)) ≡ long → (script_from k (if false || long then (c ∷ cs) ∷ [] else [])).bad ≡ Some n
        → script_from k (lines_in over (((c ∷ cs) ++ b) ∷ bs)) ≡ script_from k (last_line false (c ∷ cs))
    by_test true e h = long_first k over ((c ∷ cs) ++ b) bs (longer (c ∷ cs) b e) ∙ sym (long_first k false (c ∷ cs) [] e)
    by_test false e h = cc h

kept_in : (k n : ℕ) (p : List ℕ) (ps : List (List ℕ)) (b : List ℕ) (bs : List (List ℕ)) (over : Bool) → (script_from k (lines_in false (p ∷ ps))).bad ≡ Some n
    → script_from k (lines_in over (glued (p ∷ ps) (b ∷ bs))) ≡ script_from k (lines_in false (p ∷ ps))
kept_in k n p [] b bs over h = last_kept k n p b bs over h
kept_in k n p (q ∷ ps) b bs over h =
    ap (script_from k) (line_before over p (glued (q ∷ ps) (b ∷ bs)) (glued_first q ps b bs))
    ∙ by_step (asked_by k p) (script_from (k + 1) (lines_in over (glued (q ∷ ps) (b ∷ bs)))) (script_from (k + 1) (lines_in false (q ∷ ps))) h (kept_in (k + 1) n q ps b bs over)
  where
    by_step : (o : Option Step) (s t : Script) → (with_line k o t).bad ≡ Some n → (t.bad ≡ Some n → s ≡ t) → with_line k o s ≡ with_line k o t
    by_step None s t h next = refl
    by_step (Some step) s t h next = ap (behind (step ∷ [])) (next h)

pub kept : (text more : List ℕ) (over : Bool) (n : ℕ) → (script_of false text).bad ≡ Some n → script_of over (text ++ more) ≡ script_of false text
kept text more over n h =
    let (p, ps, e) = first_piece is_line_feed text in
    let (b, bs, f) = first_piece is_line_feed more in
    ap (λ pieces. script_from 1 (lines_in over pieces)) (pieces_together is_line_feed text more)
    ∙ rw (e, f) (kept_in 1 n p ps b bs over (rw e at h))
