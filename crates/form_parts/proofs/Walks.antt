-- The walk from line to line.
use Rattle.std.proofs.Common.{◌≡◌, ℕ, ◌+◌, ◌-◌, ◌≤◌, List, [], ◌∷◌, ◌++◌, length, take, drop, true, false, eqb, refl, sym, ap, ◌∙◌, arith, inl, inr, append_assoc, length-append, eq-eqb, ne_eqb}
use Rattle.std.specs.Prelude.{◌⊎◌, ◌≢◌, Option, None}
use Rattle.std.proofs.lemmas.List.{drop-drop, take-append-le, length-drop, length-take-le as length_take_le}
use Rattle.form_parts.specs.declared.mark.Mark.{Mark}
use Rattle.form_parts.specs.declared.mark.Mark.TheVariants.{Plain, Open, Last}
use Rattle.form_parts.specs.Lines.{ended}
use Rattle.form_parts.specs.Marks.{mark_of}
use Rattle.form_parts.specs.Reading.{lines_of, closed, inside, outside, parts_after, part_before}

pub ended-append : (xs ys : List (List ℕ)) → ended (xs ++ ys) ≡ ended xs ++ ended ys
ended-append [] ys = refl
ended-append (x ∷ xs) ys = rw (ended-append xs ys) (sym (append_assoc x (13 ∷ (10 ∷ ended xs)) (ended ys)))

-- the lines from a place on are held up to another place
pub record Walk (b body : List ℕ) (from place : ℕ) : Type 0 where
  pub low : from ≤ place
  pub high : place ≤ length body
  pub room : (place ≡ from) ⊎ (from + 2 ≤ place)
  pub held : List (List ℕ)
  pub text : drop from body ≡ ended held ++ drop place body
  pub size : length (ended held) + from ≡ place
  pub front : outside b (lines_of (drop from body)) ≡ outside b (lines_of (drop place body))
  pub part : inside b [] (lines_of (drop from body)) ≡ inside b held (lines_of (drop place body))

pub Walk-start : (b body : List ℕ) (from : ℕ) → from ≤ length body → Walk b body from from
Walk-start b body from h = record { low = omega arith; high = h; room = inl refl; held = []; text = refl; size = omega arith; front = refl; part = refl }

pub outside-plain : (b l : List ℕ) (ls : List (List ℕ)) → mark_of b l ≡ Plain → outside b (l ∷ ls) ≡ outside b ls
unfolding outside
outside-plain b l ls e = rw (e, outside) refl

pub inside-plain : (b l : List ℕ) (held ls : List (List ℕ)) → mark_of b l ≡ Plain → inside b held (l ∷ ls) ≡ inside b (held ++ l ∷ []) ls
unfolding inside
inside-plain b l held ls e = rw (e, inside) refl

-- one more line of content
pub Walk-step : (b body : List ℕ) (from place end : ℕ) (line : List ℕ) → Walk b body from place → end + 2 ≤ length (drop place body)
    → line ≡ take end (drop place body)
    → drop place body ≡ take end (drop place body) ++ (13 ∷ (10 ∷ drop (end + 2) (drop place body)))
    → lines_of (drop place body) ≡ take end (drop place body) ∷ lines_of (drop (end + 2) (drop place body))
    → mark_of b line ≡ Plain
    → Walk b body from (place + end + 2)
Walk-step b body from place end line w fits is_line split lines plain =
    let next : place + (end + 2) ≡ place + end + 2 = omega arith in
    let later : drop (end + 2) (drop place body) ≡ drop (place + end + 2) body = drop-drop (end + 2) place body ∙ ap (λ n. drop n body) next in
    let cut : drop place body ≡ line ++ (13 ∷ (10 ∷ drop (place + end + 2) body)) = split ∙ rw (is_line, later) refl in
    let cut_lines : lines_of (drop place body) ≡ line ∷ lines_of (drop (place + end + 2) body) = lines ∙ rw (is_line, later) refl in
    let more : ended (w.held ++ line ∷ []) ≡ ended w.held ++ (line ++ (13 ∷ (10 ∷ []))) = ended-append w.held (line ∷ []) in
    let line_len : length line ≡ end = rw is_line (length_take_le end (drop place body) (omega (arith, fits))) in
    record {
      low = omega (arith, w.low);
      high = omega (arith, fits, length-drop place body, w.high);
      room = inr (omega (arith, w.low));
      held = w.held ++ line ∷ [];
      text = w.text ∙ ap (λ x. ended w.held ++ x) (cut ∙ sym (append_assoc line (13 ∷ (10 ∷ [])) (drop (place + end + 2) body))) ∙ sym (append_assoc (ended w.held) (line ++ (13 ∷ (10 ∷ []))) (drop (place + end + 2) body)) ∙ ap (λ x. x ++ drop (place + end + 2) body) (sym more);
      size = ap (λ x. length x + from) more ∙ (let n = length-append (ended w.held) (line ++ (13 ∷ (10 ∷ []))) in let m = length-append line (13 ∷ (10 ∷ [])) in let s = w.size in omega (arith, n, m, s, line_len));
      front = w.front ∙ ap (outside b) cut_lines ∙ outside-plain b line _ plain;
      part = w.part ∙ ap (inside b w.held) cut_lines ∙ inside-plain b line w.held _ plain;
    }

held_part : (body : List ℕ) (from place : ℕ) (held : List (List ℕ)) → drop from body ≡ ended held ++ drop place body → length (ended held) + from ≡ place
    → (parts : Option (List (List ℕ))) → closed held parts ≡ part_before body from place parts
held_part body from place [] text size parts =
    let e : eqb from place ≡ true = eq-eqb from place (omega (arith, size)) in rw e refl
held_part body from place (l ∷ ls) text size parts =
    let long : 2 ≤ length (ended (l ∷ ls)) = (let n = length-append l (13 ∷ (10 ∷ ended ls)) in omega (arith, n)) in
    let ne : from ≢ place = omega (arith, size, long) in
    let e : eqb from place ≡ false = ne_eqb from place ne in
    let n : place - 2 - from ≡ length (ended (l ∷ ls)) - 2 = omega (arith, size) in
    let same : take (place - 2 - from) (drop from body) ≡ take (length (ended (l ∷ ls)) - 2) (ended (l ∷ ls)) =
    ap (λ k. take k (drop from body)) n ∙ ap (take (length (ended (l ∷ ls)) - 2)) text ∙ take-append-le (length (ended (l ∷ ls)) - 2) (ended (l ∷ ls)) (drop place body) (omega arith) in
    rw (e, same) refl

-- the held lines are the part
pub closed-part : (b body : List ℕ) (from place : ℕ) (w : Walk b body from place) (parts : Option (List (List ℕ))) → closed w.held parts ≡ part_before body from place parts
closed-part b body from place w parts = held_part body from place w.held w.text w.size parts

outside-mark : (b body l : List ℕ) (ls : List (List ℕ)) (m : Mark) (next : ℕ) → mark_of b l ≡ m → m ≢ Plain → (m ≡ Open → ls ≡ lines_of (drop next body))
    → outside b (l ∷ ls) ≡ parts_after b body m next
unfolding outside
outside-mark b body l ls Plain next e ne same = absurd (ne refl)
outside-mark b body l ls Open next e ne same = rw (e, outside) (ap (inside b []) (same refl))
outside-mark b body l ls Last next e ne same = rw (e, outside) refl

inside-mark : (b body l : List ℕ) (held ls : List (List ℕ)) (m : Mark) (next : ℕ) → mark_of b l ≡ m → m ≢ Plain → (m ≡ Open → ls ≡ lines_of (drop next body))
    → inside b held (l ∷ ls) ≡ closed held (parts_after b body m next)
unfolding inside
inside-mark b body l held ls Plain next e ne same = absurd (ne refl)
inside-mark b body l held ls Open next e ne same = rw (e, inside) (ap (λ x. closed held (inside b [] x)) (same refl))
inside-mark b body l held ls Last next e ne same = rw (e, inside) refl

-- a delimiter ends the walk
pub record Stops (b body : List ℕ) (from place : ℕ) (m : Mark) (next : ℕ) : Type 0 where
  pub front : outside b (lines_of (drop from body)) ≡ parts_after b body m next
  pub part : inside b [] (lines_of (drop from body)) ≡ part_before body from place (parts_after b body m next)

pub Walk-stops : (b body : List ℕ) (from place : ℕ) (l : List ℕ) (ls : List (List ℕ)) (m : Mark) (next : ℕ) → Walk b body from place
    → lines_of (drop place body) ≡ l ∷ ls → mark_of b l ≡ m → m ≢ Plain → (m ≡ Open → ls ≡ lines_of (drop next body)) → Stops b body from place m next
Walk-stops b body from place l ls m next w lines e ne same = record {
  front = w.front ∙ ap (outside b) lines ∙ outside-mark b body l ls m next e ne same;
  part = w.part ∙ ap (inside b w.held) lines ∙ inside-mark b body l w.held ls m next e ne same ∙ closed-part b body from place w (parts_after b body m next);
}

closed-none : (held : List (List ℕ)) → closed held None ≡ None
closed-none [] = refl
closed-none (l ∷ ls) = refl

outside-end : (b l : List ℕ) (m : Mark) → mark_of b l ≡ m → m ≢ Last → outside b (l ∷ []) ≡ None
unfolding outside inside
outside-end b l Plain e ne = rw (e, outside) refl
outside-end b l Open e ne = rw (e, outside) refl
outside-end b l Last e ne = absurd (ne refl)

inside-end : (b l : List ℕ) (held : List (List ℕ)) (m : Mark) → mark_of b l ≡ m → m ≢ Last → inside b held (l ∷ []) ≡ None
unfolding inside
inside-end b l held Plain e ne = rw (e, inside) refl
inside-end b l held Open e ne = rw (e, inside) (closed-none held)
inside-end b l held Last e ne = absurd (ne refl)

-- so does the end of the body
pub record Fails (b body : List ℕ) (from : ℕ) : Type 0 where
  pub front : outside b (lines_of (drop from body)) ≡ None
  pub part : inside b [] (lines_of (drop from body)) ≡ None

pub Walk-fails : (b body : List ℕ) (from place : ℕ) (l : List ℕ) (m : Mark) → Walk b body from place
    → lines_of (drop place body) ≡ l ∷ [] → mark_of b l ≡ m → m ≢ Last → Fails b body from
Walk-fails b body from place l m w lines e ne = record {
  front = w.front ∙ ap (outside b) lines ∙ outside-end b l m e ne;
  part = w.part ∙ ap (inside b w.held) lines ∙ inside-end b l w.held m e ne;
}
