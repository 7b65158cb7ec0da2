-- A reader stands behind the steps that it has read.
use Rattle.std.proofs.Common.{◌≡◌, ◌∙◌, ◌++◌, ◌+◌, ◌<◌, ◌⊎◌, ℕ, Bool, true, false, List, [], ◌∷◌, length, Option, Some, None, Result, Ok, Err, refl, ap, sym, subst, arith, inl, inr, append_assoc, append-nil}
use Rattle.std.specs.Prelude.{nat_lt, nat_le}
use Rattle.std.specs.List.{list_any, before_first, after_first}
use Rattle.std.proofs.lemmas.Bool.{cases_Bool, or_cases, both_ways, leb-true}
use Rattle.outside.specs.Outside.{SourceTold}
use Rattle.outside.proofs.Known.{Gave-none}
use Rattle.schedule_lines.specs.Limits.{most_lines, longest_line}
use Rattle.schedule_lines.specs.Lines.{asked_by}
use Rattle.schedule_lines.specs.Scripts.{is_line_feed, lines_of, Script, behind, with_line, script_from, script_of}
use Rattle.schedule_lines.specs.Reading.{Reading, StandsBehind, HasSteps, Answers, ReadsOn, has_line, Fed, Fills, beyond, Takes}
use Rattle.schedule_lines.specs.declared.step.Step.{Step}
use Rattle.schedule_lines.specs.declared.reader.ScriptStop.{ScriptStop}
use Rattle.schedule_lines.specs.declared.reader.ScriptStop.TheVariants.{NotValid, ReadFault, Memory}
use Rattle.schedule_lines.proofs.Fronts.{ended as none_left, stopped, whole_line, too_long, not_too_many, long_line, line_at_end, no_line, has_none}
use Rattle.schedule_lines.proofs.Pieces.{one_piece}

behind_more : (steps : List Step) (step : Step) (s : Script) → behind steps (behind (step ∷ []) s) ≡ behind (steps ++ step ∷ []) s
behind_more steps step s = ap (λ (all : List Step). record { steps = all; bad = s.bad }) (sym (append_assoc steps (step ∷ []) s.steps))

behind_none : (steps : List Step) (bad : Option ℕ) → behind steps (record { steps = []; bad = bad }) ≡ record { steps = steps; bad = bad }
behind_none steps bad = ap (λ (all : List Step). record { steps = all; bad = bad }) (append-nil steps)

-- the script of the text so far
pub so_far : {text : List ℕ} {steps : List Step} {r : Reading} {ended : Bool} → StandsBehind text steps r ended → (over : Bool) → (r.over ≡ true → over ≡ true)
    → script_of over text ≡ behind steps (script_from r.number (lines_of over r.ahead))
so_far {text = text} {steps = steps} {r = r} s over is =
    ap (script_of over) (sym (append-nil text)) ∙ s.goes_on [] over (λ e. (refl, is e)) ∙ ap (λ t. behind steps (script_from r.number (lines_of over t))) (append-nil r.ahead)

pub has_steps : {text : List ℕ} {steps : List Step} {r : Reading} {ended : Bool} → StandsBehind text steps r ended → HasSteps ended text steps
has_steps {r = r} {ended = ended} s = ((script_from r.number (lines_of ended r.ahead)).steps, sym (ap (λ (t : Script). t.steps) (so_far s ended s.over)))

-- with bytes that came behind those that were ahead
pub fed : {text : List ℕ} {steps : List Step} {old new : Reading} {before after : SourceTold} → StandsBehind text steps old before.ended → old.over ≡ false
    → (f : Fed old new before after) → (new.over ≡ true → after.ended ≡ true) → StandsBehind (text ++ f.got) steps new after.ended
fed {text = text} {steps = steps} {old = old} {new = new} s going f over = record {
  over = over;
  goes_on = λ more last p.
      ap (script_of last) (append_assoc text f.got more) ∙ s.goes_on (f.got ++ more) last (λ e. absurd (both_ways old.over going e))
      ∙ ap (λ k. behind steps (script_from k (lines_of last (old.ahead ++ (f.got ++ more))))) (sym f.number_is)
      ∙ ap (λ t. behind steps (script_from new.number (lines_of last t))) (sym (append_assoc old.ahead f.got more) ∙ ap (λ t. t ++ more) (sym f.ahead_is));
}

-- a line is ahead, or nothing more comes
abbrev pub Ready : Reading → Type 0
Ready r = (r.over ≡ true) ⊎ (has_line r.ahead ≡ true)

never : (o : Option Step) (step : Step) → o ≡ None → o ≡ Some step → ⊥
never o step e f = cc (e, f)

-- the line at the front of what is ahead, where a step was read of it
taken : (text : List ℕ) (steps : List Step) (r : Reading) (ended : Bool) (step : Step) → StandsBehind text steps r ended → Ready r → 0 < length r.ahead
    → asked_by r.number (before_first is_line_feed r.ahead) ≡ Some step → StandsBehind text (steps ++ step ∷ []) (beyond r) ended
taken text steps r ended step s ready some asked = record {
  over = s.over;
  goes_on = λ more last p. s.goes_on more last p ∙ (ap (behind steps) (by_line more last p (cases_Bool (list_any is_line_feed r.ahead))) ∙ behind_more steps step (script_from (r.number + 1) (lines_of last (after_first is_line_feed r.ahead ++ more))));
}
  where
    by_end : (more : List ℕ) (last : Bool) → more ≡ [] → last ≡ true → list_any is_line_feed r.ahead ≡ false
        → script_from r.number (lines_of last (r.ahead ++ more)) ≡ behind (step ∷ []) (script_from (r.number + 1) (lines_of last (after_first is_line_feed r.ahead ++ more)))
    by_end more last nothing end none =
        let one = one_piece is_line_feed r.ahead none in
        rw (nothing, end, one.2) (ap (λ t. script_from r.number (lines_of true t)) (append-nil r.ahead) ∙ line_at_end r.number r.ahead none some
        ∙ ap (λ o. with_line r.number o none_left) (ap (asked_by r.number) (sym one.1) ∙ asked))

    by_line : (more : List ℕ) (last : Bool) → (r.over ≡ true → (more ≡ []) × (last ≡ true)) → (list_any is_line_feed r.ahead ≡ true) ⊎ (list_any is_line_feed r.ahead ≡ false)
        → script_from r.number (lines_of last (r.ahead ++ more)) ≡ behind (step ∷ []) (script_from (r.number + 1) (lines_of last (after_first is_line_feed r.ahead ++ more)))
    by_line more last p (inl whole) =
        whole_line r.number last r.ahead more whole ∙ ap (λ o. with_line r.number o (script_from (r.number + 1) (lines_of last (after_first is_line_feed r.ahead ++ more)))) asked
    by_line more last p (inr none) = elim ready [
      | inl e ↦ by_end more last (p e).0 (p e).1 none
      | inr line ↦ elim (or_cases (list_any is_line_feed r.ahead) (nat_lt longest_line (length r.ahead)) line) [
        | inl whole ↦ absurd (both_ways (list_any is_line_feed r.ahead) none whole)
        | inr long ↦ absurd (never (asked_by r.number r.ahead) step (too_long r.number r.ahead long) (ap (asked_by r.number) (sym (one_piece is_line_feed r.ahead none).1) ∙ asked))
      ]
    ]

-- the same where nothing was read of it
refused : (r : Reading) (ended : Bool) → (r.over ≡ true → ended ≡ true) → Ready r → 0 < length r.ahead → asked_by r.number (before_first is_line_feed r.ahead) ≡ None
    → script_from r.number (lines_of ended r.ahead) ≡ stopped r.number
refused r ended over ready some asked = by_line (cases_Bool (list_any is_line_feed r.ahead))
  where
    by_end : (last : Bool) → last ≡ true → list_any is_line_feed r.ahead ≡ false → script_from r.number (lines_of last r.ahead) ≡ stopped r.number
    by_end last end none =
        rw end (line_at_end r.number r.ahead none some ∙ ap (λ o. with_line r.number o none_left) (ap (asked_by r.number) (sym (one_piece is_line_feed r.ahead none).1) ∙ asked))

    by_line : (list_any is_line_feed r.ahead ≡ true) ⊎ (list_any is_line_feed r.ahead ≡ false) → script_from r.number (lines_of ended r.ahead) ≡ stopped r.number
    by_line (inl whole) =
        ap (λ t. script_from r.number (lines_of ended t)) (sym (append-nil r.ahead)) ∙ whole_line r.number ended r.ahead [] whole
        ∙ ap (λ o. with_line r.number o (script_from (r.number + 1) (lines_of ended (after_first is_line_feed r.ahead ++ [])))) asked
    by_line (inr none) = elim ready [
      | inl e ↦ by_end ended (over e) none
      | inr line ↦ elim (or_cases (list_any is_line_feed r.ahead) (nat_lt longest_line (length r.ahead)) line) [
        | inl whole ↦ absurd (both_ways (list_any is_line_feed r.ahead) none whole)
        | inr long ↦ long_line r.number ended r.ahead none long
      ]
    ]

empty : {X : Type 0} (xs : List X) → length xs ≡ 0 → xs ≡ []
empty [] e = refl
empty (x ∷ xs) e = absurd (omega (arith, e))

over_by : (r : Reading) → Ready r → r.ahead ≡ [] → r.over ≡ true
over_by r (inl e) none = e
over_by r (inr line) none = absurd (has_none (ap has_line (sym none) ∙ line))

-- what is answered of the line at the front
pub answers : (text : List ℕ) (steps : List Step) (old r new : Reading) (before after : SourceTold) (result : Result (Option Step) ScriptStop)
    → StandsBehind text steps r after.ended → Ready r → r.number ≡ old.number → Takes r new result → Answers text steps old new before after result
answers text steps old r new before after (Ok (Some step)) s ready num (some, asked, is) =
    let stands : StandsBehind text (steps ++ step ∷ []) new after.ended = subst (λ (t : Reading). StandsBehind text (steps ++ step ∷ []) t after.ended) (sym is) (taken text steps r after.ended step s ready some asked) in (
      stands,
      has_steps stands,
      leb-true old.number most_lines (ap (λ k. nat_le k most_lines) (sym num) ∙ not_too_many r.number (before_first is_line_feed r.ahead) step asked),
      ap (λ (t : Reading). t.number) is ∙ ap (λ k. k + 1) num,
    )
answers text steps old r new before after (Ok None) s ready num none =
    let nothing = empty r.ahead none in
    let over = over_by r ready nothing in
    (s.over over, so_far s true (λ e. refl) ∙ (ap (λ t. behind steps (script_from r.number (lines_of true t))) nothing ∙ behind_none steps None))
answers text steps old r new before after (Err (NotValid n)) s ready num (some, asked, is) =
    so_far s after.ended s.over ∙ (ap (behind steps) (refused r after.ended s.over ready some asked) ∙ (behind_none steps (Some r.number) ∙ ap (λ k. record { steps = steps; bad = Some k }) (sym is)))
answers text steps old r new before after (Err ReadFault) s ready num h = absurd h
answers text steps old r new before after (Err Memory) s ready num h = has_steps s

-- a call without a read
pub at_end : (text : List ℕ) (steps : List Step) (old new : Reading) (told : SourceTold) (result : Result (Option Step) ScriptStop)
    → old.over ≡ true → Takes old new result → StandsBehind text steps old told.ended → ReadsOn text steps old new told told result
at_end text steps old new told result over takes s = record {
  got = [];
  gave = Gave-none told told refl refl (omega arith);
  answers = subst (λ t. Answers t steps old new told told result) (sym (append-nil text)) (answers text steps old old new told told result s (inl over) refl takes);
}

ready_of : (r : Reading) (ended : Bool) → ((has_line r.ahead ≡ true) × (r.over ≡ false)) ⊎ ((r.over ≡ true) × (ended ≡ true)) → Ready r × (r.over ≡ true → ended ≡ true)
ready_of r ended (inl (line, going)) = (inr line, λ e. absurd (both_ways r.over going e))
ready_of r ended (inr (over, end)) = (inl over, λ e. end)

-- a call that has read
pub filled : (text : List ℕ) (steps : List Step) (old r new : Reading) (before after : SourceTold) (result : Result (Option Step) ScriptStop)
    → old.over ≡ false → (u : Unit {0}) → Fills old r before after (Ok u) → Takes r new result → StandsBehind text steps old before.ended → ReadsOn text steps old new before after result
filled text steps old r new before after result going u (f, how) takes s =
    let ready = ready_of r after.ended how in
    record {
      got = f.got;
      gave = f.gave;
      answers = answers (text ++ f.got) steps old r new before after result (fed s going f ready.1) ready.0 f.number_is takes;
    }

-- a call whose read has stopped
pub stopped_at : (text : List ℕ) (steps : List Step) (old new : Reading) (before after : SourceTold) (stop : ScriptStop)
    → old.over ≡ false → Fills old new before after (Err stop) → StandsBehind text steps old before.ended → ReadsOn text steps old new before after (Err stop)
stopped_at text steps old new before after (NotValid n) going h s = absurd h
stopped_at text steps old new before after ReadFault going (f, none, still, rose) s = record {
  got = f.got;
  gave = f.gave;
  answers = (rose, so_far (fed s going f (λ e. absurd (both_ways new.over still e))) false (λ e. absurd (both_ways new.over still e)) ∙ (ap (behind steps) (no_line new.number new.ahead none) ∙ behind_none steps None));
}
stopped_at text steps old new before after Memory going (got, gave) s = record {
  got = got;
  gave = gave;
  answers = (
    (script_from old.number (lines_of after.ended (old.ahead ++ got))).steps,
    sym (ap (λ (t : Script). t.steps) (s.goes_on got after.ended (λ e. absurd (both_ways old.over going e)))),
  );
}
