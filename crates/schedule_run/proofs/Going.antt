-- A run on its way: what was read, what was made of it, and what was written.
use Rattle.std.proofs.Common.{◌≡◌, ◌⊎◌, ◌∙◌, ◌++◌, ◌+◌, ◌<◌, ◌≤◌, ◌^◌, ◌-◌, min, ℕ, true, false, List, [], ◌∷◌, map, Option, Some, None, Ok, Err, refl, ap, sym, subst, arith, inl, inr, append_assoc, append-nil}
use mathlib.Core.List.{IsPrefix}
use Rattle.desk_core.specs.Interleaving.{Rules, World, happens, told, run}
use Rattle.http_reply.specs.Sent.{TookFront}
use Rattle.outside.specs.Outside.{SourceTold, SinkTold, Gave, Took, Rose}
use Rattle.outside.proofs.Known.{Gave-then, Gave-none, Took-then, Took-none}
use Rattle.schedule_lines.specs.Limits.{most_lines}
use Rattle.schedule_lines.specs.Scripts.{Script, script_of}
use Rattle.schedule_lines.specs.Reading.{Reading, unread, StandsBehind, ReadsOn}
use Rattle.schedule_lines.specs.declared.reader.ScriptStop.TheVariants as stops
use Rattle.schedule_lines.specs.declared.step.Step.{Step}
use Rattle.schedule_run.specs.Events.{Asking, event_of}
use Rattle.schedule_run.specs.Printed.{line_of, printed, bad_line}
use Rattle.schedule_run.specs.Runs.{TookMessage, Ends, Scheduled, Performs, Refuses}
use Rattle.schedule_run.specs.declared.end.End.{End}
use Rattle.schedule_run.specs.declared.end.End.TheVariants.{Over, NotValid, ReadFault, WriteFault, Starved}

-- a count that rose in a part of the run rose in the run
rose_since : (a b c : ℕ) → a ≤ b → Rose b c → Rose a c
rose_since a b c le rose = omega (arith, le, rose)

-- a message behind lines
message_behind : (empty full fuller : SinkTold) (lines : List ℕ) (n : ℕ) → Took empty full lines
    → (Took full fuller (bad_line n)) ⊎ (Rose full.faults fuller.faults × TookFront full fuller (bad_line n)) → TookMessage empty fuller lines (bad_line n)
message_behind empty full fuller lines n done (inl took) = inl (Took-then empty full fuller lines (bad_line n) done took)
message_behind empty full fuller lines n done (inr (rose, (front, rest, is, took))) =
    inr (rose_since empty.faults full.faults fuller.faults done.later rose, (front, rest, is, Took-then empty full fuller lines front done took))

module _ {S C Q A X : Type 0} (m : Rules S C Q A X) (a : Asking C Q A X) where
  -- what is printed of two lists of steps, one after the other
  printed_more : (w : World S C) (xs ys : List Step) → printed m a w (xs ++ ys) ≡ printed m a w xs ++ printed m a (run m w (map (event_of a) xs)) ys
  printed_more w [] ys = refl
  printed_more w (x ∷ xs) ys =
      let line = line_of a x.session (told m w (event_of a x)) in
      let next = happens m w (event_of a x) in
      ap (λ t. line ++ t) (printed_more next xs ys) ∙ sym (append_assoc line (printed m a next xs) (printed m a (run m next (map (event_of a) xs)) ys))

  -- and of one step more
  printed_step : (w : World S C) (xs : List Step) (x : Step) → printed m a w (xs ++ x ∷ []) ≡ printed m a w xs ++ line_of a x.session (told m (run m w (map (event_of a) xs)) (event_of a x))
  printed_step w xs x = printed_more w xs (x ∷ []) ∙ ap (λ t. printed m a w xs ++ t) (append-nil (line_of a x.session (told m (run m w (map (event_of a) xs)) (event_of a x))))

  run_step : (w : World S C) (xs : List Step) (x : Step) → run m w (map (event_of a) (xs ++ x ∷ [])) ≡ happens m (run m w (map (event_of a) xs)) (event_of a x)
  run_step w [] x = refl
  run_step w (y ∷ xs) x = run_step (happens m w (event_of a y)) xs x

  -- a front of the line of a step is a front of the lines of all steps behind which it stands
  front_of_all : (w v : World S C) (empty full fuller : SinkTold) (steps : List Step) (step : Step) (all : List Step) → v ≡ run m w (map (event_of a) steps)
      → Took empty full (printed m a w steps) → IsPrefix (steps ++ step ∷ []) all → TookFront full fuller (line_of a step.session (told m v (event_of a step)))
      → TookFront empty fuller (printed m a w all)
  front_of_all w v empty full fuller steps step all world done (later, is) (front, rest, line, took) =
      let lines = printed m a w steps in
      let tail = printed m a (run m w (map (event_of a) (steps ++ step ∷ []))) later in
      let whole : printed m a w all ≡ (lines ++ (front ++ rest)) ++ tail =
      ap (printed m a w) (sym is) ∙ (printed_more w (steps ++ step ∷ []) later
      ∙ ap (λ t. t ++ tail) (printed_step w steps step ∙ ap (λ t. lines ++ t) (ap (λ x. line_of a step.session (told m x (event_of a step))) (sym world) ∙ line))) in (
        lines ++ front,
        rest ++ tail,
        whole ∙ (ap (λ t. t ++ tail) (sym (append_assoc lines front rest)) ∙ append_assoc (lines ++ front) rest tail),
        Took-then empty full fuller lines front done took,
      )

  -- the run so far: the text that the source gave, the steps that were read of it, made and printed, and the reader behind them
  pub record Going (w : World S C) (before : SourceTold) (empty : SinkTold) (r : Reading) (v : World S C) (after : SourceTold) (full : SinkTold) : Type 0 where
    pub text : List ℕ
    pub steps : List Step
    pub gave : Gave before after text
    pub stands : StandsBehind text steps r after.ended
    pub world : v ≡ run m w (map (event_of a) steps)
    pub took : Took empty full (printed m a w steps)

  pub going_none : (w : World S C) (before : SourceTold) (empty : SinkTold) (r : Reading) → StandsBehind [] [] r before.ended → Going w before empty r w before empty
  going_none w before empty r s = record {
    text = [];
    steps = [];
    gave = Gave-none before before refl refl (omega arith);
    stands = s;
    world = refl;
    took = Took-none empty empty refl (omega arith);
  }

  module _ {w v : World S C} {before after next : SourceTold} {empty full : SinkTold} {r t : Reading} (g : Going w before empty r v after full) where
    -- one step more
    pub going_more : (step : Step) (u : World S C) (fuller : SinkTold) → ReadsOn g.text g.steps r t after next (Ok (Some step)) → Performs m a step.session (event_of a step) v u full fuller None → Going w before empty t u next fuller
    going_more step u fuller h p = record {
      text = g.text ++ h.got;
      steps = g.steps ++ step ∷ [];
      gave = Gave-then before after next g.text h.got g.gave h.gave;
      stands = h.answers.0;
      world = p.0 ∙ (ap (λ x. happens m x (event_of a step)) g.world ∙ sym (run_step w g.steps step));
      took = subst (Took empty fuller) (sym (printed_step w g.steps step))
          (Took-then empty full fuller (printed m a w g.steps) _ g.took (subst (λ x. Took full fuller (line_of a step.session (told m x (event_of a step)))) g.world p.1));
    }

    -- the number of the next line grows, and is bounded
    pub counts_on : (step : Step) → ReadsOn g.text g.steps r t after next (Ok (Some step)) → most_lines + 1 - t.number < most_lines + 1 - r.number
    counts_on step h = omega (arith, h.answers.2, h.answers.3)

    -- the script has ended
    pub run_over : ReadsOn g.text g.steps r t after next (Ok None) → Scheduled m a w before empty next full Over
    run_over h = record {
      text = g.text ++ h.got;
      gave = Gave-then before after next g.text h.got g.gave h.gave;
      ends = (
        h.answers.0,
        ap (λ (s : Script). s.bad) h.answers.1,
        subst (λ steps. Took empty full (printed m a w steps)) (sym (ap (λ (s : Script). s.steps) h.answers.1)) g.took,
      );
    }

    -- the source has failed
    pub run_unread : ReadsOn g.text g.steps r t after next (Err stops.ReadFault) → Scheduled m a w before empty next full ReadFault
    run_unread h = record {
      text = g.text ++ h.got;
      gave = Gave-then before after next g.text h.got g.gave h.gave;
      ends = (
        rose_since before.faults after.faults next.faults g.gave.later h.answers.0,
        ap (λ (s : Script). s.bad) h.answers.1,
        subst (λ steps. Took empty full (printed m a w steps)) (sym (ap (λ (s : Script). s.steps) h.answers.1)) g.took,
      );
    }

    -- memory was wanted for a line
    pub run_starved : ReadsOn g.text g.steps r t after next (Err stops.Memory) → Scheduled m a w before empty next full Starved
    run_starved h = record { text = g.text ++ h.got; gave = Gave-then before after next g.text h.got g.gave h.gave; ends = (g.steps, h.answers, g.took) }

    -- a line is not valid
    pub run_refused : (n : ℕ) (fuller : SinkTold) (end : End) → ReadsOn g.text g.steps r t after next (Err (stops.NotValid n)) → Refuses n full fuller end → Scheduled m a w before empty next fuller end
    run_refused n fuller (NotValid k) h (same, how) = record {
      text = g.text ++ h.got;
      gave = Gave-then before after next g.text h.got g.gave h.gave;
      ends = (
        ap (λ (s : Script). s.bad) h.answers ∙ ap Some (sym same),
        subst (λ j. TookMessage empty fuller (printed m a w (script_of next.ended (g.text ++ h.got)).steps) (bad_line j)) (sym same)
            (subst (λ steps. TookMessage empty fuller (printed m a w steps) (bad_line n)) (sym (ap (λ (s : Script). s.steps) h.answers)) (message_behind empty full fuller (printed m a w g.steps) n g.took how)),
      );
    }
    run_refused n fuller Starved h same = record {
      text = g.text ++ h.got;
      gave = Gave-then before after next g.text h.got g.gave h.gave;
      ends = (g.steps, ([], append-nil g.steps ∙ sym (ap (λ (s : Script). s.steps) h.answers)), subst (λ f. Took empty f (printed m a w g.steps)) (sym same) g.took);
    }
    run_refused n fuller Over h x = absurd x
    run_refused n fuller ReadFault h x = absurd x
    run_refused n fuller WriteFault h x = absurd x

    -- a step was made, or not, and its line was not written whole
    pub run_stopped : (step : Step) (u : World S C) (fuller : SinkTold) (end : End) → ReadsOn g.text g.steps r t after next (Ok (Some step)) → Performs m a step.session (event_of a step) v u full fuller (Some end) → Scheduled m a w before empty next fuller end
    run_stopped step u fuller WriteFault h (rose, took) = record {
      text = g.text ++ h.got;
      gave = Gave-then before after next g.text h.got g.gave h.gave;
      ends = (
        rose_since empty.faults full.faults fuller.faults g.took.later rose,
        front_of_all w v empty full fuller g.steps step (script_of next.ended (g.text ++ h.got)).steps g.world g.took h.answers.1 took,
      );
    }
    run_stopped step u fuller Starved h same = record {
      text = g.text ++ h.got;
      gave = Gave-then before after next g.text h.got g.gave h.gave;
      ends = (
        g.steps,
        (let (later, is) = h.answers.1 in (step ∷ later, sym (append_assoc g.steps (step ∷ []) later) ∙ is)),
        subst (λ f. Took empty f (printed m a w g.steps)) (sym same) g.took,
      );
    }
    run_stopped step u fuller Over h x = absurd x
    run_stopped step u fuller (NotValid n) h x = absurd x
    run_stopped step u fuller ReadFault h x = absurd x
