use Rattle.std.proofs.Common.{◌≡◌, ◌+◌, ◌≤◌, [], length, take, drop, refl, sym, ap, ◌∙◌, arith}
use Rattle.std.proofs.lemmas.List.{drop-drop, length-drop}
use Rattle.form_parts.specs.declared.mark.Mark.TheVariants.{Plain, Last}
use Rattle.form_parts.specs.Reading.{lines_of}
use Rattle.form_parts.specs.Marks.{mark_of}
use Rattle.form_parts.proofs.Walks.{Walk-step, Walk-stops, Walk-fails}
use Rattle.form_parts.proofs.scan.scan.Goals as goal

pub returns-in-Last-clause-front : goal.returns-in-Last-clause-front
returns-in-Last-clause-front c =
    let here = c.tail-rest.ensures in
    let mark : mark_of c.args.boundary.now (drop c.loop-end.place c.args.body.now) ≡ Last = rw here at (sym c.line_mark.ensures ∙ c.in-Last.is) in
    let stops = Walk-stops c.args.boundary.now c.args.body.now c.args.from c.loop-end.place _ [] Last 0 c.loop-end.invariant (rw here at c.in_default.ensures.none) mark (λ e. cc) (λ e. absurd cc) in
    stops.front

pub returns-in-Last-clause-part : goal.returns-in-Last-clause-part
returns-in-Last-clause-part c =
    let here = c.tail-rest.ensures in
    let mark : mark_of c.args.boundary.now (drop c.loop-end.place c.args.body.now) ≡ Last = rw here at (sym c.line_mark.ensures ∙ c.in-Last.is) in
    let stops = Walk-stops c.args.boundary.now c.args.body.now c.args.from c.loop-end.place _ [] Last 0 c.loop-end.invariant (rw here at c.in_default.ensures.none) mark (λ e. cc) (λ e. absurd cc) in
    stops.part

pub returns-in_default-line_mark : goal.returns-in_default-line_mark
returns-in_default-line_mark c =
    let here = c.tail-rest.ensures in
    let mark : mark_of c.args.boundary.now (drop c.loop-end.place c.args.body.now) ≡ c.line_mark.result = rw here at (sym c.line_mark.ensures) in
    let fails = Walk-fails c.args.boundary.now c.args.body.now c.args.from c.loop-end.place _ c.line_mark.result c.loop-end.invariant (rw here at c.in_default.ensures.none) mark c.in_default-line_mark.not-Last in
    record { within = tt; further = tt; room = tt; front = tt; part = tt; no_front = fails.front; no_part = fails.part }

pub loop-end-preserved : goal.loop-end-preserved
loop-end-preserved c =
    let here = c.tail-rest.ensures in
    let mark : mark_of c.args.boundary.now (take c.in-Some.end (drop c.loop-end.place c.args.body.now)) ≡ Plain = rw here at (sym c.line_mark-in-loop-end.ensures ∙ c.in-Plain.is) in
    Walk-step c.args.boundary.now c.args.body.now c.args.from c.loop-end.place c.in-Some.end _ c.loop-end.invariant (rw here at c.in-Some.ensures.within) refl (rw here at c.in-Some.ensures.split) (rw here at c.in-Some.ensures.found) mark

pub returns-in_default-line_mark-2 : goal.returns-in_default-line_mark-2
returns-in_default-line_mark-2 c =
    let here = c.tail-rest.ensures in
    let w = c.loop-end.invariant in
    let mark : mark_of c.args.boundary.now (take c.in-Some.end (drop c.loop-end.place c.args.body.now)) ≡ c.line_mark-in-loop-end.result = rw here at (sym c.line_mark-in-loop-end.ensures) in
    let next : drop (c.in-Some.end + 2) (drop c.loop-end.place c.args.body.now) ≡ drop (c.loop-end.place + c.in-Some.end + 2) c.args.body.now = drop-drop (c.in-Some.end + 2) c.loop-end.place c.args.body.now ∙ ap (λ n. drop n c.args.body.now) (omega arith) in
    let stops = Walk-stops c.args.boundary.now c.args.body.now c.args.from c.loop-end.place _ _ c.line_mark-in-loop-end.result (c.loop-end.place + c.in-Some.end + 2) w (rw here at c.in-Some.ensures.found) mark c.in_default-line_mark-2.not-Plain (λ e. ap lines_of next) in
    let fits : c.in-Some.end + 2 ≤ length (drop c.loop-end.place c.args.body.now) = rw here at c.in-Some.ensures.within in
    let len = length-drop c.loop-end.place c.args.body.now in
    let low = w.low in let high = w.high in
    record {
      within = (low, high, omega (arith, fits, len, high));
      further = λ e. omega (arith, low);
      room = w.room;
      front = stops.front;
      part = stops.part;
      no_front = tt;
      no_part = tt;
    }
