use Rattle.std.proofs.Common.{sym, ap, ◌∙◌, ◌++◌, ◌∷◌, []}
use Rattle.std.specs.Prelude.{Some, unwrap_or}
use Rattle.form_parts.proofs.Gathering.{arguments-argument, arguments-content, content-argument, content-content, one-moves}
use Rattle.form_parts.proofs.gathered.gathered.Goals as goal

pub loop-part-preserved-in-Continue-1 : goal.loop-part-preserved-in-Continue-1
loop-part-preserved-in-Continue-1 c =
    let kept = c.loop-part.invariant in
    rw c.in-Argument.is (record {
      pairs = c.in_ok-push-in-Argument.ensures.items ∙ ap (λ ps. ps ++ c.in-Argument.pair ∷ []) kept.pairs ∙ sym (arguments-argument c.loop-part.yielded c.in-Argument.pair);
      content = kept.content ∙ sym (content-argument c.loop-part.yielded c.in-Argument.pair);
      parts = one-moves c.loop-part.yielded c.loop-part.part-iterator.rest.items c.next.new.self.rest.items c.args.parts.items _ kept.parts (rw c.in-Argument.is at c.in-Some.ensures.steps.0);
    })

pub loop-part-preserved : goal.loop-part-preserved
loop-part-preserved c =
    let kept = c.loop-part.invariant in
    rw c.in-Content.is (record {
      pairs = kept.pairs ∙ sym (arguments-content c.loop-part.yielded c.in-Content.stream);
      content = c.first-content.ensures ∙ ap (λ s. Some (unwrap_or s c.in-Content.stream)) kept.content ∙ sym (content-content c.loop-part.yielded c.in-Content.stream);
      parts = one-moves c.loop-part.yielded c.loop-part.part-iterator.rest.items c.next.new.self.rest.items c.args.parts.items _ kept.parts (rw c.in-Content.is at c.in-Some.ensures.steps.0);
    })
