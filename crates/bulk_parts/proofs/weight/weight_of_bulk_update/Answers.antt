use Rattle.std.proofs.Common.{◌+◌, ap, ◌∙◌}
use Rattle.std.specs.List.{flat_map}
use Rattle.call_parts.specs.Weight.{bounded, texts_of_given, weight_of_texts}
use Rattle.bulk_parts.specs.Weight.{weight_of_objects}
use Rattle.bulk_parts.proofs.Bounds.{from_nothing, weight_is}
use Rattle.bulk_parts.proofs.weight.weight_of_bulk_update.Goals as goal

pub returns : goal.returns
returns c =
    let call = c.args.call.now in
    let less = c.with_texts-less.ensures ∙ ap (λ ts. bounded (64 + weight_of_texts ts)) c.as_slice.ensures in
    let more = c.with_texts-more.ensures ∙ (λ i. bounded (less i + weight_of_texts (c.as_slice-2.ensures i))) in
    let given = c.with_givens-properties.ensures ∙ ap (λ gs. bounded (0 + weight_of_texts (flat_map texts_of_given gs))) c.as_slice-3.ensures
    ∙ from_nothing (weight_of_texts (flat_map texts_of_given call.properties)) in
    c.with_objects.ensures
    ∙ ((λ i. bounded (more i + weight_of_objects (given i) (c.as_slice-4.ensures i)))
    ∙ weight_is call.remove_secondary call.add_secondary (weight_of_texts (flat_map texts_of_given call.properties)) call.objects)
