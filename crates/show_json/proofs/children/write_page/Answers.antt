use Rattle.std.proofs.Common.{◌++◌, ◌∙◌, ap, map}
use Rattle.json_text.specs.Build.{list_data}
use Rattle.json_text.specs.Tokens.{tokens_of}
use Rattle.cm_map.specs.Parts.{pointee}
use Rattle.show_json.specs.Columns.{children_in}
use Rattle.show_json.specs.WrittenLaws.{page_written}
use Rattle.show_json.proofs.children.write_page.Goals as goal

pub returns : goal.returns
returns c =
    page_written c.args.out.now c.begin_object.new.self c.write_counts.new.out c.key.new.self c.write_objects.new.out c.end_object.new.self c.args.state.now c.args.user.now c.args.q.now c.args.children.now c.page-shown.result.now c.has_more-more.result
    c.page-shown.ensures c.has_more-more.ensures c.in_ok-begin_object.ensures c.in_ok-write_counts.ensures c.in_ok-key.ensures
    (c.in_ok-write_objects.ensures ∙ ap (λ a. c.key.new.self ++ tokens_of (list_data (children_in a (map pointee c.page-shown.result.now)))) c.new-ask.ensures)
    c.in_ok-end_object.ensures
