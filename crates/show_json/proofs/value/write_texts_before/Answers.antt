use Rattle.show_json.specs.WrittenLaws.{texts_written}
use Rattle.show_json.proofs.value.write_texts_before.Goals as goal

pub returns : goal.returns
returns c =
    texts_written c.args.out.now c.write_cardinality.new.out c.write_display_name.new.out c.write_id.new.out c.write_local_name.new.out c.write_query_name.new.out c.write_kind.new.out c.args.def.now
    c.in_ok-write_cardinality.ensures c.in_ok-write_display_name.ensures c.in_ok-write_id.ensures c.in_ok-write_local_name.ensures c.in_ok-write_query_name.ensures c.in_ok-write_kind.ensures
