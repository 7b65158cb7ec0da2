use Rattle.cm_see.specs.Seen.{value_seen}
use Rattle.show_json.specs.WrittenLaws.{described_written}
use Rattle.show_json.proofs.value.write_described.Goals as goal

pub returns : goal.returns
returns c =
    described_written c.args.out.now c.begin_object.new.self c.write_texts_before.new.out c.key.new.self c.write_seen.new.out c.end_object.new.self c.args.def.now (value_seen c.args.value.now)
    c.in_ok-begin_object.ensures c.in_ok-write_texts_before.ensures c.in_ok-key.ensures c.in_ok-write_seen.ensures c.in_ok-end_object.ensures
