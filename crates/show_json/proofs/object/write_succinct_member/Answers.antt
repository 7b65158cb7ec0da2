use Rattle.show_json.specs.WrittenLaws.{succinct_written}
use Rattle.show_json.proofs.object.write_succinct_member.Goals as goal

pub returns : goal.returns
returns c =
    succinct_written c.args.out.now c.key.new.self c.write_succinct_object.new.out c.args.sight.now c.args.columns.now
    c.in_ok-key.ensures c.in_ok-write_succinct_object.ensures
