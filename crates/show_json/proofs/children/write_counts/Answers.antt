use Rattle.show_json.specs.WrittenLaws.{counts_written}
use Rattle.show_json.proofs.children.write_counts.Goals as goal

pub returns : goal.returns
returns c = counts_written c.args.out.now c.write_more.new.out c.write_count.new.out c.args.more c.args.count c.in_ok-write_more.ensures c.in_ok-write_count.ensures
