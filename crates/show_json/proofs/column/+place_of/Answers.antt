use Rattle.std.proofs.Common.{◌∙◌, sym}
use Rattle.show_json.proofs.Placed.{put_first, put_later}
use Rattle.show_json.proofs.column.+place_of.Goals as goal

pub returns-in-empty-clause-place : goal.returns-in-empty-clause-place
returns-in-empty-clause-place t c = put_first c.args.columns.now c.args.column.now c.in-empty.len_below

pub returns-in-Greater-clause-place : goal.returns-in-Greater-clause-place
returns-in-Greater-clause-place t c =
    put_later c.args.columns.now c.first-item.result c.args.column.now c.place_of-at.result.1 c.place_of-at.result.0
    c.in-len1-up.len_at_least c.first-item.is (sym c.order.ensures ∙ c.in-Greater.is) c.place_of-at.ensures.place
