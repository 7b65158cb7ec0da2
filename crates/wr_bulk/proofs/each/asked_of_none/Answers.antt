use Rattle.std.proofs.Common.{rules, ◌≡◌, []}
use Rattle.std.specs.Prelude.{None}
use Rattle.bulk_parts.specs.declared.writes.ObjectIdAndChangeToken.{ObjectIdAndChangeToken}
use Rattle.wr_bulk.specs.BulkUpdate.{update_of}
use Rattle.wr_bulk.proofs.each.asked_of_none.Goals as goal

-- of an object without an id and without a token
abbrev no_object : ObjectIdAndChangeToken
no_object = record { id = []; token = None }

pub returns : goal.returns
returns c = record { object = no_object; is = search rules }
