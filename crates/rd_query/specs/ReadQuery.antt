-- The answer to a query (CMIS 1.1, sections 2.1.14 and 2.2.6.1).
use Rattle.std.specs.Prelude.{ℕ, Bool, true, false, List, length, map, None, option_map, unwrap_or, Ok}
use Rattle.cm_base.specs.declared.value.Slot.{Slot}
use Rattle.cm_base.specs.Judged.{Judged, ◌>>=◌}
use Rattle.cm_types.specs.Properties.{value_in}
use Rattle.cmis_spec.specs.Repository.{Repository, object_at}
use Rattle.cm_include.specs.Included.{shown_beside}
use Rattle.include_parts.specs.declared.replies.ShownBeside.{ShownBeside}
use Rattle.ql_bind.specs.declared.bound.Bound.{Bound}
use Rattle.ql_bind.specs.declared.bound.ShownColumn.{ShownColumn}
use Rattle.ql_eval.specs.declared.row.Row.{Row}
use Rattle.ql_plan.specs.Found.{found}
use Rattle.query_parts.specs.declared.readings.ReadQuery.{ReadQuery}
use Rattle.query_parts.specs.declared.replies.ShownCell.{ShownCell}
use Rattle.query_parts.specs.declared.replies.ShownRow.{ShownRow}
use Rattle.query_parts.specs.declared.replies.ShownRow.TheVariants as rows
use Rattle.query_parts.specs.declared.replies.QueryRow.{QueryRow}
use Rattle.query_parts.specs.declared.replies.QueryReply.{QueryReply}
use Rattle.rd_nav.specs.ReadChildren.{page, has_more}
use Rattle.rd_query.specs.Said.{bound_of}

-- the value of a column, under its key; unset where the object lacks the property
abbrev pub slot_of : Row → ShownColumn → Slot
slot_of row c = record { id = c.key; value = value_in row.values c.property.id }

-- a column in full, under its key, which is its query name here: clients look columns up by it
abbrev pub cell_of : Row → ShownColumn → ShownCell
cell_of row c = record {
  key = c.key;
  property = record {
    id = c.property.id;
    local_name = c.property.local_name;
    display_name = c.property.display_name;
    query_name = c.key;
    kind = c.property.kind;
    cardinality = c.property.cardinality;
    value = value_in row.values c.property.id;
  };
}

abbrev pub shown_row : Bool → List ShownColumn → Row → ShownRow
shown_row true columns row = rows.Succinct (map (slot_of row) columns)
shown_row false columns row = rows.Full (map (cell_of row) columns)

abbrev pub nothing_beside : ShownBeside
nothing_beside = record { actions = None; relationships = None; renditions = None; policy_ids = None; acl = None }

-- what is asked for beside the columns, of the row's object
abbrev pub row_beside : Repository → List ℕ → ReadQuery → Row → ShownBeside
row_beside r u q row = unwrap_or (option_map (shown_beside r u q.succinct q.includes) (object_at r row.id)) nothing_beside

abbrev pub query_row : Repository → List ℕ → ReadQuery → List ShownColumn → Row → QueryRow
query_row r u q columns row = record { columns = shown_row q.succinct columns row; beside = row_beside r u q row }

-- all rows are counted before the cut
abbrev pub query_reply : Repository → List ℕ → ReadQuery → List ShownColumn → List Row → QueryReply
query_reply r u q columns rows = record {
  rows = map (query_row r u q columns) (page q.skip_count q.max_items rows);
  has_more_items = has_more q.skip_count q.max_items rows;
  num_items = length rows;
}

abbrev pub answer_bound : Repository → List ℕ → ReadQuery → Bound → QueryReply
answer_bound r u q bound = query_reply r u q bound.columns (found r u bound q.all_versions)

-- the statement is read and bound, and its rows are found
abbrev pub answer_query : Repository → List ℕ → ReadQuery → Judged QueryReply
answer_query r u q = do
  bound ← bound_of r.types q.statement
  Ok (answer_bound r u q bound)
