use Rattle.std.proofs.Common.{ap, ◌∙◌}
use Rattle.std.specs.Prelude.{is_some}
use Rattle.cm_types.specs.Types.{type_in}
use Rattle.wr_types.specs.CreateType.{new_type}
use Rattle.wr_types.proofs.Making.{new_there}
use Rattle.wr_types.proofs.create_type.create_type.Goals as goal

pub with_reply-requires : goal.with_reply-requires
with_reply-requires c =
    let q = c.args.call.now.definition in
    record {
      there = ap is_some (ap (λ s. type_in s.types q.id) (c.in_ok-made.ensures c.args.moment) ∙ new_there c.args.state.now.types q);
    }

pub returns-clause-written : goal.returns-clause-written
returns-clause-written c =
    let q = c.args.call.now.definition in (
      c.in_ok-types.ensures.0,
      c.in_ok-next.ensures.same ∙ c.in_ok-made.ensures c.args.moment,
      c.in_ok-next.ensures.shown (new_type c.args.state.now.types q) (ap (λ s. type_in s.types q.id) (c.in_ok-made.ensures c.args.moment) ∙ new_there c.args.state.now.types q),
    )
