use Rattle.cm_base.specs.OrderLaws.{value_order-total, value_order-exact}
use Rattle.cm_base.proofs.value.Value.order.Goals as goal

pub returns-clause-total : goal.returns-clause-total
returns-clause-total c = value_order-total

pub returns-clause-exact : goal.returns-clause-exact
returns-clause-exact c = value_order-exact
