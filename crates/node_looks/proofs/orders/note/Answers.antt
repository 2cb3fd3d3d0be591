use Rattle.std.proofs.Common.{refl}
use Rattle.node_looks.proofs.OrderLaws.{table_side}
use Rattle.node_looks.proofs.orders.note.Goals as goal

pub returns-in-Before : goal.returns-in-Before
returns-in-Before c = λ path is. rw c.in-Before.is (c.note_order.ensures path is)

pub returns-in-Side : goal.returns-in-Side
returns-in-Side c = λ path is. rw c.in-Side.is (table_side path c.args.table.now _ (λ i j. refl) is)
