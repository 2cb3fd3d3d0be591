use Rattle.std.proofs.Common.{inl, inr}
use Rattle.node_looks.proofs.OrderLaws.{table_far, table_more}
use Rattle.node_looks.proofs.orders.note_order.Goals as goal

pub returns-then-i-ge16 : goal.returns-then-i-ge16
returns-then-i-ge16 c = λ path is. table_far path c.args.table.now c.args.i c.args.j (inl c.if-i-ge16.true) is

pub returns-then-j-ge16 : goal.returns-then-j-ge16
returns-then-j-ge16 c = λ path is. table_far path c.args.table.now c.args.i c.args.j (inr c.if-j-ge16.true) is

pub returns : goal.returns
returns c = λ path is. table_more path c.args.table.now c.args.i c.args.j c.if-i-ge16.false c.if-j-ge16.false is
