use Rattle.std.proofs.Common.{sym, subst}
use Rattle.machine_operations.specs.Operands.{AreRead, ReadsAll}
use Rattle.machine_operations.specs.declared.operands.Values.TheVariants.{One, Two, Three}
use Rattle.machine_operations.proofs.Reading.{second_is_read, key_is_read, given_is_read, reads_one, reads_twice, reads_two, reads_three}
use Rattle.machine_operations.proofs.operands.read_operands.Goals as goal

pub read_operand-right-requires-clause-there : goal.read_operand-right-requires-clause-there
read_operand-right-requires-clause-there c = second_is_read (subst (AreRead c.args.world.now) c.in-Two.is c.requires.there) c.read_operand-left.ensures

pub read_operand-k-requires-clause-there : goal.read_operand-k-requires-clause-there
read_operand-k-requires-clause-there c = key_is_read (subst (AreRead c.args.world.now) c.in-Three.is c.requires.there) c.read_operand-o.ensures

pub read_operand-v-requires-in-Three-clause-there : goal.read_operand-v-requires-in-Three-clause-there
read_operand-v-requires-in-Three-clause-there c =
    given_is_read (subst (AreRead c.args.world.now) c.in-Three.is c.requires.there) c.read_operand-o.ensures c.read_operand-k.ensures

pub returns-in-One : goal.returns-in-One
returns-in-One c =
    let W = c.args.world.now in
    subst (λ xs. ReadsAll W xs (One c.read_operand.result)) (sym c.in-One.is) (reads_one W c.in-One.from c.read_operand.result c.read_operand.ensures)

pub returns-in-Twice : goal.returns-in-Twice
returns-in-Twice c =
    let W = c.args.world.now in
    let v = c.read_operand-v.result in
    subst (λ xs. ReadsAll W xs (Two v v)) (sym c.in-Twice.is) (reads_twice W c.in-Twice.from v c.read_operand-v.ensures)

pub returns-in-Two : goal.returns-in-Two
returns-in-Two c =
    let W = c.args.world.now in
    let t = c.in-Two in
    subst (λ xs. ReadsAll W xs c.in_order.result) (sym t.is)
    (subst (ReadsAll W _) (sym c.in_order.ensures) (reads_two W t.first t.second t.swapped c.read_operand-left.result c.read_operand-right.result c.read_operand-left.ensures c.read_operand-right.ensures))

pub returns-in-Three : goal.returns-in-Three
returns-in-Three c =
    let W = c.args.world.now in
    let t = c.in-Three in
    let o = c.read_operand-o in
    let k = c.read_operand-k in
    let v = c.read_operand-v-in-Three in
    subst (λ xs. ReadsAll W xs (Three o.result k.result v.result)) (sym t.is) (reads_three W t.object t.key t.given o.result k.result v.result o.ensures k.ensures v.ensures)
