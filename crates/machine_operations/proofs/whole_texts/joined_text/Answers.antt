use Rattle.std.proofs.Common.{rules, ◌≡◌, suc, ◌+◌, ◌-◌, ◌≤◌, arith, length, subst}
use Rattle.int_core.specs.Value.{greatest_string}
use Rattle.meta_ops.specs.Concat.{AppendsText}
use Rattle.machine_operations.specs.Joining.{MayJoin}
use Rattle.machine_operations.proofs.Joins.{can_read}
use Rattle.machine_operations.proofs.Wholes.{is_string, lower_read}
use Rattle.machine_operations.proofs.whole_texts.joined_text.Goals as goal

pub texts_in_front-requires-clause-there : goal.texts_in_front-requires-clause-there
texts_in_front-requires-clause-there c = λ below l.
    let W = c.args.world.now in
    let last = c.args.count - 1 in
    let e : c.args.count ≡ suc last = omega (arith, l) in
    lower_read W (c.args.first + last) (c.args.first + below) (omega (arith, l, e)) (can_read (subst (λ n. MayJoin W c.args.first n c.args.last) e c.requires.safe))

pub append_text-requires : goal.append_text-requires
append_text-requires c = let W = c.args.world.now in is_string W.strings W.tables.objects c.args.last c.requires.last

pub returns : goal.returns
returns c =
    let W = c.args.world.now in
    let some : 1 ≤ c.args.count = search (arith, rules) in
    let appends : AppendsText W.strings c.in_ok-text.text.items c.append_text.new.text.items c.args.last = c.in_ok-append_text.ensures in
    record {
      some = some;
      short = subst (λ t. length t ≤ greatest_string) c.as_slice.ensures.value (c.is_short.ensures c.if-not-is_short.false);
      front = c.in_ok-text.text.items;
      piece = appends.piece;
      are = c.in_ok-text.ensures;
      has = appends.has;
      is = appends.is;
    }
