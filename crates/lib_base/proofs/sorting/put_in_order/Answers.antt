use Rattle.std.proofs.Common.{rules}
use Rattle.lib_base.proofs.SortRows.{integers_can, others_cannot, texts_can}
use Rattle.lib_base.proofs.sorting.put_in_order.Goals as goal

pub returns-then-are_all : goal.returns-then-are_all
returns-then-are_all c = record {
  can = integers_can c.args.world.now.strings c.args.items.now (search rules);
  are = c.sort_integers.ensures.sorted c.args.world.now.strings;
  len = c.sort_integers.ensures.len;
}

pub returns-then-are_all-2 : goal.returns-then-are_all-2
returns-then-are_all-2 c = record {
  can = texts_can c.args.world.now.strings c.args.items.now (search rules) (search rules);
  are = c.sort_texts.ensures.sorted;
  len = c.sort_texts.ensures.len;
}

pub returns-else-are_all-2 : goal.returns-else-are_all-2
returns-else-are_all-2 c = (others_cannot c.args.world.now.strings c.args.items.now (search rules) (search rules), c.bad_argument.ensures)
