use Rattle.std.proofs.Common.{◌≡◌, ◌+◌, rules, arith}
use Rattle.frame_calls.proofs.spreading.list_end.Goals as goal

pub returns : goal.returns
returns c =
    let ends : c.in_ok-end.end ≡ c.in_ok-from.from + c.opened.result = search (rules, arith) in
    record {
      before = c.in_ok-before.before;
      in_front = c.in_ok-before.ensures;
      from = c.in_ok-from.from;
      is_open = c.in_ok-from.ensures;
      many = c.opened.result;
      counts = c.opened.ensures;
      ends = ends;
    }
