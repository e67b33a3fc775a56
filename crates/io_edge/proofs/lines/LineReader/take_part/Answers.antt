-- What is taken is a front of the pending bytes.
use Rattle.std.proofs.Common.{rules, arith, ◌≡◌, ◌+◌, ◌-◌, ◌≤◌, ◌++◌, length, take, drop, sym, ap, inl, inr, length-append}
use Rattle.std.proofs.lemmas.List.{take-append-drop, length-take, length-take-le}
use Rattle.std.proofs.lemmas.Grind.{common_steps}
use mir.Val.{bool_byte}
use Rattle.io_edge.proofs.PartLemmas.{part_within, range_behind, takes_part}
use Rattle.io_edge.proofs.lines.LineReader.take_part.Goals as goal

pub returns-then-length-gt-MAX_LINE_BYTES-clause-limit :
    goal.returns-then-length-gt-MAX_LINE_BYTES-clause-limit
returns-then-length-gt-MAX_LINE_BYTES-clause-limit c = λ _.
    let count = c.next_part-count.result.0 in
    let pending = c.args.self.now.pending in
    record {
      part = take count pending;
      rest = drop count pending;
      front = sym (take-append-drop count pending);
      unbroken = c.next_part-count.ensures.unbroken;
      past = inl (omega (arith, length-append c.args.line.now.items (take count pending), length-take-le count pending c.next_part-count.ensures.within, c.args.line.now.ok.0));
    }

pub returns-then-self-length-gt-MAX_INPUT_BYTES-clause-limit :
    goal.returns-then-self-length-gt-MAX_INPUT_BYTES-clause-limit
returns-then-self-length-gt-MAX_INPUT_BYTES-clause-limit c = λ _.
    let count = c.next_part-count.result.0 in
    let pending = c.args.self.now.pending in
    let line = c.args.line.now in
    let taken : c.args.self.now.taken ≡ c.self.inside.taken = search rules in
    record {
      part = take count pending;
      rest = drop count pending;
      front = sym (take-append-drop count pending);
      unbroken = c.next_part-count.ensures.unbroken;
      past = inr (omega (arith, length-append line.items (take count pending), length-take-le count pending c.next_part-count.ensures.within, line.ok.0));
    }

pub returns-clause-part : goal.returns-clause-part
returns-clause-part c =
    let count = c.next_part-count.result.0 in
    let ended = c.next_part-count.result.1 in
    let start = c.self.inside.start in
    let end = c.self.inside.end in
    let bytes = c.self.inside.buffer.items in
    let pending = c.args.self.now.pending in
    let seen : pending ≡ take (end - start) (drop start bytes) = search rules in
    let inside : count + bool_byte ended ≤ length pending = part_within pending count ended c.next_part-count.ensures.ended in
    let whole : length pending ≤ end - start = omega (arith, ap length seen, length-take (end - start) (drop start bytes)) in
    let within : count + c.from.result ≤ end - start = omega (arith, c.from.ensures) in
    let behind : take (end - (start + (count + c.from.result))) (drop (start + (count + c.from.result)) bytes) ≡ drop (count + bool_byte ended) pending =
    rw (seen, ← c.from.ensures) (sym (range_behind bytes start end (count + c.from.result) within)) in
    let given : c.extend_from_slice.new.self.items ≡ c.args.line.now.items ++ take (start + count - start) (drop start bytes) =
    rw (← c.deref.ensures.value) c.in_ok-extend_from_slice.ensures.items in
    let part : take (start + count - start) (drop start bytes) ≡ take count (take (end - start) (drop start bytes)) = grind (arith, common_steps) in
    let added : c.extend_from_slice.new.self.items ≡ c.args.line.now.items ++ take count pending = rw (seen, ← part) given in
    takes_part pending _ _ _ count ended c.next_part-count.ensures.unbroken c.next_part-count.ensures.ended behind added
