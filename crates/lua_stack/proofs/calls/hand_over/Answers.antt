use Rattle.lua_stack.proofs.calls.hand_over.Goals as goal

pub returns : goal.returns
returns c = record {
  marked = c.keep_below-marked.result;
  layout = c.lay_out-layout.result;
  laid = c.lay_out-layout.ensures;
  waits = c.push_reserved.ensures.items;
  begins = c.begun.ensures;
  marks = c.keep_below-marked.ensures.kept;
  fewer = c.keep_below-marked.ensures.fewer;
  front = c.keep_below-marked.ensures.front;
  as_many = c.keep_below-marked.ensures.size;
}
