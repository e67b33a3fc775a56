use Rattle.std.proofs.Common.{sym, ◌∙◌, true≢false}
use Rattle.graph_core.proofs.Pairs.{decides_not, not_here, not_there, same_pairs}
use Rattle.graph_core.proofs.inverting.inverse.Goals as goal
use Rattle.graph_core.proofs.inverting.inverse.Goals.{then-have_keys_among, else-have_keys_among}

pub returns-then-have_keys_among-2 : goal.returns-then-have_keys_among-2
returns-then-have_keys_among-2 c = elim c.if-have_keys_among.branch [
  | then-have_keys_among w ↦ same_pairs c.args.forth.now.keys.entries c.args.back.now.keys.entries c.have_keys_among.result w.have_keys_among-then-have_keys_among.result c.has_each_key_once.result
      c.have_keys_among.ensures w.have_keys_among-then-have_keys_among.ensures c.has_each_key_once.ensures.keys c.has_each_key_once.ensures.objects w.if-have_keys_among.true (sym w.value-is ∙ c.if-have_keys_among-2.true)
  | else-have_keys_among w ↦ absurd (true≢false (sym c.if-have_keys_among-2.true ∙ (w.value-is ∙ w.if-have_keys_among.false)))
]

pub returns-else-have_keys_among-2 : goal.returns-else-have_keys_among-2
returns-else-have_keys_among-2 c = decides_not c.if-have_keys_among.value c.if-have_keys_among-2.false (elim c.if-have_keys_among.branch [
  | then-have_keys_among w ↦ not_here c.args.forth.now.keys.entries c.args.back.now.keys.entries w.have_keys_among-then-have_keys_among.result w.have_keys_among-then-have_keys_among.ensures (sym w.value-is ∙ c.if-have_keys_among-2.false)
  | else-have_keys_among w ↦ not_there c.args.forth.now.keys.entries c.args.back.now.keys.entries c.have_keys_among.result c.have_keys_among.ensures w.if-have_keys_among.false
])
