use Rattle.std.proofs.Common.{◌≡◌, List, None, length, subst, arith, rules}
use Rattle.std.proofs.lemmas.List.{take_all}
use Rattle.graph_core.specs.declared.object.Object.{Object}
use Rattle.eris_write.specs.Output.{Puts}
use Rattle.eris_write.proofs.Recorded.{next_sort, sorts_of}
use Rattle.eris_write.proofs.records.put_sort_bytes.Goals as goal

pub loop-at-preserved : goal.loop-at-preserved
loop-at-preserved c = next_sort c.args.objects.now.keys c.loop-at.at c.object_at.result c.sort_code.result _ _ _ c.object_at.ensures c.sort_code.ensures c.loop-at.invariant c.in_ok-put_byte.ensures

pub returns : goal.returns
returns c =
    let t = c.loop-at-test.false in
    let e : c.len-at-end.result ≡ length c.args.objects.now.keys = search rules in
    subst (λ (os : List Object). Puts c.args.out.now c.loop-at.out None (λ _. sorts_of os)) (take_all c.loop-at.at c.args.objects.now.keys (omega (arith, t, e))) c.loop-at.invariant
