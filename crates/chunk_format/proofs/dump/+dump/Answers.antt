use Rattle.std.proofs.Common.{rules, ◌≡◌, sym, ap, length, refl}
use Rattle.chunk_format.proofs.Kept.{OnOk-appended, inner-kept, function-kept}
use Rattle.chunk_format.proofs.dump.+dump.Goals as goal

pub write-returns : goal.write-returns
write-returns t c =
    OnOk-appended c.write_details.result _ _ _ c.write_details.ensures
    (function-kept c.args.parent.now c.args.strip c.args.proto.now c.args.out.now.items c.write_head.new.out.items c.write_lists.new.out.items c.write_inner.new.out.items
    c.in_ok-write_head.ensures c.in_ok-write_lists.ensures c.in_ok-write_inner.ensures)

pub write_inner-returns-then-strip : goal.write_inner-returns-then-strip
write_inner-returns-then-strip t c =
    let items : c.deref.result.now ≡ c.proto.inside.protos.items = c.deref.ensures.value in
    let len : c.len.result ≡ length c.proto.inside.protos.items = search rules in
    OnOk-appended c.write_all.result _ _ _ c.write_all.ensures
    (rw items
    (inner-kept c.args.strip c.args.proto.now c.proto.inside.protos.items c.len.result _ c.args.out.now.items c.write_number.new.out.items
    c.in_ok-write_number.ensures len (sym (ap (λ p. p.inner) c.proto.view_is)) (rw c.if-strip.true refl)))

pub write_inner-returns : goal.write_inner-returns
write_inner-returns t c =
    let items : c.deref-2.result.now ≡ c.proto.inside.protos.items = c.deref-2.ensures.value in
    let len : c.len.result ≡ length c.proto.inside.protos.items = search rules in
    OnOk-appended c.write_all-2.result _ _ _ c.write_all-2.ensures
    (rw items
    (inner-kept c.args.strip c.args.proto.now c.proto.inside.protos.items c.len.result _ c.args.out.now.items c.write_number.new.out.items
    c.in_ok-write_number.ensures len (sym (ap (λ p. p.inner) c.proto.view_is)) (rw c.if-strip.false (ap (λ p. p.own.source) c.proto.view_is))))
