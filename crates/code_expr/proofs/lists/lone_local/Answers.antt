use Rattle.std.proofs.Common.{rules, ◌≡◌, length, sym, ap, ◌∙◌}
use Rattle.std.specs.Prelude.{slice_index_or}
use Rattle.code_of.specs.Operands.{lone_local}
use Rattle.code_constants.proofs.Rows.{single}
use Rattle.code_expr.proofs.Rows.{none_lone}
use Rattle.code_expr.proofs.lists.lone_local.Goals as goal

pub returns-then-len-ne1 : goal.returns-then-len-ne1
returns-then-len-ne1 c =
    let es = c.args.list.now.items in
    let size : c.len.result ≡ length es = search rules in
    none_lone es (λ h. c.if-len-ne1.true (size ∙ h))

pub returns : goal.returns
returns c =
    let only = c.index-only.result.now in
    let size : length c.args.list.now.items ≡ 1 = search rules in
    let first : only ≡ slice_index_or c.args.list.now.items 0 only = search rules in
    c.local_of.ensures ∙ sym (ap lone_local (single c.args.list.now.items only size first))
