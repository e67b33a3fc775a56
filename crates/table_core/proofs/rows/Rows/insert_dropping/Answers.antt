use Rattle.std.proofs.Common.{◌≡◌, ◌≢◌, ◌+◌, ◌++◌, filter, length, sym, ◌∙◌, ap, subst, arith}
use Rattle.std.specs.Prelude.{pos}
use Rattle.int_core.specs.Rows.{IsBorder, is_filled}
use Rattle.table_core.specs.declared.value.Value.TheVariants.{Int}
use Rattle.table_core.specs.Places.{IsAbsent, numbered}
use Rattle.table_core.specs.Value.{lua_values}
use Rattle.table_core.proofs.DropLemmas.{IsDropped, dropped-pushed}
use Rattle.table_core.proofs.NumberedLemmas.{distinct-right}
use Rattle.table_core.proofs.SplitLemmas.{length-all}
use Rattle.table_core.proofs.rows.Rows.insert_dropping.Goals as goal

pub push-requires-clause-distinct : goal.push-requires-clause-distinct
push-requires-clause-distinct c = distinct-right (numbered 0 c.self.inside.array.items) c.self.inside.keyed c.self.invariant.distinct

dropped : (c : goal.After-len-2) → IsDropped c.self.inside.array.items c.self.inside.keyed c.drop_cleared.new.self c.args.key c.args.value
dropped c =
    let xs = c.self.inside.array.items in
    let keyed = c.self.inside.keyed in
    let size : c.args.border ≡ length xs = omega (arith, c.len-numbered.ensures, c.self.inside.array.ok.0, c.if-numbered-border.false) in
    let absent : IsAbsent (numbered 0 xs ++ keyed) c.args.key = rw (← c.self.view_is) at c.requires.absent in
    let before : IsBorder lua_values (numbered 0 xs ++ keyed) c.args.border = rw (← c.self.view_is) at c.requires.border in
    let border : IsBorder lua_values (numbered 0 xs ++ keyed) (length xs) = subst (λ n. IsBorder lua_values (numbered 0 xs ++ keyed) n) size before in
    let other : c.args.key ≢ Int (pos (length xs + 1)) = λ next. c.if-place_of-border.false ((c.place_of.ensures (length xs) (omega (arith, c.self.invariant.few))).1 next ∙ sym size) in
    dropped-pushed xs keyed c.self.invariant border c.drop_cleared.new.self c.args.key c.args.value absent c.requires.filled other
    (c.drop_cleared.ensures ∙ ap (filter (is_filled lua_values)) c.in_ok-push.ensures.added)
    (omega (arith, c.len.ensures, c.len-numbered.ensures, c.self.inside.array.ok.0, c.if-len-numbered.false))

pub overflow_add-result : goal.overflow_add-result
overflow_add-result c = omega (arith, c.len-numbered.ensures, c.self.inside.array.ok.0, c.len-2.ensures, (dropped c).split.few)

pub invariant_of-self-2 : goal.invariant_of-self-2
invariant_of-self-2 c = (dropped c).split

pub returns-clause-added : goal.returns-clause-added
returns-clause-added c = rw (← c.self.view_is) (dropped c).added

pub returns-clause-distinct : goal.returns-clause-distinct
returns-clause-distinct c = (dropped c).split.distinct

pub returns-clause-len : goal.returns-clause-len
returns-clause-len c = omega (arith, c.len-numbered.ensures, c.self.inside.array.ok.0, c.len-2.ensures, length-all c.self.inside.array.items c.drop_cleared.new.self (dropped c).split)

pub returns-clause-small : goal.returns-clause-small
returns-clause-small c = omega (arith, c.len-numbered.ensures, c.self.inside.array.ok.0, c.len-2.ensures, (dropped c).split.few)
