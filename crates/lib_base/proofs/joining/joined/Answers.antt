use Rattle.std.proofs.Common.{rules, ◌≡◌, ◌+◌, ap, sym, ◌∙◌, subst, map, Ok, Err, length}
use Rattle.std.specs.Prelude.{codes}
use Rattle.int_core.specs.Value.{a_table, greatest_string, object, shape}
use Rattle.library_arguments.specs.Refusals.{refusal_text}
use Rattle.library_arguments.specs.Shapes.{shape_of}
use Rattle.library_arguments.specs.declared.refusal.Fault.TheVariants.{Refused}
use Rattle.library_rows.specs.Arguments.{text_argument}
use Rattle.library_rows.specs.Base.{joined_text}
use Rattle.lib_base.specs.Lists.{IsText, items_from}
use Rattle.pure_functions.specs.Answers.{heap_of}
use Rattle.lib_base.proofs.JoinRows.{IsJoined, no_room, not_pushed, not_read, piece_added}
use Rattle.lib_base.proofs.ListRows.{item_shape}
use Rattle.lib_base.proofs.Seen.{read_there}
use Rattle.lib_base.proofs.joining.joined.Goals as goal

pub shape-requires : goal.shape-requires
shape-requires c = read_there c.strings_are_there.ensures c.args.world.now c.args.arguments.now c.requires.stands _ _ c.read_field-item.result c.read_field-item.ensures

pub returns-in_err-piece : goal.returns-in_err-piece
returns-in_err-piece c =
    let W = c.args.world.now in
    let t = object a_table c.args.id.0 in
    let s = item_shape W c.args.id (c.loop-i.i + 1) c.read_field-item.result (shape_of c.shape.result) (search rules) c.shape.ensures in
    let why = refusal_text c.in_err-piece.field-0.0 in
    let e : text_argument (codes "join") 1 (shape_of c.shape.result) ≡ Err why = search rules in
    let r : c.from_residual.result ≡ Err (Refused c.in_err-piece.field-0.0) = search rules in
    subst (λ r. IsText r (joined_text (map shape (items_from (heap_of W) t c.args.many 1)) greatest_string)) (sym r)
    (not_read (heap_of W) t c.args.many c.loop-i.i c.loop-i.text c.loop-i.invariant (search rules) why (ap (text_argument (codes "join") 1) s ∙ e))

pub returns-in-Err : goal.returns-in-Err
returns-in-Err c =
    let W = c.args.world.now in
    let s = item_shape W c.args.id (c.loop-i.i + 1) c.read_field-item.result (shape_of c.shape.result) (search rules) c.shape.ensures in
    let e : text_argument (codes "join") 1 (shape_of c.shape.result) ≡ Ok c.as_slice.result.now = search rules in
    not_pushed c.in-Err.why c.fault_of.result (length c.loop-i.text + length c.as_slice.result.now) _ c.fault_of.ensures c.in-Err.ensures.refused
    (no_room (heap_of W) (object a_table c.args.id.0) c.args.many c.loop-i.i c.loop-i.text c.loop-i.invariant (search rules) c.as_slice.result.now (ap (text_argument (codes "join") 1) s ∙ e))

pub loop-i-preserved : goal.loop-i-preserved
loop-i-preserved c =
    let W = c.args.world.now in
    let t = object a_table c.args.id.0 in
    let s = item_shape W c.args.id (c.loop-i.i + 1) c.read_field-item.result (shape_of c.shape.result) (search rules) c.shape.ensures in
    let e : text_argument (codes "join") 1 (shape_of c.shape.result) ≡ Ok c.as_slice.result.now = search rules in
    subst (IsJoined (heap_of W) t c.args.many (c.loop-i.i + 1)) (sym c.in_default.ensures.joined)
    (piece_added (heap_of W) t c.args.many c.loop-i.i c.loop-i.text c.loop-i.invariant (search rules) c.as_slice.result.now (ap (text_argument (codes "join") 1) s ∙ e) c.in_default.ensures.fits)
