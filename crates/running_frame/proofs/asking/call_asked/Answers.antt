use Rattle.std.proofs.Common.{◌≡◌, ◌≤◌, ◌+◌, length, None, rules, arith, subst, sym}
use Rattle.std.specs.Prelude.{IfSome}
use Rattle.int_core.specs.Limits.{greatest_depth}
use Rattle.frame_calls.specs.Calling.{program_of}
use Rattle.running_frame.specs.Asking.{IsAsked, operation_of}
use Rattle.running_frame.specs.Inheriting.{metatable_number}
use Rattle.running_frame.proofs.asking.call_asked.Goals as goal

pub returns-in_err-shape : goal.returns-in_err-shape
returns-in_err-shape c =
    let none : c.from_residual-in_err-shape.result ≡ None = search rules in
    subst (λ o. IfSome o (λ call. IsAsked c.args.stack.now c.args.heap.strings.now c.args.constants.now c.args.heap.tables.now.objects (metatable_number c.args.heap.string_meta) (program_of c.args.stop.functions) c.args.stop.word call)) (sym none) tt

pub returns : goal.returns
returns c =
    let deep : length c.args.stack.now.frames + 1 ≤ greatest_depth = search (rules, arith) in
    record {
      registers = c.registers.result.now;
      are = c.registers.ensures;
      object = c.in_ok-field.field.object;
      names = c.in_ok-field.ensures;
      operation = operation_of c.in_ok-kind.kind;
      is_operation = c.in_ok-kind.ensures;
      asks = c.in_ok-handler.ensures;
      has = c.in_ok-shape.ensures;
      room = deep;
    }
