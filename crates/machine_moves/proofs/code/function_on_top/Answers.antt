use Rattle.std.proofs.Common.{◌≡◌}
use Rattle.move_laws.proofs.Running.{has_stack, lua_top, of_top}
use Rattle.machine_moves.proofs.OfCode.{func_is, function_kept, function_there}
use Rattle.machine_moves.proofs.code.function_on_top.Goals as goal

pub running_stack-requires : goal.running_stack-requires
running_stack-requires c = has_stack c.args.world.now c.requires.place c.requires.is

pub function-function-requires : goal.function-function-requires
function-function-requires c = lua_top c.args.world.now c.running_stack.ensures.co c.running_stack.result.now c.requires.place c.running_stack.ensures.runs c.requires.is

pub get-requires : goal.get-requires
get-requires c =
    let W = c.args.world.now in
    let p = c.requires.place in
    let n : c.function-function.result.0 ≡ p.top.function = of_top W c.running_stack.ensures.co c.running_stack.result.now p (λ f t. c.function-function.result.0 ≡ t.function) c.running_stack.ensures.runs c.requires.is c.function-function.ensures in
    function_there W p c.function-function.result.0 (function_kept W p c.function-function.result.0 c.requires.is n)

pub returns : goal.returns
returns c = record {
  same = λ p is.
      let W = c.args.world.now in
      let n : c.function-function.result.0 ≡ p.top.function = of_top W c.running_stack.ensures.co c.running_stack.result.now p (λ f t. c.function-function.result.0 ≡ t.function) c.running_stack.ensures.runs is c.function-function.ensures in
      func_is W p c.function-function.result.0 c.get.result.now (function_kept W p c.function-function.result.0 is n) c.get.ensures;
}
