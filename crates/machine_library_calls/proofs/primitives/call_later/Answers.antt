use Rattle.std.proofs.Common.{rules, ◌≡◌, [], refl}
use Rattle.lua_stack.proofs.Called.{on_err}
use Rattle.machine_library_calls.proofs.primitives.call_later.Goals as goal

pub returns-clause-later : goal.returns-clause-later
returns-clause-later c =
    let items : c.replace_with.new.list.items ≡ c.args.called.now.arguments = search rules in
    (refl, items)

pub returns-in_err-replace_with-clause-err : goal.returns-in_err-replace_with-clause-err
returns-in_err-replace_with-clause-err c =
    let none : c.replace_with.new.list.items ≡ [] = search rules in
    on_err _ c.from_residual.result none
