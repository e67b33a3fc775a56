use Rattle.std.proofs.Common.{ap, ◌∙◌}
use Rattle.table_core.specs.declared.value.CoroId.{CoroId}
use Rattle.running_frame.specs.Crossing.{runs_on}
use Rattle.running_frame.specs.Inheriting.{metatable_number}
use Rattle.running_frame.proofs.Apart.{top_code_within, top_func_within, functions_so, may_run_so, own_is, size_so}
use Rattle.running_frame.proofs.Crossed.{apart_so, may_after, reaches_after, top_there}
use Rattle.running_frame.proofs.crossing.cross_next.Goals as goal

pub function-requires : goal.function-requires
function-requires g c = top_there g.outside c.args.around.strings.now c.args.around.functions.funcs.now c.args.around.functions.codes.now c.args.tables.now c.args.cells.now c.args.stack.now c.requires.0

pub get-function-requires : goal.get-function-requires
get-function-requires g c =
    let h = apart_so g.outside c.args.around.strings.now c.args.around.functions.funcs.now c.args.around.functions.codes.now c.args.tables.now c.args.cells.now c.args.stack.now c.requires.0 in
    top_func_within _ _ h (runs_on g.outside) c.args.stack.now c.requires.0.runs c.function.result.0 c.function.ensures

pub get-code-requires : goal.get-code-requires
get-code-requires g c =
    let h = apart_so g.outside c.args.around.strings.now c.args.around.functions.funcs.now c.args.around.functions.codes.now c.args.tables.now c.args.cells.now c.args.stack.now c.requires.0 in
    top_code_within _ _ h (runs_on g.outside) c.args.stack.now c.requires.0.runs c.function.result.0 c.function.ensures c.get-function.result.now c.get-function.ensures c.checked_code_is_there.ensures

pub cross_frame-requires : goal.cross_frame-requires
cross_frame-requires g c =
    let h = apart_so g.outside c.args.around.strings.now c.args.around.functions.funcs.now c.args.around.functions.codes.now c.args.tables.now c.args.cells.now c.args.stack.now c.requires.0 in
    let r = c.requires.0.runs in
    let s = c.args.stack.now in
    let law = c.checked_code_is_there.ensures in
    let f = c.get-function.result.now in
    let code = c.get-code.result.now in (
      may_run_so _ _ h (runs_on g.outside) s r c.function.result.0 c.function.ensures f c.get-function.ensures law code c.get-code.ensures c.len.ensures.apart c.len.ensures.short c.args.budget.now,
      (
        record {
          functions = functions_so _ _ h (runs_on g.outside) s r law;
          wants = size_so _ _ h (runs_on g.outside) s r c.function.result.0 c.function.ensures f c.get-function.ensures law code c.get-code.ensures;
          own = ap (λ (co : CoroId). co.0) c.requires.1.0 ∙ own_is _ _ h (runs_on g.outside) s r;
          meta = ap metatable_number c.requires.1.1.1;
        },
        c.requires.1.1.0,
      ),
    )

pub returns-clause-reaches : goal.returns-clause-reaches
returns-clause-reaches g c =
    reaches_after g.outside c.args.around.strings.now c.args.around.functions.funcs.now c.args.around.functions.codes.now c.args.tables.now c.args.cells.now c.args.stack.now c.requires.0 c.cross_frame.new.tables c.cross_frame.new.cells c.cross_frame.new.stack
    c.args.budget.now c.cross_frame.new.budget c.cross_frame.ensures.opened c.cross_frame.ensures.listed c.cross_frame.ensures.reaches

pub returns-clause-may : goal.returns-clause-may
returns-clause-may g c =
    may_after g.outside c.args.around.strings.now c.args.around.functions.funcs.now c.args.around.functions.codes.now c.args.tables.now c.args.cells.now c.args.stack.now c.requires.0 c.cross_frame.new.tables c.cross_frame.new.cells c.cross_frame.new.stack
    c.args.budget.now c.cross_frame.new.budget c.cross_frame.ensures.opened c.cross_frame.ensures.listed c.cross_frame.ensures.reaches
