use Rattle.std.proofs.Common.{rules, ◌≡◌, length, subst, sym, arith}
use Rattle.std.proofs.lemmas.Result.{IfOk-weaker}
use Rattle.library_rows.specs.Library.{all_entries}
use Rattle.code_core.specs.Instruction.{a_of}
use Rattle.machine_core.specs.Text.{read_registers}
use Rattle.move_laws.specs.Memory.{CanDo}
use Rattle.step_laws.proofs.Ready.{ready_is_sound}
use Rattle.machine_returns.proofs.Tops.{can_see, solid_of}
use Rattle.loaded_code.specs.Laws.{library}
use Rattle.source_builds.proofs.Knowing.{read_all, read_map}
use Rattle.lua_driver.proofs.Ahead.{at_once}
use Rattle.lua_driver.proofs.Few.{registers_there, returns_so, runs_few}
use Rattle.lua_driver.proofs.returning.return_few.Goals as goal

pub see_pending-requires : goal.see_pending-requires
see_pending-requires c =
    let s = ready_is_sound (length all_entries) _ c.args.world.now c.requires.ready in
    can_see c.args.world.now c.requires.here.word.place 0 (solid_of s) c.requires.here.word.is

pub read_registers-requires : goal.read_registers-requires
read_registers-requires c =
    let s = ready_is_sound (length all_entries) _ c.args.world.now c.requires.ready in
    let a : c.from.result ≡ a_of c.args.here.word = search rules in
    subst (λ from. CanDo c.args.world.now (read_registers from c.args.count)) (sym a) (registers_there (runs_few s c.requires.here c.requires.few) c.requires.few.returns s)

pub leave_with-requires-clause-returns : goal.leave_with-requires-clause-returns
leave_with-requires-clause-returns c =
    let s = ready_is_sound (length all_entries) _ c.args.world.now c.requires.ready in
    let a : c.from.result ≡ a_of c.args.here.word = search rules in
    returns_so c.from.result c.read_registers.result.now _ c.see_pending.result a s c.requires.here c.requires.few c.see_pending.ensures c.in_default.is c.read_registers.ensures c.in-Nothing.ensures (omega arith)

pub leave_with-requires-in-One-clause-returns : goal.leave_with-requires-in-One-clause-returns
leave_with-requires-in-One-clause-returns c =
    let s = ready_is_sound (length all_entries) _ c.args.world.now c.requires.ready in
    let a : c.from.result ≡ a_of c.args.here.word = search rules in
    returns_so c.from.result c.read_registers.result.now _ c.see_pending.result a s c.requires.here c.requires.few c.see_pending.ensures c.in_default.is c.read_registers.ensures c.in-One.ensures (omega arith)

pub returns-then-not-is_empty-clause-goes : goal.returns-then-not-is_empty-clause-goes
returns-then-not-is_empty-clause-goes c = IfOk-weaker c.step_from.result _ _ (λ next d. read_map (λ builds are d. at_once c.requires.ready d) d) c.step_from.ensures.does

pub returns-in-Some-clause-goes : goal.returns-in-Some-clause-goes
returns-in-Some-clause-goes c = IfOk-weaker c.step_from-in-Some.result _ _ (λ next d. read_map (λ builds are d. at_once c.requires.ready d) d) c.step_from-in-Some.ensures.does

pub returns-in-Nothing-clause-goes : goal.returns-in-Nothing-clause-goes
returns-in-Nothing-clause-goes c = IfOk-weaker c.leave_with.result _ _ (λ next g. read_all (λ builds are. g (library builds) c.args.budget.now)) c.leave_with.ensures.goes

pub returns-in-One-clause-goes : goal.returns-in-One-clause-goes
returns-in-One-clause-goes c = IfOk-weaker c.leave_with-in-One.result _ _ (λ next g. read_all (λ builds are. g (library builds) c.args.budget.now)) c.leave_with-in-One.ensures.goes

pub returns-in-More-clause-goes : goal.returns-in-More-clause-goes
returns-in-More-clause-goes c = IfOk-weaker c.step_from-in-More.result _ _ (λ next d. read_map (λ builds are d. at_once c.requires.ready d) d) c.step_from-in-More.ensures.does
