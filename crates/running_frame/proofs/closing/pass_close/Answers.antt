use Rattle.std.proofs.Common.{◌≡◌, sym, ◌∙◌, rules, true}
use Rattle.code_core.specs.Instruction.{opcode_of}
use Rattle.machine_arms_tables.specs.Frame.{code}
use Rattle.frame_calls.proofs.Listed.{kept_top}
use Rattle.running_frame.proofs.OnStack.{place_within}
use Rattle.running_frame.proofs.Passed.{close_goes, close_is, lua_on_top, next_inside}
use Rattle.running_frame.proofs.closing.pass_close.Goals as goal

pub fetch-i-requires : goal.fetch-i-requires
fetch-i-requires g c = place_within c.requires.0.1.runs

pub behind_close-requires : goal.behind_close-requires
behind_close-requires g c =
    let x = c.requires.0 in
    let yes : c.is_close.result ≡ true = search rules in
    next_inside g.g (code c.args.closure g.g.around.texts) c.args.stack.now c.args.cells.now.objects c.args.pc (kept_top (lua_on_top x.1.runs)) c.fetch-i.result c.fetch-i.ensures (close_is (opcode_of c.fetch-i.result) (sym c.is_close.ensures ∙ yes)) x.0 x.1.fuel x.1.runs

pub set_pc-requires : goal.set_pc-requires
set_pc-requires g c = lua_on_top c.requires.0.1.runs

pub returns-clause-goes : goal.returns-clause-goes
returns-clause-goes g c =
    let x = c.requires.0 in
    let yes : c.is_close.result ≡ true = search rules in
    close_goes g.g (code c.args.closure g.g.around.texts) c.args.stack.now c.args.cells.now.objects c.args.pc (kept_top (lua_on_top x.1.runs)) c.fetch-i.result c.fetch-i.ensures (close_is (opcode_of c.fetch-i.result) (sym c.is_close.ensures ∙ yes))
    c.args.closed c.requires.1 c.in_ok-to.to c.in_ok-to.ensures c.set_pc.new.self c.set_pc.ensures
