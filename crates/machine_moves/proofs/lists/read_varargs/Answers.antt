use Rattle.std.proofs.Common.{◌≡◌, ◌∙◌, refl, ap, sym}
use Rattle.std.specs.Prelude.{map}
use Rattle.int_core.specs.Value.{nil, is_known}
use Rattle.lua_heap.specs.Plain.{plain}
use Rattle.machine_core.specs.Text.{read_varargs}
use Rattle.machine_core.specs.Moves.{made}
use Rattle.move_laws.proofs.Running.{has_stack, lua_top, of_top, own_read}
use Rattle.machine_moves.proofs.lists.read_varargs.Goals as goal

pub running_stack-requires : goal.running_stack-requires
running_stack-requires c = has_stack c.args.world.now c.requires.place c.requires.is

pub varargs-requires : goal.varargs-requires
varargs-requires c = lua_top c.args.world.now c.running_stack.ensures.co c.running_stack.result.now c.requires.place c.running_stack.ensures.runs c.requires.is

pub returns : goal.returns
returns c = λ env.
    let W = c.args.world.now in
    let p = c.requires.place in
    let is = of_top W c.running_stack.ensures.co c.running_stack.result.now p (λ f t. map f c.varargs.result.now ≡ t.own.varargs) c.running_stack.ensures.runs c.requires.is c.varargs.ensures in
    record {
      is = λ fuel. own_read (plain W fuel) p read_varargs env c.requires.is refl refl refl ∙ ap (λ vs. made (plain W fuel) vs (is_known nil)) (sym is);
    }
