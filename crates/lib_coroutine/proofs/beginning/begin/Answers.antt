use Rattle.std.proofs.Common.{ap, ◌∙◌}
use Rattle.std.specs.Prelude.{Some}
use Rattle.lua_heap.specs.declared.world.Coro.TheVariants.{Fresh}
use Rattle.lib_coroutine.proofs.Begun.{body_is_function, function_there}
use Rattle.lib_coroutine.proofs.beginning.begin.Goals as goal

pub begin_function-requires : goal.begin_function-requires
begin_function-requires c =
    record {
      sound = c.requires.sound;
      running = c.requires.running;
      first = c.requires.first;
      fresh = c.requires.fresh ∙ ap (λ v. Some (Fresh v)) c.in-Func.is;
      few = c.requires.few;
      function = function_there c.requires.sound c.args.co c.in-Func.id (c.requires.fresh ∙ ap (λ v. Some (Fresh v)) c.in-Func.is);
    }

pub begin_primitive-requires-clause-fresh : goal.begin_primitive-requires-clause-fresh
begin_primitive-requires-clause-fresh c = c.requires.fresh ∙ ap (λ v. Some (Fresh v)) c.in-Prim.is

pub unreachable-requires : goal.unreachable-requires
unreachable-requires c = body_is_function c.requires.sound c.args.co c.args.body c.requires.fresh c.in_default.not-Func c.in_default.not-Prim
