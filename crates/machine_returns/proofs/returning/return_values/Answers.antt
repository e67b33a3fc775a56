use Rattle.std.proofs.Common.{ℕ, ◌-◌, [], ap, ◌∙◌}
use Rattle.std.specs.Prelude.{cond, ◌==◌}
use Rattle.int_core.specs.Value.{Shape}
use Rattle.machine_core.specs.Text.{Text}
use Rattle.machine_core.specs.InstructionRows.{counted, returns}
use Rattle.machine_core.specs.FrameRows.{expand}
use Rattle.machine_core.specs.Moves.{run}
use Rattle.machine_core.specs.MachineStep.{from_world}
use Rattle.lua_heap.specs.Codes.{no_code}
use Rattle.lua_heap.specs.Plain.{plain}
use Rattle.machine_returns.proofs.Closed.{where_ok}
use Rattle.machine_returns.proofs.returning.return_values.Goals as goal

abbrev returned : (from count : ℕ) → ℕ → Shape → Text
returned from count n s = returns from (cond (count == 0) (counted s) (count - 1))

pub return_some-requires : goal.return_some-requires
return_some-requires c =
    let W = c.args.world.now in
    let g = c.count_given-given.ensures in
    record {
      sound = c.requires.sound;
      there = g.there;
      safe = record {
        env = g.values;
        safe = record {
          never = λ fuel t. (c.requires.safe no_code 0).never fuel (g.goes (returned c.args.from c.args.count) [] fuel ∙ ap (λ n. run (expand (returns c.args.from n)) g.values (plain W fuel)) g.is ∙ t);
        };
      };
    }

pub returns-clause-steps : goal.returns-clause-steps
returns-clause-steps c =
    let W = c.args.world.now in
    let g = c.count_given-given.ensures in
    let fuel = c.args.budget.now in
    where_ok c.return_some.result c.return_some.ensures.steps (λ ending st p pc. record {
      is = ap (from_world (plain W fuel)) (g.goes (returned c.args.from c.args.count) [] fuel ∙ ap (λ n. run (expand (returns c.args.from n)) g.values (plain W fuel)) g.is) ∙ (st g.values).is;
    })
