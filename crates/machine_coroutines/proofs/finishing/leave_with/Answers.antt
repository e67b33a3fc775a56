use Rattle.std.proofs.Common.{rules, ◌≡◌, ap, refl, ◌∙◌}
use Rattle.std.specs.Prelude.{map}
use Rattle.lua_heap.specs.Reading.{value}
use Rattle.lua_stack.specs.declared.frame.Top.TheVariants.{Closing as ClosingTop}
use Rattle.machine_coroutines.proofs.Handed.{running_on}
use Rattle.machine_coroutines.proofs.finishing.leave_with.Goals as goal

pub pop_frame-requires : goal.pop_frame-requires
pop_frame-requires c = record { top = ClosingTop; seen = c.requires.closing; other = refl }

pub hand_over-requires : goal.hand_over-requires
hand_over-requires c = running_on c.give_values.ensures.rest c.pop_frame.ensures.running

pub returns-clause-leaves : goal.returns-clause-leaves
returns-clause-leaves c =
    let W = c.args.world.now in
    let texts : W.strings ≡ c.pop_frame.new.world.strings = search rules in
    record {
      left = c.pop_frame.new.world;
      leaves = c.pop_frame.ensures.makes;
      gives = λ env xs e. c.give_values.ensures.all env xs (e ∙ ap (λ texts. map (value texts) c.args.answer.items) texts);
      hands = c.hand_over.ensures;
    }
