use Rattle.std.proofs.Common.{◌≡◌, ◌≤◌, ◌+◌, ℕ, zero, suc, List, [], length, refl, ap, subst, ◌∙◌, arith}
use Rattle.int_core.specs.Value.{Value as Meant, range, without_last, write_all}
use Rattle.lua_heap.specs.Plain.{plain}
use Rattle.lua_heap.specs.Reading.{value as meant}
use Rattle.lua_stack.specs.Frames.{with_registers}
use Rattle.machine_core.specs.Text.{behind, write_registers}
use Rattle.move_laws.proofs.Running.{has_stack, shown, own_read}
use Rattle.machine_moves.proofs.Stacks.{at_most}
use Rattle.machine_moves.proofs.OnRunning.{own_on, stays_on}
use Rattle.machine_returns.proofs.Padded.{range_from}
use Rattle.machine_returns.proofs.results.write_registers.Goals as goal

reaches : (at count : ℕ) → (count ≡ 0 → ⊥) → behind at count ≡ at + count
reaches at zero e = absurd (e refl)
reaches at (suc count) e = refl

none_fit : (count slot : ℕ) (env : List Meant) → count ≡ 0 → range slot count env ≡ []
none_fit zero slot env e = refl
none_fit (suc count) slot env e = absurd (omega (arith, e))

pub returns-then-count-eq0-clause-makes : goal.returns-then-count-eq0-clause-makes
returns-then-count-eq0-clause-makes c = λ env slot e.
    let W = c.args.world.now in
    let p = c.requires.place in
    record {
      is = λ fuel. own_read (plain W fuel) p (write_registers c.args.at c.args.count slot) env c.requires.is c.requires.fits refl (ap (λ vs. record p.top.own { registers = write_all c.args.at vs p.top.own.registers }) (none_fit c.args.count slot env c.if-count-eq0.true));
    }

pub returns-then-count-eq0-clause-stays : goal.returns-then-count-eq0-clause-stays
returns-then-count-eq0-clause-stays c = record { at = λ pc s. s; listed = λ l. l; rest = refl }

pub running_stack_mut-requires : goal.running_stack_mut-requires
running_stack_mut-requires c = has_stack c.args.world.now c.requires.place c.requires.is

pub write_padded-requires : goal.write_padded-requires
write_padded-requires c =
    let r = c.running_stack_mut.ensures.runs.runs in
    let p = c.requires.place in
    let h = shown c.args.world.now c.running_stack_mut.ensures.runs.co c.running_stack_mut.result.now p r c.requires.is in
    record {
      value = meant c.args.world.now.strings;
      nil_is = refl;
      below = without_last p.stack.frames;
      top = p.top;
      is = h.frames_are;
      room = subst (λ n. n ≤ length p.top.own.registers) (reaches c.args.at c.args.count c.if-count-eq0.false) (at_most _ _ c.requires.fits);
    }

pub returns-clause-makes : goal.returns-clause-makes
returns-clause-makes c = λ env slot e.
    let p = c.requires.place in
    own_on c.running_stack_mut.ensures.runs p (write_registers c.args.at c.args.count slot) env c.requires.is c.requires.fits c.write_padded.ensures (λ co frame cells. refl)
    (ap (λ vs. with_registers (write_all c.args.at vs p.top.own.registers) p.top) (range_from slot c.args.count env ∙ ap (range 0 c.args.count) e))

pub returns-clause-stays : goal.returns-clause-stays
returns-clause-stays c = stays_on c.running_stack_mut.ensures.runs c.write_padded.ensures (λ u. refl) (λ u. refl)
