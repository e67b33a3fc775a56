use Rattle.std.proofs.Common.{rules, ◌≡◌, max, subst}
use Rattle.std.specs.Prelude.{◌&&◌, ◌||◌, nat_le, nat_lt}
use Rattle.machine_core.specs.Text.{behind, blanked, is_pending}
use Rattle.lua_stack.specs.Frames.{TopBecomes, with_opened, with_registers}
use Rattle.lua_stack.proofs.Wiped.{results_kept}
use Rattle.lua_stack.proofs.stack.Stack.keep_results.Goals as goal

pub returns : goal.returns
returns c =
    let m : c.max.result ≡ max c.args.stack (behind c.args.from c.args.count) = search rules in
    results_kept c.args.self.now c.keep.new.self c.args.from c.args.count c.results_end-end.result (max c.args.stack (behind c.args.from c.args.count)) c.results_end-end.ensures
    (subst (λ n. TopBecomes c.args.self.now c.keep.new.self (λ f t. with_opened 0 (with_registers (blanked (λ i. is_pending t.own.pending i || (nat_le c.args.from i && nat_lt i c.results_end-end.result)) 0 n t.own.registers) t))) m c.keep.ensures)
