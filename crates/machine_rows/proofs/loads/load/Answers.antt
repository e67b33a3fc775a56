use Rattle.std.proofs.Common.{[], ◌++◌, sym, subst, ◌∙◌}
use Rattle.std.specs.Prelude.{cond}
use Rattle.machine_core.specs.Text.{Arg, write_register, Text}
use Rattle.machine_core.specs.InstructionRows.{next, skip, then}
use Rattle.machine_core.specs.FrameRows.{expand}
use Rattle.machine_core.specs.Moves.{go}
use Rattle.move_laws.specs.Memory.{IsSafe, Leads}
use Rattle.move_laws.proofs.Kept.{order_kept}
use Rattle.move_laws.proofs.Rows.{first, can_do, safe_after}
use Rattle.machine_rows.proofs.Going.{ahead, function_of, goes_on, may_go, safe_as, any_value}
use Rattle.machine_rows.proofs.loads.load.Goals as goal

pub read_operand-v-requires : goal.read_operand-v-requires
read_operand-v-requires c =
    record {
      function = function_of c.requires.stands.at.place c.requires.stands.sound c.requires.stands.at.is;
      there = record { more = λ v. then (write_register c.args.to v) (cond c.args.skips skip next); env = []; safe = c.requires.safe c.requires.stands.at.place.function.code };
    }

pub write_register-requires : goal.write_register-requires
write_register-requires c =
    let r = c.read_operand-v.ensures in
    let more : Arg → Text = λ v. then (write_register c.args.to v) (cond c.args.skips skip next) in
    let s = safe_as {q = expand (more (r.named 0))} {more = r.values} (c.requires.safe c.requires.stands.at.place.function.code) (r.goes more []) in
    any_value {x = r.named 0} (can_do (write_register c.args.to (r.named 0)) (λ _ _. expand (cond c.args.skips skip next)) s)

pub behind-requires : goal.behind-requires
behind-requires c = c.requires.stands.room

pub go_to-requires : goal.go_to-requires
go_to-requires c =
    let r = c.read_operand-v.ensures in
    let more : Arg → Text = λ v. then (write_register c.args.to v) (cond c.args.skips skip next) in
    let s = safe_as {q = expand (more (r.named 0))} {more = r.values} (c.requires.safe c.requires.stands.at.place.function.code) (r.goes more []) in
    let t = safe_after (λ _ _. expand (cond c.args.skips skip next)) s (c.write_register.ensures.makes r.values (r.named 0) (r.is [])) in
    may_go (cond c.args.skips 2 1) (c.write_register.ensures.stays.at c.args.pc c.requires.stands.at) c.behind.ensures (subst (λ t. IsSafe (expand t) (r.values ++ []) c.write_register.new.world) (ahead c.args.skips) t)

pub returns-clause-leads : goal.returns-clause-leads
returns-clause-leads c = λ p.
    let r = c.read_operand-v.ensures in
    let more : Arg → Text = λ v. then (write_register c.args.to v) (cond c.args.skips skip next) in
    let l : Leads (expand (cond c.args.skips skip next)) (r.values ++ []) c.write_register.new.world c.go_to.new.world go =
    subst (λ t. Leads (expand t) (r.values ++ []) c.write_register.new.world c.go_to.new.world go) (sym (ahead c.args.skips))
    (goes_on (cond c.args.skips 2 1) (c.write_register.ensures.stays.at c.args.pc c.requires.stands.at) c.behind.ensures c.go_to.ensures.makes (r.values ++ [])) in
    let k = first (λ _ _. expand (cond c.args.skips skip next)) (c.write_register.ensures.makes r.values (r.named 0) (r.is [])) l in
    record { is = λ fuel. r.goes more [] fuel ∙ k.is fuel }

pub returns-clause-order : goal.returns-clause-order
returns-clause-order c = order_kept (order_kept c.requires.stands.sound.order c.write_register.ensures.stays.rest c.write_register.ensures.stays.listed) c.go_to.ensures.rest c.go_to.ensures.listed
