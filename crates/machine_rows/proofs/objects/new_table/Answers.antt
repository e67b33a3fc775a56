use Rattle.std.proofs.Common.{ℕ, [], ◌∷◌, refl, sym, subst}
use Rattle.int_core.specs.Value.{object, a_table}
use Rattle.machine_core.specs.Text.{read, Text, quick, make_table, write_register}
use Rattle.machine_core.specs.InstructionRows.{then, skip}
use Rattle.machine_core.specs.FrameRows.{expand}
use Rattle.machine_core.specs.Moves.{go}
use Rattle.move_laws.specs.Memory.{Leads}
use Rattle.move_laws.proofs.Kept.{order_kept, order_with_tables}
use Rattle.move_laws.proofs.Rows.{first, can_do, safe_after}
use Rattle.machine_rows.proofs.Going.{extra_there, goes_on, may_go, any_value, safe_made}
use Rattle.machine_rows.proofs.objects.new_table.Goals as goal

pub make_table-requires : goal.make_table-requires
make_table-requires c = record { place = c.requires.at.place; is = c.requires.at.is }

pub write_register-requires : goal.write_register-requires
write_register-requires c =
    let p = c.requires.at.place in
    let u = safe_made p.function.code c.args.pc c.args.to (c.requires.safe p c.requires.at.is) (c.in_ok-table.ensures.makes []) in
    any_value {x = read 0} (can_do (write_register c.args.to (read 0)) (λ _ _. expand skip) u)

pub go_to-requires : goal.go_to-requires
go_to-requires c =
    let p = c.requires.at.place in
    let u = safe_made p.function.code c.args.pc c.args.to (c.requires.safe p c.requires.at.is) (c.in_ok-table.ensures.makes []) in
    let v = safe_after (λ _ _. expand skip) u (c.write_register.ensures.makes (object a_table c.in_ok-table.table.0 ∷ []) (read 0) refl) in
    may_go 2 (c.write_register.ensures.stays.at c.args.pc (c.make_table.ensures.at c.args.pc c.requires.at)) c.behind.ensures v

pub returns-clause-leads : goal.returns-clause-leads
returns-clause-leads c = λ p is.
    let k : ℕ → Text = λ _. quick make_table (λ t. then (write_register c.args.to (read t)) skip) in
    let e = (extra_there p.function.code c.args.pc k (c.requires.safe p is)).1 in
    subst (λ t. Leads (expand t) [] c.args.world.now c.go_to.new.world go) (sym e)
    (first (λ n _. expand (then (write_register c.args.to (read n)) skip)) (c.in_ok-table.ensures.makes [])
    (first (λ _ _. expand skip) (c.write_register.ensures.makes (object a_table c.in_ok-table.table.0 ∷ []) (read 0) refl)
    (goes_on 2 (c.write_register.ensures.stays.at c.args.pc (c.make_table.ensures.at c.args.pc c.requires.at)) c.behind.ensures c.go_to.ensures.makes _)))

pub returns-clause-order : goal.returns-clause-order
returns-clause-order c = order_kept (order_kept (order_with_tables c.requires.order c.make_table.ensures.rest) c.write_register.ensures.stays.rest c.write_register.ensures.stays.listed) c.go_to.ensures.rest c.go_to.ensures.listed
