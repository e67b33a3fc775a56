use Rattle.std.proofs.Common.{[], ◌∷◌, refl}
use Rattle.int_core.specs.Value.{object, a_function}
use Rattle.machine_core.specs.Text.{read, write_register}
use Rattle.machine_core.specs.InstructionRows.{next}
use Rattle.machine_core.specs.FrameRows.{expand}
use Rattle.machine_core.specs.Moves.{go}
use Rattle.move_laws.proofs.Kept.{order_kept, order_with_cells, order_with_functions}
use Rattle.move_laws.proofs.Rows.{first, can_do, safe_after}
use Rattle.machine_rows.proofs.Going.{any_value, goes_on, may_go}
use Rattle.machine_objects.proofs.Opened.{has_inner, inner_within}
use Rattle.machine_objects.proofs.Making.{keeps_it, inner_there, may_begin, makes_there, safe_made, leads_opened}
use Rattle.machine_objects.proofs.closures.new_function.Goals as goal

pub inner_code-code-requires-clause-order : goal.inner_code-code-requires-clause-order
inner_code-code-requires-clause-order c = c.requires.stands.sound.order

pub inner_code-code-requires-clause-there : goal.inner_code-code-requires-clause-there
inner_code-code-requires-clause-there c =
    let at = c.requires.stands.at in
    inner_there c.args.world.now c.args.inner c.args.to at.place c.requires.stands.sound at.is (c.requires.safe at.place at.is)

pub open_captured-requires-clause-order : goal.open_captured-requires-clause-order
open_captured-requires-clause-order c = c.requires.stands.sound.order

pub open_captured-requires-clause-within : goal.open_captured-requires-clause-within
open_captured-requires-clause-within c =
    let at = c.requires.stands.at in
    let W = c.args.world.now in
    inner_within W c.args.inner c.inner_code-code.result at.place at.is c.inner_code-code.ensures (has_inner W c.args.inner (keeps_it c.args.to) at.place at.is (c.requires.safe at.place at.is))

pub open_captured-requires-clause-safe : goal.open_captured-requires-clause-safe
open_captured-requires-clause-safe c =
    let at = c.requires.stands.at in
    may_begin c.args.world.now c.args.inner c.args.to at.place c.requires.stands.sound at.is (c.requires.safe at.place at.is) c.inner_code-code.result c.inner_code-code.ensures

pub make_function-requires : goal.make_function-requires
make_function-requires c =
    let at = c.requires.stands.at in
    record {
      order = order_with_cells c.requires.stands.sound.order c.open_captured.ensures.rest c.open_captured.ensures.listed;
      there = makes_there c.args.world.now c.args.inner c.args.to at.place c.requires.stands.sound at.is (c.requires.safe at.place at.is) c.inner_code-code.result c.inner_code-code.ensures c.open_captured.new.world c.in_ok-open_captured.ensures.opens;
    }

pub write_register-requires : goal.write_register-requires
write_register-requires c =
    let at = c.requires.stands.at in
    let s = safe_made c.args.world.now c.args.inner c.args.to at.place c.requires.stands.sound at.is (c.requires.safe at.place at.is) c.inner_code-code.result c.inner_code-code.ensures c.open_captured.new.world c.in_ok-open_captured.ensures.opens c.make_function.new.world c.in_ok-made.made.0 c.in_ok-made.ensures.makes in
    any_value {x = read 0} (can_do (write_register c.args.to (read 0)) (λ _ _. expand next) s)

pub go_to-requires : goal.go_to-requires
go_to-requires c =
    let at = c.requires.stands.at in
    let s = safe_made c.args.world.now c.args.inner c.args.to at.place c.requires.stands.sound at.is (c.requires.safe at.place at.is) c.inner_code-code.result c.inner_code-code.ensures c.open_captured.new.world c.in_ok-open_captured.ensures.opens c.make_function.new.world c.in_ok-made.made.0 c.in_ok-made.ensures.makes in
    let v = safe_after (λ _ _. expand next) s (c.write_register.ensures.makes (object a_function c.in_ok-made.made.0 ∷ []) (read 0) refl) in
    let stands = c.write_register.ensures.stays.at c.args.pc (c.make_function.ensures.at c.args.pc (record { place = at.place; is = c.in_ok-open_captured.ensures.opens.stays at.place at.is; at = at.at })) in
    may_go 1 stands refl v

pub returns-clause-leads : goal.returns-clause-leads
returns-clause-leads c = λ p is.
    let at = c.requires.stands.at in
    let o = c.in_ok-open_captured.ensures.opens in
    let stands = c.write_register.ensures.stays.at c.args.pc (c.make_function.ensures.at c.args.pc (record { place = at.place; is = o.stays at.place at.is; at = at.at })) in
    leads_opened c.args.world.now c.open_captured.new.world c.go_to.new.world c.args.inner c.args.to c.inner_code-code.result go p is c.inner_code-code.ensures o
    (first (λ n _. expand (keeps_it c.args.to n)) (c.in_ok-made.ensures.makes [])
    (first (λ _ _. expand next) (c.write_register.ensures.makes (object a_function c.in_ok-made.made.0 ∷ []) (read 0) refl)
    (goes_on 1 stands refl c.go_to.ensures.makes _)))

pub returns-clause-order : goal.returns-clause-order
returns-clause-order c =
    let opened = order_with_cells c.requires.stands.sound.order c.open_captured.ensures.rest c.open_captured.ensures.listed in
    order_kept (order_kept (order_with_functions opened c.make_function.ensures.rest) c.write_register.ensures.stays.rest c.write_register.ensures.stays.listed) c.go_to.ensures.rest c.go_to.ensures.listed
