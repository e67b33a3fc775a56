use Rattle.std.proofs.Common.{[], ◌∷◌, ap, sym}
use Rattle.std.specs.Prelude.{not}
use Rattle.int_core.specs.Value.{known, boolean, holds, shape}
use Rattle.lua_heap.specs.Reading.{value as meant}
use Rattle.machine_core.specs.Text.{Arg, written, read_register, write_register}
use Rattle.machine_core.specs.InstructionRows.{next, to_register}
use Rattle.machine_core.specs.FrameRows.{expand}
use Rattle.move_laws.proofs.Kept.{order_kept}
use Rattle.move_laws.proofs.Rows.{first, can_do, safe_after}
use Rattle.machine_rows.proofs.Going.{goes_on, may_go, any_value}
use Rattle.machine_rows.proofs.truths.negate.Goals as goal

pub read_register-requires : goal.read_register-requires
read_register-requires c = can_do (read_register c.args.from) (λ _ s. expand (to_register c.args.to (written (boolean (not (holds s)))))) (c.requires.safe c.requires.at.place.function.code)

pub write_register-requires : goal.write_register-requires
write_register-requires c =
    let x : Arg = written (boolean (not (holds (shape (meant c.args.world.now.strings c.read_register.result))))) in
    let s = safe_after (λ _ s. expand (to_register c.args.to (written (boolean (not (holds s)))))) (c.requires.safe c.requires.at.place.function.code) (c.read_register.ensures []) in
    any_value {x = x} (can_do (write_register c.args.to x) (λ _ _. expand next) s)

pub go_to-requires : goal.go_to-requires
go_to-requires c =
    let W = c.args.world.now in
    let v = meant W.strings c.read_register.result in
    let x : Arg = written (boolean (not (holds (shape v)))) in
    let s = safe_after (λ _ s. expand (to_register c.args.to (written (boolean (not (holds s)))))) (c.requires.safe c.requires.at.place.function.code) (c.read_register.ensures []) in
    let same = ap (λ b. known (boolean (not b))) (sym (c.is_truthy-truth.ensures W.strings)) in
    may_go 1 (c.write_register.ensures.stays.at c.args.pc c.requires.at) c.behind.ensures (safe_after (λ _ _. expand next) s (c.write_register.ensures.makes (v ∷ []) x same))

pub returns-clause-leads : goal.returns-clause-leads
returns-clause-leads c = λ p.
    let W = c.args.world.now in
    let v = meant W.strings c.read_register.result in
    let x : Arg = written (boolean (not (holds (shape v)))) in
    let same = ap (λ b. known (boolean (not b))) (sym (c.is_truthy-truth.ensures W.strings)) in
    first (λ _ s. expand (to_register c.args.to (written (boolean (not (holds s)))))) (c.read_register.ensures [])
    (first (λ _ _. expand next) (c.write_register.ensures.makes (v ∷ []) x same) (goes_on 1 (c.write_register.ensures.stays.at c.args.pc c.requires.at) c.behind.ensures c.go_to.ensures.makes _))

pub returns-clause-order : goal.returns-clause-order
returns-clause-order c = order_kept (order_kept c.requires.order c.write_register.ensures.stays.rest c.write_register.ensures.stays.listed) c.go_to.ensures.rest c.go_to.ensures.listed
