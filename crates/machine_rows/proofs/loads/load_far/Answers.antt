use Rattle.std.proofs.Common.{◌≡◌, ℕ, [], ◌∷◌, refl, sym, subst, arith}
use Rattle.machine_core.specs.World.{Place}
use Rattle.machine_core.specs.Text.{read, Text, own, read_constant, write_register}
use Rattle.machine_core.specs.InstructionRows.{then, skip}
use Rattle.machine_core.specs.FrameRows.{expand}
use Rattle.machine_core.specs.Moves.{go}
use Rattle.machine_sound.proofs.Lists.{some_is}
use Rattle.lua_heap.specs.Reading.{value as meant}
use Rattle.move_laws.specs.Memory.{IsSafe, Leads}
use Rattle.move_laws.proofs.Kept.{order_kept}
use Rattle.move_laws.proofs.Rows.{first, can_do, safe_after}
use Rattle.move_laws.proofs.Sounds.{sound_top}
use Rattle.machine_rows.proofs.Going.{extra_is, has_extra, goes_on, may_go, any_value}
use Rattle.machine_rows.proofs.loads.load_far.Goals as goal

abbrev loads : ℕ → ℕ → Text
loads to ax = own (read_constant ax) (λ v _. then (write_register to (read v)) skip)

pub extra_argument-n-requires-clause-sound : goal.extra_argument-n-requires-clause-sound
extra_argument-n-requires-clause-sound c = c.requires.stands.sound

pub extra_argument-n-requires-clause-room : goal.extra_argument-n-requires-clause-room
extra_argument-n-requires-clause-room c = omega (arith, c.requires.stands.room)

pub extra_argument-n-requires-clause-there : goal.extra_argument-n-requires-clause-there
extra_argument-n-requires-clause-there c =
    let at = c.requires.stands.at in
    record { place = at.place; is = at.is; there = has_extra at.place.function.code c.args.pc (loads c.args.to) (c.requires.safe at.place at.is) }

pub read_constant-v-requires : goal.read_constant-v-requires
read_constant-v-requires c =
    let x = c.extra_argument-n.ensures in
    let s = subst (λ t. IsSafe (expand t) [] c.args.world.now) (extra_is x.place.function.code c.args.pc c.extra_argument-n.result (loads c.args.to) x.extra) (c.requires.safe x.place x.is) in
    let at = c.requires.stands.at in
    record {
      codes = c.requires.stands.sound.order.codes;
      frame = record { place = at.place; is = at.is; checked = (sound_top at.place c.requires.stands.sound at.is).checked };
      there = can_do (read_constant c.extra_argument-n.result) (λ v _. expand (then (write_register c.args.to (read v)) skip)) s;
    }

pub write_register-requires : goal.write_register-requires
write_register-requires c =
    let x = c.extra_argument-n.ensures in
    let s = subst (λ t. IsSafe (expand t) [] c.args.world.now) (extra_is x.place.function.code c.args.pc c.extra_argument-n.result (loads c.args.to) x.extra) (c.requires.safe x.place x.is) in
    let t = safe_after (λ v _. expand (then (write_register c.args.to (read v)) skip)) s (c.read_constant-v.ensures []) in
    any_value {x = read 0} (can_do (write_register c.args.to (read 0)) (λ _ _. expand skip) t)

pub behind-requires : goal.behind-requires
behind-requires c = c.requires.stands.room

pub go_to-requires : goal.go_to-requires
go_to-requires c =
    let x = c.extra_argument-n.ensures in
    let v = meant c.args.world.now.strings c.read_constant-v.result in
    let s = subst (λ t. IsSafe (expand t) [] c.args.world.now) (extra_is x.place.function.code c.args.pc c.extra_argument-n.result (loads c.args.to) x.extra) (c.requires.safe x.place x.is) in
    let t = safe_after (λ v _. expand (then (write_register c.args.to (read v)) skip)) s (c.read_constant-v.ensures []) in
    may_go 2 (c.write_register.ensures.stays.at c.args.pc c.requires.stands.at) c.behind.ensures (safe_after (λ _ _. expand skip) t (c.write_register.ensures.makes (v ∷ []) (read 0) refl))

pub returns-clause-leads : goal.returns-clause-leads
returns-clause-leads c = λ p is.
    let x = c.extra_argument-n.ensures in
    let v = meant c.args.world.now.strings c.read_constant-v.result in
    let e = subst (λ (p : Place). Rattle.code_core.specs.Check.extra_at p.function.code c.args.pc ≡ Rattle.std.specs.Prelude.Some c.extra_argument-n.result) (some_is x.is is) x.extra in
    subst (λ t. Leads (expand t) [] c.args.world.now c.go_to.new.world go) (sym (extra_is p.function.code c.args.pc c.extra_argument-n.result (loads c.args.to) e))
    (first (λ v _. expand (then (write_register c.args.to (read v)) skip)) (c.read_constant-v.ensures [])
    (first (λ _ _. expand skip) (c.write_register.ensures.makes (v ∷ []) (read 0) refl)
    (goes_on 2 (c.write_register.ensures.stays.at c.args.pc c.requires.stands.at) c.behind.ensures c.go_to.ensures.makes _)))

pub returns-clause-order : goal.returns-clause-order
returns-clause-order c = order_kept (order_kept c.requires.stands.sound.order c.write_register.ensures.stays.rest c.write_register.ensures.stays.listed) c.go_to.ensures.rest c.go_to.ensures.listed
