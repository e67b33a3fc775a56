use Rattle.std.proofs.Common.{◌≡◌, ◌+◌, ◌<◌, ◌≤◌, [], ◌∷◌, length, ℕ, true, Some, refl, ap, sym, ◌∙◌, arith}
use Rattle.std.specs.Prelude.{slice_get}
use Rattle.int_core.specs.Value.{Value as Meant, boolean, is_known, nth}
use Rattle.lua_heap.specs.Plain.{plain}
use Rattle.lua_heap.specs.Reading.{value as meant}
use Rattle.machine_core.specs.Text.{is_there, last_pending, see_pending, value_if}
use Rattle.machine_core.specs.Moves.{made}
use Rattle.move_laws.proofs.Running.{has_stack, lua_top, of_top, own_read, registers_there, nth_is}
use Rattle.machine_moves.proofs.pending.see_pending.Goals as goal

behind : (r n : ℕ) → r < n → r + 1 ≤ n
behind r n l = omega (arith, l)

pub running_stack-stack-requires : goal.running_stack-stack-requires
running_stack-stack-requires c = has_stack c.args.world.now c.requires.place c.requires.is

pub last_pending-requires : goal.last_pending-requires
last_pending-requires c =
    let q = c.running_stack-stack.ensures in
    lua_top c.args.world.now q.co c.running_stack-stack.result.now c.requires.place q.runs c.requires.is

pub get-requires : goal.get-requires
get-requires c =
    let W = c.args.world.now in
    let q = c.running_stack-stack.ensures in
    let p = c.requires.place in
    let o = of_top W q.co c.running_stack-stack.result.now p (λ f t. c.last_pending.result ≡ last_pending c.args.register t.own.pending) q.runs c.requires.is c.last_pending.ensures in
    registers_there W q.co c.running_stack-stack.result.now p _ q.runs c.requires.is (behind c.in-Some.last (length p.top.own.registers) (c.requires.there c.in-Some.last (sym o ∙ c.in-Some.is)))

pub returns-in-Some : goal.returns-in-Some
returns-in-Some c = λ env.
    let W = c.args.world.now in
    let q = c.running_stack-stack.ensures in
    let p = c.requires.place in
    let v = meant W.strings c.get.result in
    let o = of_top W q.co c.running_stack-stack.result.now p (λ f t. c.last_pending.result ≡ last_pending c.args.register t.own.pending) q.runs c.requires.is c.last_pending.ensures in
    let is : nth p.top.own.registers c.in-Some.last ≡ v =
    nth_is p.top.own.registers c.in-Some.last v (of_top W q.co c.running_stack-stack.result.now p (λ f t. slice_get t.own.registers c.in-Some.last ≡ Some (f c.get.result)) q.runs c.requires.is c.get.ensures) in
    record {
      is = λ fuel.
          own_read (plain W fuel) p (see_pending c.args.register) env c.requires.is refl refl refl
          ∙ ap (λ o. made (plain W fuel) (value_if p.top.own.registers o) (is_known (boolean (is_there o)))) (sym o ∙ c.in-Some.is)
          ∙ ap (λ (v : Meant). made (plain W fuel) (v ∷ []) (is_known (boolean true))) is;
    }

pub returns-in-None : goal.returns-in-None
returns-in-None c = λ env.
    let W = c.args.world.now in
    let q = c.running_stack-stack.ensures in
    let p = c.requires.place in
    let o = of_top W q.co c.running_stack-stack.result.now p (λ f t. c.last_pending.result ≡ last_pending c.args.register t.own.pending) q.runs c.requires.is c.last_pending.ensures in
    record {
      is = λ fuel.
          own_read (plain W fuel) p (see_pending c.args.register) env c.requires.is refl refl refl
          ∙ ap (λ o. made (plain W fuel) (value_if p.top.own.registers o) (is_known (boolean (is_there o)))) (sym o ∙ c.in-None.is);
    }
