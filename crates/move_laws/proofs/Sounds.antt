-- What a sound world in memory tells of the Lua frame on top.
use Rattle.std.proofs.Common.{◌≡◌, ℕ, zero, suc, ◌+◌, ◌≤◌, ◌<◌, [], ◌∷◌, length, Option, Some, None, refl, ap, sym, subst, ◌∙◌, arith, Bool, true, false}
use Rattle.std.specs.Prelude.{◌-◌, IsTrue, ◌==◌, if◌then◌else◌, max, nat_lt}
use Rattle.std.specs.List.{list_all}
use Rattle.code_core.specs.declared.opcode.Opcode.{Opcode}
use Rattle.code_core.specs.declared.opcode.Opcode.TheVariants.{Call, TailCall, VarArg}
use Rattle.code_core.specs.declared.instruction.Instruction.{Instruction}
use Rattle.code_core.specs.Instruction.{a_of, c_of}
use Rattle.code_core.specs.Fields.{last_of, opens, registers}
use Rattle.code_core.specs.Prototype.{Prototype}
use Rattle.code_core.specs.Check.{CodeIsChecked, IsChecked, at, fixed, open_from, opened, left_by, mark}
use Rattle.int_core.specs.Limits.{greatest_depth}
use Rattle.machine_core.specs.World.{Function, World, Place, place_of}
use Rattle.machine_sound.specs.Sound.{Top, TopIs, MarkFits, FitsIfRuns, RunsOrWaits, sizes, Solid}
use Rattle.machine_sound.proofs.Lists.{some_is}
use Rattle.machine_sound.proofs.Frames.{the_place, place_is, frames_ok, function_ok, top_ok}
use Rattle.machine_sound.proofs.LuaSteps.{settles}
use Rattle.machine_sound.proofs.Places.{leaves_is}
use Rattle.machine_sound.proofs.Rules.{rules_at, opcode_there}
use Rattle.machine_sound.proofs.Values.{lt_of, both_of}
use Rattle.lua_heap.specs.declared.world.World.{World as Memory}
use Rattle.lua_heap.specs.Plain.{plain}
use Rattle.move_laws.specs.Memory.{IsSound}

-- an open list begins at a register of the code
starts_within : (op : Opcode) (w : Instruction) (n r : ℕ) → opens op w ≡ Some r → IsTrue (list_all (λ r. nat_lt r n) (registers op w)) → (r ≡ a_of w) × (r < n)
starts_within Call w n r e h = by (c_of w == 0) e
  where
    by : (b : Bool) → (if b then Some (a_of w) else None) ≡ Some r → (r ≡ a_of w) × (r < n)
    by true e =
        let s = some_is {o = Some (a_of w)} refl e in
        (sym s, subst (λ r. r < n) s (lt_of _ _ (both_of (nat_lt (a_of w) n) _ h).0))
    by false e = absurd (cc)
starts_within TailCall w n r e h =
    let s = some_is {o = Some (a_of w)} refl e in
    (sym s, subst (λ r. r < n) s (lt_of _ _ (both_of (nat_lt (a_of w) n) _ h).0))
starts_within VarArg w n r e h = by (c_of w == 0) e h
  where
    by : (b : Bool) → (if b then Some (a_of w) else None) ≡ Some r → IsTrue (list_all (λ r. nat_lt r n) (if b then a_of w ∷ [] else last_of (a_of w) (c_of w - 1))) → (r ≡ a_of w) × (r < n)
    by true e h =
        let s = some_is {o = Some (a_of w)} refl e in
        (sym s, subst (λ r. r < n) s (lt_of _ _ (both_of (nat_lt (a_of w) n) _ h).0))
    by false e h = absurd (cc)
starts_within _ w n r e h = absurd (cc)

-- the instruction in front says where it begins
pub record OpensFrom (p : Prototype) (pc r : ℕ) : Type 0 where
  pub front : ℕ
  pub is : pc ≡ suc front
  pub word : Instruction
  pub there : at p front ≡ Some word
  pub begins : r ≡ a_of word
  pub within : r < p.own.stack

opened_some : (o : Option ℕ) (r : ℕ) → opened o ≡ open_from r → o ≡ Some r
opened_some None r e = absurd (cc)
opened_some (Some q) r e = ap (λ m. elim m as (λ _. Option ℕ) [ fixed ↦ None | open_from k ↦ Some k ]) e

pub opened_by : (p : Prototype) (pc r : ℕ) → CodeIsChecked p → mark p pc ≡ open_from r → OpensFrom p pc r
opened_by p zero r c e = absurd (cc)
opened_by p (suc k) r c e = from (at p k) refl e
  where
    from : (o : Option Instruction) → at p k ≡ o → left_by o ≡ open_from r → OpensFrom p (suc k) r
    from None q m = absurd (cc)
    from (Some v) q m =
        let o = opcode_there p k v c q in
        let s = starts_within o.0 v p.own.stack r (opened_some (opens o.0 v) r (sym (leaves_is v o.0 o.1) ∙ m)) (rules_at p k v o.0 c q o.1).registers_there in
        record { front = k; is = refl; word = v; there = q; begins = s.0; within = s.1 }

-- the code is checked, its registers are there and an open list is among them
pub record SoundTop (p : Place) : Type 0 where
  pub checked : IsChecked p.function.code
  pub room : p.function.code.own.stack ≤ length p.top.own.registers
  pub depth : length p.stack.frames ≤ greatest_depth
  pub list : (r : ℕ) → mark p.function.code p.top.own.pc ≡ open_from r → r + p.top.own.opened ≤ length p.top.own.registers

module _ (n : ℕ) (t : Top) (W : World) (h : TopIs n t W) (s : Solid n W) where
  room_there : h.function.code.own.stack ≤ length h.top.own.registers
  room_there = let k = top_ok n t W h s in subst (λ (f : Function). f.code.own.stack ≤ length h.top.own.registers) (some_is k.there h.there) k.stack

  list_there : (r : ℕ) → mark h.function.code h.top.own.pc ≡ open_from r → (b : Bool) → RunsOrWaits b (sizes n W) h.top → FitsIfRuns b t → r + h.top.own.opened ≤ length h.top.own.registers
  list_there r m true w f =
      let m' : mark t.code t.pc ≡ open_from r = ap (mark t.code) (sym h.pc) ∙ ap (λ p. mark p h.top.own.pc) (sym h.code) ∙ m in
      let e : t.size ≡ max t.code.own.stack (r + t.opened) = subst (λ m. MarkFits m t.code.own.stack t.size t.opened) m' f.fits_mark in
      let a = h.size in
      let b = h.opened in
      omega (arith, e, a, b)
  list_there r m false w f =
      let o = opened_by h.function.code h.top.own.pc r (function_ok n t W h s).code.code m in
      let a = o.within in
      let b = room_there in
      let c = w.opened in
      omega (arith, a, b, c)

  top_there : FitsIfRuns t.runs t → SoundTop (the_place n t W h)
  top_there f = record {
    checked = (function_ok n t W h s).code;
    room = room_there;
    depth = (frames_ok n t W h s).depth;
    list = λ r m. list_there r m t.runs h.wait f;
  }

pub sound_top : {W : Memory} (p : Place) → IsSound W → place_of (plain W 0) ≡ Some p → SoundTop p
sound_top {W} p s e =
    let k = settles s.primitives (plain W 0) p s.sound e in
    subst SoundTop (some_is (place_is s.primitives k.top (plain W 0) k.is_top) e) (top_there s.primitives k.top (plain W 0) k.is_top s.sound.solid k.fits)
