-- Registers in a row, and those of an open list.
use Rattle.std.proofs.Common.{◌≡◌, ◌≢◌, ℕ, zero, suc, ◌+◌, ◌-◌, ◌≤◌, List, [], length, drop, take, Option, Some, None, refl, ap, sym, subst, ◌∙◌, arith, true}
use Rattle.std.specs.Prelude.{map, nat_le, pos, slice_get}
use Rattle.std.proofs.lemmas.List.{length-map}
use Rattle.code_core.specs.declared.instruction.Instruction.{Instruction}
use Rattle.code_core.specs.Instruction.{a_of}
use Rattle.code_core.specs.Check.{Mark, fixed, open_from, in_front, mark}
use Rattle.int_core.specs.Value.{Value, integer, nil, is_known, range}
use Rattle.machine_core.specs.World.{Place}
use Rattle.machine_core.specs.Text.{behind, is_there, list_end, list_values, read_list, read_registers}
use Rattle.machine_core.specs.Moves.{made, on_own}
use Rattle.machine_sound.proofs.Lists.{some_is}
use Rattle.table_core.specs.declared.value.CoroId.{CoroId}
use Rattle.table_core.specs.declared.value.Value.{Value as Kept}
use Rattle.lua_stack.specs.Frames.{KeptStack, OnTop}
use Rattle.lua_stack.proofs.Called.{range_is}
use Rattle.lua_stack.proofs.LaidOut.{map_drop}
use Rattle.lua_stack.proofs.Parts.{map_take}
use Rattle.lua_heap.specs.declared.world.World.{World as Memory}
use Rattle.lua_heap.specs.declared.codes.Code.{Code}
use Rattle.lua_heap.specs.Codes.{IsCode}
use Rattle.lua_heap.specs.Reading.{value}
use Rattle.lua_heap.specs.Plain.{plain}
use Rattle.move_laws.specs.Memory.{CanDo, IsSound, Makes, Runs}
use Rattle.move_laws.proofs.Running.{of_top, own_read}
use Rattle.move_laws.proofs.Sounds.{OpensFrom, opened_by, sound_top}
use Rattle.machine_moves.specs.Code.{IsCodeOnTop}
use Rattle.machine_moves.specs.Moves.{IsInFront}
use Rattle.machine_moves.proofs.Stacks.{at_most}

pub range_kept : (f : Kept → Value) (kept : List Kept) (registers : List Value) (from count : ℕ) → map f kept ≡ registers → from + count ≤ length kept → range from count registers ≡ map f (take count (drop from kept))
range_kept f kept registers from count e l =
    let n = length-map kept f in
    ap (range from count) (sym e) ∙ range_is from count (map f kept) (omega (arith, n, l)) ∙ ap (take count) (sym (map_drop f from kept)) ∙ sym (map_take f count (drop from kept))

pub registers_read : (W : Memory) (from count : ℕ) (vs : List Kept) (env : List Value) (d : CanDo W (read_registers from count)) → range from count d.place.top.own.registers ≡ map (value W.strings) vs
    → Makes W W (on_own (read_registers from count)) env (map (value W.strings) vs) (is_known nil)
registers_read W from count vs env d e = record {
  is = λ fuel. own_read (plain W fuel) d.place (read_registers from count) env d.is d.fits refl refl ∙ ap (λ vs. made (plain W fuel) vs (is_known nil)) e;
}

-- some registers in a row that there are
pub some_fit : (f : Kept → Value) (kept : List Kept) (registers : List Value) (from count : ℕ) → map f kept ≡ registers → count ≢ 0 → nat_le (behind from count) (length registers) ≡ true → from + count ≤ length kept
some_fit f kept registers from zero e n l = absurd (n refl)
some_fit f kept registers from (suc count) e n l =
    let a = length-map kept f in
    let b = ap length e in
    let c : from + suc count ≤ length registers = at_most (from + suc count) (length registers) l in
    omega (arith, a, b, c)

-- where an open list ends, which is behind the register from which the instruction in front opens it

abbrev ended_by : Mark → ℕ → Option ℕ
ended_by m opened = elim m [ fixed ↦ None | open_from r ↦ Some (r + opened) ]

-- an open list is in front of the frame's place
pub record Opens (p : Place) : Type 0 where
  pub register : ℕ
  pub is_mark : mark p.function.code p.top.own.pc ≡ open_from register
  pub opens : OpensFrom p.function.code p.top.own.pc register

pub opens_there : (W : Memory) (from : ℕ) → IsSound W → (d : CanDo W (read_list from)) → Opens d.place
opens_there W from s d = by (mark d.place.function.code d.place.top.own.pc) refl
  where
    by : (m : Mark) → mark d.place.function.code d.place.top.own.pc ≡ m → Opens d.place
    by fixed q = absurd (let f : is_there (ended_by fixed d.place.top.own.opened) ≡ true = ap (λ m. is_there (ended_by m d.place.top.own.opened)) (sym q) ∙ d.fits in cc)
    by (open_from r) q = record { register = r; is_mark = q; opens = opened_by d.place.function.code d.place.top.own.pc r (sound_top d.place s d.is).checked.code q }

-- the word in front, in what is kept of the code
pub front_kept : (W : Memory) (code : Code) (pc : ℕ) → IsSound W → (d : CanDo W (read_list 0)) → IsCodeOnTop W code → pc ≡ d.place.top.own.pc
    → (word : Instruction) × (slice_get code.words.items (pc - 1) ≡ Some word) × (in_front d.place.function.code d.place.top.own.pc ≡ Some word)
front_kept W code pc s d k e =
    let o = (opens_there W 0 s d).opens in
    let p = d.place in
    let says : IsCode W.strings k.number p.function.code code = subst (λ (p : Place). IsCode W.strings k.number p.function.code code) (some_is k.is d.is) k.says in
    let i = o.is in
    let at_front : pc - 1 ≡ o.front = omega (arith, e, i) in
    (o.word, ap (λ ws. slice_get ws (pc - 1)) says.words ∙ ap (slice_get p.function.code.own.code) at_front ∙ o.there, ap (in_front p.function.code) o.is ∙ o.there)

pub record EndsAt (p : Place) (end : ℕ) : Type 0 where
  pub ends : list_end p.function.code p.top.own ≡ Some end
  pub within : end ≤ length p.top.own.registers

pub list_ends : (W : Memory) (from : ℕ) (word : Instruction) → IsSound W → (d : CanDo W (read_list from)) → IsInFront W word → EndsAt d.place (a_of word + d.place.top.own.opened)
list_ends W from word s d f =
    let o = opens_there W from s d in
    let p = d.place in
    let e : in_front p.function.code p.top.own.pc ≡ Some word = subst (λ (p : Place). in_front p.function.code p.top.own.pc ≡ Some word) (some_is f.is d.is) f.there in
    let same : o.opens.word ≡ word = some_is o.opens.there (sym (ap (in_front p.function.code) o.opens.is) ∙ e) in
    let begins : o.register ≡ a_of word = o.opens.begins ∙ ap a_of same in
    record {
      ends = ap (λ m. ended_by m p.top.own.opened) o.is_mark ∙ ap (λ r. Some (r + p.top.own.opened)) begins;
      within = subst (λ r. r + p.top.own.opened ≤ length p.top.own.registers) begins ((sound_top p s d.is).list o.register o.is_mark);
    }

pub list_read : (W : Memory) (from end : ℕ) (vs : List Kept) (env : List Value) (d : CanDo W (read_list from)) → EndsAt d.place end → range from (end - from) d.place.top.own.registers ≡ map (value W.strings) vs
    → Makes W W (on_own (read_list from)) env (map (value W.strings) vs) (is_known (integer (pos (length vs))))
list_read W from end vs env d l e =
    let p = d.place in
    let f = value W.strings in
    let is : list_values from p.top.own.registers (list_end p.function.code p.top.own) ≡ map f vs = ap (list_values from p.top.own.registers) l.ends ∙ e in
    record {
      is = λ fuel.
          own_read (plain W fuel) p (read_list from) env d.is d.fits refl refl
          ∙ ap (λ vs. made (plain W fuel) vs (is_known (integer (pos (length vs))))) is
          ∙ ap (λ n. made (plain W fuel) (map f vs) (is_known (integer (pos n)))) (length-map vs f);
    }

-- the whole of it is kept
pub range_of : (f : Kept → Value) (kept : List Kept) (p : Place) (from end : ℕ) → map f kept ≡ p.top.own.registers → EndsAt p end → from ≤ end → range from (end - from) p.top.own.registers ≡ map f (take (end - from) (drop from kept))
range_of f kept p from end e l b =
    let n = length-map kept f in
    let m = ap length e in
    let w = l.within in
    range_kept f kept p.top.own.registers from (end - from) e (omega (arith, n, m, w, b))

pub range_none : (end from : ℕ) (registers : List Value) → end ≤ from → range from (end - from) registers ≡ []
range_none end from registers l = let e : end - from ≡ 0 = omega (arith, l) in ap (λ n. range from n registers) e

-- the end as it is added up
pub ends_as : (p : Place) (word : Instruction) (from opened : ℕ) → EndsAt p (a_of word + p.top.own.opened) → from ≡ a_of word → opened ≡ p.top.own.opened → EndsAt p (from + opened)
ends_as p word from opened l e f = subst (EndsAt p) (ap (λ n. n + p.top.own.opened) (sym e) ∙ ap (λ n. from + n) (sym f)) l

pub within_kept : (p : Place) (f : Kept → Value) (kept : List Kept) {end : ℕ} → map f kept ≡ p.top.own.registers → EndsAt p end → end ≤ length kept
within_kept p f kept {end} e l =
    let a = length-map kept f in
    let b = ap length e in
    let c = l.within in
    omega (arith, a, b, c)

-- what is seen of an open list: where it ends, and the registers
pub record SeesList (p : Place) (f : Kept → Value) (registers : List Kept) (end : ℕ) : Type 0 where
  pub ends : EndsAt p end
  pub kept : map f registers ≡ p.top.own.registers

pub sees_list : {W : Memory} {at : ℕ} {word : Instruction} {co : CoroId} {stack : KeptStack} (from opened : ℕ) (registers : List Kept) → IsSound W → (d : CanDo W (read_list at)) → IsInFront W word → Runs W co stack → from ≡ a_of word
    → OnTop stack (λ f t. opened ≡ t.own.opened) → OnTop stack (λ f t. map f registers ≡ t.own.registers) → SeesList d.place (value W.strings) registers (from + opened)
sees_list {W} {at} {word} {co} {stack} from opened registers s d front r a o k = record {
  ends = ends_as d.place word from opened (list_ends W at word s d front) a (of_top W co stack d.place (λ f t. opened ≡ t.own.opened) r d.is o);
  kept = of_top W co stack d.place (λ f t. map f registers ≡ t.own.registers) r d.is k;
}
