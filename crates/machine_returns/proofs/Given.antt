-- How many values a frame returns.
use Rattle.std.proofs.Common.{◌≡◌, ℕ, zero, suc, ◌+◌, ◌-◌, ◌≤◌, List, [], length, Option, Some, None, refl, ap, sym, subst, ◌∙◌, arith, true}
use Rattle.std.specs.Prelude.{nat_le}
use Rattle.std.proofs.lemmas.Bool.Decides.{nat_tests}
use Rattle.code_core.specs.Check.{Mark, fixed, open_from, mark}
use Rattle.int_core.specs.Value.{Value, Shape}
use Rattle.machine_core.specs.Text.{behind, is_there, list_end, list_values, read_list, read_registers}
use Rattle.machine_core.specs.Moves.{Made, made, on_own}
use Rattle.machine_sound.proofs.Lists.{some_is}
use Rattle.machine_sound.proofs.Values.{length_range}
use Rattle.lua_heap.specs.declared.world.World.{World as Memory}
use Rattle.lua_heap.specs.Plain.{plain}
use Rattle.move_laws.specs.Memory.{CanDo, IsSound, Makes}
use Rattle.move_laws.proofs.Running.{own_read}
use Rattle.move_laws.proofs.Sounds.{sound_top}

abbrev end_at : Mark → (opened : ℕ) → Option ℕ
end_at m opened = elim m [ fixed ↦ None | open_from r ↦ Some (r + opened) ]

within : (from end size n : ℕ) → n ≡ end - from → end ≤ size → behind from n ≤ size
within from end size zero e l = omega arith
within from end size (suc n) e l = omega (arith, e, l)

-- an open list ends among the registers
reach : (from opened : ℕ) (rs : List Value) (m : Mark) → is_there (end_at m opened) ≡ true → ((r : ℕ) → m ≡ open_from r → r + opened ≤ length rs)
    → behind from (length (list_values from rs (end_at m opened))) ≤ length rs
reach from opened rs fixed t l = absurd (cc)
reach from opened rs (open_from r) t l = within from (r + opened) (length rs) (length (list_values from rs (Some (r + opened)))) (length_range from (r + opened - from) rs) (l r refl)

test_of : (m n : ℕ) → m ≤ n → nat_le m n ≡ true
test_of m n l = search (arith, nat_tests)

same_values : (W : Memory) (vs ws : List Value) (a b : Shape) → made (plain W 0) vs a ≡ made (plain W 0) ws b → vs ≡ ws
same_values W vs ws a b e = ap (λ (d : Made Shape). d.values) (some_is {o = made (plain W 0) vs a} refl e)

-- so the registers of its values are there
pub list_there : (W : Memory) (from count : ℕ) (vs : List Value) (told : Shape) → IsSound W → CanDo W (read_list from) → Makes W W (on_own (read_list from)) [] vs told → length vs ≡ count → CanDo W (read_registers from count)
list_there W from count vs told s d m e =
    let p = d.place in
    let own = p.top.own in
    let rs = own.registers in
    let end = list_end p.function.code own in
    let is : vs ≡ list_values from rs end = same_values W vs (list_values from rs end) told _ (sym (m.is 0) ∙ own_read (plain W 0) p (read_list from) [] d.is d.fits refl refl) in
    let r = reach from own.opened rs (mark p.function.code own.pc) d.fits (sound_top p s d.is).list in
    record { place = p; is = d.is; fits = test_of (behind from count) (length rs) (subst (λ n. behind from n ≤ length rs) (sym (ap length is) ∙ e) r) }
