-- The moves of a Lua frame on top on its own activation, and what the other moves share.
use Rattle.std.proofs.Common.{ℕ, ◌≡◌, List, [], ◌∷◌, ◌++◌, Option, Some, None, refl, subst, sym, ap, ◌∙◌, length, Bool, true, false, cond}
use Rattle.std.specs.Prelude.{pos, IsTrue, IsSome, ℤ}
use Rattle.std.specs.List.{list_all}
use Rattle.int_core.specs.Value.{Value, known, greatest_string}
use Rattle.code_core.specs.declared.proto.Const.{Const}
use Rattle.code_core.specs.declared.proto.Const.TheVariants.{Str}
use Rattle.code_core.specs.Prototype.{Parts, Prototype}
use Rattle.code_core.specs.Check.{IsChecked, at, none_or_one_per, is_line, lines_from}
use Rattle.code_core.specs.Writable.{is_writable, parts_fit, entries_fit, lists_fit, constant_fits, word_fits, name_fits, number_fits, byte_fits}
use Rattle.machine_core.specs.World.{Activation, LuaFrame, lua, World, place_of, put_top}
use Rattle.machine_core.specs.Text.{constant, Own, read_register, read_registers, read_list, read_constant, read_varargs, see, see_pending, reads, tells, effect}
use Rattle.machine_core.specs.Moves.{cells_after, with_own, do_own, place_from, moved_pc, on_own, move_pc, made}
use Rattle.machine_sound.specs.Sound.{Each, Sizes, sizes, Valid, Solid, Top, RunsOrWaits, TopIs}
use Rattle.machine_sound.specs.Safe.{Phase, on_lua, IsPhase, Is, TopReady, IfChanged, after_own, own_values, MoveGood}
use Rattle.machine_sound.proofs.Lists.{each_none, each_append, each_on, bind_at}
use Rattle.machine_sound.proofs.Values.{all_get, both_of, le_of}
use Rattle.machine_sound.proofs.Grow.{Grows, values_on, lua_waits_on}
use Rattle.machine_sound.proofs.Own.{OwnIs, known_so, own_good}
use Rattle.machine_sound.proofs.OwnReads.{own_read}
use Rattle.machine_sound.proofs.Frames.{the_place, place_is, own_known, function_ok, top_ok, with_own_is, frame_so, new_grows, new_solid, new_top, new_world, top_put}

-- what was read and what is known, in the world behind a move
pub made_so : (n : ℕ) (x q : Phase) (env vs : List Value) (W V : World) → Is n x env W → Grows (sizes n W) (sizes n V) → Solid n V → IsPhase n q V → Each (Valid (sizes n V)) vs → Is n q (env ++ vs) V
made_so n x q env vs W V i g s h v = record { solid = s; phase = h; valid = each_append (Valid (sizes n V)) env vs (values_on (sizes n W) (sizes n V) g env i.valid) v }

-- constants of checked code are values

constant_valid : (z : Sizes) (c : Const) → IsTrue (constant_fits c) → Valid z (known (constant c))
constant_valid z (Str s) h = le_of (length s) greatest_string h
constant_valid z _ h = tt

entries_of : (p : Parts) → IsTrue (parts_fit p) → IsTrue (entries_fit p)
entries_of p h =
    let a = (both_of (name_fits p.source) _ h).1 in
    let b = (both_of (number_fits p.line_defined) _ a).1 in
    let c = (both_of (number_fits p.last_line) _ b).1 in
    let d = (both_of (byte_fits p.params) _ c).1 in
    let e = (both_of (byte_fits p.stack) _ d).1 in
    (both_of (lists_fit p) (entries_fit p) e).1

pub constants_ok : (z : Sizes) (p : Prototype) → IsChecked p → Each (λ c. Valid z (known (constant c))) p.own.constants
constants_ok z p h =
    let a = (both_of (none_or_one_per (length p.own.line_info) (length p.own.code)) _ h.code.described).1 in
    let b = (both_of (list_all is_line (lines_from p.own.abs_lines 0 (Some (pos p.own.line_defined)) p.own.line_info)) _ a).1 in
    let c = (both_of (none_or_one_per (length p.own.up_names) (length p.own.upvalues)) (is_writable p) b).1 in
    let d = (both_of (parts_fit p.own) _ c).0 in
    let e = (both_of (list_all word_fits p.own.code) _ (entries_of p.own d)).1 in
    let f = (both_of (list_all constant_fits p.own.constants) _ e).0 in
    each_on (λ c. IsTrue (constant_fits c)) (λ c. Valid z (known (constant c))) (constant_valid z) p.own.constants (all_get constant_fits p.own.constants f)

-- what runs goes on running

runs_after : (m : Own) (env : List Value) (t : Top) → (after_own m env t).runs ≡ t.runs
runs_after (read_register r) env t = refl
runs_after _ env t = refl

-- a frame that waits, where it is not changed
still_waits : (z y : Sizes) → Grows z y → (m : Own) (p : Prototype) (env : List Value) (f : LuaFrame) (b : Bool) → IfChanged m b → RunsOrWaits b z f → RunsOrWaits b y (record f { own = effect m p env f.own })
still_waits z y g m p env f true c h = h
still_waits z y g (read_register r) p env f false c h = lua_waits_on z y g f h
still_waits z y g (read_registers from count) p env f false c h = lua_waits_on z y g f h
still_waits z y g (read_list from) p env f false c h = lua_waits_on z y g f h
still_waits z y g (read_constant n) p env f false c h = lua_waits_on z y g f h
still_waits z y g read_varargs p env f false c h = lua_waits_on z y g f h
still_waits z y g (see x) p env f false c h = lua_waits_on z y g f h
still_waits z y g (see_pending r) p env f false c h = lua_waits_on z y g f h
still_waits z y g _ p env f false c h = absurd (cc)

pub own_move : (n : ℕ) (m : Own) (t : Top) (env : List Value) (W : World) → Is n (on_lua t) env W → TopReady t env (on_own m) → MoveGood n (on_lua t) env (on_own m) W
own_move n m t env W i r =
    let h = i.phase in
    let s = i.solid in
    let z = sizes n W in
    let p = h.function.code in
    let co = h.coroutine in
    let k = length h.base in
    let know = own_known n t W h s in
    let read = own_read z W.cells p co k env (constants_ok z p (function_ok n t W h s).code) m t h.top.own W.cells r.0 know in
    let know' = own_good z W.cells p co k env i.valid m t h.top.own W.cells r.0 know in
    let own' = effect m p env h.top.own in
    let cells = cells_after m co k h.top.own W.cells in
    let u = after_own m env t in
    let V = new_world n t W h s u h.top.wait own' cells know' (top_ok n t W h s).error in
    let g = new_grows n t W h s u h.top.wait own' cells know' (top_ok n t W h s).error in
    let waits = subst (λ b. RunsOrWaits b (sizes n V) (frame_so n t W h h.top.wait own')) (sym (runs_after m env t)) (still_waits z (sizes n V) g m p env h.top t.runs r.1 h.wait) in
    let top = new_top n t W h s u h.top.wait own' cells know' (top_ok n t W h s).error waits in
    record {
      event = read.event;
      world = V;
      is = bind_at (do_own m env W) (place_of W) (the_place n t W h) (place_is n t W h)
          ∙ ap (λ b. cond b (made (with_own W (the_place n t W h) h.top.wait (m ∷ []) env) (reads m p env h.top.own) (tells m p env h.top.own)) None) read.fits_so
          ∙ ap (λ V. made V (reads m p env h.top.own) (tells m p env h.top.own)) (with_own_is n t W h h.top.wait (m ∷ []) env)
          ∙ ap (λ vs. made V vs (tells m p env h.top.own)) (sym read.values)
          ∙ ap (λ s. made V (own_values t m read.event) s) (sym read.told);
      holds = made_so n (on_lua t) (on_lua u) env (own_values t m read.event) W V i g (new_solid n t W h s u h.top.wait own' cells know' (top_ok n t W h s).error) top (values_on z (sizes n V) g (own_values t m read.event) read.valid);
    }

-- the place in the code

other_place : (n : ℕ) (t : Top) (W : World) (h : TopIs n t W) (s : Solid n W) (pc : ℕ) → OwnIs (sizes n W) W.cells h.function.code h.coroutine (length h.base) (record t { pc = pc }) (record h.top.own { pc = pc }) W.cells
other_place n t W h s pc =
    let z = sizes n W in
    let own = h.top.own in
    let k = own_known n t W h s in
    known_so z W.cells h.function.code h.coroutine (length h.base) [] (each_none (Valid z)) t own W.cells k pc pc t.runs t.size t.opened own.opened t.pending own.registers own.pending refl k.opened k.size k.stack k.registers k.cells_there k.bound k.pending

pub some_of : {A : Type 0} (o : Option A) → IsSome o → (a : A) × (o ≡ Some a)
some_of None h = absurd (cc)
some_of (Some a) h = (a, refl)

runs_so : (b : Bool) → IsTrue b → (z y : Sizes) (f g : LuaFrame) → f.wait ≡ g.wait → RunsOrWaits b z f → RunsOrWaits b y g
runs_so true h z y f g e k = sym e ∙ k
runs_so false h z y f g e k = absurd (cc)

pub pc_move : (n : ℕ) (d : ℤ) (t : Top) (env : List Value) (W : World) → Is n (on_lua t) env W → TopReady t env (move_pc d) → MoveGood n (on_lua t) env (move_pc d) W
pc_move n d t env W i r =
    let h = i.phase in
    let s = i.solid in
    let p = h.function.code in
    let l = r.1 in
    let pc = l.place in
    let u : Top = record t { pc = pc } in
    let own' : Activation = record h.top.own { pc = pc } in
    let k = other_place n t W h s pc in
    let e = (top_ok n t W h s).error in
    let V = new_world n t W h s u h.top.wait own' W.cells k e in
    let g = new_grows n t W h s u h.top.wait own' W.cells k e in
    let w = some_of (at t.code pc) l.there in
    let there : at p pc ≡ Some w.0 = ap (λ c. at c pc) h.code ∙ w.1 in
    let put : put_top W (the_place n t W h).stack (lua (record h.top { own = own' })) ≡ V = top_put W (the_place n t W h).stack h.base h.top (record h.top { own = own' }) refl in
    record {
      event = l;
      world = V;
      is = bind_at (λ p. moved_pc W p d) (place_of W) (the_place n t W h) (place_is n t W h)
          ∙ bind_at _ (place_from h.top.own.pc d) pc (ap (λ c. place_from c d) h.pc ∙ l.is)
          ∙ bind_at _ (at p pc) w.0 there
          ∙ ap (λ V. made V [] tt) put;
      holds = made_so n (on_lua t) (on_lua u) env [] W V i g (new_solid n t W h s u h.top.wait own' W.cells k e) (new_top n t W h s u h.top.wait own' W.cells k e (runs_so t.runs r.0 (sizes n W) (sizes n V) h.top (frame_so n t W h h.top.wait own') refl h.wait)) (each_none (Valid (sizes n V)));
    }
