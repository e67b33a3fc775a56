-- Moves of a Lua frame on top that change it alone.
use Rattle.std.proofs.Common.{ℕ, zero, suc, ◌+◌, ◌*◌, ◌-◌, ◌<◌, ◌≤◌, ◌≡◌, List, [], ◌∷◌, Option, Some, None, refl, subst, sym, ap, length, arith, Bool, true, false}
use Rattle.std.specs.Prelude.{slice_get, ℤ, pos, negsuc}
use Rattle.int_core.specs.Value.{Value, bind, last, boolean, is_known, Shape}
use Rattle.code_core.specs.Prototype.{instruction_count}
use Rattle.code_core.specs.Check.{at}
use Rattle.machine_core.specs.World.{Function, Cell, Wait, LuaFrame, lua, World, Stack, put_top}
use Rattle.machine_core.specs.Text.{Own, read_register, read_registers, read_list, read_constant, read_varargs, see, write_register, write_registers, write_list, write_nils, end_list, cut_from, close_cells, mark_pending, see_pending, take_pending, drop_pending, keep_results, keep_pending, last_pending, is_there, reads, tells, effect, fits, done}
use Rattle.machine_core.specs.Moves.{Made, made, on_own, move_pc, with_own, cells_done, do_own, place_from, moved_pc, move}
use Rattle.machine_sound.proofs.Lists.{bind_some, get_within}
use Rattle.machine_sound.specs.Sound.{Each}
use Rattle.machine_sound.proofs.Values.{le_of}
use Rattle.machine_ends.specs.Measure.{Within, wait_weight, frame_weight, world_weight}
use Rattle.machine_ends.specs.Falls.{on_lua, own_needs, after_own, after_move_pc, IsForward, seen_by}
use Rattle.machine_ends.proofs.Weights.{Runs}
use Rattle.machine_ends.proofs.Pending.{Seen, seen_told, effect_pc, effect_pending, marked}
use Rattle.machine_ends.proofs.Held.{spare, HeldLua, Holds, made_is, cond_made, place_in, at_place, with_top, put_runs, put_weight, put_functions, top_last}

-- the top frame with another wait and activation

pub with_own_is : (W : World) (s : Stack) (f : LuaFrame) (g : Function) (w : Wait Value) (ms : List Own) (env : List Value)
    → with_own W (place_in s f g) w ms env ≡ put_top (record W { cells = cells_done ms g.code s.coroutine (length s.frames - 1) env f.own W.cells }) s (lua (record f { wait = w; own = done ms g.code env f.own }))
unfolding with_own
with_own_is W s f g w ms env = refl

-- what is known of a world with another frame on top
pub record PutSo (most : ℕ) (W V : World) (s : Stack) (f h : LuaFrame) : Type 0 where
  pub runs : Runs V (with_top s (lua h))
  pub weight : world_weight most V + frame_weight most (lua f) ≡ world_weight most W + frame_weight most (lua h)
  pub functions : V.functions ≡ W.functions

pub put_so : (most : ℕ) (W : World) (s : Stack) (f h : LuaFrame) (cells : List Cell) → Runs W s → last s.frames ≡ Some (lua f) → PutSo most W (put_top (record W { cells = cells }) s (lua h)) s f h
put_so most W s f h cells r e =
    let X : World = record W { cells = cells } in
    let q : Runs X s = record { last_is = r.last_is; there = r.there } in
    record { runs = put_runs X s (lua h) q; weight = put_weight most X s (lua f) (lua h) q e; functions = put_functions X s (lua h) }

pub own_so : (most : ℕ) (W : World) (s : Stack) (f : LuaFrame) (g : Function) (w : Wait Value) (ms : List Own) (env : List Value) → Runs W s → last s.frames ≡ Some (lua f)
    → PutSo most W (with_own W (place_in s f g) w ms env) s f (record f { wait = w; own = done ms g.code env f.own })
own_so most W s f g w ms env r e = subst (λ V. PutSo most W V s f (record f { wait = w; own = done ms g.code env f.own })) (sym (with_own_is W s f g w ms env))
    (put_so most W s f (record f { wait = w; own = done ms g.code env f.own }) (cells_done ms g.code s.coroutine (length s.frames - 1) env f.own W.cells) r e)

module _ (most bound : ℕ) (rich : Bool) (c : ℕ) (seen : Option ℕ) (runs : Bool) (env : List Value) (W : World) (within : Within most W) (h : HeldLua most bound rich c seen runs W) where
  -- the frame with one move done
  abbrev after : Own → Function → LuaFrame
  after m g = record h.top { own = effect m g.code env h.top.own }

  -- a move that costs no more than k
  changed : (m : Own) (g : Function) (k d : ℕ) (newly : Option ℕ) → length (effect m g.code env h.top.own).pending ≤ length h.top.own.pending + k → d + 20 * k ≤ c → Seen newly (effect m g.code env h.top.own).pending
      → Holds most bound (on_lua rich d newly runs) (with_own W (place_in h.stack h.top g) h.top.wait (m ∷ []) env)
  changed m g k d newly l q n =
      let o = own_so most W h.stack h.top g h.top.wait (m ∷ []) env h.running_is h.is_top in
      let e = ap (λ pc. 40 * (most - pc)) (effect_pc m g.code env h.top.own) in
      record {
        within = subst (λ fs. Each (λ (f : Function). instruction_count f.code ≤ most) fs) (sym o.functions) within;
        held = record {
          stack = with_top h.stack (lua (after m g));
          running_is = o.runs;
          top = after m g;
          is_top = top_last h.stack (lua (after m g));
          low = low rich h.low o.weight;
          pending = n;
          wait = h.wait;
        };
      }
    where
      low : (b : Bool) → world_weight most W + spare most b c ≤ bound + wait_weight h.top.wait
          → world_weight most (with_own W (place_in h.stack h.top g) h.top.wait (m ∷ []) env) + frame_weight most (lua h.top) ≡ world_weight most W + frame_weight most (lua (after m g))
          → world_weight most (with_own W (place_in h.stack h.top g) h.top.wait (m ∷ []) env) + spare most b d ≤ bound + wait_weight h.top.wait
      low true a w = let e = ap (λ pc. 40 * (most - pc)) (effect_pc m g.code env h.top.own) in omega arith
      low false a w = let e = ap (λ pc. 40 * (most - pc)) (effect_pc m g.code env h.top.own) in omega arith

  own_held : (m : Own) (g : Function) → own_needs m c → Holds most bound (after_own m rich c runs (tells m g.code env h.top.own)) (with_own W (place_in h.stack h.top g) h.top.wait (m ∷ []) env)
  own_held (see_pending r) g n = changed (see_pending r) g 0 c (seen_by r (is_known (boolean (is_there (last_pending r h.top.own.pending))))) (omega arith) (omega arith) (seen_told r h.top.own.pending (last_pending r h.top.own.pending) refl)
  own_held (mark_pending r) g n = changed (mark_pending r) g 1 (c - 20) None (let k = marked r g.code env h.top.own in omega arith) (let k = le_of 20 c n in omega arith) tt
  own_held (take_pending r) g n = changed (take_pending r) g 0 c None (let k = effect_pending (take_pending r) g.code env h.top.own refl in omega arith) (omega arith) tt
  own_held (drop_pending r) g n = changed (drop_pending r) g 0 c None (let k = effect_pending (drop_pending r) g.code env h.top.own refl in omega arith) (omega arith) tt
  own_held (read_register r) g n = changed (read_register r) g 0 c None (omega arith) (omega arith) tt
  own_held (read_registers from count) g n = changed (read_registers from count) g 0 c None (omega arith) (omega arith) tt
  own_held (read_list from) g n = changed (read_list from) g 0 c None (omega arith) (omega arith) tt
  own_held (read_constant r) g n = changed (read_constant r) g 0 c None (omega arith) (omega arith) tt
  own_held read_varargs g n = changed read_varargs g 0 c None (omega arith) (omega arith) tt
  own_held (see x) g n = changed (see x) g 0 c None (omega arith) (omega arith) tt
  own_held (write_register r x) g n = changed (write_register r x) g 0 c None (omega arith) (omega arith) tt
  own_held (write_registers at count slot) g n = changed (write_registers at count slot) g 0 c None (omega arith) (omega arith) tt
  own_held (write_list at slot) g n = changed (write_list at slot) g 0 c None (omega arith) (omega arith) tt
  own_held (write_nils at count) g n = changed (write_nils at count) g 0 c None (omega arith) (omega arith) tt
  own_held end_list g n = changed end_list g 0 c None (omega arith) (omega arith) tt
  own_held (cut_from r) g n = changed (cut_from r) g 0 c None (omega arith) (omega arith) tt
  own_held (close_cells r) g n = changed (close_cells r) g 0 c None (omega arith) (omega arith) tt
  own_held (keep_results from count) g n = changed (keep_results from count) g 0 c None (omega arith) (omega arith) tt
  own_held keep_pending g n = changed keep_pending g 0 c None (omega arith) (omega arith) tt

  pub own_move : (m : Own) → own_needs m c → (d : Made Shape) → move (on_own m) env W ≡ Some d → Holds most bound (after_own m rich c runs d.told) d.world
  own_move m n d e =
      let q = at_place W h.stack h.top (do_own m env W) d h.running_is h.is_top e in
      let x = cond_made (fits m q.0.code h.top.own) (record { world = with_own W (place_in h.stack h.top q.0) h.top.wait (m ∷ []) env; values = reads m q.0.code env h.top.own; told = tells m q.0.code env h.top.own }) d q.2 in
      subst (λ (d : Made Shape). Holds most bound (after_own m rich c runs d.told) d.world) x (own_held m q.0 n)

-- a jump

forward_from : (pc : ℕ) (z : ℤ) (to : ℕ) → place_from pc z ≡ Some to → IsForward z → pc < to
forward_from pc (pos (suc n)) to e f = let k : Some (pc + suc n) ≡ Some to = e in let q : pc + suc n ≡ to = cc in omega arith
forward_from pc (pos zero) to e f = absurd f
forward_from pc (negsuc n) to e f = absurd f

pub code_within : (most : ℕ) (W : World) (g : Function) (n : ℕ) → Within most W → slice_get W.functions n ≡ Some g → length g.code.own.code ≤ most
code_within most W g n w e = let k = w n g e in omega arith

module _ (most bound : ℕ) (c : ℕ) (seen : Option ℕ) (runs : Bool) (env : List Value) (W : World) (within : Within most W) where
  jumped : (rich : Bool) (h : HeldLua most bound rich c seen runs W) (g : Function) (to d : ℕ) → world_weight most W + d + 40 * (most - to) ≤ bound + wait_weight h.top.wait + 40 * (most - h.top.own.pc)
      → Holds most bound (on_lua false d None runs) (put_top W h.stack (lua (record h.top { own = record h.top.own { pc = to } })))
  jumped rich h g to d low =
      let f = record h.top { own = record h.top.own { pc = to } } in
      let o = put_so most W h.stack h.top f W.cells h.running_is h.is_top in
      record {
        within = subst (λ fs. Each (λ (f : Function). instruction_count f.code ≤ most) fs) (sym o.functions) within;
        held = record {
          stack = with_top h.stack (lua f);
          running_is = o.runs;
          top = f;
          is_top = top_last h.stack (lua f);
          low = (let k = o.weight in omega arith);
          pending = tt;
          wait = h.wait;
        };
      }

  pub pc_move : (rich : Bool) (h : HeldLua most bound rich c seen runs W) (z : ℤ) → (rich ≡ false → IsForward z) → (d : Made (Unit {0})) → move (move_pc z) env W ≡ Some d → Holds most bound (after_move_pc rich c runs) d.world
  pc_move rich h z f d e =
      let q = at_place W h.stack h.top (λ p. moved_pc W p z) d h.running_is h.is_top e in
      let a = bind_some (λ pc. bind (at q.0.code pc) (λ _. made (put_top W h.stack (lua (record h.top { own = record h.top.own { pc = pc } }))) [] tt)) (place_from h.top.own.pc z) d q.2 in
      let b = bind_some (λ _. made (put_top W h.stack (lua (record h.top { own = record h.top.own { pc = a.0 } }))) [] tt) (at q.0.code a.0) d a.2 in
      let l = get_within q.0.code.own.code a.0 b.0 b.1 in
      let m = code_within most W q.0 h.top.function within q.1 in
      subst (λ (d : Made (Unit {0})). Holds most bound (after_move_pc rich c runs) d.world) (made_is _ d b.2) (by rich h f q.0 a.0 a.1 l m)
    where
      by : (rich : Bool) (h : HeldLua most bound rich c seen runs W) → (rich ≡ false → IsForward z) → (g : Function) (to : ℕ) → place_from h.top.own.pc z ≡ Some to → to < length g.code.own.code → length g.code.own.code ≤ most
          → Holds most bound (after_move_pc rich c runs) (put_top W h.stack (lua (record h.top { own = record h.top.own { pc = to } })))
      by true h f g to p l m = jumped true h g to c (let k = h.low in omega arith)
      by false h f g to p l m = jumped false h g to (c + 40) (let k = h.low in let j = forward_from h.top.own.pc z to p (f refl) in omega arith)
