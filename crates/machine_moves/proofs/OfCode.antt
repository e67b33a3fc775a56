-- The function of the Lua frame on top, and its constants.
use Rattle.std.proofs.Common.{◌≡◌, ℕ, ◌<◌, List, [], ◌∷◌, length, Option, Some, None, refl, ap, sym, subst, ◌∙◌, arith, true}
use Rattle.std.specs.Prelude.{map, nat_lt, slice_get, IsSome}
use Rattle.std.proofs.lemmas.List.{length-map}
use Rattle.std.proofs.lemmas.Bool.Decides.{nat_tests}
use Rattle.code_core.specs.declared.proto.Const.{Const}
use Rattle.code_core.specs.Prototype.{Prototype}
use Rattle.int_core.specs.Value.{Value, known, nil, bind, Shape, is_known, shape}
use Rattle.machine_core.specs.World.{Function, Cell, closed, open_at, World, Place, place_of, read_cell, write_cell}
use Rattle.machine_core.specs.Text.{Arg, arg, constant, read_constant, read_upvalue, write_upvalue}
use Rattle.machine_core.specs.Moves.{made, on_own, outside, do_outside}
use Rattle.machine_sound.proofs.Lists.{bind_at, bind_some, get_map, get_there, get_within, map_get, some_is}
use Rattle.table_core.specs.declared.value.CellId.{CellId}
use Rattle.table_core.specs.declared.value.Value.{Value as Kept}
use Rattle.lua_heap.specs.declared.world.Func.{Func}
use Rattle.lua_heap.specs.declared.world.World.{World as Memory}
use Rattle.lua_heap.specs.declared.codes.Code.{Code}
use Rattle.lua_heap.specs.Codes.{functions, prototype_at, IsCode}
use Rattle.lua_heap.specs.Changes.{value_in, with_value_in}
use Rattle.lua_heap.specs.Reading.{value}
use Rattle.lua_heap.specs.Plain.{plain, function}
use Rattle.move_laws.specs.Memory.{CanDo, Makes, StandsAt}
use Rattle.move_laws.proofs.Places.{place_is}
use Rattle.move_laws.proofs.Running.{own_read}
use Rattle.move_laws.proofs.Standing.{pc_of, pc_written, stands_as}
use Rattle.machine_moves.specs.Code.{HasUpvalue, IsCodeOnTop, IsFunctionOnTop, IsUpvalue}

-- the function on top in memory
pub record Kept_function (W : Memory) (at : Place) (n : ℕ) : Type 0 where
  pub func : Func
  pub there : slice_get W.funcs.objects n ≡ Some func
  pub is : function (functions W.codes) func ≡ at.function

pub function_kept : (W : Memory) (at : Place) (n : ℕ) → place_of (plain W 0) ≡ Some at → n ≡ at.top.function → Kept_function W at n
function_kept W at n e same =
    let p = place_is (plain W 0) at e in
    let f = map_get (function (functions W.codes)) W.funcs.objects n at.function (ap (slice_get (plain W 0).functions) same ∙ p.function) in
    record { func = f.0; there = f.1; is = f.2 }

pub function_there : (W : Memory) (at : Place) (n : ℕ) → Kept_function W at n → n < length W.funcs.objects
function_there W at n k = get_within W.funcs.objects n k.func k.there

pub func_is : (W : Memory) (at : Place) (n : ℕ) (f : Func) → Kept_function W at n → slice_get W.funcs.objects n ≡ Some f → function (functions W.codes) f ≡ at.function
func_is W at n f k e = ap (function (functions W.codes)) (some_is e k.there) ∙ k.is

pub code_is : (W : Memory) (at : Place) (n : ℕ) (f : Func) → Kept_function W at n → slice_get W.funcs.objects n ≡ Some f → prototype_at (functions W.codes) f.code.0 ≡ at.function.code
code_is W at n f k e = ap (λ (g : Function). g.code) (func_is W at n f k e)

pub top_code_is : (W : Memory) (at : Place) (f : Func) → place_of (plain W 0) ≡ Some at → IsFunctionOnTop W f → prototype_at (functions W.codes) f.code.0 ≡ at.function.code
top_code_is W at f e k = ap (λ (g : Function). g.code) (k.same at e)

-- constants

module _ (texts : List (List ℕ)) (n : ℕ) (p : Prototype) (code : Code) (c : IsCode texts n p code) where
  pub constant_there : (i : ℕ) → nat_lt i (length p.own.constants) ≡ true → i < length code.constants.items
  constant_there i l =
      let m = ap length c.constants in
      let a = length-map code.constants.items (value texts) in
      let b = length-map p.own.constants (λ c. known (constant c)) in
      let size : length code.constants.items ≡ length p.own.constants = sym a ∙ m ∙ b in
      let k : i < length p.own.constants = search (arith, nat_tests) in
      omega (arith, size, k)

  pub constant_is : (i : ℕ) (v : Kept) (k : Const) → slice_get code.constants.items i ≡ Some v → slice_get p.own.constants i ≡ Some k → known (constant k) ≡ value texts v
  constant_is i v k e f =
      some_is (get_map (λ c. known (constant c)) p.own.constants i k f) (ap (λ l. slice_get l i) (sym c.constants) ∙ get_map (value texts) code.constants.items i v e)

abbrev constant_read : Option Const → List Value
constant_read o = elim o [ None ↦ [] | Some c ↦ known (constant c) ∷ [] ]

abbrev constant_told : Option Const → Shape
constant_told o = elim o [ None ↦ is_known nil | Some c ↦ is_known (constant c) ]

pub constant_made : (W : Memory) (n : ℕ) (code : Code) (v : Kept) (env : List Value) (d : CanDo W (read_constant n)) (k : IsCodeOnTop W code) → slice_get code.constants.items n ≡ Some v
    → Makes W W (on_own (read_constant n)) env (value W.strings v ∷ []) (shape (value W.strings v))
constant_made W n code v env d k e =
    let at = d.place in
    let same : k.place ≡ at = some_is k.is d.is in
    let says : IsCode W.strings k.number at.function.code code = subst (λ (p : Place). IsCode W.strings k.number p.function.code code) same k.says in
    let l : n < length at.function.code.own.constants = below n (length at.function.code.own.constants) d.fits in
    let c = get_there at.function.code.own.constants n l in
    let is = constant_is W.strings k.number at.function.code code says n v c.0 e c.1 in
    record {
      is = λ fuel.
          own_read (plain W fuel) at (read_constant n) env d.is d.fits refl refl
          ∙ ap (λ o. made (plain W fuel) (constant_read o) (constant_told o)) c.1
          ∙ ap (λ v. made (plain W fuel) (v ∷ []) (shape v)) is;
    }
  where
    below : (i m : ℕ) → nat_lt i m ≡ true → i < m
    below i m e = search (arith, nat_tests)

-- upvalues

cells_are : (W : Memory) (at : Place) (f : Func) → place_of (plain W 0) ≡ Some at → IsFunctionOnTop W f → map (λ c. c.0) f.cells.items ≡ at.function.cells
cells_are W at f e k = ap (λ (g : Function). g.cells) (k.same at e)

pub cell_there : (W : Memory) (at : Place) (u : ℕ) (f : Func) (c : ℕ) → place_of (plain W 0) ≡ Some at → IsFunctionOnTop W f → slice_get at.function.cells u ≡ Some c
    → (id : CellId) × (slice_get f.cells.items u ≡ Some id) × (id.0 ≡ c)
cell_there W at u f c e k h = map_get (λ c. c.0) f.cells.items u c (ap (λ l. slice_get l u) (cells_are W at f e k) ∙ h)

-- and so it is where it is read
pub cell_named : (W : Memory) (at : Place) (u : ℕ) (f : Func) (c : ℕ) (read : CellId) → place_of (plain W 0) ≡ Some at → IsFunctionOnTop W f → slice_get at.function.cells u ≡ Some c → slice_get f.cells.items u ≡ Some read
    → slice_get at.function.cells u ≡ Some read.0
cell_named W at u f c read e k h is =
    let t = cell_there W at u f c e k h in
    h ∙ ap (λ n. Some n) (sym (ap (λ (id : CellId). id.0) (some_is is t.1) ∙ t.2))

cell_read : (W : World) (at : Place) (u c : ℕ) (v : Value) → slice_get at.function.cells u ≡ Some c → value_in W c ≡ Some v → (env : List Value) → do_outside (read_upvalue u) env W at ≡ made W (v ∷ []) true
cell_read W at u c v h e env =
    ap (λ o. bind {A = ℕ × Cell} (bind {B = ℕ × Cell} o (λ c. bind {B = ℕ × Cell} (slice_get W.cells c) (λ cell. Some (c, cell)))) (λ c. bind (read_cell W c.1) (λ v. made W (v ∷ []) true))) h
    ∙ by (slice_get W.cells c) e
  where
    by : (o : Option Cell) → bind o (read_cell W) ≡ Some v
        → bind {A = ℕ × Cell} (bind {B = ℕ × Cell} o (λ cell. Some (c, cell))) (λ c. bind (read_cell W c.1) (λ v. made W (v ∷ []) true)) ≡ made W (v ∷ []) true
    by None q = absurd (cc)
    by (Some cell) q = ap (λ o. bind o (λ v. made W (v ∷ []) true)) q

pub upvalue_made : (W : Memory) (at : Place) (u c : ℕ) (v : Kept) (env : List Value) → place_of (plain W 0) ≡ Some at → slice_get at.function.cells u ≡ Some c
    → ((fuel : ℕ) → value_in (plain W fuel) c ≡ Some (value W.strings v)) → Makes W W (outside (read_upvalue u)) env (value W.strings v ∷ []) true
upvalue_made W at u c v env e h g = record {
  is = λ fuel. ap (λ o. bind o (do_outside (read_upvalue u) env (plain W fuel))) e ∙ cell_read (plain W fuel) at u c (value W.strings v) h (g fuel) env;
}

pub same_cell : (W : Memory) (u : ℕ) (id : CellId) → (h : HasUpvalue W u) → IsUpvalue W u id → h.cell ≡ id.0
same_cell W u id h i = some_is h.there (ap (λ (p : Place). slice_get p.function.cells u) (some_is h.is i.is) ∙ i.there)

written : (W V : World) (c : ℕ) (v : Value) (o : Option Cell) → IsSome (bind o (read_cell W)) → Some V ≡ bind o (λ cell. Some (write_cell W c cell v))
    → bind {A = ℕ × Cell} (bind {B = ℕ × Cell} o (λ cell. Some (c, cell))) (λ c. bind (read_cell W c.1) (λ _. made (write_cell W c.0 c.1 v) [] true)) ≡ made V [] true
written W V c v None s e = absurd (cc)
written W V c v (Some cell) s e = by (read_cell W cell) s ∙ ap (λ W. made W [] true) (sym (some_is {o = Some V} refl e))
  where
    by : (o : Option Value) → IsSome o → bind o (λ _. made (write_cell W c cell v) [] true) ≡ made (write_cell W c cell v) [] true
    by None s = absurd (cc)
    by (Some x) s = refl

-- the budget changes nothing of what a cell has
readable : (old : Memory) (fuel : ℕ) (o : Option Cell) → IsSome (bind o (read_cell (plain old 0))) → IsSome (bind o (read_cell (plain old fuel)))
readable old fuel None s = absurd (cc)
readable old fuel (Some (closed v)) s = refl
readable old fuel (Some (open_at co frame register)) s = s

pub upvalue_written : (old new : Memory) (u : ℕ) (id : CellId) (v : Kept) (env : List Value) (x : Arg) → (h : HasUpvalue old u) → IsUpvalue old u id → arg env x ≡ value old.strings v
    → ((fuel : ℕ) → Some (plain new fuel) ≡ with_value_in (plain old fuel) id.0 (value old.strings v)) → Makes old new (outside (write_upvalue u x)) env [] true
upvalue_written old new u id v env x h i e w = record {
  is = λ fuel.
      let V = plain old fuel in
      let c = h.cell in
      let same = same_cell old u id h i in
      let is : Some (plain new fuel) ≡ with_value_in V c (arg env x) = w fuel ∙ ap (λ n. with_value_in V n (value old.strings v)) (sym same) ∙ ap (with_value_in V c) (sym e) in
      bind_at (do_outside (write_upvalue u x) env V) (place_of V) h.place h.is
      ∙ ap (λ o. bind {A = ℕ × Cell} (bind {B = ℕ × Cell} o (λ c. bind {B = ℕ × Cell} (slice_get V.cells c) (λ cell. Some (c, cell)))) (λ c. bind (read_cell V c.1) (λ _. made (write_cell V c.0 c.1 (arg env x)) [] true))) h.there
      ∙ written V (plain new fuel) c (arg env x) (slice_get V.cells c) (readable old fuel (slice_get V.cells c) h.value) is;
}

-- the frame on top stays where it stands
pub upvalue_stands : (old new : Memory) (n : ℕ) (v : Kept) (pc : ℕ) → Some (plain new 0) ≡ with_value_in (plain old 0) n (value old.strings v) → StandsAt old pc → StandsAt new pc
upvalue_stands old new n v pc w s =
    let V = plain old 0 in
    let b = bind_some (λ (c : Cell). Some (write_cell V n c (value old.strings v))) (slice_get V.cells n) (plain new 0) (sym w) in
    stands_as old new pc (ap pc_of (sym (some_is {o = Some (write_cell V n b.0 (value old.strings v))} refl b.2)) ∙ pc_written V n b.0 (value old.strings v)) s
