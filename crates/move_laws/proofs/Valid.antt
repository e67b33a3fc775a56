-- Values that are read in a sound world are valid.
use Rattle.std.proofs.Common.{◌≡◌, ℕ, List, [], ◌∷◌, Option, Some, None, refl, ap, subst, ◌∙◌, Bool, true, false}
use Rattle.std.specs.Prelude.{cond, slice_get}
use Rattle.code_core.specs.declared.proto.Const.{Const}
use Rattle.int_core.specs.Value.{Value, known, Shape, nth, bind}
use Rattle.machine_core.specs.World.{Cell, World, Place, place_of, read_cell}
use Rattle.machine_core.specs.Text.{constant, Own, read_register, read_constant, read_upvalue, reads, tells, fits}
use Rattle.machine_core.specs.Moves.{Made, made, move, on_own, do_own, with_own, outside, do_outside, own_cell}
use Rattle.machine_sound.specs.Sound.{sizes, Valid, FunctionOk, LuaOk, Sound}
use Rattle.machine_sound.proofs.Lists.{bind_some, some_is}
use Rattle.machine_sound.proofs.Values.{nth_ok}
use Rattle.machine_sound.proofs.Frames.{the_place, place_is, top_ok, function_ok}
use Rattle.machine_sound.proofs.Moves.{constants_ok}
use Rattle.machine_sound.proofs.Cells.{cell_read}
use Rattle.machine_sound.proofs.LuaSteps.{settles}

-- the frame on top and its function are right
pub record TopOk (n : ℕ) (W : World) (p : Place) : Type 0 where
  pub frame : LuaOk (sizes n W) p.top
  pub function : FunctionOk (sizes n W) p.function

pub top_is_ok : (n : ℕ) (W : World) (p : Place) → Sound n W → place_of W ≡ Some p → TopOk n W p
top_is_ok n W p s e =
    let k = settles n W p s e in
    let same : the_place n k.top W k.is_top ≡ p = some_is (place_is n k.top W k.is_top) e in
    record {
      frame = subst (λ (p : Place). LuaOk (sizes n W) p.top) same (top_ok n k.top W k.is_top s.solid);
      function = subst (λ (p : Place). FunctionOk (sizes n W) p.function) same (function_ok n k.top W k.is_top s.solid);
    }

-- what a move on the frame on top gives is what it reads there
pub record ReadsThere (m : Own) (env : List Value) (W : World) (vs : List Value) : Type 0 where
  pub place : Place
  pub is : place_of W ≡ Some place
  pub values : reads m place.function.code env place.top.own ≡ vs

pub reads_there : (m : Own) (env : List Value) (W V : World) (vs : List Value) (t : Shape) → move (on_own m) env W ≡ made V vs t → ReadsThere m env W vs
reads_there m env W V vs t e =
    let a = bind_some (do_own m env W) (place_of W) (record { world = V; values = vs; told = t }) e in
    record { place = a.0; is = a.1; values = by a.0 (fits m a.0.function.code a.0.top.own) a.2 }
  where
    by : (p : Place) (b : Bool) → cond b (made (with_own W p p.top.wait (m ∷ []) env) (reads m p.function.code env p.top.own) (tells m p.function.code env p.top.own)) None ≡ made V vs t
        → reads m p.function.code env p.top.own ≡ vs
    by p true q =
        let d : Made Shape = record { world = with_own W p p.top.wait (m ∷ []) env; values = reads m p.function.code env p.top.own; told = tells m p.function.code env p.top.own } in
        ap (λ (d : Made Shape). d.values) (some_is {o = Some d} refl q)
    by p false q = absurd (cc)

only_one : {a b : Value} → a ∷ [] ≡ b ∷ [] → a ≡ b
only_one e = ap (λ vs. nth vs 0) e

pub register_valid : (n : ℕ) (W V : World) (r : ℕ) (env : List Value) (v : Value) (t : Shape) → Sound n W → move (on_own (read_register r)) env W ≡ made V (v ∷ []) t → Valid (sizes n W) v
register_valid n W V r env v t s e =
    let a = reads_there (read_register r) env W V (v ∷ []) t e in
    subst (Valid (sizes n W)) (only_one a.values) (nth_ok (Valid (sizes n W)) tt a.place.top.own.registers r (top_is_ok n W a.place s a.is).frame.registers)

pub constant_valid : (n : ℕ) (W V : World) (c : ℕ) (env : List Value) (v : Value) (t : Shape) → Sound n W → move (on_own (read_constant c)) env W ≡ made V (v ∷ []) t → Valid (sizes n W) v
constant_valid n W V c env v t s e =
    let a = reads_there (read_constant c) env W V (v ∷ []) t e in
    by a.place (top_is_ok n W a.place s a.is).function (slice_get a.place.function.code.own.constants c) refl a.values
  where
    by : (p : Place) → FunctionOk (sizes n W) p.function → (o : Option Const) → slice_get p.function.code.own.constants c ≡ o → elim o [ None ↦ [] | Some k ↦ known (constant k) ∷ [] ] ≡ v ∷ [] → Valid (sizes n W) v
    by p f None q k = absurd (cc)
    by p f (Some x) q k = subst (Valid (sizes n W)) (only_one k) (constants_ok (sizes n W) p.function.code f.code c x q)

-- where an upvalue stands that was read
pub record UpvalueRead (W : World) (u : ℕ) (d : Made Bool) : Type 0 where
  pub place : Place
  pub is : place_of W ≡ Some place
  pub number : ℕ
  pub named : slice_get place.function.cells u ≡ Some number
  pub cell : Cell
  pub there : slice_get W.cells number ≡ Some cell
  pub value : Value
  pub read_is : read_cell W cell ≡ Some value
  pub is_made : made W (value ∷ []) true ≡ Some d

pub upvalue_read : (W : World) (u : ℕ) (env : List Value) (d : Made Bool) → move (outside (read_upvalue u)) env W ≡ Some d → UpvalueRead W u d
upvalue_read W u env d e =
    let a = bind_some (do_outside (read_upvalue u) env W) (place_of W) d e in
    let b = bind_some {A = ℕ × Cell} (λ c. bind (read_cell W c.1) (λ v. made W (v ∷ []) true)) (own_cell W a.0 u) d a.2 in
    let c = bind_some {B = ℕ × Cell} (λ c. bind {B = ℕ × Cell} (slice_get W.cells c) (λ cell. Some (c, cell))) (slice_get a.0.function.cells u) b.0 b.1 in
    let f = bind_some {B = ℕ × Cell} (λ cell. Some (c.0, cell)) (slice_get W.cells c.0) b.0 c.2 in
    let x = bind_some (λ v. made W (v ∷ []) true) (read_cell W b.0.1) d b.2 in
    let both : (c.0, f.0) ≡ b.0 = some_is {o = Some (c.0, f.0)} refl f.2 in
    record {
      place = a.0;
      is = a.1;
      number = c.0;
      named = c.1;
      cell = f.0;
      there = f.1;
      value = x.0;
      read_is = ap (λ (p : ℕ × Cell). read_cell W p.1) both ∙ x.1;
      is_made = x.2;
    }

pub upvalue_valid : (n : ℕ) (W V : World) (u : ℕ) (env : List Value) (v : Value) (t : Bool) → Sound n W → move (outside (read_upvalue u)) env W ≡ made V (v ∷ []) t → Valid (sizes n W) v
upvalue_valid n W V u env v t s e =
    let r = upvalue_read W u env (record { world = V; values = v ∷ []; told = t }) e in
    let w = cell_read n W s.solid r.cell (s.solid.cells r.number r.cell r.there) in
    let made_of : Made Bool = record { world = W; values = r.value ∷ []; told = true } in
    let same : r.value ≡ v = only_one (ap (λ (d : Made Bool). d.values) (some_is {o = Some made_of} refl r.is_made)) in
    let read : w.0 ≡ r.value = some_is w.1 r.read_is in
    subst (Valid (sizes n W)) same (subst (Valid (sizes n W)) read w.2)
