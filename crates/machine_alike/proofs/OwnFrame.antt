-- Moves on the Lua frame on top keep agreement: its registers and pc, its cells, new objects, the budget, operations.
use Rattle.std.proofs.Common.{ℕ, zero, suc, ◌≡◌, List, [], ◌∷◌, ◌++◌, Option, Some, None, refl, subst, ap, length, drop, Bool, true, false, cond}
use Rattle.std.specs.Prelude.{ℤ, slice_get, nat_lt}
use Rattle.std.specs.List.{AllZip}
use Rattle.code_core.specs.declared.proto.UpDesc.{UpDesc}
use Rattle.code_core.specs.Prototype.{Prototype, list_of}
use Rattle.code_core.specs.Check.{at}
use Rattle.int_core.specs.Value.{a_table, a_function, Value, object, Shape, bind}
use Rattle.int_core.specs.Heap.{add_table, filled_table}
use Rattle.int_core.specs.Operations.{Operation, Settled, does}
use Rattle.machine_core.specs.World.{Cell, lua, World, Place, place_of, put_top, read_cell, write_cell, find_open}
use Rattle.machine_core.specs.Text.{Arg, arg, args_of, Own, fits, Quick, read_upvalue, write_upvalue, make_table, make_function, fill_table, pay}
use Rattle.machine_core.specs.Moves.{Made, made, on_own, move_pc, open_register, outside, settle, SettledShape, is_found, is_asked, is_fault, move, opened_cells, captured, do_own, place_from, moved_pc, made_function, own_cell, do_outside, settled}
use Rattle.machine_alike.specs.Agree.{Pairs, SameCellNumber, Both, Each, SameValue, same_object, SameValues, same_lua, SameCell, objects_of, AgreeInTurn, Extends}
use Rattle.machine_alike.specs.Laws.{MadeAlike, Alike, AlikeIfMade, Keeps, KeepsIfMade, IsKept}
use Rattle.machine_alike.proofs.Pairwise.{each_bind, each_on, each_same, zip_get, zip_length, zip_drop, cond_rel}
use Rattle.machine_alike.proofs.Same.{SamePlace, place_same, extends_self, extends_on}
use Rattle.machine_alike.proofs.Operations.{SameHeap, SameSettled, both_found, both_ask, both_fault, neither_arises, does_same, filled_table_same}
use Rattle.machine_alike.proofs.Grow.{object_new, table_pair, extends_table, add_table_same, function_pair, extends_function, add_function_same}
use Rattle.machine_alike.proofs.Cells.{open_same, found_open, pair_cells}
use Rattle.machine_alike.proofs.CellWrites.{read_same, write_cell_same}
use Rattle.machine_alike.proofs.OwnMoves.{arg_same, args_same, reads_same, tells_same, fits_same}
use Rattle.machine_alike.proofs.Frames.{SameElse, agree_grown, made_same, heap_of, heap_agrees, fuel_agrees, cells_agree, put_top_same, align, aligned, place_on, with_own_same, written_else}

-- a move at the place of the machine
pub on_place : (p : Pairs) (A : Type 0) (W X : World) (f g : Place → Option (Made A)) → AgreeInTurn p W X → ((a b : Place) → SamePlace p a b → Alike p A (f a) (g b)) → Alike p A (bind (place_of W) f) (bind (place_of X) g)
on_place p A W X f g a h = each_bind (SamePlace p) (MadeAlike p A) f g h (place_of W) (place_of X) (place_same p W X a)

own_aligned : (p : Pairs) (m : Own) (env other : List Value) (W X : World) (a b : Place) → SameValues p env other → AgreeInTurn p W X → SamePlace p a b → Alike p Shape (do_own m env W a) (do_own m other X (aligned a b))
own_aligned p m env other W X a b s g h =
    let h' : SamePlace p a (aligned a b) = record { stack = h.stack; number = refl; top = h.top; function = record { code = refl; cells = h.function.cells } } in
    cond_rel (Alike p Shape) (fits m a.function.code a.top.own) (fits m a.function.code b.top.own) _ None _ None (fits_same p m a.function.code a.top.own b.top.own h.top.own)
    (made_same p p Shape _ _ _ _ _ _ (extends_self p) (with_own_same p W X a (aligned a b) a.top.wait b.top.wait (m ∷ []) env other g h' h.top.wait s)
    (reads_same p m a.function.code env other a.top.own b.top.own h.top.own) (tells_same p m a.function.code env other a.top.own b.top.own s h.top.own))
    tt

pub own_keeps : (m : Own) → Keeps (on_own m)
own_keeps m p env other W X s g = on_place p Shape W X (do_own m env W) (do_own m other X) g (λ a b h. align p (λ b. Alike p Shape (do_own m env W a) (do_own m other X b)) a b h (own_aligned p m env other W X a b s g h))

-- pc

put_pc : (p : Pairs) (W X : World) (a b : Place) (m n : ℕ) → AgreeInTurn p W X → SamePlace p a b → m ≡ n → AgreeInTurn p (put_top W a.stack (lua (record a.top { own = record a.top.own { pc = m } }))) (put_top X b.stack (lua (record b.top { own = record b.top.own { pc = n } })))
put_pc p W X a b m n g h e = put_top_same p W X a.stack b.stack _ _ g h.stack (same_lua _ _ (record {
  function = h.top.function;
  wait = h.top.wait;
  own = record { pc = e; registers = h.top.own.registers; varargs = h.top.own.varargs; pending = h.top.own.pending; opened = h.top.own.opened };
}))

pc_aligned : (p : Pairs) (W X : World) (a b : Place) (z : ℤ) → AgreeInTurn p W X → SamePlace p a b → Alike p (Unit {0}) (moved_pc W a z) (moved_pc X (aligned a b) z)
pc_aligned p W X a b z g h =
    each_bind (λ m n. m ≡ n) (MadeAlike p (Unit {0})) _ _
    (λ m n e. each_bind (λ v w. v ≡ w) (MadeAlike p (Unit {0})) _ _ (λ v w d. made_same p p (Unit {0}) _ _ [] [] tt tt (extends_self p) (put_pc p W X a b m n g h e) tt refl)
    (at a.function.code m) (at a.function.code n) (subst (λ n. Each (λ v w. v ≡ w) (at a.function.code m) (at a.function.code n)) e (each_same (at a.function.code m))))
    (place_from a.top.own.pc z) (place_from b.top.own.pc z) (subst (λ pc. Each (λ m n. m ≡ n) (place_from a.top.own.pc z) (place_from pc z)) h.top.own.pc (each_same (place_from a.top.own.pc z)))

pub pc_keeps : (z : ℤ) → Keeps (move_pc z)
pc_keeps z p env other W X s g = on_place p (Unit {0}) W X _ _ g (λ a b h. align p (λ b. Alike p (Unit {0}) (moved_pc W a z) (moved_pc X b z)) a b h (pc_aligned p W X a b z g h))

-- cells

registers_same : (p : Pairs) (a b : Place) → SamePlace p a b → length a.top.own.registers ≡ length b.top.own.registers
registers_same p a b h = zip_length (SameValue p) a.top.own.registers b.top.own.registers h.top.own.registers

pub opened_at : (p : Pairs) (W X : World) (a b : Place) (r : ℕ) → AgreeInTurn p W X → SamePlace p a b → Alike p (Unit {0})
    (cond (nat_lt r (length a.top.own.registers)) (made (record W { cells = opened_cells (find_open a.stack.coroutine a.number r W.cells) a.stack.coroutine a.number r W.cells }) [] tt) None)
    (cond (nat_lt r (length b.top.own.registers)) (made (record X { cells = opened_cells (find_open b.stack.coroutine b.number r X.cells) b.stack.coroutine b.number r X.cells }) [] tt) None)
opened_at p W X a b r g h =
    cond_rel (Alike p (Unit {0})) (nat_lt r (length a.top.own.registers)) (nat_lt r (length b.top.own.registers)) _ None _ None (ap (nat_lt r) (registers_same p a b h))
    (made_same p p (Unit {0}) _ _ [] [] tt tt (extends_self p) (cells_agree p W X _ _ g (open_same p (objects_of W) (objects_of X) a.stack.coroutine b.stack.coroutine a.number b.number r g.objects)) tt refl) tt

pub open_keeps : (r : ℕ) → Keeps (open_register r)
open_keeps r p env other W X s g = on_place p (Unit {0}) W X _ _ g (λ a b h. opened_at p W X a b r g h)

-- the cell of an upvalue

record SameOwn (p : Pairs) (W X : World) (c d : ℕ × Cell) : Type 0 where
  pub number : SameCellNumber p c.0 d.0
  pub left : slice_get W.cells c.0 ≡ Some c.1
  pub right : slice_get X.cells d.0 ≡ Some d.1
  pub cell : SameCell p W.coroutines X.coroutines c.1 d.1

own_cell_same : (p : Pairs) (W X : World) (a b : Place) (u : ℕ) → AgreeInTurn p W X → SamePlace p a b → Each (SameOwn p W X) (own_cell W a u) (own_cell X b u)
own_cell_same p W X a b u g h =
    each_bind (SameCellNumber p) (SameOwn p W X) _ _ (λ c d k. there c d k (slice_get W.cells c) (slice_get X.cells d) refl refl (g.objects.cells c d k)) (slice_get a.function.cells u) (slice_get b.function.cells u) (zip_get (SameCellNumber p) a.function.cells b.function.cells u h.function.cells)
  where
    there : (c d : ℕ) → SameCellNumber p c d → (o o' : Option Cell) → slice_get W.cells c ≡ o → slice_get X.cells d ≡ o' → Both (SameCell p W.coroutines X.coroutines) o o'
        → Each (SameOwn p W X) (bind o (λ cell. Some (c, cell))) (bind o' (λ cell. Some (d, cell)))
    there c d k None o' x y r = absurd r
    there c d k (Some l) None x y r = absurd r
    there c d k (Some l) (Some m) x y r = record { number = k; left = x; right = y; cell = r }

upvalue_read : (p : Pairs) (W X : World) (a b : Place) (u : ℕ) (env other : List Value) → AgreeInTurn p W X → SamePlace p a b → Alike p Bool (do_outside (read_upvalue u) env W a) (do_outside (read_upvalue u) other X b)
upvalue_read p W X a b u env other g h =
    each_bind (SameOwn p W X) (MadeAlike p Bool) _ _
    (λ c d k. each_bind (SameValue p) (MadeAlike p Bool) _ _ (λ v w r. made_same p p Bool W X (v ∷ []) (w ∷ []) true true (extends_self p) g (r, tt) refl)
    (read_cell W c.1) (read_cell X d.1) (read_same p W X c.1 d.1 g.objects k.cell))
    (own_cell W a u) (own_cell X b u) (own_cell_same p W X a b u g h)

upvalue_written : (p : Pairs) (W X : World) (a b : Place) (u : ℕ) (x : Arg) (env other : List Value) → SameValues p env other → AgreeInTurn p W X → SamePlace p a b → Alike p Bool (do_outside (write_upvalue u x) env W a) (do_outside (write_upvalue u x) other X b)
upvalue_written p W X a b u x env other s g h =
    each_bind (SameOwn p W X) (MadeAlike p Bool) _ _
    (λ c d k. each_bind (SameValue p) (MadeAlike p Bool) _ _
    (λ v w r. made_same p p Bool (write_cell W c.0 c.1 (arg env x)) (write_cell X d.0 d.1 (arg other x)) [] [] true true (extends_self p)
    (agree_grown p p W X _ _ (extends_self p) g (written_else W c.0 c.1 (arg env x)) (written_else X d.0 d.1 (arg other x))
    (write_cell_same p W X g.objects c.0 d.0 (arg env x) (arg other x) k.number (arg_same p env other x s) c.1 d.1 k.left k.right k.cell))
    tt refl)
    (read_cell W c.1) (read_cell X d.1) (read_same p W X c.1 d.1 g.objects k.cell))
    (own_cell W a u) (own_cell X b u) (own_cell_same p W X a b u g h)

-- new objects

table_made : (p : Pairs) (W X : World) (a b : Place) (env other : List Value) → AgreeInTurn p W X → Alike p Bool (do_outside make_table env W a) (do_outside make_table other X b)
table_made p W X a b env other g =
    let q = table_pair p (objects_of W) (objects_of X) g.objects in
    let e = extends_table p (objects_of W) (objects_of X) g.objects in
    made_same p q Bool (record W { heap = add_table W.heap }) (record X { heap = add_table X.heap }) _ _ true true e
    (agree_grown p q W X _ _ e g (record { roots = refl; moving = refl; printed = refl; fuel = refl }) (record { roots = refl; moving = refl; printed = refl; fuel = refl })
    (add_table_same p (objects_of W) (objects_of X) g.objects (record { rows = []; metatable = None }) (record { rows = []; metatable = None }) (record { rows = tt; metatable = tt })))
    (same_object a_table _ _ (object_new p a_table (length W.heap.tables) (length X.heap.tables)), tt) refl

-- the cells of a new function

pub if_made : (p : Pairs) (A : Type 0) (o o' : Option (Made A)) → Alike p A o o' → AlikeIfMade p A o o'
if_made p A None o' h = tt
if_made p A (Some d) None h = tt
if_made p A (Some d) (Some e) h = h

record SameCaptured (p : Pairs) (W X : World) (cs ds : List ℕ) : Type 0 where
  pub now : Pairs
  pub more : Extends p now
  pub agree : AgreeInTurn now W X
  pub cells : AllZip (SameCellNumber now) cs ds

record SameCapture (p : Pairs) (W X : World) (c d : ℕ) : Type 0 where
  pub now : Pairs
  pub more : Extends p now
  pub agree : AgreeInTurn now W X
  pub cell : SameCellNumber now c d

-- where each of two is there, they are the same
abbrev IfBoth : {A B : Type 0} → (A → B → Type 0) → Option A → Option B → Type 0
IfBoth R None y = Unit {0}
IfBoth R (Some a) None = Unit {0}
IfBoth R (Some a) (Some b) = R a b

if_bind : {A B C D : Type 0} (R : A → B → Type 0) (S : C → D → Type 0) (f : A → Option C) (g : B → Option D) → ((a : A) (b : B) → R a b → IfBoth S (f a) (g b)) → (o : Option A) (o' : Option B) → IfBoth R o o' → IfBoth S (bind o f) (bind o' g)
if_bind R S f g h None o' r = tt
if_bind R S f g h (Some a) None r = by (f a)
  where
    by : (x : Option _) → IfBoth S x None
    by None = tt
    by (Some c) = tt
if_bind R S f g h (Some a) (Some b) r = h a b r

else_self : (W : World) → SameElse W W
else_self W = record { roots = refl; moving = refl; printed = refl; fuel = refl }

own_captured : (p : Pairs) (W X : World) (a b : Place) (r : ℕ) → AgreeInTurn p W X → SamePlace p a b → (o o' : Option ℕ) → find_open a.stack.coroutine a.number r W.cells ≡ o → find_open b.stack.coroutine a.number r X.cells ≡ o' → IfBoth (SameCapture p W X) o o'
own_captured p W X a b r g h None o' x y = tt
own_captured p W X a b r g h (Some c) None x y = tt
own_captured p W X a b r g h (Some c) (Some d) x y =
    let k = pair_cells p (objects_of W) (objects_of X) c d a.stack.coroutine b.stack.coroutine a.number r g.objects (found_open a.stack.coroutine a.number r W.cells c x) (found_open b.stack.coroutine a.number r X.cells d y) h.stack.coroutine in
    record { now = k.now; more = k.more; agree = agree_grown p k.now W X W X k.more g (else_self W) (else_self X) k.objects; cell = k.here }

if_each : {A B : Type 0} (R : A → B → Type 0) (o : Option A) (o' : Option B) → Each R o o' → IfBoth R o o'
if_each R None None h = tt
if_each R None (Some b) h = absurd h
if_each R (Some a) None h = absurd h
if_each R (Some a) (Some b) h = h

capture_same : (p : Pairs) (W X : World) (a b : Place) (u : UpDesc) → AgreeInTurn p W X → SamePlace p a b
    → IfBoth (SameCapture p W X) (cond u.in_stack (find_open a.stack.coroutine a.number u.index W.cells) (slice_get a.function.cells u.index)) (cond u.in_stack (find_open b.stack.coroutine a.number u.index X.cells) (slice_get b.function.cells u.index))
capture_same p W X a b u g h =
    cond_rel (IfBoth (SameCapture p W X)) u.in_stack u.in_stack _ _ _ _ refl
    (own_captured p W X a b u.index g h (find_open a.stack.coroutine a.number u.index W.cells) (find_open b.stack.coroutine a.number u.index X.cells) refl refl)
    (if_each (SameCapture p W X) (slice_get a.function.cells u.index) (slice_get b.function.cells u.index)
    (each_on (SameCellNumber p) (SameCapture p W X) (λ c d k. record { now = p; more = extends_self p; agree = g; cell = k }) (slice_get a.function.cells u.index) (slice_get b.function.cells u.index) (zip_get (SameCellNumber p) a.function.cells b.function.cells u.index h.function.cells)))

captures_same : (us : List UpDesc) (p : Pairs) (W X : World) (a b : Place) → AgreeInTurn p W X → SamePlace p a b
    → IfBoth (SameCaptured p W X) (captured us a.stack.coroutine a.number a.function.cells W.cells) (captured us b.stack.coroutine a.number b.function.cells X.cells)
captures_same [] p W X a b g h = record { now = p; more = extends_self p; agree = g; cells = tt }
captures_same (u ∷ us) p W X a b g h =
    if_bind (SameCapture p W X) (SameCaptured p W X) _ _
    (λ c d k. if_bind (SameCaptured k.now W X) (SameCaptured p W X) _ _
    (λ cs ds l. record { now = l.now; more = extends_on p k.now l.now k.more l.more; agree = l.agree; cells = (l.more.cells c d k.cell, l.cells) })
    (captured us a.stack.coroutine a.number a.function.cells W.cells) (captured us b.stack.coroutine a.number b.function.cells X.cells) (captures_same us k.now W X a b k.agree (place_on p k.now k.more a b h)))
    (cond u.in_stack (find_open a.stack.coroutine a.number u.index W.cells) (slice_get a.function.cells u.index)) (cond u.in_stack (find_open b.stack.coroutine a.number u.index X.cells) (slice_get b.function.cells u.index)) (capture_same p W X a b u g h)

function_made : (p : Pairs) (W X : World) (a b : Place) (code : Prototype) (cs ds : List ℕ) → SameCaptured p W X cs ds → MadeAlike p Bool
    (record { world = record W { functions = W.functions ++ record { code = code; cells = cs } ∷ [] }; values = object a_function (length W.functions) ∷ []; told = true })
    (record { world = record X { functions = X.functions ++ record { code = code; cells = ds } ∷ [] }; values = object a_function (length X.functions) ∷ []; told = true })
function_made p W X a b code cs ds h =
    let q = function_pair h.now (objects_of W) (objects_of X) h.agree.objects in
    let e = extends_function h.now (objects_of W) (objects_of X) h.agree.objects in
    record {
      now = q;
      more = extends_on p h.now q h.more e;
      agree = agree_grown h.now q W X _ _ e h.agree (record { roots = refl; moving = refl; printed = refl; fuel = refl }) (record { roots = refl; moving = refl; printed = refl; fuel = refl })
          (add_function_same h.now (objects_of W) (objects_of X) h.agree.objects (record { code = code; cells = cs }) (record { code = code; cells = ds }) (record { code = refl; cells = h.cells }));
      values = (same_object a_function _ _ (object_new h.now a_function (length W.functions) (length X.functions)), tt);
      told = refl;
    }

-- what is made if both are
as_made : (p : Pairs) (A : Type 0) (o o' : Option (Made A)) → IfBoth (MadeAlike p A) o o' → AlikeIfMade p A o o'
as_made p A None o' h = tt
as_made p A (Some d) None h = tt
as_made p A (Some d) (Some e) h = h

functions_made : (p : Pairs) (W X : World) (a b : Place) (n : ℕ) (env other : List Value) → AgreeInTurn p W X → SamePlace p a b → IfBoth (MadeAlike p Bool) (do_outside (make_function n) env W a) (do_outside (make_function n) other X (aligned a b))
functions_made p W X a b n env other g h =
    if_bind (λ x y. x ≡ y) (MadeAlike p Bool) _ _
    (λ x y e. subst (λ y. IfBoth (MadeAlike p Bool) (bind (captured x.own.upvalues a.stack.coroutine a.number a.function.cells W.cells) (made_function W a x)) (bind (captured y.own.upvalues b.stack.coroutine a.number b.function.cells X.cells) (made_function X (aligned a b) y))) e
    (if_bind (SameCaptured p W X) (MadeAlike p Bool) _ _ (function_made p W X a b x) (captured x.own.upvalues a.stack.coroutine a.number a.function.cells W.cells) (captured x.own.upvalues b.stack.coroutine a.number b.function.cells X.cells) (captures_same x.own.upvalues p W X a b g h)))
    (slice_get (list_of a.function.code.inner) n) (slice_get (list_of a.function.code.inner) n) (if_each (λ x y. x ≡ y) (slice_get (list_of a.function.code.inner) n) (slice_get (list_of a.function.code.inner) n) (each_same (slice_get (list_of a.function.code.inner) n)))

pub makes_keep : (n : ℕ) → KeepsIfMade (outside (make_function n))
makes_keep n p env other W X s g = as_made p Bool (move (outside (make_function n)) env W) (move (outside (make_function n)) other X)
    (if_bind (SamePlace p) (MadeAlike p Bool) _ _ (λ a b h. align p (λ b. IfBoth (MadeAlike p Bool) (do_outside (make_function n) env W a) (do_outside (make_function n) other X b)) a b h (functions_made p W X a b n env other g h))
    (place_of W) (place_of X) (if_each (SamePlace p) (place_of W) (place_of X) (place_same p W X g)))

-- the budget

paid_by : (p : Pairs) (W X : World) (m n : ℕ) → AgreeInTurn p W X → m ≡ n → Alike p Bool
    (elim m [ zero ↦ made W [] false | suc fuel ↦ made (record W { fuel = fuel }) [] true ]) (elim n [ zero ↦ made X [] false | suc fuel ↦ made (record X { fuel = fuel }) [] true ])
paid_by p W X zero zero g e = made_same p p Bool W X [] [] false false (extends_self p) g tt refl
paid_by p W X zero (suc n) g e = absurd (cc)
paid_by p W X (suc m) zero g e = absurd (cc)
paid_by p W X (suc m) (suc n) g e = made_same p p Bool _ _ [] [] true true (extends_self p) (fuel_agrees p W X m n g (cc)) tt refl

-- what is asked outside the activation

pub outside_keeps : (q : Quick) → IsKept (outside q)
outside_keeps (read_upvalue u) = λ p env other W X s g. on_place p Bool W X _ _ g (λ a b h. upvalue_read p W X a b u env other g h)
outside_keeps (write_upvalue u x) = λ p env other W X s g. on_place p Bool W X _ _ g (λ a b h. upvalue_written p W X a b u x env other s g h)
outside_keeps make_table = λ p env other W X s g. on_place p Bool W X _ _ g (λ a b h. table_made p W X a b env other g)
outside_keeps (make_function n) = makes_keep n
outside_keeps (fill_table t last slot) = λ p env other W X s g. on_place p Bool W X _ _ g
    (λ a b h. each_bind (SameHeap p) (MadeAlike p Bool) _ _ (λ H I k. made_same p p Bool _ _ [] [] true true (extends_self p) (heap_agrees p W X H I g k) tt refl)
    (filled_table W.heap (arg env t) last (drop slot env)) (filled_table X.heap (arg other t) last (drop slot other))
    (filled_table_same p W.heap X.heap (arg env t) (arg other t) last (drop slot env) (drop slot other) (heap_of p W X g) (arg_same p env other t s) (zip_drop (SameValue p) slot env other s)))
outside_keeps pay = λ p env other W X s g. on_place p Bool W X _ _ g (λ a b h. paid_by p W X W.fuel X.fuel g g.fuel)

-- operations

settled_same : (p : Pairs) (W X : World) (a b : Place) (x y : Settled) → AgreeInTurn p W X → SameSettled p x y → Alike p SettledShape (settled W a x) (settled X b y)
settled_same p W X a b x y g (both_found H I vs ws h s) = made_same p p SettledShape _ _ vs ws is_found is_found (extends_self p) (heap_agrees p W X H I g h) s refl
settled_same p W X a b x y g (both_ask h k vs ws l s) = made_same p p SettledShape W X (h ∷ vs) (k ∷ ws) is_asked is_asked (extends_self p) g (l, s) refl
settled_same p W X a b x y g (both_fault text) = made_same p p SettledShape W X [] [] (is_fault text) (is_fault text) (extends_self p) g tt refl
settled_same p W X a b x y g neither_arises = tt

pub settle_keeps : (op : Operation) (xs : List Arg) → Keeps (settle op xs)
settle_keeps op xs p env other W X s g = on_place p SettledShape W X _ _ g
    (λ a b h. settled_same p W X a b (does op (args_of env xs) W.heap) (does op (args_of other xs) X.heap) g (does_same p op W.heap X.heap (args_of env xs) (args_of other xs) (heap_of p W X g) (args_same p env other xs s)))
