-- A function of loaded code, and its new cell.
use Rattle.std.proofs.Common.{ℕ, zero, suc, ◌≡◌, ◌⊎◌, inl, inr, ⊎_elim, List, [], ◌∷◌, ◌++◌, Option, Some, None, refl, subst, sym, ap, ◌∙◌, length}
use Rattle.std.specs.Prelude.{slice_get}
use Rattle.int_core.specs.Value.{a_table, a_function, Value, object}
use Rattle.code_core.specs.Prototype.{Prototype}
use Rattle.machine_core.specs.World.{Cell, closed, open_at, World, OneEach}
use Rattle.machine_core.specs.Text.{Arg, arg}
use Rattle.machine_core.specs.Moves.{make_loaded, made, move, add_loaded, environment_in}
use Rattle.machine_alike.specs.Agree.{Pairs, SameNumber, SameCellNumber, Both, SameValue, same_object, SameValues, SameTable, SameFunction, SameCoroutine, SameCell, same_content, kept_closed, Objects, objects_of, SameObjects, AgreeInTurn, Extends}
use Rattle.machine_alike.specs.Laws.{Alike, Keeps}
use Rattle.machine_alike.proofs.Pairwise.{both_on, both_from, both_push, get_push_new}
use Rattle.machine_alike.proofs.Same.{extends_on, value_on, table_on, function_on, coroutine_on, cell_on}
use Rattle.machine_alike.proofs.Grow.{pair_cases, pair_new, pair_one, fresh_left, fresh_right, object_new, function_pair, extends_function, add_function_same}
use Rattle.machine_alike.proofs.Cells.{with_cell, extends_cell}
use Rattle.machine_alike.proofs.Frames.{agree_grown, made_same}
use Rattle.machine_alike.proofs.OwnMoves.{arg_same}

-- what is there after a closed cell came last was there before, or is this cell
pushed : (cs : List Cell) (v : Value) (k : ℕ) (x : Cell) → slice_get (cs ++ closed v ∷ []) k ≡ Some x → (slice_get cs k ≡ Some x) ⊎ (closed v ≡ x)
pushed [] v zero x h = inr (cc)
pushed [] v (suc k) x h = absurd (cc)
pushed (c ∷ cs) v zero x h = inl h
pushed (c ∷ cs) v (suc k) x h = pushed cs v k x h

still_one : (cs : List Cell) (v : Value) → OneEach cs → OneEach (cs ++ closed v ∷ [])
still_one cs v one i j co f r h k = both (pushed cs v i (open_at co f r) h) (pushed cs v j (open_at co f r) k)
  where
    both : (slice_get cs i ≡ Some (open_at co f r)) ⊎ (closed v ≡ open_at co f r) → (slice_get cs j ≡ Some (open_at co f r)) ⊎ (closed v ≡ open_at co f r) → i ≡ j
    both (inl x) (inl y) = one i j co f r x y
    both (inl x) (inr y) = absurd (cc)
    both (inr x) y = absurd (cc)

module _ (p : Pairs) (A B : Objects) (a : SameObjects p A B) where
  abbrev cell_pair : Pairs
  cell_pair = with_cell p (length A.cells) (length B.cells)

  extends_new : Extends p cell_pair
  extends_new = extends_cell p (length A.cells) (length B.cells) (fresh_left (SameCell p A.coroutines B.coroutines) p.cells A.cells B.cells a.cells)

  add_cell_same : (v w : Value) → SameValue p v w → SameObjects cell_pair (record A { cells = A.cells ++ closed v ∷ [] }) (record B { cells = B.cells ++ closed w ∷ [] })
  add_cell_same v w s =
      let q = cell_pair in
      let e = extends_new in
      let S = SameCell q A.coroutines B.coroutines in
      let i = length A.cells in
      let j = length B.cells in
      let cs = A.cells ++ closed v ∷ [] in
      let ds = B.cells ++ closed w ∷ [] in
      record {
        one_to_one = record { objects = a.one_to_one.objects; cells = pair_one p.cells i j (fresh_right (SameCell p A.coroutines B.coroutines) p.cells A.cells B.cells a.cells) a.one_to_one.cells };
        tables = λ n m h. both_on (SameTable p) (SameTable q) (table_on p q e) (slice_get A.tables n) (slice_get B.tables m) (a.tables n m h);
        functions = λ n m h. both_on (SameFunction p) (SameFunction q) (function_on p q e) (slice_get A.functions n) (slice_get B.functions m) (a.functions n m h);
        coroutines = λ n m h. both_on (SameCoroutine p) (SameCoroutine q) (coroutine_on p q e) (slice_get A.coroutines n) (slice_get B.coroutines m) (a.coroutines n m h);
        cells = λ n m h. ⊎_elim
            (λ t. subst (λ n. Both S (slice_get cs n) (slice_get ds m)) (sym t.0) (subst (λ m. Both S (slice_get cs i) (slice_get ds m)) (sym t.1)
            (both_from S _ _ _ _ (get_push_new A.cells (closed v)) (get_push_new B.cells (closed w)) (same_content (closed v) (closed w) v w (kept_closed v) (kept_closed w) (value_on p q e v w s)))))
            (λ t. both_push S A.cells (closed v ∷ []) B.cells (closed w ∷ []) n m
            (both_on (SameCell p A.coroutines B.coroutines) S (cell_on p q e A.coroutines B.coroutines A.coroutines B.coroutines (λ c g z v n at. (n, at)) (λ c g z v n at. (n, at))) (slice_get A.cells n) (slice_get B.cells m) (a.cells n m t)))
            (pair_cases p.cells i j n m h);
        one_each = (still_one A.cells v a.one_each.0, still_one B.cells w a.one_each.1);
      }

  new_cell : SameCellNumber cell_pair (length A.cells) (length B.cells)
  new_cell = pair_new p.cells (length A.cells) (length B.cells)

environment_same : (p : Pairs) (W X : World) (env other : List Value) (x : Option Arg) → AgreeInTurn p W X → SameValues p env other → SameValue p (environment_in W env x) (environment_in X other x)
environment_same p W X env other None g s = same_object a_table W.globals X.globals g.roots.globals
environment_same p W X env other (Some x) g s = arg_same p env other x s

pub make_loaded_keeps : (code : Prototype) (x : Option Arg) → Keeps (make_loaded code x)
unfolding add_loaded
make_loaded_keeps code x p env other W X s g =
    let v = environment_in W env x in
    let w = environment_in X other x in
    let o = add_cell_same p (objects_of W) (objects_of X) g.objects v w (environment_same p W X env other x g s) in
    let r = cell_pair p (objects_of W) (objects_of X) g.objects in
    let A : Objects = record (objects_of W) { cells = W.cells ++ closed v ∷ [] } in
    let B : Objects = record (objects_of X) { cells = X.cells ++ closed w ∷ [] } in
    let q = function_pair r A B o in
    let e = extends_on p r q (extends_new p (objects_of W) (objects_of X) g.objects) (extends_function r A B o) in
    made_same p q (Unit {0}) _ _ _ _ tt tt e
    (agree_grown p q W X _ _ e g (record { roots = refl; moving = refl; printed = refl; fuel = refl }) (record { roots = refl; moving = refl; printed = refl; fuel = refl })
    (add_function_same r A B o (record { code = code; cells = length W.cells ∷ [] }) (record { code = code; cells = length X.cells ∷ [] }) (record { code = refl; cells = (new_cell p (objects_of W) (objects_of X) g.objects, tt) })))
    (same_object a_function _ _ (object_new r a_function (length W.functions) (length X.functions)), tt) refl
