-- A function is made alike in two worlds that agree where what it shares was opened in both.
use Rattle.std.proofs.Common.{ℕ, suc, ◌≡◌, ⊎_elim, List, [], ◌∷◌, ◌++◌, Option, Some, None, refl, subst, sym, Bool, true, false, cond}
use Rattle.std.specs.Prelude.{nat_eq, slice_get}
use Rattle.std.specs.List.{list_any}
use Rattle.std.proofs.lemmas.Bool.Decides.{eqb_tells}
use Rattle.code_core.specs.declared.proto.UpDesc.{UpDesc}
use Rattle.code_core.specs.Prototype.{Prototype, list_of}
use Rattle.int_core.specs.Value.{Value, bind}
use Rattle.machine_core.specs.World.{Cell, open_at, is_open_at, find_open, find_open_from, World, Place, place_of}
use Rattle.machine_core.specs.Text.{make_function}
use Rattle.machine_core.specs.InstructionRows.{upvalues_of_inner}
use Rattle.machine_core.specs.Moves.{Made, move, outside, opened_cells, captured, made_function, do_outside}
use Rattle.machine_core.specs.RowFits.{AreOpened}
use Rattle.machine_alike.specs.Agree.{Pairs, SameCellNumber, Each, SameValues, AgreeInTurn}
use Rattle.machine_alike.specs.Laws.{Alike, AlikeIfMade}
use Rattle.machine_alike.proofs.Pairwise.{zip_get}
use Rattle.machine_alike.proofs.Same.{SamePlace}
use Rattle.machine_alike.proofs.Cells.{is_open_self}
use Rattle.machine_alike.proofs.OwnFrame.{makes_keep}

-- a register has a cell
abbrev pub IsOpen : Place → List Cell → ℕ → Type 0
IsOpen a cells r = (c : ℕ) × (find_open a.stack.coroutine a.number r cells ≡ Some c)

module _ (co f : ℕ) where
  found_still : (n r : ℕ) (cells more : List Cell) (c : ℕ) → find_open_from n co f r cells ≡ Some c → find_open_from n co f r (cells ++ more) ≡ Some c
  found_still n r [] more c h = absurd (cc)
  found_still n r (x ∷ cells) more c h = by (is_open_at co f r x) h (found_still (suc n) r cells more c)
    where
      by : (b : Bool) → cond b (Some n) (find_open_from (suc n) co f r cells) ≡ Some c → (find_open_from (suc n) co f r cells ≡ Some c → find_open_from (suc n) co f r (cells ++ more) ≡ Some c)
          → cond b (Some n) (find_open_from (suc n) co f r (cells ++ more)) ≡ Some c
      by true h k = h
      by false h k = k h

  found_new : (n r : ℕ) (cells : List Cell) → (c : ℕ) × (find_open_from n co f r (cells ++ open_at co f r ∷ []) ≡ Some c)
  found_new n r [] = (n, rw (is_open_self co f r) refl)
  found_new n r (x ∷ cells) = by (is_open_at co f r x) (found_new (suc n) r cells)
    where
      by : (b : Bool) → (c : ℕ) × (find_open_from (suc n) co f r (cells ++ open_at co f r ∷ []) ≡ Some c) → (c : ℕ) × (cond b (Some n) (find_open_from (suc n) co f r (cells ++ open_at co f r ∷ [])) ≡ Some c)
      by true k = (n, refl)
      by false k = k

  found_here : (r : ℕ) (cells : List Cell) (o : Option ℕ) → find_open co f r cells ≡ o → (c : ℕ) × (find_open co f r (opened_cells o co f r cells) ≡ Some c)
  found_here r cells None e = found_new 0 r cells
  found_here r cells (Some c) e = (c, e)

  found_there : (r q : ℕ) (cells : List Cell) (o : Option ℕ) → (c : ℕ) × (find_open co f q cells ≡ Some c) → (c : ℕ) × (find_open co f q (opened_cells o co f r cells) ≡ Some c)
  found_there r q cells None k = (k.0, found_still 0 q cells (open_at co f r ∷ []) k.0 k.1)
  found_there r q cells (Some c) k = k

-- the registers that a text has opened so far have cells in both worlds
pub record AreOpen (opened : List ℕ) (a b : Place) (cs ds : List Cell) : Type 0 where
  pub left : (r : ℕ) → list_any (nat_eq r) opened ≡ true → IsOpen a cs r
  pub right : (r : ℕ) → list_any (nat_eq r) opened ≡ true → IsOpen b ds r

pub open_none : (a b : Place) (cs ds : List Cell) → AreOpen [] a b cs ds
open_none a b cs ds = record { left = λ r h. absurd (cc); right = λ r h. absurd (cc) }

open_more : (opened : List ℕ) (a : Place) (cells : List Cell) (r : ℕ) → ((q : ℕ) → list_any (nat_eq q) opened ≡ true → IsOpen a cells q)
    → (q : ℕ) → list_any (nat_eq q) (r ∷ opened) ≡ true → IsOpen a (opened_cells (find_open a.stack.coroutine a.number r cells) a.stack.coroutine a.number r cells) q
open_more opened a cells r all q h = ⊎_elim
    (λ s. subst (λ q. IsOpen a (opened_cells (find_open a.stack.coroutine a.number r cells) a.stack.coroutine a.number r cells) q) (sym s.1) (found_here a.stack.coroutine a.number r cells (find_open a.stack.coroutine a.number r cells) refl))
    (λ s. let k : list_any (nat_eq q) opened ≡ true = rw s.0 at h in found_there a.stack.coroutine a.number r q cells (find_open a.stack.coroutine a.number r cells) (all q k))
    (eqb_tells q r)

pub open_one_more : (opened : List ℕ) (a b : Place) (cs ds : List Cell) (r : ℕ) → AreOpen opened a b cs ds
    → AreOpen (r ∷ opened) a b (opened_cells (find_open a.stack.coroutine a.number r cs) a.stack.coroutine a.number r cs) (opened_cells (find_open b.stack.coroutine b.number r ds) b.stack.coroutine b.number r ds)
open_one_more opened a b cs ds r h = record { left = open_more opened a cs r h.left; right = open_more opened b ds r h.right }

-- so either both worlds have all cells of a new function, or none has

abbrev pub AreAlike : {A B : Type 0} → Option A → Option B → Type 0
AreAlike None None = Unit {0}
AreAlike (Some a) (Some b) = Unit {0}
AreAlike _ _ = ⊥

alike_bind : {A B C D : Type 0} (f : A → Option C) (g : B → Option D) → ((a : A) (b : B) → AreAlike (f a) (g b)) → (o : Option A) (o' : Option B) → AreAlike o o' → AreAlike (bind o f) (bind o' g)
alike_bind f g h None None r = tt
alike_bind f g h None (Some b) r = absurd r
alike_bind f g h (Some a) None r = absurd r
alike_bind f g h (Some a) (Some b) r = h a b

some_alike : {A B : Type 0} (o : Option A) (o' : Option B) (a : A) (b : B) → o ≡ Some a → o' ≡ Some b → AreAlike o o'
some_alike None o' a b d e = absurd (cc)
some_alike (Some x) None a b d e = absurd (cc)
some_alike (Some x) (Some y) a b d e = tt

each_alike : {A B : Type 0} (R : A → B → Type 0) (o : Option A) (o' : Option B) → Each R o o' → AreAlike o o'
each_alike R None None h = tt
each_alike R None (Some b) h = absurd h
each_alike R (Some a) None h = absurd h
each_alike R (Some a) (Some b) h = tt

module _ (p : Pairs) (W X : World) (a b : Place) (h : SamePlace p a b) (opened : List ℕ) (o : AreOpen opened a b W.cells X.cells) where
  one_alike : (u : UpDesc) → (u.in_stack ≡ true → list_any (nat_eq u.index) opened ≡ true)
      → AreAlike (cond u.in_stack (find_open a.stack.coroutine a.number u.index W.cells) (slice_get a.function.cells u.index)) (cond u.in_stack (find_open b.stack.coroutine b.number u.index X.cells) (slice_get b.function.cells u.index))
  one_alike u k = by u.in_stack k
    where
      by : (t : Bool) → (t ≡ true → list_any (nat_eq u.index) opened ≡ true)
          → AreAlike (cond t (find_open a.stack.coroutine a.number u.index W.cells) (slice_get a.function.cells u.index)) (cond t (find_open b.stack.coroutine b.number u.index X.cells) (slice_get b.function.cells u.index))
      by true k =
          let l = o.left u.index (k refl) in
          let r = o.right u.index (k refl) in
          some_alike (find_open a.stack.coroutine a.number u.index W.cells) (find_open b.stack.coroutine b.number u.index X.cells) l.0 r.0 l.1 r.1
      by false k = each_alike (SameCellNumber p) (slice_get a.function.cells u.index) (slice_get b.function.cells u.index) (zip_get (SameCellNumber p) a.function.cells b.function.cells u.index h.function.cells)

  captured_alike : (us : List UpDesc) → AreOpened opened us → AreAlike (captured us a.stack.coroutine a.number a.function.cells W.cells) (captured us b.stack.coroutine b.number b.function.cells X.cells)
  captured_alike [] k = tt
  captured_alike (u ∷ us) k =
      alike_bind _ _
      (λ c d. alike_bind _ _ (λ cs ds. tt) (captured us a.stack.coroutine a.number a.function.cells W.cells) (captured us b.stack.coroutine b.number b.function.cells X.cells) (captured_alike us k.1))
      _ _ (one_alike u k.0)

  made_alike : (n : ℕ) (env other : List Value) → AreOpened opened (upvalues_of_inner a.function.code n)
      → AreAlike (do_outside (make_function n) env W a) (bind (slice_get (list_of a.function.code.inner) n) (λ q. bind (captured q.own.upvalues b.stack.coroutine b.number b.function.cells X.cells) (λ cells. made_function X b q cells)))
  made_alike n env other k = by (slice_get (list_of a.function.code.inner) n) k
    where
      by : (x : Option Prototype) → AreOpened opened (elim x [ None ↦ [] | Some q ↦ q.own.upvalues ])
          → AreAlike (bind x (λ q. bind (captured q.own.upvalues a.stack.coroutine a.number a.function.cells W.cells) (λ cells. made_function W a q cells)))
          (bind x (λ q. bind (captured q.own.upvalues b.stack.coroutine b.number b.function.cells X.cells) (λ cells. made_function X b q cells)))
      by None k = tt
      by (Some q) k = alike_bind _ _ (λ cs ds. tt) (captured q.own.upvalues a.stack.coroutine a.number a.function.cells W.cells) (captured q.own.upvalues b.stack.coroutine b.number b.function.cells X.cells) (captured_alike q.own.upvalues k)

  outside_alike : (n : ℕ) (env other : List Value) → AreOpened opened (upvalues_of_inner a.function.code n) → AreAlike (do_outside (make_function n) env W a) (do_outside (make_function n) other X b)
  outside_alike n env other k =
      subst (λ code. AreAlike (do_outside (make_function n) env W a) (bind (slice_get (list_of code.inner) n) (λ q. bind (captured q.own.upvalues b.stack.coroutine b.number b.function.cells X.cells) (λ cells. made_function X b q cells)))) h.function.code
      (made_alike n env other k)

from_both : (p : Pairs) (A : Type 0) (o o' : Option (Made A)) → AlikeIfMade p A o o' → AreAlike o o' → Alike p A o o'
from_both p A None None h k = tt
from_both p A None (Some e) h k = absurd k
from_both p A (Some d) None h k = absurd k
from_both p A (Some d) (Some e) h k = h

-- the machine's places in both worlds, and what the text has opened there
pub record Ready (p : Pairs) (code : Prototype) (opened : List ℕ) (W X : World) : Type 0 where
  pub a : Place
  pub b : Place
  pub left : place_of W ≡ Some a
  pub right : place_of X ≡ Some b
  pub same : SamePlace p a b
  pub same_code : a.function.code ≡ code
  pub opens : AreOpen opened a b W.cells X.cells

pub makes_alike : (p : Pairs) (code : Prototype) (opened : List ℕ) (W X : World) (n : ℕ) (env other : List Value) → SameValues p env other → AgreeInTurn p W X → Ready p code opened W X → AreOpened opened (upvalues_of_inner code n)
    → Alike p Bool (move (outside (make_function n)) env W) (move (outside (make_function n)) other X)
makes_alike p code opened W X n env other s g r k =
    let l : AreOpened opened (upvalues_of_inner r.a.function.code n) = subst (λ code. AreOpened opened (upvalues_of_inner code n)) (sym r.same_code) k in
    let o = outside_alike p W X r.a r.b r.same opened r.opens n env other l in
    let o' : AreAlike (bind (place_of W) (do_outside (make_function n) env W)) (bind (place_of X) (do_outside (make_function n) other X)) =
    subst (λ x. AreAlike (bind x (do_outside (make_function n) env W)) (bind (place_of X) (do_outside (make_function n) other X))) (sym r.left)
    (subst (λ y. AreAlike (do_outside (make_function n) env W r.a) (bind y (do_outside (make_function n) other X))) (sym r.right) o) in
    from_both p Bool (move (outside (make_function n)) env W) (move (outside (make_function n)) other X) (makes_keep n p env other W X s g) o'
