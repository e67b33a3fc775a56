-- One more pair of objects that were not paired: a new table, a new function, a new coroutine.
use Rattle.std.proofs.Common.{ℕ, ◌≡◌, ◌⊎◌, inl, inr, ⊎_elim, List, [], ◌∷◌, ◌++◌, Option, Some, None, refl, subst, sym, ap, ◌∙◌, length, Bool, true, false, cond}
use Rattle.std.specs.Prelude.{slice_get, nat_eq}
use Rattle.std.proofs.lemmas.Bool.Decides.{eqb_tells}
use Rattle.int_core.specs.Value.{Kind, a_table, a_function, a_coroutine, Value, same_kind, bind}
use Rattle.int_core.specs.Heap.{Table}
use Rattle.machine_core.specs.World.{Function, Coroutine, Cell, frames_of, lua_frame, register_at}
use Rattle.machine_alike.specs.Agree.{Pairs, IsFirst, IsSecond, SameNumber, Both, SameTable, SameFunction, SameCoroutine, SameCell, OneToOne, Objects, SameObjects, Extends}
use Rattle.machine_alike.proofs.Pairwise.{both_on, both_left, both_right, both_from, both_push, get_push_old, get_push_new, get_end, none_of}
use Rattle.machine_alike.proofs.Same.{cell_on, table_on, function_on, coroutine_on}
use Rattle.int_core.proofs.Equality.{kind_is}

abbrev pub with_pair : (ℕ → Option ℕ) → ℕ → ℕ → ℕ → Option ℕ
with_pair f i j n = cond (nat_eq n i) (Some j) (f n)

abbrev pub with_object : Pairs → Kind → ℕ → ℕ → Pairs
with_object p k i j = record p { objects = λ l n. cond (same_kind l k) (with_pair (p.objects l) i j n) (p.objects l n) }

kind_self : (k : Kind) → same_kind k k ≡ true
kind_self a_table = refl
kind_self _ = refl

pub pair_cases : (f : ℕ → Option ℕ) (i j n m : ℕ) → with_pair f i j n ≡ Some m → ((n ≡ i) × (m ≡ j)) ⊎ (f n ≡ Some m)
pair_cases f i j n m h = ⊎_elim (λ t. let e : Some j ≡ Some m = rw t.0 at h in inl (t.1, cc)) (λ t. inr (rw t.0 at h)) (eqb_tells n i)

pub pair_new : (f : ℕ → Option ℕ) (i j : ℕ) → with_pair f i j i ≡ Some j
pair_new f i j = ⊎_elim (λ t. rw t.0 refl) (λ t. absurd (t.1 refl)) (eqb_tells i i)

pub pair_old : (f : ℕ → Option ℕ) (i j n m : ℕ) → f i ≡ None → f n ≡ Some m → with_pair f i j n ≡ Some m
pair_old f i j n m fresh h = ⊎_elim (λ t. let e : f i ≡ Some m = subst (λ k. f k ≡ Some m) t.1 h in absurd (cc)) (λ t. rw t.0 h) (eqb_tells n i)

pub pair_one : (f : ℕ → Option ℕ) (i j : ℕ) → ((n : ℕ) → f n ≡ Some j → ⊥) → ((a b m : ℕ) → f a ≡ Some m → f b ≡ Some m → a ≡ b) → (a b m : ℕ) → with_pair f i j a ≡ Some m → with_pair f i j b ≡ Some m → a ≡ b
pair_one f i j out one a b m h k =
    ⊎_elim (λ s. ⊎_elim (λ t. s.0 ∙ sym t.0) (λ t. absurd (out b (t ∙ ap Some s.1))) (pair_cases f i j b m k))
    (λ s. ⊎_elim (λ t. absurd (out a (s ∙ ap Some t.1))) (λ t. one a b m s t) (pair_cases f i j b m k))
    (pair_cases f i j a m h)

object_cases : (p : Pairs) (k : Kind) (i j : ℕ) (l : Kind) (n m : ℕ) → (with_object p k i j).objects l n ≡ Some m → ((l ≡ k) × (n ≡ i) × (m ≡ j)) ⊎ (p.objects l n ≡ Some m)
object_cases p k i j l n m h = go (same_kind l k) refl h
  where
    go : (b : Bool) → same_kind l k ≡ b → cond b (with_pair (p.objects l) i j n) (p.objects l n) ≡ Some m → ((l ≡ k) × (n ≡ i) × (m ≡ j)) ⊎ (p.objects l n ≡ Some m)
    go true e h = ⊎_elim (λ t. inl (kind_is l k e, t.0, t.1)) inr (pair_cases (p.objects l) i j n m h)
    go false e h = inr h

pub object_new : (p : Pairs) (k : Kind) (i j : ℕ) → SameNumber (with_object p k i j) k i j
object_new p k i j = rw (kind_self k) (pair_new (p.objects k) i j)

extends_object : (p : Pairs) (k : Kind) (i j : ℕ) → p.objects k i ≡ None → Extends p (with_object p k i j)
extends_object p k i j fresh = record {
  objects = λ l n m h. go l n m h (same_kind l k) refl;
  cells = λ n m h. h;
}
  where
    go : (l : Kind) (n m : ℕ) → p.objects l n ≡ Some m → (b : Bool) → same_kind l k ≡ b → cond b (with_pair (p.objects l) i j n) (p.objects l n) ≡ Some m
    go l n m h true e = pair_old (p.objects l) i j n m (subst (λ x. p.objects x i ≡ None) (sym (kind_is l k e)) fresh) h
    go l n m h false e = h

one_object : (p : Pairs) (k : Kind) (i j : ℕ) → OneToOne p → ((n : ℕ) → p.objects k n ≡ Some j → ⊥) → OneToOne (with_object p k i j)
one_object p k i j one out = record {
  objects = λ l a b m h g. go l a b m (same_kind l k) refl h g;
  cells = one.cells;
}
  where
    go : (l : Kind) (a b m : ℕ) (t : Bool) → same_kind l k ≡ t → cond t (with_pair (p.objects l) i j a) (p.objects l a) ≡ Some m → cond t (with_pair (p.objects l) i j b) (p.objects l b) ≡ Some m → a ≡ b
    go l a b m true e h g = pair_one (p.objects l) i j (subst (λ x. (n : ℕ) → p.objects x n ≡ Some j → ⊥) (sym (kind_is l k e)) out) (one.objects l) a b m h g
    go l a b m false e h g = one.objects l a b m h g

-- the next number is unpaired on both sides
pub fresh_left : {A : Type 0} (R : A → A → Type 0) (f : ℕ → Option ℕ) (xs ys : List A) → ((i j : ℕ) → f i ≡ Some j → Both R (slice_get xs i) (slice_get ys j)) → f (length xs) ≡ None
fresh_left R f xs ys h = none_of (f (length xs)) (λ j e. let l = both_left R _ _ (h (length xs) j e) in let z = get_end xs in cc)

pub fresh_right : {A : Type 0} (R : A → A → Type 0) (f : ℕ → Option ℕ) (xs ys : List A) → ((i j : ℕ) → f i ≡ Some j → Both R (slice_get xs i) (slice_get ys j)) → (n : ℕ) → f n ≡ Some (length ys) → ⊥
fresh_right R f xs ys h n e = let r = both_right R _ _ (h n (length ys) e) in let z = get_end ys in cc

-- at another kind nothing is new
other_kind : (p : Pairs) (k : Kind) (i j : ℕ) (l : Kind) (n m : ℕ) → (l ≡ k → ⊥) → (with_object p k i j).objects l n ≡ Some m → p.objects l n ≡ Some m
other_kind p k i j l n m ne h = ⊎_elim (λ t. absurd (ne t.0)) (λ t. t) (object_cases p k i j l n m h)

-- the items behind which one more pair stands
both_grown : {A : Type 0} (R S : A → A → Type 0) → ((a b : A) → R a b → S a b) → (p : Pairs) (k : Kind) (xs ys : List A) (a b : A) → S a b → ((i j : ℕ) → SameNumber p k i j → Both R (slice_get xs i) (slice_get ys j))
    → (i j : ℕ) → SameNumber (with_object p k (length xs) (length ys)) k i j → Both S (slice_get (xs ++ a ∷ []) i) (slice_get (ys ++ b ∷ []) j)
both_grown R S on p k xs ys a b s all i j h = ⊎_elim
    (λ n. subst (λ i. Both S (slice_get (xs ++ a ∷ []) i) (slice_get (ys ++ b ∷ []) j)) (sym n.1) (subst (λ j. Both S (slice_get (xs ++ a ∷ []) (length xs)) (slice_get (ys ++ b ∷ []) j)) (sym n.2) (both_from S _ _ a b (get_push_new xs a) (get_push_new ys b) s)))
    (λ o. both_on R S on (slice_get (xs ++ a ∷ []) i) (slice_get (ys ++ b ∷ []) j) (both_push R xs (a ∷ []) ys (b ∷ []) i j (all i j o)))
    (object_cases p k (length xs) (length ys) k i j h)

-- cells stay the same while the pairs of coroutines do
cells_kept : (p : Pairs) (k : Kind) (i j : ℕ) (cs ds : List Coroutine) → (a_coroutine ≡ k → ⊥) → Extends p (with_object p k i j) → (c d : Cell) → SameCell p cs ds c d → SameCell (with_object p k i j) cs ds c d
cells_kept p k i j cs ds ne e = cell_on p (with_object p k i j) e cs ds cs ds
    (λ co f r v n at. ((λ g. n (g.0, other_kind p k i j a_coroutine co g.0 ne g.1)), at))
    (λ co f r v n at. ((λ g. n (g.0, other_kind p k i j a_coroutine g.0 co ne g.1)), at))

-- a register that is there
abbrev in_coroutine : Option Coroutine → ℕ → ℕ → Option Value
in_coroutine o frame register = bind (bind o frames_of) (λ frames. bind (bind (slice_get frames frame) lua_frame) (λ f. slice_get f.own.registers register))

there_at : (cs : List Coroutine) (co frame register : ℕ) (v : Value) → register_at cs co frame register ≡ Some v → (c : Coroutine) × (slice_get cs co ≡ Some c)
there_at cs co frame register v h = from (slice_get cs co) refl h
  where
    from : (o : Option Coroutine) → slice_get cs co ≡ o → in_coroutine o frame register ≡ Some v → (c : Coroutine) × (slice_get cs co ≡ Some c)
    from None e h = absurd (cc)
    from (Some c) e h = (c, e)

-- it is still there where a coroutine comes last, which is another one
still_at : (cs : List Coroutine) (d : Coroutine) (co frame register : ℕ) (v : Value) → register_at cs co frame register ≡ Some v → register_at (cs ++ d ∷ []) co frame register ≡ Some v
still_at cs d co frame register v h =
    let c = there_at cs co frame register v h in
    ap (λ o. in_coroutine o frame register) (get_push_old cs (d ∷ []) co c.0 c.1 ∙ sym c.1) ∙ h

not_last : (cs : List Coroutine) (co frame register : ℕ) (v : Value) → register_at cs co frame register ≡ Some v → co ≡ length cs → ⊥
not_last cs co frame register v h e = let c = there_at cs co frame register v h in let z = get_end cs in let k : slice_get cs (length cs) ≡ Some c.0 = ap (slice_get cs) (sym e) ∙ c.1 in absurd (cc)

module _ (p : Pairs) (A B : Objects) (a : SameObjects p A B) where
  abbrev pub table_pair : Pairs
  table_pair = with_object p a_table (length A.tables) (length B.tables)

  pub extends_table : Extends p table_pair
  extends_table = extends_object p a_table (length A.tables) (length B.tables) (fresh_left (SameTable p) (p.objects a_table) A.tables B.tables a.tables)

  abbrev pub function_pair : Pairs
  function_pair = with_object p a_function (length A.functions) (length B.functions)

  pub extends_function : Extends p function_pair
  extends_function = extends_object p a_function (length A.functions) (length B.functions) (fresh_left (SameFunction p) (p.objects a_function) A.functions B.functions a.functions)

  abbrev pub coroutine_pair : Pairs
  coroutine_pair = with_object p a_coroutine (length A.coroutines) (length B.coroutines)

  pub extends_coroutine : Extends p coroutine_pair
  extends_coroutine = extends_object p a_coroutine (length A.coroutines) (length B.coroutines) (fresh_left (SameCoroutine p) (p.objects a_coroutine) A.coroutines B.coroutines a.coroutines)

  -- objects of another kind than the one that gets a pair
  tables_kept : (k : Kind) (i j : ℕ) → (a_table ≡ k → ⊥) → Extends p (with_object p k i j) → (n m : ℕ) → SameNumber (with_object p k i j) a_table n m → Both (SameTable (with_object p k i j)) (slice_get A.tables n) (slice_get B.tables m)
  tables_kept k i j ne e n m h = both_on (SameTable p) (SameTable (with_object p k i j)) (table_on p (with_object p k i j) e) (slice_get A.tables n) (slice_get B.tables m) (a.tables n m (other_kind p k i j a_table n m ne h))

  functions_kept : (k : Kind) (i j : ℕ) → (a_function ≡ k → ⊥) → Extends p (with_object p k i j) → (n m : ℕ) → SameNumber (with_object p k i j) a_function n m → Both (SameFunction (with_object p k i j)) (slice_get A.functions n) (slice_get B.functions m)
  functions_kept k i j ne e n m h = both_on (SameFunction p) (SameFunction (with_object p k i j)) (function_on p (with_object p k i j) e) (slice_get A.functions n) (slice_get B.functions m) (a.functions n m (other_kind p k i j a_function n m ne h))

  coroutines_kept : (k : Kind) (i j : ℕ) → (a_coroutine ≡ k → ⊥) → Extends p (with_object p k i j) → (n m : ℕ) → SameNumber (with_object p k i j) a_coroutine n m → Both (SameCoroutine (with_object p k i j)) (slice_get A.coroutines n) (slice_get B.coroutines m)
  coroutines_kept k i j ne e n m h = both_on (SameCoroutine p) (SameCoroutine (with_object p k i j)) (coroutine_on p (with_object p k i j) e) (slice_get A.coroutines n) (slice_get B.coroutines m) (a.coroutines n m (other_kind p k i j a_coroutine n m ne h))

  pub add_table_same : (t u : Table) → SameTable p t u → SameObjects table_pair (record A { tables = A.tables ++ t ∷ [] }) (record B { tables = B.tables ++ u ∷ [] })
  add_table_same t u s = record {
    one_to_one = one_object p a_table (length A.tables) (length B.tables) a.one_to_one (fresh_right (SameTable p) (p.objects a_table) A.tables B.tables a.tables);
    tables = both_grown (SameTable p) (SameTable table_pair) (table_on p table_pair extends_table) p a_table A.tables B.tables t u (table_on p table_pair extends_table t u s) a.tables;
    functions = functions_kept a_table (length A.tables) (length B.tables) (λ x. cc) extends_table;
    coroutines = coroutines_kept a_table (length A.tables) (length B.tables) (λ x. cc) extends_table;
    cells = λ i j h. both_on (SameCell p A.coroutines B.coroutines) (SameCell table_pair A.coroutines B.coroutines) (cells_kept p a_table (length A.tables) (length B.tables) A.coroutines B.coroutines (λ x. cc) extends_table) (slice_get A.cells i) (slice_get B.cells j) (a.cells i j h);
    one_each = a.one_each;
  }

  pub add_function_same : (f g : Function) → SameFunction p f g → SameObjects function_pair (record A { functions = A.functions ++ f ∷ [] }) (record B { functions = B.functions ++ g ∷ [] })
  add_function_same f g s = record {
    one_to_one = one_object p a_function (length A.functions) (length B.functions) a.one_to_one (fresh_right (SameFunction p) (p.objects a_function) A.functions B.functions a.functions);
    tables = tables_kept a_function (length A.functions) (length B.functions) (λ x. cc) extends_function;
    functions = both_grown (SameFunction p) (SameFunction function_pair) (function_on p function_pair extends_function) p a_function A.functions B.functions f g (function_on p function_pair extends_function f g s) a.functions;
    coroutines = coroutines_kept a_function (length A.functions) (length B.functions) (λ x. cc) extends_function;
    cells = λ i j h. both_on (SameCell p A.coroutines B.coroutines) (SameCell function_pair A.coroutines B.coroutines) (cells_kept p a_function (length A.functions) (length B.functions) A.coroutines B.coroutines (λ x. cc) extends_function) (slice_get A.cells i) (slice_get B.cells j) (a.cells i j h);
    one_each = a.one_each;
  }

  -- who is paired now, and has a register, was so before
  was_first : (co frame register : ℕ) (v : Value) → register_at A.coroutines co frame register ≡ Some v → IsFirst coroutine_pair co → IsFirst p co
  was_first co frame register v h g =
      ⊎_elim (λ n. absurd (not_last A.coroutines co frame register v h n.1)) (λ o. (g.0, o)) (object_cases p a_coroutine (length A.coroutines) (length B.coroutines) a_coroutine co g.0 g.1)

  was_second : (co frame register : ℕ) (v : Value) → register_at B.coroutines co frame register ≡ Some v → IsSecond coroutine_pair co → IsSecond p co
  was_second co frame register v h g =
      ⊎_elim (λ n. absurd (not_last B.coroutines co frame register v h n.2)) (λ o. (g.0, o)) (object_cases p a_coroutine (length A.coroutines) (length B.coroutines) a_coroutine g.0 co g.1)

  pub add_coroutine_same : (c d : Coroutine) → SameCoroutine p c d → SameObjects coroutine_pair (record A { coroutines = A.coroutines ++ c ∷ [] }) (record B { coroutines = B.coroutines ++ d ∷ [] })
  add_coroutine_same c d s = record {
    one_to_one = one_object p a_coroutine (length A.coroutines) (length B.coroutines) a.one_to_one (fresh_right (SameCoroutine p) (p.objects a_coroutine) A.coroutines B.coroutines a.coroutines);
    tables = tables_kept a_coroutine (length A.coroutines) (length B.coroutines) (λ x. cc) extends_coroutine;
    functions = functions_kept a_coroutine (length A.coroutines) (length B.coroutines) (λ x. cc) extends_coroutine;
    coroutines = both_grown (SameCoroutine p) (SameCoroutine coroutine_pair) (coroutine_on p coroutine_pair extends_coroutine) p a_coroutine A.coroutines B.coroutines c d (coroutine_on p coroutine_pair extends_coroutine c d s) a.coroutines;
    cells = λ i j h. both_on (SameCell p A.coroutines B.coroutines) (SameCell coroutine_pair (A.coroutines ++ c ∷ []) (B.coroutines ++ d ∷ []))
        (cell_on p coroutine_pair extends_coroutine A.coroutines B.coroutines (A.coroutines ++ c ∷ []) (B.coroutines ++ d ∷ [])
        (λ co f r v n at. (λ g. n (was_first co f r v at g), still_at A.coroutines c co f r v at))
        (λ co f r v n at. (λ g. n (was_second co f r v at g), still_at B.coroutines d co f r v at)))
        (slice_get A.cells i) (slice_get B.cells j) (a.cells i j h);
    one_each = a.one_each;
  }
