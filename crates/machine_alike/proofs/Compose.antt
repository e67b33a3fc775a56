-- Agreement composes: a world agrees with a third one where both agree with one between.
use Rattle.std.proofs.Common.{ℕ, ◌≡◌, List, [], ◌∷◌, Option, Some, None, refl, subst, sym, ap, ◌∙◌}
use Rattle.std.specs.Prelude.{slice_get}
use Rattle.std.specs.List.{AllZip}
use Rattle.int_core.specs.Value.{Kind, a_table, a_function, a_coroutine, Value, bind}
use Rattle.int_core.specs.Heap.{Table}
use Rattle.machine_core.specs.World.{Function, Cell, open_at, Wait, Activation, LuaFrame, Frame, Coroutine, World, register_at}
use Rattle.machine_alike.specs.Agree.{Pairs, SameNumber, SameCellNumber, OneToOne, Both, Each, SameValue, same_known, same_object, SameValues, SameRow, SameTable, SameFunction, SameWait, same_running, same_for_call, same_for_iterator, same_for_value, same_for_truth, same_dropped, same_for_concat, same_for_close, same_returning, same_leaving, SameActivation, SameLuaFrame, SameFrame, same_lua, same_pcall, same_xpcall, same_handler, same_closing, SameFrames, SameCoroutine, same_fresh, same_suspended, same_in_progress, same_normal, same_dead, same_failed, IsFirst, IsSecond, Loose, kept_closed, kept_apart, SameCell, same_place, same_content, Objects, objects_of, SameObjects, SameRoots, roots_of}
use Rattle.machine_alike.specs.Laws.{then_pairs, AgreementComposes}
use Rattle.machine_alike.proofs.Pairwise.{bind_some}
use Rattle.machine_alike.proofs.CellWrites.{register_same}

zip_then : {A B C : Type 0} (R : A → B → Type 0) (S : B → C → Type 0) (T : A → C → Type 0) → ((a : A) (b : B) (c : C) → R a b → S b c → T a c) → (xs : List A) (ys : List B) (zs : List C) → AllZip R xs ys → AllZip S ys zs → AllZip T xs zs
zip_then R S T f [] [] [] h k = tt
zip_then R S T f [] [] (z ∷ zs) h k = absurd k
zip_then R S T f [] (y ∷ ys) zs h k = absurd h
zip_then R S T f (x ∷ xs) [] zs h k = absurd h
zip_then R S T f (x ∷ xs) (y ∷ ys) [] h k = absurd k
zip_then R S T f (x ∷ xs) (y ∷ ys) (z ∷ zs) h k = (f x y z h.0 k.0, zip_then R S T f xs ys zs h.1 k.1)

each_then : {A B C : Type 0} (R : A → B → Type 0) (S : B → C → Type 0) (T : A → C → Type 0) → ((a : A) (b : B) (c : C) → R a b → S b c → T a c) → (x : Option A) (y : Option B) (z : Option C) → Each R x y → Each S y z → Each T x z
each_then R S T f None None None h k = tt
each_then R S T f None None (Some c) h k = absurd k
each_then R S T f None (Some b) z h k = absurd h
each_then R S T f (Some a) None z h k = absurd h
each_then R S T f (Some a) (Some b) None h k = absurd k
each_then R S T f (Some a) (Some b) (Some c) h k = f a b c h k

both_then : {A B C : Type 0} (R : A → B → Type 0) (S : B → C → Type 0) (T : A → C → Type 0) → ((a : A) (b : B) (c : C) → R a b → S b c → T a c) → (x : Option A) (y : Option B) (z : Option C) → Both R x y → Both S y z → Both T x z
both_then R S T f None y z h k = absurd h
both_then R S T f (Some a) None z h k = absurd h
both_then R S T f (Some a) (Some b) None h k = absurd k
both_then R S T f (Some a) (Some b) (Some c) h k = f a b c h k

module _ (p q : Pairs) where
  abbrev r : Pairs
  r = then_pairs p q

  number_then : (kind : Kind) (i j k : ℕ) → SameNumber p kind i j → SameNumber q kind j k → SameNumber r kind i k
  number_then kind i j k h l = ap (λ o. bind o (q.objects kind)) h ∙ l

  cell_then : (i j k : ℕ) → SameCellNumber p i j → SameCellNumber q j k → SameCellNumber r i k
  cell_then i j k h l = ap (λ o. bind o q.cells) h ∙ l

  -- the number between
  between : (kind : Kind) (i k : ℕ) → SameNumber r kind i k → (j : ℕ) × SameNumber p kind i j × SameNumber q kind j k
  between kind i k h = bind_some (p.objects kind i) (q.objects kind) k h

  cell_between : (i k : ℕ) → SameCellNumber r i k → (j : ℕ) × SameCellNumber p i j × SameCellNumber q j k
  cell_between i k h = bind_some (p.cells i) q.cells k h

  value_then : (u v w : Value) → SameValue p u v → SameValue q v w → SameValue r u w
  value_then u v w (same_known c) (same_known _) = same_known c
  value_then u v w (same_object kind i j h) (same_object _ _ k l) = same_object kind i k (number_then kind i j k h l)

  values_then : (us vs ws : List Value) → SameValues p us vs → SameValues q vs ws → SameValues r us ws
  values_then us vs ws h k = zip_then (SameValue p) (SameValue q) (SameValue r) value_then us vs ws h k

  table_then : (t u v : Table) → SameTable p t u → SameTable q u v → SameTable r t v
  table_then t u v h k = record {
    rows = zip_then (SameRow p) (SameRow q) (SameRow r) (λ a b c m n. (value_then a.0 b.0 c.0 m.0 n.0, value_then a.1 b.1 c.1 m.1 n.1)) t.rows u.rows v.rows h.rows k.rows;
    metatable = each_then (SameNumber p a_table) (SameNumber q a_table) (SameNumber r a_table) (number_then a_table) t.metatable u.metatable v.metatable h.metatable k.metatable;
  }

  function_then : (f g h : Function) → SameFunction p f g → SameFunction q g h → SameFunction r f h
  function_then f g h m n = record { code = m.code ∙ n.code; cells = zip_then (SameCellNumber p) (SameCellNumber q) (SameCellNumber r) cell_then f.cells g.cells h.cells m.cells n.cells }

  wait_then : (u v w : Wait Value) → SameWait p u v → SameWait q v w → SameWait r u w
  wait_then u v w same_running same_running = same_running
  wait_then u v w same_for_call same_for_call = same_for_call
  wait_then u v w same_for_iterator same_for_iterator = same_for_iterator
  wait_then u v w same_for_value same_for_value = same_for_value
  wait_then u v w same_for_truth same_for_truth = same_for_truth
  wait_then u v w same_dropped same_dropped = same_dropped
  wait_then u v w (same_for_concat left) (same_for_concat _) = same_for_concat left
  wait_then u v w same_for_close same_for_close = same_for_close
  wait_then u v w (same_returning count) (same_returning _) = same_returning count
  wait_then u v w (same_leaving x y h) (same_leaving _ z k) = same_leaving x z (value_then x y z h k)

  activation_then : (a b c : Activation) → SameActivation p a b → SameActivation q b c → SameActivation r a c
  activation_then a b c h k = record {
    pc = h.pc ∙ k.pc;
    registers = values_then a.registers b.registers c.registers h.registers k.registers;
    varargs = values_then a.varargs b.varargs c.varargs h.varargs k.varargs;
    pending = h.pending ∙ k.pending;
    opened = h.opened ∙ k.opened;
  }

  lua_frame_then : (f g h : LuaFrame) → SameLuaFrame p f g → SameLuaFrame q g h → SameLuaFrame r f h
  lua_frame_then f g h m n = record { function = number_then a_function f.function g.function h.function m.function n.function; wait = wait_then f.wait g.wait h.wait m.wait n.wait; own = activation_then f.own g.own h.own m.own n.own }

  frame_then : (f g h : Frame) → SameFrame p f g → SameFrame q g h → SameFrame r f h
  frame_then f g h (same_lua x y m) (same_lua _ z n) = same_lua x z (lua_frame_then x y z m n)
  frame_then f g h same_pcall same_pcall = same_pcall
  frame_then f g h (same_xpcall u v m) (same_xpcall _ w n) = same_xpcall u w (value_then u v w m n)
  frame_then f g h same_handler same_handler = same_handler
  frame_then f g h (same_closing a b us vs m n) (same_closing _ c _ ws k l) = same_closing a c us ws (each_then (SameValue p) (SameValue q) (SameValue r) value_then a b c m k) (values_then us vs ws n l)

  frames_then : (fs gs hs : List Frame) → SameFrames p fs gs → SameFrames q gs hs → SameFrames r fs hs
  frames_then fs gs hs h k = zip_then (SameFrame p) (SameFrame q) (SameFrame r) frame_then fs gs hs h k

  coroutine_then : (c d e : Coroutine) → SameCoroutine p c d → SameCoroutine q d e → SameCoroutine r c e
  coroutine_then c d e (same_fresh u v h) (same_fresh _ w k) = same_fresh u w (value_then u v w h k)
  coroutine_then c d e (same_suspended fs gs h) (same_suspended _ hs k) = same_suspended fs hs (frames_then fs gs hs h k)
  coroutine_then c d e (same_in_progress fs gs h) (same_in_progress _ hs k) = same_in_progress fs hs (frames_then fs gs hs h k)
  coroutine_then c d e (same_normal fs gs h) (same_normal _ hs k) = same_normal fs hs (frames_then fs gs hs h k)
  coroutine_then c d e same_dead same_dead = same_dead
  coroutine_then c d e (same_failed u v us vs h k) (same_failed _ w _ ws m n) = same_failed u w us ws (value_then u v w h m) (values_then us vs ws k n)

-- cells

-- one coroutine's loose cell has one value
loose_value : (cs : List Coroutine) (P Q : ℕ → Type 0) (c : Cell) (v w : Value) → Loose cs P c v → Loose cs Q c w → v ≡ w
loose_value cs P Q c v w (kept_closed _) (kept_closed _) = refl
loose_value cs P Q c v w (kept_apart co f r _ n h) (kept_apart _ _ _ _ m k) = let e : Some v ≡ Some w = sym h ∙ k in cc

loose_as : (cs : List Coroutine) (P Q : ℕ → Type 0) → ((co : ℕ) → Q co → P co) → (c : Cell) (v : Value) → Loose cs P c v → Loose cs Q c v
loose_as cs P Q on c v (kept_closed w) = kept_closed w
loose_as cs P Q on c v (kept_apart co f r w n h) = kept_apart co f r w (λ g. n (on co g)) h

module _ (p q : Pairs) (cs ds es : List Coroutine) (first : (i j : ℕ) → SameNumber p a_coroutine i j → Both (SameCoroutine p) (slice_get cs i) (slice_get ds j)) (second : (i j : ℕ) → SameNumber q a_coroutine i j → Both (SameCoroutine q) (slice_get ds i) (slice_get es j)) (one : OneToOne p) (also : OneToOne q) where
  abbrev joint : Pairs
  joint = then_pairs p q

  first_on : (co : ℕ) → IsFirst joint co → IsFirst p co
  first_on co g = let b = between p q a_coroutine co g.0 g.1 in (b.0, b.1)

  second_on : (co : ℕ) → IsSecond joint co → IsSecond q co
  second_on co g = let b = between p q a_coroutine g.0 co g.1 in (b.0, b.2)

  -- what stands for a coroutine that is paired no further is paired no further
  no_further : (co x : ℕ) → SameNumber p a_coroutine co x → (IsFirst q x → ⊥) → IsFirst joint co → ⊥
  no_further co x h n g =
      let b = between p q a_coroutine co g.0 g.1 in
      let e : Some x ≡ Some b.0 = sym h ∙ b.1 in
      let k : x ≡ b.0 = cc in
      n (g.0, subst (λ m. SameNumber q a_coroutine m g.0) (sym k) b.2)

  -- and one that nothing was paired with stands for nothing
  no_earlier : (x co : ℕ) → SameNumber q a_coroutine x co → (IsSecond p x → ⊥) → IsSecond joint co → ⊥
  no_earlier x co h n g =
      let b = between p q a_coroutine g.0 co g.1 in
      let e : b.0 ≡ x = also.objects a_coroutine b.0 x co b.2 h in
      n (g.0, subst (λ m. SameNumber p a_coroutine g.0 m) e b.1)

  read_left : (co x f r : ℕ) (w : Value) → SameNumber p a_coroutine co x → register_at ds x f r ≡ Some w → (u : Value) × (register_at cs co f r ≡ Some u) × SameValue p u w
  read_left co x f r w h at = by (register_at cs co f r) (register_at ds x f r) refl at (register_same p cs ds co x f r (first co x h))
    where
      by : (o o' : Option Value) → register_at cs co f r ≡ o → o' ≡ Some w → Each (SameValue p) o o' → (u : Value) × (register_at cs co f r ≡ Some u) × SameValue p u w
      by None None e g k = absurd (cc)
      by None (Some v) e g k = absurd k
      by (Some u) None e g k = absurd k
      by (Some u) (Some v) e g k = let l : v ≡ w = cc in (u, e, subst (λ v. SameValue p u v) l k)

  read_right : (x co f r : ℕ) (v : Value) → SameNumber q a_coroutine x co → register_at ds x f r ≡ Some v → (w : Value) × (register_at es co f r ≡ Some w) × SameValue q v w
  read_right x co f r v h at = by (register_at ds x f r) (register_at es co f r) refl at (register_same q ds es x co f r (second x co h))
    where
      by : (o o' : Option Value) → register_at es co f r ≡ o' → o ≡ Some v → Each (SameValue q) o o' → (w : Value) × (register_at es co f r ≡ Some w) × SameValue q v w
      by None o' e g k = absurd (cc)
      by (Some u) None e g k = absurd k
      by (Some u) (Some w) e g k = let l : u ≡ v = cc in (w, e, subst (λ u. SameValue q u w) l k)

  content : (c d e : Cell) (u v w x : Value) → Loose cs (IsFirst p) c u → Loose ds (IsSecond p) d v → SameValue p u v → Loose ds (IsFirst q) d w → Loose es (IsSecond q) e x → SameValue q w x → SameCell joint cs es c e
  content c d e u v w x l m s l' m' t =
      let k : v ≡ w = loose_value ds (IsSecond p) (IsFirst q) d v w m l' in
      same_content c e u x (loose_as cs (IsFirst p) (IsFirst joint) first_on c u l) (loose_as es (IsSecond q) (IsSecond joint) second_on e x m')
      (value_then p q u w x (subst (λ v. SameValue p u v) k s) t)

  -- open in coroutines that the first pairs alone
  left_alone : (co x f r : ℕ) (e : Cell) (w y : Value) → SameNumber p a_coroutine co x → Loose ds (IsFirst q) (open_at x f r) w → Loose es (IsSecond q) e y → SameValue q w y → SameCell joint cs es (open_at co f r) e
  left_alone co x f r e w y h (kept_apart _ _ _ _ n at) m t =
      let k = read_left co x f r w h at in
      same_content (open_at co f r) e k.0 y (kept_apart co f r k.0 (no_further co x h n) k.1) (loose_as es (IsSecond q) (IsSecond joint) second_on e y m) (value_then p q k.0 w y k.2 t)

  right_alone : (c : Cell) (x co f r : ℕ) (u v : Value) → Loose cs (IsFirst p) c u → Loose ds (IsSecond p) (open_at x f r) v → SameValue p u v → SameNumber q a_coroutine x co → SameCell joint cs es c (open_at co f r)
  right_alone c x co f r u v l (kept_apart _ _ _ _ n at) s h =
      let k = read_right x co f r v h at in
      same_content c (open_at co f r) u k.0 (loose_as cs (IsFirst p) (IsFirst joint) first_on c u l) (kept_apart co f r k.0 (no_earlier x co h n) k.1) (value_then p q u v k.0 s k.2)

  same_cell_then : (c d e : Cell) → SameCell p cs ds c d → SameCell q ds es d e → SameCell joint cs es c e
  same_cell_then c d e (same_place co x f r h) (same_place _ y _ _ k) = same_place co y f r (number_then p q a_coroutine co x y h k)
  same_cell_then c d e (same_place co x f r h) (same_content _ e' w y l m t) = left_alone co x f r e' w y h l m t
  same_cell_then c d e (same_content c' _ u v l m s) (same_place x co f r h) = right_alone c' x co f r u v l m s h
  same_cell_then c d e (same_content c' d' u v l m s) (same_content _ e' w y l' m' t) = content c' d' e' u v w y l m s l' m' t

-- worlds

one_then : (p q : Pairs) → OneToOne p → OneToOne q → OneToOne (then_pairs p q)
one_then p q one also = record {
  objects = λ kind i k m h l.
      let b = between p q kind i m h in
      let c = between p q kind k m l in
      let e : b.0 ≡ c.0 = also.objects kind b.0 c.0 m b.2 c.2 in
      one.objects kind i k b.0 b.1 (c.1 ∙ ap Some (sym e));
  cells = λ i k m h l.
      let b = cell_between p q i m h in
      let c = cell_between p q k m l in
      let e : b.0 ≡ c.0 = also.cells b.0 c.0 m b.2 c.2 in
      one.cells i k b.0 b.1 (c.1 ∙ ap Some (sym e));
}

objects_then : (p q : Pairs) (A B C : Objects) → SameObjects p A B → SameObjects q B C → SameObjects (then_pairs p q) A C
objects_then p q A B C a b = record {
  one_to_one = one_then p q a.one_to_one b.one_to_one;
  tables = λ i k h. let m = between p q a_table i k h in
      both_then (SameTable p) (SameTable q) (SameTable (then_pairs p q)) (table_then p q) (slice_get A.tables i) (slice_get B.tables m.0) (slice_get C.tables k) (a.tables i m.0 m.1) (b.tables m.0 k m.2);
  functions = λ i k h. let m = between p q a_function i k h in
      both_then (SameFunction p) (SameFunction q) (SameFunction (then_pairs p q)) (function_then p q) (slice_get A.functions i) (slice_get B.functions m.0) (slice_get C.functions k) (a.functions i m.0 m.1) (b.functions m.0 k m.2);
  coroutines = λ i k h. let m = between p q a_coroutine i k h in
      both_then (SameCoroutine p) (SameCoroutine q) (SameCoroutine (then_pairs p q)) (coroutine_then p q) (slice_get A.coroutines i) (slice_get B.coroutines m.0) (slice_get C.coroutines k) (a.coroutines i m.0 m.1) (b.coroutines m.0 k m.2);
  cells = λ i k h. let m = cell_between p q i k h in
      both_then (SameCell p A.coroutines B.coroutines) (SameCell q B.coroutines C.coroutines) (SameCell (then_pairs p q) A.coroutines C.coroutines)
      (same_cell_then p q A.coroutines B.coroutines C.coroutines a.coroutines b.coroutines a.one_to_one b.one_to_one)
      (slice_get A.cells i) (slice_get B.cells m.0) (slice_get C.cells k) (a.cells i m.0 m.1) (b.cells m.0 k m.2);
  one_each = (a.one_each.0, b.one_each.1);
}

roots_then : (p q : Pairs) (W X Y : World) → SameRoots p (roots_of W) (roots_of X) → SameRoots q (roots_of X) (roots_of Y) → SameRoots (then_pairs p q) (roots_of W) (roots_of Y)
roots_then p q W X Y a b =
    let s = then_pairs p q in
    record {
      globals = number_then p q a_table W.globals X.globals Y.globals a.globals b.globals;
      string_metatable = each_then (SameNumber p a_table) (SameNumber q a_table) (SameNumber s a_table) (number_then p q a_table) W.heap.string_metatable X.heap.string_metatable Y.heap.string_metatable a.string_metatable b.string_metatable;
      prelude_environment = number_then p q a_table W.prelude_environment X.prelude_environment Y.prelude_environment a.prelude_environment b.prelude_environment;
      prelude_functions = zip_then (SameNumber p a_function) (SameNumber q a_function) (SameNumber s a_function) (number_then p q a_function) W.prelude_functions X.prelude_functions Y.prelude_functions a.prelude_functions b.prelude_functions;
      special_key = a.special_key ∙ b.special_key;
      max_depth = a.max_depth ∙ b.max_depth;
      main = each_then (SameNumber p a_coroutine) (SameNumber q a_coroutine) (SameNumber s a_coroutine) (number_then p q a_coroutine) W.main X.main Y.main a.main b.main;
      chain = zip_then (SameNumber p a_coroutine) (SameNumber q a_coroutine) (SameNumber s a_coroutine) (number_then p q a_coroutine) W.chain X.chain Y.chain a.chain b.chain;
    }

abbrev runs : List ℕ → Type 0
runs chain = elim chain [ [] ↦ ⊥ | _ ∷ _ ↦ Unit {0} ]

-- a chain that is not empty stands for one that is not
still_runs : (R : ℕ → ℕ → Type 0) (xs ys : List ℕ) → AllZip R xs ys → runs xs → runs ys
still_runs R [] ys h k = absurd k
still_runs R (x ∷ xs) [] h k = absurd h
still_runs R (x ∷ xs) (y ∷ ys) h k = tt

pub agreement_composes : AgreementComposes
agreement_composes p q W X Y a b = record {
  objects = objects_then p q (objects_of W) (objects_of X) (objects_of Y) a.objects b.objects;
  roots = roots_then p q W X Y a.roots b.roots;
  moving = λ h. values_then p q W.moving X.moving Y.moving (a.moving h) (b.moving (still_runs (SameNumber p a_coroutine) W.chain X.chain a.roots.chain h));
}
