-- A sound world with the objects of a sound image behind its own is sound.
use Rattle.std.proofs.Common.{arith, ℕ, suc, ◌+◌, ◌<◌, ◌≤◌, ◌≡◌, ⊎_elim, List, [], ◌∷◌, ◌++◌, Option, Some, None, refl, subst, sym, ap, ◌∙◌, length, true, map}
use Rattle.std.specs.Prelude.{slice_get, option_map, IsTrue}
use Rattle.std.proofs.lemmas.Option.{slice_get-map, slice_get_within}
use Rattle.int_core.specs.Value.{Plain, nil, boolean, integer, string, primitive, Kind, a_table, a_function, a_coroutine, Value, known, object, bind}
use Rattle.int_core.specs.Heap.{Table}
use Rattle.code_core.specs.declared.opcode.Opcode.{Opcode}
use Rattle.code_core.specs.declared.instruction.Instruction.{Instruction}
use Rattle.machine_core.specs.World.{Function, Cell, closed, open_at, Wait, running, leaving, lua, Coroutine, World, frames_of, lua_frame, OneEach}
use Rattle.machine_sound.specs.Sound.{Each, Sizes, sizes, PlainOk, Valid, OptionOk, TableOk, FunctionOk, WaitOk, LuaOk, FrameOk, LuaWaits, FrameWaits, CoroutineOk, Standing, runs, resumed_another, apart, standing, ChainOk, registers_in, registers_of, CellOk, Solid, waits_at, waiting_size, kept_below}
use Rattle.machine_sound.proofs.Grow.{Grows, valid_on, table_on, function_on, coroutine_on, roots_on}
use Rattle.machine_sound.proofs.Lists.{each_on, each_append, each_cons, get_push_old, map_get, some_is}
use Rattle.image_core.specs.Image.{Item, plain, numbered, permanent, environment, LuaFrameItem, FrameItem, lua_item, pcall_item, xpcall_item, handler_item, closing_item, Record, table_record, function_record, closed_record, open_record, fresh_record, suspended_record, dead_record, failed_record}
use Rattle.image_core.specs.Loading.{kind_in, is_of, is_cell, rank, Target, new_number, new_cell, numbered_value, value_made, table_number, function_number, row_made, table_made, function_made, wait_made, lua_frame_made, frame_made, coroutine_made, cell_made, chosen, loaded}
use Rattle.image_core.proofs.Lists.{get_split, chosen_get, chosen_from, rank_one}
use Rattle.image_core.proofs.Making.{table_told, function_told, coroutine_told, cell_told, after_old, open_made, table_makes, function_makes, coroutine_makes}
use Rattle.image_sound.specs.SoundImage.{Host, PlainFits, ItemFits, CodeIs, WaitFits, LuaFits, FrameFits, OpenFits, IsSoundImage, IsTarget, LoadedSound}

-- what holds of what is chosen
each_chosen : {A B : Type 0} (P : B → Type 0) (f : A → Option B) (xs : List A) → ((n : ℕ) (x : A) (y : B) → slice_get xs n ≡ Some x → f x ≡ Some y → P y) → Each P (chosen f xs)
each_chosen P f [] h = λ i x e. absurd (none_some x e)
  where
    none_some : {A : Type 0} (x : A) → None ≡ Some x → ⊥
    none_some x e = cc
each_chosen P f (x ∷ xs) h = go (f x) refl (each_chosen P f xs (λ n z y e g. h (suc n) z y e g))
  where
    go : (o : Option _) → f x ≡ o → Each P (chosen f xs) → Each P (elim o [ None ↦ chosen f xs | Some y ↦ y ∷ chosen f xs ])
    go None e ih = ih
    go (Some y) e ih = each_cons P y (chosen f xs) (h 0 x y refl e) ih

each_made : {A B : Type 0} (P : A → Type 0) (Q : B → Type 0) (f : A → B) → ((x : A) → P x → Q (f x)) → (xs : List A) → Each P xs → Each Q (map f xs)
each_made P Q f h xs e = λ i y k. let r = map_get f xs i y k in subst Q r.2 (h r.0 (e i r.0 r.1))

module _ (H : Host) (target : IsTarget H.target H.world) (old : Solid H.primitives H.world) (ok : IsSoundImage H) where
  abbrev V : World
  V = H.world

  abbrev T : Target
  T = H.target

  abbrev rs : List Record
  rs = H.records

  abbrev X : World
  X = loaded T rs V

  abbrev y : Sizes
  y = sizes H.primitives V

  abbrev z : Sizes
  z = sizes H.primitives X

  -- what was made of a record of a sort is there
  table_there : (n : ℕ) (r : Record) (t : Table) → slice_get rs n ≡ Some r → table_made T rs r ≡ Some t → slice_get X.heap.tables (new_number T rs a_table n) ≡ Some t
  table_there n r t h e = after_old (table_made T rs) (is_of a_table) rs V.heap.tables T.tables n n t target.tables refl (chosen_get (is_of a_table) (table_made T rs) (table_told T rs) rs n r t h e)

  function_there : (n : ℕ) (r : Record) (t : Function) → slice_get rs n ≡ Some r → function_made T rs r ≡ Some t → slice_get X.functions (new_number T rs a_function n) ≡ Some t
  function_there n r t h e = after_old (function_made T rs) (is_of a_function) rs V.functions T.functions n n t target.functions refl (chosen_get (is_of a_function) (function_made T rs) (function_told T rs) rs n r t h e)

  coroutine_there : (n : ℕ) (r : Record) (t : Coroutine) → slice_get rs n ≡ Some r → coroutine_made T rs r ≡ Some t → slice_get X.coroutines (new_number T rs a_coroutine n) ≡ Some t
  coroutine_there n r t h e = after_old (coroutine_made T rs) (is_of a_coroutine) rs V.coroutines T.coroutines n n t target.coroutines refl (chosen_get (is_of a_coroutine) (coroutine_made T rs) (coroutine_told T rs) rs n r t h e)

  cell_there : (n : ℕ) (r : Record) (t : Cell) → slice_get rs n ≡ Some r → cell_made T rs r ≡ Some t → slice_get X.cells (new_cell T rs n) ≡ Some t
  cell_there n r t h e = after_old (cell_made T rs) is_cell rs V.cells T.cells n n t target.cells refl (chosen_get is_cell (cell_made T rs) (cell_told T rs) rs n r t h e)

  -- a record of a cell makes one
  cell_makes : (r : Record) → is_cell r ≡ true → (t : Cell) × (cell_made T rs r ≡ Some t)
  cell_makes (closed_record i) h = (_, refl)
  cell_makes (open_record a b c) h = (_, refl)
  cell_makes _ h = absurd (cc)

  grows : Grows y z
  grows = record {
    primitives = refl;
    tables = longer V.heap.tables (chosen (table_made T rs) rs);
    some = longer V.functions (chosen (function_made T rs) rs);
    functions = λ i f e. get_push_old V.functions (chosen (function_made T rs) rs) i f e;
    cells = longer V.cells (chosen (cell_made T rs) rs);
    coroutines = longer V.coroutines (chosen (coroutine_made T rs) rs);
  }
    where
      longer : {A : Type 0} (xs ys : List A) → length xs ≤ length (xs ++ ys)
      longer [] ys = omega arith
      longer (x ∷ xs) ys = let l = longer xs ys in omega (arith, l)

  -- values
  numbered_valid : (n : ℕ) (r : Record) (kind : Kind) → slice_get rs n ≡ Some r → kind_in r ≡ Some kind → Valid z (object kind (new_number T rs kind n))
  numbered_valid n r a_table h k = let t = table_makes T rs r k in slice_get_within X.heap.tables _ t.0 (table_there n r t.0 h t.1)
  numbered_valid n r a_function h k = let t = function_makes T rs r k in slice_get_within X.functions _ t.0 (function_there n r t.0 h t.1)
  numbered_valid n r a_coroutine h k = let t = coroutine_makes T rs r k in slice_get_within X.coroutines _ t.0 (coroutine_there n r t.0 h t.1)

  plain_valid : (p : Plain) → PlainFits H p → PlainOk H.primitives p
  plain_valid nil h = tt
  plain_valid (boolean b) h = tt
  plain_valid (integer n) h = tt
  plain_valid (string s) h = h
  plain_valid (primitive n) h = absurd h

  item_valid : (i : Item) → ItemFits H i → Valid z (value_made T rs i)
  item_valid (plain p) h = plain_valid p h
  item_valid (numbered n) h = subst (λ o. Valid z (numbered_value T rs n o)) (sym (ap (λ o. bind o kind_in) h.2 ∙ h.3)) (numbered_valid n h.0 h.1 h.2 h.3)
  item_valid (permanent kind key) h = valid_on y z grows (T.named kind key) h
  item_valid environment h = let e = target.environment in let o = old.roots.prelude_environment in let g = grows.tables in omega (arith, e, o, g)

  items_valid : (is : List Item) → Each (ItemFits H) is → Each (Valid z) (map (value_made T rs) is)
  items_valid is h = each_made (ItemFits H) (Valid z) (value_made T rs) item_valid is h

  metatable_valid : (v : Value) → Valid z v → OptionOk (λ m. m < z.tables) (table_number v)
  metatable_valid (known p) h = tt
  metatable_valid (object a_table n) h = h
  metatable_valid (object a_function n) h = tt
  metatable_valid (object a_coroutine n) h = tt

  table_ok : (n : ℕ) (r : Record) (t : Table) → slice_get rs n ≡ Some r → table_made T rs r ≡ Some t → TableOk z t
  table_ok n (table_record rows m) t h e =
      let k = ok.records n (table_record rows m) h in
      subst (TableOk z) (some_is refl e) (record {
        rows = each_made (λ row. ItemFits H row.0 × ItemFits H row.1) (λ row. Valid z row.0 × Valid z row.1) (row_made T rs) (λ row f. (item_valid row.0 f.0, item_valid row.1 f.1)) rows k.0;
        metatable = metatable_valid (value_made T rs m) (item_valid m k.1);
      })
  table_ok n _ t h e = absurd (cc)

  function_ok : (n : ℕ) (r : Record) (t : Function) → slice_get rs n ≡ Some r → function_made T rs r ≡ Some t → FunctionOk z t
  function_ok n (function_record code cells) t h e =
      let k = ok.records n (function_record code cells) h in
      subst (FunctionOk z) (some_is refl e) (record {
        code = k.0;
        count = length_map (new_cell T rs) cells ∙ k.1;
        cells = each_made (λ c. (r : Record) × (slice_get rs c ≡ Some r) × (is_cell r ≡ true)) (λ c. c < z.cells) (new_cell T rs) (λ c f. let u = cell_makes f.0 f.2 in slice_get_within X.cells (new_cell T rs c) u.0 (cell_there c f.0 u.0 f.1 u.1)) cells k.2;
      })
    where
      length_map : {A B : Type 0} (f : A → B) (xs : List A) → length (map f xs) ≡ length xs
      length_map f [] = refl
      length_map f (x ∷ xs) = ap suc (length_map f xs)
  function_ok n _ t h e = absurd (cc)

  -- frames
  code_there : (i : Item) (code : _) → CodeIs H i code → (f : Function) × (slice_get X.functions (function_number (value_made T rs i)) ≡ Some f) × (f.code ≡ code)
  code_there (numbered n) code h =
      let e : bind (slice_get rs n) kind_in ≡ Some a_function = ap (λ o. bind o kind_in) h.1 in
      let v : function_number (value_made T rs (numbered n)) ≡ new_number T rs a_function n = ap (λ o. function_number (numbered_value T rs n o)) e in
      (_, ap (slice_get X.functions) v ∙ function_there n (function_record code h.0) _ h.1 refl, refl)
  code_there (permanent a_function key) code h = (h.1, ap (λ v. slice_get X.functions (function_number v)) h.2 ∙ get_push_old V.functions (chosen (function_made T rs) rs) h.0 h.1 h.3, h.4)
  code_there _ code h = absurd h

  waits_same : (w : Wait Item) (op : Opcode) (i : Instruction) → waits_at (wait_made T rs w) op i ≡ waits_at w op i
  waits_same running op i = refl
  waits_same _ op i = refl

  size_same : (w : Wait Item) (i : Instruction) (stack : ℕ) → waiting_size (wait_made T rs w) i stack ≡ waiting_size w i stack
  size_same running i stack = refl
  size_same _ i stack = refl

  kept_same : (w : Wait Item) (i : Instruction) (stack : ℕ) → kept_below (wait_made T rs w) i stack ≡ kept_below w i stack
  kept_same running i stack = refl
  kept_same _ i stack = refl

  size_most : (w : Wait Item) (i : Instruction) (stack : ℕ) → stack ≤ waiting_size w i stack
  size_most running i stack = omega arith
  size_most _ i stack = omega arith

  wait_ok : (w : Wait Item) → WaitFits H w → WaitOk z (wait_made T rs w)
  wait_ok (leaving e) h = item_valid e h
  wait_ok _ h = tt

  map_length : {A B : Type 0} (f : A → B) (xs : List A) → length (map f xs) ≡ length xs
  map_length f [] = refl
  map_length f (x ∷ xs) = ap suc (map_length f xs)

  lua_ok : (f : LuaFrameItem) → LuaFits H f → LuaOk z (lua_frame_made T rs f)
  lua_ok f h =
      let c = code_there f.function h.code h.is_code in
      let l = map_length (value_made T rs) f.registers in
      let s = h.size in
      let m = size_most f.wait h.instruction h.code.own.stack in
      let e : c.0.code.own.stack ≡ h.code.own.stack = ap (λ p. p.own.stack) c.2 in
      record {
        function = c.0;
        there = c.1;
        stack = omega (arith, l, s, m, e);
        registers = items_valid f.registers h.registers;
        varargs = items_valid f.varargs h.varargs;
        pending = subst (λ n. Each (λ r. r < n) f.pending) (sym e) h.pending;
        error = wait_ok f.wait h.error;
      }

  lua_waits : (f : LuaFrameItem) → LuaFits H f → LuaWaits z (lua_frame_made T rs f)
  lua_waits f h =
      let c = code_there f.function h.code h.is_code in
      let e : c.0.code.own.stack ≡ h.code.own.stack = ap (λ p. p.own.stack) c.2 in
      record {
        function = c.0;
        there = c.1;
        instruction = h.instruction;
        at_pc = ap (λ p. Rattle.code_core.specs.Check.at p f.pc) c.2 ∙ h.at_pc;
        opcode = h.opcode;
        is_opcode = h.is_opcode;
        fits = subst IsTrue (sym (waits_same f.wait h.opcode h.instruction)) h.fits;
        size = map_length (value_made T rs) f.registers ∙ (h.size ∙ (sym (size_same f.wait h.instruction h.code.own.stack) ∙ ap (waiting_size (wait_made T rs f.wait) h.instruction) (sym e)));
        kept = subst (λ n. Each (λ r. r < n) f.pending) (sym (kept_same f.wait h.instruction h.code.own.stack) ∙ ap (kept_below (wait_made T rs f.wait) h.instruction) (sym e)) h.kept;
        opened = h.opened;
      }

  option_valid : (e : Option Item) → OptionOk (ItemFits H) e → OptionOk (Valid z) (option_map (value_made T rs) e)
  option_valid None h = tt
  option_valid (Some i) h = item_valid i h

  frame_ok : (f : FrameItem) → FrameFits H f → FrameOk z (frame_made T rs f)
  frame_ok (lua_item f) h = lua_ok f h
  frame_ok pcall_item h = tt
  frame_ok (xpcall_item i) h = item_valid i h
  frame_ok handler_item h = tt
  frame_ok (closing_item e left) h = (option_valid e h.0, items_valid left h.1)

  frame_waits : (f : FrameItem) → FrameFits H f → FrameWaits z (frame_made T rs f)
  frame_waits (lua_item f) h = lua_waits f h
  frame_waits _ h = tt

  coroutine_ok : (n : ℕ) (r : Record) (c : Coroutine) → slice_get rs n ≡ Some r → coroutine_made T rs r ≡ Some c → CoroutineOk z c
  coroutine_ok n (fresh_record i) c h e = let k = ok.records n (fresh_record i) h in subst (CoroutineOk z) (some_is refl e) (item_valid i k.0, k.1)
  coroutine_ok n (suspended_record fs) c h e =
      let k = ok.records n (suspended_record fs) h in
      let l = map_length (frame_made T rs) fs in
      let d = k.1 in
      subst (CoroutineOk z) (some_is refl e) (record {
        right = record { each = each_made (FrameFits H) (FrameOk z) (frame_made T rs) frame_ok fs k.0; depth = omega (arith, l, d) };
        waits = each_made (FrameFits H) (FrameWaits z) (frame_made T rs) frame_waits fs k.0;
      })
  coroutine_ok n dead_record c h e = subst (CoroutineOk z) (some_is refl e) tt
  coroutine_ok n (failed_record x vs) c h e = let k = ok.records n (failed_record x vs) h in subst (CoroutineOk z) (some_is refl e) (item_valid x k.0, items_valid vs k.1)
  coroutine_ok n _ c h e = absurd (cc)

  -- cells
  registers_there : (co frame register : ℕ) → OpenFits H co frame register → register < registers_of X.coroutines (new_number T rs a_coroutine co) frame
  registers_there co frame register h =
      let c = coroutine_there co (suspended_record h.frames) _ h.is_coroutine refl in
      let g : slice_get (map (frame_made T rs) h.frames) frame ≡ Some (lua (lua_frame_made T rs h.f)) = slice_get-map (frame_made T rs) h.frames frame ∙ ap (option_map (frame_made T rs)) h.is_frame in
      let s : registers_of X.coroutines (new_number T rs a_coroutine co) frame ≡ length (map (value_made T rs) h.f.registers) =
      ap (λ o. elim (bind o frames_of) [ None ↦ 0 | Some frames ↦ registers_in frames frame ]) c ∙ ap (λ o. elim (bind o lua_frame) [ None ↦ 0 | Some f ↦ length f.own.registers ]) g in
      let l = map_length (value_made T rs) h.f.registers in
      let w = h.within in
      omega (arith, s, l, w)

  cell_ok : (n : ℕ) (r : Record) (c : Cell) → slice_get rs n ≡ Some r → cell_made T rs r ≡ Some c → CellOk z X.coroutines c
  cell_ok n (closed_record i) c h e = subst (CellOk z X.coroutines) (some_is refl e) (item_valid i (ok.records n (closed_record i) h))
  cell_ok n (open_record co f r) c h e = subst (CellOk z X.coroutines) (some_is refl e) (registers_there co f r (ok.records n (open_record co f r) h))
  cell_ok n _ c h e = absurd (cc)

  registers_old : (co frame register : ℕ) → register < registers_of V.coroutines co frame → (co < length V.coroutines) × (registers_of X.coroutines co frame ≡ registers_of V.coroutines co frame)
  registers_old co frame register h = go (slice_get V.coroutines co) refl h
    where
      abbrev' : Option Coroutine → ℕ
      abbrev' o = elim (bind o frames_of) [ None ↦ 0 | Some frames ↦ registers_in frames frame ]

      go : (o : Option Coroutine) → slice_get V.coroutines co ≡ o → register < elim (bind o frames_of) [ None ↦ 0 | Some frames ↦ registers_in frames frame ] → (co < length V.coroutines) × (registers_of X.coroutines co frame ≡ registers_of V.coroutines co frame)
      go None e h = absurd (omega (arith, h))
      go (Some c) e h = (slice_get_within V.coroutines co c e, ap (λ o. elim (bind o frames_of) [ None ↦ 0 | Some frames ↦ registers_in frames frame ]) (get_push_old V.coroutines (chosen (coroutine_made T rs) rs) co c e ∙ sym e))

  old_cell : (c : Cell) → CellOk y V.coroutines c → CellOk z X.coroutines c
  old_cell (closed v) h = valid_on y z grows v h
  old_cell (open_at co f r) h = subst (λ n. r < n) (sym (registers_old co f r h).1) h

  -- a new open cell is of a new coroutine
  abbrev NewOpen : ℕ → ℕ → ℕ → ℕ → Type 0
  NewOpen i co f r = (n : ℕ) × (c : ℕ) × (slice_get rs n ≡ Some (open_record c f r)) × (co ≡ new_number T rs a_coroutine c) × (i ≡ length V.cells + rank is_cell rs n)

  new_open : (i m co f r : ℕ) → i ≡ length V.cells + m → slice_get (chosen (cell_made T rs) rs) m ≡ Some (open_at co f r) → NewOpen i co f r
  new_open i m co f r e h =
      let a = chosen_from is_cell (cell_made T rs) (cell_told T rs) rs m (open_at co f r) h in
      let b = open_made T rs a.1 co f r a.3 in
      (a.0, b.0, a.2 ∙ ap Some b.1, b.2, e ∙ ap (λ n. length V.cells + n) a.4)

  new_twice : (i j co f r : ℕ) → NewOpen i co f r → NewOpen j co f r → i ≡ j
  new_twice i j co f r a b =
      let p = ok.records a.0 (open_record a.1 f r) a.2 in
      let q = ok.records b.0 (open_record b.1 f r) b.2 in
      let same : new_number T rs a_coroutine a.1 ≡ new_number T rs a_coroutine b.1 = sym a.3 ∙ b.3 in
      let ranks : rank (is_of a_coroutine) rs a.1 ≡ rank (is_of a_coroutine) rs b.1 = omega (arith, same) in
      let e : a.1 ≡ b.1 = rank_one (is_of a_coroutine) rs a.1 b.1 _ _ p.is_coroutine refl q.is_coroutine refl ranks in
      let n : a.0 ≡ b.0 = ok.one_each a.0 b.0 b.1 f r (subst (λ c. slice_get rs a.0 ≡ Some (open_record c f r)) e a.2) b.2 in
      a.4 ∙ (ap (λ n. length V.cells + rank is_cell rs n) n ∙ sym b.4)

  one_open : OneEach X.cells
  one_open i j co f r h g = ⊎_elim
      (λ s. ⊎_elim (λ t. old.one_each i j co f r s.0 t.0) (λ t. absurd (elsewhere i s.0 (new_open j t.0 co f r t.1 t.2))) (get_split V.cells (chosen (cell_made T rs) rs) j (open_at co f r) g))
      (λ s. ⊎_elim (λ t. absurd (elsewhere j t.0 (new_open i s.0 co f r s.1 s.2))) (λ t. new_twice i j co f r (new_open i s.0 co f r s.1 s.2) (new_open j t.0 co f r t.1 t.2)) (get_split V.cells (chosen (cell_made T rs) rs) j (open_at co f r) g))
      (get_split V.cells (chosen (cell_made T rs) rs) i (open_at co f r) h)
    where
      elsewhere : (i : ℕ) {j : ℕ} → slice_get V.cells i ≡ Some (open_at co f r) → NewOpen j co f r → ⊥
      elsewhere i h b = let u = (registers_old co f r (old.cells i (open_at co f r) h)).0 in let v = b.3 in let k = target.coroutines in omega (arith, u, v, k)

  -- no new coroutine runs or resumed another
  new_apart : (r : Record) (c : Coroutine) → coroutine_made T rs r ≡ Some c → standing c ≡ apart
  new_apart (fresh_record i) c e = subst (λ c. standing c ≡ apart) (some_is refl e) refl
  new_apart (suspended_record fs) c e = subst (λ c. standing c ≡ apart) (some_is refl e) refl
  new_apart dead_record c e = subst (λ c. standing c ≡ apart) (some_is refl e) refl
  new_apart (failed_record x vs) c e = subst (λ c. standing c ≡ apart) (some_is refl e) refl
  new_apart _ c e = absurd (cc)

  get_standing : (cs : List Coroutine) (co : ℕ) (c : Coroutine) → slice_get cs co ≡ Some c → slice_get (map standing cs) co ≡ Some (standing c)
  get_standing cs co c e = slice_get-map standing cs co ∙ ap (option_map standing) e

  -- who runs or resumed another was there
  was_there : (co : ℕ) (s : Standing) → (s ≡ apart → ⊥) → slice_get (map standing X.coroutines) co ≡ Some s → slice_get (map standing V.coroutines) co ≡ Some s
  was_there co s ne h =
      let a = map_get standing X.coroutines co s h in
      ⊎_elim
      (λ t. get_standing V.coroutines co a.0 t.0 ∙ ap Some a.2)
      (λ t. let c = chosen_from (is_of a_coroutine) (coroutine_made T rs) (coroutine_told T rs) rs t.0 a.0 t.2 in absurd (ne (sym a.2 ∙ new_apart c.1 a.0 c.3)))
      (get_split V.coroutines (chosen (coroutine_made T rs) rs) co a.0 a.1)

  -- who is in the chain stands as before
  stands_on : (co : ℕ) (s : Standing) → slice_get (map standing V.coroutines) co ≡ Some s → slice_get (map standing X.coroutines) co ≡ Some s
  stands_on co s h =
      let a = map_get standing V.coroutines co s h in
      get_standing X.coroutines co a.0 (get_push_old V.coroutines (chosen (coroutine_made T rs) rs) co a.0 a.1) ∙ ap Some a.2

  chain_ok : ChainOk V.main (map standing X.coroutines) V.chain
  chain_ok = record {
    first = old.chain.first;
    last_runs = λ i co h e. stands_on co runs (old.chain.last_runs i co h e);
    before = λ i co h e. stands_on co resumed_another (old.chain.before i co h e);
    running_in = λ co h. old.chain.running_in co (was_there co runs (λ e. cc) h);
    normal_in = λ co h. old.chain.normal_in co (was_there co resumed_another (λ e. cc) h);
    once = old.chain.once;
    bound = old.chain.bound;
  }

  pub loaded_solid : Solid H.primitives X
  loaded_solid = record {
    tables = each_append (TableOk z) V.heap.tables (chosen (table_made T rs) rs) (each_on (TableOk y) (TableOk z) (table_on y z grows) V.heap.tables old.tables) (each_chosen (TableOk z) (table_made T rs) rs table_ok);
    functions = each_append (FunctionOk z) V.functions (chosen (function_made T rs) rs) (each_on (FunctionOk y) (FunctionOk z) (function_on y z grows) V.functions old.functions) (each_chosen (FunctionOk z) (function_made T rs) rs function_ok);
    cells = each_append (CellOk z X.coroutines) V.cells (chosen (cell_made T rs) rs) (each_on (CellOk y V.coroutines) (CellOk z X.coroutines) old_cell V.cells old.cells) (each_chosen (CellOk z X.coroutines) (cell_made T rs) rs cell_ok);
    one_each = one_open;
    coroutines = each_append (CoroutineOk z) V.coroutines (chosen (coroutine_made T rs) rs) (each_on (CoroutineOk y) (CoroutineOk z) (coroutine_on y z grows) V.coroutines old.coroutines) (each_chosen (CoroutineOk z) (coroutine_made T rs) rs coroutine_ok);
    chain = chain_ok;
    moving = each_on (Valid y) (Valid z) (valid_on y z grows) V.moving old.moving;
    roots = roots_on y z grows V X old.roots refl refl refl refl refl refl;
  }

pub loaded_sound : LoadedSound
loaded_sound H target old ok = loaded_solid H target old ok
