-- One image that is loaded into two worlds that agree.
use Rattle.std.proofs.Common.{arith, ℕ, zero, suc, ◌+◌, ◌-◌, ◌<◌, ◌≤◌, ◌≡◌, ◌⊎◌, inl, inr, ⊎_elim, List, [], ◌∷◌, ◌++◌, Option, Some, None, refl, subst, sym, ap, ◌∙◌, length, Bool, true, false, cond, map}
use Rattle.std.specs.Prelude.{slice_get, option_map, nat_lt}
use Rattle.std.specs.List.{AllZip}
use Rattle.std.proofs.lemmas.Option.{slice_get_within}
use Rattle.int_core.specs.Value.{Kind, a_table, a_function, a_coroutine, Value, object, nil, bind}
use Rattle.machine_core.specs.World.{Wait, running, for_call, for_iterator, for_value, for_truth, dropped, for_concat, for_close, returning, leaving, Coroutine, World, register_at, frames_of, lua_frame}
use Rattle.machine_alike.specs.Agree.{Pairs, SameNumber, SameCellNumber, Each, Both, SameValue, same_known, same_object, SameValues, SameRow, SameTable, SameFunction, SameWait, same_running, same_for_call, same_for_iterator, same_for_value, same_for_truth, same_dropped, same_for_concat, same_for_close, same_returning, same_leaving, SameFrame, same_lua, same_pcall, same_xpcall, same_handler, same_closing, SameCoroutine, same_fresh, same_suspended, same_dead, same_failed, OneToOne, IsFirst, IsSecond, kept_closed, SameCell, same_place, same_content, Extends}
use Rattle.machine_alike.proofs.Pairwise.{both_on, both_old, both_left, both_right, get_push_old, bind_some}
use Rattle.machine_alike.proofs.Same.{value_on, table_on, function_on, coroutine_on, cell_on, KeepsApart}
use Rattle.image_core.specs.Image.{Item, plain, numbered, permanent, environment, FrameItem, lua_item, pcall_item, xpcall_item, handler_item, closing_item, Record, table_record, function_record, closed_record, open_record, fresh_record, suspended_record, dead_record, failed_record}
use Rattle.image_core.specs.Loading.{kind_in, is_of, is_cell, rank, Target, count_in, new_number, new_cell, numbered_value, value_made, table_number, function_number, row_made, table_made, function_made, wait_made, frame_made, coroutine_made, cell_made, chosen, loaded}
use Rattle.image_load.specs.Both.{shifted, count_made, both_loading, CanBothLoad, BothAlike, BothLoadedAgree}
use Rattle.image_core.proofs.Lists.{get_right, chosen_get, none_some}
use Rattle.image_core.proofs.Making.{table_told, function_told, coroutine_told, cell_told, table_makes, function_makes, coroutine_makes}

lower : (m c : ℕ) → m < c → nat_lt m c ≡ true
lower m c h = search (arith, h)

not_lower : (c r : ℕ) → nat_lt (c + r) c ≡ false
not_lower c r = search arith

shifted_old : (c d k : ℕ) (f : ℕ → Option ℕ) (m j : ℕ) → m < c → f m ≡ Some j → shifted c d k f m ≡ Some j
shifted_old c d k f m j h e = rw (lower m c h) e

shifted_new : (c d k : ℕ) (f : ℕ → Option ℕ) (r : ℕ) → r < k → shifted c d k f (c + r) ≡ Some (d + r)
shifted_new c d k f r h =
    let a : c + r < c + k = omega (arith, h) in
    let b : d + ((c + r) - c) ≡ d + r = omega arith in
    rw (not_lower c r, lower (c + r) (c + k) a) (ap Some b)

shifted_cases : (c d k : ℕ) (f : ℕ → Option ℕ) (m j : ℕ) → shifted c d k f m ≡ Some j → ((m < c) × (f m ≡ Some j)) ⊎ ((r : ℕ) × (m ≡ c + r) × (r < k) × (j ≡ d + r))
shifted_cases c d k f m j h = first (nat_lt m c) refl h
  where
    below : (a b : ℕ) → nat_lt a b ≡ true → a < b
    below a b h = search (arith, h)

    above : (a b : ℕ) → nat_lt a b ≡ false → b ≤ a
    above a b h = search (arith, h)

    first : (b : Bool) → nat_lt m c ≡ b → cond b (f m) (cond (nat_lt m (c + k)) (Some (d + (m - c))) None) ≡ Some j → ((m < c) × (f m ≡ Some j)) ⊎ ((r : ℕ) × (m ≡ c + r) × (r < k) × (j ≡ d + r))
    first true e h = inl (below m c e, h)
    first false e h = second (nat_lt m (c + k)) refl h
      where
        second : (b : Bool) → nat_lt m (c + k) ≡ b → cond b (Some (d + (m - c))) None ≡ Some j → ((m < c) × (f m ≡ Some j)) ⊎ ((r : ℕ) × (m ≡ c + r) × (r < k) × (j ≡ d + r))
        second true g h =
            let x = above m c e in
            let y = below m (c + k) g in
            let z : d + (m - c) ≡ j = cc in
            inr (m - c, omega (arith, x), omega (arith, x, y), sym z)
        second false g h = absurd (none_some j h)

-- what is made of the same records, item by item
zip_chosen : {A B C : Type 0} (R : B → C → Type 0) (f : A → Option B) (g : A → Option C) (xs : List A) → ((n : ℕ) (x : A) → slice_get xs n ≡ Some x → Each R (f x) (g x)) → AllZip R (chosen f xs) (chosen g xs)
zip_chosen R f g [] h = tt
zip_chosen R f g (x ∷ xs) h = go (f x) (g x) (h 0 x refl) (zip_chosen R f g xs (λ n y e. h (suc n) y e))
  where
    go : (o : Option _) (q : Option _) → Each R o q → AllZip R (chosen f xs) (chosen g xs) → AllZip R (elim o [ None ↦ chosen f xs | Some y ↦ y ∷ chosen f xs ]) (elim q [ None ↦ chosen g xs | Some y ↦ y ∷ chosen g xs ])
    go None None r z = z
    go None (Some y) r z = absurd r
    go (Some x) None r z = absurd r
    go (Some x) (Some y) r z = (r, z)

zip_both : {A B : Type 0} (R : A → B → Type 0) (xs : List A) (ys : List B) (i : ℕ) → AllZip R xs ys → i < length xs → Both R (slice_get xs i) (slice_get ys i)
zip_both R [] ys i z h = absurd (omega (arith, h))
zip_both R (x ∷ xs) [] i z h = absurd z
zip_both R (x ∷ xs) (y ∷ ys) zero z h = z.0
zip_both R (x ∷ xs) (y ∷ ys) (suc i) z h = zip_both R xs ys i z.1 (omega (arith, h))

map_zip : {A B C : Type 0} (R : B → C → Type 0) (f : A → B) (g : A → C) (xs : List A) → ((i : ℕ) (x : A) → slice_get xs i ≡ Some x → R (f x) (g x)) → AllZip R (map f xs) (map g xs)
map_zip R f g [] h = tt
map_zip R f g (x ∷ xs) h = (h 0 x refl, map_zip R f g xs (λ i y e. h (suc i) y e))

-- both parts of two longer lists
both_shifted : {A : Type 0} (R S : A → A → Type 0) → ((a b : A) → R a b → S a b) → (f : ℕ → Option ℕ) (xs ys us vs : List A) (c d : ℕ) → c ≡ length xs → d ≡ length ys → ((i j : ℕ) → f i ≡ Some j → Both R (slice_get xs i) (slice_get ys j)) → AllZip S us vs
    → (i j : ℕ) → shifted c d (length us) f i ≡ Some j → Both S (slice_get (xs ++ us) i) (slice_get (ys ++ vs) j)
both_shifted R S on f xs ys us vs c d a b all z i j h = ⊎_elim
    (λ t. both_on R S on _ _ (both_old R xs (xs ++ us) ys (ys ++ vs) i j (get_push_old xs us) (get_push_old ys vs) (all i j t.1)))
    (λ t. subst (λ o. Both S o (slice_get (ys ++ vs) j)) (sym (ap (slice_get (xs ++ us)) (t.1 ∙ ap (λ n. n + t.0) a) ∙ get_right xs us t.0))
    (subst (λ o. Both S (slice_get us t.0) o) (sym (ap (slice_get (ys ++ vs)) (t.3 ∙ ap (λ n. n + t.0) b) ∙ get_right ys vs t.0)) (zip_both S us vs t.0 z t.2)))
    (shifted_cases c d (length us) f i j h)

module _ (p : Pairs) (W X : World) (T U : Target) (rs : List Record) (can : CanBothLoad p W X T U rs) where
  abbrev q : Pairs
  q = both_loading p T U rs

  left_below : (kind : Kind) (i j : ℕ) → SameNumber p kind i j → (i < count_in T kind) × (j < count_in U kind)
  left_below a_table i j h = let l = both_left (SameTable p) _ _ (can.same.tables i j h) in let r = both_right (SameTable p) _ _ (can.same.tables i j h) in (subst (λ n. i < n) (sym can.left.tables) (slice_get_within W.heap.tables i l.0 l.1), subst (λ n. j < n) (sym can.right.tables) (slice_get_within X.heap.tables j r.0 r.1))
  left_below a_function i j h = let l = both_left (SameFunction p) _ _ (can.same.functions i j h) in let r = both_right (SameFunction p) _ _ (can.same.functions i j h) in (subst (λ n. i < n) (sym can.left.functions) (slice_get_within W.functions i l.0 l.1), subst (λ n. j < n) (sym can.right.functions) (slice_get_within X.functions j r.0 r.1))
  left_below a_coroutine i j h = let l = both_left (SameCoroutine p) _ _ (can.same.coroutines i j h) in let r = both_right (SameCoroutine p) _ _ (can.same.coroutines i j h) in (subst (λ n. i < n) (sym can.left.coroutines) (slice_get_within W.coroutines i l.0 l.1), subst (λ n. j < n) (sym can.right.coroutines) (slice_get_within X.coroutines j r.0 r.1))

  cells_below : (i j : ℕ) → SameCellNumber p i j → (i < T.cells) × (j < U.cells)
  cells_below i j h = let l = both_left (SameCell p W.coroutines X.coroutines) _ _ (can.same.cells i j h) in let r = both_right (SameCell p W.coroutines X.coroutines) _ _ (can.same.cells i j h) in (subst (λ n. i < n) (sym can.left.cells) (slice_get_within W.cells i l.0 l.1), subst (λ n. j < n) (sym can.right.cells) (slice_get_within X.cells j r.0 r.1))

  more : Extends p q
  more = record {
    objects = λ kind i j h. shifted_old (count_in T kind) (count_in U kind) (count_made T rs kind) (p.objects kind) i j (left_below kind i j h).0 h;
    cells = λ i j h. shifted_old T.cells U.cells (length (chosen (cell_made T rs) rs)) p.cells i j (cells_below i j h).0 h;
  }

  one : {f : ℕ → Option ℕ} (c d k : ℕ) → ((a b j : ℕ) → f a ≡ Some j → f b ≡ Some j → a ≡ b) → ((a j : ℕ) → f a ≡ Some j → j < d) → (a b j : ℕ) → shifted c d k f a ≡ Some j → shifted c d k f b ≡ Some j → a ≡ b
  one {f = f} c d k single below a b j h g = ⊎_elim
      (λ s. ⊎_elim (λ t. single a b j s.1 t.1) (λ t. let x = below a j s.1 in let y = t.3 in absurd (omega (arith, x, y))) (shifted_cases c d k f b j g))
      (λ s. ⊎_elim (λ t. let x = below b j t.1 in let y = s.3 in absurd (omega (arith, x, y))) (λ t. let x = s.1 in let y = t.1 in let u = s.3 in let v = t.3 in omega (arith, x, y, u, v)) (shifted_cases c d k f b j g))
      (shifted_cases c d k f a j h)

  one_to_one : OneToOne q
  one_to_one = record {
    objects = λ kind a b j h g. one (count_in T kind) (count_in U kind) (count_made T rs kind) (can.same.one_to_one.objects kind) (λ a j e. (left_below kind a j e).1) a b j h g;
    cells = λ a b j h g. one T.cells U.cells (length (chosen (cell_made T rs) rs)) can.same.one_to_one.cells (λ a j e. (cells_below a j e).1) a b j h g;
  }

  -- the number of what is made of a record is below how many are made
  made_below : (kind : Kind) (n : ℕ) (r : Record) → slice_get rs n ≡ Some r → kind_in r ≡ Some kind → rank (is_of kind) rs n < count_made T rs kind
  made_below a_table n r h e =
      let t = table_makes T rs r e in
      slice_get_within _ _ _ (chosen_get (is_of a_table) (table_made T rs) (table_told T rs) rs n r t.0 h t.1)
  made_below a_function n r h e =
      let t = function_makes T rs r e in
      slice_get_within _ _ _ (chosen_get (is_of a_function) (function_made T rs) (function_told T rs) rs n r t.0 h t.1)
  made_below a_coroutine n r h e =
      let t = coroutine_makes T rs r e in
      slice_get_within _ _ _ (chosen_get (is_of a_coroutine) (coroutine_made T rs) (coroutine_told T rs) rs n r t.0 h t.1)

  cell_below : (n : ℕ) (r : Record) → slice_get rs n ≡ Some r → is_cell r ≡ true → rank is_cell rs n < length (chosen (cell_made T rs) rs)
  cell_below n (closed_record i) h e = slice_get_within _ _ _ (chosen_get is_cell (cell_made T rs) (cell_told T rs) rs n (closed_record i) _ h refl)
  cell_below n (open_record a b c) h e = slice_get_within _ _ _ (chosen_get is_cell (cell_made T rs) (cell_told T rs) rs n (open_record a b c) _ h refl)
  cell_below n _ h e = absurd (cc)

  number_both : (kind : Kind) (n : ℕ) (r : Record) → slice_get rs n ≡ Some r → kind_in r ≡ Some kind → SameNumber q kind (new_number T rs kind n) (new_number U rs kind n)
  number_both kind n r h e = shifted_new (count_in T kind) (count_in U kind) (count_made T rs kind) (p.objects kind) (rank (is_of kind) rs n) (made_below kind n r h e)

  cell_number_both : (n : ℕ) (r : Record) → slice_get rs n ≡ Some r → is_cell r ≡ true → SameCellNumber q (new_cell T rs n) (new_cell U rs n)
  cell_number_both n r h e = shifted_new T.cells U.cells (length (chosen (cell_made T rs) rs)) p.cells (rank is_cell rs n) (cell_below n r h e)

  value_both : (i : Item) → SameValue q (value_made T rs i) (value_made U rs i)
  value_both (plain c) = same_known c
  value_both (permanent kind key) = value_on p q more _ _ (can.names kind key)
  value_both environment = same_object a_table T.environment U.environment (more.objects a_table _ _ can.environments)
  value_both (numbered n) = by_kind (bind (slice_get rs n) kind_in) refl
    where
      by_kind : (o : Option Kind) → bind (slice_get rs n) kind_in ≡ o → SameValue q (numbered_value T rs n o) (numbered_value U rs n o)
      by_kind None e = same_known nil
      by_kind (Some kind) e = let r = bind_some (slice_get rs n) kind_in kind e in same_object kind _ _ (number_both kind n r.0 r.1 r.2)

  values_both : (is : List Item) → SameValues q (map (value_made T rs) is) (map (value_made U rs) is)
  values_both is = map_zip (SameValue q) (value_made T rs) (value_made U rs) is (λ i x e. value_both x)

  table_of : (v w : Value) → SameValue q v w → Each (SameNumber q a_table) (table_number v) (table_number w)
  table_of v w (same_known c) = tt
  table_of v w (same_object a_table i j h) = h
  table_of v w (same_object a_function i j h) = tt
  table_of v w (same_object a_coroutine i j h) = tt

  table_both : (n : ℕ) (r : Record) → slice_get rs n ≡ Some r → Each (SameTable q) (table_made T rs r) (table_made U rs r)
  table_both n (table_record rows m) h = record { rows = map_zip (SameRow q) (row_made T rs) (row_made U rs) rows (λ i x e. (value_both x.0, value_both x.1)); metatable = table_of _ _ (value_both m) }
  table_both n _ h = tt

  function_both : (n : ℕ) (r : Record) → slice_get rs n ≡ Some r → Each (SameFunction q) (function_made T rs r) (function_made U rs r)
  function_both n (function_record code cells) h = record { code = refl; cells = map_zip (SameCellNumber q) (new_cell T rs) (new_cell U rs) cells (λ i c e. let r = can.whole.cells n code cells h i c e in cell_number_both c r.0 r.1 r.2) }
  function_both n _ h = tt

  wait_both : (w : Wait Item) → SameWait q (wait_made T rs w) (wait_made U rs w)
  wait_both running = same_running
  wait_both for_call = same_for_call
  wait_both for_iterator = same_for_iterator
  wait_both for_value = same_for_value
  wait_both for_truth = same_for_truth
  wait_both dropped = same_dropped
  wait_both (for_concat n) = same_for_concat n
  wait_both for_close = same_for_close
  wait_both (returning n) = same_returning n
  wait_both (leaving e) = same_leaving _ _ (value_both e)

  option_both : (e : Option Item) → Each (SameValue q) (option_map (value_made T rs) e) (option_map (value_made U rs) e)
  option_both None = tt
  option_both (Some i) = value_both i

  numbers_same : (m : ℕ) (w : Value) → SameValue q (object a_function m) w → SameNumber q a_function m (function_number w)
  numbers_same m w (same_object _ _ j k) = k

  number_of_function : (m : ℕ) (v w : Value) → v ≡ object a_function m → SameValue q v w → SameNumber q a_function (function_number v) (function_number w)
  number_of_function m v w e h = subst (λ n. SameNumber q a_function n (function_number w)) (sym (ap function_number e)) (numbers_same m w (subst (λ v. SameValue q v w) e h))

  frame_both : (n i : ℕ) (frames : List FrameItem) → slice_get rs n ≡ Some (suspended_record frames) → (f : FrameItem) → slice_get frames i ≡ Some f → SameFrame q (frame_made T rs f) (frame_made U rs f)
  frame_both n i frames h (lua_item f) e = let m = can.functions n i frames f h e in same_lua _ _ (record {
    function = number_of_function m.0 _ _ m.1 (value_both f.function);
    wait = wait_both f.wait;
    own = record { pc = refl; registers = values_both f.registers; varargs = values_both f.varargs; pending = refl; opened = refl };
  })
  frame_both n i frames h pcall_item e = same_pcall
  frame_both n i frames h (xpcall_item x) e = same_xpcall _ _ (value_both x)
  frame_both n i frames h handler_item e = same_handler
  frame_both n i frames h (closing_item x left) e = same_closing _ _ _ _ (option_both x) (values_both left)

  coroutine_both : (n : ℕ) (r : Record) → slice_get rs n ≡ Some r → Each (SameCoroutine q) (coroutine_made T rs r) (coroutine_made U rs r)
  coroutine_both n (fresh_record i) h = same_fresh _ _ (value_both i)
  coroutine_both n (suspended_record fs) h = same_suspended _ _ (map_zip (SameFrame q) (frame_made T rs) (frame_made U rs) fs (λ i f e. frame_both n i fs h f e))
  coroutine_both n dead_record h = same_dead
  coroutine_both n (failed_record e vs) h = same_failed _ _ _ _ (value_both e) (values_both vs)
  coroutine_both n _ h = tt

  abbrev Y : World
  Y = loaded T rs W

  abbrev Z : World
  Z = loaded U rs X

  cell_both : (n : ℕ) (r : Record) → slice_get rs n ≡ Some r → Each (SameCell q Y.coroutines Z.coroutines) (cell_made T rs r) (cell_made U rs r)
  cell_both n (closed_record i) h = same_content _ _ _ _ (kept_closed _) (kept_closed _) (value_both i)
  cell_both n (open_record co f g) h = let r = can.whole.coroutines n co f g h in same_place _ _ f g (number_both a_coroutine co r.0 r.1 r.2)
  cell_both n _ h = tt

  -- a register of a coroutine that was there is still there
  register_kept : (cs ds : List Coroutine) (co f r : ℕ) (w : Value) → register_at cs co f r ≡ Some w → (co < length cs) × (register_at (cs ++ ds) co f r ≡ Some w)
  register_kept cs ds co f r w h =
      let a = bind_some (bind (slice_get cs co) frames_of) (λ frames. bind (bind (slice_get frames f) lua_frame) (λ x. slice_get x.own.registers r)) w h in
      let b = bind_some (slice_get cs co) frames_of a.0 a.1 in (
        slice_get_within cs co b.0 b.1,
        ap (λ o. bind (bind o frames_of) (λ frames. bind (bind (slice_get frames f) lua_frame) (λ x. slice_get x.own.registers r))) (get_push_old cs ds co b.0 b.1 ∙ sym b.1) ∙ h,
      )

  left_apart : KeepsApart W.coroutines Y.coroutines (IsFirst p) (IsFirst q)
  left_apart co f r v n at =
      let k = register_kept W.coroutines (chosen (coroutine_made T rs) rs) co f r v at in
      let l = k.0 in
      let e = can.left.coroutines in
      ((λ g. ⊎_elim (λ t. n (g.0, t.1)) (λ t. let m = t.1 in absurd (omega (arith, l, e, m))) (shifted_cases T.coroutines U.coroutines (count_made T rs a_coroutine) (p.objects a_coroutine) co g.0 g.1)), k.1)

  right_apart : KeepsApart X.coroutines Z.coroutines (IsSecond p) (IsSecond q)
  right_apart co f r v n at =
      let k = register_kept X.coroutines (chosen (coroutine_made U rs) rs) co f r v at in
      let l = k.0 in
      let e = can.right.coroutines in
      ((λ g. ⊎_elim (λ t. n (g.0, t.1)) (λ t. let m = t.3 in absurd (omega (arith, l, e, m))) (shifted_cases T.coroutines U.coroutines (count_made T rs a_coroutine) (p.objects a_coroutine) g.0 co g.1)), k.1)

  both_alike : BothAlike p q Y Z
  both_alike = record {
    more = more;
    objects = record {
      one_to_one = one_to_one;
      tables = both_shifted (SameTable p) (SameTable q) (table_on p q more) (p.objects a_table) W.heap.tables X.heap.tables _ _ T.tables U.tables can.left.tables can.right.tables can.same.tables (zip_chosen (SameTable q) (table_made T rs) (table_made U rs) rs table_both);
      functions = both_shifted (SameFunction p) (SameFunction q) (function_on p q more) (p.objects a_function) W.functions X.functions _ _ T.functions U.functions can.left.functions can.right.functions can.same.functions (zip_chosen (SameFunction q) (function_made T rs) (function_made U rs) rs function_both);
      coroutines = both_shifted (SameCoroutine p) (SameCoroutine q) (coroutine_on p q more) (p.objects a_coroutine) W.coroutines X.coroutines _ _ T.coroutines U.coroutines can.left.coroutines can.right.coroutines can.same.coroutines (zip_chosen (SameCoroutine q) (coroutine_made T rs) (coroutine_made U rs) rs coroutine_both);
      cells = both_shifted (SameCell p W.coroutines X.coroutines) (SameCell q Y.coroutines Z.coroutines) (cell_on p q more W.coroutines X.coroutines Y.coroutines Z.coroutines left_apart right_apart) p.cells W.cells X.cells _ _ T.cells U.cells can.left.cells can.right.cells can.same.cells (zip_chosen (SameCell q Y.coroutines Z.coroutines) (cell_made T rs) (cell_made U rs) rs cell_both);
      one_each = can.one_each;
    };
  }

pub both_loaded_agree : BothLoadedAgree
both_loaded_agree p W X T U rs can = both_alike p W X T U rs can
