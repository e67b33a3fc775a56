-- A world whose prelude is as it was made.
use Rattle.std.proofs.Common.{arith, tests, ℕ, zero, suc, ◌+◌, ◌≡◌, ◌<◌, ◌≤◌, Bool, true, false, List, [], ◌∷◌, ◌++◌, Some, refl, sym, subst, ap, ◌∙◌, length, map, take, get_or, Bor}
use Rattle.std.specs.Prelude.{slice_get, drop, not, ◌&&◌, ◌||◌, ◌==◌}
use Rattle.std.specs.List.{list_all, list_any}
use Rattle.std.proofs.lemmas.Bool.{and_parts}
use Rattle.int_core.specs.Value.{a_table, object}
use Rattle.code_core.specs.Prototype.{Prototype}
use Rattle.library_rows.specs.Library.{Library}
use Rattle.library_rows.specs.PreludeText.{prelude_functions, function_keys}
use Rattle.list_laws.proofs.Items.{some_same}
use Rattle.list_laws.proofs.Tests.{both_true, or_left, or_right}
use Rattle.lua_meaning.specs.Libraries.{environment, environment_table}
use Rattle.lua_meaning.specs.Opening.{entries_of, prelude_of}
use Rattle.machine_core.specs.World.{Function, closed}
use Rattle.machine_sound.proofs.Lists.{map_get, get_map}
use Rattle.machine_runs.specs.Opening.{numbers}
use Rattle.table_core.specs.declared.value.CellId.{CellId}
use Rattle.table_core.specs.declared.value.FuncId.{FuncId}
use Rattle.table_core.specs.declared.value.Value.TheVariants.{Table}
use Rattle.lua_heap.specs.declared.world.Cell.{Cell as Kept_cell}
use Rattle.lua_heap.specs.declared.world.Cell.TheVariants.{Closed}
use Rattle.lua_heap.specs.declared.world.Func.{Func}
use Rattle.lua_heap.specs.declared.world.World.{World as Memory}
use Rattle.lua_heap.specs.Codes.{functions}
use Rattle.lua_heap.specs.Plain.{cell, table, function}
use Rattle.lua_stack.proofs.Parts.{take_next, take_whole}
use Rattle.session_images.specs.Prelude.{environment_cell}
use Rattle.lua_saving.specs.Made.{holds_environment, is_environment_cell, is_apart}
use Rattle.lua_saving.specs.Saving.{IsAsMade, IsTouched}
use Rattle.machine_runs.proofs.Opening.{number_count}
use Rattle.session_images.proofs.Keys.{not_both}
use Rattle.lua_opening.proofs.RowByRow.{at_default}

-- numbers

number_at : (from count n : ℕ) → n < count → slice_get (numbers from count) n ≡ Some (from + n)
number_at from zero n h = absurd (omega (arith, h))
number_at from (suc count) zero h = let e : from + zero ≡ from = omega arith in ap Some (sym e)
number_at from (suc count) (suc n) h = let e : suc from + n ≡ from + suc n = omega arith in number_at (suc from) count n (omega (arith, h)) ∙ ap Some e

length_ids : (ids : List FuncId) → length (map (λ (f : FuncId). f.0) ids) ≡ length ids
length_ids [] = refl
length_ids (x ∷ ids) = ap suc (length_ids ids)

number_so : (count n : ℕ) → n < count → slice_get (numbers 0 count) n ≡ Some n
number_so count n h = let e : 0 + n ≡ n = omega arith in number_at 0 count n h ∙ ap Some e

pub numbered_more : (ids : List FuncId) (count n : ℕ) (d : FuncId) → n < length ids → length ids ≡ count → (get_or ids n d).0 ≡ n → take n (map (λ (f : FuncId). f.0) ids) ≡ take n (numbers 0 count)
    → take (n + 1) (map (λ (f : FuncId). f.0) ids) ≡ take (n + 1) (numbers 0 count)
numbered_more ids count n d low same is h =
    let next : n + 1 ≡ suc n = omega arith in
    let at : slice_get (map (λ (f : FuncId). f.0) ids) n ≡ Some n = get_map (λ (f : FuncId). f.0) ids n (get_or ids n d) (at_default ids n d low) ∙ ap Some is in
    subst (λ k. take k (map (λ (f : FuncId). f.0) ids) ≡ take k (numbers 0 count)) (sym next)
    (take_next n (map (λ (f : FuncId). f.0) ids) n at ∙ (ap (λ l. l ++ n ∷ []) h ∙ sym (take_next n (numbers 0 count) n (number_so count n (omega (arith, low, same))))))

pub all_numbered : (ids : List FuncId) (count n : ℕ) → length ids ≡ count → n ≡ length ids → take n (map (λ (f : FuncId). f.0) ids) ≡ take n (numbers 0 count) → map (λ (f : FuncId). f.0) ids ≡ numbers 0 count
all_numbered ids count n same end h =
    sym (take_whole (map (λ (f : FuncId). f.0) ids))
    ∙ (ap (λ k. take k (map (λ (f : FuncId). f.0) ids)) (length_ids ids ∙ sym end)
    ∙ (h ∙ (ap (λ k. take k (numbers 0 count)) (end ∙ (same ∙ sym (number_count 0 count))) ∙ take_whole (numbers 0 count))))

pub not_numbered : (ids : List FuncId) (count n : ℕ) (d : FuncId) → n < length ids → length ids ≡ count → ((get_or ids n d).0 ≡ n → ⊥) → map (λ (f : FuncId). f.0) ids ≡ numbers 0 count → ⊥
not_numbered ids count n d low same other is =
    other (some_same (get_or ids n d).0 n
    (sym (get_map (λ (f : FuncId). f.0) ids n (get_or ids n d) (at_default ids n d low)) ∙ (ap (λ l. slice_get l n) is ∙ number_so count n (omega (arith, low, same)))))

pub count_differs : (ids : List FuncId) (count : ℕ) → (length ids ≡ count → ⊥) → map (λ (f : FuncId). f.0) ids ≡ numbers 0 count → ⊥
count_differs ids count other is = other (sym (length_ids ids) ∙ (ap length is ∙ number_count 0 count))

-- the cell

cell_told : (texts : List (List ℕ)) (c : Kept_cell) → (holds_environment c ≡ true → cell texts c ≡ closed (object a_table environment_table)) × (cell texts c ≡ closed (object a_table environment_table) → holds_environment c ≡ true)
cell_told texts (Closed (Table id)) = (λ h. let is : id.0 ≡ environment_table = grind (arith, tests) in ap (λ n. closed (object a_table n)) is, λ e. let is : id.0 ≡ environment_table = cc in grind (arith, tests))
cell_told texts _ = (λ h. absurd (cc), λ e. absurd (cc))

pub cell_is : (texts : List (List ℕ)) (cs : List Kept_cell) (c : Kept_cell) → slice_get cs environment_cell ≡ Some c
    → (holds_environment c ≡ true → slice_get (map (cell texts) cs) environment_cell ≡ Some (closed (object a_table environment_table)))
    × (slice_get (map (cell texts) cs) environment_cell ≡ Some (closed (object a_table environment_table)) → holds_environment c ≡ true)
cell_is texts cs c e =
    let at : slice_get (map (cell texts) cs) environment_cell ≡ Some (cell texts c) = get_map (cell texts) cs environment_cell c e in
    let t = cell_told texts c in
    (λ h. at ∙ ap Some (t.0 h), λ k. t.1 (some_same (cell texts c) (closed (object a_table environment_table)) (sym at ∙ k)))

-- functions that are apart

all_get : {A : Type 0} (p : A → Bool) (xs : List A) (k n : ℕ) (x : A) → list_all p (drop k xs) ≡ true → k ≤ n → slice_get xs n ≡ Some x → p x ≡ true
all_get p [] k n x h low e = absurd (cc)
all_get p (y ∷ ys) zero zero x h low e = let b = and_parts (p y) (list_all p ys) h in subst (λ z. p z ≡ true) (some_same y x e) b.0
all_get p (y ∷ ys) zero (suc n) x h low e = let b = and_parts (p y) (list_all p ys) h in all_get p ys zero n x b.1 (omega arith) e
all_get p (y ∷ ys) (suc k) zero x h low e = absurd (omega (arith, low))
all_get p (y ∷ ys) (suc k) (suc n) x h low e = all_get p ys k n x h (omega (arith, low)) e

all_so : {A : Type 0} (p : A → Bool) (xs : List A) (k : ℕ) → ((n : ℕ) (x : A) → k ≤ n → slice_get xs n ≡ Some x → p x ≡ true) → list_all p (drop k xs) ≡ true
all_so p [] zero h = refl
all_so p [] (suc k) h = refl
all_so p (y ∷ ys) zero h = both_true (p y) (list_all p ys) (h 0 y (omega arith) refl) (all_so p ys zero (λ n x low e. h (suc n) x (omega arith) e))
all_so p (y ∷ ys) (suc k) h = all_so p ys k (λ n x low e. h (suc n) x (omega (arith, low)) e)

named_so : (cells : List CellId) (i : ℕ) → slice_get (map (λ (c : CellId). c.0) cells) i ≡ Some environment_cell → list_any is_environment_cell cells ≡ true
named_so [] i e = absurd (cc)
named_so (c ∷ cells) zero e = or_left (is_environment_cell c) (list_any is_environment_cell cells) (let is : c.0 ≡ environment_cell = some_same c.0 environment_cell e in subst (λ n. (n == environment_cell) ≡ true) (sym is) refl)
named_so (c ∷ cells) (suc i) e = or_right (is_environment_cell c) (list_any is_environment_cell cells) (named_so cells i e)

not_named : (cells : List CellId) → ((i : ℕ) → slice_get (map (λ (c : CellId). c.0) cells) i ≡ Some environment_cell → ⊥) → not (list_any is_environment_cell cells) ≡ true
not_named [] h = refl
not_named (c ∷ cells) h = by (c.0 == environment_cell) refl (not_named cells (λ i k. h (suc i) k))
  where
    by : (b : Bool) → (c.0 == environment_cell) ≡ b → not (list_any is_environment_cell cells) ≡ true → not (b || list_any is_environment_cell cells) ≡ true
    by true e rest = absurd (h 0 (let is : c.0 ≡ environment_cell = grind (arith, tests) in ap Some is))
    by false e rest = rest

-- from a function on

drop_at : (fs : List Func) (n : ℕ) (f : Func) → slice_get fs n ≡ Some f → list_all is_apart (drop n fs) ≡ (is_apart f && list_all is_apart (drop (suc n) fs))
drop_at [] n f e = absurd (cc)
drop_at (g ∷ fs) zero f e = ap (λ (h : Func). is_apart h && list_all is_apart fs) (some_same g f e)
drop_at (g ∷ fs) (suc n) f e = drop_at fs n f e

pub found_there : (fs : List Func) (n : ℕ) (f : Func) (cells : List CellId) → slice_get fs n ≡ Some f → cells ≡ f.cells.items → list_any is_environment_cell cells ≡ true → list_all is_apart (drop n fs) ≡ false
found_there fs n f cells e is named =
    drop_at fs n f e ∙ ap (λ b. not b && list_all is_apart (drop (suc n) fs)) (ap (list_any is_environment_cell) (sym is) ∙ named)

pub passed_by : (fs : List Func) (n : ℕ) (f : Func) (cells : List CellId) → slice_get fs n ≡ Some f → cells ≡ f.cells.items → list_any is_environment_cell cells ≡ false → list_all is_apart (drop n fs) ≡ list_all is_apart (drop (n + 1) fs)
passed_by fs n f cells e is unnamed =
    let next : suc n ≡ n + 1 = omega arith in
    drop_at fs n f e ∙ (ap (λ b. not b && list_all is_apart (drop (suc n) fs)) (ap (list_any is_environment_cell) (sym is) ∙ unnamed) ∙ ap (λ k. list_all is_apart (drop k fs)) next)

-- the prelude of these functions has as many as there are names
prelude_length : (fs : List (List ℕ × Library)) (ps : List Prototype) → length ps ≡ length fs → length (entries_of fs ps) ≡ length fs
prelude_length [] ps h = refl
prelude_length (f ∷ fs) [] h = absurd (omega (arith, h))
prelude_length (f ∷ fs) (p ∷ ps) h = ap suc (prelude_length fs ps (omega (arith, h)))

length_keys : (ks : List (Bor (List ℕ))) → length (map (λ (k : Bor (List ℕ)). k.now) ks) ≡ length ks
length_keys [] = refl
length_keys (k ∷ ks) = ap suc (length_keys ks)

pub counted : (ks : List (Bor (List ℕ))) → map (λ (k : Bor (List ℕ)). k.now) ks ≡ function_keys → length ks ≡ length prelude_functions
counted ks e = let same : length function_keys ≡ length prelude_functions = refl in sym (length_keys ks) ∙ (ap length e ∙ same)

abbrev pub HasTable : Memory → Type 0
HasTable W = (codes : List Prototype) → length codes ≡ length prelude_functions → slice_get (map (table W.strings) W.tables.objects) environment_table ≡ Some (environment (prelude_of codes))

module _ (W : Memory) (count : ℕ) (size : count ≡ length prelude_functions) where
  pub made : W.prelude.env.0 ≡ environment_table → map (λ (f : FuncId). f.0) W.prelude.funcs.items ≡ numbers 0 count → HasTable W
      → slice_get (map (cell W.strings) W.cells.objects) environment_cell ≡ Some (closed (object a_table environment_table)) → list_all is_apart (drop count W.funcs.objects) ≡ true → IsAsMade W
  made number names has_table has_cell are_apart = record {
    number = number;
    names = names ∙ ap (numbers 0) size;
    untouched = λ fuel codes n. record {
      table = has_table codes n;
      cell = has_cell;
      apart = λ m f past e i k.
          let g = map_get (function (functions W.codes)) W.funcs.objects m f e in
          let low : count ≤ m = (let l = prelude_length prelude_functions codes n in omega (arith, past, l, size)) in
          let own : slice_get (map (λ (c : CellId). c.0) g.0.cells.items) i ≡ Some environment_cell = ap (λ (f : Function). slice_get f.cells i) g.2 ∙ k in
          not_both (list_any is_environment_cell g.0.cells.items) (all_get is_apart W.funcs.objects count m g.0 are_apart low g.1) (named_so g.0.cells.items i own);
    };
  }

  pub other_number : (W.prelude.env.0 ≡ environment_table → ⊥) → IsTouched W
  other_number other = record { none = λ codes n h. other h.known.number }

  pub other_names : (map (λ (f : FuncId). f.0) W.prelude.funcs.items ≡ numbers 0 count → ⊥) → IsTouched W
  other_names other = record { none = λ codes n h. other (h.known.names ∙ ap (numbers 0) (prelude_length prelude_functions codes n ∙ sym size)) }

  pub other_table : ((codes : List Prototype) → length codes ≡ length prelude_functions → slice_get (map (table W.strings) W.tables.objects) environment_table ≡ Some (environment (prelude_of codes)) → ⊥) → IsTouched W
  other_table other = record { none = λ codes n h. other codes n h.untouched.table }

  pub other_cell : (slice_get (map (cell W.strings) W.cells.objects) environment_cell ≡ Some (closed (object a_table environment_table)) → ⊥) → IsTouched W
  other_cell other = record { none = λ codes n h. other h.untouched.cell }

  pub not_apart : list_all is_apart (drop count W.funcs.objects) ≡ false → IsTouched W
  not_apart other = record {
    none = λ codes n h. no_truth (all_so is_apart W.funcs.objects count (λ m f low e. not_named f.cells.items (λ i k.
        h.untouched.apart m (function (functions W.codes) f) (let l = prelude_length prelude_functions codes n in omega (arith, low, l, size)) (get_map (function (functions W.codes)) W.funcs.objects m f e) i k)));
  }
    where
      no_truth : list_all is_apart (drop count W.funcs.objects) ≡ true → ⊥
      no_truth h = cc
