-- What is made of the records of one sort.
use Rattle.std.proofs.Common.{ℕ, ◌+◌, ◌≡◌, List, ◌++◌, Option, Some, refl, sym, ◌∙◌, length, Bool}
use Rattle.std.specs.Prelude.{is_some, slice_get}
use Rattle.int_core.specs.Value.{a_table, a_function, a_coroutine}
use Rattle.int_core.specs.Heap.{Table}
use Rattle.machine_core.specs.World.{Function, open_at, Coroutine}
use Rattle.image_core.specs.Image.{Record, table_record, function_record, closed_record, open_record, fresh_record, suspended_record, dead_record, failed_record}
use Rattle.image_core.specs.Loading.{is_of, is_cell, rank, Target, new_number, table_made, function_made, coroutine_made, cell_made, chosen, kind_in}
use Rattle.image_core.proofs.Lists.{get_right}

-- what is chosen stands after what was there
pub after_old : {A B : Type 0} (f : A → Option B) (is : A → Bool) (records : List A) (ys : List B) (c n m : ℕ) (y : B) → c ≡ length ys → n ≡ m → slice_get (chosen f records) (rank is records m) ≡ Some y → slice_get (ys ++ chosen f records) (c + rank is records n) ≡ Some y
after_old f is records ys c n m y d e h = rw (d, e) (get_right ys (chosen f records) (rank is records m) ∙ h)

-- of a record of a sort, and of no other, an object of that sort is made
pub table_told : (T : Target) (records : List Record) (r : Record) → is_of a_table r ≡ is_some (table_made T records r)
table_told T records (table_record rows m) = refl
table_told T records _ = refl

pub function_told : (T : Target) (records : List Record) (r : Record) → is_of a_function r ≡ is_some (function_made T records r)
function_told T records (function_record c cs) = refl
function_told T records _ = refl

pub coroutine_told : (T : Target) (records : List Record) (r : Record) → is_of a_coroutine r ≡ is_some (coroutine_made T records r)
coroutine_told T records (fresh_record i) = refl
coroutine_told T records _ = refl

pub cell_told : (T : Target) (records : List Record) (r : Record) → is_cell r ≡ is_some (cell_made T records r)
cell_told T records (closed_record i) = refl
cell_told T records _ = refl

-- and each record of a sort makes an object of it
pub table_makes : (T : Target) (records : List Record) (r : Record) → kind_in r ≡ Some a_table → (t : Table) × (table_made T records r ≡ Some t)
table_makes T records (table_record rows m) h = (_, refl)
table_makes T records _ h = absurd (cc)

pub function_makes : (T : Target) (records : List Record) (r : Record) → kind_in r ≡ Some a_function → (t : Function) × (function_made T records r ≡ Some t)
function_makes T records (function_record c cs) h = (_, refl)
function_makes T records _ h = absurd (cc)

pub coroutine_makes : (T : Target) (records : List Record) (r : Record) → kind_in r ≡ Some a_coroutine → (t : Coroutine) × (coroutine_made T records r ≡ Some t)
coroutine_makes T records (fresh_record i) h = (_, refl)
coroutine_makes T records (suspended_record fs) h = (_, refl)
coroutine_makes T records dead_record h = (_, refl)
coroutine_makes T records (failed_record e vs) h = (_, refl)
coroutine_makes T records _ h = absurd (cc)

-- what a made cell that is open was made of
pub open_made : (T : Target) (records : List Record) (r : Record) (co f n : ℕ) → cell_made T records r ≡ Some (open_at co f n) → (c : ℕ) × (r ≡ open_record c f n) × (co ≡ new_number T records a_coroutine c)
open_made T records (open_record a b c) co f n h =
    let u : new_number T records a_coroutine a ≡ co = cc in
    let v : b ≡ f = cc in
    let w : c ≡ n = cc in
    (a, rw (v, w) refl, sym u)
open_made T records _ co f n h = absurd (cc)
