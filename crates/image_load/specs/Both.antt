-- One image that is loaded into two worlds that agree.
use Rattle.std.specs.Prelude.{ℕ, ◌+◌, ◌-◌, ◌≡◌, true, cond, List, length, Option, Some, None, nat_lt, slice_get}
use Rattle.int_core.specs.Value.{object, Kind, a_table, a_function, a_coroutine}
use Rattle.machine_core.specs.World.{World, OneEach}
use Rattle.machine_alike.specs.Agree.{Pairs, SameNumber, SameValue, objects_of, SameObjects, Extends}
use Rattle.image_core.specs.Image.{PermKey, LuaFrameItem, FrameItem, lua_item, Record, function_record, open_record, suspended_record}
use Rattle.image_core.specs.Loading.{kind_in, is_cell, Target, value_made, count_in, table_made, function_made, coroutine_made, cell_made, chosen, loaded}

-- below c as f says, and the k numbers from c on with those from d on
abbrev pub shifted : (c d k : ℕ) → (ℕ → Option ℕ) → ℕ → Option ℕ
shifted c d k f m = cond (nat_lt m c) (f m) (cond (nat_lt m (c + k)) (Some (d + (m - c))) None)

abbrev pub count_made : Target → List Record → Kind → ℕ
count_made T rs a_table = length (chosen (table_made T rs) rs)
count_made T rs a_function = length (chosen (function_made T rs) rs)
count_made T rs a_coroutine = length (chosen (coroutine_made T rs) rs)

-- what is made of one record is paired
abbrev pub both_loading : Pairs → Target → Target → List Record → Pairs
both_loading p T U rs = record {
  objects = λ kind. shifted (count_in T kind) (count_in U kind) (count_made T rs kind) (p.objects kind);
  cells = shifted T.cells U.cells (length (chosen (cell_made T rs) rs)) p.cells;
}

pub record Counts (T : Target) (V : World) : Type 0 where
  pub tables : T.tables ≡ length V.heap.tables
  pub functions : T.functions ≡ length V.functions
  pub coroutines : T.coroutines ≡ length V.coroutines
  pub cells : T.cells ≡ length V.cells

-- a function's cells are cells, and the coroutine of an open cell is one; and the function of a frame is one (`functions` below)
pub record AreWhole (rs : List Record) : Type 0 where
  pub cells : (n : ℕ) (code : _) (cells : List ℕ) → slice_get rs n ≡ Some (function_record code cells) → (i c : ℕ) → slice_get cells i ≡ Some c → (r : Record) × (slice_get rs c ≡ Some r) × (is_cell r ≡ true)
  pub coroutines : (n co frame register : ℕ) → slice_get rs n ≡ Some (open_record co frame register) → (r : Record) × (slice_get rs co ≡ Some r) × (kind_in r ≡ Some a_coroutine)

pub record CanBothLoad (p : Pairs) (W X : World) (T U : Target) (rs : List Record) : Type 0 where
  pub same : SameObjects p (objects_of W) (objects_of X)
  pub left : Counts T W
  pub right : Counts U X
  pub names : (kind : Kind) (key : PermKey) → SameValue p (T.named kind key) (U.named kind key)
  pub environments : SameNumber p a_table T.environment U.environment
  pub whole : AreWhole rs
  pub functions : (n i : ℕ) (frames : List FrameItem) (f : LuaFrameItem) → slice_get rs n ≡ Some (suspended_record frames) → slice_get frames i ≡ Some (lua_item f) → (m : ℕ) × (value_made T rs f.function ≡ object a_function m)
  -- which soundness of the image gives
  pub one_each : OneEach (loaded T rs W).cells × OneEach (loaded U rs X).cells

pub record BothAlike (p q : Pairs) (W X : World) : Type 0 where
  pub more : Extends p q
  pub objects : SameObjects q (objects_of W) (objects_of X)

abbrev pub BothLoadedAgree : Type 0
BothLoadedAgree = (p : Pairs) (W X : World) (T U : Target) (rs : List Record) → CanBothLoad p W X T U rs → BothAlike p (both_loading p T U rs) (loaded T rs W) (loaded U rs X)
