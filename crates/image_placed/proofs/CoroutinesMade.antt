-- The coroutine of a record.
use Rattle.std.proofs.Common.{◌≡◌, ℕ, List, [], ◌∷◌, Option, Some, None, map, refl, ap, ap₂}
use Rattle.machine_core.specs.World.{fresh, suspended, failed}
use Rattle.code_core.specs.Prototype.{Prototype}
use Rattle.image_core.specs.Image.{Item, FrameItem, table_record, function_record, closed_record, open_record, fresh_record, suspended_record, dead_record, failed_record}
use Rattle.std.specs.declared.vec.Vec.{Vec}
use Rattle.std.specs.declared.alloc.Global.{Global}
use Rattle.table_core.specs.declared.value.CoroId.{CoroId}
use Rattle.table_core.specs.declared.value.Value.{Value as Kept}
use Rattle.lua_stack.specs.Frames.{KeptStack}
use Rattle.lua_heap.specs.declared.world.Coro.TheVariants.{Fresh, Suspended, Dead, Failed}
use Rattle.lua_heap.specs.declared.world.World.{World as Memory}
use Rattle.image_made.specs.declared.making.Maker.{Maker}
use Rattle.image_made.specs.declared.stack.Opening.{Opening}
use Rattle.image_made.specs.Making.{Makes, MakesAll}
use Rattle.image_made.specs.Stacks.{MakesStack, MakesCoroutine}
use Rattle.image_placed.specs.Placing.{PlacesObjects}
use Rattle.image_placed.proofs.ObjectsPlaced.{nothing_placed}

module _ (maker : Maker) (texts : List (List ℕ)) (own : CoroId) (os : List Opening) (from : ℕ) where
  pub fresh_made : (i : Item) (v : Kept) → Makes maker texts i v → MakesCoroutine maker texts own os from from (fresh_record i) (Some (Fresh v))
  fresh_made i v m = record { reads = λ T rs k. ap (λ x. Some (fresh x)) (m.is T rs k); lists = refl }

  pub suspended_made : (to : ℕ) (fs : List FrameItem) (s : KeptStack) → MakesStack maker texts own os from to fs s → MakesCoroutine maker texts own os from to (suspended_record fs) (Some (Suspended s))
  suspended_made to fs s m = record { reads = λ T rs k. ap (λ x. Some (suspended x)) (m.frames T rs k); lists = m.lists }

  pub dead_made : MakesCoroutine maker texts own os from from dead_record (Some Dead)
  dead_made = record { reads = λ T rs k. refl; lists = refl }

  pub failed_made : (i : Item) (v : Kept) (is : List Item) (vs : Vec Kept Global) → Makes maker texts i v → MakesAll maker texts is vs.items → MakesCoroutine maker texts own os from from (failed_record i is) (Some (Failed v vs))
  failed_made i v is vs m n = record { reads = λ T rs k. ap₂ (λ x xs. Some (failed x xs)) (m.is T rs k) (n.is T rs k); lists = refl }

  pub none_of_table : (rows : List (Item × Item)) (m : Item) → MakesCoroutine maker texts own os from from (table_record rows m) None
  none_of_table rows m = record { reads = λ T rs k. refl; lists = refl }

  pub none_of_function : (p : Prototype) (cells : List ℕ) → MakesCoroutine maker texts own os from from (function_record p cells) None
  none_of_function p cells = record { reads = λ T rs k. refl; lists = refl }

  pub none_of_closed : (i : Item) → MakesCoroutine maker texts own os from from (closed_record i) None
  none_of_closed i = record { reads = λ T rs k. refl; lists = refl }

  pub none_of_open : (n frame register : ℕ) → MakesCoroutine maker texts own os from from (open_record n frame register) None
  none_of_open n frame register = record { reads = λ T rs k. refl; lists = refl }

module _ (maker : Maker) (W : Memory) where
  pub fresh_placed : (i : Item) → PlacesObjects maker (fresh_record i ∷ []) W W
  fresh_placed i = nothing_placed maker W (fresh_record i) (λ T rs. refl) (λ T rs. refl) (λ T rs. refl)

  pub suspended_placed : (fs : List FrameItem) → PlacesObjects maker (suspended_record fs ∷ []) W W
  suspended_placed fs = nothing_placed maker W (suspended_record fs) (λ T rs. refl) (λ T rs. refl) (λ T rs. refl)

  pub dead_placed : PlacesObjects maker (dead_record ∷ []) W W
  dead_placed = nothing_placed maker W dead_record (λ T rs. refl) (λ T rs. refl) (λ T rs. refl)

  pub failed_placed : (i : Item) (is : List Item) → PlacesObjects maker (failed_record i is ∷ []) W W
  failed_placed i is = nothing_placed maker W (failed_record i is) (λ T rs. refl) (λ T rs. refl) (λ T rs. refl)
