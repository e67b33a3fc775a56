-- Permanents of a world in memory, by their keys.
use Rattle.std.specs.Prelude.{ℕ, ◌≡◌, ◌<◌, ◌^◌, List, Some, length, slice_get}
use Rattle.lua_heap.specs.declared.world.World.{World as Memory}
use Rattle.lua_heap.specs.declared.world.Func.{Func}
use Rattle.lua_heap.specs.Codes.{functions}
use Rattle.lua_heap.specs.Plain.{plain}
use Rattle.image_core.specs.Image.{PermKey, Perm}
use Rattle.image_saved.specs.Permanents.{object_named}
use Rattle.graph_core.specs.declared.permanents.Permanent.{Permanent}
use Rattle.graph_core.specs.declared.permanents.PermanentSort.{PermanentSort}
use Rattle.graph_core.specs.declared.permanents.PermanentSort.TheVariants as sort
use Rattle.image_records.specs.declared.known.Known.{Known}
use Rattle.image_records.specs.Names.{environment_of, perms_of, code_of as code_kept}
use Rattle.eris_read.specs.Unpersist.{code_named}

-- a function that is there, with code that is there
pub record IsFunction (W : Memory) (n : ℕ) : Type 0 where
  pub function : Func
  pub there : slice_get W.funcs.objects n ≡ Some function
  pub code : function.code.0 < length (functions W.codes)

abbrev pub IsObject : Memory → PermanentSort → ℕ → Type 0
IsObject W sort.Primitive n = n < 2 ^ 16
IsObject W sort.Func n = IsFunction W n
IsObject W _ n = Unit {0}

abbrev pub IsPermanent : Memory → Permanent → Type 0
IsPermanent W p = IsObject W p.sort p.number

-- a primitive's number has 16 bits
abbrev pub IsSmallNumber : PermanentSort → ℕ → Type 0
IsSmallNumber sort.Primitive n = n < 2 ^ 16
IsSmallNumber _ n = Unit {0}

abbrev pub IsSmall : Permanent → Type 0
IsSmall p = IsSmallNumber p.sort p.number

-- each key stands for what it stands for among the permanents, whatever their code is
pub record IsNamed (perms : List Perm) (known : Known) : Type 0 where
  pub objects : (name : PermKey) → object_named (perms_of known) name ≡ object_named perms name

-- each key stands for what it stands for among the permanents
pub record IsKnown (W : Memory) (perms : List Perm) (known : Known) : Type 0 where
  pub objects : (name : PermKey) → object_named (perms_of known) name ≡ object_named perms name
  pub codes : (name : PermKey) → code_kept known name ≡ code_named (plain W 0) perms name
  pub environment : (environment_of known).0 ≡ W.prelude.env.0
