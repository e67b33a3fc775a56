-- What is read and then loaded.
use Rattle.std.proofs.Common.{◌≡◌, ℕ, List, map, sym, subst}
use Rattle.std.specs.Prelude.{Ok}
use Rattle.machine_core.specs.World.{World}
use Rattle.machine_sound.specs.Sound.{Each, sizes, Valid, Solid}
use Rattle.image_core.specs.Image.{Perm}
use Rattle.image_core.specs.Loading.{loaded}
use Rattle.image_records.specs.Views.{image_read}
use Rattle.image_records.specs.declared.record.Image.{Image as KeptImage}
use Rattle.table_core.specs.declared.value.Value.{Value as Kept}
use Rattle.lua_heap.specs.declared.world.Mark.{Mark}
use Rattle.lua_heap.specs.declared.world.World.{World as Memory}
use Rattle.lua_heap.specs.Opening.{mark_of, IsMark, Releases}
use Rattle.lua_heap.specs.Plain.{plain}
use Rattle.lua_heap.specs.Reading.{value}
use Rattle.move_laws.specs.Memory.{InOrder}
use Rattle.eris_read.specs.Loaded.{CanComeBack, LoadsImage}
use Rattle.image_saved.specs.Permanents.{target}
use Rattle.eris_read.specs.Unpersist.{CanRead, Loads, Reads, IsAsBefore}
use Rattle.eris_read.proofs.CameBack.{is_mark, as_before}
use Rattle.eris_read.proofs.Given.{solid_loaded, roots_loaded}

pub loads_read : (old new : Memory) (perms : List Perm) (roots : ℕ) (bytes : List ℕ) (I : KeptImage) (values : List Kept) → Reads old perms roots bytes (Ok I) → LoadsImage old new perms (image_read I) values → InOrder new
    → Loads old new perms roots bytes values
loads_read old new perms roots bytes I values h l order = record {
  image = image_read I;
  met = h.0;
  is_read = h.1;
  world = l.world;
  roots_made = l.roots_made;
  rest = l.rest;
  order = order;
  solid = λ primitives s t. subst (Solid primitives) (sym (l.world 0)) (solid_loaded primitives (plain old 0) perms (image_read I) roots h.0 bytes s t h.1);
  roots_there = λ primitives s t.
      subst (λ (V : World). Each (Valid (sizes primitives V)) (map (value new.strings) values)) (sym (l.world 0))
      (subst (Each (Valid (sizes primitives (loaded (target (plain old 0) perms) (image_read I).records (plain old 0))))) (sym l.roots_made) (roots_loaded primitives (plain old 0) perms (image_read I) roots h.0 bytes s t h.1));
}

pub marked : (old now : Memory) (mark : Mark) → mark ≡ mark_of old → CanComeBack old now → IsMark now mark
marked old now mark e c = subst (IsMark now) (sym e) (is_mark old now c)

pub back : (old now new : Memory) (mark : Mark) (perms : List Perm) → mark ≡ mark_of old → CanComeBack old now → Releases now new mark → CanRead old perms → IsAsBefore old new
back old now new mark perms e c r can = as_before old now new c (subst (Releases now new) e r) can.order
